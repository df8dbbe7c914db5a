-- What the operator does at the console (Small Computer Handbook; breaks, runs of many steps and the characters that are kept are
-- this project's profile).
use Rattle.std.specs.Prelude.{◌≡◌, ◌≤◌, ◌++◌, ℕ, true, false, slice_index, Bool, List, []}
use Rattle.cpu8.specs.Go.{IsGo, after, characters_of, is_break}
use Rattle.cpu8.specs.State as cpu
use Rattle.cpu8.specs.State.{after_start, switches_set, after_deposit, key_struck, printer_done, next_cell}
use Rattle.cpu8.specs.declared.outcomes.Why as end
use Rattle.cpu8.specs.declared.outcomes.Why.TheVariants as ended
use Rattle.debug8.specs.Breaks.{break_set, break_cleared, count_breaks}
use Rattle.debug8.specs.Snapshot.{snapshot}
use Rattle.script8.specs.Lines.{are_steps}
use Rattle.script8.specs.declared.entries.ConsoleEntry.{ConsoleEntry}
use Rattle.script8.specs.declared.entries.ConsoleEntry.TheVariants as console
use Rattle.script8.specs.declared.replies.Reply.{Reply}
use Rattle.script8.specs.declared.replies.Reply.TheVariants.{Line, Report}
use Rattle.script8.specs.declared.replies.Report.TheVariants as report
use Rattle.script8.specs.declared.replies.LineReply.TheVariants as line
use Rattle.script8.specs.declared.replies.StepEnd.{StepEnd}
use Rattle.script8.specs.declared.replies.StepEnd.TheVariants.{Halt, Unassigned, Break, Limit}
use Rattle.system_session.specs.State.{Console}

-- STEP, GO and RUN are within the limits where they ask for 1 to 1,000,000 steps; of no other entry is there a limit
abbrev pub is_within_limits : ConsoleEntry → Bool
is_within_limits (console.Step n) = are_steps n
is_within_limits (console.Go n) = are_steps n
is_within_limits (console.Run cell n) = are_steps n
is_within_limits entry = true

-- what takes memory: steps may print characters, and reports are texts
abbrev pub TakesMemory : ConsoleEntry → Type 0
TakesMemory (console.Step n) = Unit {0}
TakesMemory (console.Go n) = Unit {0}
TakesMemory (console.Run cell n) = Unit {0}
TakesMemory console.Registers = Unit {0}
TakesMemory console.Printed = Unit {0}
TakesMemory entry = ⊥

-- why steps ended, as a reply says it
abbrev pub why_of : end.Why → StepEnd
why_of ended.Halt = Halt
why_of ended.Unassigned = Unassigned
why_of ended.Break = Break
why_of ended.Limit = Limit

-- The processor went on from a state by so many steps, of at most n: the least number after which there is a reason to stop. What
-- they printed is kept; the cell is that of the next instruction.
pub record HasGone (old : Console) (quick : Bool) (breaks : List Bool) (from : cpu.State)
    (n steps : ℕ) (why : StepEnd) (cell : ℕ) (new : Console) : Type 0 where
  pub reason : end.Why
  pub go : IsGo quick breaks from n steps reason
  pub why_is : why ≡ why_of reason
  pub cell_is : cell ≡ next_cell new.machine
  pub others : new
      ≡ record old { machine = after quick steps from; printed = old.printed ++ characters_of quick steps from }

-- What the console replies to an entry, and how it then stands.
abbrev pub ConsoleReplies : Console → ConsoleEntry → Reply → Console → Type 0
ConsoleReplies old (console.Start cell) (Line (line.Started at)) new =
    (at ≡ cell) × (new ≡ record old { machine = after_start old.machine cell })
ConsoleReplies old (console.Step n) (Line (line.Steps steps why at)) new =
    HasGone old false [] old.machine n steps why at new
ConsoleReplies old (console.Go n) (Line (line.Steps steps why at)) new =
    HasGone old false old.breaks old.machine n steps why at new
ConsoleReplies old (console.Run cell n) (Line (line.Steps steps why at)) new =
    HasGone old true old.breaks (after_start old.machine cell) n steps why at new
ConsoleReplies old (console.Key character) (Line (line.Key struck)) new =
    (struck ≡ character) × (new ≡ record old { machine = key_struck old.machine character })
ConsoleReplies old console.Done (Line line.Done) new = new ≡ record old { machine = printer_done old.machine }
ConsoleReplies old (console.Switches word) (Line (line.Switches set)) new =
    (set ≡ word) × (new ≡ record old { machine = switches_set old.machine word })
ConsoleReplies old (console.Examine cell) (Line (line.Core at word)) new =
    (at ≡ cell) × (word ≡ slice_index old.machine.core cell) × (new ≡ old)
ConsoleReplies old (console.Deposit cell word) (Line (line.Core at given)) new =
    (at ≡ cell) × (given ≡ word) × (new ≡ record old { machine = after_deposit old.machine cell word })
ConsoleReplies old (console.Break cell true) (Line (line.Break at is_on)) new =
    (at ≡ cell) × (is_on ≡ true) × (count_breaks new.breaks ≤ 64)
    × (new ≡ record old { breaks = break_set old.breaks cell })
ConsoleReplies old (console.Break cell false) (Line (line.Break at is_on)) new =
    (at ≡ cell) × (is_on ≡ false) × (new ≡ record old { breaks = break_cleared old.breaks cell })
ConsoleReplies old console.Registers (Report (report.Registers text)) new = (text ≡ snapshot old.machine) × (new ≡ old)
ConsoleReplies old console.Printed (Report (report.Printed characters)) new = (characters ≡ old.printed) × (new ≡ old)
ConsoleReplies old entry reply new = ⊥

-- a break more than 64 would be set
abbrev pub IsBreakTooMany : Console → ConsoleEntry → Type 0
IsBreakTooMany old (console.Break cell true) =
    (is_break old.breaks cell ≡ false) × (count_breaks old.breaks ≡ 64)
IsBreakTooMany old entry = ⊥
