-- What the steps of a run of a script do, for private clauses.
use Rattle.std.specs.Prelude.{◌≡◌, ◌≢◌, ℕ, Bool, true, false, Result, Ok, Err, Option, None, List, [], ◌++◌, drop, ◌<◌, ◌≤◌, ◌⊎◌, length}
use Rattle.std.specs.Io.KnownBytes.{Appends, Consumes}
use Rattle.script8.specs.Items.{script_of, whole_of, LeadsWith, GivesItems, HasNoItem}
use Rattle.script8.specs.Replies.{IsShort}
use Rattle.script8.specs.declared.entries.Entry.TheVariants.{Jobs}
use Rattle.script8.specs.declared.entries.JobEntry.TheVariants.{Turn}
use Rattle.refusals.specs.declared.faults.SessionFault.{SessionFault}
use Rattle.refusals.specs.declared.faults.SessionFault.TheVariants as fault
use Rattle.script8.specs.declared.items.Item.{Item}
use Rattle.system_session.specs.Script.{AreDue, IsPrefixOf, is_working}
use Rattle.system_session.specs.ShownAnswers.{ShownAnswer, ShowsFault, ShowsItems, ShowsOne, ShowsPrefix, ShowsTurn, ShowsTurns, all_shown, lines_of}
use Rattle.system_session.specs.State.{State}
use Rattle.system_session.specs.System.{Answer, MayAnswer}
use Rattle.script8.specs.Reading.{IsReadWithin}
use Rattle.system_session.specs.Reading.{IsTaken}
use Rattle.system_session.specs.declared.endings.Ending.{Ending}
use Rattle.system_session.specs.declared.endings.Ending.TheVariants.{Reader, Writer, Memory}
use Rattle.system_session.specs.declared.pending.Begun.{Begun}
use Rattle.system_session.specs.declared.pending.Begun.TheVariants.{Ran, Waiting}

-- ## The watcher

-- what is known of a watcher: the bytes that it printed, and which answers it may have been shown
pub record Watch : Type 1 where
  pub printed : Option (List ℕ)
  pub was_shown : List ShownAnswer → Type 0

abbrev pub watch : {K : Type 0} → (K → Option (List ℕ)) → (K → List ShownAnswer → K → Type 0) → K → K → Watch
watch contents was_shown first now = record { printed = contents now; was_shown = λ shown. was_shown first shown now }

-- it was shown these answers more
abbrev pub WasShown : Watch → Watch → List ShownAnswer → Type 0
WasShown w w' shown = (before : List ShownAnswer) → w.was_shown before → w'.was_shown (before ++ shown)

-- it was shown these answers more, and printed their lines
pub record Tells (w w' : Watch) (shown : List ShownAnswer) : Type 0 where
  pub printed : Appends w.printed w'.printed (lines_of shown)
  pub was_shown : WasShown w w' shown

-- what is shown of all the items is written, and then the last answers
pub record WritesShown (old : State) (items : List Item) (new : State) (w w' : Watch) (last : List ShownAnswer) : Type 0 where
  pub groups : List (List ShownAnswer)
  pub told : ShowsItems old items groups new
  pub written : Tells w w' (all_shown groups ++ last)

-- what is shown of a prefix of the items is written, and then the last answers
abbrev pub WritesPart : State → List Item → State → Watch → Watch → List ShownAnswer → Type 0
WritesPart old items new w w' last = (shown : List ShownAnswer) × ShowsPrefix old items new shown × Tells w w' (shown ++ last)

-- it is shown, but the last line may be unwritten
abbrev pub BreaksOff : State → List Item → State → Watch → Watch → Type 0
BreaksOff old items new w w' = (shown : List ShownAnswer) × ShowsPrefix old items new shown × WasShown w w' shown

-- An answer is shown and its lines are printed, or the writer failed. Where memory was wanted, it has several lines, and is not shown.
abbrev pub IsTold : Watch → Watch → Answer → List ShownAnswer → Result (Unit {0}) Ending → Type 0
IsTold w w' answer shown (Ok nothing) = Tells w w' shown
IsTold w w' answer shown (Err Memory) = Tells w w' [] × (IsShort answer → ⊥)
IsTold w w' answer shown (Err Writer) = WasShown w w' shown
IsTold w w' answer shown (Err Reader) = ⊥

-- ## The steps

-- The result of running items: the lines of the answers to all of them are written. Where want of memory ends the run, they
-- are those of a prefix of them. Where the writer failed, the last line may be unwritten.
abbrev pub RunsItems : List Item → State → State → Watch → Watch → Result (Unit {0}) Ending → Type 0
RunsItems items old new w w' (Ok nothing) = WritesShown old items new w w' []
RunsItems items old new w w' (Err Memory) = WritesPart old items new w w' []
RunsItems items old new w w' (Err Writer) = BreaksOff old items new w w'
RunsItems items old new w w' (Err Reader) = ⊥

-- The result of running a turn of the lowest job; the line of a turn that leaves the job is not shown.
abbrev pub RunsTurn : ℕ → State → State → Watch → Watch → Result (Unit {0}) Ending → Type 0
RunsTurn number old new w w' (Ok nothing) =
    (answer : Answer) × MayAnswer old (Jobs (Turn number)) answer new × (answer ≢ Err fault.Memory)
    × (shown : List ShownAnswer) × ShowsTurn (is_working answer) number answer new shown × Tells w w' shown
RunsTurn number old new w w' (Err Memory) = (new ≡ old) × Tells w w' []
RunsTurn number old new w w' (Err Writer) =
    (answer : Answer) × MayAnswer old (Jobs (Turn number)) answer new × (answer ≢ Err fault.Memory)
    × (shown : List ShownAnswer) × ShowsTurn (is_working answer) number answer new shown × WasShown w w' shown
RunsTurn number old new w w' (Err Reader) = ⊥

-- turns of the lowest job were taken, and the lines of their ends are written
abbrev pub TakesTurns : State → State → Watch → Watch → Type 0
TakesTurns old new w w' = (turns : List (ℕ × Answer)) × (ends : List (List ShownAnswer)) × ShowsTurns old turns ends new × Tells w w' (all_shown ends)

-- the items of a text that is a script's end, or the whole ones of one that goes on
abbrev pub items_in : List ℕ → Bool → List Item
items_in text true = script_of text
items_in text false = whole_of text

-- a text begins with these items, and the rest stands after them; where it goes on, whatever follows
abbrev pub StartsWithItems : List ℕ → Bool → List Item → List ℕ → Type 0
StartsWithItems text true prefix rest = script_of text ≡ prefix ++ script_of rest
StartsWithItems text false prefix rest = LeadsWith text prefix rest

-- The result of running the first item of a text, where it is a script's end or goes on. So many bytes of it are run; or no item,
-- or no whole one, is there, and so many lines are wanted.
abbrev pub RunsNext : List ℕ → Bool → State → State → Watch → Watch → Result Begun Ending → Type 0
RunsNext text is_end old new w w' (Ok (Waiting lines)) =
    HasNoItem text is_end lines × (new ≡ old) × Tells w w' []
RunsNext text is_end old new w w' (Ok (Ran bytes)) =
    (items : List Item) × GivesItems text is_end items bytes × WritesShown old items new w w' []
RunsNext text is_end old new w w' (Err Memory) = WritesPart old (items_in text is_end) new w w' []
RunsNext text is_end old new w w' (Err Writer) =
    BreaksOff old (items_in text is_end) new w w'
RunsNext text is_end old new w w' (Err Reader) = ⊥

-- so many bytes stand at the prefix of a text, or it has no item, or no whole one
abbrev pub IsBegun : List ℕ → Bool → Begun → Type 0
IsBegun text is_end (Ran bytes) = (0 < bytes) × (bytes ≤ length text)
IsBegun text is_end (Waiting lines) = HasNoItem text is_end lines

-- The result of running a text, where it is a script's end or goes on. So many bytes of it are run, no item, or no whole one, is
-- left, and so many lines are wanted.
abbrev pub RunsPrefix : List ℕ → Bool → State → State → Watch → Watch → Result (ℕ × ℕ) Ending → Type 0
RunsPrefix text is_end old new w w' (Ok (bytes, lines)) =
    (prefix : List Item) × StartsWithItems text is_end prefix (drop bytes text) × HasNoItem (drop bytes text) is_end lines
    × WritesShown old prefix new w w' []
RunsPrefix text is_end old new w w' (Err Memory) = WritesPart old (items_in text is_end) new w w' []
RunsPrefix text is_end old new w w' (Err Writer) =
    BreaksOff old (items_in text is_end) new w w'
RunsPrefix text is_end old new w w' (Err Reader) = ⊥

-- The result of running the whole items of bytes that a reader gave and may go on from: these are left.
abbrev pub RunsGiven : List ℕ → List ℕ → State → State → Watch → Watch → Result (Unit {0}) Ending → Type 0
RunsGiven text rest old new w w' (Ok nothing) =
    (prefix : List Item) × LeadsWith text prefix rest × WritesShown old prefix new w w' []
RunsGiven text rest old new w w' (Err Memory) = WritesPart old (whole_of text) new w w' []
RunsGiven text rest old new w w' (Err Writer) = BreaksOff old (whole_of text) new w w'
RunsGiven text rest old new w w' (Err Reader) = ⊥

-- so many bytes were taken of a reader that may go on, their items are answered up to these bytes, and the lines are written
pub record IsRunTo (old new : State) (r r' : Option (List ℕ)) (w w' : Watch) (count : ℕ) (rest : List ℕ) : Type 0 where
  pub text : List ℕ
  pub taken : Consumes r r' text
  pub size : length text ≡ count
  pub prefix : List Item
  pub leads : LeadsWith text prefix rest
  pub writes : WritesShown old prefix new w w' []

-- The result of reading a script and running it, before the line of a fault is written.
abbrev pub RunsRead : ℕ → State → State → Option (List ℕ) → Option (List ℕ) → Watch → Watch → Result (Unit {0}) Ending → Type 0
RunsRead most old new r r' w w' (Ok nothing) =
    (text : List ℕ) × IsReadWithin most r r' text × WritesShown old (script_of text) new w w' []
RunsRead most old new r r' w w' (Err Reader) =
    (text : List ℕ) × IsTaken most r r' text × IsPrefixOf (whole_of text) (script_of text)
    × WritesShown old (whole_of text) new w w' []
RunsRead most old new r r' w w' (Err Memory) =
    (text : List ℕ) × IsTaken most r r' text × (items : List Item) × AreDue r' text items
    × WritesPart old items new w w' []
RunsRead most old new r r' w w' (Err Writer) =
    (text : List ℕ) × IsTaken most r r' text × (items : List Item) × AreDue r' text items
    × BreaksOff old items new w w'

-- the fault that an ending is answered as
abbrev pub fault_of : Ending → SessionFault
fault_of Reader = fault.Reader
fault_of Writer = fault.Writer
fault_of Memory = fault.Memory

-- the line of why a run ends is written last, but for the writer's
abbrev pub EndsWith : State → Ending → Watch → Watch → Result (Unit {0}) Ending → Type 0
EndsWith state why w w' (Ok nothing) = (last : List ShownAnswer) × ShowsOne None (Err (fault_of why)) state last × Tells w w' last
EndsWith state why w w' (Err ending) = (ending ≡ Writer) × (last : List ShownAnswer) × ShowsFault state last × WasShown w w' last

-- How a run ends that left the machine in a state: on a fault its line is written last, unless the writer failed.
abbrev pub IsEnded : State → Result (Unit {0}) Ending → Watch → Watch → Result (Unit {0}) SessionFault → Type 0
IsEnded state run w w' (Ok nothing) = (run ≡ Ok nothing) × Tells w w' []
IsEnded state run w w' (Err why) =
    ((why ≡ fault.Writer) × (last : List ShownAnswer) × ShowsFault state last × WasShown w w' last)
    ⊎ ((ending : Ending) × (run ≡ Err ending) × (why ≡ fault_of ending)
    × (last : List ShownAnswer) × ShowsOne None (Err why) state last × Tells w w' last)
