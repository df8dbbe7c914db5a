-- A whole 8/E at whose keyboard small letters may be struck as capitals, and what it puts on paper (this project's profile).
use Rattle.std.specs.Prelude.{ℕ, ◌+◌, ◌-◌, ◌%◌, ◌^◌, Bool, ◌&&◌, not, nat_le, if◌then◌else◌}
use Rattle.pdp8e.specs.State.{Pdp8e, key_struck}
use Rattle.pdp8e.specs.Step.{move_in}
use Rattle.pdp8e.specs.Runs.{printing_step, with_printer_done}
use Rattle.pdp8e.specs.Absences.{absence_at}
use Rattle.pdp8e.specs.Asks.{asks_for_key, waits_for_key}
use Rattle.pdp8e.specs.Papers.{PapersState, papers_after, papers_length}
use Rattle.terminal8e.specs.Acts.{Acts}
use Rattle.program_tasks.specs.declared.boots.ConsoleForm.{ConsoleForm}
use Rattle.drive_files.specs.declared.consoles.Console.{Console}

-- a machine at the console, before its first step, with these papers
abbrev pub console_with : ConsoleForm → Pdp8e → PapersState → Console
console_with form machine papers = record { machine = machine; has_capitals = form.has_capitals; transfers = 0; papers = papers }

-- a small letter of ASCII, whatever its top bit
abbrev pub is_small : ℕ → Bool
is_small character = nat_le 0o141 (character % 0o200) && nat_le (character % 0o200) 0o172

-- the key that is struck for a character: its capital, where that is asked for
abbrev pub key_of : Bool → ℕ → ℕ
key_of has_capitals character = if has_capitals && is_small character then character - 0o40 else character

-- another machine at the same keyboard
abbrev pub with_machine : Console → Pdp8e → Console
with_machine s machine = record s { machine = machine }

-- what a step leaves, in whose beginning a transfer may have ended, and which may have written on paper
abbrev pub with_step : Console → Pdp8e → Console
with_step s machine = record s {
  machine = machine;
  transfers = if s.machine.disk.control.busy && not machine.disk.control.busy then (s.transfers + 1) % 2 ^ 64 else s.transfers;
  papers = papers_after (move_in (with_printer_done s.machine)) machine s.papers;
}

-- what a terminal asks of it
abbrev pub console_acts : Acts Console
console_acts = record {
  is_running = λ s. s.machine.processor.base.running;
  asks_for_key = λ since s. asks_for_key since s.machine;
  waits_for_key = λ s. waits_for_key s.machine;
  key_struck = λ s character. with_machine s (key_struck s.machine (key_of s.has_capitals character));
  printing_step = λ s. (with_step s (printing_step s.machine).0, (printing_step s.machine).1);
  absence_at = λ s. absence_at s.machine;
}

-- so many bytes are on its papers
abbrev pub bytes_on_paper : Console → ℕ
bytes_on_paper s = papers_length s.papers

-- its program waits for a key
abbrev pub is_waiting : Console → Bool
is_waiting s = asks_for_key 0 s.machine

-- and no transfer is under way
abbrev pub is_at_wait : Console → Bool
is_at_wait s = is_waiting s && not s.machine.disk.control.busy
