-- What an 8/I does with a program: its run, its trace and its profile.
use Rattle.std.specs.Prelude.{◌≡◌, ◌-◌, ◌^◌, ℕ, Bool, unwrap_or, Option, None, Result, List, slice_index}
use Rattle.byte_reader.specs.Readings.{Reading}
use Rattle.tape_source.specs.Tags.{is_flagged}
use Rattle.cpu8.specs.State.{State, next_cell, new_machine, switches_set, after_start}
use Rattle.terminal8.specs.Laws.{terminal_with_keys}
use Rattle.terminal8.specs.Run.{RunsProgram}
use Rattle.terminal8.specs.Terminal.{Terminal, IsRun, later}
use Rattle.terminal8.specs.declared.absences.Absence.{Absence}
use Rattle.terminal8.specs.declared.outcomes.Ended.{Ended}
use Rattle.terminal8.specs.declared.outcomes.TerminalFault.{TerminalFault}
use Rattle.trace8.specs.Tracing.{Traces}
use Rattle.trace8.specs.declared.faults.TraceFault.{TraceFault}
use Rattle.profile8.specs.Counts.{AreCounts}
use Rattle.program_tasks.specs.declared.tasks.TeletypeForm.{TeletypeForm}
use Rattle.drive_files.specs.Inputs.{form_of, input_of, with_switches}
use Rattle.run_commands.specs.declared.core_programs.CoreProgram.{CoreProgram}
use Rattle.run_commands.specs.declared.printing.Stand.{Stand}
use Rattle.run_commands.specs.declared.runs.Run.{Run}

-- ## The machine

-- a new machine with the program's core, which stands at its start
abbrev pub machine_of : CoreProgram → State
machine_of program = after_start (with_switches switches_set program.switches (new_machine program.core)) program.start

-- where a machine stands; it has no MQ
abbrev pub stand_of : State → Stand
stand_of s = record { cell = next_cell s; word = slice_index s.core (next_cell s); ac = s.ac; l = s.l; mq = None }

-- the machine at a terminal where these keys are struck
abbrev pub terminal_of : Run → Terminal
terminal_of run = terminal_with_keys (machine_of run.program) run.keys.items

-- ## Its steps

-- a program runs at the Teletype, with these keys and this paper before and after; it does these IOTs of absent devices, and ends so where the machine stands
abbrev pub RunsTo : TeletypeForm → CoreProgram → Reading → Stand → Option (List ℕ) → Option (List ℕ) → List Absence → Result Ended TerminalFault → Type 0
RunsTo form program keys stand paper paper' absences done = (after : State)
    × RunsProgram (form_of form.console.is_raw) (input_of form.console.is_live) (unwrap_or form.console.steps (2 ^ 64 - 1)) (machine_of program) after keys.before keys.after paper paper' absences done
    × (stand ≡ stand_of after)

-- at most so many steps of a terminal are made; the paper gets a line of each, with the flagged cells tagged; it ends so, before this cell
abbrev pub TracesTo : ℕ → Terminal → List Bool → ℕ → Option (List ℕ) → Option (List ℕ) → Result Ended TraceFault → Type 0
TracesTo most t flags cell paper paper' done = (after : Terminal) × Traces (is_flagged flags) most t after paper paper' done × (cell ≡ next_cell after.machine)

-- at most so many steps of a terminal are made, which end so, before this cell; these are the counts of their fetches
abbrev pub CountsTo : ℕ → Terminal → Ended → List ℕ → ℕ → Type 0
CountsTo most t ended counts cell = IsRun t most ended.steps ended.why × AreCounts ended.steps t counts × (cell ≡ next_cell (later ended.steps t).machine)
