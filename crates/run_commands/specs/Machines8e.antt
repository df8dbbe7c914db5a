-- What an 8/E does with a program at the Teletype.
use Rattle.std.specs.Prelude.{◌≡◌, ◌-◌, ◌^◌, ℕ, unwrap_or, Option, Some, Result, List, slice_index}
use Rattle.byte_reader.specs.Readings.{Reading}
use Rattle.cpu8.specs.State.{next_cell}
use Rattle.cpu8e.specs.State.{State8e, new_machine, switches_set, after_start}
use Rattle.terminal8e.specs.Run.{RunsProgram}
use Rattle.terminal8.specs.declared.absences.Absence.{Absence}
use Rattle.terminal8.specs.declared.outcomes.Ended.{Ended}
use Rattle.terminal8.specs.declared.outcomes.TerminalFault.{TerminalFault}
use Rattle.program_tasks.specs.declared.tasks.TeletypeForm.{TeletypeForm}
use Rattle.drive_files.specs.Inputs.{form_of, input_of, with_switches}
use Rattle.run_commands.specs.declared.core_programs.CoreProgram.{CoreProgram}
use Rattle.run_commands.specs.declared.printing.Stand.{Stand}

-- ## The machine

-- a new machine with the program's core, which stands at its start
abbrev pub machine_of : CoreProgram → State8e
machine_of program = after_start (with_switches switches_set program.switches (new_machine program.core)) program.start

-- where a machine stands
abbrev pub stand_of : State8e → Stand
stand_of s = record { cell = next_cell s.base; word = slice_index s.base.core (next_cell s.base); ac = s.base.ac; l = s.base.l; mq = Some s.mq }

-- ## Its run

-- a program runs at the Teletype, with these keys and this paper before and after; it does these IOTs of absent devices, and ends so where the machine stands
abbrev pub RunsTo : TeletypeForm → CoreProgram → Reading → Stand → Option (List ℕ) → Option (List ℕ) → List Absence → Result Ended TerminalFault → Type 0
RunsTo form program keys stand paper paper' absences done = (after : State8e)
    × RunsProgram (form_of form.console.is_raw) (input_of form.console.is_live) (unwrap_or form.console.steps (2 ^ 64 - 1)) (machine_of program) after keys.before keys.after paper paper' absences done
    × (stand ≡ stand_of after)
