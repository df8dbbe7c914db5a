-- A program whose steps are printed or counted, before its first step.
use Rattle.std.specs.Prelude.{◌≡◌, ℕ, Option, None, Some, String, Result, Ok, Err, List, []}
use Rattle.std.specs.Global.{Global}
use Rattle.terminal8.specs.Keys.{keys_of}
use Rattle.terminal8.specs.declared.keyboards.Form.TheVariants.{Text}
use Rattle.hosts.specs.Event.{Event}
use Rattle.refusals.specs.declared.faults.SessionFault.TheVariants.{Memory}
use Rattle.tape_reports.specs.Given.{AreGiven}
use Rattle.program_tasks.specs.declared.tasks.TraceForm.{TraceForm}
use Rattle.outcome.specs.declared.endings.Ending.{Ending}
use Rattle.outcome.specs.declared.endings.Ending.TheVariants.{Fault}
use Rattle.image_files.specs.Work.{Then, Purely}
use Rattle.tape_commands.specs.Programs.{ReadsProgram}
use Rattle.run_commands.specs.CorePrograms.{LoadsProgram}
use Rattle.run_commands.specs.declared.core_programs.CoreProgram.{CoreProgram}
use Rattle.run_commands.specs.declared.runs.Run.{Run}

-- the cell that is given, or else that of a core image
abbrev pub start_or : Option ℕ → Option ℕ → Option ℕ
start_or None start = start
start_or (Some cell) start = Some cell

-- the text whose characters are struck as keys
abbrev pub text_of : Option (String Global) → List ℕ
text_of None = []
text_of (Some text) = text.bytes.items

-- the program, the keys of the text, and which cells the tape gives a word
abbrev pub IsReady : TraceForm → List ℕ → CoreProgram → Result Run Ending → Type 0
IsReady form frames program (Ok run) = (run.program ≡ program) × (run.keys.items ≡ keys_of Text (text_of form.keys)) × AreGiven frames run.flags.items
IsReady form frames program (Err ending) = ending ≡ Fault Memory

-- the program is read into core
abbrev pub ReadsRun : TraceForm → List Event → Result Run Ending → List Event → Type 0
ReadsRun form = Then (ReadsProgram form.tape) (λ tape. Then (LoadsProgram tape.frames.items (start_or form.start tape.start) form.switches) (λ program. Purely (IsReady form tape.frames.items program)))
