-- What is known of a program before its first step.
use Rattle.std.proofs.Common.{◌≡◌, ◌∙◌, ℕ, Bool, Option, Result, Ok, Err, IsErrAnd, List, length, ap, inl, inr}
use Rattle.std.specs.Global.{Vec}
use Rattle.std.specs.Result.{IsErr}
use Rattle.bin_tape.specs.Fault.{IsFault}
use Rattle.bin_tape.specs.Items.{Item}
use Rattle.bin_tape.specs.Map.{IsMapFault}
use Rattle.bin_tape.specs.Tape.{IsTape}
use Rattle.bin_tape.specs.declared.faults.TapeFault.{TapeFault}
use Rattle.word12.specs.declared.sizes.TheConstants.{CORE}
use Rattle.hosts.specs.Event.{Event}
use Rattle.image_files.specs.Work.{Then, Purely}
use Rattle.refusals.specs.declared.faults.SessionFault.TheVariants.{Memory}
use Rattle.program_tasks.specs.declared.tasks.TraceForm.{TraceForm}
use Rattle.outcome.specs.Endings.{ending_of_tape}
use Rattle.outcome.specs.declared.endings.Ending.{Ending}
use Rattle.outcome.specs.declared.endings.Ending.TheVariants.{Fault}
use Rattle.run_commands.specs.CorePrograms.{LoadsProgram}
use Rattle.run_commands.specs.RunSteps.{AreFlags}
use Rattle.run_commands.specs.Runs.{IsReady, ReadsRun, start_or}
use Rattle.run_commands.specs.declared.core_programs.CoreProgram.{CoreProgram}
use Rattle.run_commands.specs.declared.runs.Run.{Run}

-- a tape has no fault, so memory was wanted
pub flags_memory : ((frames : List ℕ) (items : List Item) (why : TapeFault) → IsTape frames items → IsFault frames why → ⊥)
    → (frames : List ℕ) (items : List Item) (why : TapeFault) (result : Result (Vec Bool) Ending) → IsTape frames items → IsMapFault frames why
    → IsErr result × IsErrAnd result (λ it. it ≡ ending_of_tape why) → AreFlags frames result
flags_memory none frames items why (Ok it) is fault ends = absurd ends.1
flags_memory none frames items why (Err it) is (inl memory) ends = ends.1 ∙ ap (λ (why : TapeFault). ending_of_tape why) memory
flags_memory none frames items why (Err it) is (inr fault) ends = absurd (none frames items why is fault)

pub ready_memory : (form : TraceForm) (frames : List ℕ) (program : CoreProgram) (result : Result Run Ending) (ending : Ending) → ending ≡ Fault Memory
    → IsErr result × IsErrAnd result (λ it. it ≡ ending) → IsReady form frames program result
ready_memory form frames program (Ok run) ending memory ends = absurd ends.1
ready_memory form frames program (Err it) ending memory ends = ends.1 ∙ memory

-- a program is loaded only of a tape
pub loaded_tape : (frames : List ℕ) (given switches : Option ℕ) (old : List Event) (program : CoreProgram) (new : List Event) → LoadsProgram frames given switches old (Ok program) new → (items : List Item) × IsTape frames items
loaded_tape frames given switches old program new (inl ends) = absurd ends
loaded_tape frames given switches old program new (inr it) = (it.done.0.items, it.done.0.is_tape)

-- there is a flag for each cell of core
flags_after : (form : TraceForm) (frames : List ℕ) (start : Option ℕ) (old : List Event) (run : Run) (new : List Event)
    → Then (LoadsProgram frames start form.switches) (λ program. Purely (IsReady form frames program)) old (Ok run) new → length run.flags.items ≡ CORE
flags_after form frames start old run new (inl ends) = absurd ends
flags_after form frames start old run new (inr it) = it.after.0.2.size

pub flags_size : (form : TraceForm) (old : List Event) (run : Run) (new : List Event) → ReadsRun form old (Ok run) new → length run.flags.items ≡ CORE
flags_size form old run new (inl ends) = absurd ends
flags_size form old run new (inr it) = flags_after form it.given.frames.items (start_or form.start it.given.start) it.between run new it.after
