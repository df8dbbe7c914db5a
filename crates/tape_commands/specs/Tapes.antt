-- The command that lists a tape.
use Rattle.std.specs.Prelude.{◌≡◌, ℕ, Option, Result, Ok, Err, List}
use Rattle.std.specs.Global.{Vec}
use Rattle.hosts.specs.Event.{Event}
use Rattle.refusals.specs.declared.faults.SessionFault.{SessionFault}
use Rattle.tape_reports.specs.Lists.{IsListed, IsListingFault}
use Rattle.program_tasks.specs.declared.forms.TapeForm.{TapeForm}
use Rattle.outcome.specs.declared.endings.Ending.{Ending}
use Rattle.outcome.specs.declared.endings.Ending.TheVariants.{Fault}
use Rattle.image_files.specs.Work.{Then}
use Rattle.image_files.specs.Saving.{Prints}
use Rattle.tape_commands.specs.Kinds.{RefusesFrames}
use Rattle.tape_commands.specs.Programs.{ReadsGiven}

-- the lines of the cells to which a tape gives a word, or why there are none
abbrev pub GivesLines : List ℕ → List Event → Result (Vec ℕ) Ending → List Event → Type 0
GivesLines frames old (Ok text) new = IsListed frames text.items × (new ≡ old)
GivesLines frames old (Err ending) new = (fault : SessionFault) × IsListingFault frames fault × RefusesFrames frames (Fault fault) old ending new

-- The tape is read, and the lines of its cells are printed, with nothing else on standard output. No file changes.
abbrev pub ListsTape : Option TapeForm → List Event → Result (Unit {0}) Ending → List Event → Type 0
ListsTape form = Then (ReadsGiven form) (λ program. Then (GivesLines program.frames.items) (λ text. Prints text.items))
