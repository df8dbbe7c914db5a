-- Why files are not copied, and what is printed of it.
use Rattle.std.specs.Prelude.{◌≡◌, ◌⊎◌, ℕ, Bool, Option, None, Some, List, ◌∷◌, slice_get}
use Rattle.hosts.specs.Event.{Event, tell_call}
use Rattle.os8_dir.specs.declared.file_faults.FileFault.TheVariants.{BadName, NotFound}
use Rattle.refusals.specs.declared.faults.SessionFault.TheVariants as session
use Rattle.archive_files.specs.declared.faults.CopyFault.TheVariants.{From}
use Rattle.archive_files.specs.declared.faults.CopyFault.TheVariants as one
use Rattle.archive_many.specs.HostNames.{NamesHost}
use Rattle.archive_many.specs.declared.faults.CopyAllFault.{CopyAllFault}
use Rattle.archive_many.specs.declared.faults.CopyAllFault.TheVariants.{To, Exists, File, Memory}
use Rattle.archive_many.specs.declared.opened.VolumeFile.{VolumeFile}
use Rattle.archive_many.specs.declared.wishes.Wish.{Wish}
use Rattle.archive_many.specs.declared.wishes.Wish.TheVariants as wish
use Rattle.outcome.specs.Notes.{name_text}
use Rattle.outcome.specs.declared.notes.NameNote.TheVariants.{NotCopied}
use Rattle.outcome.specs.declared.endings.Ending.{Ending}
use Rattle.outcome.specs.declared.endings.Ending.TheVariants.{Fault, Line}
use Rattle.program_reports.specs.declared.programs.ProgramLine.TheVariants.{CopyExists}
use Rattle.program_tasks.specs.declared.forms.CopyChoice.{CopyChoice}
use Rattle.program_tasks.specs.declared.forms.CopyChoice.TheVariants.{One, Like}
use Rattle.program_tasks.specs.declared.forms.CopyForm.{CopyForm}
use Rattle.image_files.specs.Work.{Lacks, OrLacks, EndsBy}
use Rattle.image_files.specs.Pairs.{IsOneRefused}

-- ## A word of no file

-- the word is printed, if it is known
abbrev pub TellsWord : Option (List ℕ) → List Event → List Event → Type 0
TellsWord None old new = new ≡ old
TellsWord (Some word) old new = (ok : Bool) × (new ≡ tell_call ok (name_text NotCopied word) ∷ old)

-- a word that asks for no file is refused, and printed; where memory is wanted for the note, that
abbrev pub RefusesWish : List (List ℕ) → Wish → List Event → Ending → List Event → Type 0
RefusesWish words (wish.File file) old ending new = ⊥
RefusesWish words (wish.BadWord place) old ending new = (ending ≡ Fault (session.File BadName)) × TellsWord (slice_get words place) old new
RefusesWish words (wish.NotFound place) old ending new = (ending ≡ Fault (session.File NotFound)) × TellsWord (slice_get words place) old new
RefusesWish words (wish.Block block) old ending new = (ending ≡ Fault (session.File NotFound)) × (new ≡ old)

-- ## A file that can't be copied

-- where words choose files, one is printed by the name that it has on a host
abbrev pub TellsFile : CopyChoice → VolumeFile → List Event → List Event → Type 0
TellsFile (One asked name) file old new = new ≡ old
TellsFile (Like words is_forced) file old new = (text : List ℕ) × NamesHost file text × (ok : Bool) × (new ≡ tell_call ok (name_text NotCopied text) ∷ old)

-- A file is printed that is refused: a file of its name is there, or it can't be put. It is printed too which of the two images refuses, of so many
-- bytes the one and of so many the other. Where memory is wanted for a note, that ends the command.
abbrev pub RefusesCopies : CopyForm → CopyAllFault → ℕ → ℕ → List Event → Ending → List Event → Type 0
RefusesCopies form (To fault) from to old ending new = IsOneRefused form.to.file.bytes.items fault to old ending new
RefusesCopies form (Exists file) from to old ending new = OrLacks (EndsBy (Line CopyExists) (TellsFile form.files file)) old ending new
RefusesCopies form (File file (From fault)) from to old ending new = IsOneRefused form.image.file.bytes.items fault from old ending new
RefusesCopies form (File file (one.To fault)) from to old ending new =
    ((between : List Event) × TellsFile form.files file old between × IsOneRefused form.to.file.bytes.items fault to between ending new) ⊎ Lacks old ending new
RefusesCopies form Memory from to old ending new = Lacks old ending new
