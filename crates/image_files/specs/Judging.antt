-- How an image file is refused that may be read in two ways, or that a change would make one that is read in another way.
use Rattle.std.specs.Prelude.{◌≡◌, ℕ, Bool, Option, None, Some, Result, Ok, Err, List, ◌∷◌}
use Rattle.hosts.specs.Event.{Event, tell_call}
use Rattle.disk_layouts.specs.declared.layouts.Layout.{Layout}
use Rattle.image_kind.specs.declared.kinds.Form.{Form}
use Rattle.image_kind.specs.declared.kinds.Form.TheVariants as form
use Rattle.image_kind.specs.declared.kinds.ImageKind.{ImageKind}
use Rattle.image_kind.specs.Judging.{judged_kind}
use Rattle.image_kind.specs.Keeping.{two_readings}
use Rattle.outcome.specs.Notes.{plain_text}
use Rattle.outcome.specs.Readings.{readings_text}
use Rattle.outcome.specs.declared.endings.Ending.{Ending}
use Rattle.outcome.specs.declared.endings.Ending.TheVariants.{Line}
use Rattle.outcome.specs.declared.notes.PlainNote.{PlainNote}
use Rattle.outcome.specs.declared.notes.PlainNote.TheVariants.{MadeVolume, MadeDisk, MadeDectape}
use Rattle.program_reports.specs.declared.programs.ProgramLine.TheVariants as line
use Rattle.image_files.specs.Work.{OrLacks, EndsTelling}

-- a note says in which two ways, unless memory is wanted for it
abbrev pub TellsTwo : List ℕ → ImageKind × ImageKind → List Event → Ending → List Event → Type 0
TellsTwo name two = OrLacks (EndsTelling (Line line.TwoReadings) (readings_text name two.0 two.1))

-- a file that may be read in two ways is refused
abbrev pub JudgesBy : List ℕ → Option (ImageKind × ImageKind) → List Event → Result (Unit {0}) Ending → List Event → Type 0
JudgesBy name None old (Ok it) new = new ≡ old
JudgesBy name None old (Err ending) new = ⊥
JudgesBy name (Some two) old (Ok it) new = ⊥
JudgesBy name (Some two) old (Err ending) new = TellsTwo name two old ending new

abbrev pub Judges : List ℕ → Option Layout → Bool → List ℕ → List Event → Result (Unit {0}) Ending → List Event → Type 0
Judges name given is_plain file = JudgesBy name (two_readings given is_plain file)

-- the note on what a file would be read as
abbrev pub form_note : Form → PlainNote
form_note form.Volume = MadeVolume
form_note form.Disk = MadeDisk
form_note form.Dectape = MadeDectape

abbrev pub kind_note : Option ImageKind → PlainNote
kind_note None = MadeVolume
kind_note (Some kind) = form_note kind.form

-- a change is refused that would make a file one that is read in another way; a note says as what
abbrev pub RefusesKind : Bool → List ℕ → List Event → Ending → List Event → Type 0
RefusesKind is_plain file old ending new =
    (ending ≡ Line line.OtherKind) × (ok : Bool) × (new ≡ tell_call ok (plain_text (kind_note (judged_kind is_plain file))) ∷ old)
