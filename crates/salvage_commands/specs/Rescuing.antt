-- The command that makes a new volume of what a damaged one still shows (this project's profile).
use Rattle.std.specs.Prelude.{◌≡◌, ◌⊎◌, ◌||◌, ℕ, Bool, true, false, not, nat_eq, Option, Result, Ok, Err, List, ◌∷◌, codes, length}
use Rattle.hosts.specs.Event.{Event, tell_call}
use Rattle.disk_layouts.specs.declared.layouts.Layout.{Layout}
use Rattle.image_kind.specs.Margins.{margins_in}
use Rattle.image_kind.specs.declared.margins.Margins.{Margins}
use Rattle.program_tasks.specs.declared.forms.ImageForm.{ImageForm}
use Rattle.outcome.specs.declared.endings.Ending.{Ending}
use Rattle.outcome.specs.declared.endings.Ending.TheVariants.{Failure, Unreported, NoReader}
use Rattle.image_files.specs.Answers.{Answers, AreLines}
use Rattle.image_files.specs.Making.{MakesFirst}
use Rattle.image_files.specs.Judging.{Judges}
use Rattle.image_files.specs.Reading.{FindsOne, Looks}
use Rattle.image_files.specs.Saving.{IsDone, Reports}
use Rattle.image_files.specs.Work.{Then, Purely}
use Rattle.volume_salvage.specs.Salvaging.{Salvages, is_complete, rescued_text}

-- The lines of a new volume are printed, which is made, and the command ends with the status of a refusal where something is lost. So it does
-- where nobody reads them.
abbrev pub Finishes : Bool → List ℕ → List Event → Result (Unit {0}) Ending → List Event → Type 0
Finishes true lines old (Ok it) new = Reports lines old (Ok it) new
Finishes false lines old (Ok it) new = ⊥
Finishes true lines old (Err ending) new = Reports lines old (Err ending) new
Finishes false lines old (Err Failure) new = Reports lines old (Ok tt) new ⊎ Reports lines old (Err NoReader) new
Finishes false lines old (Err Unreported) new = Reports lines old (Err Unreported) new
Finishes false lines old (Err _) new = ⊥

-- a file has bytes before or after the blocks of its volumes
abbrev pub has_margins : Margins → Bool
has_margins margins = not (nat_eq margins.before 0) || not (nat_eq margins.after 0)

-- a note says that these are left out
abbrev pub with_margin_note : Bool → Bool → List Event → List Event
with_margin_note true ok old = tell_call ok (codes "note: the file has bytes before or after the blocks of its volume: they are left out\n") ∷ old
with_margin_note false ok old = old

abbrev pub TellsMargins : Margins → List Event → Result (Unit {0}) Ending → List Event → Type 0
TellsMargins margins old result new = IsDone result × (ok : Bool) × (new ≡ with_margin_note (has_margins margins) ok old)

-- the file of the new volume is made, where there is none of this name, and only then is anything printed on standard output
abbrev pub RescuesVolume : List ℕ → List ℕ → List Event → Result (Unit {0}) Ending → List Event → Type 0
RescuesVolume new image =
    Then (Answers (Salvages image) (length image)) (λ salvage. Then (Purely (AreLines (rescued_text salvage))) (λ lines. Then (MakesFirst new salvage.image.items) (λ it. Finishes (is_complete salvage) lines.items)))

-- the one volume in a file of these bytes is rescued
abbrev pub RescuesFile : List ℕ → ImageForm → List ℕ → List Event → Result (Unit {0}) Ending → List Event → Type 0
RescuesFile new form file =
    Then (Judges form.file.bytes.items form.layout form.is_plain file) (λ it. Then (FindsOne form.layout form.is_plain file) (λ image. Then (TellsMargins (margins_in form.layout form.is_plain file)) (λ it. RescuesVolume new image.items)))

-- An image file is only looked at.
abbrev pub RescuesImage : List ℕ → ImageForm → List Event → Result (Unit {0}) Ending → List Event → Type 0
RescuesImage new form = Then (Looks form.file.bytes.items form.file.bytes.items) (λ file. RescuesFile new form file.items)
