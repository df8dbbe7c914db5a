-- A file that was stored is got again of the image file as it was left.
use Rattle.std.proofs.Common.{◌∙◌, ℕ, Result, Ok, Err, List, length, ap, subst, inl, inr}
use Rattle.std.specs.Global.{Vec}
use Rattle.hosts.specs.Event.{Event}
use Rattle.archive_files.specs.declared.forms.GetForm.{GetForm}
use Rattle.archive_files.specs.Asking.{OfName}
use Rattle.archive_files.specs.Getting.{Gets}
use Rattle.archive_files.specs.Laws.{GivesOrLacks}
use Rattle.archive_files.specs.declared.faults.ArchiveFault.{ArchiveFault}
use Rattle.outcome.specs.Endings.{ending_of_archive}
use Rattle.outcome.specs.Hints.{image_note}
use Rattle.outcome.specs.declared.endings.Ending.{Ending}
use Rattle.program_tasks.specs.declared.forms.ImageForm.{ImageForm}
use Rattle.image_files.specs.Again.{AreAlike, IsFoundAgain}
use Rattle.image_files.specs.Answers.{Answers}
use Rattle.image_files.specs.Notes.{TellsOfImage}
use Rattle.image_files.specs.Saving.{Prints}
use Rattle.image_files.specs.Work.{Then}
use Rattle.keeper_laws.specs.GettingBack.{IsPrinted, PrintsOrLacks, ShowsIn}

answers-print : (gives : Result (Vec ℕ) ArchiveFault → Type 0) (size : ℕ) (bytes : List ℕ) → ((answer : Result (Vec ℕ) ArchiveFault) → gives answer → GivesOrLacks bytes answer)
    → (old : List Event) (result : Result (Unit {0}) Ending) (new : List Event) → Then (Answers gives size) (λ it. Prints it.items) old result new → PrintsOrLacks bytes old result new
answers-print gives size bytes law old (Ok it) new (inl ends) = absurd ends
answers-print gives size bytes law old (Err ending) new (inl (fault, given, (is, told))) =
    let lacks = law (Err fault) given in
    inr (inl (is ∙ ap ending_of_archive lacks), subst (λ (f : ArchiveFault). TellsOfImage (image_note size f) old new) lacks told)
answers-print gives size bytes law old result new (inr it) =
    inl (subst (λ (events : List Event). Prints bytes events result new) it.done.1
    (subst (λ (b : List ℕ). Prints b it.between result new) (law (Ok it.given) it.done.0) it.after))

found-prints : (gives : List ℕ → Result (Vec ℕ) ArchiveFault → Type 0) (form again : ImageForm) (file image bytes : List ℕ) → IsFoundAgain form file image → AreAlike form again
    → ((answer : Result (Vec ℕ) ArchiveFault) → gives image answer → GivesOrLacks bytes answer)
    → (old : List Event) (result : Result (Unit {0}) Ending) (new : List Event) → ShowsIn gives again file old result new → PrintsOrLacks bytes old result new
found-prints gives form again file image bytes found same law old (Ok it) new (inl ends) = absurd ends
found-prints gives form again file image bytes found same law old (Err ending) new (inl ends) = inr (found.looked again old new (Err ending) same ends)
found-prints gives form again file image bytes found same law old result new (inr it) =
    let one = found.looked again old it.between (Ok it.given) same it.done in
    subst (λ (events : List Event). PrintsOrLacks bytes events result new) one.1
    (answers-print (gives it.given.items) (length it.given.items) bytes (λ answer given. law answer (subst (λ (b : List ℕ). gives b answer) one.0 given)) it.between result new it.after)

-- what is got of a volume by a name is printed of the file that holds it
pub is-printed : (form : ImageForm) (file image name bytes : List ℕ) (how : GetForm) → IsFoundAgain form file image
    → ((answer : Result (Vec ℕ) ArchiveFault) → Gets image (OfName name) how answer → GivesOrLacks bytes answer) → IsPrinted form file name how bytes
is-printed form file image name bytes how found law = λ again old new result same p.
    found-prints (λ it. Gets it (OfName name) how) form again file image bytes found same law old result new p
