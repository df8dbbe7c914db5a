-- Which file a run of a script touches.
use Rattle.std.proofs.Common.{◌≡◌, ◌≢◌, ◌∙◌, ◌⊎◌, ℕ, Bool, true, if◌then◌else◌, Result, Ok, Err, List, [], ◌∷◌, ap, refl, subst, inl, inr, length}
use Rattle.byte_reader.specs.Readings.{Reading}
use Rattle.hosts.specs.Event.{Event}
use Rattle.hosts.specs.Place.{Step as HostStep, about, replay}
use Rattle.hosts.specs.Saving.{ClearsBeside, IsClear}
use Rattle.hosts.specs.Streams.{changes_at}
use Rattle.outcome.specs.declared.contents.Content.TheVariants as content
use Rattle.outcome.specs.declared.endings.Ending.{Ending}
use Rattle.outcome.specs.declared.endings.Ending.TheVariants.{Busy}
use Rattle.program_tasks.specs.declared.forms.ImageForm.{ImageForm}
use Rattle.program_tasks.specs.declared.tasks.RunForm.{RunForm}
use Rattle.program_tasks.specs.declared.tasks.Saving.{Saving}
use Rattle.program_tasks.specs.declared.tasks.Saving.TheVariants.{AtEnd, Never, Always}
use Rattle.image_files.specs.Answers.{Answers}
use Rattle.image_files.specs.Laws.{ChangesNothing, KeepsFiles}
use Rattle.image_files.specs.Reading.{OpensForScript, looked_name}
use Rattle.image_files.specs.Waiting.{TellsBusy}
use Rattle.image_files.specs.Work.{Then, Purely}
use Rattle.image_files.specs.declared.images.Image.{Image}
use Rattle.image_files.specs.declared.reading.ImagePlace.{ImagePlace}
use Rattle.image_files.proofs.KeepLemmas.{opens-for-script-keeps, purely-keeps, within-keeps}
use Rattle.image_files.proofs.LeaveLemmas.{answers-never}
use Rattle.image_files.proofs.ReasonLemmas.{reason-keeps}
use Rattle.script_commands.specs.Scripts.{IsRoom, MountsSession, OpensFor, RunsOver, RunsSession, is_parted}
use Rattle.script_commands.specs.Steps.{Step, Saves, Fails, Replies, Prints, Refuses, Shows, Cuts, AreDone, Does, IsUnwritten, StaysUnsaved, last_image}
use Rattle.keeper_laws.specs.Changed.{ChangesNoOther}
use Rattle.keeper_laws.specs.Ended.{ReadsHeld}
use Rattle.keeper_laws.proofs.AloneLemmas.{alone-after, alone-at, alone-before, alone-only}
use Rattle.keeper_laws.proofs.OpenLemmas.{script-held}
use Rattle.program.specs.Tasks.{RunsImage}
use Rattle.program_laws.specs.Runs.{TouchesRun}
use Rattle.program_laws.proofs.OutputTouchLemmas.{keep-then, writes-alone}
use Rattle.program_laws.proofs.QuietLemmas.{busy-keeps}
use Rattle.program_laws.proofs.RunLemmas.{same-place}

-- ## One path, twice

clears-then : (old mid new : List HostStep) → ClearsBeside old mid → ClearsBeside mid new → ClearsBeside old new
clears-then old mid new first next start = go (next start) (first start)
  where
    go : IsClear mid new (replay start mid) (replay start new) → IsClear old mid (replay start old) (replay start mid) → IsClear old new (replay start old) (replay start new)
    go (inl none) before = inl none
    go (inr (inl stays)) before = inr (inl stays)
    go (inr (inr (same, stay))) (inl none) = inl (same ∙ none)
    go (inr (inr (same, stay))) (inr (inl stays)) = inr (inl (stay ∙ stays))
    go (inr (inr (same, stay))) (inr (inr (still, is))) = inr (inr (same ∙ still, stay ∙ is))

alone-then : (path : List ℕ) (old mid new : List Event) → ChangesNoOther path old mid → ChangesNoOther path mid new → ChangesNoOther path old new
alone-then path old mid new first next = record {
  others = λ other apart. next.others other apart ∙ first.others other apart;
  beside = clears-then (about path old) (about path mid) (about path new) first.beside next.beside;
  keeps_folders = next.keeps_folders ∙ first.keeps_folders;
}

-- ## The steps of a run

-- nothing was touched, or the file at a place, which is held
abbrev Touched : ImagePlace → List Event → List Event → Type 0
Touched place old new = ChangesNothing old new ⊎ ((place.is_held ≡ true) × ChangesNoOther place.path.bytes.items old new)

touched-then : (place : ImagePlace) (old mid new : List Event) → Touched place old mid → Touched place mid new → Touched place old new
touched-then place old mid new (inl first) (inl next) = inl (λ path. next path ∙ first path)
touched-then place old mid new (inl first) (inr (held, next)) = inr (held, alone-after place.path.bytes.items old mid new first next)
touched-then place old mid new (inr (held, first)) (inl next) = inr (held, alone-before place.path.bytes.items old mid new next first)
touched-then place old mid new (inr (held, first)) (inr (again, next)) = inr (held, alone-then place.path.bytes.items old mid new first next)

same : (place : ImagePlace) (old new : List Event) → new ≡ old → Touched place old new
same place old new is = inl (λ path. ap (λ (events : List Event). changes_at path events) is)

unwritten-touched : (before : Image) (file : List ℕ) (ending : Ending) (old new : List Event) → before.place.is_held ≡ true
    → IsUnwritten before.judgment before.place.path.bytes.items before.place.name.bytes.items file ending old new → Touched before.place old new
unwritten-touched before file ending old new held (inl (kind, (is, ok, p))) = inl (λ path. ap (λ (events : List Event). changes_at path events) p)
unwritten-touched before file ending old new held (inr p) = inr (held, writes-alone content.Image before.place.path.bytes.items before.place.name.bytes.items file old (Err ending) new p)

unsaved-touched : (before : Image) (ending : Ending) (old new : List Event) → StaysUnsaved before ending old new → Touched before.place old new
unsaved-touched before ending old new (inl p) = same before.place old new p.1
unsaved-touched before ending old new (inr (inl (is, why, tells))) = inl (reason-keeps why before.place.name.bytes.items old new tells)
unsaved-touched before ending old new (inr (inr (held, file, p))) = unwritten-touched before file ending old new held p

step-touched : (is_typed : Bool) (start : Image) (earlier : List Step) (step : Step) (old new : List Event) → Does is_typed start earlier step old new → Touched (last_image start earlier).place old new
step-touched is_typed start earlier (Saves image durability) old new (none, got) = inr (got.held, alone-only (last_image start earlier).place.path.bytes.items old new got.only)
step-touched is_typed start earlier (Fails ending) old new (none, it) = unsaved-touched (last_image start earlier) ending old new it
step-touched is_typed start earlier (Replies entry answer blocks) old new is = same (last_image start earlier).place old new is
step-touched is_typed start earlier (Prints bytes) old new (going, all, is) = inl (λ path. ap (λ (events : List Event). changes_at path events) is)
step-touched is_typed start earlier (Refuses fault bytes) old new (going, is) = inl (λ path. ap (λ (events : List Event). changes_at path events) is)
step-touched is_typed start earlier (Shows form) old new (typed, ok, is) = inl (λ path. ap (λ (events : List Event). changes_at path events) is)
step-touched is_typed start earlier Cuts old new (ok, is) = inl (λ path. ap (λ (events : List Event). changes_at path events) is)

steps-touched : (is_typed : Bool) (start : Image) (steps : List Step) (old new : List Event) → AreDone is_typed start steps old new → Touched start.place old new
steps-touched is_typed start [] old new done = same start.place old new done
steps-touched is_typed start (step ∷ earlier) old new (mid, done, it) = touched-then start.place old mid new (steps-touched is_typed start earlier old mid done)
    (subst (λ (p : ImagePlace). Touched p mid new) (same-place is_typed start earlier old mid done) (step-touched is_typed start earlier step mid new it))

-- ## The run

abbrev IsBusyNow : Result Image Ending → Type 0
IsBusyNow result = result ≡ Err (Busy content.Image)

module _ (named : ImageForm) (form : RunForm) (is_typed : Bool) (input : Reading) where
  over-touched : (image : Image) (old : List Event) (result : Result (Unit {0}) Ending) (new : List Event) → RunsOver form is_typed image input old result new → Touched image.place old new
  over-touched image =
      let place = image.place in
      let none : (old new : List Event) → ChangesNothing old new → Touched place old new = λ old new quiet. inl quiet in
      let after : (old mid new : List Event) → ChangesNothing old mid → Touched place mid new → Touched place old new = λ old mid new first next. touched-then place old mid new (inl first) next in
      let before : (old mid new : List Event) → Touched place old mid → ChangesNothing mid new → Touched place old new = λ old mid new first next. touched-then place old mid new first (inl next) in
      keep-then (Touched place) none after before (Purely (IsRoom {A = Unit {0}}))
      (λ room. Then (Answers (MountsSession (is_parted image) image.bytes.items) (length image.bytes.items)) (λ session. RunsSession form is_typed image session input)) (purely-keeps (IsRoom {A = Unit {0}}))
      (λ room. keep-then (Touched place) none after before (Answers (MountsSession (is_parted image) image.bytes.items) (length image.bytes.items)) (λ session. RunsSession form is_typed image session input)
      (answers-never (MountsSession (is_parted image) image.bytes.items) (length image.bytes.items))
      (λ session old result new r. steps-touched is_typed image r.steps old new r.done))

  opens-script : (saving : Saving) → saving ≢ Never → (old : List Event) (result : Result Image Ending) (new : List Event) → OpensFor saving named old result new → OpensForScript named old result new
  opens-script Never saved old result new p = absurd (saved refl)
  opens-script AtEnd saved old result new p = p
  opens-script Always saved old result new p = p

  module _ (saved : form.saving ≢ Never) where
    opens-keep : KeepsFiles (OpensFor form.saving named)
    opens-keep old result new p = opens-for-script-keeps named old result new (opens-script form.saving saved old result new p)

    told-none : (image : Image) (old new : List Event) → TellsBusy named.file.bytes.items (Ok image) old new → new ≡ old
    told-none image old new (inl p) = p.1
    told-none image old new (inr p) = absurd (not-busy image p.0)
      where
        not-busy : (image : Image) → IsBusyNow (Ok image) → ⊥
        not-busy image is = cc

    held-run : (image : Image) (old between after begun new : List Event) → ChangesNothing old between → OpensForScript named between (Ok image) after → begun ≡ after → Touched image.place begun new → TouchesRun named old new
    held-run image old between after begun new waited opens is (inl none) =
        (between, waited, inl (λ path. none path ∙ ap (λ (events : List Event). changes_at path events) is ∙ opens-for-script-keeps named between (Ok image) after opens path))
    held-run image old between after begun new waited opens is (inr (held, alone)) =
        let r : ReadsHeld named image between after = script-held named between image after opens in
        let path = looked_name image.place named.file.bytes.items in
        let leads : path ≡ image.place.path.bytes.items = ap (λ (b : Bool). if b then image.place.path.bytes.items else named.file.bytes.items) held in
        let quiet : ChangesNothing between begun = λ other. ap (λ (events : List Event). changes_at other events) is ∙ opens-for-script-keeps named between (Ok image) after opens other in (
          between,
          waited,
          inr (record {
            place = image.place;
            path = path;
            held = (r.begun, r.held, refl);
            is_held = held;
            alone = alone-at path image.place.path.bytes.items between new leads (alone-after image.place.path.bytes.items between begun new quiet alone);
          }),
        )

    pub run-touched : (old : List Event) (result : Result (Unit {0}) Ending) (new : List Event) → RunsImage named form is_typed input old result new → TouchesRun named old new
    run-touched old (Ok r) new (inl ends) = absurd ends
    run-touched old (Err e) new (inl w) = (old, λ path. refl, inl (λ path. within-keeps named.wait named.file.bytes.items (OpensFor form.saving named) opens-keep old (Err e) new w path))
    run-touched old result new (inr it) =
        let w = it.done in
        held-run it.given old w.between w.after it.between new (λ path. busy-keeps (OpensFor form.saving named) opens-keep w.tries old w.between w.busy path)
        (opens-script form.saving saved w.between (Ok it.given) w.after w.last) (told-none it.given w.after it.between w.told) (over-touched it.given it.between result new it.after)
