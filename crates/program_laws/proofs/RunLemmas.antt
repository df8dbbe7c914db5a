-- The steps of a run, and its end.
use Rattle.std.proofs.Common.{◌≡◌, ◌≢◌, ◌∙◌, ◌<◌, ◌&&◌, ◌⊎◌, ℕ, suc, Bool, true, false, Option, None, Some, Result, Ok, Err, List, [], ◌∷◌, refl, sym, ap, subst, arith, inl, inr}
use Rattle.byte_reader.specs.Readings.{Reading}
use Rattle.hosts.specs.Event.{Event}
use Rattle.hosts.specs.Place.{Place, Just, Step as HostStep, about, replay}
use Rattle.hosts.specs.Saving.{KeepsFile}
use Rattle.hosts.specs.Streams.{may_replace, output}
use Rattle.hosts.specs.declared.faults.Durability.{Durability}
use Rattle.hosts.specs.declared.faults.Durability.TheVariants.{Certain, Unknown}
use Rattle.hosts.specs.declared.faults.PrintFault.{PrintFault}
use Rattle.hosts.specs.declared.faults.Unwritten.TheVariants as unwritten
use Rattle.disk_layouts.specs.Files.{Disk}
use Rattle.image_kind.specs.Parts.{Parts}
use Rattle.image_kind.specs.declared.judging.Judgment.{Judgment}
use Rattle.outcome.specs.declared.contents.Content.TheVariants as content
use Rattle.outcome.specs.declared.endings.Ending.{Ending}
use Rattle.outcome.specs.declared.endings.Ending.TheVariants.{Line, Fault, Failure, Busy, NotWritten, FullOutput, Unreported, NoReader, Misuse}
use Rattle.outcome.specs.declared.reasons.Reason.{Reason}
use Rattle.program_tasks.specs.declared.tasks.RunForm.{RunForm}
use Rattle.program_tasks.specs.declared.tasks.Saving.{Saving}
use Rattle.program_tasks.specs.declared.tasks.Saving.TheVariants.{Never}
use Rattle.refusals.specs.declared.faults.SessionFault.{SessionFault}
use Rattle.refusals.specs.declared.faults.SessionFault.TheVariants as session
use Rattle.system_session.specs.Session.{SessionView}
use Rattle.image_files.specs.Judging.{RefusesKind}
use Rattle.image_files.specs.Reasons.{TellsReason}
use Rattle.image_files.specs.Saving.{Writes}
use Rattle.image_files.specs.declared.images.Image.{Image}
use Rattle.image_files.specs.declared.reading.ImagePlace.{ImagePlace}
use Rattle.script_commands.specs.Laws.{body_of, file_around, image_file}
use Rattle.script_commands.specs.Scripts.{IsEndedBy, RunsSession, ending_of}
use Rattle.script_commands.specs.Steps.{Step, Saves, Fails, Replies, Prints, Refuses, Shows, Cuts, AreDone, GetsImage, IsBodyOf, IsFileAround, IsFileOf, IsUnwritten, StaysUnsaved, has_refusal, has_saved, has_unsynced, last_image, print_fault, printed_text, reply_text, save_ending}
use Rattle.keeper_laws.specs.Seen.{IsSeen}
use Rattle.program_laws.specs.Runs.{HoldsVolume, PrintsBeginning}
use Rattle.program_laws.specs.Statuses.{failed_prints}

-- ## What a failed save prints

told-output : (why : Reason) (name : List ℕ) (old new : List Event) → TellsReason why name old new → output new ≡ output old
told-output why name old new (text, ok, is, p) = ap output p

kind-output : (is_plain : Bool) (file : List ℕ) (old : List Event) (ending : Ending) (new : List Event) → RefusesKind is_plain file old ending new → output new ≡ output old
kind-output is_plain file old ending new (is, ok, p) = ap output p

writes-output : (path name file : List ℕ) (old : List Event) (ending : Ending) (new : List Event) → Writes content.Image path name file old (Err ending) new → output new ≡ output old
writes-output path name file old (NotWritten it unwritten.AsItWas) new (is, fault, between, p, (text, ok, so, tells)) = ap output tells ∙ p.only.prints
writes-output path name file old (NotWritten it unwritten.InPart) new (is, fault, between, p, (text, ok, so, tells)) = ap output tells ∙ p.only.prints
writes-output path name file old (Line it) new p = absurd p
writes-output path name file old (Fault it) new p = absurd p
writes-output path name file old Failure new p = absurd p
writes-output path name file old (Busy it) new p = absurd p
writes-output path name file old FullOutput new p = absurd p
writes-output path name file old Unreported new p = absurd p
writes-output path name file old NoReader new p = absurd p
writes-output path name file old Misuse new p = absurd p

unwritten-output : (judgment : Judgment) (path name file : List ℕ) (ending : Ending) (old new : List Event) → IsUnwritten judgment path name file ending old new → output new ≡ output old
unwritten-output judgment path name file ending old new (inl p) = kind-output judgment.is_plain file old ending new p.1
unwritten-output judgment path name file ending old new (inr p) = writes-output path name file old ending new p

unsaved-output : (before : Image) (ending : Ending) (old new : List Event) → StaysUnsaved before ending old new → output new ≡ output old
unsaved-output before ending old new (inl p) = ap output p.1
unsaved-output before ending old new (inr (inl (is, why, tells))) = told-output why before.place.name.bytes.items old new tells
unsaved-output before ending old new (inr (inr (held, file, p))) = unwritten-output before.judgment before.place.path.bytes.items before.place.name.bytes.items file ending old new p

-- ## What was printed

-- no print failed so far, or one more did
abbrev Taken : Option PrintFault → List Event → List Event → Type 0
Taken fault old new = ((fault ≡ None) × (failed_prints (output new) ≡ failed_prints (output old))) ⊎ (failed_prints (output old) < failed_prints (output new))

then-taken : (fault : Option PrintFault) (old mid new : List Event) → failed_prints (output new) ≡ failed_prints (output mid) → Taken fault old mid → Taken fault old new
then-taken fault old mid new same (inl p) = inl (p.0, same ∙ p.1)
then-taken fault old mid new same (inr more) = inr (omega (arith, more, same))

then-failed : (fault : Option PrintFault) (why : PrintFault) (old mid new : List Event) → failed_prints (output new) ≡ suc (failed_prints (output mid)) → Taken fault old mid → Taken (Some why) old new
then-failed fault why old mid new one (inl p) = inr (omega (arith, one, p.1))
then-failed fault why old mid new one (inr more) = inr (omega (arith, one, more))

steps-taken : (is_typed : Bool) (start : Image) (steps : List Step) (old new : List Event) → AreDone is_typed start steps old new → Taken (print_fault steps) old new
steps-taken is_typed start [] old new done = inl (refl, ap (λ (n : List Event). failed_prints (output n)) done)
steps-taken is_typed start (Saves image durability ∷ earlier) old new (mid, done, (none, got)) =
    then-taken (print_fault earlier) old mid new (ap failed_prints got.only.prints) (steps-taken is_typed start earlier old mid done)
steps-taken is_typed start (Fails ending ∷ earlier) old new (mid, done, (none, stays)) =
    then-taken (print_fault earlier) old mid new (ap failed_prints (unsaved-output (last_image start earlier) ending mid new stays)) (steps-taken is_typed start earlier old mid done)
steps-taken is_typed start (Replies entry answer blocks ∷ earlier) old new (mid, done, is) =
    then-taken (print_fault earlier) old mid new (ap (λ (n : List Event). failed_prints (output n)) is) (steps-taken is_typed start earlier old mid done)
steps-taken is_typed start (Prints bytes ∷ earlier) old new (mid, done, (going, all, is)) =
    then-taken (print_fault earlier) old mid new (ap (λ (n : List Event). failed_prints (output n)) is) (steps-taken is_typed start earlier old mid done)
steps-taken is_typed start (Refuses fault bytes ∷ earlier) old new (mid, done, (going, is)) =
    then-failed (print_fault earlier) fault old mid new (ap (λ (n : List Event). failed_prints (output n)) is) (steps-taken is_typed start earlier old mid done)
steps-taken is_typed start (Shows form ∷ earlier) old new (mid, done, (typed, ok, is)) =
    then-taken (print_fault earlier) old mid new (ap (λ (n : List Event). failed_prints (output n)) is) (steps-taken is_typed start earlier old mid done)
steps-taken is_typed start (Cuts ∷ earlier) old new (mid, done, (ok, is)) =
    then-taken (print_fault earlier) old mid new (ap (λ (n : List Event). failed_prints (output n)) is) (steps-taken is_typed start earlier old mid done)

module _ (form : RunForm) (is_typed : Bool) (image : Image) (session : SessionView) (input : Reading) (old : List Event) (result : Result (Unit {0}) Ending) (new : List Event)
    (r : RunsSession form is_typed image session input old result new) where
  all-printed : Taken (print_fault r.steps) old new → failed_prints (output new) ≡ failed_prints (output old) → r.waiting ≡ []
  all-printed (inl p) same = r.all p.0
  all-printed (inr more) same = absurd (omega (arith, more, same))

  pub prints-beginning : PrintsBeginning (reply_text r.steps) old new
  prints-beginning = record {
    printed = printed_text r.steps;
    others = r.waiting;
    parts = r.printed;
    text = r.text;
    all = all-printed (steps-taken is_typed image r.steps old new r.done);
  }

-- ## The image file

body-is : (before : Option Disk) (image body : List ℕ) (after : Option Disk) → IsBodyOf before image body after → body_of after image ≡ body
body-is None image body after (is, none) = rw none (sym is)
body-is (Some disk) image body after (laid, has, is, some) = rw some (sym is)

around-is : (before : Option Parts) (body file : List ℕ) (after : Option Parts) → IsFileAround before body file after → file_around after body ≡ file
around-is None body file after (is, none) = rw none (sym is)
around-is (Some parts) body file after (laid, has, is, some) = rw some (sym is)

file-is : (before image : Image) (file : List ℕ) → IsFileOf before image.bytes.items file image → image_file image ≡ file
file-is before image file (body, has, around) = ap (file_around image.parts) (body-is before.disk image.bytes.items body image.disk has) ∙ around-is before.parts body file image.parts around

pub same-place : (is_typed : Bool) (start : Image) (steps : List Step) (old new : List Event) → AreDone is_typed start steps old new → (last_image start steps).place ≡ start.place
same-place is_typed start [] old new done = refl
same-place is_typed start (Saves image durability ∷ earlier) old new (mid, done, (none, got)) = got.place ∙ same-place is_typed start earlier old mid done
same-place is_typed start (Fails ending ∷ earlier) old new (mid, done, it) = same-place is_typed start earlier old mid done
same-place is_typed start (Replies entry answer blocks ∷ earlier) old new (mid, done, it) = same-place is_typed start earlier old mid done
same-place is_typed start (Prints bytes ∷ earlier) old new (mid, done, it) = same-place is_typed start earlier old mid done
same-place is_typed start (Refuses fault bytes ∷ earlier) old new (mid, done, it) = same-place is_typed start earlier old mid done
same-place is_typed start (Shows form ∷ earlier) old new (mid, done, it) = same-place is_typed start earlier old mid done
same-place is_typed start (Cuts ∷ earlier) old new (mid, done, it) = same-place is_typed start earlier old mid done

pub seen-kept : (may : Bool) (durability : Durability) (bytes : List ℕ) (old new : List HostStep) → KeepsFile may durability bytes old new → (place : Place) (was : List ℕ) → (replay place old).seen ≡ Just (Some was)
    → (replay place new).seen ≡ Just (Some bytes)
seen-kept true Certain bytes old new kept place was seen = (kept place).seen
seen-kept true Unknown bytes old new kept place was seen = (kept place).seen
seen-kept false Certain bytes old new kept place was seen = (kept place was seen).seen
seen-kept false Unknown bytes old new kept place was seen = absurd kept

still-seen : (place : Place) (path file : List ℕ) (mid new : List Event) → about path new ≡ about path mid → IsSeen place path mid file → IsSeen place path new file
still-seen place path file mid new is seen = ap (λ (s : List HostStep). (replay place s).seen) is ∙ seen

saved-seen : (place : Place) (path was : List ℕ) (before image : Image) (durability : Durability) (has has_unsure : Bool) (mid new : List Event) → GetsImage has has_unsure before image durability mid new
    → before.place.path.bytes.items ≡ path → IsSeen place path mid was → IsSeen place path new (image_file image)
saved-seen place path was before image durability has has_unsure mid new got is seen =
    subst (λ (p : List ℕ). (replay place (about p new)).seen ≡ Just (Some (image_file image))) is
    (seen-kept (may_replace new) durability got.file (about before.place.path.bytes.items mid) (about before.place.path.bytes.items new) got.kept place was
    (subst (λ (p : List ℕ). (replay place (about p mid)).seen ≡ Just (Some was)) (sym is) seen)
    ∙ ap (λ (f : List ℕ). Just (Some f)) (sym (file-is before image got.file got.is)))

steps-seen : (is_typed : Bool) (start : Image) (steps : List Step) (old new : List Event) → AreDone is_typed start steps old new → save_ending steps ≡ None → (place : Place)
    → IsSeen place start.place.path.bytes.items old (image_file start) → IsSeen place start.place.path.bytes.items new (image_file (last_image start steps))
steps-seen is_typed start [] old new done none place seen = still-seen place start.place.path.bytes.items (image_file start) old new (ap (λ (n : List Event). about start.place.path.bytes.items n) done) seen
steps-seen is_typed start (Saves image durability ∷ earlier) old new (mid, done, (before, got)) none place seen =
    saved-seen place start.place.path.bytes.items (image_file (last_image start earlier)) (last_image start earlier) image durability (has_saved earlier) (has_unsynced earlier) mid new got
    (ap (λ (p : ImagePlace). p.path.bytes.items) (same-place is_typed start earlier old mid done)) (steps-seen is_typed start earlier old mid done before place seen)
steps-seen is_typed start (Fails ending ∷ earlier) old new done none place seen = absurd (some-none none)
  where
    some-none : Some ending ≡ None → ⊥
    some-none gone = cc
steps-seen is_typed start (Replies entry answer blocks ∷ earlier) old new (mid, done, is) none place seen =
    still-seen place start.place.path.bytes.items (image_file (last_image start earlier)) mid new (ap (λ (n : List Event). about start.place.path.bytes.items n) is) (steps-seen is_typed start earlier old mid done none place seen)
steps-seen is_typed start (Prints bytes ∷ earlier) old new (mid, done, (going, all, is)) none place seen =
    still-seen place start.place.path.bytes.items (image_file (last_image start earlier)) mid new (ap (λ (n : List Event). about start.place.path.bytes.items n) is) (steps-seen is_typed start earlier old mid done none place seen)
steps-seen is_typed start (Refuses fault bytes ∷ earlier) old new (mid, done, (going, is)) none place seen =
    still-seen place start.place.path.bytes.items (image_file (last_image start earlier)) mid new (ap (λ (n : List Event). about start.place.path.bytes.items n) is) (steps-seen is_typed start earlier old mid done none place seen)
steps-seen is_typed start (Shows form ∷ earlier) old new (mid, done, (typed, ok, is)) none place seen =
    still-seen place start.place.path.bytes.items (image_file (last_image start earlier)) mid new (ap (λ (n : List Event). about start.place.path.bytes.items n) is) (steps-seen is_typed start earlier old mid done none place seen)
steps-seen is_typed start (Cuts ∷ earlier) old new (mid, done, (ok, is)) none place seen =
    still-seen place start.place.path.bytes.items (image_file (last_image start earlier)) mid new (ap (λ (n : List Event). about start.place.path.bytes.items n) is) (steps-seen is_typed start earlier old mid done none place seen)

-- ## The end

not-well : (ending : Ending) → IsEndedBy (Some ending) (Ok tt) → ⊥
not-well ending is = cc

-- a run that ends well was saved, and had no refusal that counts
well : (saving : Saving) (is_fault : Bool) (why : Option Ending) (fault : Option PrintFault) (answer : Result (Unit {0}) SessionFault) → IsEndedBy (ending_of saving is_fault why fault answer) (Ok tt) → (is_fault ≡ false) × (why ≡ None)
well saving is_fault (Some ending) fault answer is = absurd (not-well ending is)
well saving true None fault (Ok it) is = absurd (not-well Failure is)
well saving false None fault (Ok it) is = (refl, refl)
well saving is_fault None fault (Err session.Writer) is = absurd (not-well _ is)
well saving is_fault None fault (Err session.BadLine) is = absurd (not-well Failure is)
well saving is_fault None fault (Err session.NoJob) is = absurd (not-well Failure is)
well saving is_fault None fault (Err session.TooManyJobs) is = absurd (not-well Failure is)
well saving is_fault None fault (Err (session.File it)) is = absurd (not-well Failure is)
well saving is_fault None fault (Err (session.Asm it)) is = absurd (not-well Failure is)
well saving is_fault None fault (Err (session.Tape it)) is = absurd (not-well Failure is)
well saving is_fault None fault (Err session.BadText) is = absurd (not-well Failure is)
well saving is_fault None fault (Err session.Reader) is = absurd (not-well Failure is)
well saving is_fault None fault (Err session.Memory) is = absurd (not-well Failure is)
well saving is_fault None fault (Err session.TooManyBreaks) is = absurd (not-well Failure is)

module _ (form : RunForm) (is_typed : Bool) (image : Image) (session : SessionView) (input : Reading) (old new : List Event) (r : RunsSession form is_typed image session input old (Ok tt) new) where
  pub holds-volume : form.saving ≢ Never → (start : Place) → IsSeen start image.place.path.bytes.items old (image_file image) → HoldsVolume start image.place.path.bytes.items r.end.volume.blocks new
  holds-volume saved start seen =
      let none = (well form.saving (form.is_strict && has_refusal r.steps) (save_ending r.steps) (print_fault r.steps) r.answer r.ends).1 in
      record { image = last_image image r.steps; of_blocks = r.saved saved none; seen = steps-seen is_typed image r.steps old new r.done none start seen }

  pub none-refused : form.is_strict ≡ true → has_refusal r.steps ≡ false
  none-refused strict = subst (λ (b : Bool). (b && has_refusal r.steps) ≡ false) strict
      (well form.saving (form.is_strict && has_refusal r.steps) (save_ending r.steps) (print_fault r.steps) r.answer r.ends).0
