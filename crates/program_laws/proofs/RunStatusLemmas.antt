-- A run with the status 0.
use Rattle.std.proofs.Common.{◌≡◌, ◌∙◌, ℕ, Bool, false, None, Result, Ok, Err, List, length, ap, subst, sym, refl, inl, inr}
use Rattle.byte_reader.specs.Readings.{Reading}
use Rattle.hosts.specs.Event.{Event}
use Rattle.hosts.specs.Place.{Place, Step as HostStep, replay}
use Rattle.outcome.specs.declared.contents.Content.TheVariants.{Image as Held}
use Rattle.outcome.specs.declared.endings.Ending.{Ending}
use Rattle.outcome.specs.declared.endings.Ending.TheVariants.{Busy, Fault}
use Rattle.program_tasks.specs.declared.forms.ImageForm.{ImageForm}
use Rattle.program_tasks.specs.declared.tasks.RunForm.{RunForm}
use Rattle.program_tasks.specs.declared.tasks.Task.TheVariants as task
use Rattle.refusals.specs.declared.faults.SessionFault.TheVariants.{Memory}
use Rattle.system_session.specs.Session.{SessionView}
use Rattle.image_files.specs.Answers.{Answers}
use Rattle.image_files.specs.Laws.{ChangesNothing}
use Rattle.image_files.specs.Saving.{IsDone}
use Rattle.image_files.specs.Work.{Then}
use Rattle.image_files.specs.declared.images.Image.{Image}
use Rattle.script_commands.specs.Scripts.{MountsSession, OpensFor, RunsOver, RunsSession, is_parted}
use Rattle.image_files.specs.Waiting.{TellsBusy}
use Rattle.image_files.proofs.KeepLemmas.{of-file}
use Rattle.program.specs.Tasks.{RunsImage, RunsTask}
use Rattle.program_laws.specs.Runs.{HasRun, HoldsVolume}
use Rattle.program_laws.proofs.QuietLemmas.{ends-so}
use Rattle.program_laws.proofs.RunLemmas.{holds-volume}
use Rattle.program_laws.proofs.StatusLemmas.{zero-done}

abbrev IsBusyAfter : Result Image Ending → Type 0
IsBusyAfter result = result ≡ Err (Busy Held)

not-busy : (image : Image) → IsBusyAfter (Ok image) → ⊥
not-busy image is = cc

none-told : (name : List ℕ) (image : Image) (old new : List Event) → TellsBusy name (Ok image) old new → new ≡ old
none-told name image old new (inl p) = p.1
none-told name image old new (inr p) = absurd (not-busy image p.0)

module _ (named : ImageForm) (form : RunForm) (is_typed : Bool) (input : Reading) where
  still-holds : (start : Place) (path : List ℕ) (blocks : List (List ℕ)) (ended new : List Event) → ChangesNothing ended new → HoldsVolume start path blocks ended → HoldsVolume start path blocks new
  still-holds start path blocks ended new same h =
      record { image = h.image; of_blocks = h.of_blocks; seen = ap (λ (s : List HostStep). (replay start s).seen) (of-file path (same path)) ∙ h.seen }

  has-run : (image : Image) (session : SessionView) (before begun ended new : List Event) → OpensFor form.saving named before (Ok image) begun → (r : RunsSession form is_typed image session input begun (Ok tt) ended)
      → ChangesNothing ended new → HasRun named form is_typed input new
  has-run image session before begun ended new opened r same = record {
    before = before;
    begun = begun;
    ended = ended;
    image = image;
    opened = opened;
    session = session;
    runs = r;
    after = same;
    holds = λ saved start seen. still-holds start image.place.path.bytes.items r.end.volume.blocks ended new same (holds-volume form is_typed image session input begun ended r saved start seen);
  }

  over : (image : Image) (before after begun ended new : List Event) → OpensFor form.saving named before (Ok image) after → begun ≡ after → RunsOver form is_typed image input begun (Ok tt) ended → ChangesNothing ended new → HasRun named form is_typed input new
  over image before after begun ended new opened same (inl p) nothing = absurd p
  over image before after begun ended new opened same (inr p) nothing = mounted p.after
    where
      mounted : Then (Answers (MountsSession (is_parted image) image.bytes.items) (length image.bytes.items)) (λ session. RunsSession form is_typed image session input) p.between (Ok tt) ended → HasRun named form is_typed input new
      mounted (inl q) = absurd q
      mounted (inr q) = has-run image q.given before q.between ended new (subst (λ (n : List Event). OpensFor form.saving named before (Ok image) n) (sym (q.done.1 ∙ p.done.1 ∙ same)) opened) q.after nothing

  ran : (old ended new : List Event) → RunsImage named form is_typed input old (Ok tt) ended → ChangesNothing ended new → HasRun named form is_typed input new
  ran old ended new (inl p) nothing = absurd p
  ran old ended new (inr p) nothing =
      over p.given p.done.between p.done.after p.between ended new p.done.last (none-told named.file.bytes.items p.given p.done.after p.between p.done.told) p.after nothing

  of-work : (work : Result (Unit {0}) Ending) (old between new : List Event) → RunsImage named form is_typed input old work between → IsDone work → ChangesNothing between new → HasRun named form is_typed input new
  of-work (Ok it) old between new does done nothing = ran old between new does nothing
  of-work (Err ending) old between new does done nothing = absurd done

  pub with-zero : (old new : List Event) → RunsTask (task.Run named form) is_typed input old new 0 → HasRun named form is_typed input new
  with-zero old new (inl r) = of-work r.work old r.between new r.does (zero-done r.notes r.work r.between new 0 r.ends refl) (ends-so false r.notes r.work r.between new 0 r.ends)
  with-zero old new (inr e) = absurd (zero-done None (Err (Fault Memory)) old new 0 e refl)
