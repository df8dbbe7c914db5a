-- What a crash leaves of an image file while a change is stored.
use Rattle.std.proofs.Common.{◌≡◌, ◌∙◌, ◌⊎◌, ℕ, Bool, true, false, Option, Some, Result, Ok, Err, List, [], ◌∷◌, ◌++◌, refl, sym, ap, subst, inl, inr}
use Rattle.std.specs.Str.{bytes_eq}
use Rattle.hosts.specs.Event.{Event, look_call, print_call}
use Rattle.hosts.specs.Place.{Place, Step, Just, Leaves, about, ever, may_leave, replay}
use Rattle.hosts.specs.Saving.{AnyMomentOf, KeepsFile}
use Rattle.hosts.specs.Streams.{changes_at, errors, may_replace, read}
use Rattle.hosts.specs.declared.faults.Durability.{Durability}
use Rattle.hosts.specs.declared.faults.Durability.TheVariants.{Certain, Unknown}
use Rattle.hosts.specs.declared.faults.Unwritten.TheVariants.{AsItWas, InPart}
use Rattle.image_kind.specs.Keeping.{keeps_kind}
use Rattle.outcome.specs.declared.contents.Content.TheVariants as content
use Rattle.outcome.specs.declared.endings.Ending.{Ending}
use Rattle.outcome.specs.declared.endings.Ending.TheVariants.{Line, Fault, Failure, Busy, NotWritten, FullOutput, Unreported, NoReader, Misuse}
use Rattle.outcome.specs.declared.reasons.Reason.{Reason}
use Rattle.outcome.specs.declared.reasons.Reason.TheVariants as reason
use Rattle.program_tasks.specs.declared.forms.ImageForm.{ImageForm}
use Rattle.image_files.specs.Reasons.{TellsReason}
use Rattle.image_files.specs.Saving.{HasSaved, IsPlaceTold, IsSyncTold, Reports, SavesIf, Stores, TellsCannot, Writes, WritesIf}
use Rattle.image_files.specs.declared.images.Image.{Image}
use Rattle.image_files.proofs.KeepLemmas.{of-file}
use Rattle.image_files.proofs.ReasonLemmas.{reason-keeps}
use Rattle.keeper_laws.specs.Questions.{CrashLeaves, CrashLeft, EndsWell, HasDenied, HasFile, HasNote, HasRead, IsLeftAlone, IsOldOrNew, IsWarned, in_place_note, no_sync_note}
use Rattle.keeper_laws.proofs.AloneLemmas.{AreSame}
use Rattle.keeper_laws.proofs.CallLemmas.{IsTold, has-denied, has-note, has-read, read-among}
use Rattle.keeper_laws.proofs.OpenLemmas.{IsQuiet, quiet-then}
use Rattle.keeper_laws.proofs.StoreLemmas.{IsReady, crash-leaves, held-path, moment-leaves, now-has, told-reads}

-- ## One file that is stored

-- What becomes of the file at a path that is to have these bytes: it is not touched, or it is the old one or the new one at each moment
pub record IsPlugged (path : List ℕ) (result : Result (Unit {0}) Ending) (old new : List Event) : Type 0 where
  pub file : List ℕ
  pub reads : read new ≡ read old
  pub others : (other : List ℕ) → bytes_eq path other ≡ false → about other new ≡ about other old
  pub moments : IsWarned result new ⊎ ((start : Place) (found : Option (List ℕ)) → CrashLeft start path found new → (found ≡ Some file) ⊎ CrashLeft start path found old)
  pub now : EndsWell result → (start : Place) (was : List ℕ) → HasFile start path was old → HasFile start path file new
  pub after : EndsWell result → HasNote in_place_note new ⊎ (HasNote no_sync_note new ⊎ ((start : Place) (found : Option (List ℕ)) → CrashLeaves start path found new → found ≡ Some file))

abbrev pub MayBePlugged : List ℕ → Result (Unit {0}) Ending → List Event → List Event → Type 0
MayBePlugged path result old new = AreSame old new ⊎ IsPlugged path result old new

-- the note on a file that is written in its place was printed
place-told : (durability : Durability) (before noted told : List (Bool × List ℕ)) → IsPlaceTold false content.Image before noted → IsSyncTold content.Image durability noted told → IsTold in_place_note told
place-told Certain before noted told (ok, place) sync = subst (λ (l : List (Bool × List ℕ)). IsTold in_place_note l) (sym (sync ∙ place)) (inl refl)
place-told Unknown before noted told (ok, place) (other, sync) =
    subst (λ (l : List (Bool × List ℕ)). IsTold in_place_note l) (sym sync) (inr (subst (λ (l : List (Bool × List ℕ)). IsTold in_place_note l) (sym place) (inl refl)))

sync-told : (noted told : List (Bool × List ℕ)) → IsSyncTold content.Image Unknown noted told → IsTold no_sync_note told
sync-told noted told (ok, sync) = subst (λ (l : List (Bool × List ℕ)). IsTold no_sync_note l) (sym sync) (inl refl)

module _ (path file : List ℕ) (old mid : List Event) (s : HasSaved content.Image path file old mid)
  where
    in-place : may_replace mid ≡ false → HasNote in_place_note mid
    in-place is = has-note in_place_note mid (place-told s.durability (errors old) s.noted (errors mid) (subst (λ (b : Bool). IsPlaceTold b content.Image (errors old) s.noted) is s.place) s.sync)

    saved-moments : (may : Bool) → may_replace mid ≡ may
        → HasNote in_place_note mid ⊎ ((start : Place) (found : Option (List ℕ)) → CrashLeft start path found mid → (found ≡ Some file) ⊎ CrashLeft start path found old)
    saved-moments true is = inr (λ start found left. moment-leaves file (about path old) (about path mid) (subst (λ (b : Bool). AnyMomentOf b file (about path old) (about path mid)) is s.moments) start found left)
    saved-moments false is = inl (in-place is)

    saved-after : (may : Bool) → may_replace mid ≡ may → (durability : Durability) → s.durability ≡ durability
        → HasNote in_place_note mid ⊎ (HasNote no_sync_note mid ⊎ ((start : Place) (found : Option (List ℕ)) → CrashLeaves start path found mid → found ≡ Some file))
    saved-after false is durability so = inl (in-place is)
    saved-after true is Unknown so = inr (inl (has-note no_sync_note mid (sync-told s.noted (errors mid) (subst (λ (d : Durability). IsSyncTold content.Image d s.noted (errors mid)) so s.sync))))
    saved-after true is Certain so = inr (inr (λ start found leaves. crash-leaves file (about path old) (about path mid)
        (subst (λ (d : Durability). KeepsFile true d file (about path old) (about path mid)) so (subst (λ (b : Bool). KeepsFile b s.durability file (about path old) (about path mid)) is s.kept)) start found leaves))

warned-ok : (result : Result (Unit {0}) Ending) (new : List Event) → HasNote in_place_note new → IsWarned result new
warned-ok (Ok it) new noted = noted
warned-ok (Err ending) new noted = inl noted

-- the line is printed after the save
saved-plugged : (path file line : List ℕ) (ok : Bool) (number : ℕ) (result : Result (Unit {0}) Ending) (old mid new : List Event) → new ≡ print_call ok number line ∷ mid → HasSaved content.Image path file old mid
    → IsPlugged path result old new
saved-plugged path file line ok number result old mid new is s = subst (λ (n : List Event). IsPlugged path result old n) (sym is) (record {
  file = file;
  reads = s.only.reads;
  others = s.only.others;
  moments = moments (saved-moments path file old mid s (may_replace mid) refl);
  now = λ well start was had. now-has (may_replace mid) s.durability was file (about path old) (about path mid) s.kept start had;
  after = λ well. after (saved-after path file old mid s (may_replace mid) refl s.durability refl);
}) where
  moments : HasNote in_place_note mid ⊎ ((start : Place) (found : Option (List ℕ)) → CrashLeft start path found mid → (found ≡ Some file) ⊎ CrashLeft start path found old)
      → IsWarned result (print_call ok number line ∷ mid) ⊎ ((start : Place) (found : Option (List ℕ)) → CrashLeft start path found mid → (found ≡ Some file) ⊎ CrashLeft start path found old)
  moments (inl noted) = inl (warned-ok result (print_call ok number line ∷ mid) (inr noted))
  moments (inr all) = inr all

  after : HasNote in_place_note mid ⊎ (HasNote no_sync_note mid ⊎ ((start : Place) (found : Option (List ℕ)) → CrashLeaves start path found mid → found ≡ Some file))
      → HasNote in_place_note (print_call ok number line ∷ mid) ⊎ (HasNote no_sync_note (print_call ok number line ∷ mid) ⊎ ((start : Place) (found : Option (List ℕ)) → CrashLeaves start path found mid → found ≡ Some file))
  after (inl noted) = inl (inr noted)
  after (inr (inl noted)) = inr (inl (inr noted))
  after (inr (inr all)) = inr (inr all)

-- ## One that could not be stored

denied-after : (why : Reason) (name : List ℕ) (mid new : List Event) → TellsReason why name mid new → may_replace mid ≡ false → HasDenied new
denied-after why name mid new (text, ok, is, p) denied = subst (λ (n : List Event). HasDenied n) (sym p) (inr (has-denied mid denied))

writes-plugged : (path name file : List ℕ) (old : List Event) (ending : Ending) (new : List Event) → Writes content.Image path name file old (Err ending) new → IsPlugged path (Err ending) old new
writes-plugged path name file old (NotWritten it AsItWas) new (is, fault, mid, u, told) = record {
  file = file;
  reads = told-reads (reason.Fault fault) name mid new told ∙ u.only.reads;
  others = λ other apart. of-file other (reason-keeps (reason.Fault fault) name mid new told other) ∙ u.only.others other apart;
  moments = go (may_replace mid) refl;
  now = λ well. absurd well;
  after = λ well. absurd well;
} where
  go : (may : Bool) → may_replace mid ≡ may
      → IsWarned (Err (NotWritten it AsItWas)) new ⊎ ((start : Place) (found : Option (List ℕ)) → CrashLeft start path found new → (found ≡ Some file) ⊎ CrashLeft start path found old)
  go true so = inr (λ start found left. moment-leaves file (about path old) (about path mid) (subst (λ (b : Bool). AnyMomentOf b file (about path old) (about path mid)) so u.moments) start found
      (subst (λ (s : List Step). Leaves (ever start s) found) (of-file path (reason-keeps (reason.Fault fault) name mid new told path)) left))
  go false so = inl (inr (denied-after (reason.Fault fault) name mid new told so))
writes-plugged path name file old (NotWritten it InPart) new (is, fault, mid, u, told) = record {
  file = file;
  reads = told-reads (reason.Fault fault) name mid new told ∙ u.only.reads;
  others = λ other apart. of-file other (reason-keeps (reason.Fault fault) name mid new told other) ∙ u.only.others other apart;
  moments = inl (inr (denied-after (reason.Fault fault) name mid new told u.in_place));
  now = λ well. absurd well;
  after = λ well. absurd well;
}
writes-plugged path name file old (Line it) new p = absurd p
writes-plugged path name file old (Fault it) new p = absurd p
writes-plugged path name file old Failure new p = absurd p
writes-plugged path name file old (Busy it) new p = absurd p
writes-plugged path name file old FullOutput new p = absurd p
writes-plugged path name file old Unreported new p = absurd p
writes-plugged path name file old NoReader new p = absurd p
writes-plugged path name file old Misuse new p = absurd p

kept-plugged : (keeps : Bool) (image : Image) (file : List ℕ) (old : List Event) (ending : Ending) (new : List Event)
    → WritesIf keeps image.judgment image.place.path.bytes.items image.place.name.bytes.items file old (Err ending) new → MayBePlugged image.place.path.bytes.items (Err ending) old new
kept-plugged true image file old ending new p = inr (writes-plugged image.place.path.bytes.items image.place.name.bytes.items file old ending new p)
kept-plugged false image file old ending new (is, ok, p) = inl (λ path. ap (λ (n : List Event). changes_at path n) p)

cannot-same : (image : Image) (bytes : List ℕ) (old new : List Event) → TellsCannot image bytes old new → AreSame old new
cannot-same image bytes old new (inl (is_held, told)) = reason-keeps (reason.Fault image.place.why) image.place.name.bytes.items old new told
cannot-same image bytes old new (inr (cannot, told)) = reason-keeps reason.NoRoom image.place.name.bytes.items old new told

-- what becomes of the image's path, and whether that was held
abbrev StoreMeans : Image → Result (Unit {0}) Ending → List Event → List Event → Type 0
StoreMeans image result old new = AreSame old new ⊎ ((image.place.is_held ≡ true) × MayBePlugged image.place.path.bytes.items result old new)

unsaved-plugged : (is : Bool) (image : Image) (bytes : List ℕ) (old : List Event) (ending : Ending) (new : List Event) → SavesIf is image bytes old (Err ending) new → StoreMeans image (Err ending) old new
unsaved-plugged true image bytes old ending new p = absurd p.0
unsaved-plugged false image bytes old ending new (inl (refused, cannot)) = inl (cannot-same image bytes old new cannot)
unsaved-plugged false image bytes old ending new (inr (is_held, file, with, p)) = inr (is_held, kept-plugged (keeps_kind image.judgment file) image file old ending new p)

-- the save went well, and its line is printed
module _ (image : Image) (bytes line : List ℕ) (ok : Bool) (number : ℕ) (result : Result (Unit {0}) Ending) (old mid new : List Event) (is : new ≡ print_call ok number line ∷ mid)
  where
    kept-saved : (keeps : Bool) (file : List ℕ) (it : Unit {0}) → WritesIf keeps image.judgment image.place.path.bytes.items image.place.name.bytes.items file old (Ok it) mid
        → IsPlugged image.place.path.bytes.items result old new
    kept-saved true file it p = saved-plugged image.place.path.bytes.items file line ok number result old mid new is p
    kept-saved false file it p = absurd p

    pub printed-plugged : (same : Bool) (it : Unit {0}) → SavesIf same image bytes old (Ok it) mid → StoreMeans image result old new
    printed-plugged true it (done, stays) = inl (λ path. ap (λ (n : List Event). changes_at path n) is ∙ ap (λ (n : List Event). changes_at path n) stays)
    printed-plugged false it (inl (refused, told)) = absurd refused
    printed-plugged false it (inr (is_held, file, with, p)) = inr (is_held, inr (kept-saved (keeps_kind image.judgment file) file it p))

reported-plugged : (image : Image) (bytes line : List ℕ) (old mid : List Event) (it : Unit {0}) (result : Result (Unit {0}) Ending) (new : List Event) → SavesIf (bytes_eq image.bytes.items bytes) image bytes old (Ok it) mid
    → Reports line mid result new → StoreMeans image result old new
reported-plugged image bytes line old mid it (Ok one) new s p = printed-plugged image bytes line true 0 (Ok one) old mid new p (bytes_eq image.bytes.items bytes) it s
reported-plugged image bytes line old mid it (Err Unreported) new s p = printed-plugged image bytes line false 0 (Err Unreported) old mid new p (bytes_eq image.bytes.items bytes) it s
reported-plugged image bytes line old mid it (Err NoReader) new s p = printed-plugged image bytes line false 1 (Err NoReader) old mid new p (bytes_eq image.bytes.items bytes) it s
reported-plugged image bytes line old mid it (Err (NotWritten one left)) new s p = absurd p
reported-plugged image bytes line old mid it (Err (Line one)) new s p = absurd p
reported-plugged image bytes line old mid it (Err (Fault one)) new s p = absurd p
reported-plugged image bytes line old mid it (Err Failure) new s p = absurd p
reported-plugged image bytes line old mid it (Err (Busy one)) new s p = absurd p
reported-plugged image bytes line old mid it (Err FullOutput) new s p = absurd p
reported-plugged image bytes line old mid it (Err Misuse) new s p = absurd p

store-plugged : (image : Image) (bytes line : List ℕ) (old : List Event) (result : Result (Unit {0}) Ending) (new : List Event) → Stores image bytes line old result new → StoreMeans image result old new
store-plugged image bytes line old (Ok it) new (inl ends) = absurd ends
store-plugged image bytes line old (Err ending) new (inl ends) = unsaved-plugged (bytes_eq image.bytes.items bytes) image bytes old ending new ends
store-plugged image bytes line old result new (inr it) = reported-plugged image bytes line old it.between it.given result new it.done it.after

-- ## A change

abbrev pub IsNothingLost : Result (Unit {0}) Ending → List Event → List Event → Type 0
IsNothingLost result old new = ((path : List ℕ) → IsLeftAlone path old new) ⊎ IsOldOrNew result old new

pub left-alone : (result : Result (Unit {0}) Ending) (old new : List Event) → AreSame old new → IsNothingLost result old new
left-alone result old new same = inl (λ path. of-file path (same path))

-- one that has opened its image
pub ready-plugged : (form : ImageForm) (calls : List Event) (image : Image) (bytes line : List ℕ) (old : List Event) (result : Result (Unit {0}) Ending) (new : List Event)
    → IsReady form calls image bytes line old result new → IsNothingLost result old new
ready-plugged form calls image bytes line old result new r = go (store-plugged image bytes line r.mid result new r.stores)
  where
    whole : List Event
    whole = calls ++ (look_call r.start.path r.start.was ∷ [])

    quiet : IsQuiet whole old r.mid
    quiet = quiet-then (look_call r.start.path r.start.was ∷ []) calls old r.opened_at r.mid r.start.quiet r.quiet

    reads : read r.mid ≡ calls ++ (look_call r.start.path r.start.was ∷ read old)
    reads = r.quiet.reads ∙ ap (λ (l : List Event). calls ++ l) r.start.quiet.reads

    here : IsPlugged r.start.path result r.mid new → IsOldOrNew result old new
    here p = record {
      path = r.start.path;
      was = r.start.was;
      file = p.file;
      read = has-read r.start.path r.start.was new (subst (λ (l : List Event). HasRead r.start.path r.start.was l) (sym (p.reads ∙ reads))
          (read-among r.start.path r.start.was calls (look_call r.start.path r.start.was) (read old) refl refl refl));
      others = λ other apart. p.others other apart ∙ of-file other (quiet.files other);
      moments = subst (λ (s : List Step). IsWarned result new ⊎ ((start : Place) (found : Option (List ℕ)) → CrashLeft start r.start.path found new → (found ≡ Some p.file) ⊎ Leaves (ever start s) found))
          (of-file r.start.path (quiet.files r.start.path)) p.moments;
      now = λ well start had. p.now well start r.start.was (subst (λ (s : List Step). (replay start s).seen ≡ Just (Some r.start.was)) (sym (of-file r.start.path (quiet.files r.start.path))) had);
      after = p.after;
    }

    go : StoreMeans image result r.mid new → IsNothingLost result old new
    go (inl same) = left-alone result old new (λ path. same path ∙ quiet.files path)
    go (inr (is_held, inl same)) = left-alone result old new (λ path. same path ∙ quiet.files path)
    go (inr (is_held, inr p)) = inr (here (subst (λ (path : List ℕ). IsPlugged path result r.mid new)
        (sym (r.start.path_is ∙ held-path image.place form.file.bytes.items is_held)) p))
