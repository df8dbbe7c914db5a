-- What a save comes to for the file of its image, and how a change ends by it.
use Rattle.std.proofs.Common.{◌≡◌, ◌∙◌, ◌≤◌, ◌⊎◌, ℕ, suc, Bool, true, false, if◌then◌else◌, Option, Some, Result, Ok, Err, List, [], ◌∷◌, ◌++◌, refl, sym, ap, subst, arith, inl, inr, true≢false}
use Rattle.std.proofs.lemmas.Slice.Eq.{bytes_eq-Decides}
use Rattle.std.specs.Str.{bytes_eq}
use Rattle.hosts.specs.Event.{Event, look_call, print_call}
use Rattle.hosts.specs.Place.{Place, Step, Just, Leaves, may_leave, about, replay, ever}
use Rattle.hosts.specs.Saving.{AnyMomentOf, IsAsItWas, IsKept, IsOldOrNew, KeepsFile, StaysAsItWas}
use Rattle.hosts.specs.Streams.{errors, output, read, may_replace, changes_at}
use Rattle.hosts.specs.declared.faults.Durability.{Durability}
use Rattle.hosts.specs.declared.faults.Durability.TheVariants.{Certain, Unknown}
use Rattle.hosts.specs.declared.faults.Unwritten.TheVariants.{AsItWas, InPart}
use Rattle.image_kind.specs.Keeping.{keeps_kind}
use Rattle.outcome.specs.declared.contents.Content.TheVariants as content
use Rattle.outcome.specs.declared.endings.Ending.{Ending}
use Rattle.outcome.specs.declared.endings.Ending.TheVariants.{Line, Fault, Failure, Busy, NotWritten, FullOutput, Unreported, NoReader, Misuse}
use Rattle.outcome.specs.declared.reasons.Reason.{Reason}
use Rattle.outcome.specs.declared.reasons.Reason.TheVariants as reason
use Rattle.program_tasks.specs.declared.forms.ImageForm.{ImageForm}
use Rattle.image_files.specs.Again.{IsFoundAgain}
use Rattle.image_files.specs.Laws.{ChangesNothing, is_refusal}
use Rattle.image_files.specs.Reasons.{TellsReason}
use Rattle.image_files.specs.Reading.{looked_name}
use Rattle.image_files.specs.Saving.{HasSaved, IsFileWith, IsPlaceTold, IsSyncTold, Reports, SavesIf, Stores, TellsCannot, TouchesOnly, Writes, WritesIf}
use Rattle.image_files.specs.declared.images.Image.{Image}
use Rattle.image_files.specs.declared.reading.ImagePlace.{ImagePlace}
use Rattle.image_files.proofs.ReasonLemmas.{reason-keeps, unless-output}
use Rattle.image_files.proofs.KeepLemmas.{of-file}
use Rattle.keeper_laws.specs.Changed.{Becomes, GetsVolume, ChangesNoOther, warnings}
use Rattle.keeper_laws.specs.Ended.{AllStay, DoesNothing, EndsAs, MayHoldAPart, TouchesItAlone}
use Rattle.keeper_laws.proofs.AloneLemmas.{alone-after, alone-at, alone-before, alone-only}
use Rattle.keeper_laws.proofs.OpenLemmas.{FindsSaved, FindsUnsaved, HasOpened, IsQuiet, quiet-then}

-- ## A file that is saved

-- the same where standard error got no more warnings
pub record BecomesIf (path was file : List ℕ) (old new : List Event) : Type 0 where
  pub now : (start : Place) → (replay start (about path old)).seen ≡ Just (Some was) → (replay start (about path new)).seen ≡ Just (Some file)
  pub after : warnings (errors new) ≤ warnings (errors old) → (start : Place) (found : Option (List ℕ)) → Leaves (may_leave (replay start (about path new))) found → found ≡ Some file
  pub moments : warnings (errors new) ≤ warnings (errors old) → (start : Place) (found : Option (List ℕ)) → Leaves (ever start (about path new)) found
      → (found ≡ Some file) ⊎ Leaves (ever start (about path old)) found
  pub alone : ChangesNoOther path old new

pub now-has : (is : Bool) (durability : Durability) (was file : List ℕ) (old new : List Step) → KeepsFile is durability file old new
    → (start : Place) → (replay start old).seen ≡ Just (Some was) → (replay start new).seen ≡ Just (Some file)
now-has true Certain was file old new kept start had = (kept start).seen
now-has true Unknown was file old new kept start had = (kept start).seen
now-has false Certain was file old new kept start had = (kept start was had).seen
now-has false Unknown was file old new kept start had = absurd kept

-- no note warned of how the file was saved
certain : (is : Bool) (durability : Durability) (before noted told : List (Bool × List ℕ)) → IsPlaceTold is content.Image before noted → IsSyncTold content.Image durability noted told
    → warnings told ≤ warnings before → (is ≡ true) × (durability ≡ Certain)
certain true Certain before noted told place sync few = (refl, refl)
certain true Unknown before noted told place (ok, sync) few =
    let a : warnings noted ≡ warnings before = ap warnings place in
    let b : warnings told ≡ suc (warnings noted) = ap warnings sync in
    absurd (omega (arith, a, b, few))
certain false Certain before noted told (ok, place) sync few =
    let a : warnings noted ≡ suc (warnings before) = ap warnings place in
    let b : warnings told ≡ warnings noted = ap warnings sync in
    absurd (omega (arith, a, b, few))
certain false Unknown before noted told (ok, place) (synced, sync) few =
    let a : warnings noted ≡ suc (warnings before) = ap warnings place in
    let b : warnings told ≡ suc (warnings noted) = ap warnings sync in
    absurd (omega (arith, a, b, few))

pub only-left : (file : List ℕ) (found : Option (List ℕ)) → Leaves (Just (Some file) ∷ []) found → found ≡ Some file
only-left file found (inl is) = is
only-left file found (inr none) = absurd none

pub crash-leaves : (file : List ℕ) (old new : List Step) → IsKept Certain file old new → (start : Place) (found : Option (List ℕ)) → Leaves (may_leave (replay start new)) found → found ≡ Some file
crash-leaves file old new kept start found leaves =
    only-left file found (subst (λ e. Leaves (Just (Some file) ∷ e) found) (kept start).earlier (subst (λ d. Leaves (d ∷ (replay start new).earlier) found) (kept start).on_disk leaves))

pub moment-leaves : (file : List ℕ) (old new : List Step) → AnyMomentOf true file old new → (start : Place) (found : Option (List ℕ)) → Leaves (ever start new) found → (found ≡ Some file) ⊎ Leaves (ever start old) found
moment-leaves file old new moments start found leaves = go (moments start)
  where
    go : IsOldOrNew file (ever start old) (ever start new) ⊎ (true ≡ false) → (found ≡ Some file) ⊎ Leaves (ever start old) found
    go (inl (inl same)) = inr (subst (λ l. Leaves l found) same leaves)
    go (inl (inr one)) = subst (λ l. Leaves l found) one leaves
    go (inr not_so) = absurd (true≢false not_so)

pub becomes-saved : (path was file : List ℕ) (old new : List Event) → HasSaved content.Image path file old new → BecomesIf path was file old new
becomes-saved path was file old new s = record {
  now = now-has (may_replace new) s.durability was file (about path old) (about path new) s.kept;
  after = λ few. crash-leaves file (about path old) (about path new)
      (subst (λ d. KeepsFile true d file (about path old) (about path new)) (sure few).1 (subst (λ b. KeepsFile b s.durability file (about path old) (about path new)) (sure few).0 s.kept));
  moments = λ few. moment-leaves file (about path old) (about path new) (subst (λ b. AnyMomentOf b file (about path old) (about path new)) (sure few).0 s.moments);
  alone = alone-only path old new s.only;
} where
  sure : warnings (errors new) ≤ warnings (errors old) → (may_replace new ≡ true) × (s.durability ≡ Certain)
  sure few = certain (may_replace new) s.durability (errors old) s.noted (errors new) s.place s.sync few

-- ## A volume that is stored

-- the file was written, and is read as it was; or the image had these bytes, and nothing was changed
record IsWritten (image : Image) (bytes was : List ℕ) (old new : List Event) : Type 0 where
  file : List ℕ
  with : IsFileWith image bytes file
  is_held : image.place.is_held ≡ true
  kind : keeps_kind image.judgment file ≡ true
  becomes : BecomesIf image.place.path.bytes.items was file old new

abbrev HasVolume : Image → List ℕ → List ℕ → List Event → List Event → Type 0
HasVolume image bytes was old new = IsWritten image bytes was old new ⊎ ((bytes ≡ image.bytes.items) × ChangesNothing old new)

-- what a save came to, and that its line was to be printed after it
record IsStored (image : Image) (was bytes line : List ℕ) (ok : Bool) (old new : List Event) : Type 0 where
  has : HasVolume image bytes was old new
  prints : output new ≡ (ok, line) ∷ output old
  reads : read new ≡ read old

-- a save that ended well
record IsSavedSo (image : Image) (was bytes : List ℕ) (old new : List Event) : Type 0 where
  has : HasVolume image bytes was old new
  prints : output new ≡ output old
  reads : read new ≡ read old

written : (keeps : Bool) (image : Image) (was bytes file : List ℕ) (old : List Event) (it : Unit {0}) (new : List Event) → keeps_kind image.judgment file ≡ keeps → image.place.is_held ≡ true → IsFileWith image bytes file
    → WritesIf keeps image.judgment image.place.path.bytes.items image.place.name.bytes.items file old (Ok it) new → IsSavedSo image was bytes old new
written true image was bytes file old it new kind is_held with p = record {
  has = inl (record { file = file; with = with; is_held = is_held; kind = kind; becomes = becomes-saved image.place.path.bytes.items was file old new p });
  prints = p.only.prints;
  reads = p.only.reads;
}
written false image was bytes file old it new kind is_held with p = absurd p

saved-so : (is : Bool) (image : Image) (was bytes : List ℕ) (old : List Event) (it : Unit {0}) (new : List Event) → bytes_eq image.bytes.items bytes ≡ is → SavesIf is image bytes old (Ok it) new → IsSavedSo image was bytes old new
saved-so true image was bytes old it new same (done, stays) = record {
  has = inr (sym ((bytes_eq-Decides image.bytes.items bytes).0 same), λ path. ap (λ (n : List Event). changes_at path n) stays);
  prints = ap output stays;
  reads = ap read stays;
}
saved-so false image was bytes old it new same (inl (refused, told)) = absurd refused
saved-so false image was bytes old it new same (inr (is_held, file, with, p)) = written (keeps_kind image.judgment file) image was bytes file old it new refl is_held with p

-- the line is printed after it
printed : (image : Image) (was bytes line : List ℕ) (ok : Bool) (number : ℕ) (old mid new : List Event) → new ≡ print_call ok number line ∷ mid → IsSavedSo image was bytes old mid → IsStored image was bytes line ok old new
printed image was bytes line ok number old mid new is s = subst (λ (n : List Event). IsStored image was bytes line ok old n) (sym is) (record {
  has = go s.has;
  prints = ap (λ (o : List (Bool × List ℕ)). (ok, line) ∷ o) s.prints;
  reads = s.reads;
}) where
  go : HasVolume image bytes was old mid → HasVolume image bytes was old (print_call ok number line ∷ mid)
  go (inl w) = inl (record {
    file = w.file;
    with = w.with;
    is_held = w.is_held;
    kind = w.kind;
    becomes = record {
      now = w.becomes.now;
      after = w.becomes.after;
      moments = w.becomes.moments;
      alone = alone-before image.place.path.bytes.items old mid (print_call ok number line ∷ mid) (λ path. refl) w.becomes.alone;
    };
  })
  go (inr (same, stays)) = inr (same, stays)

-- ## The endings of a save

-- a file that could only be written in its place may hold a part
record IsPart (image : Image) (old new : List Event) : Type 0 where
  is_held : image.place.is_held ≡ true
  in_place : may_replace new ≡ false
  alone : ChangesNoOther image.place.path.bytes.items old new
  prints : output new ≡ output old
  reads : read new ≡ read old

-- the held file of an image, and the one beside it, may be touched, and no other
record IsAlone (image : Image) (old new : List Event) : Type 0 where
  is_held : image.place.is_held ≡ true
  alone : ChangesNoOther image.place.path.bytes.items old new

-- each file is as it was
record StaysAll (image : Image) (old new : List Event) : Type 0 where
  files : (path : List ℕ) → StaysAsItWas (about path old) (about path new)
  touches : ChangesNothing old new ⊎ IsAlone image old new
  prints : output new ≡ output old

-- what each ending of it means
abbrev EndsStore : Image → List ℕ → List ℕ → List ℕ → Result (Unit {0}) Ending → List Event → List Event → Type 0
EndsStore image was bytes line (Ok it) old new = IsStored image was bytes line true old new
EndsStore image was bytes line (Err Unreported) old new = IsStored image was bytes line false old new
EndsStore image was bytes line (Err NoReader) old new = IsStored image was bytes line false old new
EndsStore image was bytes line (Err (NotWritten it AsItWas)) old new = StaysAll image old new
EndsStore image was bytes line (Err (NotWritten it InPart)) old new = IsPart image old new
EndsStore image was bytes line (Err (Line it)) old new = DoesNothing old new
EndsStore image was bytes line (Err (Fault it)) old new = ⊥
EndsStore image was bytes line (Err Failure) old new = ⊥
EndsStore image was bytes line (Err (Busy it)) old new = ⊥
EndsStore image was bytes line (Err FullOutput) old new = ⊥
EndsStore image was bytes line (Err Misuse) old new = ⊥

unchanged : (old new : List Step) → new ≡ old → StaysAsItWas old new
unchanged old new is start = subst (λ (n : List Step). IsAsItWas (replay start old) (replay start n)) (sym is) (record { seen = refl; on_disk = refl; earlier = refl })

-- a note after it leaves each file
told-stay : (image : Image) (why : Reason) (name : List ℕ) (old mid new : List Event) → TellsReason why name mid new → StaysAll image old mid → StaysAll image old new
told-stay image why name old mid new told stay = record {
  files = λ path. subst (λ (s : List Step). StaysAsItWas (about path old) s) (sym (of-file path (reason-keeps why name mid new told path))) (stay.files path);
  touches = go stay.touches;
  prints = unless-output false why name mid new told ∙ stay.prints;
} where
  go : ChangesNothing old mid ⊎ IsAlone image old mid → ChangesNothing old new ⊎ IsAlone image old new
  go (inl none) = inl (λ path. reason-keeps why name mid new told path ∙ none path)
  go (inr it) = inr (record { is_held = it.is_held; alone = alone-before image.place.path.bytes.items old mid new (reason-keeps why name mid new told) it.alone })

-- where the file of one path is as it was, and no other was changed
all-stay : (image : Image) (old new : List Event) → image.place.is_held ≡ true → StaysAsItWas (about image.place.path.bytes.items old) (about image.place.path.bytes.items new)
    → TouchesOnly image.place.path.bytes.items old new → StaysAll image old new
all-stay image old new is_held stays only = record {
  files = λ other. go other (bytes_eq path other) refl;
  touches = inr (record { is_held = is_held; alone = alone-only image.place.path.bytes.items old new only });
  prints = only.prints;
}
  where
    path : List ℕ
    path = image.place.path.bytes.items

    go : (other : List ℕ) (is : Bool) → bytes_eq path other ≡ is → StaysAsItWas (about other old) (about other new)
    go other true same = subst (λ (p : List ℕ). StaysAsItWas (about p old) (about p new)) ((bytes_eq-Decides path other).0 same) stays
    go other false apart = unchanged (about other old) (about other new) (only.others other apart)

idle-stay : (image : Image) (events : List Event) → StaysAll image events events
idle-stay image events = record { files = λ path. unchanged (about path events) (about path events) refl; touches = inl (λ path. refl); prints = refl }

pub told-place : (why : Reason) (name : List ℕ) (mid new : List Event) → TellsReason why name mid new → may_replace new ≡ may_replace mid
told-place why name mid new (text, ok, is, p) = ap may_replace p

pub told-reads : (why : Reason) (name : List ℕ) (mid new : List Event) → TellsReason why name mid new → read new ≡ read mid
told-reads why name mid new (text, ok, is, p) = ap read p

writes-ends : (image : Image) (was bytes line file : List ℕ) (old : List Event) (ending : Ending) (new : List Event) → image.place.is_held ≡ true
    → Writes content.Image image.place.path.bytes.items image.place.name.bytes.items file old (Err ending) new → EndsStore image was bytes line (Err ending) old new
writes-ends image was bytes line file old (NotWritten it AsItWas) new is_held (is, fault, mid, u, told) =
    told-stay image (reason.Fault fault) image.place.name.bytes.items old mid new told (all-stay image old mid is_held u.same u.only)
writes-ends image was bytes line file old (NotWritten it InPart) new is_held (is, fault, mid, u, told) = record {
  is_held = is_held;
  in_place = told-place (reason.Fault fault) image.place.name.bytes.items mid new told ∙ u.in_place;
  alone = alone-before image.place.path.bytes.items old mid new (reason-keeps (reason.Fault fault) image.place.name.bytes.items mid new told)
      (alone-only image.place.path.bytes.items old mid u.only);
  prints = unless-output false (reason.Fault fault) image.place.name.bytes.items mid new told ∙ u.only.prints;
  reads = told-reads (reason.Fault fault) image.place.name.bytes.items mid new told ∙ u.only.reads;
}
writes-ends image was bytes line file old (Line it) new is_held p = absurd p
writes-ends image was bytes line file old (Fault it) new is_held p = absurd p
writes-ends image was bytes line file old Failure new is_held p = absurd p
writes-ends image was bytes line file old (Busy it) new is_held p = absurd p
writes-ends image was bytes line file old FullOutput new is_held p = absurd p
writes-ends image was bytes line file old Unreported new is_held p = absurd p
writes-ends image was bytes line file old NoReader new is_held p = absurd p
writes-ends image was bytes line file old Misuse new is_held p = absurd p

-- a change is refused where the file would be read in another way
kept-ends : (keeps : Bool) (image : Image) (was bytes line file : List ℕ) (old : List Event) (ending : Ending) (new : List Event) → image.place.is_held ≡ true
    → WritesIf keeps image.judgment image.place.path.bytes.items image.place.name.bytes.items file old (Err ending) new → EndsStore image was bytes line (Err ending) old new
kept-ends true image was bytes line file old ending new is_held p = writes-ends image was bytes line file old ending new is_held p
kept-ends false image was bytes line file old ending new is_held (is, ok, p) =
    subst (λ (e : Ending). EndsStore image was bytes line (Err e) old new) (sym is) (λ path. ap (λ (n : List Event). changes_at path n) p, ap output p)

-- an image that can't be saved
cannot-stay : (image : Image) (bytes : List ℕ) (old new : List Event) → TellsCannot image bytes old new → StaysAll image old new
cannot-stay image bytes old new (inl (is_held, told)) = told-stay image (reason.Fault image.place.why) image.place.name.bytes.items old old new told (idle-stay image old)
cannot-stay image bytes old new (inr (cannot, told)) = told-stay image reason.NoRoom image.place.name.bytes.items old old new told (idle-stay image old)

unsaved : (is : Bool) (image : Image) (was bytes line : List ℕ) (old : List Event) (ending : Ending) (new : List Event) → SavesIf is image bytes old (Err ending) new → EndsStore image was bytes line (Err ending) old new
unsaved true image was bytes line old ending new p = absurd p.0
unsaved false image was bytes line old ending new (inl (refused, cannot)) =
    subst (λ (e : Ending). EndsStore image was bytes line (Err e) old new) (sym refused) (cannot-stay image bytes old new cannot)
unsaved false image was bytes line old ending new (inr (is_held, file, with, p)) = kept-ends (keeps_kind image.judgment file) image was bytes line file old ending new is_held p

reported : (image : Image) (was bytes line : List ℕ) (old mid : List Event) (result : Result (Unit {0}) Ending) (new : List Event) → IsSavedSo image was bytes old mid → Reports line mid result new
    → EndsStore image was bytes line result old new
reported image was bytes line old mid (Ok it) new s p = printed image was bytes line true 0 old mid new p s
reported image was bytes line old mid (Err Unreported) new s p = printed image was bytes line false 0 old mid new p s
reported image was bytes line old mid (Err NoReader) new s p = printed image was bytes line false 1 old mid new p s
reported image was bytes line old mid (Err (NotWritten it left)) new s p = absurd p
reported image was bytes line old mid (Err (Line it)) new s p = absurd p
reported image was bytes line old mid (Err (Fault it)) new s p = absurd p
reported image was bytes line old mid (Err Failure) new s p = absurd p
reported image was bytes line old mid (Err (Busy it)) new s p = absurd p
reported image was bytes line old mid (Err FullOutput) new s p = absurd p
reported image was bytes line old mid (Err Misuse) new s p = absurd p

stored : (image : Image) (was bytes line : List ℕ) (old : List Event) (result : Result (Unit {0}) Ending) (new : List Event) → Stores image bytes line old result new → EndsStore image was bytes line result old new
stored image was bytes line old (Ok it) new (inl ends) = absurd ends
stored image was bytes line old (Err ending) new (inl ends) = unsaved (bytes_eq image.bytes.items bytes) image was bytes line old ending new ends
stored image was bytes line old result new (inr it) =
    reported image was bytes line old it.between result new (saved-so (bytes_eq image.bytes.items bytes) image was bytes old it.given it.between refl it.done) it.after

-- ## The endings of a change

-- a change has opened its image, and read no more than this; it is to store these bytes
pub record IsReady (form : ImageForm) (calls : List Event) (image : Image) (bytes line : List ℕ) (old : List Event) (result : Result (Unit {0}) Ending) (new : List Event) : Type 0 where
  pub opened_at : List Event
  pub start : HasOpened form old image opened_at
  pub mid : List Event
  pub quiet : IsQuiet calls opened_at mid
  pub stores : Stores image bytes line mid result new

pub becomes : (path other was file : List ℕ) (calls old mid new : List Event) → IsQuiet calls old mid → path ≡ other → BecomesIf other was file mid new → Becomes path was file old new
becomes path other was file calls old mid new quiet is b = subst (λ (p : List ℕ). Becomes p was file old new) (sym is) (record {
  now = λ start had. b.now start (subst (λ (s : List Step). (replay start s).seen ≡ Just (Some was)) (sym (of-file other (quiet.files other))) had);
  after = λ silent start found leaves. b.after (few silent) start found leaves;
  moments = λ silent start found leaves. subst (λ (s : List Step). (found ≡ Some file) ⊎ Leaves (ever start s) found) (of-file other (quiet.files other)) (b.moments (few silent) start found leaves);
  alone = alone-after other old mid new quiet.files b.alone;
}) where
  few : warnings (errors new) ≡ warnings (errors old) → warnings (errors new) ≤ warnings (errors mid)
  few silent = subst (λ (n : ℕ). n ≤ warnings (errors mid)) (sym silent) quiet.warns

pub held-path : (place : ImagePlace) (name : List ℕ) → place.is_held ≡ true → looked_name place name ≡ place.path.bytes.items
held-path place name is = ap (λ (b : Bool). if b then place.path.bytes.items else name) is

gets-volume : FindsSaved → FindsUnsaved → (form : ImageForm) (image : Image) (bytes : List ℕ) (calls old opened_at mid new : List Event) (o : HasOpened form old image opened_at) → IsQuiet calls old mid
    → HasVolume image bytes o.was mid new → GetsVolume form image o.path o.was bytes old new
gets-volume saves stays form image bytes calls old opened_at mid new o quiet (inl w) = record {
  file = w.file;
  has = inl (w.is_held, w.with, becomes o.path image.place.path.bytes.items o.was w.file calls old mid new quiet (o.path_is ∙ held-path image.place form.file.bytes.items w.is_held) w.becomes);
  found = saves form o.place o.was bytes w.file image o.opening opened_at o.judged w.with w.kind;
}
gets-volume saves stays form image bytes calls old opened_at mid new o quiet (inr (same, none)) = record {
  file = o.was;
  has = inr (same, refl, λ path. none path ∙ quiet.files path);
  found = subst (λ (b : List ℕ). IsFoundAgain form o.was b) (sym same) (stays form o.place o.was image o.opening opened_at o.judged);
}

part-ends : (form : ImageForm) (image : Image) (calls old opened_at mid new : List Event) (o : HasOpened form old image opened_at) → IsQuiet (calls ++ (look_call o.path o.was ∷ [])) old mid
    → read mid ≡ calls ++ (look_call o.path o.was ∷ read old) → IsPart image mid new → MayHoldAPart form old new
part-ends form image calls old opened_at mid new o quiet reads part =
    let path_is : o.path ≡ image.place.path.bytes.items = o.path_is ∙ held-path image.place form.file.bytes.items part.is_held in
    record {
      place = image.place;
      path = o.path;
      held = o.opened.held;
      is_held = part.is_held;
      was = o.was;
      calls = calls;
      reads = part.reads ∙ reads;
      in_place = part.in_place;
      prints = part.prints ∙ quiet.prints;
      alone = alone-at o.path image.place.path.bytes.items old new path_is (alone-after image.place.path.bytes.items old mid new quiet.files part.alone);
    }

stays-after : (form : ImageForm) (image : Image) (calls old opened_at mid new : List Event) (o : HasOpened form old image opened_at) → IsQuiet calls old mid → StaysAll image mid new → AllStay form old new
stays-after form image calls old opened_at mid new o quiet stay = record {
  files = λ path. subst (λ (s : List Step). StaysAsItWas s (about path new)) (of-file path (quiet.files path)) (stay.files path);
  touches = go stay.touches;
  prints = stay.prints ∙ quiet.prints;
} where
  go : ChangesNothing mid new ⊎ IsAlone image mid new → TouchesItAlone form old new
  go (inl none) = inl (λ path. none path ∙ quiet.files path)
  go (inr it) = inr (record {
    place = image.place;
    path = o.path;
    held = o.opened.held;
    is_held = it.is_held;
    alone = alone-at o.path image.place.path.bytes.items old new (o.path_is ∙ held-path image.place form.file.bytes.items it.is_held)
        (alone-after image.place.path.bytes.items old mid new quiet.files it.alone);
  })

-- how the change that was to be stored has ended
pub by-store : FindsSaved → FindsUnsaved → (form : ImageForm) (calls : List Event) (image : Image) (bytes line : List ℕ) (done : Bool → List Event → List Event → Type 0)
    (old : List Event) (result : Result (Unit {0}) Ending) (new : List Event) (r : IsReady form calls image bytes line old result new)
    → ((ok : Bool) → GetsVolume form image r.start.path r.start.was bytes old new → read new ≡ calls ++ (look_call r.start.path r.start.was ∷ read old) → output new ≡ (ok, line) ∷ output old → done ok old new)
    → EndsAs form done result old new
by-store saves stays form calls image bytes line done old result new r f = go result (stored image r.start.was bytes line r.mid result new r.stores)
  where
    whole : List Event
    whole = calls ++ (look_call r.start.path r.start.was ∷ [])

    quiet : IsQuiet whole old r.mid
    quiet = quiet-then (look_call r.start.path r.start.was ∷ []) calls old r.opened_at r.mid r.start.quiet r.quiet

    reads : read r.mid ≡ calls ++ (look_call r.start.path r.start.was ∷ read old)
    reads = r.quiet.reads ∙ ap (λ (l : List Event). calls ++ l) r.start.quiet.reads

    made : (ok : Bool) → IsStored image r.start.was bytes line ok r.mid new → done ok old new
    made ok s = f ok (gets-volume saves stays form image bytes whole old r.opened_at r.mid new r.start quiet s.has)
        (s.reads ∙ reads)
        (s.prints ∙ ap (λ (o : List (Bool × List ℕ)). (ok, line) ∷ o) quiet.prints)

    go : (result : Result (Unit {0}) Ending) → EndsStore image r.start.was bytes line result r.mid new → EndsAs form done result old new
    go (Ok it) s = made true s
    go (Err Unreported) s = made false s
    go (Err NoReader) s = made false s
    go (Err (NotWritten it AsItWas)) s = stays-after form image whole old r.opened_at r.mid new r.start quiet s
    go (Err (NotWritten it InPart)) s = part-ends form image calls old r.opened_at r.mid new r.start quiet reads s
    go (Err (Line it)) s = (λ path. s.0 path ∙ quiet.files path, s.1 ∙ quiet.prints)
    go (Err (Fault it)) s = absurd s
    go (Err Failure) s = absurd s
    go (Err (Busy it)) s = absurd s
    go (Err FullOutput) s = absurd s
    go (Err Misuse) s = absurd s

-- how one that was refused has ended
pub by-refusal : (form : ImageForm) (done : Bool → List Event → List Event → Type 0) (old : List Event) (ending : Ending) (new : List Event) → is_refusal ending ≡ true → DoesNothing old new
    → EndsAs form done (Err ending) old new
by-refusal form done old (Line it) new is stays = stays
by-refusal form done old (Fault it) new is stays = stays
by-refusal form done old Failure new is stays = stays
by-refusal form done old (Busy it) new is stays = stays
by-refusal form done old (NotWritten it left) new is stays = absurd (true≢false (sym is))
by-refusal form done old FullOutput new is stays = absurd (true≢false (sym is))
by-refusal form done old Unreported new is stays = absurd (true≢false (sym is))
by-refusal form done old NoReader new is stays = absurd (true≢false (sym is))
by-refusal form done old Misuse new is stays = stays
