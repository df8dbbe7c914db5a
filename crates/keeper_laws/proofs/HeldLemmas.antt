-- A program that holds a file is the only one that changes it.
use Rattle.std.proofs.Common.{◌≡◌, ◌∙◌, ◌&&◌, ◌++◌, ℕ, Bool, true, false, Option, None, Some, Ok, List, [], ◌∷◌, refl, sym, ap, subst, append_assoc, inl, inr}
use Rattle.std.specs.Str.{bytes_eq}
use Rattle.std.proofs.lemmas.Slice.Eq.{bytes_eq-Decides}
use Rattle.hosts.specs.Event.{Event, drop_seconds_call, hold_call, look_call, resolve_call}
use Rattle.hosts.specs.Event as event
use Rattle.hosts.specs.Holding.{Turn, Hold, Look, Change, AllOwn, GoesOn, IsLawful, holder, is_of_path, put_if, turns, with_turn}
use Rattle.outcome.specs.declared.contents.Content.TheVariants as content
use Rattle.program_tasks.specs.declared.forms.ImageForm.{ImageForm}
use Rattle.image_files.specs.Reading.{HoldsAt, JudgesOpened, Looks, Opens, hold_calls, looked_name, with_lock_note}
use Rattle.image_files.specs.Work.{Then}
use Rattle.image_files.specs.declared.images.Image.{Image}
use Rattle.image_files.specs.declared.reading.ImagePlace.{ImagePlace}
use Rattle.keeper_laws.specs.Held.{GoesOnStill, IsHeldSince, calls_of, is_one, with_call}
use Rattle.keeper_laws.proofs.OpenLemmas.{judged-made}

abbrev pub Joint : Type 0
Joint = List (Bool × Option Event)

-- ## Programs that go on

put-goes : (who is : Bool) (turn : Turn) (before : List Turn) → GoesOn who before → GoesOn who (turn ∷ before) → GoesOn who (put_if is turn before)
put-goes who true turn before goes with = with
put-goes who false turn before goes with = goes

turn-goes : (who : Bool) (c : event.Call) (other : Bool) (e : Event) (path : List ℕ) (before : List Turn) → GoesOn who before → GoesOn who (with_turn c other e path before)
turn-goes who event.Hold other e path before goes = put-goes who (bytes_eq e.name path) (Hold other e.ok) before goes goes
turn-goes who event.Look other e path before goes = put-goes who (bytes_eq e.name path) (Look other) before goes goes
turn-goes who (event.Alter change) other e path before goes = put-goes who (bytes_eq e.name path && is_of_path change) (Change other) before goes goes
turn-goes who event.Resolve other e path before goes = goes
turn-goes who event.DropSeconds other e path before goes = goes
turn-goes who event.TakeInput other e path before goes = goes
turn-goes who event.Alone other e path before goes = goes
turn-goes who event.Leads other e path before goes = goes
turn-goes who event.LockBeside other e path before goes = goes
turn-goes who event.Free other e path before goes = goes
turn-goes who event.There other e path before goes = goes
turn-goes who event.MakeFolder other e path before goes = goes
turn-goes who event.Print other e path before goes = goes
turn-goes who event.Tell other e path before goes = goes
turn-goes who event.Terminal other e path before goes = goes
turn-goes who event.Seconds other e path before goes = goes
turn-goes who event.Pause other e path before goes = goes
turn-goes who event.Word other e path before goes = goes
turn-goes who event.EndOfWords other e path before goes = goes
turn-goes who event.TimeOf other e path before goes = goes
turn-goes who event.Same other e path before goes = goes
turn-goes who event.DropLeftovers other e path before goes = goes

still-goes : (who : Bool) (path : List ℕ) (joint : Joint) → GoesOnStill who joint → GoesOn who (turns path joint)
still-goes who path [] goes = tt
still-goes who path ((ended, None) ∷ joint) goes = (goes.0, still-goes who path joint goes.1)
still-goes who path ((other, Some e) ∷ joint) goes = turn-goes who e.call other e path (turns path joint) (still-goes who path joint goes)

newest-go : (who : Bool) (newer older : Joint) → GoesOnStill who (newer ++ older) → GoesOnStill who newer
newest-go who [] older goes = tt
newest-go who ((ended, None) ∷ newer) older goes = (goes.0, newest-go who newer older goes.1)
newest-go who ((other, Some e) ∷ newer) older goes = newest-go who newer older goes

-- ## Where a call stands

record IsFound (who : Bool) (e : Event) (calls : List Event) (joint : Joint) : Type 0 where
  since : Joint
  before : Joint
  parts : joint ≡ since ++ (who, Some e) ∷ before
  are : calls_of who since ≡ calls

none-there : (calls rest : List Event) (e : Event) → [] ≡ calls ++ e ∷ rest → ⊥
none-there [] rest e is = cc
none-there (c ∷ calls) rest e is = cc

same-one : (who other : Bool) → is_one who other ≡ true → other ≡ who
same-one true true is = refl
same-one true false is = cc
same-one false true is = cc
same-one false false is = refl

found : (who : Bool) (e : Event) (calls rest : List Event) (joint : Joint) → calls_of who joint ≡ calls ++ e ∷ rest → IsFound who e calls joint
found who e calls rest [] is = absurd (none-there calls rest e is)
found who e calls rest ((other, None) ∷ joint) is =
    let f = found who e calls rest joint is in
    record { since = (other, None) ∷ f.since; before = f.before; parts = ap (λ (j : Joint). (other, None) ∷ j) f.parts; are = f.are }
found who e calls rest ((other, Some x) ∷ joint) is = go (λ l same. found who e l rest joint same) (is_one who other) refl calls is
  where
    here : other ≡ who → x ≡ e → IsFound who e [] ((other, Some x) ∷ joint)
    here same one = record { since = []; before = joint; parts = ap (λ (w : Bool). (w, Some x) ∷ joint) same ∙ ap (λ (y : Event). (who, Some y) ∷ joint) one; are = refl }

    heads : (a b : Event) (others more : List Event) → a ∷ others ≡ b ∷ more → a ≡ b
    heads a b others more same = cc

    tails : (a b : Event) (others more : List Event) → a ∷ others ≡ b ∷ more → others ≡ more
    tails a b others more same = cc

    go : ((l : List Event) → calls_of who joint ≡ l ++ e ∷ rest → IsFound who e l joint) → (b : Bool) → is_one who other ≡ b → (l : List Event) → with_call b x (calls_of who joint) ≡ l ++ e ∷ rest
        → IsFound who e l ((other, Some x) ∷ joint)
    go more true own [] same = here (same-one who other own) (heads x e (calls_of who joint) rest same)
    go more true own (c ∷ l) same =
        let f = more l (tails x c (calls_of who joint) (l ++ e ∷ rest) same) in
        record {
          since = (other, Some x) ∷ f.since;
          before = f.before;
          parts = ap (λ (j : Joint). (other, Some x) ∷ j) f.parts;
          are = ap (λ (b : Bool). with_call b x (calls_of who f.since)) own ∙ ap (λ (m : List Event). x ∷ m) f.are ∙ ap (λ (y : Event). y ∷ l) (heads x c (calls_of who joint) (l ++ e ∷ rest) same);
        }
    go more false own l same =
        let f = more l same in
        record {
          since = (other, Some x) ∷ f.since;
          before = f.before;
          parts = ap (λ (j : Joint). (other, Some x) ∷ j) f.parts;
          are = ap (λ (b : Bool). with_call b x (calls_of who f.since)) own ∙ f.are;
        }

-- the calls of a program at the end of those of two
calls-join : (who : Bool) (newer older : Joint) → calls_of who (newer ++ older) ≡ calls_of who newer ++ calls_of who older
calls-join who [] older = refl
calls-join who ((other, None) ∷ newer) older = calls-join who newer older
calls-join who ((other, Some e) ∷ newer) older = go (calls-join who newer older) (is_one who other)
  where
    go : calls_of who (newer ++ older) ≡ calls_of who newer ++ calls_of who older → (b : Bool) → with_call b e (calls_of who (newer ++ older)) ≡ with_call b e (calls_of who newer) ++ calls_of who older
    go more true = ap (λ (l : List Event). e ∷ l) more
    go more false = more

-- ## An image that is opened

-- the newest calls before a file was held: one note at most
abbrev lock-notes : Bool → Bool → List Event
lock-notes true ok = []
lock-notes false ok = with_lock_note content.Image false ok []

noted-calls : (has_lock ok : Bool) (old : List Event) → with_lock_note content.Image has_lock ok old ≡ lock-notes has_lock ok ++ old
noted-calls true ok old = refl
noted-calls false ok old = refl

record IsOpenedBy (path : List ℕ) (old new : List Event) : Type 0 where
  was : List ℕ
  has_lock : Bool
  notes : List Event
  rest : List Event
  calls : new ≡ (look_call path was ∷ notes) ++ hold_call path has_lock ∷ rest

held-calls : (name : List ℕ) (place : ImagePlace) (is : Bool) (was : List ℕ) (old mid new : List Event) → is ≡ true → HoldsAt name place is old mid → new ≡ look_call place.path.bytes.items was ∷ mid
    → IsOpenedBy place.path.bytes.items old new
held-calls name place true was old mid new sure (has_lock, ok, p) reads =
    let path = place.path.bytes.items in
    record {
      was = was;
      has_lock = has_lock;
      notes = lock-notes has_lock ok ++ (drop_seconds_call path ∷ []);
      rest = resolve_call name path ∷ old;
      calls = reads ∙ ap (λ (l : List Event). look_call path was ∷ l)
          (p ∙ noted-calls has_lock ok (hold_calls name path has_lock old) ∙ sym (append_assoc (lock-notes has_lock ok) (drop_seconds_call path ∷ []) (hold_call path has_lock ∷ resolve_call name path ∷ old)));
    }
held-calls name place false was old mid new sure p reads = cc

opened-calls : (form : ImageForm) (old : List Event) (image : Image) (new : List Event) → Opens form old (Ok image) new → image.place.is_held ≡ true → IsOpenedBy image.place.path.bytes.items old new
opened-calls form old image new (inl ends) held = absurd ends
opened-calls form old image new (inr one) held = looked one.after
  where
    place : ImagePlace
    place = one.given

    looked : Then (Looks (looked_name place form.file.bytes.items) form.file.bytes.items) (λ file. JudgesOpened place form file.items) one.between (Ok image) new → IsOpenedBy image.place.path.bytes.items old new
    looked (inl ends) = absurd ends
    looked (inr two) =
        let m = judged-made place form two.given.items two.between image new two.after in
        let is_held : place.is_held ≡ true = ap (λ (p : ImagePlace). p.is_held) (sym m.place_is) ∙ held in
        let reads : new ≡ look_call (looked_name place form.file.bytes.items) two.given.items ∷ one.between = m.stays ∙ two.done.1 in
        subst (λ (p : ImagePlace). IsOpenedBy p.path.bytes.items old new) (sym m.place_is)
        (held-calls form.file.bytes.items place place.is_held two.given.items old one.between new is_held one.done.1
        (reads ∙ ap (λ (p : List ℕ). look_call p two.given.items ∷ one.between) (by-held place form.file.bytes.items is_held)))
      where
        by-held : (p : ImagePlace) (name : List ℕ) → p.is_held ≡ true → looked_name p name ≡ p.path.bytes.items
        by-held p name is = rw is refl

-- ## The law

abbrev pub LostUpdates : Type 0
LostUpdates = (path : List ℕ) (who : Bool) (later earlier : Joint) → IsLawful (turns path (later ++ earlier)) → holder (turns path earlier) ≡ Some who → GoesOn who (turns path later) → AllOwn who (turns path later)

holder-put : (who is : Bool) (before : List Turn) → is ≡ true → holder (put_if is (Hold who true) before) ≡ Some who
holder-put who true before is = refl
holder-put who false before is = cc

pub held-since : LostUpdates → (form : ImageForm) (image : Image) (old new : List Event) (who : Bool) (later joint : Joint) → Opens form old (Ok image) new → image.place.is_held ≡ true → calls_of who joint ≡ new
    → IsLawful (turns image.place.path.bytes.items (later ++ joint)) → GoesOnStill who (later ++ joint) → IsHeldSince who image.place.path.bytes.items (later ++ joint)
held-since law form image old new who later joint opens held are lawful goes =
    let path = image.place.path.bytes.items in
    let o = opened-calls form old image new opens held in
    let e = hold_call path o.has_lock in
    let f = found who e (look_call path o.was ∷ o.notes) o.rest joint (are ∙ o.calls) in
    let parts : later ++ joint ≡ (later ++ f.since) ++ (who, Some e) ∷ f.before = ap (λ (j : Joint). later ++ j) f.parts ∙ sym (append_assoc later f.since ((who, Some e) ∷ f.before)) in
    record {
      since = later ++ f.since;
      before = f.before;
      has_lock = o.has_lock;
      parts = parts;
      later = calls_of who later;
      was = o.was;
      notes = o.notes;
      reads = calls-join who later f.since ∙ ap (λ (l : List Event). calls_of who later ++ l) f.are;
      own = law path who (later ++ f.since) ((who, Some e) ∷ f.before) (subst (λ (j : Joint). IsLawful (turns path j)) parts lawful)
          (holder-put who (bytes_eq path path) (turns path f.before) ((bytes_eq-Decides path path).1 refl))
          (still-goes who path (later ++ f.since) (newest-go who (later ++ f.since) ((who, Some e) ∷ f.before) (subst (λ (j : Joint). GoesOnStill who j) parts goes)));
    }
