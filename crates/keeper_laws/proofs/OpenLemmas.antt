-- The steps of a change before its save: they write nothing, and an image file is opened.
use Rattle.std.proofs.Common.{◌≡◌, ◌∙◌, ◌≤◌, ℕ, Bool, true, false, Option, None, Some, Result, Ok, List, [], ◌∷◌, ◌++◌, refl, sym, ap, subst, arith, inl, inr, append_assoc}
use Rattle.hosts.specs.Event.{Event, look_call, tell_call}
use Rattle.hosts.specs.Streams.{errors, output, read}
use Rattle.image_kind.specs.declared.kinds.ImageKind.{ImageKind}
use Rattle.image_kind.specs.Keeping.{keeps_kind, two_readings}
use Rattle.image_kind.specs.Margins.{margins_by, margins_in}
use Rattle.image_kind.specs.Volumes.{script_kind, volumes_in, volumes_with}
use Rattle.image_kind.specs.declared.judging.Judgment.{Judgment}
use Rattle.image_kind.specs.declared.margins.Margins.{Margins}
use Rattle.image_kind.specs.declared.volumes.Volumes.{Volumes}
use Rattle.image_kind.specs.declared.volumes.Volumes.TheVariants.{One, Both}
use Rattle.outcome.specs.Contents.{content_name}
use Rattle.outcome.specs.Notes.{file_text}
use Rattle.outcome.specs.declared.contents.Content.TheVariants as content
use Rattle.outcome.specs.declared.endings.Ending.{Ending}
use Rattle.outcome.specs.declared.notes.FileNote.TheVariants.{NoLock}
use Rattle.program_tasks.specs.declared.forms.ImageForm.{ImageForm}
use Rattle.image_files.specs.Again.{IsFoundAgain}
use Rattle.image_files.specs.Judging.{JudgesBy}
use Rattle.image_files.specs.Laws.{ChangesNothing}
use Rattle.image_files.specs.Reading.{Holds, HoldsAt, JudgesForScript, JudgesOpened, Looks, MakesOne, Opens, OpensForScript, judgment_of, looked_name}
use Rattle.image_files.specs.Saving.{IsFileWith}
use Rattle.image_files.specs.Work.{Then}
use Rattle.image_files.specs.declared.images.Image.{Image}
use Rattle.image_files.specs.declared.reading.ImagePlace.{ImagePlace}
use Rattle.keeper_laws.specs.Changed.{IsHeldAt, IsOpened, IsVolumeBy, is_warning, warnings, with_warning}
use Rattle.keeper_laws.specs.Ended.{ReadsHeld}

-- ## Steps that write nothing

-- no file is written, nothing is printed on standard output, standard error keeps what it got, and these calls read
pub record IsQuiet (calls old new : List Event) : Type 0 where
  pub files : ChangesNothing old new
  pub prints : output new ≡ output old
  pub warns : warnings (errors old) ≤ warnings (errors new)
  pub reads : read new ≡ calls ++ read old

pub equal : (n : ℕ) → n ≤ n
equal n = omega arith

pub more-warnings : (is : Bool) (n : ℕ) → n ≤ with_warning is n
more-warnings true n = omega arith
more-warnings false n = omega arith

pub still : (old new : List Event) → new ≡ old → IsQuiet [] old new
still old new is = subst (λ (n : List Event). IsQuiet [] old n) (sym is) (record { files = λ path. refl; prints = refl; warns = equal (warnings (errors old)); reads = refl })

pub after-note : (ok : Bool) (text : List ℕ) (old new : List Event) → new ≡ tell_call ok text ∷ old → IsQuiet [] old new
after-note ok text old new is =
    subst (λ (n : List Event). IsQuiet [] old n) (sym is) (record { files = λ path. refl; prints = refl; warns = more-warnings (is_warning text) (warnings (errors old)); reads = refl })

pub quiet-then : (first second old mid new : List Event) → IsQuiet first old mid → IsQuiet second mid new → IsQuiet (second ++ first) old new
quiet-then first second old mid new a b = record {
  files = λ path. b.files path ∙ a.files path;
  prints = b.prints ∙ a.prints;
  warns = omega (arith, a.warns, b.warns);
  reads = b.reads ∙ ap (λ (r : List Event). second ++ r) a.reads ∙ sym (append_assoc second first (read old));
}

-- a step that succeeds writes and prints nothing, and reads nothing
abbrev pub StaysQuiet : {A : Type 0} → (List Event → Result A Ending → List Event → Type 0) → Type 0
StaysQuiet {A} step = (old : List Event) (it : A) (new : List Event) → step old (Ok it) new → IsQuiet [] old new

-- ## An image file that is opened

pub held : (name : List ℕ) (place : ImagePlace) (is_held : Bool) (old new : List Event) → HoldsAt name place is_held old new → IsQuiet [] old new
held name place true old new (true, ok, p) =
    subst (λ (n : List Event). IsQuiet [] old n) (sym p) (record { files = λ path. refl; prints = refl; warns = equal (warnings (errors old)); reads = refl })
held name place true old new (false, ok, p) =
    subst (λ (n : List Event). IsQuiet [] old n) (sym p)
    (record { files = λ path. refl; prints = refl; warns = more-warnings (is_warning (file_text NoLock (content_name content.Image))) (warnings (errors old)); reads = refl })
held name place false old new (idle, failed, why, may) = record {
  files = idle.files;
  prints = idle.prints;
  warns = subst (λ (e : List (Bool × List ℕ)). warnings (errors old) ≤ warnings e) (sym idle.tells) (equal (warnings (errors old)));
  reads = idle.reads;
}

pub judged : (name : List ℕ) (two : Option (ImageKind × ImageKind)) (old : List Event) (it : Unit {0}) (new : List Event) → JudgesBy name two old (Ok it) new → new ≡ old
judged name None old it new p = p
judged name (Some two) old it new p = absurd p

pub record IsMade (place : ImagePlace) (volumes : Volumes) (margins : Margins) (file : List ℕ) (old : List Event) (image : Image) (new : List Event) : Type 0 where
  pub place_is : image.place ≡ place
  pub volume : IsVolumeBy volumes margins file image
  pub stays : new ≡ old

made-of : (place : ImagePlace) (judgment : Judgment) (volumes : Volumes) (margins : Margins) (file : List ℕ) (old : List Event) (image : Image) (new : List Event)
    → MakesOne place judgment volumes margins file old (Ok image) new → IsMade place volumes margins file old image new
made-of place judgment (One layout) margins file old image new ((is, taken, volume, parts), p) = record { place_is = is; volume = (volume, parts); stays = p }
made-of place judgment Both margins file old image new p = absurd p

pub judged-made : (place : ImagePlace) (form : ImageForm) (file : List ℕ) (old : List Event) (image : Image) (new : List Event) → JudgesOpened place form file old (Ok image) new
    → IsMade place (volumes_in form.layout form.is_plain file) (margins_in form.layout form.is_plain file) file old image new
judged-made place form file old image new (inl ends) = absurd ends
judged-made place form file old image new (inr it) =
    let m = made-of place (judgment_of form file) (volumes_in form.layout form.is_plain file) (margins_in form.layout form.is_plain file) file it.between image new it.after in
    record { place_is = m.place_is; volume = m.volume; stays = m.stays ∙ judged form.file.bytes.items (two_readings form.layout form.is_plain file) old it.given it.between it.done }

-- what was opened is found again, with the bytes that are saved or as it was
abbrev pub FindsSaved : Type 0
FindsSaved = (form : ImageForm) (place : ImagePlace) (file bytes saved : List ℕ) (image : Image) (old new : List Event) → JudgesOpened place form file old (Ok image) new
    → IsFileWith image bytes saved → keeps_kind image.judgment saved ≡ true → IsFoundAgain form saved bytes

abbrev pub FindsUnsaved : Type 0
FindsUnsaved = (form : ImageForm) (place : ImagePlace) (file : List ℕ) (image : Image) (old new : List Event) → JudgesOpened place form file old (Ok image) new
    → IsFoundAgain form file image.bytes.items

-- an image file was opened, and so its file was read
pub record HasOpened (form : ImageForm) (old : List Event) (image : Image) (new : List Event) : Type 0 where
  pub path : List ℕ
  pub was : List ℕ
  pub path_is : path ≡ looked_name image.place form.file.bytes.items
  pub opened : IsOpened form path was image old
  pub quiet : IsQuiet (look_call path was ∷ []) old new
  pub place : ImagePlace
  pub opening : List Event
  pub judged : JudgesOpened place form was opening (Ok image) new

looked : (form : ImageForm) (place : ImagePlace) (old mid : List Event) (image : Image) (new : List Event) → IsHeldAt form place (looked_name place form.file.bytes.items) old → IsQuiet [] old mid
    → Then (Looks (looked_name place form.file.bytes.items) form.file.bytes.items) (λ file. JudgesOpened place form file.items) mid (Ok image) new → HasOpened form old image new
looked form place old mid image new at h (inl ends) = absurd ends
looked form place old mid image new at h (inr two) =
    let file = two.given.items in
    let path = looked_name place form.file.bytes.items in
    let m = judged-made place form file two.between image new two.after in
    let all : new ≡ look_call path file ∷ mid = m.stays ∙ two.done.1 in
    record {
      path = path;
      was = file;
      path_is = ap (λ (p : ImagePlace). looked_name p form.file.bytes.items) (sym m.place_is);
      opened = record { held = subst (λ (p : ImagePlace). IsHeldAt form p path old) (sym m.place_is) at; volume = m.volume };
      quiet = quiet-then [] (look_call path file ∷ []) old mid new h
          (subst (λ (n : List Event). IsQuiet (look_call path file ∷ []) mid n) (sym all) (record { files = λ it. refl; prints = refl; warns = equal (warnings (errors mid)); reads = refl }));
      place = place;
      opening = two.between;
      judged = two.after;
    }

pub has-opened : (form : ImageForm) (old : List Event) (image : Image) (new : List Event) → Opens form old (Ok image) new → HasOpened form old image new
has-opened form old image new (inl ends) = absurd ends
has-opened form old image new (inr it) =
    looked form it.given old it.between image new (it.between, it.done, refl) (held form.file.bytes.items it.given it.given.is_held old it.between it.done.1) it.after

-- ## The file is held first

-- a step that finds a volume in bytes, and asks nothing of the host where it does
abbrev FindsIn : (ImagePlace → List ℕ → List Event → Result Image Ending → List Event → Type 0) → Type 0
FindsIn judges = (place : ImagePlace) (file : List ℕ) (old : List Event) (image : Image) (new : List Event) → judges place file old (Ok image) new → (image.place ≡ place) × (new ≡ old)

-- an image file is held before it is read
held-first : (form : ImageForm) (judges : ImagePlace → List ℕ → List Event → Result Image Ending → List Event → Type 0) → FindsIn judges → (old : List Event) (image : Image) (new : List Event)
    → Then (Holds form.file.bytes.items) (λ place. Then (Looks (looked_name place form.file.bytes.items) form.file.bytes.items) (λ file. judges place file.items)) old (Ok image) new → ReadsHeld form image old new
held-first form judges finds old image new (inl ends) = absurd ends
held-first form judges finds old image new (inr it) = read it.after where
  read : Then (Looks (looked_name it.given form.file.bytes.items) form.file.bytes.items) (λ file. judges it.given file.items) it.between (Ok image) new → ReadsHeld form image old new
  read (inl ends) = absurd ends
  read (inr two) =
      let found = finds it.given two.given.items two.between image new two.after in
      record {
        begun = it.between;
        held = subst (λ (p : ImagePlace). Holds form.file.bytes.items old (Ok p) it.between) (sym found.0) it.done;
        was = two.given.items;
        reads = found.1 ∙ two.done.1 ∙ ap (λ (p : ImagePlace). look_call (looked_name p form.file.bytes.items) two.given.items ∷ it.between) (sym found.0);
      }

pub reads-held : (form : ImageForm) (old : List Event) (image : Image) (new : List Event) → Opens form old (Ok image) new → ReadsHeld form image old new
reads-held form = held-first form (λ place file. JudgesOpened place form file) finds where
  finds : FindsIn (λ place file. JudgesOpened place form file)
  finds place file old image new p = let m = judged-made place form file old image new p in (m.place_is, m.stays)

-- the same of an image that a script runs over
pub script-held : (form : ImageForm) (old : List Event) (image : Image) (new : List Event) → OpensForScript form old (Ok image) new → ReadsHeld form image old new
script-held form = held-first form (λ place file. JudgesForScript place form file) finds where
  finds : FindsIn (λ place file. JudgesForScript place form file)
  finds place file old image new (inl ends) = absurd ends
  finds place file old image new (inr it) =
      let m = made-of place (judgment_of form file) (volumes_with form.layout (script_kind form.is_plain file)) (margins_by form.layout (script_kind form.is_plain file)) file it.between image new it.after in
      (m.place_is, m.stays ∙ judged form.file.bytes.items (two_readings form.layout form.is_plain file) old it.given it.between it.done)
