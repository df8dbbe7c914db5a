-- What a change saved is what the next command reads.
use Rattle.std.proofs.Common.{◌≡◌, ◌∙◌, ℕ, ◌==◌, ◌&&◌, Bool, true, false, Option, None, Some, Result, Ok, Err, List, refl, sym, ap, subst, inl, inr}
use Rattle.std.specs.Global.{Vec}
use Rattle.hosts.specs.Event.{Event}
use Rattle.disk_layouts.specs.Laws.{ReadsWhatItLays}
use Rattle.disk_layouts.specs.declared.layouts.Layout.{Layout}
use Rattle.image_kind.specs.declared.kinds.ImageKind.{ImageKind}
use Rattle.image_kind.specs.Judging.{judged_kind}
use Rattle.image_kind.specs.Keeping.{is_none, is_same_place, is_same_reading, keeps_kind, number_of, two_readings}
use Rattle.image_kind.specs.Margins.{body_by, body_of, margins_by, margins_in}
use Rattle.image_kind.specs.Volumes.{volumes_in, volumes_with}
use Rattle.image_kind.specs.declared.judging.Judgment.{Judgment}
use Rattle.image_kind.specs.declared.margins.Margins.{Margins}
use Rattle.image_kind.specs.declared.volumes.Volumes.{Volumes}
use Rattle.image_kind.specs.declared.volumes.Volumes.TheVariants.{One, Both}
use Rattle.outcome.specs.declared.endings.Ending.{Ending}
use Rattle.program_tasks.specs.declared.forms.ImageForm.{ImageForm}
use Rattle.image_files.specs.Again.{AreAlike, FindsAs, IsFoundAgain, LooksAndFinds, LooksIn, OpensAs}
use Rattle.image_files.specs.Judging.{Judges, JudgesBy}
use Rattle.image_files.specs.Reading.{FindsIn, FindsOne, FindsVolume, JudgesLooked, JudgesOpened, LooksAt, LooksIf, MakesImage, MakesOne, judgment_of, reading_of}
use Rattle.image_files.specs.Saving.{IsFileWith}
use Rattle.image_files.specs.Work.{Then}
use Rattle.image_files.specs.declared.images.Image.{Image}
use Rattle.image_files.specs.declared.reading.ImagePlace.{ImagePlace}
use Rattle.image_files.proofs.VolumeLemmas.{IsIn, body-saved, both-hold, found-as-before, laid-is-found, same-place, same-volumes}

-- ## The steps after a file was read

-- a file of one reading is not refused, and nothing is printed
passes : {A : Type 0} (name : List ℕ) (next : List Event → Result A Ending → List Event → Type 0) (old : List Event) (result : Result A Ending) (new : List Event)
    → Then (JudgesBy name None) (λ it. next) old result new → next old result new
passes name next old (Ok it) new (inl ends) = absurd ends
passes name next old (Err ending) new (inl ends) = absurd ends
passes name next old result new (inr it) = subst (λ (events : List Event). next events result new) it.done it.after

judged : {A : Type 0} (name : List ℕ) (two : Option (ImageKind × ImageKind)) (next : List Event → Result A Ending → List Event → Type 0) (old : List Event) (result : Result A Ending) (new : List Event)
    → two ≡ None → Then (JudgesBy name two) (λ it. next) old result new → next old result new
judged name two next old result new single p =
    passes name next old result new (subst (λ (t : Option (ImageKind × ImageKind)). Then (JudgesBy name t) (λ it. next) old result new) single p)

makes-as : (volume : Option Layout) (place : ImagePlace) (judgment : Judgment) (margins : Margins) (file bytes : List ℕ) (result : Result Image Ending) → IsIn volume (body_by margins file) bytes
    → MakesImage place judgment volume margins file result → OpensAs bytes result
makes-as volume place judgment margins file bytes (Ok image) inside (at, taken, is, parted) = inside.is image.bytes.items image.disk is
makes-as volume place judgment margins file bytes (Err ending) inside (inl none) = inside.lacks ending none
makes-as volume place judgment margins file bytes (Err ending) inside (inr (has, is)) = inl is

finds-as : (volume : Option Layout) (body bytes : List ℕ) (result : Result (Vec ℕ) Ending) → IsIn volume body bytes → FindsVolume volume body result → FindsAs bytes result
finds-as volume body bytes (Ok found) inside (disk, is) = inside.is found.items disk is
finds-as volume body bytes (Err ending) inside none = inside.lacks ending none

-- a file has one reading, and one volume, in which these bytes are found
record IsOne (layout : Option Layout) (is_plain : Bool) (file bytes : List ℕ) : Type 0 where
  pub volume : Option Layout
  pub single : two_readings layout is_plain file ≡ None
  pub volumes : volumes_in layout is_plain file ≡ One volume
  pub inside : IsIn volume (body_of layout is_plain file) bytes

opens-one : (layout : Option Layout) (is_plain : Bool) (name : List ℕ) (place : ImagePlace) (judgment : Judgment) (file bytes : List ℕ) (old : List Event) (result : Result Image Ending) (new : List Event)
    → IsOne layout is_plain file bytes → Then (Judges name layout is_plain file) (λ it. MakesOne place judgment (volumes_in layout is_plain file) (margins_in layout is_plain file) file) old result new
    → OpensAs bytes result × (new ≡ old)
opens-one layout is_plain name place judgment file bytes old result new one p =
    let made = judged name (two_readings layout is_plain file) (MakesOne place judgment (volumes_in layout is_plain file) (margins_in layout is_plain file) file) old result new one.single p in
    let only = subst (λ (v : Volumes). MakesOne place judgment v (margins_in layout is_plain file) file old result new) one.volumes made in
    (makes-as one.volume place judgment (margins_in layout is_plain file) file bytes result one.inside only.0, only.1)

looks-one : (layout : Option Layout) (is_plain : Bool) (name file bytes : List ℕ) (old : List Event) (result : Result (Vec ℕ) Ending) (new : List Event)
    → IsOne layout is_plain file bytes → Then (Judges name layout is_plain file) (λ it. FindsOne layout is_plain file) old result new → FindsAs bytes result × (new ≡ old)
looks-one layout is_plain name file bytes old result new one p =
    let found = judged name (two_readings layout is_plain file) (FindsOne layout is_plain file) old result new one.single p in
    let only = subst (λ (v : Volumes). FindsIn v (body_of layout is_plain file) old result new) one.volumes found in
    (finds-as one.volume (body_of layout is_plain file) bytes result one.inside only.0, only.1)

-- so it is by a form that is alike
alike : (one other : ImageForm) (file bytes : List ℕ) → AreAlike one other → IsOne one.layout one.is_plain file bytes → IsOne other.layout other.is_plain file bytes
alike one other file bytes (layout, plain) is =
    subst (λ (p : Bool). IsOne other.layout p file bytes) (sym plain) (subst (λ (l : Option Layout). IsOne l one.is_plain file bytes) (sym layout) is)

found-again : (form : ImageForm) (file bytes : List ℕ) → IsOne form.layout form.is_plain file bytes → IsFoundAgain form file bytes
found-again form file bytes one = record {
  single = one.single;
  opened = λ again place old new result same p.
      opens-one again.layout again.is_plain again.file.bytes.items place (judgment_of again file) file bytes old result new (alike form again file bytes same one) p;
  looked = λ again old new result same p. looks-one again.layout again.is_plain again.file.bytes.items file bytes old result new (alike form again file bytes same one) p;
}

-- ## What was opened

-- an image was made of the one volume of a file of one reading
record HasOpened (form : ImageForm) (place : ImagePlace) (file : List ℕ) (image : Image) : Type 0 where
  pub volume : Option Layout
  pub single : two_readings form.layout form.is_plain file ≡ None
  pub volumes : volumes_in form.layout form.is_plain file ≡ One volume
  pub made : MakesImage place (judgment_of form file) volume (margins_in form.layout form.is_plain file) file (Ok image)

single-of : (name : List ℕ) (two : Option (ImageKind × ImageKind)) (old new : List Event) → JudgesBy name two old (Ok tt) new → two ≡ None
single-of name None old new p = refl
single-of name (Some two) old new p = absurd p

one-of : (place : ImagePlace) (judgment : Judgment) (volumes : Volumes) (margins : Margins) (file : List ℕ) (old : List Event) (image : Image) (new : List Event)
    → MakesOne place judgment volumes margins file old (Ok image) new → (volume : Option Layout) × (volumes ≡ One volume) × MakesImage place judgment volume margins file (Ok image)
one-of place judgment (One volume) margins file old image new p = (volume, refl, p.0)
one-of place judgment Both margins file old image new p = absurd p

has-opened : (form : ImageForm) (place : ImagePlace) (file : List ℕ) (image : Image) (old new : List Event) → JudgesOpened place form file old (Ok image) new → HasOpened form place file image
has-opened form place file image old new (inl ends) = absurd ends
has-opened form place file image old new (inr it) =
    let one = one-of place (judgment_of form file) (volumes_in form.layout form.is_plain file) (margins_in form.layout form.is_plain file) file it.between image new it.after in
    record { volume = one.0; single = single-of form.file.bytes.items (two_readings form.layout form.is_plain file) old it.between it.done; volumes = one.1; made = one.2 }

-- ## What is found again

pub unsaved-again : (form : ImageForm) (place : ImagePlace) (file : List ℕ) (image : Image) (old new : List Event) → JudgesOpened place form file old (Ok image) new
    → IsFoundAgain form file image.bytes.items
unsaved-again form place file image old new p =
    let opened = has-opened form place file image old new p in
    found-again form file image.bytes.items (record {
      volume = opened.volume;
      single = opened.single;
      volumes = opened.volumes;
      inside = found-as-before opened.volume (body_of form.layout form.is_plain file) image.bytes.items image.disk opened.made.2;
    })

no-two : (two : Option (ImageKind × ImageKind)) → is_none two ≡ true → two ≡ None
no-two None is = refl
no-two (Some two) is = absurd (cc)

-- a file that keeps its kind has the same volumes in the same place
record IsKept (layout : Option Layout) (is_plain : Bool) (file saved : List ℕ) : Type 0 where
  pub single : two_readings layout is_plain saved ≡ None
  pub volumes : volumes_in layout is_plain saved ≡ volumes_in layout is_plain file
  pub margins : margins_in layout is_plain saved ≡ margins_in layout is_plain file

is-kept : (layout : Option Layout) (is_plain : Bool) (file saved : List ℕ)
    → (is_same_reading layout (judged_kind is_plain file) (judged_kind is_plain saved) && is_none (two_readings layout is_plain saved)) ≡ true → IsKept layout is_plain file saved
is-kept layout is_plain file saved keeps =
    let one = judged_kind is_plain file in
    let other = judged_kind is_plain saved in
    let both = both-hold (is_same_reading layout one other) (is_none (two_readings layout is_plain saved)) keeps in
    let same = both-hold (number_of (volumes_with layout one) == number_of (volumes_with layout other)) (is_same_place (margins_by layout one) (margins_by layout other)) both.0 in
    record {
      single = no-two (two_readings layout is_plain saved) both.1;
      volumes = same-volumes (volumes_with layout one) (volumes_with layout other) same.0;
      margins = same-place (margins_by layout one) (margins_by layout other) same.1;
    }

pub saved-again : ReadsWhatItLays → (form : ImageForm) (place : ImagePlace) (file bytes saved : List ℕ) (image : Image) (old new : List Event) → JudgesOpened place form file old (Ok image) new
    → IsFileWith image bytes saved → keeps_kind image.judgment saved ≡ true → IsFoundAgain form saved bytes
saved-again law form place file bytes saved image old new p (body, laid, around) keeps =
    let opened = has-opened form place file image old new p in
    let kept = is-kept form.layout form.is_plain file saved (subst (λ (j : Judgment). keeps_kind j saved ≡ true) opened.made.1 keeps) in
    let margins = margins_in form.layout form.is_plain file in
    let same : body_of form.layout form.is_plain saved ≡ body =
    ap (λ (m : Margins). body_by m saved) kept.margins ∙ body-saved margins file image.parts body saved opened.made.3 around in
    found-again form saved bytes (record {
      volume = opened.volume;
      single = kept.single;
      volumes = kept.volumes ∙ opened.volumes;
      inside = subst (λ (b : List ℕ). IsIn opened.volume b bytes) (sym same)
          (laid-is-found law opened.volume (body_by margins file) image.bytes.items bytes body image.disk opened.made.2 laid);
    })

-- ## A file is looked at first

-- a file that was judged so, and its volume found
judges-then-finds : (form : ImageForm) (looked file : Vec ℕ) (old between : List Event) (result : Result (Vec ℕ) Ending) (new : List Event)
    → JudgesLooked (reading_of form) form.file.bytes.items looked old (Ok file) between → FindsOne form.layout form.is_plain file.items between result new → LooksIn form looked.items old result new
judges-then-finds form looked file old between result new (inl ends) found = absurd ends
judges-then-finds form looked file old between result new (inr it) found =
    let pure = it.after in
    inr (record {
      given = it.given;
      between = it.between;
      done = it.done;
      after = subst (λ (f : Vec ℕ). FindsOne form.layout form.is_plain f.items it.between result new) pure.0
          (subst (λ (events : List Event). FindsOne form.layout form.is_plain file.items events result new) pure.1 found);
    })

-- one that is refused
judges-no-more : (form : ImageForm) (looked : Vec ℕ) (old : List Event) (ending : Ending) (new : List Event) → JudgesLooked (reading_of form) form.file.bytes.items looked old (Err ending) new
    → LooksIn form looked.items old (Err ending) new
judges-no-more form looked old ending new (inl ends) = inl ends
judges-no-more form looked old ending new (inr it) = absurd it.after.0

looks-strictly : (form : ImageForm) (is_lenient : Bool) → is_lenient ≡ false → (old : List Event) (result : Result (Vec ℕ) Ending) (new : List Event)
    → Then (Then (LooksIf is_lenient form.layout form.is_plain form.file.bytes.items) (λ file. JudgesLooked (reading_of form) form.file.bytes.items file)) (λ file. FindsOne form.layout form.is_plain file.items) old result new
    → LooksAndFinds form old result new
looks-strictly form true strict old result new p = absurd (cc)
looks-strictly form false strict old (Ok it) new (inl ends) = absurd ends
looks-strictly form false strict old (Err ending) new (inl (inl ends)) = inl ends
looks-strictly form false strict old (Err ending) new (inl (inr it)) =
    inr (record { given = it.given; between = it.between; done = it.done; after = judges-no-more form it.given it.between ending new it.after })
looks-strictly form false strict old result new (inr it) = elim it.done [
  | inl ends ↦ absurd ends
  | inr first ↦ inr (record {
    given = first.given;
    between = first.between;
    done = first.done;
    after = judges-then-finds form first.given it.given first.between it.between result new first.after it.after;
  })
]

pub looks-at-first : (form : ImageForm) (old new : List Event) (result : Result (Vec ℕ) Ending) → form.is_lenient ≡ false → LooksAt form old result new → LooksAndFinds form old result new
looks-at-first form old new result strict p = looks-strictly form form.is_lenient strict old result new p
