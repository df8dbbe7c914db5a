-- Files that were put are got back.
use Rattle.std.proofs.Common.{◌≡◌, ◌∙◌, ℕ, Bool, true, false, Result, Ok, Err, List, ◌∷◌, length, refl, ap, subst, inl, inr, bytes_eq}
use Rattle.std.specs.Global.{Vec}
use Rattle.std.proofs.lemmas.Slice.Eq.{bytes_eq-Decides}
use Rattle.hosts.specs.Event.{Event, print_call}
use Rattle.hosts.specs.Streams.{changes_at}
use Rattle.archive_files.specs.declared.faults.ArchiveFault.{ArchiveFault}
use Rattle.archive_many.specs.Putting.{PutsAll}
use Rattle.archive_many.specs.declared.putting.ManyImage.{ManyImage}
use Rattle.archive_many.specs.declared.putting.NewFile.{NewFile}
use Rattle.outcome.specs.declared.endings.Ending.{Ending}
use Rattle.program_tasks.specs.declared.forms.ImageForm.{ImageForm}
use Rattle.program_tasks.specs.declared.forms.PutFilesForm.{PutFilesForm}
use Rattle.image_files.specs.Again.{IsFoundAgain, LooksAndFinds, LooksIn}
use Rattle.image_files.specs.Answers.{Answers, AreLines}
use Rattle.image_files.specs.Laws.{ChangesNothing, HasKeptKind}
use Rattle.image_files.specs.Reading.{Looks, LooksAt}
use Rattle.image_files.specs.Saving.{Prints, Saves, SavesIf, Stores}
use Rattle.image_files.specs.Stored.{words_of}
use Rattle.image_files.specs.Work.{Then, Purely}
use Rattle.image_files.specs.declared.images.Image.{Image}
use Rattle.keeper_laws.specs.GettingBack.{HasAfter, LooksAndShows}
use Rattle.put_commands.specs.Putting.{MakesMany, PutsFiles, stored_lines}
use Rattle.put_commands.proofs.PutLemmas.{judges-never}
use Rattle.get_commands.specs.Showing.{Shows}

-- ## What a put that went well has done

-- the new image was made, and then saved, and then its lines were printed
pub record HasPut (form : PutFilesForm) (image : Image) (files : List NewFile) (old new : List Event) : Type 0 where
  pub made : ManyImage
  pub puts : PutsAll image.bytes.items files (words_of form.info) (Ok made)
  pub begun : List Event
  pub ended : List Event
  pub before : ChangesNothing old begun
  pub saves : Saves image made.bytes.items begun (Ok tt) ended
  pub line : List ℕ
  pub told : new ≡ print_call true 0 line ∷ ended

-- the image was saved, and the lines printed
record HasStored (image : Image) (bytes : List ℕ) (old new : List Event) : Type 0 where
  pub ended : List Event
  pub saves : Saves image bytes old (Ok tt) ended
  pub line : List ℕ
  pub told : new ≡ print_call true 0 line ∷ ended

has-stored : (image : Image) (bytes line : List ℕ) (old new : List Event) → Stores image bytes line old (Ok tt) new → HasStored image bytes old new
has-stored image bytes line old new (inl ends) = absurd ends
has-stored image bytes line old new (inr it) = record { ended = it.between; saves = it.done; line = line; told = it.after }

line-stored : (image : Image) (bytes text : List ℕ) (old new : List Event) → Then (Purely (AreLines text)) (λ line. Stores image bytes line.items) old (Ok tt) new → HasStored image bytes old new
line-stored image bytes text old new (inl ends) = absurd ends
line-stored image bytes text old new (inr it) =
    subst (λ (events : List Event). HasStored image bytes events new) it.done.1 (has-stored image bytes it.given.items it.between new it.after)

made-stored : (form : PutFilesForm) (image : Image) (files : List NewFile) (old between new : List Event) → ChangesNothing old between
    → Then (MakesMany form files image.bytes.items) (λ made. Then (Purely (AreLines (stored_lines files made.blocks.items))) (λ lines. Stores image made.bytes.items lines.items)) between (Ok tt) new
    → HasPut form image files old new
made-stored form image files old between new before (inl ends) = absurd ends
made-stored form image files old between new before (inr it) =
    let stored = line-stored image it.given.bytes.items (stored_lines files it.given.blocks.items) it.between new it.after in
    record {
      made = it.given;
      puts = it.done.0;
      begun = it.between;
      ended = stored.ended;
      before = λ path. ap (λ (events : List Event). changes_at path events) it.done.1 ∙ before path;
      saves = stored.saves;
      line = stored.line;
      told = stored.told;
    }

pub has-put : (form : PutFilesForm) (image : Image) (files : List NewFile) (old new : List Event) → PutsFiles form image files old (Ok tt) new → HasPut form image files old new
has-put form image files old new (inl ends) = absurd ends
has-put form image files old new (inr it) =
    made-stored form image files old it.between new (judges-never form files image.bytes.items old (Ok it.given) it.between it.done) it.after

-- ## Files are got back

module _ (form : PutFilesForm) (image : Image) (file : List ℕ) (files : List NewFile) (old new : List Event) (put : HasPut form image files old new)
  where
    -- what the image file has after a put, and that the new image is found in it
    pub record HasIt : Type 0 where
      pub saved : List ℕ
      pub held : HasAfter image.place.path.bytes.items file saved old new
      pub found : IsFoundAgain form.image saved put.made.bytes.items

    -- where the image had the bytes before
    has-before : IsFoundAgain form.image file image.bytes.items → image.bytes.items ≡ put.made.bytes.items → put.ended ≡ put.begun → HasIt
    has-before found same idle = record {
      saved = file;
      held = record { begun = put.begun; ended = put.ended; before = put.before; held = inl (refl, idle); line = put.line; told = put.told };
      found = subst (λ (b : List ℕ). IsFoundAgain form.image file b) same found;
    }

    -- where they were saved
    has-now : (kept : HasKeptKind image put.made.bytes.items put.begun put.ended) → IsFoundAgain form.image kept.file put.made.bytes.items → HasIt
    has-now kept found = record {
      saved = kept.file;
      held = record { begun = put.begun; ended = put.ended; before = put.before; held = inr kept.saved; line = put.line; told = put.told };
      found = found;
    }

    -- what was there is found, and so is what was saved
    pub has-it : IsFoundAgain form.image file image.bytes.items → (bytes_eq image.bytes.items put.made.bytes.items ≡ false → HasKeptKind image put.made.bytes.items put.begun put.ended)
        → ((kept : HasKeptKind image put.made.bytes.items put.begun put.ended) → IsFoundAgain form.image kept.file put.made.bytes.items) → HasIt
    has-it found saves again = either (bytes_eq image.bytes.items put.made.bytes.items) refl where
      either : (is_same : Bool) → bytes_eq image.bytes.items put.made.bytes.items ≡ is_same → HasIt
      either true is = has-before found ((bytes_eq-Decides image.bytes.items put.made.bytes.items).0 is)
          (subst (λ (b : Bool). SavesIf b image put.made.bytes.items put.begun (Ok tt) put.ended) is put.saves).1
      either false is = let kept = saves is in has-now kept (again kept)

-- ## The file is read first

-- steps one after another, in whichever way they are parted
parted : {A B C : Type 0} (first : List Event → Result A Ending → List Event → Type 0) (second : A → List Event → Result B Ending → List Event → Type 0) (third : B → List Event → Result C Ending → List Event → Type 0)
    (old : List Event) (result : Result C Ending) (new : List Event) → Then (Then first second) third old result new → Then first (λ it. Then (second it) third) old result new
parted first second third old (Ok it) new (inl ends) = absurd ends
parted first second third old (Err ending) new (inl (inl ends)) = inl ends
parted first second third old (Err ending) new (inl (inr it)) = inr (record { given = it.given; between = it.between; done = it.done; after = inl it.after })
parted first second third old result new (inr it) = elim it.done [
  | inl ends ↦ absurd ends
  | inr one ↦ inr (record {
    given = one.given;
    between = one.between;
    done = one.done;
    after = inr (record { given = it.given; between = it.between; done = one.after; after = it.after });
  })
]

-- a first step that is done in another way
otherwise : {A B : Type 0} (first other : List Event → Result A Ending → List Event → Type 0) (next : A → List Event → Result B Ending → List Event → Type 0)
    → ((old new : List Event) (result : Result A Ending) → first old result new → other old result new)
    → (old : List Event) (result : Result B Ending) (new : List Event) → Then first next old result new → Then other next old result new
otherwise first other next so old (Ok it) new (inl ends) = absurd ends
otherwise first other next so old (Err ending) new (inl ends) = inl (so old new (Err ending) ends)
otherwise first other next so old result new (inr it) = inr (record { given = it.given; between = it.between; done = so old it.between (Ok it.given) it.done; after = it.after })

pub looks-first : (gives : List ℕ → Result (Vec ℕ) ArchiveFault → Type 0) (form : ImageForm)
    → ((old new : List Event) (result : Result (Vec ℕ) Ending) → LooksAt form old result new → LooksAndFinds form old result new)
    → (old new : List Event) (result : Result (Unit {0}) Ending) → Shows gives form old result new → LooksAndShows gives form old result new
looks-first gives form so old new result p =
    let prints = λ (image : Vec ℕ). Then (Answers (gives image.items) (length image.items)) (λ bytes. Prints bytes.items) in
    parted (Looks form.file.bytes.items form.file.bytes.items) (λ file. LooksIn form file.items) prints old result new
    (otherwise (LooksAt form) (LooksAndFinds form) prints so old result new p)
