-- A volume to which the files that words choose are copied.
use Rattle.std.proofs.Common.{◌≡◌, ◌∙◌, ℕ, Bool, true, false, true≢false, if◌then◌else◌, cond, eqb, Option, Some, None, Result, Ok, Err, List, [], ◌∷◌, map, refl, sym, ap, subst, inl, inr}
use Rattle.std.specs.FinMap.{get}
use Rattle.std.specs.Global.{Vec}
use Rattle.std.proofs.lemmas.List.{append-nil}
use Rattle.std.proofs.lemmas.Bool.Decides.{eqb_tells}
use Rattle.volume_image.specs.Image.{IsImageOf, WrittenIsReadBack}
use Rattle.os8_dir.specs.Entries.{DirectoryState, contains}
use Rattle.os8_dir.specs.Names.{with_end_zeros}
use Rattle.os8_dir.specs.Found.{FilePlace, files_at, find}
use Rattle.os8_dir.specs.Files.{FileData, Files, files_of}
use Rattle.os8_dir.specs.Reading.{directory_of}
use Rattle.name_spelling.specs.Patterns.{is_like_one}
use Rattle.os8_files.specs.Calls.{info_of}
use Rattle.archive_files.specs.Opening.{IsOpened}
use Rattle.archive_files.specs.Asking.{AtBlock, AreAsked, asked_name}
use Rattle.archive_files.specs.Copying.{HasCopied}
use Rattle.archive_files.specs.declared.faults.ArchiveFault.{ArchiveFault}
use Rattle.archive_files.specs.declared.putting.NewImage.{NewImage}
use Rattle.archive_files.proofs.LawLemmas.{get-with, one_volume, some_eq}
use Rattle.archive_many.specs.Copying.{AreCopied, CopiesAll, IsNotCopied, KeepsOut}
use Rattle.archive_many.specs.CopySteps.{CopiesEach, CopiesNext}
use Rattle.archive_many.specs.Laws.{copy_or, copy_with}
use Rattle.archive_many.specs.Opened.{files_in, files_on, files_or}
use Rattle.archive_many.specs.Wishing.{asked_by_words, by_place, first_unfound, found_files, once, wishes_of}
use Rattle.archive_many.specs.declared.faults.CopyAllFault.{CopyAllFault}
use Rattle.archive_many.specs.declared.faults.CopyAllFault.TheVariants as copying
use Rattle.archive_many.specs.declared.opened.VolumeFile.{VolumeFile}
use Rattle.archive_many.specs.declared.wishes.Wish.{Wish}
use Rattle.archive_many.proofs.FileLemmas.{FoundSo, SoundSo}
use Rattle.archive_many.proofs.GoneLemmas.{chosen-there, none-there, read-so}

-- ## All or none

not-to : (from to : List ℕ) (other : Option (List ℕ)) (files : List VolumeFile) (fault : ArchiveFault) → IsNotCopied from to other files (copying.To fault) → ⊥
not-to from to other [] fault is = is
not-to from to other (f ∷ files) fault (inl here) = cc
not-to from to other (f ∷ files) fault (inr later) = not-to from later.0.bytes.items other files fault later.2

not-older : (from to : List ℕ) (other : Option (List ℕ)) (files : List VolumeFile) (file : VolumeFile) → IsNotCopied from to other files (copying.Exists file) → ⊥
not-older from to other [] file is = is
not-older from to other (f ∷ files) file (inl here) = cc
not-older from to other (f ∷ files) file (inr later) = not-older from later.0.bytes.items other files file later.2

-- what becomes of the files one after the other becomes of all
pub all-or-none : (from to : List ℕ) (other : Option (List ℕ)) (files : List VolumeFile) (is_forced : Bool) (result : Result (Vec ℕ) CopyAllFault) → KeepsOut is_forced to files None
    → CopiesEach from to other files result → CopiesAll from to other files is_forced result
all-or-none from to other files is_forced (Ok new) keeps is = (keeps, is)
all-or-none from to other files is_forced (Err (copying.To fault)) keeps is = absurd (not-to from to other files fault is)
all-or-none from to other files is_forced (Err (copying.Exists file)) keeps is = absurd (not-older from to other files file is)
all-or-none from to other files is_forced (Err (copying.File file why)) keeps is = (keeps, is)
all-or-none from to other files is_forced (Err copying.Memory) keeps is = tt

-- a file that is copied, and then the others
pub copied-next : (from to image : List ℕ) (other : Option (List ℕ)) (file : VolumeFile) (files : List VolumeFile) (result : Result (Vec ℕ) CopyAllFault)
    → (next : NewImage) × HasCopied from (AtBlock file.place) to other next × (image ≡ next.bytes.items) → CopiesEach from image other files result → CopiesEach from to other (file ∷ files) result
copied-next from to image other file files (Ok new) one is = (one.0, one.1, subst (λ (l : List ℕ). AreCopied from l other files new.items) one.2 is)
copied-next from to image other file files (Err fault) one is = inr (one.0, one.1, subst (λ (l : List ℕ). IsNotCopied from l other files fault) one.2 is)

-- a file that can't be put
pub not-copied-next : (from to : List ℕ) (other : Option (List ℕ)) (file : VolumeFile) (files : List VolumeFile) (fault : CopyAllFault) → CopiesNext from to other file (Err fault)
    → CopiesEach from to other (file ∷ files) (Err fault)
not-copied-next from to other file files (copying.To fault) is = absurd is
not-copied-next from to other file files (copying.Exists older) is = absurd is
not-copied-next from to other file files (copying.File one why) is = inl (why, is.1, ap (λ f. copying.File f why) is.0)
not-copied-next from to other file files copying.Memory is = absurd is

-- ## The law

-- the files are asked for by these names, and the volume has the copies of the files of these names
record Copied (source old : List (List ℕ)) (files : List VolumeFile) (new : List ℕ) : Type 0 where
  blocks : List (List ℕ)
  is_image : IsImageOf new blocks
  info : info_of blocks ≡ info_of old
  numbers : List ℕ
  asked : AreAsked source (map by_place files) numbers
  has : (q : ℕ) → get (files_of blocks) q ≡ (if contains numbers q then copy_or (info_of old) (get (files_of source) q) (get (files_of old) q) else get (files_of old) q)

-- one more copy, whether or not it is the file of the name
one-more : (here more : Bool) (info : ℕ) (held : FileData) (there older : Option FileData) → (here ≡ true → there ≡ Some held)
    → (if more then copy_or info there (cond here (Some (copy_with info held)) older) else cond here (Some (copy_with info held)) older)
    ≡ (if (if here then true else more) then copy_or info there older else older)
one-more true true info held there older is = ap (λ o. copy_or info o (Some (copy_with info held))) (is refl) ∙ sym (ap (λ o. copy_or info o older) (is refl))
one-more true false info held there older is = sym (ap (λ o. copy_or info o older) (is refl))
one-more false true info held there older is = refl
one-more false false info held there older is = refl

at-name : (source : List (List ℕ)) (number q : ℕ) (held : FileData) → get (files_of source) number ≡ Some held → eqb number q ≡ true → get (files_of source) q ≡ Some held
at-name source number q held there is = elim (eqb_tells number q) [
  | inl p ↦ ap (get (files_of source)) (sym p.1) ∙ there
  | inr p ↦ absurd (true≢false (sym is ∙ p.0))
]

each-copied : WrittenIsReadBack → (from to new : List ℕ) (source old : List (List ℕ)) (files : List VolumeFile) → IsImageOf from source → IsImageOf to old → AreCopied from to None files new → Copied source old files new
each-copied law from to new source old [] has_source has_old copied = record {
  blocks = old;
  is_image = subst (λ (bytes : List ℕ). IsImageOf bytes old) (sym copied) has_old;
  info = refl;
  numbers = [];
  asked = tt;
  has = λ q. refl;
}
each-copied law from to new source old (f ∷ files) has_source has_old copied =
    let one = copied.1 in
    let put = one.put.put in
    let held = one.file in
    let before = one_volume law to old one.put.before.blocks has_old one.put.mounted.opened.is_image in
    let whence = one_volume law from source one.source.blocks has_source one.source.opened.is_image in
    let number = one.source.number in
    let name : number ≡ copied.0.name = some_eq number copied.0.name one.put.named in
    let asked : asked_name source (AtBlock f.place) ≡ Some number = ap (λ (b : List (List ℕ)). asked_name b (AtBlock f.place)) (sym whence) ∙ one.source.named in
    let there : get (files_of source) number ≡ Some held = ap (λ (b : List (List ℕ)). get (files_of b) number) (sym whence) ∙ one.source.there in
    let info : info_of one.put.after.blocks ≡ info_of old = put.info ∙ ap info_of before in
    let rest = each-copied law from copied.0.bytes.items new source one.put.after.blocks files has_source one.put.is_image copied.2 in
    record {
      blocks = rest.blocks;
      is_image = rest.is_image;
      info = rest.info ∙ info;
      numbers = number ∷ rest.numbers;
      asked = (asked, rest.asked);
      has = λ q.
          let gets : get (files_of one.put.after.blocks) q ≡ cond (eqb number q) (Some (copy_with (info_of old) held)) (get (files_of old) q) =
          ap (λ (m : Files). get m q) put.files
          ∙ get-with (files_of one.put.before.blocks) copied.0.name (with_end_zeros (info_of one.put.before.blocks) (with_end_zeros 10 held.0), held.1) q
          ∙ ap (λ (b : List (List ℕ)). cond (eqb copied.0.name q) (Some (copy_with (info_of b) held)) (get (files_of b) q)) before
          ∙ ap (λ n. cond (eqb n q) (Some (copy_with (info_of old) held)) (get (files_of old) q)) (sym name) in
          rest.has q
          ∙ ap (λ i. if contains rest.numbers q then copy_or i (get (files_of source) q) (get (files_of one.put.after.blocks) q) else get (files_of one.put.after.blocks) q) info
          ∙ ap (λ o. if contains rest.numbers q then copy_or (info_of old) (get (files_of source) q) o else o) gets
          ∙ one-more (eqb number q) (contains rest.numbers q) (info_of old) held (get (files_of source) q) (get (files_of old) q) (at-name source number q held there);
    }

-- where no file of the name is there, none is copied
none-copied : (one other : Bool) (info : ℕ) (there older : Option FileData) → there ≡ None → (if one then copy_or info there older else older) ≡ (if other then copy_or info there older else older)
none-copied one other info there older none = ap (λ o. if one then copy_or info o older else older) none ∙ both one other ∙ sym (ap (λ o. if other then copy_or info o older else older) none)
  where
    both : (one other : Bool) → (if one then older else older) ≡ (if other then older else older)
    both true true = refl
    both true false = refl
    both false true = refl
    both false false = refl

by-directory : FoundSo → SoundSo → (source : List (List ℕ)) (d : DirectoryState) (words : List (List ℕ)) (numbers : List ℕ) (q info : ℕ) (older : Option FileData) (o : Option FilePlace) → directory_of source ≡ Ok d
    → find q (files_at d.first d.entries) ≡ o → first_unfound (once [] (asked_by_words (files_in d) 0 words)) ≡ None
    → AreAsked source (map by_place (found_files (once [] (asked_by_words (files_in d) 0 words)))) numbers
    → (if contains numbers q then copy_or info (get (files_of source) q) older else older) ≡ (if is_like_one words q then copy_or info (get (files_of source) q) older else older)
by-directory law sound source d words numbers q info older None read is none asked =
    none-copied (contains numbers q) (is_like_one words q) info (get (files_of source) q) older (law source d q read ∙ none-there source d.info (find q (files_at d.first d.entries)) is)
by-directory law sound source d words numbers q info older (Some g) read is none asked =
    ap (λ b. if b then copy_or info (get (files_of source) q) older else older) (chosen-there sound source d words numbers q g read is none asked)

pub like-are-copied : WrittenIsReadBack → FoundSo → SoundSo → (from to : List ℕ) (source old words : List (List ℕ)) (new : List ℕ) → IsOpened from source → IsOpened to old
    → first_unfound (wishes_of (files_on source) false words []) ≡ None → AreCopied from to None (found_files (wishes_of (files_on source) false words [])) new → (blocks : List (List ℕ)) × IsImageOf new blocks
    × ((name : ℕ) → get (files_of blocks) name ≡ (if is_like_one words name then copy_or (info_of old) (get (files_of source) name) (get (files_of old) name) else get (files_of old) name))
like-are-copied law found sound from to source old words new opened into none copied =
    let d = read-so (directory_of source) opened.sound in
    let wishes = ap (λ (files : List VolumeFile). wishes_of files false words []) (ap files_or d.1) ∙ ap (once []) (append-nil (asked_by_words (files_in d.0) 0 words)) in
    let all = each-copied law from to new source old (found_files (wishes_of (files_on source) false words [])) opened.is_image into.is_image copied in
    let asked = subst (λ (l : List Wish). AreAsked source (map by_place (found_files l)) all.numbers) wishes all.asked in (
      all.blocks,
      all.is_image,
      λ q. all.has q
          ∙ by-directory found sound source d.0 words all.numbers q (info_of old) (get (files_of old) q) (find q (files_at d.0.first d.0.entries)) d.1 refl
          (subst (λ (l : List Wish). first_unfound l ≡ None) wishes none) asked,
    )
