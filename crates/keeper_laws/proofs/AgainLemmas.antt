-- What a volume has after a file was copied.
use Rattle.std.proofs.Common.{◌≡◌, ◌≢◌, ◌∙◌, ℕ, Bool, Option, None, Some, Ok, List, [], ◌∷◌, sym, ap, subst}
use Rattle.std.specs.Global.{Vec}
use Rattle.volume_image.specs.Image.{IsImageOf, WrittenIsReadBack}
use Rattle.os8_dir.specs.Names.{with_end_zeros}
use Rattle.os8_files.specs.Calls.{info_of}
use Rattle.name_spelling.specs.Reading.{typed_name}
use Rattle.archive_files.specs.Asking.{Target, AtBlock, OfName, asked_name}
use Rattle.archive_files.specs.ChangeLaws.{CopyIsTheSame, CopyLeavesOthers}
use Rattle.archive_files.specs.Copying.{CopiesFile, target}
use Rattle.archive_files.specs.Getting.{IsFile}
use Rattle.archive_files.specs.declared.putting.NewImage.{NewImage}
use Rattle.archive_files.proofs.LawLemmas.{one_volume, some_eq}
use Rattle.archive_many.specs.Copying.{AreCopied, CopiesAll}
use Rattle.archive_many.specs.Naming.{name_or}
use Rattle.archive_many.specs.declared.opened.VolumeFile.{VolumeFile}
use Rattle.archive_many.proofs.AskedLemmas.{asked-so}
use Rattle.archive_many.proofs.FileLemmas.{SoundSo}
use Rattle.keeper_laws.specs.Copied.{IsOne, copied_name}

-- what is asked for of an image has one name
one_name : WrittenIsReadBack → (image : List ℕ) (wanted : Target) (one two : List (List ℕ)) (name other : ℕ) → IsImageOf image one → IsImageOf image two
    → asked_name one wanted ≡ Some name → asked_name two wanted ≡ Some other → other ≡ name
one_name law image wanted one two name other is also named same =
    some_eq other name (sym same ∙ ap (λ (blocks : List (List ℕ)). asked_name blocks wanted) (one_volume law image one two is also) ∙ named)

-- a file that was copied has its words under the name of the copy
pub copied-words : CopyIsTheSame → (from to name : List ℕ) (wanted : Target) (other : Option (List ℕ)) (new : NewImage) (words : List ℕ) → CopiesFile from wanted to other (Ok new)
    → typed_name name ≡ Some new.name → IsFile from wanted words → IsFile new.bytes.items (OfName name) words
copied-words law from to name wanted other new words copies named found =
    let has = law from to wanted other (found.info, words) new copies.put.before.blocks copies
    (record { blocks = found.blocks; opened = found.opened; number = found.number; named = found.named; there = found.there }) copies.put.mounted.opened.is_image in
    record { blocks = has.blocks; opened = has.opened; number = new.name; named = named; info = with_end_zeros (info_of copies.put.before.blocks) found.info; there = has.there }

-- another file has the words that it had
pub other-words : CopyLeavesOthers → (from to name : List ℕ) (wanted : Target) (other : Option (List ℕ)) (new : NewImage) (words : List ℕ) → CopiesFile from wanted to other (Ok new)
    → typed_name name ≢ Some new.name → IsFile to (OfName name) words → IsFile new.bytes.items (OfName name) words
other-words law from to name wanted other new words copies differ found =
    let has = law from to (OfName name) wanted other (found.info, words) new copies.put.before.blocks copies copies.put.mounted.opened.is_image differ
    (record { blocks = found.blocks; opened = found.opened; number = found.number; named = found.named; there = found.there }) in
    record { blocks = has.blocks; opened = has.opened; number = has.number; named = has.named; info = found.info; there = has.there }

-- one file that was copied alone
module _ (back : WrittenIsReadBack) (sound : SoundSo) (from to : List ℕ) (wanted : Target) (other : Option (List ℕ)) (files : List VolumeFile) (is_forced : Bool) (made : Vec ℕ)
    (one : IsOne wanted from files) (copies : CopiesAll from to other files is_forced (Ok made))
  where
    put : AreCopied from to other (one.file ∷ []) made.items
    put = subst (λ (l : List VolumeFile). AreCopied from to other l made.items) one.are copies.1

    asked : (asked_name one.blocks wanted ≡ Some one.file.name) × (asked_name one.blocks (AtBlock one.file.place) ≡ Some one.file.name)
    asked = asked-so sound one.blocks wanted one.file one.opens.sound one.found

    -- the copy has the name that was typed for it, or else that of its file
    name-is : copied_name other files ≡ put.0.name
    name-is =
        let own : put.1.source.number ≡ one.file.name =
        one_name back from (AtBlock one.file.place) one.blocks put.1.source.blocks one.file.name put.1.source.number one.opens.is_image put.1.source.opened.is_image asked.1 put.1.source.named in
        ap (copied_name other) one.are ∙ ap (name_or one.file.name) (ap (λ n. target n other) (sym own) ∙ put.1.put.named)

    pub copied-alone : (name words : List ℕ) → typed_name name ≡ Some (copied_name other files) → CopyIsTheSame → IsFile from wanted words → IsFile made.items (OfName name) words
    copied-alone name words named law found =
        let own : found.number ≡ one.file.name = one_name back from wanted one.blocks found.blocks one.file.name found.number one.opens.is_image found.opened.is_image asked.0 found.named in
        let volume : found.blocks ≡ one.blocks = one_volume back from one.blocks found.blocks one.opens.is_image found.opened.is_image in
        subst (λ (bytes : List ℕ). IsFile bytes (OfName name) words) (sym put.2)
        (copied-words law from to name (AtBlock one.file.place) other put.0 words put.1 (named ∙ ap Some name-is) (record {
          blocks = found.blocks;
          opened = found.opened;
          number = found.number;
          named = ap (λ (b : List (List ℕ)). asked_name b (AtBlock one.file.place)) volume ∙ asked.1 ∙ ap Some (sym own);
          info = found.info;
          there = found.there;
        }))

    -- another file has the words that it had
    pub others-alone : (name words : List ℕ) → typed_name name ≢ Some (copied_name other files) → CopyLeavesOthers → IsFile to (OfName name) words → IsFile made.items (OfName name) words
    others-alone name words differ law found =
        subst (λ (bytes : List ℕ). IsFile bytes (OfName name) words) (sym put.2)
        (other-words law from to name (AtBlock one.file.place) other put.0 words put.1 (λ same. differ (same ∙ ap Some (sym name-is))) found)

    -- the name that was typed for the copy is its name
    pub name-typed : (typed : List ℕ) → other ≡ Some typed → typed_name typed ≡ Some (copied_name other files)
    name-typed typed is = sym (ap (λ (o : Option (List ℕ)). target put.1.source.number o) is) ∙ put.1.put.named ∙ ap Some (sym name-is)

    -- or else the one by which its file was asked for
    pub name-kept : (typed : List ℕ) → other ≡ None → wanted ≡ OfName typed → typed_name typed ≡ Some (copied_name other files)
    name-kept typed is meant =
        sym (ap (asked_name one.blocks) meant) ∙ asked.0 ∙ ap Some (sym (ap (copied_name other) one.are ∙ ap (λ (o : Option (List ℕ)). copied_name o (one.file ∷ [])) is))
