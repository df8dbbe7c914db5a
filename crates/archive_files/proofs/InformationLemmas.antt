-- The information words of files that are put and copied.
use Rattle.std.proofs.Common.{◌≡◌, ◌≢◌, ◌≤◌, ◌∙◌, ℕ, zero, suc, Option, Some, None, List, [], ◌∷◌, length, take, replicate, refl, sym, ap, subst, arith}
use Rattle.std.specs.FinMap.{get}
use Rattle.volume_image.specs.Image.{IsImageOf, WrittenIsReadBack}
use Rattle.os8_dir.specs.Names.{with_end_zeros}
use Rattle.name_spelling.specs.Reading.{typed_name}
use Rattle.os8_dir.specs.Entries.{DirectoryState}
use Rattle.os8_dir.specs.Reading.{directory_of}
use Rattle.os8_dir.specs.Found.{FilePlace, IsDirectory, files_at, find}
use Rattle.os8_dir.specs.Files.{FileData, Files, files_of, data_if_there, of_directory}
use Rattle.os8_files.specs.Service.{information_of}
use Rattle.os8_files.specs.Calls.{info_of}
use Rattle.os8_files.specs.Puts.{file_with}
use Rattle.archive_files.specs.declared.putting.NewImage.{NewImage}
use Rattle.archive_files.specs.Opening.{IsOpened}
use Rattle.archive_files.specs.Asking.{Target, OfName, asked_name}
use Rattle.archive_files.specs.Getting.{HasFile, IsNoFile}
use Rattle.archive_files.specs.ChangeLaws.{HasFileNamed}
use Rattle.archive_files.specs.Putting.{HasPutInto, HasPutUnder, information_for, words_or_none}
use Rattle.archive_files.specs.Copying.{HasCopied, target}
use Rattle.archive_files.proofs.LawLemmas.{some_eq, one_volume, get-here, get-there, goes-on, new_image}
use Rattle.archive_files.proofs.FirstBlockLemmas.{DirectoryIs, asked-again}
use Rattle.archive_files.proofs.AskLemmas.{one_name}
use Rattle.archive_files.proofs.ChangeLemmas.{FoundIn, there_again, directory_in}

-- ## So many words

length-padded : (n : ℕ) (xs : List ℕ) → length (with_end_zeros n xs) ≡ n
length-padded zero xs = refl
length-padded (suc n) [] = ap (λ k. suc k) (length-padded n [])
length-padded (suc n) (x ∷ xs) = ap (λ k. suc k) (length-padded n xs)

padded-take : (n : ℕ) (xs : List ℕ) → n ≤ length xs → with_end_zeros n xs ≡ take n xs
padded-take zero xs few = refl
padded-take (suc n) [] few = absurd (omega (arith, few))
padded-take (suc n) (x ∷ xs) few = ap (λ l. x ∷ l) (padded-take n xs (omega (arith, few)))

padded-twice : (n m : ℕ) (xs : List ℕ) → n ≤ m → with_end_zeros n (with_end_zeros m xs) ≡ with_end_zeros n xs
padded-twice zero m xs few = refl
padded-twice (suc n) zero xs few = absurd (omega (arith, few))
padded-twice (suc n) (suc m) [] few = ap (λ l. 0 ∷ l) (padded-twice n m [] (omega (arith, few)))
padded-twice (suc n) (suc m) (x ∷ xs) few = ap (λ l. x ∷ l) (padded-twice n m xs (omega (arith, few)))

padded-none : (n : ℕ) → with_end_zeros n [] ≡ replicate n 0
padded-none zero = refl
padded-none (suc n) = ap (λ l. 0 ∷ l) (padded-none n)

-- ## Those of a volume

abbrev pub ZerosAfter : Type 0
ZerosAfter = (volume name : ℕ) (d : DirectoryState) (f : FilePlace) → IsDirectory volume d → find name (files_at d.first d.entries) ≡ Some f → with_end_zeros 10 (take d.info f.info) ≡ f.info

few-words : DirectoryIs → (image : List ℕ) (blocks : List (List ℕ)) → IsOpened image blocks → info_of blocks ≤ 10
few-words is-directory image blocks opened =
    let read = directory_in (directory_of blocks) opened.sound in
    let same = ap (of_directory (λ (d : DirectoryState). d.info)) read.1 in
    omega (arith, same, (is-directory blocks read.0 read.1).few)

-- the words of a file that is found
found-words : (blocks : List (List ℕ)) (info : ℕ) (found : Option FilePlace) (file : FileData) → data_if_there blocks info found ≡ Some file → (f : FilePlace) × (found ≡ Some f) × (file.0 ≡ take info f.info)
found-words blocks info None file is = cc
found-words blocks info (Some f) file is = (f, refl, ap (λ (h : FileData). h.0) (sym (some_eq _ file is)))

file-words : FoundIn → DirectoryIs → ZerosAfter → (image : List ℕ) (blocks : List (List ℕ)) (number : ℕ) (file : FileData) → IsOpened image blocks → get (files_of blocks) number ≡ Some file
    → with_end_zeros (info_of blocks) (with_end_zeros 10 file.0) ≡ file.0
file-words finds is-directory zeros image blocks number file opened there =
    let read = directory_in (directory_of blocks) opened.sound in
    let d = read.0 in
    let is = is-directory blocks d read.1 in
    let found = found-words blocks d.info (find number (files_at d.first d.entries)) file (sym (finds blocks d number read.1) ∙ there) in
    let f = found.0 in
    let whole : with_end_zeros 10 (take d.info f.info) ≡ f.info = zeros (length blocks) number d f is found.1 in
    let long : length f.info ≡ 10 = ap (λ (l : List ℕ). length l) (sym whole) ∙ length-padded 10 (take d.info f.info) in
    ap (λ n. with_end_zeros n (with_end_zeros 10 file.0)) (ap (of_directory (λ (x : DirectoryState). x.info)) read.1)
    ∙ ap (λ l. with_end_zeros d.info (with_end_zeros 10 l)) found.2 ∙ ap (with_end_zeros d.info) whole ∙ padded-take d.info f.info (omega (arith, long, is.few)) ∙ sym found.2

-- ## Files that are put

put-has : (image name words : List ℕ) (info : Option (List ℕ)) (new : NewImage) → (put : HasPutInto image name info words new)
    → HasFile new.bytes.items (OfName name) (with_end_zeros (info_of put.before.blocks) (information_for put.before new.name info), words)
put-has image name words info new put = record {
  blocks = put.after.blocks;
  opened = new_image image (typed_name name) words info new put;
  number = new.name;
  named = put.named;
  there = ap (λ (m : Files). get m new.name) put.put.files ∙ get-here (files_of put.before.blocks) new.name (file_with put.before (information_for put.before new.name info) words);
}

with-words : (image name one two words : List ℕ) → one ≡ two → HasFile image (OfName name) (one, words) → HasFile image (OfName name) (two, words)
with-words image name one two words same has = subst (λ (l : List ℕ). HasFile image (OfName name) (l, words)) same has

pub put_keeps : WrittenIsReadBack → FoundIn → DirectoryIs → ZerosAfter → (image name words : List ℕ) (file : FileData) (new : NewImage) → HasPutInto image name None words new
    → HasFile image (OfName name) file → HasFile new.bytes.items (OfName name) (file.0, words)
put_keeps law finds is-directory zeros image name words file new put has =
    let volume : has.blocks ≡ put.before.blocks = one_volume law image put.before.blocks has.blocks put.mounted.opened.is_image has.opened.is_image in
    let number : has.number ≡ new.name = some_eq has.number new.name (sym has.named ∙ put.named) in
    let there : get (files_of put.before.blocks) new.name ≡ Some file =
    ap (get (files_of put.before.blocks)) (sym number) ∙ ap (λ (blocks : List (List ℕ)). get (files_of blocks) has.number) (sym volume) ∙ has.there in
    with-words new.bytes.items name _ file.0 words
    (ap (λ o. with_end_zeros (info_of put.before.blocks) (words_or_none (information_of o))) there ∙ file-words finds is-directory zeros image put.before.blocks new.name file put.mounted.opened there)
    (put-has image name words None new put)

pub put_anew : WrittenIsReadBack → (image name words : List ℕ) (new : NewImage) (blocks : List (List ℕ)) → HasPutInto image name None words new → IsNoFile image (OfName name) → IsImageOf image blocks
    → HasFile new.bytes.items (OfName name) (replicate (info_of blocks) 0, words)
put_anew law image name words new blocks put none is =
    let volume : none.blocks ≡ put.before.blocks = one_volume law image put.before.blocks none.blocks put.mounted.opened.is_image none.opened.is_image in
    let own : blocks ≡ put.before.blocks = one_volume law image put.before.blocks blocks put.mounted.opened.is_image is in
    let number : none.missing.0 ≡ new.name = some_eq none.missing.0 new.name (sym none.missing.1 ∙ put.named) in
    let missing : get (files_of put.before.blocks) new.name ≡ None =
    ap (get (files_of put.before.blocks)) (sym number) ∙ ap (λ (b : List (List ℕ)). get (files_of b) none.missing.0) (sym volume) ∙ none.missing.2 in
    with-words new.bytes.items name _ (replicate (info_of blocks) 0) words
    (ap (λ o. with_end_zeros (info_of put.before.blocks) (words_or_none (information_of o))) missing ∙ padded-none (info_of put.before.blocks) ∙ ap (λ (b : List (List ℕ)). replicate (info_of b) 0) (sym own))
    (put-has image name words None new put)

pub put_gives : WrittenIsReadBack → (image name given words : List ℕ) (new : NewImage) (blocks : List (List ℕ)) → HasPutInto image name (Some given) words new → IsImageOf image blocks
    → HasFile new.bytes.items (OfName name) (with_end_zeros (info_of blocks) given, words)
put_gives law image name given words new blocks put is =
    let own : blocks ≡ put.before.blocks = one_volume law image put.before.blocks blocks put.mounted.opened.is_image is in
    with-words new.bytes.items name _ (with_end_zeros (info_of blocks) given) words (ap (λ (b : List (List ℕ)). with_end_zeros (info_of b) given) (sym own)) (put-has image name words (Some given) new put)

-- another file is there as it was
pub put_leaves : WrittenIsReadBack → DirectoryIs → (image : List ℕ) (name : Option ℕ) (given words : List ℕ) (one : Target) (file : FileData) (new : NewImage) (blocks : List (List ℕ))
    → HasPutUnder image name (Some given) words new → IsImageOf image blocks → asked_name blocks one ≢ Some new.name → HasFile image one file → HasFile new.bytes.items one file
put_leaves law is-directory image name given words one file new blocks put own differ has =
    let first : asked_name put.before.blocks one ≡ Some has.number = ap (λ (b : List (List ℕ)). asked_name b one) (sym (one_volume law image put.before.blocks has.blocks put.mounted.opened.is_image has.opened.is_image)) ∙ has.named in
    let apart : new.name ≢ has.number = λ same. differ (ap (λ (b : List (List ℕ)). asked_name b one) (one_volume law image put.before.blocks blocks put.mounted.opened.is_image own) ∙ first ∙ ap Some (sym same)) in
    there_again law image new.bytes.items one one put.before.blocks put.after.blocks has.number file put.mounted.opened.is_image (new_image image name words (Some given) new put)
    (asked-again is-directory one put.before.blocks put.after.blocks has.number first (put.put.places has.number apart (goes-on new.name given words put.before put.after put.put))) has
    (ap (λ (m : Files). get m has.number) put.put.files ∙ get-there (files_of put.before.blocks) new.name (file_with put.before given words) has.number apart)

-- ## Copies

-- an image has one file that is asked for so
one-has : WrittenIsReadBack → (image : List ℕ) (wanted : Target) (one two : FileData) → HasFile image wanted one → HasFile image wanted two → two ≡ one
one-has law image wanted one two a b = some_eq two one (sym b.there ∙ same ∙ a.there)
  where
    same : get (files_of b.blocks) b.number ≡ get (files_of a.blocks) a.number
    same = ap (λ (n : ℕ). get (files_of b.blocks) n) (one_name law image wanted a.blocks b.blocks a.number b.number a.opened.is_image b.opened.is_image a.named b.named)
        ∙ ap (λ (blocks : List (List ℕ)). get (files_of blocks) a.number) (one_volume law image a.blocks b.blocks a.opened.is_image b.opened.is_image)

-- a file that is put with information words that are given is there with the first of them
under-has : WrittenIsReadBack → (image : List ℕ) (name : Option ℕ) (given words : List ℕ) (new : NewImage) (blocks : List (List ℕ)) → HasPutUnder image name (Some given) words new → IsImageOf image blocks
    → HasFileNamed new.bytes.items new.name (with_end_zeros (info_of blocks) given, words)
under-has law image name given words new blocks put is = record {
  blocks = put.after.blocks;
  opened = new_image image name words (Some given) new put;
  there = ap (λ (m : Files). get m new.name) put.put.files ∙ get-here (files_of put.before.blocks) new.name (file_with put.before given words)
      ∙ ap (λ (b : List (List ℕ)). Some (with_end_zeros (info_of b) given, words)) (sym (one_volume law image put.before.blocks blocks put.mounted.opened.is_image is));
}

pub copy_same : WrittenIsReadBack → DirectoryIs → (from to : List ℕ) (wanted : Target) (other : Option (List ℕ)) (file : FileData) (new : NewImage) (blocks : List (List ℕ)) → HasCopied from wanted to other new
    → HasFile from wanted file → IsImageOf to blocks → HasFileNamed new.bytes.items new.name (with_end_zeros (info_of blocks) file.0, file.1)
copy_same law is-directory from to wanted other file new blocks is has image =
    let one : is.file ≡ file = one-has law from wanted file is.file has is.source in
    let own : blocks ≡ is.put.before.blocks = one_volume law to is.put.before.blocks blocks is.put.mounted.opened.is_image image in
    let few : info_of blocks ≤ 10 = subst (λ (b : List (List ℕ)). info_of b ≤ 10) (sym own) (few-words is-directory to is.put.before.blocks is.put.mounted.opened) in
    let given = under-has law to (target is.source.number other) (with_end_zeros 10 is.file.0) is.file.1 new blocks is.put image in
    subst (λ (h : FileData). HasFileNamed new.bytes.items new.name (with_end_zeros (info_of blocks) h.0, h.1)) one
    (subst (λ (l : List ℕ). HasFileNamed new.bytes.items new.name (l, is.file.1)) (padded-twice (info_of blocks) 10 is.file.0 few) given)

pub copy_name : WrittenIsReadBack → (from to : List ℕ) (wanted : Target) (other : Option (List ℕ)) (new : NewImage) (blocks : List (List ℕ)) (name : ℕ) → HasCopied from wanted to other new
    → IsImageOf from blocks → asked_name blocks wanted ≡ Some name → target name other ≡ Some new.name
copy_name law from to wanted other new blocks name is image named =
    ap (λ n. target n other) (one_name law from wanted is.source.blocks blocks is.source.number name is.source.opened.is_image image is.source.named named) ∙ is.put.named

pub copy_leaves : WrittenIsReadBack → DirectoryIs → (from to : List ℕ) (one wanted : Target) (other : Option (List ℕ)) (file : FileData) (new : NewImage) (blocks : List (List ℕ)) → HasCopied from wanted to other new
    → IsImageOf to blocks → asked_name blocks one ≢ Some new.name → HasFile to one file → HasFile new.bytes.items one file
copy_leaves law is-directory from to one wanted other file new blocks is own differ has =
    put_leaves law is-directory to (target is.source.number other) (with_end_zeros 10 is.file.0) is.file.1 one file new blocks is.put own differ has
