-- What was put is got again.
use Rattle.std.proofs.Common.{◌≡◌, ◌≢◌, ◌∙◌, ℕ, true, false, cond, Option, Some, Result, Ok, Err, is_ok, List, refl, sym, ap, eqb, arith, inl, inr}
use Rattle.std.specs.FinMap.{get, insert, get-insert}
use Rattle.std.specs.Ordering.{nat_cmp, eq_by_cmp}
use Rattle.std.proofs.lemmas.Cmp.{nat_cmp_total}
use Rattle.std.proofs.lemmas.Bool.Decides.{nat_tests, eqb_tells}
use Rattle.volume_image.specs.Image.{IsImageOf, WrittenIsReadBack}
use Rattle.name_spelling.specs.Reading.{typed_name}
use Rattle.os8_dir.specs.Entries.{DirectoryState}
use Rattle.os8_dir.specs.Reading.{directory_of}
use Rattle.os8_dir.specs.Files.{FileData, Files, files_of}
use Rattle.os8_dir.specs.declared.faults.DirFault.{DirFault}
use Rattle.os8_files.specs.Failed.{extent_or}
use Rattle.os8_files.specs.Mounted.{MountState}
use Rattle.os8_files.specs.Puts.{HasPutWith, blocks_filled, file_with}
use Rattle.archive_files.specs.declared.putting.NewImage.{NewImage}
use Rattle.archive_files.specs.Asking.{Target, OfName, asked_name}
use Rattle.archive_files.specs.Getting.{IsFile}
use Rattle.archive_files.specs.Opening.{IsOpened}
use Rattle.archive_files.specs.Putting.{HasPutInto, HasPutUnder, information_for}
use Rattle.archive_files.proofs.FirstBlockLemmas.{DirectoryIs, asked-again}

pub some_eq : {X : Type 0} (x y : X) → Some x ≡ Some y → x ≡ y
some_eq x y same = cc

-- an image is that of one list of blocks
pub one_volume : WrittenIsReadBack → (bytes : List ℕ) (one two : List (List ℕ)) → IsImageOf bytes one → IsImageOf bytes two → two ≡ one
one_volume law bytes one two is also = law bytes one (Ok (record { blocks = two; reads = 0; writes = 0 })) is (also, refl, refl)

-- ## Maps

pub tied : (a b : ℕ) → eq_by_cmp nat_cmp b a ≡ eqb a b
tied a b = grind (arith, nat_tests)

pub get-with : (m : Files) (name : ℕ) (h : FileData) (q : ℕ) → get (insert m name h) q ≡ cond (eqb name q) (Some h) (get m q)
get-with m name h q = get-insert nat_cmp_total m name h q ∙ ap (λ b. cond b (Some h) (get m q)) (tied name q)

pub get-here : (m : Files) (name : ℕ) (h : FileData) → get (insert m name h) name ≡ Some h
get-here m name h = elim (eqb_tells name name) [
  | inl p ↦ get-with m name h name ∙ ap (λ b. cond b (Some h) (get m name)) p.0
  | inr p ↦ absurd (p.1 refl)
]

pub get-there : (m : Files) (name : ℕ) (h : FileData) (q : ℕ) → name ≢ q → get (insert m name h) q ≡ get m q
get-there m name h q other = elim (eqb_tells name q) [
  | inl p ↦ absurd (other p.1)
  | inr p ↦ get-with m name h q ∙ ap (λ b. cond b (Some h) (get m q)) p.0
]

-- a service goes on after a file that was put
pub goes-on : (name : ℕ) (given words : List ℕ) (old new : MountState) → HasPutWith old name given words new → new.stopped ≡ false
goes-on name given words old new is = ap (λ (m : MountState). m.stopped) is.others ∙ is.ready.running

-- a volume in whose directory a file is found is sound
sound_volume : (name : ℕ) (read : Result DirectoryState DirFault) (extent : ℕ × ℕ) → extent_or name read ≡ Some extent → is_ok read ≡ true
sound_volume name (Ok d) extent found = refl
sound_volume name (Err fault) extent found = cc

pub new_image : (image : List ℕ) (name : Option ℕ) (words : List ℕ) (info : Option (List ℕ)) (new : NewImage) → (put : HasPutUnder image name info words new) → IsOpened new.bytes.items put.after.blocks
new_image image name words info new put = record {
  is_image = put.is_image;
  sound = sound_volume new.name (directory_of put.after.blocks) (put.put.place, blocks_filled words) put.put.extent;
}

-- the file that was put is there with its words
pub put_file : (image name words : List ℕ) (info : Option (List ℕ)) (new : NewImage) → (put : HasPutInto image name info words new) → IsFile new.bytes.items (OfName name) words
put_file image name words info new put = record {
  blocks = put.after.blocks;
  opened = new_image image (typed_name name) words info new put;
  number = new.name;
  named = put.named;
  info = (file_with put.before (information_for put.before new.name info) words).0;
  there = ap (λ (m : Files). get m new.name) put.put.files ∙ get-here (files_of put.before.blocks) new.name (file_with put.before (information_for put.before new.name info) words);
}

-- another file of an image is there in the new one, with the words that it had
pub other_stays : WrittenIsReadBack → DirectoryIs → (image name words was : List ℕ) (one : Target) (info : Option (List ℕ)) (new : NewImage) (blocks : List (List ℕ)) → IsImageOf image blocks
    → asked_name blocks one ≢ typed_name name → HasPutInto image name info words new → IsFile image one was → IsFile new.bytes.items one was
other_stays law is-directory image name words was one info new blocks own differ put before =
    let old : before.blocks ≡ put.before.blocks = one_volume law image put.before.blocks before.blocks put.mounted.opened.is_image before.opened.is_image in
    let first : asked_name put.before.blocks one ≡ Some before.number = ap (λ (b : List (List ℕ)). asked_name b one) (sym old) ∙ before.named in
    let given = information_for put.before new.name info in
    let apart : new.name ≢ before.number = λ same. differ (ap (λ (b : List (List ℕ)). asked_name b one) (one_volume law image put.before.blocks blocks put.mounted.opened.is_image own)
    ∙ first ∙ ap Some (sym same) ∙ sym put.named) in
    record {
      blocks = put.after.blocks;
      opened = new_image image (typed_name name) words info new put;
      number = before.number;
      named = asked-again is-directory one put.before.blocks put.after.blocks before.number first (put.put.places before.number apart (goes-on new.name given words put.before put.after put.put));
      info = before.info;
      there = ap (λ (m : Files). get m before.number) put.put.files ∙ get-there (files_of put.before.blocks) new.name (file_with put.before given words) before.number apart
          ∙ ap (λ (b : List (List ℕ)). get (files_of b) before.number) (sym old) ∙ before.there;
    }
