-- Words of files, and what is refused of them.
use Rattle.std.proofs.Common.{◌≡◌, ◌∙◌, ℕ, ◌+◌, ◌*◌, ◌≤◌, List, ◌++◌, take, drop, length, ap, sym, arith, Some, Err}
use Rattle.std.specs.FinMap.{get}
use Rattle.std.proofs.Math.Seq.{take-add}
use Rattle.std.proofs.lemmas.List.{take_all}
use Rattle.refusals.specs.declared.faults.SessionFault.{SessionFault}
use Rattle.refusals.specs.declared.faults.SessionFault.TheVariants.{BadLine, NoJob, TooManyJobs, File, Asm, Tape, BadText, Reader, Writer, Memory, TooManyBreaks}
use Rattle.os8_dir.specs.Files.{FileData, files_of}
use Rattle.volume_image.specs.Image.{IsImage}
use Rattle.archive_files.specs.declared.forms.GetForm.{GetForm}
use Rattle.os8_files.specs.Mounted.{MountState}
use Rattle.archive_files.specs.Putting.{IsMounted}
use Rattle.archive_files.specs.Asking.{Target, asked_name}
use Rattle.archive_files.specs.Getting.{GetRefused, IsFile}
use Rattle.archive_files.specs.Parts.{GivesFile}

-- the words of one block more
pub block_more : (k : ℕ) (xs block : List ℕ) → block ≡ take 256 (drop (256 * k) xs) → take (256 * k) xs ++ block ≡ take (256 * (k + 1)) xs
block_more k xs block is = ap (λ l. take (256 * k) xs ++ l) is ∙ sym (take-add (256 * k) 256 xs) ∙ ap (λ n. take n xs) (size k)
  where
    size : (k : ℕ) → 256 * k + 256 ≡ 256 * (k + 1)
    size k = omega arith

some_eq : {X : Type 0} (x y : X) → Some x ≡ Some y → x ≡ y
some_eq x y same = cc

-- the words of a file with those of one block more
pub words_more : (all old : List (List ℕ)) (name k : ℕ) (file other : FileData) (items block : List ℕ) → old ≡ all → get (files_of old) name ≡ Some other
    → block ≡ take 256 (drop (256 * k) other.1) → get (files_of all) name ≡ Some file → items ≡ take (256 * k) file.1 → items ++ block ≡ take (256 * (k + 1)) file.1
words_more all old name k file other items block same had read there so_far =
    let one : other ≡ file = some_eq other file (sym had ∙ ap (λ (blocks : List (List ℕ)). get (files_of blocks) name) same ∙ there) in
    ap (λ l. l ++ block) so_far ∙ block_more k file.1 block (read ∙ ap (λ (f : FileData). take 256 (drop (256 * k) f.1)) one)

-- all words of a file
pub words_all : (words : List ℕ) (k blocks : ℕ) → blocks ≤ k → k ≤ blocks → 256 * blocks ≡ length words → take (256 * k) words ≡ words
words_all words k blocks high low whole = take_all (256 * k) words (omega (arith, high, whole))

-- a file that was found
pub file_is : (image : List ℕ) (wanted : Target) (m : MountState) (number : ℕ) (words : List ℕ) (file : FileData) → IsMounted image m → asked_name m.blocks wanted ≡ Some number
    → get (files_of m.blocks) number ≡ Some file → words ≡ file.1 → IsFile image wanted words
file_is image wanted m number words file mounted named there is = record {
  blocks = m.blocks;
  opened = mounted.opened;
  number = number;
  named = named;
  info = file.0;
  there = there ∙ ap (λ (w : List ℕ). Some (file.0, w)) (sym is);
}

-- what is not given of a file that is there
pub given_refused : (image : List ℕ) (wanted : Target) (words : List ℕ) (form : GetForm) (fault : SessionFault) → IsImage image → IsFile image wanted words → GivesFile form words (Err fault)
    → GetRefused image wanted form fault
given_refused image wanted words form (Tape fault) opened file is = (words, file, is.0, is.1)
given_refused image wanted words form (File fault) opened file is = absurd (cc)
given_refused image wanted words form BadLine opened file is = (is, opened)
given_refused image wanted words form NoJob opened file is = (is, opened)
given_refused image wanted words form TooManyJobs opened file is = (is, opened)
given_refused image wanted words form (Asm fault) opened file is = (is, opened)
given_refused image wanted words form BadText opened file is = (is, opened)
given_refused image wanted words form Reader opened file is = (is, opened)
given_refused image wanted words form Writer opened file is = (is, opened)
given_refused image wanted words form Memory opened file is = (is, opened)
given_refused image wanted words form TooManyBreaks opened file is = (is, opened)
