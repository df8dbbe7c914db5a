-- What each file of a volume has, and how many files there are.
use Rattle.std.proofs.Common.{◌≡◌, ℕ, ◌+◌, ◌*◌, ◌/◌, ◌<◌, ◌≤◌, List, [], ◌∷◌, length, take, drop, Option, Some, None, Result, Ok, Err, true, false, refl, ap, sym, subst, ◌∙◌, arith}
use Rattle.std.specs.FinMap.{get, from_entries, get-from_entries}
use Rattle.std.proofs.lemmas.Cmp.{nat_cmp_total}
use Rattle.volume_image.specs.Volume.{IsVolume}
use Rattle.os8_dir.specs.declared.entries.DirEntry.{DirEntry}
use Rattle.os8_dir.specs.declared.faults.DirFault.{DirFault}
use Rattle.os8_dir.specs.Entries.{DirectoryState, contains, IsTidy}
use Rattle.os8_dir.specs.Reading.{directory_of}
use Rattle.os8_dir.specs.Found.{FilePlace, IsDirectory, files_at, find, count_files}
use Rattle.os8_dir.specs.Files.{Files, FileData, files_of, data_if_there, run, above_of}
use Rattle.os8_files.specs.Mounted.{MountState}
use Rattle.os8_files.specs.Service.{blocks_in, count_of}
use Rattle.os8_files.specs.Calls.{ReadsBlock}
use Rattle.os8_files.specs.Laws.{IsHeldThrough, KeepsHolds}
use Rattle.os8_files.proofs.BoundLemmas.{AboveIs, IsMade}
use Rattle.os8_files.proofs.CallLemmas.{FindsFiles}
use Rattle.os8_files.proofs.LengthLemmas.{length-run}
use Rattle.os8_files.proofs.ListingLemmas.{above-few, count_of-made}
use Rattle.os8_files.proofs.LookupLemmas.{size_again}

-- A file that stays held has the words that it had.
held-files : (name : ℕ) (first : MountState) (others : List MountState) (last : MountState) → IsHeldThrough name first others last → last.stopped ≡ false
    → (first.stopped ≡ false) × (get (files_of last.blocks) name ≡ get (files_of first.blocks) name)
held-files name first [] last through runs = (ap (λ (m : MountState). m.stopped) through ∙ runs, sym (ap (λ (m : MountState). get (files_of m.blocks) name) through))
held-files name first (next ∷ others) last through runs =
    let following = held-files name next others last through.3 runs in
    (through.1 following.0, following.1 ∙ through.2 name through.0 following.0)

abbrev words_or : Option FileData → List ℕ
words_or None = []
words_or (Some file) = file.1

pub held-block : (name k : ℕ) (first last new : MountState) (others : List MountState) (before after : List ℕ) (file : FileData) → IsHeldThrough name first others last → get (files_of first.blocks) name ≡ Some file → ReadsBlock last name k before (Ok tt) new after → after ≡ take 256 (drop (256 * k) file.1)
held-block name k first last new others before after file through there read =
    let same = held-files name first others last through read.running in
    read.block ∙ ap (λ o. take 256 (drop (256 * k) (words_or o))) (sym read.there ∙ same.1 ∙ there)

-- One call after another.
pub both-keep : (old mid new : MountState) → KeepsHolds old mid → KeepsHolds mid new → KeepsHolds old new
both-keep old mid new one two = record {
  holds = two.holds ∙ one.holds;
  running = λ runs. one.running (two.running runs);
  held = λ name held runs. two.held name (subst (λ l. contains l name ≡ true) (sym one.holds) held) runs ∙ one.held name held (two.running runs);
}

-- What is held of a file that is found.
found-held : (blocks : List (List ℕ)) (info : ℕ) (o : Option FilePlace) (file : FileData) → data_if_there blocks info o ≡ Some file → (f : FilePlace) × (o ≡ Some f) × (run blocks f.place f.size ≡ file.1)
found-held blocks info None file is = cc
found-held blocks info (Some f) file is = (f, refl, ap words_or is)

none-some : {A : Type 0} (x : A) → None ≡ Some x → ⊥
none-some x is = cc

-- The words of a file are those of whole blocks, at least one.
pub record IsWhole (file : FileData) : Type 0 where
  pub whole : 256 * blocks_in file ≡ length file.1
  pub some : 0 < blocks_in file
  pub most : blocks_in file ≤ 4095

abbrev pub FindsInside : Type 0
FindsInside = (volume name : ℕ) (d : DirectoryState) (f : FilePlace) → IsDirectory volume d → find name (files_at d.first d.entries) ≡ Some f → (f.name ≡ name) × (d.first ≤ f.place) × (0 < f.size) × (f.place + f.size ≤ volume)

abbrev pub NoFiles : Type 0
NoFiles = (blocks : List (List ℕ)) (fault : DirFault) → directory_of blocks ≡ Err fault → files_of blocks ≡ from_entries []

pub whole-file : FindsFiles → ((blocks : List (List ℕ)) (d : DirectoryState) → directory_of blocks ≡ Ok d → IsDirectory (length blocks) d) → FindsInside → NoFiles
    → (blocks : List (List ℕ)) (name : ℕ) (file : FileData) → IsVolume blocks → get (files_of blocks) name ≡ Some file → IsWhole file
whole-file finds sound inside none blocks name file volume there = by (directory_of blocks) refl
  where
    by : (r : Result DirectoryState DirFault) → directory_of blocks ≡ r → IsWhole file
    by (Ok d) read =
        let at = found-held blocks d.info (find name (files_at d.first d.entries)) file (sym (finds blocks d name read) ∙ there) in
        let here = inside (length blocks) name d at.0 (sound blocks d read) at.1 in
        let words : length (run blocks at.0.place at.0.size) ≡ 256 * at.0.size = length-run blocks at.0.place at.0.size volume.each here.3 in
        let long : length file.1 ≡ 256 * at.0.size = ap (λ (ws : List ℕ). length ws) (sym at.2) ∙ words in
        let count : blocks_in file ≡ at.0.size = ap (λ n. n / 256) long ∙ size_again at.0.size in
        record {
          whole = omega (arith, count, long);
          some = omega (arith, count, here.2);
          most = omega (arith, count, here.3, volume.most);
        }
    by (Err fault) read = absurd (none-some file (sym (get-from_entries nat_cmp_total [] name) ∙ ap (λ (m : Files). get m name) (sym (none blocks fault read)) ∙ there))

-- No more files have a free block below them than there are.
pub few-above : AboveIs → ((blocks : List (List ℕ)) (d : DirectoryState) → directory_of blocks ≡ Ok d → IsDirectory (length blocks) d)
    → ((blocks : List (List ℕ)) (d : DirectoryState) → directory_of blocks ≡ Ok d → IsMade blocks d (files_of blocks))
    → ((first : ℕ) (es : List DirEntry) → IsTidy es → length (files_at first es) ≡ count_files es)
    → ((blocks : List (List ℕ)) (fault : DirFault) → directory_of blocks ≡ Err fault → above_of blocks ≡ 0)
    → (blocks : List (List ℕ)) → above_of blocks ≤ count_of (files_of blocks)
few-above aboves sound made counts none blocks = by (directory_of blocks) refl
  where
    by : (r : Result DirectoryState DirFault) → directory_of blocks ≡ r → above_of blocks ≤ count_of (files_of blocks)
    by (Ok d) read =
        let is = sound blocks d read in
        omega (arith, aboves blocks d read, above-few d.entries, counts d.first d.entries is.neat, count_of-made blocks d (files_of blocks) (made blocks d read) is)
    by (Err fault) read = omega (arith, none blocks fault read)
