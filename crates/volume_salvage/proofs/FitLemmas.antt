-- Files of which those are kept that fit.
use Rattle.std.proofs.Common.{◌≡◌, ℕ, suc, ◌+◌, Option, Some, None, Ok, Err, List, [], ◌∷◌, ◌++◌, append_assoc, append-nil, refl, sym, ap, subst, ◌∙◌, arith}
use Rattle.std.specs.FinMap.{from_entries, insert}
use Rattle.os8_dir.specs.Files.{Files, capacity_of, files_of}
use Rattle.os8_dir.specs.Names.{with_end_zeros}
use Rattle.os8_files.specs.Calls.{IsReady, info_of}
use Rattle.os8_files.specs.Mounted.{MountState}
use Rattle.volume_image.specs.Image.{IsNewVolume}
use Rattle.volume_salvage.specs.Rescued.{AreJudged, FitsFiles, HasNoPlace, files_to_keep, with_files}
use Rattle.volume_salvage.specs.Rows.{Differ}
use Rattle.volume_salvage.specs.Steps.{FitsFile, IsRow, KeepsFitting}
use Rattle.volume_salvage.specs.declared.faults.Refusal.{Refusal}
use Rattle.volume_salvage.specs.declared.faults.RescueFault.{RescueFault}
use Rattle.volume_salvage.specs.declared.faults.RescueFault.TheVariants.{Image, Unread, Refused}
use Rattle.volume_salvage.specs.declared.volumes.KeptFile.{KeptFile}
use Rattle.volume_salvage.proofs.RescueLemmas.{ready-again}
use Rattle.volume_salvage.proofs.RowLemmas.{differ-init, row-more, same-row}

with-more : (info : ℕ) (files : Files) (kept : List KeptFile) (f : KeptFile) → with_files info files (kept ++ f ∷ []) ≡ insert (with_files info files kept) f.name (with_end_zeros info f.info, f.words.items)
with-more info files [] f = refl
with-more info files (k ∷ ks) f = with-more info (insert files k.name (with_end_zeros info k.info, k.words.items)) ks f

-- of all files those before the rest are judged, and some of them kept
pub record IsSoFar (start : MountState) (all : List KeptFile) (now : MountState) (refusals : List (Option Refusal)) (place : ℕ) (rest : List KeptFile) : Type 0 where
  pub ready : IsReady now
  pub info : info_of now.blocks ≡ info_of start.blocks
  pub capacity : capacity_of now.blocks ≡ capacity_of start.blocks
  pub kept : List KeptFile
  pub files : files_of now.blocks ≡ with_files (info_of start.blocks) (from_entries []) kept
  pub row : IsRow start.blocks [] → Differ kept → IsRow now.blocks kept
  pub keeps : (more : List (Option Refusal)) → files_to_keep all (refusals ++ more) ≡ kept ++ files_to_keep rest more
  pub judges : (more : List (Option Refusal)) → AreJudged (info_of start.blocks) (capacity_of start.blocks) kept place rest more
      → AreJudged (info_of start.blocks) (capacity_of start.blocks) [] 0 all (refusals ++ more)

pub none-so-far : (start : MountState) (all : List KeptFile) → IsReady start → files_of start.blocks ≡ from_entries [] → IsSoFar start all start [] 0 all
none-so-far start all ready none = record {
  ready = ready;
  info = refl;
  capacity = refl;
  kept = [];
  files = none;
  row = λ empty differ. empty;
  keeps = λ more. refl;
  judges = λ more judged. judged;
}

joined : (refusals more new : List (Option Refusal)) (refusal : Option Refusal) → new ≡ refusals ++ refusal ∷ [] → new ++ more ≡ refusals ++ refusal ∷ more
joined refusals more new refusal is = ap (λ l. l ++ more) is ∙ append_assoc refusals (refusal ∷ []) more

next-place : (place : ℕ) → place + 1 ≡ suc place
next-place place = omega arith

pub one-fitted : (start now next : MountState) (all rest others : List KeptFile) (f : KeptFile) (place : ℕ) (refusals new : List (Option Refusal)) (refusal : Option Refusal)
    → IsSoFar start all now refusals place rest → rest ≡ f ∷ others → FitsFile now f place (Ok refusal) next → new ≡ refusals ++ refusal ∷ []
    → IsSoFar start all next new (place + 1) others
one-fitted start now next all rest others f place refusals new None so is (are, put) is_new =
    let info = info_of start.blocks in
    let capacity = capacity_of start.blocks in
    record {
      ready = ready-again now next f put;
      info = put.info ∙ so.info;
      capacity = put.capacity ∙ so.capacity;
      kept = so.kept ++ f ∷ [];
      files = put.files
          ∙ ap (λ i. insert (files_of now.blocks) f.name (with_end_zeros i f.info, f.words.items)) so.info
          ∙ ap (λ (files : Files). insert files f.name (with_end_zeros info f.info, f.words.items)) so.files
          ∙ sym (with-more info (from_entries []) so.kept f);
      row = λ empty differ. let before = differ-init so.kept f differ in row-more now next f so.kept (so.row empty before.0) before.1 are.some put;
      keeps = λ more. ap (files_to_keep all) (joined refusals more new None is_new) ∙ so.keeps (None ∷ more) ∙ ap (λ l. so.kept ++ files_to_keep l (None ∷ more)) is
          ∙ sym (append_assoc so.kept (f ∷ []) (files_to_keep others more));
      judges = λ more judged.
          let first = subst (λ n. AreJudged info capacity (so.kept ++ f ∷ []) n others more) (next-place place) judged in
          let whole = subst (λ l. AreJudged info capacity so.kept place l (None ∷ more)) (sym is) first in
          subst (AreJudged info capacity [] 0 all) (sym (joined refusals more new None is_new)) (so.judges (None ∷ more) whole);
    }
one-fitted start now next all rest others f place refusals new (Some refusal) so is (why, of_file, same) is_new =
    let info = info_of start.blocks in
    let capacity = capacity_of start.blocks in
    record {
      ready = same.ready;
      info = same.info ∙ so.info;
      capacity = same.capacity ∙ so.capacity;
      kept = so.kept;
      files = same.files ∙ so.files;
      row = λ empty differ. same-row now next so.kept same.directory (so.row empty differ);
      keeps = λ more. ap (files_to_keep all) (joined refusals more new (Some refusal) is_new) ∙ so.keeps (Some refusal ∷ more) ∙ ap (λ l. so.kept ++ files_to_keep l (Some refusal ∷ more)) is;
      judges = λ more judged.
          let refused : HasNoPlace info capacity so.kept place f refusal = record { old = now; new = next; files = so.files; capacity_is = so.capacity; of_file = of_file; why = why } in
          let first : AreJudged info capacity so.kept place (f ∷ others) (Some refusal ∷ more) = (refused, subst (λ n. AreJudged info capacity so.kept n others more) (next-place place) judged) in
          let whole = subst (λ l. AreJudged info capacity so.kept place l (Some refusal ∷ more)) (sym is) first in
          subst (AreJudged info capacity [] 0 all) (sym (joined refusals more new (Some refusal) is_new)) (so.judges (Some refusal ∷ more) whole);
    }

pub all-fitted : (start now : MountState) (all rest : List KeptFile) (place : ℕ) (refusals : List (Option Refusal)) → IsSoFar start all now refusals place rest → rest ≡ []
    → (info_of now.blocks ≡ info_of start.blocks)
    × (files_of now.blocks ≡ with_files (info_of start.blocks) (from_entries []) (files_to_keep all refusals))
    × AreJudged (info_of start.blocks) (capacity_of start.blocks) [] 0 all refusals
    × (IsRow start.blocks [] → Differ (files_to_keep all refusals) → IsRow now.blocks (files_to_keep all refusals))
all-fitted start now all rest place refusals so is =
    let info = info_of start.blocks in
    let capacity = capacity_of start.blocks in
    let nothing : AreJudged info capacity so.kept place rest [] = subst (λ l. AreJudged info capacity so.kept place l []) (sym is) tt in
    let keeps : files_to_keep all refusals ≡ so.kept =
    ap (files_to_keep all) (sym (append-nil refusals)) ∙ so.keeps [] ∙ ap (λ l. so.kept ++ files_to_keep l []) is ∙ append-nil so.kept in (
      so.info,
      so.files ∙ ap (with_files info (from_entries [])) (sym keeps),
      subst (AreJudged info capacity [] 0 all) (append-nil refusals) (so.judges [] nothing),
      λ empty differ. subst (IsRow now.blocks) (sym keeps) (so.row empty (subst Differ keeps differ)),
    )

-- a failed call, or want of memory, is answered as it is
pub failed-fits : (old new : MountState) (count : ℕ) (blocks : List (List ℕ)) (files : List KeptFile) (why : RescueFault) → IsNewVolume count blocks → KeepsFitting old files (Err why) new → FitsFiles count files (Err why)
failed-fits old new count blocks files (Image fault) made is = rw is (omega (arith, made.volume.least, made.size), omega (arith, made.volume.most, made.size))
failed-fits old new count blocks files Unread made is = absurd is
failed-fits old new count blocks files (Refused refusal) made is = is
