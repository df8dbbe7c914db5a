-- What stays where a directory is written, and where a block is.
use Rattle.std.proofs.Common.{◌≡◌, ℕ, suc, ◌+◌, ◌-◌, ◌<◌, ◌≤◌, List, [], ◌∷◌, ◌++◌, length, take, drop, get_or, slice_set, Ok, refl, ap, sym, ◌∙◌, arith, inl, inr, get_or-set_other, append_assoc}
use Rattle.std.proofs.Math.ListN.{length-set}
use Rattle.std.proofs.lemmas.List.{get_or-drop, drop-set-add, length-drop}
use Rattle.std.proofs.lemmas.Grind.{take-set_at}
use Rattle.os8_dir.specs.Entries.{DirectoryState}
use Rattle.os8_dir.specs.Reading.{directory_of, block}
use Rattle.os8_dir.specs.Files.{join_blocks, run, of_directory}
use Rattle.os8_files.specs.Mounted.{MountState}
use Rattle.os8_files.specs.Calls.{KeepsBlocks, info_of}
use Rattle.os8_files.specs.WriteSteps.{HasDirectory, KeepsHigh, with_run}
use Rattle.os8_files.proofs.RunLemmas.{length-with_run, block-with_run}

block-high : (old new : List (List ℕ)) (k : ℕ) → drop 7 new ≡ drop 7 old → 7 ≤ k → block new k ≡ block old k
block-high old new k same high =
    let e : k ≡ 7 + (k - 7) = omega (arith, high) in
    ap (λ j. get_or new j []) e
    ∙ sym (get_or-drop 7 new (k - 7) [])
    ∙ ap (λ bs. get_or bs (k - 7) []) same
    ∙ get_or-drop 7 old (k - 7) []
    ∙ ap (λ j. get_or old j []) (sym e)

pub high-keeps : (old new : List (List ℕ)) → KeepsHigh old new → KeepsBlocks old new 0 0
high-keeps old new keeps = record {
  count = keeps.size;
  first = keeps.first;
  following = λ k high beside. block-high old new k keeps.high high;
}

pub written-keeps : (old new : List (List ℕ)) (place : ℕ) (words : List ℕ) → 7 ≤ place → new ≡ slice_set old place words → KeepsBlocks old new place 1
written-keeps old new place words high is = record {
  count = ap (λ (bs : List (List ℕ)). length bs) is ∙ length-set old place words;
  first = ap (λ bs. block bs 0) is ∙ get_or-set_other old place 0 words [] (omega (arith, high));
  following = λ k above beside. ap (λ bs. block bs k) is ∙ elim beside [
    | inl low ↦ get_or-set_other old place k words [] (omega (arith, low))
    | inr up ↦ get_or-set_other old place k words [] (omega (arith, up))
  ];
}

pub directory-keeps : (old new : MountState) (d : DirectoryState) → HasDirectory old d new → KeepsBlocks old.blocks new.blocks 0 0
directory-keeps old new d done = record {
  count = done.size;
  first = done.first;
  following = λ k high beside. block-high old.blocks new.blocks k done.high high;
}

block-above : (blocks : List (List ℕ)) (place : ℕ) (ws : List (List ℕ)) (k : ℕ) → place + length ws ≤ k → block (with_run blocks place ws) k ≡ block blocks k
block-above blocks place [] k up = refl
block-above blocks place (x ∷ ws) k up = block-above (slice_set blocks place x) (suc place) ws k (omega (arith, up)) ∙ get_or-set_other blocks place k x [] (omega (arith, up))

pub run-keeps : (old new : List (List ℕ)) (to size : ℕ) (ws : List (List ℕ)) → new ≡ with_run old to ws → length ws ≤ size → 7 ≤ to → KeepsBlocks old new to size
run-keeps old new to size ws copied few high = record {
  count = ap (λ (bs : List (List ℕ)). length bs) copied ∙ length-with_run old to ws;
  first = ap (λ bs. block bs 0) copied ∙ block-with_run old to ws 0 (omega (arith, high));
  following = λ k above beside. ap (λ bs. block bs k) copied ∙ elim beside [
    | inl low ↦ block-with_run old to ws k low
    | inr up ↦ block-above old to ws k (omega (arith, up, few))
  ];
}

pub moved-high-keeps : (old mid new : List (List ℕ)) (to size : ℕ) (ws : List (List ℕ)) → mid ≡ with_run old to ws → length ws ≡ size → 7 ≤ to → KeepsHigh mid new → KeepsBlocks old new to size
moved-high-keeps old mid new to size ws copied long high keeps =
    let run = run-keeps old mid to size ws copied (omega (arith, long)) high in
    record {
      count = keeps.size ∙ run.count;
      first = keeps.first ∙ run.first;
      following = λ k above beside. block-high mid new k keeps.high above ∙ run.following k above beside;
    }

pub moved-keeps : (old mid new : MountState) (d : DirectoryState) (to size : ℕ) (ws : List (List ℕ)) → mid.blocks ≡ with_run old.blocks to ws → length ws ≡ size → 7 ≤ to → HasDirectory mid d new → KeepsBlocks old.blocks new.blocks to size
moved-keeps old mid new d to size ws copied long high done = record {
  count = done.size ∙ ap (λ (bs : List (List ℕ)). length bs) copied ∙ length-with_run old.blocks to ws;
  first = done.first ∙ ap (λ bs. block bs 0) copied ∙ block-with_run old.blocks to ws 0 (omega (arith, high));
  following = λ k above beside. block-high mid.blocks new.blocks k done.high above ∙ ap (λ bs. block bs k) copied ∙ elim beside [
    | inl low ↦ block-with_run old.blocks to ws k low
    | inr up ↦ block-above old.blocks to ws k (omega (arith, up, long))
  ];
}

pub info-of : (blocks : List (List ℕ)) (d : DirectoryState) → directory_of blocks ≡ Ok d → info_of blocks ≡ d.info
info-of blocks d read = ap (of_directory (λ (x : DirectoryState). x.info)) read

-- One block more of the words of a run.
joined-more : (bs : List (List ℕ)) (w : List ℕ) → join_blocks (bs ++ w ∷ []) ≡ join_blocks bs ++ w
joined-more [] w = append-none w
  where
    append-none : (ws : List ℕ) → ws ++ [] ≡ ws
    append-none [] = refl
    append-none (x ∷ ws) = ap (λ r. x ∷ r) (append-none ws)
joined-more (b ∷ bs) w = ap (λ r. b ++ r) (joined-more bs w) ∙ sym (append_assoc b (join_blocks bs) w)

pub text-more : (blocks : List (List ℕ)) (place written : ℕ) (w : List ℕ) → place + written < length blocks → run (slice_set blocks (place + written) w) place (written + 1) ≡ run blocks place written ++ w
text-more blocks place written w inside =
    ap (λ bs. join_blocks (take (written + 1) bs)) (drop-set-add place blocks written w)
    ∙ ap join_blocks (take-set_at (drop place blocks) written (written + 1) w refl (omega (arith, length-drop place blocks, inside)))
    ∙ joined-more (take written (drop place blocks)) w
