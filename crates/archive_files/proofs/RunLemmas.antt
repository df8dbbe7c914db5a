-- The words of runs of blocks.
use Rattle.std.proofs.Common.{◌≡◌, ℕ, ◌+◌, ◌<◌, ◌∙◌, Some, List, [], ◌∷◌, ◌++◌, take, drop, length, get_or, sym, ap, arith, append_assoc, add-one, length-drop}
use Rattle.std.specs.Prelude.{slice_get}
use Rattle.std.proofs.Math.Seq.{take-suc}
use Rattle.std.proofs.lemmas.List.{append-nil, get_or-drop}
use Rattle.std.proofs.lemmas.Option.{get_or_from_slice_get}
use Rattle.os8_dir.specs.Files.{join_blocks, run}

joined-more : (bs : List (List ℕ)) (w : List ℕ) → join_blocks (bs ++ w ∷ []) ≡ join_blocks bs ++ w
joined-more [] w = append-nil w
joined-more (b ∷ bs) w = ap (λ r. b ++ r) (joined-more bs w) ∙ sym (append_assoc b (join_blocks bs) w)

-- one block more of a run
pub run-more : (blocks : List (List ℕ)) (place k : ℕ) (words : List ℕ) → place + k < length blocks → slice_get blocks (place + k) ≡ Some words → run blocks place k ++ words ≡ run blocks place (k + 1)
run-more blocks place k words inside is =
    ap (λ w. run blocks place k ++ w) (sym (get_or-drop place blocks k [] ∙ get_or_from_slice_get blocks (place + k) words [] is))
    ∙ sym (joined-more (take k (drop place blocks)) (get_or (drop place blocks) k []))
    ∙ ap join_blocks (sym (take-suc (drop place blocks) k [] (omega (arith, length-drop place blocks, inside))))
    ∙ ap (λ n. run blocks place n) (sym (add-one k))
