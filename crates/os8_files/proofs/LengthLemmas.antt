-- How many words a run of blocks has.
use Rattle.std.proofs.Common.{◌≡◌, ℕ, ◌+◌, ◌*◌, ◌≤◌, All, refl, ◌∙◌, ap, arith, take, drop, length, length-append, length-drop, List, [], ◌∷◌}
use Rattle.std.proofs.lemmas.List.{length-take-le}
use Rattle.std.proofs.lemmas.List.Elements.{All-take, All-drop, All-head, All-tail}
use Rattle.volume_image.specs.Volume.{IsBlock}
use Rattle.os8_dir.specs.Files.{join_blocks, run}

length-joined : (bs : List (List ℕ)) → All IsBlock bs → length (join_blocks bs) ≡ 256 * length bs
length-joined [] each = refl
length-joined (b ∷ bs) each =
    length-append b (join_blocks bs)
    ∙ omega (arith, All-head IsBlock b bs each, length-joined bs (All-tail IsBlock b bs each))

pub length-run : (blocks : List (List ℕ)) (place size : ℕ) → All IsBlock blocks → place + size ≤ length blocks → length (run blocks place size) ≡ 256 * size
length-run blocks place size each inside =
    length-joined (take size (drop place blocks)) (All-take IsBlock size (drop place blocks) (All-drop IsBlock place blocks each))
    ∙ ap (λ n. 256 * n) (length-take-le size (drop place blocks) (omega (arith, length-drop place blocks)))
