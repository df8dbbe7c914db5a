-- The frames of the blocks of a file.
use Rattle.std.proofs.Common.{◌≡◌, ◌∙◌, ℕ, ◌+◌, ◌<◌, List, [], ◌∷◌, ◌++◌, length, take, drop, slice_index, ap, sym, arith, suc, add-one}
use Rattle.std.proofs.Math.Seq.{take-suc, drop-cons}
use Rattle.std.proofs.lemmas.List.{take-append-drop}
use Rattle.char_pack.specs.Packing.{frames}
use Rattle.char_pack.specs.declared.packing.TheConstants.{BLOCK_FRAMES}
use Rattle.char_pack.proofs.FrameLemmas.{length-frames}

pub block_frames : (block : List ℕ) → length block ≡ 256 → length (frames block) ≡ BLOCK_FRAMES
block_frames block whole = omega (arith, length-frames block, whole)

-- one frame more
pub one_frame : (fs : List ℕ) (i : ℕ) → i < length fs → take (i + 1) fs ≡ take i fs ++ slice_index fs i ∷ []
one_frame fs i inside = rw add-one (take-suc fs i 0 inside)

-- the frames of a list with one of them at its place
pub split_frames : (fs : List ℕ) (i : ℕ) → i < length fs → fs ≡ take i fs ++ slice_index fs i ∷ drop (suc i) fs
split_frames fs i inside = sym (take-append-drop i fs) ∙ ap (λ l. take i fs ++ l) (drop-cons fs i 0 inside)
