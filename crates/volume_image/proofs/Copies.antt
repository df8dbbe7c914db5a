-- Lists of one number over and over.
use Rattle.std.proofs.Common.{◌≡◌, ℕ, zero, suc, ◌<◌, slice_index, slice_index_or, refl, ◌∙◌}
use Rattle.std.specs.Prelude.{replicate}
use Rattle.std.proofs.lemmas.List.{get_or-replicate}

pub slice_index-replicate-zero : (n k : ℕ) → slice_index (replicate n 0) k ≡ 0
slice_index-replicate-zero zero k = refl
slice_index-replicate-zero (suc n) zero = refl
slice_index-replicate-zero (suc n) (suc k) = slice_index-replicate-zero n k

pub slice_index-replicate-of : (n x y k d : ℕ) → x ≡ y → k < n → slice_index_or (replicate n x) k d ≡ y
slice_index-replicate-of n x y k d e h = get_or-replicate n k x d h ∙ e
