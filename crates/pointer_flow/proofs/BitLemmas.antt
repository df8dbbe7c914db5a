-- Tables of bits, 64 in a number.
use Rattle.std.proofs.Common.{◌≡◌, ◌≢◌, ◌⊎◌, inl, inr, ℕ, ◌*◌, ◌/◌, ◌%◌, ◌^◌, ◌<◌, ◌≤◌, true, false, nat_eq, List, length, replicate, slice_index_or, slice_set, get_or-set_other, get_or-set_same, ap, sym, ◌∙◌, arith}
use Rattle.std.proofs.lemmas.Bool.{cases_eq, cases_lt, eq-eqb, true≢false}
use Rattle.std.proofs.lemmas.List.{get_or-replicate, get_or_past, length-replicate}
use Rattle.std.proofs.lemmas.Nat.Bits.{bit_at-zero, bit_at_set_same, bit_at_set_other, shr_and_one}
use Rattle.std.specs.Int.{bit_at, w64}
use Rattle.std.specs.Prelude.{bit_or, bit_and}
use Rattle.pointer_flow.specs.Tables.{is_bit_set}
use Rattle.pointer_flow.specs.Steps.{AreUnmarked}

-- the number of a table after a bit is set
abbrev pub with_bit : ℕ → ℕ → ℕ
with_bit bits place = bit_or bits (1 * 2 ^ place % 2 ^ 64)

pub set_here : (bits : List ℕ) (number : ℕ) → number / 64 < length bits
    → is_bit_set (slice_set bits (number / 64) (with_bit (slice_index_or bits (number / 64) 0) (number % 64))) number ≡ true
set_here bits number inside =
    ap (λ word. nat_eq (bit_at word (number % 64)) 1)
    (get_or-set_same bits (number / 64) (with_bit (slice_index_or bits (number / 64) 0) (number % 64)) 0 inside)
    ∙ eq-eqb (bit_at (with_bit (slice_index_or bits (number / 64) 0) (number % 64)) (number % 64)) 1
    (bit_at_set_same w64 (slice_index_or bits (number / 64) 0) (number % 64) (omega arith))

pub set_elsewhere : (bits : List ℕ) (number other : ℕ) → number / 64 < length bits → other ≢ number
    → is_bit_set (slice_set bits (number / 64) (with_bit (slice_index_or bits (number / 64) 0) (number % 64))) other ≡ is_bit_set bits other
set_elsewhere bits number other inside apart = elim (cases_eq (other / 64) (number / 64)) [
  | inl same ↦
      let far : other % 64 ≢ number % 64 = λ is. apart (omega (arith, is, same)) in
      ap (λ word. nat_eq (bit_at word (other % 64)) 1)
      (ap (λ at. slice_index_or (slice_set bits (number / 64) (with_bit (slice_index_or bits (number / 64) 0) (number % 64))) at 0) same
      ∙ get_or-set_same bits (number / 64) (with_bit (slice_index_or bits (number / 64) 0) (number % 64)) 0 inside)
      ∙ ap (λ bit. nat_eq bit 1) (bit_at_set_other w64 (slice_index_or bits (number / 64) 0) (number % 64) (omega arith) (other % 64) far)
      ∙ ap (λ at. nat_eq (bit_at (slice_index_or bits at 0) (other % 64)) 1) (sym same)
  | inr far ↦
      ap (λ word. nat_eq (bit_at word (other % 64)) 1)
      (get_or-set_other bits (number / 64) (other / 64) (with_bit (slice_index_or bits (number / 64) 0) (number % 64)) 0 far)
]

-- what a shift and a mask read is the bit
pub reads_bit : (bits : List ℕ) (number word : ℕ) → word ≡ slice_index_or bits (number / 64) 0
    → nat_eq (bit_and (word / 2 ^ (number % 64)) 1) 1 ≡ is_bit_set bits number
reads_bit bits number word is =
    ap (λ bit. nat_eq bit 1) (shr_and_one word (number % 64) ∙ ap (λ w. bit_at w (number % 64)) is)

pub zeros_unmarked : (count : ℕ) → AreUnmarked (replicate count 0)
zeros_unmarked count number set = true≢false (sym set ∙ ap (λ word. nat_eq (bit_at word (number % 64)) 1) (zero_at (cases_lt (number / 64) count)) ∙ none)
  where
    zero_at : (number / 64 < count) ⊎ (count ≤ number / 64) → ◌≡◌ {A = ℕ} (slice_index_or (replicate count 0) (number / 64) 0) 0
    zero_at (inl inside) = get_or-replicate count (number / 64) 0 0 inside
    zero_at (inr beyond) = get_or_past (replicate count 0) (number / 64) 0 (omega (arith, beyond, length-replicate {A = ℕ} count 0))

    none : nat_eq (bit_at 0 (number % 64)) 1 ≡ false
    none = ap (λ bit. nat_eq bit 1) (bit_at-zero (number % 64))
