-- The words of a tape.
use Rattle.std.proofs.Common.{◌≡◌, inl, inr, ℕ, ◌+◌, ◌*◌, ◌<◌, nat_eq, Bool, true, false, if◌then◌else◌, is_some, Option, Some, None, List, [], ◌∷◌, ap, sym, ◌∙◌, arith}
use Rattle.std.proofs.lemmas.Bool.Decides.{eqb_tells}
use Rattle.word12.specs.declared.sizes.TheConstants.{CORE}
use Rattle.bin_tape.specs.Items.{Item, Leader, Field, Origin, Word, IsPrefix, cell_after, tape_map}
use Rattle.tape_source.proofs.TapeLemmas.{field_small, address_small}

-- a cell that a tape gives a word is one of core
pub in_core : (items : List Item) → IsPrefix items → (cell : ℕ) → is_some (tape_map items cell) ≡ true → cell < CORE
in_core [] prefix cell some = absurd (cc some)
in_core (Leader f ∷ older) prefix cell some = in_core older prefix.2 cell some
in_core (Field n ∷ older) prefix cell some = in_core older prefix.1 cell some
in_core (Origin high low ∷ older) prefix cell some = in_core older prefix.2 cell some
in_core (Word high low ∷ older) prefix cell some =
    elim (eqb_tells (cell_after older) cell) [
      | inl same ↦
          let f = field_small older prefix.3 in
          let a = address_small older prefix.3 in
          let e = same.1 in
          omega (arith, f, a, e)
      | inr other ↦ in_core older prefix.3 cell (ap (λ (b : Bool). is_some (if b then Some (0o100 * high + low) else tape_map older cell)) (sym other.0) ∙ some)
    ]

abbrev word_or : ℕ → Option ℕ → ℕ
word_or other None = other
word_or other (Some word) = word

-- a word of a tape has twelve bits
pub twelve_bits : (items : List Item) → IsPrefix items → (cell word : ℕ) → tape_map items cell ≡ Some word → word < 4096
twelve_bits [] prefix cell word is = absurd (cc is)
twelve_bits (Leader f ∷ older) prefix cell word is = twelve_bits older prefix.2 cell word is
twelve_bits (Field n ∷ older) prefix cell word is = twelve_bits older prefix.1 cell word is
twelve_bits (Origin high low ∷ older) prefix cell word is = twelve_bits older prefix.2 cell word is
twelve_bits (Word high low ∷ older) prefix cell word is = by_test (nat_eq (cell_after older) cell) is (λ is. twelve_bits older prefix.3 cell word is)
  where
    by_test : (b : Bool) → (if b then Some (0o100 * high + low) else tape_map older cell) ≡ Some word → (tape_map older cell ≡ Some word → word < 4096) → word < 4096
    by_test true is before = let h = prefix.0 in let l = prefix.1 in let e : 0o100 * high + low ≡ word = ap (word_or 0) is in omega (arith, h, l, e)
    by_test false is before = before is
