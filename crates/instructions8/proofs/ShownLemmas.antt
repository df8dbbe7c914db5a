-- Each word of an instruction is shown by its name.
use Rattle.std.proofs.Common.{◌≡◌, ℕ, ◌+◌, ◌*◌, ◌/◌, ◌%◌, ◌<◌, nat_eq, Bool, true, if◌then◌else◌, List, [], ◌∷◌, ◌++◌, refl, ap, ◌∙◌}
use Rattle.std.specs.Prelude.{codes}
use Rattle.word12.specs.Octal.{octal4}
use Rattle.tape_source.specs.Patterns.{patterns, patterns_of, names}
use Rattle.tape_source.specs.Fewest.{group_1, group_2}
use Rattle.tape_source.specs.References.{operation_name, is_reference}
use Rattle.tape_source.specs.Tags.{tag}
use Rattle.tape_source.specs.Statements.{address, reference, is_named, instruction}
use Rattle.instructions8.specs.Instructions.{instructions, Each}
use Rattle.instructions8.specs.Shown.{BeginsWith, field_pieces, IsShown, is_of_group_1, is_of_group_2, codes_where}
use Rattle.instructions8.proofs.RowLemmas.{◌⊗◌, of_fields}

abbrev following : (ℕ → Bool) → ℕ → ℕ → List (List ℕ)
following tagged cell word = (if nat_eq (word / 0o400 % 2) 1 then codes "I" ∷ [] else []) ++ address tag tagged cell word ∷ []

begins : (digit : ℕ) (tagged : ℕ → Bool) (cell word : ℕ) → word / 0o1000 ≡ digit → is_reference (cell % 0o10000) word ≡ true
    → BeginsWith (operation_name digit) (instruction tagged cell word)
begins digit tagged cell word top refers = record {
  others = following tagged cell word;
  pieces_are =
      ap (λ b. if b then reference tag tagged cell word else (if is_named word then names (patterns_of word patterns) else octal4 word ∷ [])) refers
      ∙ ap (λ d. operation_name d ∷ following tagged cell word) top;
}

cdf_shown : (field : ℕ) → field < 8 → (tagged : ℕ → Bool) (cell : ℕ) → instruction tagged cell (0o6201 + 0o10 * field) ≡ codes "CDF" ∷ field_pieces field
unfolding patterns
cdf_shown = of_fields (λ field. (tagged : ℕ → Bool) (cell : ℕ) → instruction tagged cell (0o6201 + 0o10 * field) ≡ codes "CDF" ∷ field_pieces field) (λ tagged cell. refl, λ tagged cell. refl, λ tagged cell. refl, λ tagged cell. refl, λ tagged cell. refl, λ tagged cell. refl, λ tagged cell. refl, λ tagged cell. refl)

cif_shown : (field : ℕ) → field < 8 → (tagged : ℕ → Bool) (cell : ℕ) → instruction tagged cell (0o6202 + 0o10 * field) ≡ codes "CIF" ∷ field_pieces field
unfolding patterns
cif_shown = of_fields (λ field. (tagged : ℕ → Bool) (cell : ℕ) → instruction tagged cell (0o6202 + 0o10 * field) ≡ codes "CIF" ∷ field_pieces field) (λ tagged cell. refl, λ tagged cell. refl, λ tagged cell. refl, λ tagged cell. refl, λ tagged cell. refl, λ tagged cell. refl, λ tagged cell. refl, λ tagged cell. refl)

pub shown : Each IsShown instructions
unfolding instructions patterns
shown =
    begins 0
    ⊗ begins 1
    ⊗ begins 2
    ⊗ begins 3
    ⊗ begins 4
    ⊗ begins 5
    ⊗ (λ tagged cell. refl)
    ⊗ (λ tagged cell. refl)
    ⊗ (λ tagged cell. refl)
    ⊗ (λ tagged cell. refl)
    ⊗ (λ tagged cell. refl)
    ⊗ (λ tagged cell. refl)
    ⊗ (λ tagged cell. refl)
    ⊗ (λ tagged cell. refl)
    ⊗ (λ tagged cell. refl)
    ⊗ (λ tagged cell. refl)
    ⊗ (λ tagged cell. refl)
    ⊗ (λ tagged cell. refl)
    ⊗ (λ tagged cell. refl)
    ⊗ (λ tagged cell. refl)
    ⊗ (λ tagged cell. refl)
    ⊗ (λ tagged cell. refl)
    ⊗ (λ tagged cell. refl)
    ⊗ (λ tagged cell. refl)
    ⊗ (λ tagged cell. refl)
    ⊗ (λ tagged cell. refl)
    ⊗ (λ tagged cell. refl)
    ⊗ (λ tagged cell. refl)
    ⊗ (λ tagged cell. refl)
    ⊗ (λ tagged cell. refl)
    ⊗ (λ tagged cell. refl)
    ⊗ (λ tagged cell. refl)
    ⊗ (λ tagged cell. refl)
    ⊗ (λ tagged cell. refl)
    ⊗ (λ tagged cell. refl)
    ⊗ (λ tagged cell. refl)
    ⊗ (λ tagged cell. refl)
    ⊗ (λ tagged cell. refl)
    ⊗ (λ tagged cell. refl)
    ⊗ (λ tagged cell. refl)
    ⊗ (λ tagged cell. refl)
    ⊗ (λ tagged cell. refl)
    ⊗ (λ tagged cell. refl)
    ⊗ (λ tagged cell. refl)
    ⊗ (λ tagged cell. refl)
    ⊗ (λ tagged cell. refl)
    ⊗ (λ tagged cell. refl)
    ⊗ cdf_shown
    ⊗ cif_shown
    ⊗ (λ tagged cell. refl)
    ⊗ (λ tagged cell. refl)
    ⊗ (λ tagged cell. refl)
    ⊗ (λ tagged cell. refl)
    ⊗ tt

pub first_group : group_1 ≡ codes_where is_of_group_1 instructions
unfolding instructions group_1
first_group = refl

pub second_group : group_2 ≡ codes_where is_of_group_2 instructions
unfolding instructions group_2
second_group = refl
