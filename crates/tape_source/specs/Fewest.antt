-- That an operate is shown by the fewest names of its group (Small Computer Handbook).
use Rattle.std.specs.Prelude.{◌≡◌, ℕ, ◌≤◌, nat_eq, Bool, true, false, ◌&&◌, ◌||◌, bit_or, length, List, [], ◌∷◌, codes}
use Rattle.word12.specs.Octal.{octal_number}
use Rattle.tape_source.specs.Patterns.{Pattern, patterns, patterns_of}
use Rattle.tape_source.specs.Statements.{is_named}

abbrev pub octal_numbers : List (List ℕ) → List ℕ
octal_numbers [] = []
octal_numbers (number ∷ others) = octal_number number ∷ octal_numbers others

-- NOP, IAC, RAL, RTL, RAR, RTR, CML, CMA, CIA, CLL, STL, CLA, GLK and STA
unfoldable pub group_1 : List ℕ
group_1 =
    octal_numbers (codes "7000" ∷ codes "7001" ∷ codes "7004" ∷ codes "7006" ∷ codes "7010" ∷ codes "7012" ∷ codes "7020" ∷ codes "7040" ∷ codes "7041"
    ∷ codes "7100" ∷ codes "7120" ∷ codes "7200" ∷ codes "7204" ∷ codes "7240" ∷ [])

-- CLA, HLT, OSR, SKP, SNL, SZL, SZA, SNA, SMA, SPA and LAS
unfoldable pub group_2 : List ℕ
group_2 =
    octal_numbers (codes "7200" ∷ codes "7402" ∷ codes "7404" ∷ codes "7410" ∷ codes "7420" ∷ codes "7430" ∷ codes "7440" ∷ codes "7450" ∷ codes "7500"
    ∷ codes "7510" ∷ codes "7604" ∷ [])

abbrev pub is_one_of : List ℕ → ℕ → Bool
is_one_of [] value = false
is_one_of (first ∷ others) value = nat_eq first value || is_one_of others value

abbrev pub are_of : List ℕ → List ℕ → Bool
are_of group [] = true
are_of group (value ∷ values) = is_one_of group value && are_of group values

-- the inclusive or of a number and others
abbrev pub or_all : ℕ → List ℕ → ℕ
or_all before [] = before
or_all before (value ∷ values) = or_all (bit_or before value) values

-- the values of the names of patterns
abbrev pub values_of : List Pattern → List ℕ
values_of [] = []
values_of (p ∷ others) = p.3 ∷ values_of others

-- A word that names of a group make is shown by names of that group, and by no more of them.
abbrev pub AreFewest : List ℕ → Type 0
AreFewest group =
    (value : ℕ) (values : List ℕ) → are_of group (value ∷ values) ≡ true
    → (is_named (or_all value values) ≡ true) × (length (patterns_of (or_all value values) patterns) ≤ length (value ∷ values))
    × (are_of group (values_of (patterns_of (or_all value values) patterns)) ≡ true)
