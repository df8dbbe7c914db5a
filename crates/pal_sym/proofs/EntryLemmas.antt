-- What is found among entries, and what an edit of them does to it.
use Rattle.std.proofs.Common.{◌≡◌, ℕ, zero, suc, ◌<◌, ◌≢◌, nat_eq, cond, if◌then◌else◌, Option, Some, None, [], ◌∷◌, length, get_or, set, refl, ap, ◌∙◌, arith}
use Rattle.std.specs.List.{insert}
use Rattle.std.specs.Ordering.{nat_cmp, eq_by_cmp}
use Rattle.std.specs.FinMap.{find}
use Rattle.std.proofs.lemmas.Bool.Decides.{nat_tests}
use Rattle.pal_sym.specs.declared.symbols.Symbol.{Symbol}
use Rattle.pal_sym.specs.Entries.{Entries, no_entry, name_at}
use Rattle.pal_sym.specs.Steps.{IsAt}

-- what the first entry of a name says
abbrev pub sought : Entries → ℕ → Option Symbol
sought [] name = None
sought (entry ∷ rest) name = if nat_eq entry.0 name then Some entry.1 else sought rest name

same_test : (n name : ℕ) → eq_by_cmp nat_cmp n name ≡ nat_eq name n
same_test n name = grind (arith, nat_tests)

pub found_sought : (entries : Entries) (name : ℕ) → find nat_cmp name entries ≡ sought entries name
found_sought [] name = refl
found_sought (entry ∷ rest) name =
    ap (λ t. cond t (Some entry.1) (find nat_cmp name rest)) (same_test name entry.0) ∙ ap (cond (nat_eq entry.0 name) (Some entry.1)) (found_sought rest name)

-- no entry before a place has the name
abbrev pub NoneBefore : Entries → ℕ → ℕ → Type 0
NoneBefore entries name place = (j : ℕ) → j < place → name_at entries j ≢ name

-- new entries have this at the name, and at another name what the old ones have
abbrev pub Sets : Entries → Entries → ℕ → Symbol → Type 0
Sets old new name symbol = (q : ℕ) → sought new q ≡ (if nat_eq name q then Some symbol else sought old q)

none_in_rest : (entry : ℕ × Symbol) (rest : Entries) (name place : ℕ) → NoneBefore (entry ∷ rest) name (suc place) → NoneBefore rest name place
none_in_rest entry rest name place none j lt = none (suc j) (omega arith)

at_in_rest : (entry : ℕ × Symbol) (rest : Entries) (name place : ℕ) → IsAt (entry ∷ rest) name (suc place) → IsAt rest name place
at_in_rest entry rest name place is_at = record { in_range = omega (arith, is_at.in_range); has_name = is_at.has_name }

-- a name that no entry has is not found
pub sought_absent : (entries : Entries) (name : ℕ) → NoneBefore entries name (length entries) → sought entries name ≡ None
sought_absent [] name none = refl
sought_absent (entry ∷ rest) name none = grind (arith, nat_tests, none 0 (omega arith), sought_absent rest name (none_in_rest entry rest name _ none))

-- the first entry that has it gives what it stands for
pub sought_present : (entries : Entries) (name place : ℕ) → IsAt entries name place → NoneBefore entries name place → sought entries name ≡ Some (get_or entries place no_entry).1
sought_present [] name place is_at none = absurd (omega (arith, is_at.in_range))
sought_present (entry ∷ rest) name zero is_at none = grind (arith, nat_tests, is_at.has_name)
sought_present (entry ∷ rest) name (suc place) is_at none =
    grind (arith, nat_tests, none 0 (omega arith), sought_present rest name place (at_in_rest entry rest name place is_at) (none_in_rest entry rest name place none))

-- writing over that entry sets it
pub sought_set : (entries : Entries) (name : ℕ) (symbol : Symbol) (place : ℕ) → IsAt entries name place → NoneBefore entries name place → Sets entries (set entries place (name, symbol)) name symbol
sought_set [] name symbol place is_at none q = absurd (omega (arith, is_at.in_range))
sought_set (entry ∷ rest) name symbol zero is_at none q = grind (arith, nat_tests, is_at.has_name)
sought_set (entry ∷ rest) name symbol (suc place) is_at none q =
    grind (arith, nat_tests, none 0 (omega arith), sought_set rest name symbol place (at_in_rest entry rest name place is_at) (none_in_rest entry rest name place none) q)

-- so does a new entry before any that has the name
pub sought_insert : (entries : Entries) (name : ℕ) (symbol : Symbol) (place : ℕ) → NoneBefore entries name place → Sets entries (insert entries place (name, symbol)) name symbol
sought_insert entries name symbol zero none q = refl
sought_insert [] name symbol (suc place) none q = refl
sought_insert (entry ∷ rest) name symbol (suc place) none q =
    grind (arith, nat_tests, none 0 (omega arith), sought_insert rest name symbol place (none_in_rest entry rest name place none) q)
