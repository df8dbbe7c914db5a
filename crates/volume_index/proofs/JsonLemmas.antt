-- The line ends of JSON objects.
use Rattle.std.proofs.Common.{◌≡◌, ◌∙◌, ℕ, ◌+◌, nat_eq, Bool, true, false, ◌||◌, if◌then◌else◌, List, [], ◌∷◌, ◌++◌, refl, ap, arith, codes}
use Rattle.std.proofs.lemmas.Bool.Decides.{nat_tests}
use Rattle.volume_index.specs.Json.{with_escape, json_from, next_column, opening, separator, with_column_ends}
use Rattle.volume_index.specs.Laws.{line_ends}

joined-ends : (a b : List ℕ) → line_ends (a ++ b) ≡ line_ends a + line_ends b
joined-ends [] b = omega arith
joined-ends (c ∷ a) b = omega (arith, joined-ends a b)

opening-ends : (column : ℕ) → line_ends (opening column) ≡ 0
opening-ends column = by (nat_eq column 0)
  where
    by : (b : Bool) → line_ends (if b then codes "{\"image\":\"" else []) ≡ 0
    by true = refl
    by false = refl

chosen-ends : (b : Bool) (one other : List ℕ) → line_ends one ≡ 0 → line_ends other ≡ 0 → line_ends (if b then one else other) ≡ 0
chosen-ends true one other e f = e
chosen-ends false one other e f = f

separator-ends : (column : ℕ) → line_ends (separator column) ≡ 0
separator-ends column =
    chosen-ends (nat_eq column 1) _ _ refl
    (chosen-ends (nat_eq column 2) _ _ refl
    (chosen-ends (nat_eq column 3) _ _ refl
    (chosen-ends (nat_eq column 4) _ _ refl (chosen-ends (nat_eq column 5) _ _ refl (chosen-ends (nat_eq column 6) _ _ refl refl)))))

-- one for an LF, and none for another byte
abbrev ends-of : Bool → ℕ
ends-of b = if b then 1 else 0

escaped-ends : (byte : ℕ) → nat_eq byte 10 ≡ false → line_ends (with_escape byte) ≡ 0
escaped-ends byte other = by (nat_eq byte 34 || nat_eq byte 92)
  where
    by : (b : Bool) → line_ends (if b then 92 ∷ byte ∷ [] else byte ∷ []) ≡ 0
    by true = ap (λ (t : Bool). 0 + (ends-of t + 0)) other
    by false = ap (λ (t : Bool). ends-of t + 0) other

shaped-ends : (column byte : ℕ) → line_ends (with_column_ends column byte) ≡ ends-of (nat_eq byte 10)
shaped-ends column byte = by (nat_eq byte 9) refl (nat_eq byte 10) refl
  where
    by : (t : Bool) → nat_eq byte 9 ≡ t → (l : Bool) → nat_eq byte 10 ≡ l → line_ends (if t then separator column else if l then codes "\"}\n" else with_escape byte) ≡ ends-of l
    by true tab true lf = absurd (grind (arith, nat_tests))
    by true tab false lf = separator-ends column
    by false tab true lf = refl
    by false tab false lf = escaped-ends byte lf

pub same-ends : (column : ℕ) (bytes : List ℕ) → line_ends (json_from column bytes) ≡ line_ends bytes
same-ends column [] = refl
same-ends column (byte ∷ bytes) =
    joined-ends (opening column ++ with_column_ends column byte) (json_from (next_column column byte) bytes)
    ∙ ap (λ n. n + line_ends (json_from (next_column column byte) bytes)) (joined-ends (opening column) (with_column_ends column byte))
    ∙ omega (arith, opening-ends column, shaped-ends column byte, same-ends (next_column column byte) bytes)
