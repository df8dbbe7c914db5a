-- Places of a join in its sources.
use Rattle.std.proofs.Common.{◌≡◌, ℕ, ◌+◌, ◌≤◌, ◌<◌, nat_eq, Bool, true, false, if◌then◌else◌, length, take, get_or, suc, List, [], ◌∷◌, ◌++◌, refl, sym, ap, ◌∙◌, arith}
use Rattle.std.proofs.Math.Seq.{take-suc}
use Rattle.pal_lex.specs.Text.{text_from, text_of}
use Rattle.source_places.specs.Places.{next_line, next_column}

pub grown : (text bytes : List ℕ) (b : ℕ) → text_from text (bytes ++ b ∷ []) ≡ b ∷ text_from text bytes
grown text [] b = refl
grown text (x ∷ bytes) b = grown (x ∷ text) bytes b

pub length_from : (bytes text : List ℕ) → length (text_from text bytes) ≡ length bytes + length text
length_from [] text = omega arith
length_from (b ∷ bytes) text = length_from bytes (b ∷ text) ∙ omega arith

-- a byte more
pub next_byte : (bytes : List ℕ) (n b : ℕ) → n < length bytes → b ≡ get_or bytes n 0 → text_of (take (n + 1) bytes) ≡ b ∷ text_of (take n bytes)
next_byte bytes n b inside is =
    let next : n + 1 ≡ suc n = omega arith in
    ap (λ k. text_of (take k bytes)) next ∙ ap text_of (take-suc bytes n 0 inside) ∙ grown [] (take n bytes) (get_or bytes n 0)
    ∙ ap (λ c. c ∷ text_of (take n bytes)) (sym is)

pub line_more : (bytes : List ℕ) (n b : ℕ) → n < length bytes → b ≡ get_or bytes n 0
    → next_line (text_of (take (n + 1) bytes)) ≡ (if nat_eq b 10 then 1 else 0) + next_line (text_of (take n bytes))
line_more bytes n b inside is = ap next_line (next_byte bytes n b inside is)

pub column_more : (bytes : List ℕ) (n b : ℕ) → n < length bytes → b ≡ get_or bytes n 0
    → next_column (text_of (take (n + 1) bytes)) ≡ (if nat_eq b 10 then 1 else next_column (text_of (take n bytes)) + 1)
column_more bytes n b inside is = ap next_column (next_byte bytes n b inside is)

pub line_bound : (test : Bool) (line n : ℕ) → line ≤ n + 1 → (if test then 1 else 0) + line ≤ n + 1 + 1
line_bound true line n bound = omega (arith, bound)
line_bound false line n bound = omega (arith, bound)

pub column_bound : (test : Bool) (column n : ℕ) → column ≤ n + 1 → (if test then 1 else column + 1) ≤ n + 1 + 1
column_bound true column n bound = omega arith
column_bound false column n bound = omega (arith, bound)
