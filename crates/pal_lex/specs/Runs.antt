-- The tokens of a stretch (PAL III Symbolic Assembler manual, and this project's profile of it). A name is a letter
-- followed by letters and digits; its first six characters count. What begins with a digit is a number or a bad one.
use Rattle.std.specs.Prelude.{ℕ, ◌+◌, ◌-◌, ◌*◌, nat_lt, nat_le, Bool, true, ◌&&◌, if◌then◌else◌, List, [], ◌∷◌, ◌++◌}
use Rattle.word12.specs.Sixbit.{is_letter}
pub use Rattle.word12.specs.Sixbit.{code_at, name_number}
use Rattle.pal_lex.specs.Text.{limit}
use Rattle.pal_lex.specs.Cutting.{Piece, Run, Mark, without_end_blank, pieces}
use Rattle.pal_lex.specs.declared.pieces.Token.{Token}
use Rattle.pal_lex.specs.declared.pieces.Term.TheVariants.{Name, Number}
use Rattle.pal_lex.specs.declared.pieces.Kind.{Kind}
use Rattle.pal_lex.specs.declared.pieces.Kind.TheVariants.{Term, BadNumber}
use Rattle.pal_lex.specs.declared.runs.Radix.{Radix}
use Rattle.pal_lex.specs.declared.runs.Radix.TheVariants.{Octal, Decimal}

abbrev pub base : Radix → ℕ
base Octal = 8
base Decimal = 10

-- each character is a digit below this base
abbrev pub are_digits : ℕ → List ℕ → Bool
are_digits base [] = true
are_digits base (c ∷ others) = nat_le 0o60 c && nat_lt c (0o60 + base) && are_digits base others

-- the number that digits spell after those of a number before them
abbrev pub number_after : ℕ → ℕ → List ℕ → ℕ
number_after base n [] = n
number_after base n (c ∷ others) = number_after base (base * n + (c - 0o60)) others

abbrev pub number : ℕ → List ℕ → ℕ
number base digits = number_after base 0 digits

-- a number of twelve bits by this base
abbrev pub number_kind : ℕ → List ℕ → Kind
number_kind base digits =
    if are_digits base digits && nat_lt (number base digits) 0o10000 then Term (Number (number base digits)) else BadNumber

abbrev pub run_kind : ℕ → ℕ → List ℕ → Kind
run_kind base first others =
    if is_letter first then Term (Name (name_number (first ∷ others))) else number_kind base (first ∷ others)

-- the token of a piece
abbrev pub token : ℕ → Piece → Token
token base (Run first others start end) = record { kind = run_kind base first others; start = limit start; end = limit end }
token base (Mark kind place) = record { kind = kind; start = limit place; end = limit (place + 1) }

-- pieces as tokens, in the order of the source
abbrev pub in_order : ℕ → List Piece → List Token
in_order base [] = []
in_order base (piece ∷ before) = in_order base before ++ token base piece ∷ []

-- the tokens of a whole stretch, with no blank at its ends
abbrev pub tokens : Radix → List (ℕ × ℕ) → List Token
tokens radix live = in_order (base radix) (without_end_blank (pieces live))
