-- How a stretch of live bytes is cut (PAL III Symbolic Assembler manual, and this project's profile of it). Letters and
-- digits that stand together are one piece, every other character is one by itself. A blank is a piece only between two
-- pieces that are no `+ - = , *`.
use Rattle.std.specs.Prelude.{ℕ, ◌+◌, nat_eq, Bool, true, false, ◌&&◌, ◌||◌, not, if◌then◌else◌, Option, Some, None, is_some, List, [], ◌∷◌, ◌++◌}
use Rattle.word12.specs.Sixbit.{is_letter, is_digit}
use Rattle.pal_lex.specs.declared.pieces.Term.TheVariants.{Here}
use Rattle.pal_lex.specs.declared.pieces.Kind.{Kind}
use Rattle.pal_lex.specs.declared.pieces.Kind.TheVariants.{Term, BadNumber, Blank, Plus, Minus, Equals, Comma, Star}

-- Letters and digits, from their first place to the place after them; or a token of one character, at its place.
pub data Piece : Type 0 where
  Run : ℕ → List ℕ → ℕ → ℕ → Piece
  Mark : Kind → ℕ → Piece

abbrev pub is_coded : ℕ → Bool
is_coded b = is_letter b || is_digit b

-- blank and tab
abbrev pub is_space : ℕ → Bool
is_space b = nat_eq b 0o40 || nat_eq b 0o11

-- the signs beside which a blank means nothing
abbrev pub sign_of : ℕ → Option Kind
sign_of b =
    if nat_eq b 43 then Some Plus
    else (if nat_eq b 45 then Some Minus
    else (if nat_eq b 0o75 then Some Equals
    else (if nat_eq b 0o54 then Some Comma
    else (if nat_eq b 0o52 then Some Star
    else None))))

abbrev pub is_legal : ℕ → Bool
is_legal b = is_coded b || is_space b || nat_eq b 0o56 || is_some (sign_of b)

abbrev pub has_illegal : List (ℕ × ℕ) → Bool
has_illegal [] = false
has_illegal (live ∷ older) = not (is_legal live.0) || has_illegal older

abbrev pub is_blank : Kind → Bool
is_blank (Term t) = false
is_blank BadNumber = false
is_blank Blank = true
is_blank Plus = false
is_blank Minus = false
is_blank Equals = false
is_blank Comma = false
is_blank Star = false

-- a term may stand before a blank
abbrev pub is_operand : Kind → Bool
is_operand (Term t) = true
is_operand BadNumber = true
is_operand Blank = false
is_operand Plus = false
is_operand Minus = false
is_operand Equals = false
is_operand Comma = false
is_operand Star = false

-- without a blank at the end
abbrev pub without_end_blank : List Piece → List Piece
without_end_blank [] = []
without_end_blank (Run first others start end ∷ before) = Run first others start end ∷ before
without_end_blank (Mark kind place ∷ before) = if is_blank kind then before else Mark kind place ∷ before

-- a letter or a digit more
abbrev pub with_character : ℕ → ℕ → List Piece → List Piece
with_character b place [] = Run b [] place (place + 1) ∷ []
with_character b place (Run first others start end ∷ before) = Run first (others ++ b ∷ []) start (place + 1) ∷ before
with_character b place (Mark kind at ∷ before) = Run b [] place (place + 1) ∷ Mark kind at ∷ before

-- letters and digits alone
abbrev pub are_coded : List ℕ → Bool
are_coded [] = true
are_coded (b ∷ bytes) = is_coded b && are_coded bytes

-- a blank more
abbrev pub with_blank : ℕ → List Piece → List Piece
with_blank place [] = []
with_blank place (Run first others start end ∷ before) = Mark Blank place ∷ Run first others start end ∷ before
with_blank place (Mark kind at ∷ before) = if is_operand kind then Mark Blank place ∷ Mark kind at ∷ before else Mark kind at ∷ before

abbrev pub with_sign : Option Kind → ℕ → List Piece → List Piece
with_sign None place before = before
with_sign (Some kind) place before = Mark kind place ∷ without_end_blank before

-- the pieces with one byte more; one that is illegal makes none
abbrev pub with_byte : ℕ → ℕ → List Piece → List Piece
with_byte b place before =
    if is_coded b then with_character b place before
    else (if is_space b then with_blank place before
    else (if nat_eq b 0o56 then Mark (Term Here) place ∷ before
    else with_sign (sign_of b) place before))

-- the pieces of live bytes so far
abbrev pub pieces : List (ℕ × ℕ) → List Piece
pieces [] = []
pieces (live ∷ older) = with_byte live.0 live.1 (pieces older)
