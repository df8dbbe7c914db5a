-- Several sources that are one (PAL III Symbolic Assembler manual, and this project's profile of it): at PAUSE the next text goes on.
use Rattle.std.specs.Prelude.{◌≡◌, ℕ, Bool, false, ◌&&◌, not, if◌then◌else◌, Option, Some, None, List, [], ◌∷◌, ◌++◌, codes}
use Rattle.pal_lex.specs.Text.{is_over, ends_statement, stretch, up_to_end}
use Rattle.pal_lex.specs.Cutting.{has_illegal}
use Rattle.pal_lex.specs.Runs.{tokens, name_number}
use Rattle.pal_lex.specs.Language.{is_named}
use Rattle.pal_lex.specs.declared.pieces.Token.{Token}
use Rattle.pal_lex.specs.declared.runs.Radix.TheVariants.{Octal}

-- one token, which is the name PAUSE
abbrev pub is_lone_pause : List Token → Bool
is_lone_pause [] = false
is_lone_pause (t ∷ []) = is_named (name_number (codes "PAUSE")) t.kind
is_lone_pause (t ∷ u ∷ others) = false

-- a stretch of live bytes is the word PAUSE alone; how a radix reads numbers doesn't matter
abbrev pub is_pause : List (ℕ × ℕ) → Bool
is_pause live = not (has_illegal live) && is_lone_pause (tokens Octal live)

-- a byte after a text ends a statement that is the word PAUSE alone
abbrev pub pauses : List ℕ → ℕ → Bool
pauses older b = ends_statement older b && is_pause (stretch older)

-- A text that ends after a statement, or is empty, with no `$`: a source may begin after it.
abbrev pub IsClear : List ℕ → Type 0
IsClear text = (up_to_end text ≡ text) × (is_over text ≡ false)

-- the first of two texts
abbrev pub first_text : Option (List ℕ) → Option (List ℕ) → Option (List ℕ)
first_text None later = later
first_text (Some text) later = Some text

-- a text cut after the last live `;` or CR before its first PAUSE, if it has one
abbrev pub before_pause : List ℕ → Option (List ℕ)
before_pause [] = None
before_pause (b ∷ older) = first_text (before_pause older) (if pauses older b then Some (up_to_end older) else None)

-- what stands before a PAUSE, and then the next texts; or the text alone
abbrev pub text_with_next : List ℕ → Option (List ℕ) → List ℕ → List ℕ
text_with_next text None others = text
text_with_next text (Some prefix) others = others ++ prefix

-- The join of texts, which stand in their order: each up to the first PAUSE, followed by the join of those after it. A text that is
-- the last, or has no PAUSE, is joined whole, and none after it.
abbrev pub join_of : List (List ℕ) → List ℕ
join_of [] = []
join_of (text ∷ []) = text
join_of (text ∷ next ∷ others) = text_with_next text (before_pause text) (join_of (next ∷ others))
