-- What is kept of a stretch that isn't ended yet.
use Rattle.std.specs.Prelude.{ℕ, ◌/◌, Bool, true, false, if◌then◌else◌, zero, suc, length, List, [], ◌∷◌}
use Rattle.pal_lex.specs.Text.{limit}
use Rattle.pal_lex.specs.Cutting.{Piece, Run, Mark, is_operand, is_blank, without_end_blank, pieces, has_illegal}
use Rattle.pal_lex.specs.Runs.{base, in_order}
use Rattle.pal_lex.specs.declared.pieces.Token.{Token}
use Rattle.pal_lex.specs.declared.drafts.Tail.{Tail}
use Rattle.pal_lex.specs.declared.drafts.Tail.TheVariants as tail
use Rattle.pal_lex.specs.declared.runs.Radix.{Radix}

pub record Cut : Type 0 where
  pub illegal : Bool
  pub tail : Tail
  pub tokens : List Token

-- the weight of the next character of a name that has so many
abbrev pub weight_after : ℕ → ℕ
weight_after zero = 0o10000000000
weight_after (suc n) = weight_after n / 0o100

-- what the next byte stands after
abbrev pub tail_of : List Piece → Tail
tail_of [] = tail.Sign
tail_of (Run first others start end ∷ before) = tail.Run (weight_after (suc (length others)))
tail_of (Mark kind place ∷ before) = if is_blank kind then tail.Blank (limit place) else (if is_operand kind then tail.Dot else tail.Sign)

-- no token of a stretch that an illegal byte spoils
abbrev pub spoiled_cut : Cut
spoiled_cut = record { illegal = true; tail = tail.Sign; tokens = [] }

abbrev pub cut_of : ℕ → Bool → List Piece → Cut
cut_of base illegal before =
    if illegal then spoiled_cut else record { illegal = false; tail = tail_of before; tokens = in_order base (without_end_blank before) }

-- what is kept of these live bytes
abbrev pub cut : Radix → List (ℕ × ℕ) → Cut
cut radix live = cut_of (base radix) (has_illegal live) (pieces live)
