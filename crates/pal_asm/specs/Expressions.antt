-- The value of an expression (PAL III Symbolic Assembler manual, and this project's profile of it).
use Rattle.std.specs.Prelude.{ℕ, ◌+◌, ◌-◌, ◌%◌, bit_or, Option, Some, None, List, [], ◌∷◌}
use Rattle.pal_lex.specs.declared.pieces.Term.{Term}
use Rattle.pal_lex.specs.declared.pieces.Term.TheVariants.{Name, Number, Here}
use Rattle.pal_lex.specs.declared.phrases.Joint.{Joint}
use Rattle.pal_lex.specs.declared.phrases.Joint.TheVariants.{Add, Subtract, Or}
use Rattle.pal_lex.specs.declared.phrases.Part.{Part}

-- what names stand for
abbrev pub Meanings : Type 0
Meanings = ℕ → Option ℕ

-- `.` is the place
abbrev pub term_value : Meanings → ℕ → Term → Option ℕ
term_value known place (Name n) = known n
term_value known place (Number n) = Some n
term_value known place Here = Some place

-- sum and difference modulo 0o10000, inclusive or
abbrev pub join_values : Joint → ℕ → ℕ → ℕ
join_values Add a b = (a + b) % 0o10000
join_values Subtract a b = (a + 0o10000 - b) % 0o10000
join_values Or a b = bit_or a b

abbrev pub joined_values : Joint → Option ℕ → Option ℕ → Option ℕ
joined_values joint None b = None
joined_values joint (Some a) None = None
joined_values joint (Some a) (Some b) = Some (join_values joint a b)

-- the value of terms after others, from left to right
abbrev pub value_after : Meanings → ℕ → Option ℕ → List Part → Option ℕ
value_after known place before [] = before
value_after known place before (part ∷ others) =
    value_after known place (joined_values part.joint before (term_value known place part.term)) others

-- the value of an expression, from left to right from 0
abbrev pub value_of : Meanings → ℕ → List Part → Option ℕ
value_of known place expression = value_after known place (Some 0) expression

-- an address that is missing is 0
abbrev pub address_value : Meanings → ℕ → Option (List Part) → Option ℕ
address_value known place None = Some 0
address_value known place (Some expression) = value_of known place expression
