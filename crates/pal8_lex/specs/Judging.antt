-- What tokens say by themselves (PAL8, in this project's profile).
use Rattle.std.specs.Prelude.{ℕ, nat_le, Bool, true, false, ◌||◌, if◌then◌else◌, suc, List, [], ◌∷◌}
use Rattle.pal8_lex.specs.Kinds.{is_comma}
use Rattle.pal8_lex.specs.declared.tokens.Token.{Token}
use Rattle.pal8_lex.specs.declared.tokens.Kind.{Kind}
use Rattle.pal8_lex.specs.declared.tokens.Kind.TheVariants.{Name, Number, Character, Here, Operator, Equals, Comma, Star, Opening, Closing, String, Bad}
use Rattle.pal8_lex.specs.declared.judging.Radix.{Radix}
use Rattle.pal8_lex.specs.declared.judging.Radix.TheVariants.{Octal, Decimal}
use Rattle.pal8_lex.specs.declared.tokens.Number as number

abbrev pub is_bad : Kind → Bool
is_bad (Name name) = false
is_bad (Number n) = false
is_bad (Character c) = false
is_bad Here = false
is_bad (Operator sign) = false
is_bad Equals = false
is_bad Comma = false
is_bad Star = false
is_bad (Opening pool) = false
is_bad (Closing pool) = false
is_bad String = false
is_bad Bad = true

-- a byte of the statement stands in none
abbrev pub has_bad : List Token → Bool
has_bad [] = false
has_bad (t ∷ others) = is_bad t.kind || has_bad others

-- letters and digits are no number of twelve bits by a radix
abbrev pub is_out : Radix → number.Number → Bool
is_out Octal n = nat_le 0o10000 n.octal
is_out Decimal n = nat_le 0o10000 n.decimal

-- a token begins with a digit, and is no number by a radix
abbrev pub is_bad_number : Radix → Kind → Bool
is_bad_number radix (Name name) = false
is_bad_number radix (Number n) = is_out radix n
is_bad_number radix (Character c) = false
is_bad_number radix Here = false
is_bad_number radix (Operator sign) = false
is_bad_number radix Equals = false
is_bad_number radix Comma = false
is_bad_number radix Star = false
is_bad_number radix (Opening pool) = false
is_bad_number radix (Closing pool) = false
is_bad_number radix String = false
is_bad_number radix Bad = false

abbrev pub has_bad_number : Radix → List Token → Bool
has_bad_number radix [] = false
has_bad_number radix (t ∷ others) = is_bad_number radix t.kind || has_bad_number radix others

-- how many tags stand in front: pairs of a token and `,`
abbrev pub tag_count : List Token → ℕ
tag_count [] = 0
tag_count (t ∷ []) = 0
tag_count (t ∷ next ∷ others) = if is_comma next.kind then suc (tag_count others) else 0
