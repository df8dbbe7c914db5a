-- What the small steps of the search for a radix do, for private clauses.
use Rattle.std.specs.Prelude.{Bool, true, false}
use Rattle.pal_lex.specs.declared.runs.Radix.{Radix}
use Rattle.pal_lex.specs.declared.runs.Radix.TheVariants as radix
use Rattle.pal_lex.specs.declared.phrases.Body.{Body}
use Rattle.pal_lex.specs.declared.phrases.Body.TheVariants.{Nothing, Origin, Define, Decimal, Octal, Pause, Field, Reference, Word}

abbrev pub is_decimal : Radix → Bool
is_decimal radix.Octal = false
is_decimal radix.Decimal = true

abbrev pub decimal_by : Body → Bool → Bool
decimal_by Nothing before = before
decimal_by (Origin e) before = before
decimal_by (Define name e) before = before
decimal_by Decimal before = true
decimal_by Octal before = false
decimal_by Pause before = before
decimal_by (Field e) before = before
decimal_by (Reference operation indirect e) before = before
decimal_by (Word e) before = before
