-- What the small steps of names do, for private clauses.
use Rattle.std.specs.Prelude.{ℕ, ◌+◌, min, nat_eq, if◌then◌else◌, unwrap_or}
use Rattle.pal_sym.specs.Values.{if_none}
use Rattle.pal_lex.specs.declared.phrases.Body.{Body}
use Rattle.pal_lex.specs.declared.phrases.Body.TheVariants.{Nothing, Origin, Define, Decimal, Octal, Pause, Field, Reference, Word}
use Rattle.pal_asm.specs.Expressions.{Meanings, value_of}

-- `=` gives a name the value of an expression, if it has one
abbrev pub values_by : Meanings → ℕ → Body → Meanings
values_by before place Nothing name = before name
values_by before place (Origin e) name = before name
values_by before place (Define defined e) name = if nat_eq defined name then if_none (value_of before place e) (before name) else before name
values_by before place Decimal name = before name
values_by before place Octal name = before name
values_by before place Pause name = before name
values_by before place (Field e) name = before name
values_by before place (Reference operation indirect address) name = before name
values_by before place (Word e) name = before name

-- the place after a body, as far as a number of 16 bits goes
abbrev pub place_by : Meanings → ℕ → Body → ℕ
place_by before place Nothing = place
place_by before place (Origin e) = unwrap_or (value_of before place e) 0
place_by before place (Define name e) = place
place_by before place Decimal = place
place_by before place Octal = place
place_by before place Pause = place
place_by before place (Field e) = 0o200
place_by before place (Reference operation indirect address) = min (place + 1) 65535
place_by before place (Word e) = min (place + 1) 65535
