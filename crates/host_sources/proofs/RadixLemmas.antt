-- The radix after a statement.
use Rattle.std.proofs.Common.{◌≡◌, refl}
use Rattle.pal_lex.specs.Runs.{base}
use Rattle.pal_lex.specs.Statements.{radix_by}
use Rattle.pal_lex.specs.declared.runs.Radix.{Radix}
use Rattle.pal_lex.specs.declared.runs.Radix.TheVariants as radix
use Rattle.pal_lex.specs.declared.phrases.Body.{Body}
use Rattle.pal_lex.specs.declared.phrases.Body.TheVariants as body
use Rattle.host_sources.specs.RunSteps.{base_of}
use Rattle.host_sources.specs.RadixSteps.{is_decimal, decimal_by}

pub decimal_after : (s : Body) (r : Radix) → decimal_by s (is_decimal r) ≡ is_decimal (radix_by s r)
decimal_after body.Nothing r = refl
decimal_after (body.Origin e) r = refl
decimal_after (body.Define name e) r = refl
decimal_after body.Decimal r = refl
decimal_after body.Octal r = refl
decimal_after body.Pause r = refl
decimal_after (body.Field e) r = refl
decimal_after (body.Reference operation indirect e) r = refl
decimal_after (body.Word e) r = refl

pub decimal_base : (r : Radix) → base_of (is_decimal r) ≡ base r
decimal_base radix.Octal = refl
decimal_base radix.Decimal = refl
