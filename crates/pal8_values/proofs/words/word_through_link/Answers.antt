use Rattle.std.proofs.Common.{refl}
use Rattle.pal8_lex.specs.declared.tokens.Pool.TheVariants.{Own}
use Rattle.pal8_values.specs.Words.{with_ask, with_link}
use Rattle.pal8_values.proofs.FaultLemmas.{keeps_fault}
use Rattle.pal8_values.proofs.words.word_through_link.Goals as goal

pub returns-in-Err : goal.returns-in-Err
returns-in-Err c = λ asks punched holds.
    keeps_fault (with_link c.args.operation) (λ e. refl) (with_ask c.args.spot Own c.args.address asks punched) c.in-Err.fault (c.in-Err.ensures asks punched holds)
