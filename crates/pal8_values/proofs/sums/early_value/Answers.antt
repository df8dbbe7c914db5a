use Rattle.pal8_grammar.specs.SourceNames.{own_value}
use Rattle.pal8_values.specs.Sums.{early_value}
use Rattle.pal8_values.proofs.FaultLemmas.{plain_fails, same_fault}
use Rattle.pal8_values.proofs.sums.early_value.Goals as goal

pub returns-in-Err : goal.returns-in-Err
returns-in-Err c =
    same_fault _ (early_value (own_value c.args.names.now) c.args.spot c.args.steps.now) c.in-Err.fault c.loop-rest.invariant
    (plain_fails (own_value c.args.names.now) c.args.spot c.loop-rest.rest.now c.step-item.result c.loop-rest.sum c.in-Err.fault c.in-len1-up.len_at_least
    c.step-item.is c.in-Err.ensures)
