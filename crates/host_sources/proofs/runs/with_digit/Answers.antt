use Rattle.host_sources.proofs.RunLemmas.{too_high_by}
use Rattle.host_sources.proofs.runs.with_digit.Goals as goal

pub returns-then-next-gt4095-clause-number : goal.returns-then-next-gt4095-clause-number
returns-then-next-gt4095-clause-number c = λ others.
    too_high_by c.args.is_decimal c.args.value c.args.digit c.base_of-base.result c.from-digit.result others c.base_of-base.ensures.value c.from-digit.ensures
    c.if-next-gt4095.true
