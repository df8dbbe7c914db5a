use Rattle.std.proofs.Common.{◌∙◌}
use Rattle.host_sources.specs.Symbols.{meaning_in}
use Rattle.host_sources.proofs.NameLemmas.{value_none}
use Rattle.host_sources.proofs.names.value_of.Goals as goal

pub returns-in_err-term : goal.returns-in_err-term
returns-in_err-term c =
    c.from_residual.ensures
    ∙ value_none (meaning_in c.args.symbols.now) c.args.place c.loop-rest.value c.loop-rest.rest.now c.part-item.result c.in-len1-up.len_at_least c.part-item.is c.in_err-term.ensures
    ∙ c.loop-rest.invariant
