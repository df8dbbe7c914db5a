use Rattle.std.proofs.Common.{◌∙◌, ap₂}
use Rattle.command_table.specs.Values.{values_in}
use Rattle.command_refusals.specs.Refusals.{first_pair}
use Rattle.command_refusals.proofs.judging.pair_given.Goals as goal

pub returns : goal.returns
returns c =
    c.first_pair.ensures ∙ ap₂ (λ pairs rows. first_pair pairs rows (values_in c.args.found.now)) c.pairs.ensures c.arguments_of.ensures
