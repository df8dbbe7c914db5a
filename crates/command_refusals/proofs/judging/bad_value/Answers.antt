use Rattle.std.proofs.Common.{◌∙◌, ap}
use Rattle.command_table.specs.Values.{values_in}
use Rattle.command_refusals.specs.Refusals.{first_bad}
use Rattle.command_refusals.proofs.judging.bad_value.Goals as goal

pub returns : goal.returns
returns c = c.first_bad.ensures ∙ ap (λ rows. first_bad rows (values_in c.args.found.now)) c.arguments_of.ensures
