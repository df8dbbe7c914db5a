use Rattle.std.proofs.Common.{◌∙◌}
use Rattle.history8.proofs.BackLemmas.{step-over}
use Rattle.history8.proofs.histories.History.back_to_step.Goals as goal

pub returns : goal.returns
returns c =
    c.back.ensures
    ∙ step-over c.args.self.now c.change_count.result c.changes_to_step-left.result c.saturating_sub.result c.args.steps c.saturating_sub.ensures c.change_count.ensures
    c.changes_to_step-left.ensures
