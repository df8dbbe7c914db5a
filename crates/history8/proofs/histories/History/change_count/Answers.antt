use Rattle.std.proofs.Common.{ap, length, ◌∙◌}
use Rattle.history8.proofs.histories.History.change_count.Goals as goal

pub returns : goal.returns
returns c = c.self.invariant.0.counted ∙ ap (λ h. length h.changes) c.self.view_is
