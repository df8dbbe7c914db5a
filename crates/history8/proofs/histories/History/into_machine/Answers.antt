use Rattle.std.proofs.Common.{ap, ◌∙◌}
use Rattle.history8.specs.History.{machine_of}
use Rattle.history8.proofs.histories.History.into_machine.Goals as goal

pub returns : goal.returns
returns c = c.self.invariant.0.left ∙ ap (λ h. machine_of h) c.self.view_is
