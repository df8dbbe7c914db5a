use Rattle.std.proofs.Common.{ap, ◌∙◌}
use Rattle.history8.specs.History.{characters_of}
use Rattle.history8.proofs.histories.History.printed_characters.Goals as goal

pub returns : goal.returns
returns c = c.deref.ensures.value ∙ c.self.invariant.0.printed ∙ ap (λ h. characters_of h) c.self.view_is
