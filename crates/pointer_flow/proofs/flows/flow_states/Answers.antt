use Rattle.pointer_flow.specs.Flow.{IsKnown, IsLeftOut}
use Rattle.pointer_flow.specs.Steps.{IsFlaggedIn, IsGivenIn}
use Rattle.pointer_flow.proofs.FlowLemmas.{set_as}
use Rattle.pointer_flow.proofs.flows.flow_states.Goals as goal

pub returns : goal.returns
returns c = λ p facts starts gives left.
    set_as p c.in_ok-states.states.bits.items (IsGivenIn c.args.known_words.now) (IsKnown p) (IsFlaggedIn c.args.no_skip_cells.now) (IsLeftOut p) gives.words left
    (c.in_ok-states.ensures.reached p facts starts)
