use Rattle.pointer_flow.proofs.returns.return_writers.Goals as goal

pub returns : goal.returns
returns c = record {
  size = c.in_ok-writers.ensures.size;
  writers = λ p facts. record {
    states = c.in_ok-states.states.bits.items;
    are_states = c.in_ok-states.ensures p facts;
    are = c.in_ok-writers.ensures.writers p facts;
  };
}
