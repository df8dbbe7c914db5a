use Rattle.pointer_flow.proofs.flows.writers_by.Goals as goal

pub returns : goal.returns
returns c = record {
  none = c.in_ok-reached.ensures.none;
  size = c.in_ok-writers.ensures.size;
  writers = λ p facts starts. record {
    reached = c.in_ok-reached.reached.bits.items;
    walk = c.in_ok-reached.ensures.reached p facts starts;
    are = c.in_ok-writers.ensures.writers p facts;
  };
}
