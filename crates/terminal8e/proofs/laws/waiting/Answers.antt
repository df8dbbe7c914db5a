use Rattle.terminal8e.proofs.WaitLemmas.{waits, waits-asks, in-loop}
use Rattle.terminal8e.proofs.laws.waiting.Goals as goal

pub returns : goal.returns
returns c = record {
  state = λ s k h. in-loop s (waits s h) k;
  asks = λ s since h. waits-asks s since h;
}
