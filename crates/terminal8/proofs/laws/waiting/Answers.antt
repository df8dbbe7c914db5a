use Rattle.terminal8.proofs.WaitLemmas.{waits, waits-asks}
use Rattle.terminal8.proofs.LoopLemmas.{in-loop, prints-none}
use Rattle.terminal8.proofs.laws.waiting.Goals as goal

pub returns : goal.returns
returns c = record {
  state = λ s k h. in-loop s (waits s h) k;
  printed = λ s k h. prints-none s (waits s h) k;
  asks = λ s since h. waits-asks s since h;
}
