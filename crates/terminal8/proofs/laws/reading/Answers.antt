use Rattle.terminal8.proofs.ReadLemmas.{reads, reads-quietly, reads-on}
use Rattle.terminal8.proofs.laws.reading.Goals as goal

pub returns : goal.returns
returns c = record {
  read = λ s count key looks since h. reads s count key looks since h;
  printed = λ s count key looks since h. reads-quietly s count key looks since h;
  goes_on = λ s count key looks since k h below. reads-on s count key looks since k h below;
}
