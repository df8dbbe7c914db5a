use Rattle.std.proofs.Common.{ap}
use Rattle.cpu8e.proofs.CommonLemmas.{same-step}
use Rattle.cpu8e.proofs.laws.same_as_8i.Goals as goal

pub returns : goal.returns
returns c = record {
  state = λ mq s meets. ap (λ r. r.0) (same-step mq s meets);
  answer = λ mq s meets. ap (λ r. r.1) (same-step mq s meets);
}
