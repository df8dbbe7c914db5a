use Rattle.system_session.proofs.OtherReplyLemmas.{others_follow}
use Rattle.system_session.proofs.SameLemmas.{squeezer_own, squeezer_turn}
use Rattle.system_session.proofs.laws.interleavings.Goals as goal

pub returns : goal.returns
returns c = record {
  own = squeezer_own;
  turn = squeezer_turn;
  others = others_follow;
}
