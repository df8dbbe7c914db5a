use Rattle.std.proofs.Common.{inl, inr}
use Rattle.bin_tape.proofs.PrefixLemmas.{leader_kept}
use Rattle.bin_tape.proofs.prefixes.Prefix.take_first.Goals as goal

pub returns-in-0 : goal.returns-in-0
returns-in-0 c = λ items part r. leader_kept _ _ items part _ r c.requires.first c.if-not-self.true (inl c.in-0.is) c.with_leader.ensures

pub returns-in-128 : goal.returns-in-128
returns-in-128 c = λ items part r. leader_kept _ _ items part _ r c.requires.first c.if-not-self-2.true (inr c.in-128.is) c.with_leader-in-128.ensures
