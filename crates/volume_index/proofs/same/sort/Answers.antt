use Rattle.std.proofs.Common.{ℕ, rules}
use Rattle.std.proofs.lemmas.List.Sorted.{answers_always}
use Rattle.std.specs.Global.{Vec}
use Rattle.volume_index.specs.Digests.{digest_of}
use Rattle.volume_index.proofs.same.sort.Goals as goal

pub returns : goal.returns
returns c = record {
  permutation = c.in_ok-sort_by_key.ensures.permutation;
  sorted = c.in_ok-sort_by_key.ensures.sorted (λ (line : Vec ℕ). digest_of line.items) (answers_always _ _ _ (λ f a r q k. search rules));
  stable = c.in_ok-sort_by_key.ensures.stable (λ (line : Vec ℕ). digest_of line.items) (answers_always _ _ _ (λ f a r q k. search rules));
}
