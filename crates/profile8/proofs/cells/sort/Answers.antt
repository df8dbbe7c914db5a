use Rattle.std.proofs.Common.{rules}
use Rattle.std.proofs.lemmas.Fn.{always_returns_same}
use Rattle.profile8.specs.CellSteps.{rank}
use Rattle.profile8.proofs.cells.sort.Goals as goal

pub returns : goal.returns
returns c = record {
  permutation = c.in_ok-sort_by_key.ensures.permutation;
  sorted = c.in_ok-sort_by_key.ensures.sorted (rank c.args.counts.now) (always_returns_same _ _ _ (λ a r q k. search rules));
  stable = c.in_ok-sort_by_key.ensures.stable (rank c.args.counts.now) (always_returns_same _ _ _ (λ a r q k. search rules));
}
