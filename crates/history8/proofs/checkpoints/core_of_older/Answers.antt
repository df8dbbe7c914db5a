use Rattle.std.proofs.Common.{ap, arith, inr, length}
use Rattle.history8.proofs.checkpoints.core_of_older.Goals as goal

pub returns-clause-checkpoints : goal.returns-clause-checkpoints
returns-clause-checkpoints c =
    let e = ap (λ xs. length xs) c.deref.ensures.value in
    inr (c.in_ok-index.index, c.in_ok-index.ensures.0, omega (arith, c.in_ok-index.ensures.1, e), c.remove.ensures.items)
