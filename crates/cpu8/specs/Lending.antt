-- What the machine is once a borrow of its core is over.
use Rattle.std.specs.Prelude.{ℕ, List}
use Rattle.std.specs.Borrow.{Lends, MutBor, Fml}
use Rattle.core_load.specs.contracts.cores.Core.{the_row as core_row}
use Rattle.cpu8.specs.State.{State}
use Rattle.cpu8.specs.contracts.machines.Machine.{the_row}

-- the machine ends with the last core of the borrow, and is else as it was
abbrev pub LendsCore : MutBor State → MutBor (List ℕ) → Fml
LendsCore machine core = Lends the_row core_row machine core (λ words. record machine.now { core = words })
