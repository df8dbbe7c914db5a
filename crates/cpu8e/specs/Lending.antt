-- What the machine is once a borrow of its core is over.
use Rattle.std.specs.Prelude.{ℕ, List}
use Rattle.std.specs.Borrow.{Lends, MutBor, Fml}
use Rattle.core_load.specs.contracts.cores.Core.{the_row as core_row}
use Rattle.cpu8e.specs.State.{State8e, with_core}
use Rattle.cpu8e.specs.contracts.machines.Machine.{the_row}

-- the machine ends with the last core of the borrow, and is else as it was
abbrev pub LendsCore : MutBor State8e → MutBor (List ℕ) → Fml
LendsCore machine core = Lends the_row core_row machine core (λ words. with_core machine.now words)
