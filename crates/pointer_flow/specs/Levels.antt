-- The writers that a walk finds, for private clauses.
use Rattle.std.specs.Prelude.{ℕ, Bool, List, Option}
use Rattle.pointer_flow.specs.Programs.{Program}
use Rattle.pointer_flow.specs.Steps.{AreWriters, IsReturnState, IsWalk}
use Rattle.pointer_flow.specs.Tables.{IsSetOf}

-- a table has the lowest cells that write, of what is reached by these lists
pub record AreWritersBy (p : Program) (pointers : List (Option ℕ)) (no_skip_cells : List Bool) (writers : List (Option ℕ)) : Type 0 where
  pub reached : List ℕ
  pub walk : IsWalk p pointers no_skip_cells reached
  pub are : AreWriters p pointers reached writers

-- a table has the lowest cells that store a return in cells, of what is marked, by these pointers
pub record AreReturnsBy (p : Program) (pointers : List (Option ℕ)) (reached : List ℕ) (writers : List (Option ℕ)) : Type 0 where
  pub states : List ℕ
  pub are_states : IsSetOf states (IsReturnState p reached)
  pub are : AreWriters p pointers states writers
