-- How far an assembler is.
use Rattle.std.specs.Prelude.{ℕ, Bool, Option}
use Rattle.pal_sym.specs.SymbolTable.{SymbolTable}
use Rattle.pal_faults.specs.declared.assembling.AsmFault.{AsmFault}
use Rattle.pal_asm.specs.declared.spots.Spot.{Spot}

pub record Progress : Type 0 where
  pub symbols : SymbolTable
  pub spot : Spot
  -- whether the second pass goes on
  pub is_second : Bool
  -- the line of the last statement
  pub line : ℕ
  -- the fault that was answered, which is answered for good
  pub fault : Option AsmFault
