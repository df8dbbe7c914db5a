-- The words that a tape gives to cells of core.
use Rattle.std.specs.Prelude.{◌≡◌, ℕ, ◌<◌, ◌⊎◌, slice_index_or, length, Option, None, List}
use Rattle.word12.specs.declared.sizes.TheConstants.{CORE}
use Rattle.bin_tape.specs.Items.{Item, tape_map}
use Rattle.bin_tape.specs.Tape.{IsTape}
use Rattle.bin_tape.specs.Fault.{IsFault}
use Rattle.bin_tape.specs.declared.faults.TapeFault.{TapeFault}
use Rattle.bin_tape.specs.declared.faults.TapeFault.TheVariants.{Memory}

-- a word or none for each cell of core
abbrev pub IsTable : List (Option ℕ) → Type 0
IsTable words = length words ≡ CORE

-- the frames are a tape, and each cell of core has the last word that the tape gives it
pub record IsMapOf (frames : List ℕ) (words : List (Option ℕ)) : Type 0 where
  pub items : List Item
  pub is_tape : IsTape frames items
  pub cells : (cell : ℕ) → cell < CORE → slice_index_or words cell None ≡ tape_map items cell

-- memory ran out, or the frames are no tape, and this is their fault
abbrev pub IsMapFault : List ℕ → TapeFault → Type 0
IsMapFault frames fault = (fault ≡ Memory) ⊎ IsFault frames fault
