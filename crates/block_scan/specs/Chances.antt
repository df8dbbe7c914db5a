-- At which blocks a tape may begin, for private clauses.
use Rattle.std.specs.Prelude.{◌≡◌, ℕ, ◌-◌, ◌*◌, ◌<◌, true, false, get_or, List, drop, length}
use Rattle.char_pack.specs.declared.packing.TheConstants.{BLOCK_FRAMES}
use Rattle.rim_tape.specs.Fault.{IsSomeRim}
use Rattle.file_kind.specs.Kinds.{IsSomeTape}
use Rattle.block_scan.specs.Programs.{HeadsNone}
use Rattle.block_scan.specs.declared.chances.Chance.{Chance}
use Rattle.block_scan.specs.declared.kinds.ProgramKind.TheVariants.{Bin, Rim}

-- frames that are a tape have a chance to be one
pub record IsChance (frames : List ℕ) (chance : Chance) : Type 0 where
  pub bin : IsSomeTape frames → chance.bin ≡ true
  pub rim : IsSomeRim frames → chance.rim ≡ true

-- so it is with the frames from each block on; the last block stands first
pub record AreChances (all : List ℕ) (count : ℕ) (chances : List Chance) : Type 0 where
  pub size : length chances ≡ count
  pub each : (block : ℕ) → block < count → IsChance (drop (BLOCK_FRAMES * block) all) (get_or chances (count - 1 - block) (record { bin = true; rim = true }))

-- where there is no chance no number of blocks at the head is one
pub record RulesOut (words all : List ℕ) (left : ℕ) (chance : Chance) : Type 0 where
  pub bin : chance.bin ≡ false → HeadsNone words all left Bin
  pub rim : chance.rim ≡ false → HeadsNone words all left Rim
