-- What a turn of an assembling does.
use Rattle.std.specs.Prelude.{◌≡◌, ℕ, ◌-◌, None, Some, List, [], Result, Ok, Err}
use Rattle.std.specs.Global.{Vec}
use Rattle.pal_asm.specs.Faults.{fault_of}
use Rattle.pal_faults.specs.declared.assembling.AsmFault.{AsmFault}
use Rattle.pal_faults.specs.declared.assembling.AsmFault.TheVariants.{At, Memory}
use Rattle.pal_blocks.specs.declared.assembling.Assembling.{Assembling}
use Rattle.pal_blocks.specs.Blocks.{blocks_among, assembling_turns, turn_of}
use Rattle.pal_blocks.specs.Sources.{newest_first, assembled_words, IsTapeOfSources}
use Rattle.pal_blocks.specs.Schedule.{fault_at_turn, IsFirstKnown}
use Rattle.pal_blocks.specs.Progress.{IsAssembling}

-- What a turn that reads a block does, where so many are left. Where memory runs out no turn is taken.
abbrev pub TakesBlock : List (List ℕ) → ℕ → Result (Unit {0}) AsmFault → Assembling → Type 0
TakesBlock sources left (Ok nothing) new =
    IsAssembling sources new (left - 1) × (fault_at_turn (turn_of (assembling_turns (blocks_among sources)) left) sources ≡ None)
TakesBlock sources left (Err Memory) new = IsAssembling sources new left
TakesBlock sources left (Err (At code line)) new =
    IsFirstKnown sources (turn_of (assembling_turns (blocks_among sources)) left) (At code line) × (fault_of (newest_first sources) ≡ Some (At code line))

-- before the last turn nothing is made of the sources
abbrev pub MakesNone : Result (Vec ℕ) AsmFault → Type 0
MakesNone (Ok target) = target.items ≡ []
MakesNone (Err fault) = ⊥

-- what the last turn makes of sources
abbrev pub MakesTarget : List (List ℕ) → Result (Vec ℕ) AsmFault → Type 0
MakesTarget sources (Ok target) =
    (target.items ≡ assembled_words sources) × (fault_of (newest_first sources) ≡ None) × IsTapeOfSources sources target.items
MakesTarget sources (Err Memory) = Unit {0}
MakesTarget sources (Err (At code line)) = ⊥
