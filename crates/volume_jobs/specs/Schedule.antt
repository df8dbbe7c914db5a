-- At which turn a job that loads meets what: said of the words of the file that it reads, block after block.
use Rattle.std.specs.Prelude.{ℕ, ◌+◌, ◌≤◌, List}
use Rattle.char_pack.specs.Packing.{frames}
use Rattle.bin_tape.specs.Fault.{IsFault}
use Rattle.bin_tape.specs.declared.faults.TapeFault.{TapeFault}
use Rattle.bin_tape.specs.declared.faults.TapeFault.TheVariants.{BadFrame, NoOrigin, CheckSum, NoTrailer, Memory}
use Rattle.pal_blocks.specs.Blocks.{blocks_in, first_blocks}

-- the turns of a job that loads so many blocks: it reads one at each turn, and lays them at the last
abbrev pub loading_turns : ℕ → ℕ
loading_turns blocks = blocks + 1

-- The frames of so many first blocks of a file have this fault. That the trailer is missing is known at the last block.
abbrev pub IsMet : List ℕ → ℕ → TapeFault → Type 0
IsMet words turn NoTrailer = (blocks_in words ≤ turn) × IsFault (frames words) NoTrailer
IsMet words turn (BadFrame at) = IsFault (frames (first_blocks turn words)) (BadFrame at)
IsMet words turn NoOrigin = IsFault (frames (first_blocks turn words)) NoOrigin
IsMet words turn (CheckSum found computed) = IsFault (frames (first_blocks turn words)) (CheckSum found computed)
IsMet words turn Memory = ⊥

-- no fault is met by this turn
abbrev pub IsMetNone : List ℕ → ℕ → Type 0
IsMetNone words turn = (fault : TapeFault) → IsMet words turn fault → ⊥

-- the fault of the whole file is met at this turn, and at none before
pub record IsFirstMet (words : List ℕ) (turn : ℕ) (fault : TapeFault) : Type 0 where
  pub whole : IsFault (frames words) fault
  pub met : IsMet words turn fault
  pub least : (earlier : ℕ) → IsMet words earlier fault → turn ≤ earlier
