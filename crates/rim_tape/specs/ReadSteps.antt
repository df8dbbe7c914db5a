-- The steps of reading a tape, for private clauses.
use Rattle.std.specs.Prelude.{◌≡◌, ℕ, ◌+◌, ◌/◌, ◌%◌, ◌<◌, ◌≤◌, length, take, slice_index, Option, Some, None, Result, Ok, Err, List, [], ◌∷◌, ◌++◌}
use Rattle.rim_tape.specs.Tape.{IsRim, IsOpen}
use Rattle.rim_tape.specs.Fault.{IsFault}
use Rattle.rim_tape.specs.declared.faults.RimFault.{RimFault}

-- what marks the frame after a part: channel 7 the first of an address
abbrev pub mark_of : List ℕ → ℕ
mark_of [] = 0o100
mark_of (p ∷ rest) = 0

-- at the place stands a frame of this mark and these six bits
pub record HasBits (frames : List ℕ) (place mark bits : ℕ) : Type 0 where
  pub inside : place < length frames
  pub is : slice_index frames place ≡ mark + bits
  pub small : bits < 0o100

-- at the place stand the two frames of this word, the first with this mark
pub record HasWord (frames : List ℕ) (place mark word : ℕ) : Type 0 where
  pub high : HasBits frames place mark (word / 0o100)
  pub low : HasBits frames (place + 1) 0 (word % 0o100)
  pub range : word < 0o10000

-- Up to the place the frames are leader and these words, and no trailer stands there before a word.
pub record HasReadTo (frames : List ℕ) (place : ℕ) (pairs : List (ℕ × ℕ)) : Type 0 where
  pub is_open : IsOpen (take place frames) pairs []
  pub within : place ≤ length frames
  pub no_trailer : slice_index frames place ≡ 0o200 → 0 < length pairs

pub record HasReadSome (frames : List ℕ) (place : ℕ) : Type 0 where
  pub pairs : List (ℕ × ℕ)
  pub read : HasReadTo frames place pairs

-- what comes after these words: the trailer, one more word with its cell, or a fault
abbrev pub Goes : List ℕ → ℕ → List (ℕ × ℕ) → Result (Option (ℕ × ℕ)) RimFault → Type 0
Goes frames place pairs (Ok None) = IsRim frames pairs
Goes frames place pairs (Ok (Some pair)) = HasReadTo frames (place + 4) (pairs ++ pair ∷ [])
Goes frames place pairs (Err fault) = IsFault frames fault
