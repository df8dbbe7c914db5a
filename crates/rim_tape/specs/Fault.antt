-- The one fault of frames that are no RIM tape.
use Rattle.std.specs.Prelude.{◌≡◌, ℕ, ◌<◌, ◌≤◌, ◌⊎◌, length, List, [], ◌∷◌, ◌++◌}
use Rattle.rim_tape.specs.Tape.{IsRim, IsOpen}
use Rattle.rim_tape.specs.declared.faults.RimFault.{RimFault}
use Rattle.rim_tape.specs.declared.faults.RimFault.TheVariants.{BadFrame, NoTrailer, Memory}

-- A frame that can't come next: no leader or trailer and no first frame of an address, or, after that, one of more than six bits.
abbrev pub IsOutOfPlace : List ℕ → ℕ → Type 0
IsOutOfPlace [] frame = (frame < 0o100) ⊎ (0o200 < frame)
IsOutOfPlace (a ∷ rest) frame = 0o100 ≤ frame

-- Among the frames one is refused: what stands before it is open, and it closes that.
pub record RefusesFrame (frames : List ℕ) (place frame : ℕ) : Type 0 where
  pub before : List ℕ
  pub after : List ℕ
  pub pairs : List (ℕ × ℕ)
  pub part : List ℕ
  pub split : frames ≡ before ++ frame ∷ after
  pub is_open : IsOpen before pairs part
  pub out_of_place : IsOutOfPlace part frame
  pub place_is : place ≡ length before

-- The frames end before a trailer, and none of them is refused.
pub record EndsOpen (frames : List ℕ) : Type 0 where
  pub pairs : List (ℕ × ℕ)
  pub part : List ℕ
  pub is_open : IsOpen frames pairs part

-- the frames are a tape
pub record IsSomeRim (frames : List ℕ) : Type 0 where
  pub pairs : List (ℕ × ℕ)
  pub is_rim : IsRim frames pairs

-- The fault of frames that are no tape: that of the first frame which can't come at its place, or that none is the trailer. Memory
-- runs out only for the words of a tape.
abbrev pub IsFault : List ℕ → RimFault → Type 0
IsFault frames (BadFrame place frame) = RefusesFrame frames place frame
IsFault frames NoTrailer = EndsOpen frames
IsFault frames Memory = IsSomeRim frames
