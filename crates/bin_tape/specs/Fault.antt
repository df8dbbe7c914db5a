-- The one fault of frames that are no BIN tape.
use Rattle.std.specs.Prelude.{◌≡◌, ◌≢◌, ℕ, ◌+◌, ◌*◌, ◌%◌, ◌<◌, ◌≤◌, ◌⊎◌, true, false, min, length, List, [], ◌∷◌, ◌++◌}
use Rattle.bin_tape.specs.Frames.{heeded_frames, ignore_count}
use Rattle.bin_tape.specs.Items.{Item, Leader, Field, Origin, Word, has_origin, ends_in_word, check_sum}
use Rattle.bin_tape.specs.Tape.{IsOpen}
use Rattle.bin_tape.specs.declared.faults.TapeFault.{TapeFault}
use Rattle.bin_tape.specs.declared.faults.TapeFault.TheVariants.{BadFrame, NoOrigin, CheckSum, NoTrailer, Memory}

-- A frame that can't come next, and is no other fault. It isn't the second frame of a pair that was begun, or
-- it has no listed form, or it is a trailer that doesn't follow a word directly.
abbrev pub IsOutOfPlace : List Item → List ℕ → ℕ → Type 0
IsOutOfPlace items [] frame =
    ((0o200 < frame) × ((frame < 0o300) ⊎ (0 < frame % 8)))
    ⊎ ((frame ≡ 0o200) × (has_origin items ≡ true) × (ends_in_word items ≡ false))
IsOutOfPlace items (p ∷ rest) frame = 0o100 ≤ frame

-- the newest item is a word, but it isn't the sum
abbrev pub IsWrongSum : List Item → ℕ → ℕ → Type 0
IsWrongSum [] found computed = ⊥
IsWrongSum (Word high low ∷ older) found computed = (found ≡ 0o100 * high + low) × (computed ≡ check_sum older) × (found ≢ computed)
IsWrongSum (Leader f ∷ older) found computed = ⊥
IsWrongSum (Field n ∷ older) found computed = ⊥
IsWrongSum (Origin high low ∷ older) found computed = ⊥

-- the fault of a frame, at a place, that comes after these items and perhaps a first frame of a pair
abbrev pub IsRefused : List Item → List ℕ → ℕ → ℕ → TapeFault → Type 0
IsRefused items part frame place (BadFrame at) = (at ≡ place) × IsOutOfPlace items part frame
IsRefused items part frame place NoOrigin = (part ≡ []) × (has_origin items ≡ false) × (0 < frame) × (frame < 0o100)
IsRefused items part frame place (CheckSum found computed) = (part ≡ []) × (frame ≡ 0o200) × IsWrongSum items found computed
IsRefused items part frame place NoTrailer = ⊥
IsRefused items part frame place Memory = ⊥

-- the place of a frame with so many frames before it, as far as a number of 64 bits goes
abbrev pub place_after : List ℕ → ℕ
place_after frames = min (length frames) 18446744073709551615

-- Among the frames one is refused: what is heeded before it is open, and it closes that.
pub record RefusesFrame (frames : List ℕ) (fault : TapeFault) : Type 0 where
  pub before : List ℕ
  pub frame : ℕ
  pub after : List ℕ
  pub items : List Item
  pub part : List ℕ
  pub split : frames ≡ before ++ frame ∷ after
  pub not_ignore : frame ≢ 0o377
  pub not_ignored : ignore_count before % 2 ≡ 0
  pub is_open : IsOpen (heeded_frames before) items part
  pub refused : IsRefused items part frame (place_after before) fault

-- The fault of frames that are no tape: that of the frame which closes what was open, or that no frame did so.
abbrev pub IsFault : List ℕ → TapeFault → Type 0
IsFault frames NoTrailer = (items : List Item) × (part : List ℕ) × IsOpen (heeded_frames frames) items part
IsFault frames (BadFrame at) = RefusesFrame frames (BadFrame at)
IsFault frames NoOrigin = RefusesFrame frames NoOrigin
IsFault frames (CheckSum found computed) = RefusesFrame frames (CheckSum found computed)
IsFault frames Memory = ⊥
