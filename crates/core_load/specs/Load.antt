-- What loading a BIN tape does to core.
use Rattle.std.specs.Prelude.{◌≡◌, ℕ, ◌<◌, unwrap_or, Result, Ok, Err, List, [], ◌∷◌, ◌++◌, ◌⊎◌, length, slice_index}
use Rattle.bin_tape.specs.Frames.{heeded_frames}
use Rattle.bin_tape.specs.Items.{Item, tape_map}
use Rattle.bin_tape.specs.Tape.{IsTape, IsOpen}
use Rattle.bin_tape.specs.Fault.{IsFault}
use Rattle.bin_tape.specs.Reading.{HasRead, IsGoing}
use Rattle.bin_tape.specs.declared.faults.TapeFault.{TapeFault}
use Rattle.bin_tape.specs.declared.faults.TapeFault.TheVariants.{BadFrame, NoOrigin, CheckSum, NoTrailer, Memory}
use Rattle.core_load.specs.Loading.{Loading}

-- The new core has the tape's word where the tape has one, and is as before elsewhere.
pub record IsOverlaid (items : List Item) (old new : List ℕ) : Type 0 where
  pub same_size : length new ≡ length old
  pub cells : (cell : ℕ) → cell < length old → slice_index new cell ≡ unwrap_or (tape_map items cell) (slice_index old cell)

-- the frames are a tape, and the new core is the old one overlaid with it
pub record IsLoaded (frames old new : List ℕ) : Type 0 where
  pub items : List Item
  pub is_tape : IsTape frames items
  pub overlaid : IsOverlaid items old new

-- the frames may go on as a tape, and the last of them shows one more word to be no check sum
abbrev pub HandsOut : List ℕ → List (ℕ × ℕ) → Type 0
HandsOut frames words = (word : ℕ × ℕ) × IsGoing frames (words ++ word ∷ [])

-- a prefix of the frames may go on as a tape, and shows a word to be no check sum
abbrev pub WantsRoom : List ℕ → Type 0
WantsRoom frames = (before : List ℕ) × (after : List ℕ) × (words : List (ℕ × ℕ)) × (frames ≡ before ++ after) × HandsOut before words

-- What loading frames over core answers: on a fault no cell is changed.
abbrev pub LoadsTape : List ℕ → List ℕ → List ℕ → Result (Unit {0}) TapeFault → Type 0
LoadsTape frames old new (Ok nothing) = IsLoaded frames old new
LoadsTape frames old new (Err Memory) = WantsRoom frames × (new ≡ old)
LoadsTape frames old new (Err (BadFrame at)) = IsFault frames (BadFrame at) × (new ≡ old)
LoadsTape frames old new (Err NoOrigin) = IsFault frames NoOrigin × (new ≡ old)
LoadsTape frames old new (Err (CheckSum found computed)) = IsFault frames (CheckSum found computed) × (new ≡ old)
LoadsTape frames old new (Err NoTrailer) = IsFault frames NoTrailer × (new ≡ old)

-- ## Frame by frame

-- the loader was given these frames
abbrev pub IsFed : Loading → List ℕ → Type 0
IsFed loader frames = HasRead loader.reader frames loader.words

-- the frames are a tape, or may go on as one
abbrev pub IsFine : List ℕ → Type 0
IsFine frames = ((items : List Item) × IsTape frames items) ⊎ ((items : List Item) × (part : List ℕ) × IsOpen (heeded_frames frames) items part)

-- What further frames do to a loader that was given some. A fault is that of the first frame that is refused. Memory
-- runs out only where a word is handed out, and then nothing is taken.
abbrev pub FeedsFrames : List ℕ → List ℕ → Loading → Loading → Result (Unit {0}) TapeFault → Type 0
FeedsFrames frames more old new (Ok nothing) = IsFed new (frames ++ more) × IsFine (frames ++ more)
FeedsFrames frames more old new (Err Memory) = HandsOut (frames ++ more) old.words × (new ≡ old)
FeedsFrames frames more old new (Err (BadFrame at)) = IsFed new (frames ++ more) × ((rest : List ℕ) → IsFault (frames ++ more ++ rest) (BadFrame at))
FeedsFrames frames more old new (Err NoOrigin) = IsFed new (frames ++ more) × ((rest : List ℕ) → IsFault (frames ++ more ++ rest) NoOrigin)
FeedsFrames frames more old new (Err (CheckSum found computed)) = IsFed new (frames ++ more) × ((rest : List ℕ) → IsFault (frames ++ more ++ rest) (CheckSum found computed))
FeedsFrames frames more old new (Err NoTrailer) = ⊥

-- the loader was given a whole tape
pub record IsComplete (loader : Loading) : Type 0 where
  pub frames : List ℕ
  pub items : List Item
  pub fed : IsFed loader frames
  pub is_tape : IsTape frames items
