-- What a reader was given and has handed out, and its answer for one more frame.
use Rattle.std.specs.Prelude.{◌≡◌, ℕ, ◌%◌, nat_eq, Bool, Result, Ok, Err, option_to_list, List, [], ◌∷◌, ◌++◌, ◌⊎◌}
use Rattle.bin_tape.specs.Frames.{heeded_frames, ignore_count}
use Rattle.bin_tape.specs.Items.{Item, words_of, words_but_last}
use Rattle.bin_tape.specs.Tape.{IsOpen, IsTape}
use Rattle.bin_tape.specs.Fault.{RefusesFrame, place_after}
use Rattle.bin_tape.specs.Prefix.{KeepsFrames}
use Rattle.bin_tape.specs.Progress.{Progress}
use Rattle.bin_tape.specs.Handed.{word_in}
use Rattle.bin_tape.specs.declared.faults.TapeFault.{TapeFault}
use Rattle.bin_tape.specs.declared.readers.State.{State}
use Rattle.bin_tape.specs.declared.readers.State.TheVariants.{Reading, Ended, Failed}
use Rattle.bin_tape.specs.declared.readers.Tape.{Tape}
use Rattle.bin_tape.specs.declared.readers.Tape.TheVariants.{Nothing, Word, End}

-- The frames may go on as a tape, and these words were handed out: all but the last, which may be the check sum.
pub record IsGoing (frames : List ℕ) (out : List (ℕ × ℕ)) : Type 0 where
  pub items : List Item
  pub part : List ℕ
  pub is_open : IsOpen (heeded_frames frames) items part
  pub words : out ≡ words_but_last items

-- the frames are a tape, and its words were handed out
pub record IsWhole (frames : List ℕ) (out : List (ℕ × ℕ)) : Type 0 where
  pub items : List Item
  pub is_tape : IsTape frames items
  pub words : out ≡ words_of items

-- the place and the stretch that is ignored, after these frames
pub record Counts (place : ℕ) (ignoring : Bool) (frames : List ℕ) : Type 0 where
  pub place_is : place ≡ place_after frames
  pub ignoring_is : ignoring ≡ nat_eq (ignore_count frames % 2) 1

abbrev pub StateIs : State → List ℕ → List (ℕ × ℕ) → Type 0
StateIs (Reading prefix) frames out = KeepsFrames prefix (heeded_frames frames) out
StateIs Ended frames out = IsWhole frames out
StateIs (Failed fault) frames out = RefusesFrame frames fault

-- The reader was given these frames, and has handed out these words.
pub record HasRead (reader : Progress) (frames : List ℕ) (out : List (ℕ × ℕ)) : Type 0 where
  pub counts : Counts reader.place reader.ignoring frames
  pub state : StateIs reader.state frames out

-- the words that an answer hands out
abbrev pub words_in : Result Tape TapeFault → List (ℕ × ℕ)
words_in (Ok tape) = option_to_list (word_in tape)
words_in (Err fault) = []

-- The answer for one more frame, after these frames and the words handed out. It is a word where a later one shows
-- that it is no check sum, and the end where the frames become a tape. For a frame that is refused it is the
-- fault, for good.
abbrev pub Answers : List ℕ → List (ℕ × ℕ) → ℕ → Result Tape TapeFault → Type 0
Answers frames out frame (Ok Nothing) = IsWhole frames out ⊎ IsGoing (frames ++ frame ∷ []) out
Answers frames out frame (Ok (Word cell word)) = IsGoing (frames ++ frame ∷ []) (out ++ (cell, word) ∷ [])
Answers frames out frame (Ok End) = IsGoing frames out × IsWhole (frames ++ frame ∷ []) out
Answers frames out frame (Err fault) = (rest : List ℕ) → RefusesFrame (frames ++ frame ∷ rest) fault
