-- What the small steps of a reader give, for private clauses.
use Rattle.std.specs.Prelude.{◌≡◌, ℕ, Result, Ok, Err, List, [], ◌∷◌, ◌++◌}
use Rattle.bin_tape.specs.Items.{Item, frames_of_items, words_but_last}
use Rattle.bin_tape.specs.Fault.{IsRefused}
use Rattle.bin_tape.specs.Prefix.{KeepsFrames}
use Rattle.bin_tape.specs.declared.faults.TapeFault.{TapeFault}
use Rattle.bin_tape.specs.declared.readers.State.{State}
use Rattle.bin_tape.specs.declared.readers.State.TheVariants.{Reading, Ended, Failed}
use Rattle.bin_tape.specs.declared.readers.Tape.{Tape}
use Rattle.bin_tape.specs.declared.readers.Tape.TheVariants.{Nothing, Word, End}
use Rattle.bin_tape.specs.PrefixSteps.{EndsTape}

-- the reader goes on after these heeded frames, and has handed out these words
abbrev pub IsReading : State → List ℕ → List (ℕ × ℕ) → Type 0
IsReading (Reading prefix) kept_frames out = KeepsFrames prefix kept_frames out
IsReading Ended kept_frames out = ⊥
IsReading (Failed fault) kept_frames out = ⊥

-- the answer for one more heeded frame, and the state after it
abbrev pub AnswersFrame : List Item → List ℕ → ℕ → ℕ → Result Tape TapeFault → State → Type 0
AnswersFrame items part frame place (Ok Nothing) state = IsReading state (frames_of_items items ++ part ++ frame ∷ []) (words_but_last items)
AnswersFrame items part frame place (Ok (Word cell word)) state = IsReading state (frames_of_items items ++ part ++ frame ∷ []) (words_but_last items ++ (cell, word) ∷ [])
AnswersFrame items part frame place (Ok End) state = (state ≡ Ended) × EndsTape items part frame
AnswersFrame items part frame place (Err fault) state = (state ≡ Failed fault) × IsRefused items part frame place fault
