-- What the small steps of a prefix give, for private clauses.
use Rattle.std.specs.Prelude.{◌≡◌, ℕ, ◌+◌, ◌*◌, Result, Ok, Err, List, [], ◌∷◌, ◌++◌}
use Rattle.bin_tape.specs.Items.{Item, Leader, Field, Origin, Word, frames_of_items, check_sum, words_but_last}
use Rattle.bin_tape.specs.Fault.{IsRefused}
use Rattle.bin_tape.specs.declared.faults.TapeFault.{TapeFault}
use Rattle.bin_tape.specs.declared.prefixes.Taken.{Taken}
use Rattle.bin_tape.specs.declared.prefixes.Taken.TheVariants.{More, Handed, End}
use Rattle.bin_tape.specs.Prefix.{KeepsFrames}

-- a trailer frame right after a word that is the sum of the items before it
abbrev pub EndsTape : List Item → List ℕ → ℕ → Type 0
EndsTape [] part frame = ⊥
EndsTape (Word high low ∷ older) part frame = (part ≡ []) × (frame ≡ 0o200) × (0o100 * high + low ≡ check_sum older)
EndsTape (Leader f ∷ older) part frame = ⊥
EndsTape (Field n ∷ older) part frame = ⊥
EndsTape (Origin high low ∷ older) part frame = ⊥

-- what one more frame gives
abbrev pub TakesFrame : List Item → List ℕ → ℕ → ℕ → Result Taken TapeFault → Type 0
TakesFrame items part frame place (Ok (More prefix)) = KeepsFrames prefix (frames_of_items items ++ part ++ frame ∷ []) (words_but_last items)
TakesFrame items part frame place (Ok (Handed prefix cell word)) = KeepsFrames prefix (frames_of_items items ++ part ++ frame ∷ []) (words_but_last items ++ (cell, word) ∷ [])
TakesFrame items part frame place (Ok End) = EndsTape items part frame
TakesFrame items part frame place (Err fault) = IsRefused items part frame place fault

-- what a word gives, by its two frames
abbrev pub TakesWord : List Item → ℕ → ℕ → Taken → Type 0
TakesWord items high low taken = TakesFrame items (high ∷ []) low 0 (Ok taken)
