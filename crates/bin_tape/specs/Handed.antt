-- The word that a frame brings.
use Rattle.std.specs.Prelude.{ℕ, Option, Some, None}
use Rattle.bin_tape.specs.declared.readers.Tape.{Tape}
use Rattle.bin_tape.specs.declared.readers.Tape.TheVariants.{Nothing, Word, End}

abbrev pub word_in : Tape → Option (ℕ × ℕ)
word_in Nothing = None
word_in (Word cell word) = Some (cell, word)
word_in End = None
