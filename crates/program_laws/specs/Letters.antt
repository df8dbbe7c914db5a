-- The letters of options, as a law has them.
use Rattle.std.specs.Prelude.{List, [], ◌∷◌, ◌++◌}
use Rattle.clap.specs.Words.{Text}
use Rattle.command_table.specs.Tables.{Entry, letters_of}

-- the letters of options, one after another
abbrev pub letter_text : List (Text × Text) → Text
letter_text [] = []
letter_text ((letter, option) ∷ others) = letter ++ letter_text others

-- the name of a subcommand, and the letters of its options
abbrev pub letters_with : Entry → Text × Text
letters_with entry = (entry.word, letter_text (letters_of entry))
