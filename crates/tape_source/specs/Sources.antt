-- The source that says what a tape says.
use Rattle.std.specs.Prelude.{◌≡◌, ◌≢◌, ◌↔◌, ℕ, true, zero, suc, Option, None, Some, Err, reverse, List, [], ◌∷◌, ◌++◌}
use Rattle.word12.specs.declared.sizes.TheConstants.{CORE}
use Rattle.pal_lex.specs.Text.{text_of}
use Rattle.pal_asm.specs.Words.{pairs_of}
use Rattle.pal_asm.specs.Faults.{fault_of}
use Rattle.bin_tape.specs.Items.{Item, tape_map}
use Rattle.bin_tape.specs.Tape.{IsTape}
use Rattle.bin_tape.specs.Fault.{IsFault}
use Rattle.bin_tape.specs.Pairs.{last_word}
use Rattle.flow8.specs.Flow.{IsAmong, Reaches}
use Rattle.source_names.specs.Names.{AreNames, read_of}
use Rattle.pal_faults.specs.declared.names.LineRefusal.{LineRefusal}
use Rattle.source_names.specs.declared.faults.NamesFault.TheVariants.{At}
use Rattle.tape_source.specs.Looks.{Look, AreNotes, IsNaming, with_notes, plain, with_names}
use Rattle.tape_source.specs.Lines.{source_with}
use Rattle.tape_source.specs.declared.faults.ListFault.{ListFault}
use Rattle.tape_source.specs.declared.faults.ListFault.TheVariants.{Tape, NoWord, NoStart, Names, Memory}

-- a cell's word before others, where it has one
abbrev pub with_word : Option ℕ → ℕ → List (ℕ × ℕ) → List (ℕ × ℕ)
with_word None cell below = below
with_word (Some word) cell below = (cell, word) ∷ below

-- the cells below a number that a tape gives a word, each with its last word, the highest cell first
unfoldable pub words_below : List Item → ℕ → List (ℕ × ℕ)
words_below items zero = []
words_below items (suc cell) = with_word (tape_map items cell) cell (words_below items cell)

-- the words of a tape, the highest cell first
abbrev pub words_of_tape : List Item → List (ℕ × ℕ)
words_of_tape items = words_below items CORE

-- A text assembles without a fault to these words with their cells.
pub record IsReadAs (text : List ℕ) (pairs : List (ℕ × ℕ)) : Type 0 where
  pub no_fault : fault_of (text_of text) ≡ None
  pub pairs_are : pairs_of (text_of text) ≡ pairs

-- A text says what a tape says. It assembles without a fault to the tape's words, by rising cell. It gives each cell the
-- tape's last word for it, and no other cell a word.
pub record Says (text : List ℕ) (items : List Item) : Type 0 where
  pub no_fault : fault_of (text_of text) ≡ None
  pub pairs : pairs_of (text_of text) ≡ reverse (words_of_tape items)
  pub map : (cell : ℕ) → last_word (pairs_of (text_of text)) cell ≡ tape_map items cell

-- The frames are a tape of some word, and the text is its source, which looks like this.
pub record IsSourceWith (look : Look) (frames text : List ℕ) : Type 0 where
  pub items : List Item
  pub is_tape : IsTape frames items
  pub notes : AreNotes look
  pub naming : IsNaming look.name
  pub lines : text ≡ source_with look (words_of_tape items)
  pub says : Says text items

-- with all words as instructions, and nothing shown beside them
abbrev pub IsSourceOf : List ℕ → List ℕ → Type 0
IsSourceOf frames text = IsSourceWith plain frames text

-- with those words as instructions that a program reaches when it starts at these cells, and with the notes of the tape's words
pub record IsSourceFrom (frames starts text : List ℕ) : Type 0 where
  pub look : Look
  pub source : IsSourceWith look frames text
  pub told : look ≡ with_notes (tape_map source.items) look.is_code
  pub reached : (cell : ℕ) → (look.is_code cell ≡ true) ↔ Reaches (tape_map source.items) starts cell

-- A source of all words as instructions, in which the names that a text gives cells of the tape are their tags.
pub record IsNamedSourceOf (frames names text : List ℕ) : Type 0 where
  pub table : List (Option (List ℕ))
  pub source : IsSourceWith (with_names table plain) frames text
  pub named : AreNames (tape_map source.items) names table

-- and one of what a program reaches, with the notes of the tape's words
pub record IsNamedSourceFrom (frames starts names text : List ℕ) : Type 0 where
  pub table : List (Option (List ℕ))
  pub look : Look
  pub source : IsSourceWith (with_names table look) frames text
  pub named : AreNames (tape_map source.items) names table
  pub told : look ≡ with_notes (tape_map source.items) look.is_code
  pub reached : (cell : ℕ) → (look.is_code cell ≡ true) ↔ Reaches (tape_map source.items) starts cell

-- The frames are a tape that gives each cell what these items give it.
pub record SaysTheSame (frames : List ℕ) (items : List Item) : Type 0 where
  pub again : List Item
  pub is_tape : IsTape frames again
  pub map : (cell : ℕ) → tape_map again cell ≡ tape_map items cell

-- the frames are a tape that gives no cell a word
pub record GivesNoWord (frames : List ℕ) : Type 0 where
  pub items : List Item
  pub is_tape : IsTape frames items
  pub none : (cell : ℕ) → tape_map items cell ≡ None

-- a word stands in each of these cells
abbrev pub AllGiven : (ℕ → Option ℕ) → List ℕ → Type 0
AllGiven words cells = (cell : ℕ) → IsAmong cell cells → words cell ≢ None

-- This is the first of the cells in which no word stands.
pub record IsFirstWithout (words : ℕ → Option ℕ) (cells : List ℕ) (cell : ℕ) : Type 0 where
  pub before : List ℕ
  pub after : List ℕ
  pub split : cells ≡ before ++ cell ∷ after
  pub given : AllGiven words before
  pub none : words cell ≡ None

-- The frames are a tape that gives one of these starts no word, and this is the first.
pub record LacksStart (frames starts : List ℕ) (start : ℕ) : Type 0 where
  pub items : List Item
  pub is_tape : IsTape frames items
  pub first : IsFirstWithout (tape_map items) starts start

-- The frames are a tape that gives each of these starts a word, and this is the first line of a text that gives no name, and why.
pub record RefusesName (frames starts names : List ℕ) (line : ℕ) (why : LineRefusal) : Type 0 where
  pub items : List Item
  pub is_tape : IsTape frames items
  pub given : AllGiven (tape_map items) starts
  pub refused : read_of (tape_map items) names ≡ Err (At line why)

-- The frames are a tape that gives no cell a word, and neither a start nor a line of a text needs one.
pub record NamesNoWord (frames starts names : List ℕ) : Type 0 where
  pub items : List Item
  pub is_tape : IsTape frames items
  pub none : (cell : ℕ) → tape_map items cell ≡ None
  pub given : AllGiven (tape_map items) starts
  pub table : List (Option (List ℕ))
  pub named : AreNames (tape_map items) names table

-- Why frames have no source.
abbrev pub IsListFault : List ℕ → ListFault → Type 0
IsListFault frames (Tape fault) = IsFault frames fault
IsListFault frames NoWord = GivesNoWord frames
IsListFault frames (NoStart start) = ⊥
IsListFault frames (Names line why) = ⊥
IsListFault frames Memory = Unit {0}

-- Why they have none with what a program reaches from these starts.
abbrev pub IsFlowFault : List ℕ → List ℕ → ListFault → Type 0
IsFlowFault frames starts (Tape fault) = IsFault frames fault
IsFlowFault frames starts NoWord = GivesNoWord frames
IsFlowFault frames starts (NoStart start) = LacksStart frames starts start
IsFlowFault frames starts (Names line why) = ⊥
IsFlowFault frames starts Memory = Unit {0}

-- Why they have none with the names of a text, where a program starts at these cells, or at none.
abbrev pub IsNamedFault : List ℕ → List ℕ → List ℕ → ListFault → Type 0
IsNamedFault frames starts names (Tape fault) = IsFault frames fault
IsNamedFault frames starts names (NoStart start) = LacksStart frames starts start
IsNamedFault frames starts names (Names line why) = RefusesName frames starts names line why
IsNamedFault frames starts names NoWord = NamesNoWord frames starts names
IsNamedFault frames starts names Memory = Unit {0}
