-- What the parts of a source are.
use Rattle.std.specs.Prelude.{◌≡◌, ℕ, ◌<◌, Bool, false, ◌&&◌, ◌||◌, slice_index_or, Option, Some, None, Err, is_some, List, []}
use Rattle.word12.specs.declared.sizes.TheConstants.{CORE}
use Rattle.bin_tape.specs.Items.{Item, tape_map}
use Rattle.bin_tape.specs.Fault.{IsFault}
use Rattle.flow8.specs.Flow.{word_in}
use Rattle.source_notes.specs.Notes as notes
use Rattle.source_notes.specs.Notes.{Notes, is_flagged}
use Rattle.tape_source.specs.Tags.{is_given, is_referred}
use Rattle.tape_source.specs.Looks.{Look, names_in, name_or_tag}
use Rattle.source_names.specs.Names.{read_of}
use Rattle.source_names.specs.declared.faults.NamesFault.TheVariants.{At}
use Rattle.tape_source.specs.Sources.{words_below, words_of_tape}
use Rattle.tape_source.specs.declared.faults.ListFault.{ListFault}
use Rattle.tape_source.specs.declared.faults.ListFault.TheVariants.{Tape, NoWord, NoStart, Names, Memory}

-- ## The words of a tape

-- these are the last words of a tape's cells
abbrev pub HoldsMap : List Item → List (Option ℕ) → Type 0
HoldsMap items words = (cell : ℕ) → cell < CORE → slice_index_or words cell None ≡ tape_map items cell

-- ## Tags

-- a cell with a word has a name of its own, or is named by a memory reference in a cell below a number
abbrev pub tagged_below : Look → List Item → ℕ → ℕ → Bool
tagged_below look items count cell =
    is_given (words_of_tape items) cell && (look.has_name cell || is_referred look.is_code (words_below items count) cell)

-- these say which cells are tagged
abbrev pub HoldsFlags : (ℕ → Bool) → List Bool → Type 0
HoldsFlags tagged tags = (cell : ℕ) → cell < CORE → is_flagged tags cell ≡ tagged cell

-- ## Names, of a table or none

abbrev pub name_by : Option (List (Option (List ℕ))) → ℕ → Option (List ℕ)
name_by None cell = None
name_by (Some table) cell = names_in table cell

-- these give the cells that have a name of their own
abbrev pub HoldsNames : (ℕ → Bool) → Option (List (Option (List ℕ))) → Type 0
HoldsNames has_name names = (cell : ℕ) → cell < CORE → is_some (name_by names cell) ≡ has_name cell

-- ## What is shown beside words, by notes or by none

abbrev pub above_of : Option Notes → ℕ → List (List ℕ)
above_of None cell = []
above_of (Some n) cell = notes.above (word_in n.words) (is_flagged n.code) cell

abbrev pub remark_of : Option Notes → ℕ → List ℕ
remark_of None cell = []
remark_of (Some n) cell = notes.remark (word_in n.words) (is_flagged n.code) cell

abbrev pub gap_of : Option Notes → ℕ → Bool
gap_of None cell = false
gap_of (Some n) cell = notes.has_gap (word_in n.words) (is_flagged n.code) cell

-- ## Sources

abbrev pub look_with : Option (List (Option (List ℕ))) → Option Notes → (ℕ → Bool) → Look
look_with names n is_code = record {
  name = name_or_tag (name_by names);
  has_name = λ cell. is_some (name_by names cell);
  is_code = is_code;
  above = λ cell. above_of n cell;
  remark = λ cell. remark_of n cell;
  has_gap = λ cell. gap_of n cell;
}

-- why frames give no words
abbrev pub IsUnread : List ℕ → ListFault → Type 0
IsUnread frames (Tape fault) = IsFault frames fault
IsUnread frames NoWord = ⊥
IsUnread frames (NoStart start) = ⊥
IsUnread frames (Names line why) = ⊥
IsUnread frames Memory = Unit {0}

-- why a text gives no names for words
abbrev pub IsRefused : (ℕ → Option ℕ) → List ℕ → ListFault → Type 0
IsRefused words text (Tape fault) = ⊥
IsRefused words text NoWord = ⊥
IsRefused words text (NoStart start) = ⊥
IsRefused words text (Names line why) = read_of words text ≡ Err (At line why)
IsRefused words text Memory = Unit {0}
