-- The PAL8 source of a tape, and why there is none (PAL8, in this project's profile).
use Rattle.std.specs.Prelude.{◌≡◌, ◌↔◌, ℕ, ◌<◌, Bool, true, false, ◌&&◌, ◌||◌, not, Option, Some, None, Err, is_some, List, [], ◌∷◌}
use Rattle.word12.specs.declared.sizes.TheConstants.{CORE}
use Rattle.bin_tape.specs.Items.{Item, tape_map}
use Rattle.bin_tape.specs.Tape.{IsTape}
use Rattle.bin_tape.specs.Fault.{IsFault}
use Rattle.pal_lex.specs.Runs.{name_number}
use Rattle.flow8.specs.Flow.{Reaches, word_in}
use Rattle.source_notes.specs.Notes.{Notes, is_flagged}
use Rattle.source_names.specs.Names.{AreNames, read_of}
use Rattle.pal_faults.specs.declared.names.LineRefusal.{LineRefusal}
use Rattle.source_names.specs.declared.faults.NamesFault.TheVariants.{At}
use Rattle.tape_source.specs.Looks.{is_tagged, name_or_tag}
use Rattle.tape_source.specs.Sources.{AllGiven, LacksStart, words_of_tape}
use Rattle.tape_source.specs.Steps.{above_of, gap_of, name_by, remark_of}
use Rattle.tape_source.specs.declared.faults.ListFault.TheVariants as list
use Rattle.pal8_grammar.specs.Permanent.{is_reserved}
use Rattle.pal8_source.specs.Lines.{source_of}
use Rattle.pal8_source.specs.Pools.{Program, is_pooled}
use Rattle.pal8_source.specs.Sheets.{Sheet}
use Rattle.pal8_source.specs.declared.faults.Pal8Fault.{Pal8Fault}
use Rattle.pal8_source.specs.declared.faults.Pal8Fault.TheVariants.{List as InList, Reserved}

-- the names that a text gives cells, if there is one
abbrev pub GivesNames : (ℕ → Option ℕ) → Option (List ℕ) → Option (List (Option (List ℕ))) → Type 0
GivesNames words None table = table ≡ None
GivesNames words (Some text) None = ⊥
GivesNames words (Some text) (Some table) = AreNames words text table

-- a name, if there is one, is a word of PAL8
abbrev pub is_word_of_pal8 : Option (List ℕ) → Bool
is_word_of_pal8 None = false
is_word_of_pal8 (Some name) = is_reserved (name_number name)

abbrev pub has_some : List ℕ → Bool
has_some [] = false
has_some (start ∷ starts) = true

-- all words are instructions, or those that a program reaches from its starts
abbrev pub AreInstructions : (ℕ → Option ℕ) → List ℕ → (ℕ → Bool) → Type 0
AreInstructions words [] is_code = (cell : ℕ) → cell < CORE → is_code cell ≡ true
AreInstructions words (start ∷ starts) is_code = (cell : ℕ) → (is_code cell ≡ true) ↔ Reaches words (start ∷ starts) cell

-- The words of a tape, the instructions among them, and which cells are named or reached from a start.
pub record IsProgram (words : ℕ → Option ℕ) (table : Option (List (Option (List ℕ)))) (starts : List ℕ) (p : Program) : Type 0 where
  pub words_are : (cell : ℕ) → cell < CORE → word_in p.words cell ≡ words cell
  pub instructions : AreInstructions words starts (is_flagged p.code)
  pub exempt : (cell : ℕ) → cell < CORE → is_flagged p.exempt cell ≡ (is_some (name_by table cell) || (has_some starts && is_flagged p.code cell))

-- the notes of words, of which these are instructions, where a start is given
abbrev pub notes_of : List (Option ℕ) → List Bool → Bool → Option Notes
notes_of words code false = None
notes_of words code true = Some record { words = words; code = code }

-- What is shown of a program. What is a pool's is no instruction of its own and has no tag; the others have the tags and notes of PAL III's source.
pub record IsShown (p : Program) (table : Option (List (Option (List ℕ)))) (has_starts : Bool) (pairs : List (ℕ × ℕ)) (s : Sheet) : Type 0 where
  pub words : s.words ≡ word_in p.words
  pub pools : (cell : ℕ) → cell < CORE → s.is_pooled cell ≡ is_pooled p cell
  pub names : s.look.name ≡ name_or_tag (name_by table)
  pub named : (cell : ℕ) → s.look.has_name cell ≡ is_some (name_by table cell)
  pub code : (cell : ℕ) → cell < CORE → s.look.is_code cell ≡ (is_flagged p.code cell && not (s.is_pooled cell))
  pub above : (cell : ℕ) → s.look.above cell ≡ above_of (notes_of p.words p.code has_starts) cell
  pub remark : (cell : ℕ) → s.look.remark cell ≡ remark_of (notes_of p.words p.code has_starts) cell
  pub gaps : (cell : ℕ) → s.look.has_gap cell ≡ gap_of (notes_of p.words p.code has_starts) cell
  pub tags : (cell : ℕ) → cell < CORE → s.is_tagged cell ≡ (is_tagged s.look pairs cell && not (s.is_pooled cell))
  pub starts : s.has_starts ≡ has_starts

-- The frames are a tape of some word, the starts have words, no name is a word of PAL8, and the text is the source.
pub record IsPal8Source (frames starts : List ℕ) (names : Option (List ℕ)) (text : List ℕ) : Type 0 where
  pub items : List Item
  pub is_tape : IsTape frames items
  pub given : AllGiven (tape_map items) starts
  pub table : Option (List (Option (List ℕ)))
  pub named : GivesNames (tape_map items) names table
  pub own : (cell : ℕ) → cell < CORE → is_word_of_pal8 (name_by table cell) ≡ false
  pub cell : ℕ
  pub has_word : is_some (tape_map items cell) ≡ true
  pub program : Program
  pub is_program : IsProgram (tape_map items) table starts program
  pub sheet : Sheet
  pub shown : IsShown program table (has_some starts) (words_of_tape items) sheet
  pub text_is : text ≡ source_of sheet

-- the frames are a tape, the starts have words, and this is the first line of a text that gives no name
pub record RefusesLine (frames starts names : List ℕ) (line : ℕ) (why : LineRefusal) : Type 0 where
  pub items : List Item
  pub is_tape : IsTape frames items
  pub given : AllGiven (tape_map items) starts
  pub refused : read_of (tape_map items) names ≡ Err (At line why)

-- the same, and this is the lowest cell whose name is a word of PAL8
pub record ReservesName (frames starts : List ℕ) (names : Option (List ℕ)) (cell : ℕ) : Type 0 where
  pub items : List Item
  pub is_tape : IsTape frames items
  pub given : AllGiven (tape_map items) starts
  pub table : Option (List (Option (List ℕ)))
  pub named : GivesNames (tape_map items) names table
  pub reserved : is_word_of_pal8 (name_by table cell) ≡ true
  pub lowest : (other : ℕ) → other < cell → is_word_of_pal8 (name_by table other) ≡ false

-- the frames are a tape that gives no cell a word, and neither a start nor a name needs one
pub record GivesNoWord (frames starts : List ℕ) (names : Option (List ℕ)) : Type 0 where
  pub items : List Item
  pub is_tape : IsTape frames items
  pub none : (cell : ℕ) → tape_map items cell ≡ None
  pub given : AllGiven (tape_map items) starts
  pub table : Option (List (Option (List ℕ)))
  pub named : GivesNames (tape_map items) names table

-- why frames have no PAL8 source
abbrev pub IsPal8Fault : List ℕ → List ℕ → Option (List ℕ) → Pal8Fault → Type 0
IsPal8Fault frames starts names (InList (list.Tape fault)) = IsFault frames fault
IsPal8Fault frames starts names (InList list.NoWord) = GivesNoWord frames starts names
IsPal8Fault frames starts names (InList (list.NoStart start)) = LacksStart frames starts start
IsPal8Fault frames starts None (InList (list.Names line why)) = ⊥
IsPal8Fault frames starts (Some names) (InList (list.Names line why)) = RefusesLine frames starts names line why
IsPal8Fault frames starts names (InList list.Memory) = Unit {0}
IsPal8Fault frames starts names (Reserved cell) = ReservesName frames starts names cell
