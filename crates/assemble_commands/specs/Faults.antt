-- What is printed of the faults of sources, as a function of the sources, their names and the first fault (this project's profile).
use Rattle.std.specs.Prelude.{ℕ, ◌-◌, nat_eq, Bool, true, false, ◌&&◌, if◌then◌else◌, List, [], ◌∷◌, ◌++◌, map}
use Rattle.std.specs.Borrow.{Bor}
use Rattle.file_kind.specs.Texts.{are_marked, is_text}
use Rattle.host_sources.specs.FaultLines as pal3
use Rattle.host_sources.specs.Further.{further_faults}
use Rattle.host_sources.specs.declared.faults.Fault as pal3_fault
use Rattle.pal8_places.specs.declared.options.Options.{Options}
use Rattle.pal8_tape.specs.FaultLines as pal8
use Rattle.pal8_tape.specs.Further as pal8_further
use Rattle.pal8_tape.specs.Signs.{sign_text}
use Rattle.pal8_tape.specs.declared.faults.Fault as pal8_fault
use Rattle.outcome.specs.Notes.{name_text, plain_text}
use Rattle.outcome.specs.declared.notes.NameNote.TheVariants.{Pal8, TopBits}
use Rattle.outcome.specs.declared.notes.PlainNote.TheVariants.{FurtherFaults}
use Rattle.assemble_commands.specs.declared.faults.TheConstants.{MOST_FURTHER}

abbrev pub note_if : Bool → List ℕ → List ℕ
note_if true note = note
note_if false note = []

-- the note on a source that is the frames of a text, with the top bits that they have on a volume
abbrev pub top_bits_note : List ℕ → List ℕ → List ℕ
top_bits_note source name = note_if (are_marked source && is_text source) (name_text TopBits name)

-- those on sources with these names, in their order
abbrev pub top_bits_notes : List (Bor (List ℕ)) → List (Bor (List ℕ)) → List ℕ
top_bits_notes [] names = []
top_bits_notes (source ∷ sources) [] = []
top_bits_notes (source ∷ sources) (name ∷ names) = top_bits_note source.now name.now ++ top_bits_notes sources names

-- the note on a word of PAL8, if there is one
abbrev pub sign_note : List ℕ → List ℕ
sign_note [] = []
sign_note (c ∷ sign) = name_text Pal8 (c ∷ sign)

-- how many lines are left after a byte
abbrev pub lines_after : ℕ → ℕ → ℕ
lines_after count byte = if nat_eq byte 0o12 then count - 1 else count

-- so many first lines of a text
abbrev pub first_lines : ℕ → List ℕ → List ℕ
first_lines count [] = []
first_lines count (byte ∷ text) = if nat_eq count 0 then [] else byte ∷ first_lines (lines_after count byte) text

-- texts of faults without their numbered lines, of which only the first fault has one
abbrev pub texts_without_numbers : List (List ℕ) → List ℕ
texts_without_numbers [] = []
texts_without_numbers (text ∷ texts) = first_lines 3 text ++ texts_without_numbers texts

-- what is printed of further faults, by the text of each
abbrev pub further_text : List (List ℕ) → List ℕ
further_text [] = []
further_text (text ∷ texts) = plain_text FurtherFaults ++ texts_without_numbers (text ∷ texts)

-- what is printed of the faults of PAL III sources: the first one, and at which word of PAL8 it is, and then the further ones
abbrev pub faults_text : List (Bor (List ℕ)) → List (Bor (List ℕ)) → pal3_fault.Fault → List ℕ
faults_text sources names fault =
    top_bits_notes sources names ++ pal3.fault_text sources names fault ++ sign_note (sign_text fault.about)
    ++ further_text (map (pal3.fault_text sources names) (further_faults sources MOST_FURTHER))

-- what is printed of the faults of PAL8 sources: the first one, and then the further ones
abbrev pub pal8_faults_text : Options → List (Bor (List ℕ)) → List (Bor (List ℕ)) → pal8_fault.Fault → List ℕ
pal8_faults_text options sources names fault =
    top_bits_notes sources names ++ pal8.fault_text sources names fault
    ++ further_text (map (pal8.fault_text sources names) (pal8_further.further_faults options sources MOST_FURTHER))
