-- The faults after the first (this project's profile of PAL8).
use Rattle.std.specs.Prelude.{ℕ, Bool, true, false, if◌then◌else◌, Option, Some, None, Result, Ok, Err, zero, suc, take, List, [], ◌∷◌, ◌++◌}
use Rattle.std.specs.Borrow.{Bor}
use Rattle.pal_lex.specs.Text.{text_of}
use Rattle.pal8_asm.specs.Sources.{PassResult, remainder_of_text}
use Rattle.pal8_asm.specs.Tapes.{TapeWords}
use Rattle.pal8_asm.specs.declared.faults.Fault as asm
use Rattle.pal8_places.specs.declared.options.Options.{Options}
use Rattle.pal8_places.specs.declared.faults.Code.{Code}
use Rattle.pal8_places.specs.declared.faults.Code.TheVariants.{IC, SY, NU, UA, DT, RD, IR, II, FD, PG, PF, DZ, PE, ZE, PageClash, ZeroClash, RL, PH, NE, NW}
use Rattle.source_places.specs.Places.{place_in}
use Rattle.pal8_lex.specs.Text.{live}
use Rattle.pal8_tape.specs.Joins.{bytes_in, counts_of, is_line_open, joined_bytes}
use Rattle.pal8_tape.specs.Mending.{harmless}
use Rattle.pal8_tape.specs.Answers.{result_of, with_place}
use Rattle.pal8_tape.specs.declared.faults.Fault.{Fault}
use Rattle.pal8_tape.specs.declared.further.TheConstants.{MOST_HARMLESS}

-- those of a statement's characters, numbers and form
abbrev pub is_lexical : Code → Bool
is_lexical IC = true
is_lexical SY = true
is_lexical NU = true
is_lexical (UA name) = false
is_lexical (DT name) = false
is_lexical RD = false
is_lexical IR = false
is_lexical II = false
is_lexical FD = false
is_lexical PG = false
is_lexical PF = false
is_lexical DZ = false
is_lexical PE = false
is_lexical ZE = false
is_lexical (PageClash cell) = false
is_lexical (ZeroClash cell) = false
is_lexical RL = false
is_lexical PH = false
is_lexical NE = false
is_lexical NW = false

-- those of a word, or of a definition that is judged with the words
abbrev pub is_of_word : Code → Bool
is_of_word IC = false
is_of_word SY = false
is_of_word NU = false
is_of_word (UA name) = true
is_of_word (DT name) = false
is_of_word RD = true
is_of_word IR = true
is_of_word II = true
is_of_word FD = false
is_of_word PG = false
is_of_word PF = true
is_of_word DZ = true
is_of_word PE = true
is_of_word ZE = true
is_of_word (PageClash cell) = false
is_of_word (ZeroClash cell) = false
is_of_word RL = true
is_of_word PH = false
is_of_word NE = false
is_of_word NW = false

-- those of a word that another word isn't the cause of
abbrev pub is_own : Code → Bool
is_own IC = false
is_own SY = false
is_own NU = false
is_own (UA name) = true
is_own (DT name) = false
is_own RD = false
is_own IR = false
is_own II = true
is_own FD = false
is_own PG = false
is_own PF = false
is_own DZ = true
is_own PE = false
is_own ZE = false
is_own (PageClash cell) = false
is_own (ZeroClash cell) = false
is_own RL = true
is_own PH = false
is_own NE = false
is_own NW = false

abbrev pub is_ok : PassResult → Bool
is_ok (Ok left) = true
is_ok (Err fault) = false

-- no statement has a fault but for words, and the source ends
abbrev pub is_passed : Options → List (List ℕ) → Bool
is_passed options texts = is_ok (remainder_of_text options (text_of (joined_bytes options texts)))

-- further faults are looked for after it
abbrev pub is_followed : Bool → Code → Bool
is_followed passed code = if passed then is_of_word code else is_lexical code

-- it is one of the further faults
abbrev pub is_further : Bool → Code → Bool
is_further passed code = if passed then is_own code else is_lexical code

abbrev pub fault_by : Bool → Result TapeWords asm.Fault → Option asm.Fault
fault_by passed (Ok made) = None
fault_by passed (Err fault) = if is_followed passed fault.code then Some fault else None

-- the first fault of sources, if further ones are looked for after it
abbrev pub followed_fault : Options → Bool → List (List ℕ) → Option asm.Fault
followed_fault options passed texts = fault_by passed (result_of options texts)

-- ## The sources in which the next fault is looked for

abbrev pub with_first : Option (List ℕ) → List (List ℕ) → Option (List (List ℕ))
with_first None others = None
with_first (Some text) others = Some (text ∷ others)

abbrev pub with_others : List ℕ → Option (List (List ℕ)) → Option (List (List ℕ))
with_others text None = None
with_others text (Some others) = Some (text ∷ others)

-- texts in one of which, by its number from 0, the statement that begins at a place is harmless
abbrev pub harmless_at : Bool → List (List ℕ) → ℕ → ℕ → Option (List (List ℕ))
harmless_at passed [] number start = None
harmless_at passed (text ∷ others) zero start = with_first (harmless passed start text) others
harmless_at passed (text ∷ others) (suc number) start = with_others text (harmless_at passed others number start)

abbrev pub harmless_by_place : Bool → List (List ℕ) → ℕ × ℕ → Option (List (List ℕ))
harmless_by_place passed texts at = harmless_at passed texts at.0 at.1

abbrev pub next_by : Options → Bool → List (List ℕ) → Option asm.Fault → Option (List (List ℕ))
next_by options passed texts None = None
next_by options passed texts (Some fault) = harmless_by_place passed texts (place_in (counts_of options texts) fault.place.start)

-- the texts in which the next fault is looked for, if it is: the statement with the first one is harmless in them
abbrev pub next_texts : Options → Bool → List (List ℕ) → Option (List (List ℕ))
next_texts options passed texts = next_by options passed texts (followed_fault options passed texts)

abbrev pub further_by : Options → Bool → List (Bor (List ℕ)) → List (List ℕ) → Result TapeWords asm.Fault → Option Fault
further_by options passed sources texts (Ok made) = None
further_by options passed sources texts (Err fault) = if is_further passed fault.code then Some (with_place options sources texts fault) else None

-- the first fault of such texts, at its place in the sources, if it is one of the further faults
abbrev pub further_fault : Options → Bool → List (Bor (List ℕ)) → List (List ℕ) → Option Fault
further_fault options passed sources texts = further_by options passed sources texts (result_of options texts)

abbrev pub items_of : {A : Type 0} → Option A → List A
items_of None = []
items_of (Some a) = a ∷ []

-- the fault of the texts with one statement made harmless, and those after it
abbrev pub faults_from : Options → Bool → List (Bor (List ℕ)) → (List (List ℕ) → List Fault) → Option (List (List ℕ)) → List Fault
faults_from options passed sources others None = []
faults_from options passed sources others (Some texts) = items_of (further_fault options passed sources texts) ++ others texts

-- The faults after the first of texts, where so many statements at most are made harmless, one after the other. The first of these has the
-- first fault of the texts; each other one has the first fault of the texts with those before it.
unfoldable pub faults_after : Options → Bool → List (Bor (List ℕ)) → ℕ → List (List ℕ) → List Fault
faults_after options passed sources zero texts = []
faults_after options passed sources (suc n) texts = faults_from options passed sources (faults_after options passed sources n) (next_texts options passed texts)

-- a text whose last line is ended
abbrev pub ended_text : List ℕ → List ℕ
ended_text text = text ++ (if is_line_open (live (text_of text)) then 0o12 ∷ [] else [])

-- texts of which each but the last has its last line ended, so that what stands there is a statement
abbrev pub ended_texts : List (List ℕ) → List (List ℕ)
ended_texts [] = []
ended_texts (text ∷ []) = text ∷ []
ended_texts (text ∷ next ∷ others) = ended_text text ∷ ended_texts (next ∷ others)

-- So many faults of sources after the first. They are those of statements that are bad by themselves, or those of words that are so.
abbrev pub further_faults : Options → List (Bor (List ℕ)) → ℕ → List Fault
further_faults options sources most =
    take most (faults_after options (is_passed options (ended_texts (bytes_in sources))) sources MOST_HARMLESS (ended_texts (bytes_in sources)))
