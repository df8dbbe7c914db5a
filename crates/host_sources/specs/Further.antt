-- The faults after the first (this project's profile of PAL III).
use Rattle.std.specs.Prelude.{ℕ, ◌||◌, not, if◌then◌else◌, Option, Some, None, Ok, Err, take, drop, List, [], ◌∷◌, ◌++◌}
use Rattle.std.specs.Borrow.{Bor}
use Rattle.pal_lex.specs.Text.{is_over, ends_statement}
use Rattle.pal_lex.specs.Statements.{statements}
use Rattle.pal_faults.specs.declared.assembling.Code.{Code}
use Rattle.pal_asm.specs.Expressions.{Meanings}
use Rattle.pal_asm.specs.Places.{Source, place_at, values}
use Rattle.pal_asm.specs.Words.{word_values}
use Rattle.pal_asm.specs.Faults.{word_fault}
use Rattle.source_places.specs.declared.places.Place.{Place}
use Rattle.host_sources.specs.Sources.{newest_first}
use Rattle.host_sources.specs.Places.{is_refused, place_at_byte}
use Rattle.host_sources.specs.Marks.{at_mark, mark_of}
use Rattle.host_sources.specs.Lexical.{lexical_further}
use Rattle.host_sources.specs.Unknowns.{unknown_in, about}
use Rattle.host_sources.specs.declared.faults.Fault.{Fault}

-- a fault with its line and the name that it is about
abbrev pub with_line : ℕ → Option ℕ → Option Code → Option (Code × ℕ × Option ℕ)
with_line line name None = None
with_line line name (Some code) = Some (code, line, about code name)

-- the fault of the newest of statements, if it is a word that has one, where names stand for these values at last
abbrev pub newest_fault : Meanings → Source → Option (Code × ℕ × Option ℕ)
newest_fault last [] = None
newest_fault last (Err fault ∷ older) = None
newest_fault last (Ok s ∷ older) =
    with_line s.line (unknown_in (word_values last s.tags older) s.body) (word_fault (word_values last s.tags older) (place_at older) s.body)

-- the fault of the word that a byte after a text ends
abbrev pub byte_fault : Meanings → List ℕ → ℕ → Option (Code × ℕ × Option ℕ)
byte_fault last older b = if ends_statement older b then newest_fault last (statements (b ∷ older)) else None

-- the fault of the word that a byte after a text ends, if it has one
abbrev pub with_place : (ℕ → Place) → List ℕ → Option (Code × ℕ × Option ℕ) → List Fault
with_place place older None = []
with_place place older (Some found) = at_mark place found.0 found.1 (mark_of found.0 found.2 older) ∷ []

-- the faults of the words of a text, in its order, where these are the places of its bytes
abbrev pub word_faults : (ℕ → Place) → Meanings → List ℕ → List Fault
word_faults place last [] = []
word_faults place last (b ∷ older) = word_faults place last older ++ with_place place older (byte_fault last older b)

-- So many faults after the first. After one of a word each word is judged by itself, since what names stand for is known; after IC, SY
-- and NU the statement is made harmless. After another fault there is none.
abbrev pub further_faults : List (Bor (List ℕ)) → ℕ → List Fault
further_faults sources most =
    if is_refused (newest_first sources) || not (is_over (newest_first sources))
    then lexical_further (place_at_byte sources) most (newest_first sources)
    else take most (drop 1 (word_faults (place_at_byte sources) (values (statements (newest_first sources))) (newest_first sources)))
