-- A walk over statements, for the contracts of its steps.
use Rattle.std.specs.Prelude.{◌≡◌, ℕ, ◌-◌, Bool, Option, None, Result, Ok, Err, List}
use Rattle.pal8_grammar.specs.SourceNames.{names_of}
use Rattle.pal8_grammar.specs.declared.bodies.Body.{Body}
use Rattle.pal8_places.specs.Passing.{open_of, standing}
use Rattle.pal8_places.specs.Places.{Standing, spot_at}
use Rattle.pal8_places.specs.declared.faults.Stop.{Stop}
use Rattle.pal8_places.specs.declared.faults.Stop.TheVariants.{At, Memory}
use Rattle.pal8_asm.specs.Sources.{Entry, Remainder, Statement, at_place, end_of, place_of, with_entries, with_late_entry, with_selected, words_in}
use Rattle.pal8_asm.specs.declared.faults.Fault.{Fault}
use Rattle.pal8_asm.specs.declared.faults.Place.{Place}
use Rattle.pal8_asm.specs.declared.pushing.Statement as shown
use Rattle.pal8_asm.specs.declared.walks.Walk.{Walk}

-- a statement that a lexer shows, which the byte at this place ends
abbrev pub statement_in : ℕ → shown.Statement → Statement
statement_in at s = record { line = s.line; at = at; tokens = s.tokens.now; string = s.string.now; is_cut = s.is_cut; end = s.end }

abbrev pub standing_of : Walk → Standing
standing_of walk = standing walk.names walk.position

-- what statements leave that were walked over, with these entries
abbrev pub remainder_after : Walk → List Entry → Option Place → Remainder
remainder_after walk entries end = record { standing = standing_of walk; entries = entries; brackets = walk.brackets; end = end }

-- what a statement that is selected leaves to be made after these entries, where a walk stood so before it and after it
abbrev pub entries_with : Statement → Walk → Body → Walk → List Entry → List Entry
entries_with s old body new entries = with_late_entry (place_of s) (spot_at old.position) body new.reader.steps (names_of new.names.table)
    (with_entries (place_of s) (spot_at old.position)
    (words_in old.position.options body (open_of new.names) new.reader.steps s.string (new.position.location - old.position.location)) entries)

-- a statement that is selected is passed, or its fault is answered; or memory ran out
abbrev pub Passes : Statement → Walk → Result Body Stop → Walk → Type 0
Passes s old (Ok body) new = (entries : List Entry) → with_selected s (remainder_after old entries None) ≡ Ok (remainder_after new (entries_with s old body new entries) (end_of s))
Passes s old (Err (At code)) new = (entries : List Entry) → with_selected s (remainder_after old entries None) ≡ Err (at_place (place_of s) code)
Passes s old (Err Memory) new = Unit {0}
