use Rattle.std.proofs.Common.{◌≡◌, Ok, List, ℕ, length}
use Rattle.pal_lex.specs.Text.{text_from, text_of}
use Rattle.pal8_asm.specs.Sources.{first_left}
use Rattle.pal8_listing.specs.ItemSteps.{HasLooked}
use Rattle.pal8_listing.specs.Notes.{notes_read}
use Rattle.pal8_listing.proofs.notes.notes_of.Given as goal

-- these bytes are met
abbrev pub invariant-loop-rest : goal.invariant-loop-rest
invariant-loop-rest l =
    (here : List ℕ) × ((text_from here l.rest ≡ text_of l.text) × HasLooked notes_read (Ok (first_left l.fn.options)) here l.found.items l.lexer l.pass)

abbrev pub decreases-loop-rest : goal.decreases-loop-rest
decreases-loop-rest l = length l.rest
