-- Where the fault of sources is: its source, line and column (this project's profile of PAL III).
use Rattle.std.specs.Prelude.{ℕ, Bool, ◌||◌, if◌then◌else◌, is_some, List, [], ◌∷◌}
use Rattle.std.specs.Borrow.{Bor}
use Rattle.pal_lex.specs.Text.{is_over}
use Rattle.pal_lex.specs.Statements.{statements}
use Rattle.pal_asm.specs.Expressions.{Meanings}
use Rattle.pal_asm.specs.Faults.{first_order, words_fault}
use Rattle.source_places.specs.Places.{place_in, place_by}
use Rattle.source_places.specs.declared.places.Place.{Place}
use Rattle.host_sources.specs.Sources.{texts_of, counts_of}

-- ## By the byte from 0

-- the shortest beginning of a text of which this holds, or the text
abbrev pub shortest : (List ℕ → Bool) → List ℕ → List ℕ
shortest holds [] = []
shortest holds (b ∷ older) = if holds older then shortest holds older else b ∷ older

-- a statement of a text has a fault of the first order
abbrev pub is_refused : List ℕ → Bool
is_refused text = is_some (first_order (statements text))

-- a word of a text has a fault, where names stand for these values at last, or the text has its `$`
abbrev pub is_settled : Meanings → List ℕ → Bool
is_settled last text = is_some (words_fault last (statements text)) || is_over text

-- ## By source, line and column

-- the place of a byte of the join of sources
abbrev pub place_at_byte : List (Bor (List ℕ)) → ℕ → Place
place_at_byte sources at = place_by sources (place_in (counts_of (texts_of sources)) at)
