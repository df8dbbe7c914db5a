-- What the small steps of making a statement harmless do, for private clauses.
use Rattle.std.specs.Prelude.{◌≡◌, ℕ, nat_eq, nat_lt, nat_le, Bool, true, false, ◌||◌, if◌then◌else◌, Option, Some, None, suc, List, [], ◌∷◌, ◌++◌}
use Rattle.std.specs.Option.{option_or}
use Rattle.std.specs.Global.{Vec}
use Rattle.pal_lex.specs.Text.{text_of}
use Rattle.source_places.specs.declared.places.Place.{Place}
use Rattle.host_sources.specs.Places.{shortest, is_refused}
use Rattle.host_sources.specs.Mending.{turns, harmless}
use Rattle.host_sources.specs.Lexical.{goes_on, lexical_further}
use Rattle.host_sources.specs.declared.faults.Fault.{Fault}

abbrev pub comma_by : Option ℕ → Bool → Bool → Bool → ℕ → Option ℕ
comma_by comma dead end is_comma place = if dead then comma else (if end then None else option_or comma (if is_comma then Some place else None))

abbrev pub erased_byte : ℕ → ℕ → ℕ → ℕ → ℕ
erased_byte from end at b = if nat_lt at from || nat_le end at then b else (if nat_eq at from then 0o60 else 0o40)

-- a text is made harmless, unless its statement with the fault has a word that says how what follows is read
abbrev pub Mends : List ℕ → Option (Vec ℕ) → Type 0
Mends text None = turns (shortest is_refused text) ≡ true
Mends text (Some next) = (turns (shortest is_refused text) ≡ false) × (text_of next.items ≡ harmless text)

-- the text in which the next fault is looked for, if it is
abbrev pub GoesOn : List ℕ → Option (Vec ℕ) → Type 0
GoesOn text None = goes_on text ≡ false
GoesOn text (Some next) = (goes_on text ≡ true) × (text_of next.items ≡ harmless text)

-- one fault more was found, and further ones are looked for in a new text, or none is
abbrev pub Advances : (ℕ → Place) → List ℕ → List ℕ → List Fault → List Fault → Bool → Type 0
Advances place text new_text faults new true =
    (n : ℕ) → new ++ lexical_further place n new_text ≡ faults ++ lexical_further place (suc n) text
Advances place text new_text faults new false = (n : ℕ) → new ≡ faults ++ lexical_further place (suc n) text

-- a fault was put after others, if there is one
abbrev pub PutsFault : Option Fault → List Fault → List Fault → Bool → Type 0
PutsFault found faults new true = (fault : Fault) × (found ≡ Some fault) × (new ≡ faults ++ fault ∷ [])
PutsFault found faults new false = (found ≡ None) × (new ≡ faults)
