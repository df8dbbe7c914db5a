-- What holds of joins.
use Rattle.std.specs.Prelude.{◌≡◌, ℕ, Option, Some, None, Ok, Err, List, [], ◌∷◌, ◌++◌}
use Rattle.pal8_lex.specs.declared.rules.End.{End}
use Rattle.pal8_places.specs.declared.options.Options.{Options}
use Rattle.pal8_asm.specs.Sources.{PassResult, Remainder, statements}
use Rattle.pal8_tape.specs.Joins.{counts_of, first_pause, joined_bytes, part, pass_on, remainder_after}

-- one source is the join of itself
abbrev pub OneIsItself : Type 0
OneIsItself = (options : Options) (source : List ℕ) → (joined_bytes options (source ∷ []) ≡ source) × (counts_of options (source ∷ []) ≡ [])

-- What stands after PAUSE doesn't matter: whatever follows, as much of the text is joined, and the next one goes on after the same.
abbrev pub RestIsNotRead : Type 0
RestIsNotRead =
    (left : PassResult) (text later others : List ℕ) (at : List ℕ × End) → first_pause left text ≡ Some at
    → (part left (later ++ text) ≡ part left (others ++ text)) × (remainder_after left (later ++ text) ≡ remainder_after left (others ++ text))

-- what is left, if there was no fault
abbrev pub if_fine : PassResult → Option Remainder
if_fine (Err fault) = None
if_fine (Ok left) = Some left

-- The next text goes on after what the statements leave that are joined: as much of the text is read as is joined.
abbrev pub PartIsRead : Type 0
PartIsRead = (left : PassResult) (text : List ℕ) → if_fine (pass_on left (statements (part left text))) ≡ if_fine (remainder_after left text)
