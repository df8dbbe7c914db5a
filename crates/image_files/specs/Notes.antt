-- Notes that are printed on standard error.
use Rattle.std.specs.Prelude.{◌≡◌, Bool, Option, None, Some, List, ◌∷◌}
use Rattle.hosts.specs.Event.{Event, tell_call}
use Rattle.outcome.specs.Hints.{image_text}
use Rattle.outcome.specs.Notes.{plain_text}
use Rattle.outcome.specs.declared.hints.ImageNote.{ImageNote}
use Rattle.outcome.specs.declared.notes.PlainNote.{PlainNote}

-- a note is printed, if there is one
abbrev pub Tells : Option PlainNote → List Event → List Event → Type 0
Tells None old new = new ≡ old
Tells (Some note) old new = (ok : Bool) × (new ≡ tell_call ok (plain_text note) ∷ old)

-- the same of a note on an image
abbrev pub TellsOfImage : Option ImageNote → List Event → List Event → Type 0
TellsOfImage None old new = new ≡ old
TellsOfImage (Some note) old new = (ok : Bool) × (new ≡ tell_call ok (image_text note) ∷ old)
