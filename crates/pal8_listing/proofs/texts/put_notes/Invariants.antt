use Rattle.std.proofs.Common.{◌≡◌, ◌++◌, length}
use Rattle.pal8_listing.specs.NotesTexts.{note_texts}
use Rattle.pal8_listing.proofs.texts.put_notes.Given as goal

abbrev pub invariant-loop-rest : goal.invariant-loop-rest
invariant-loop-rest l = l.text.items ++ note_texts l.names l.starts l.rest ≡ l.initial.text.items ++ note_texts l.names l.starts l.found

abbrev pub decreases-loop-rest : goal.decreases-loop-rest
decreases-loop-rest l = length l.rest
