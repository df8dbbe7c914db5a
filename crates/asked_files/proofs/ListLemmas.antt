-- Words that are no lists of extensions end a command, and change no file.
use Rattle.std.proofs.Common.{ℕ, Option, None, Some, Ok, Err, List, inl, inr, slice_get}
use Rattle.hosts.specs.Event.{Event}
use Rattle.program_tasks.specs.declared.forms.TextsForm.{TextsForm}
use Rattle.asked_files.specs.Texts.{TakesLists, TellsBadList, lists_of}
use Rattle.image_files.specs.Laws.{ChangesNothing, KeepsFiles}
use Rattle.image_files.proofs.LeaveLemmas.{same, told}

tells-list : (list : Option (List ℕ)) (old new : List Event) → TellsBadList list old new → ChangesNothing old new
tells-list None old new p = same old new p
tells-list (Some list) old new p = told p.0 _ old new p.1

pub lists-never : (texts : TextsForm) → KeepsFiles (TakesLists texts)
lists-never texts old (Ok it) new p = same old new p.1
lists-never texts old (Err ending) new (inl (is, place, first, p)) = tells-list (slice_get (lists_of texts) place) old new p
lists-never texts old (Err ending) new (inr p) = same old new p.1
