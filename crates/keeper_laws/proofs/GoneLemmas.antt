-- What words took out of a volume.
use Rattle.std.proofs.Common.{◌≡◌, ◌∙◌, ℕ, Bool, true, false, None, Ok, List, [], ap, map, subst}
use Rattle.name_spelling.specs.Patterns.{has_pattern}
use Rattle.archive_files.specs.Asking.{Target}
use Rattle.archive_files.specs.Deleting.{DeletesFiles}
use Rattle.archive_files.specs.declared.deleting.DeletedImage.{DeletedImage}
use Rattle.archive_many.specs.Laws.{LikeAreGone}
use Rattle.archive_many.specs.Opened.{files_on}
use Rattle.archive_many.specs.Wishing.{by_place, first_unfound, found_files, wishes_of}
use Rattle.program_tasks.specs.declared.forms.DeleteForm.{DeleteForm}
use Rattle.change_commands.specs.Choosing.{words_in}
use Rattle.keeper_laws.specs.Changes.{AreFound, AreMeant, DeletesMeant, IsWithout}

pub words-gone : LikeAreGone → (form : DeleteForm) (image : List ℕ) (made : DeletedImage) → form.places.items ≡ [] → has_pattern (words_in form) ≡ true → DeletesMeant form image made
    → IsWithout (words_in form) image made.bytes.items
words-gone law form image made none pattern (files, meant, deletes) =
    let found : AreFound form image files = subst (λ (is : Bool). AreMeant is form image files) pattern meant in
    let all : first_unfound (wishes_of (files_on found.blocks) false (words_in form) []) ≡ None =
    subst (λ (places : List ℕ). first_unfound (wishes_of (files_on found.blocks) false (words_in form) places) ≡ None) none found.all in
    let are : files ≡ map by_place (found_files (wishes_of (files_on found.blocks) false (words_in form) [])) =
    found.are ∙ ap (λ (places : List ℕ). map by_place (found_files (wishes_of (files_on found.blocks) false (words_in form) places))) none in
    let has = law image found.blocks (words_in form) made found.opens all (subst (λ (wanted : List Target). DeletesFiles image wanted (Ok made)) are deletes) in
    record { blocks = found.blocks; opened = found.opens; after = has.0; is_image = has.1; files = has.2 }
