-- Names of letters and digits are listed as in a script.
use Rattle.std.proofs.Common.{◌≡◌, ◌∙◌, ℕ, Some, List, [], ◌∷◌, ◌++◌, decimal, refl, sym, ap}
use Rattle.os8_dir.specs.Names.{parsed_name}
use Rattle.name_spelling.specs.Laws.{PlainAreAsTyped}
use Rattle.refusals.specs.Listed.{file_lines}
use Rattle.refusals.specs.Shown.{name_text}
use Rattle.archive_files.specs.AskLaws.{ArePlain}
use Rattle.archive_files.specs.Listing.{listed_lines}

pub listed_direct : PlainAreAsTyped → ((text : List ℕ) (name : ℕ) → parsed_name text ≡ Some name → name_text name ≡ text) → (files : List (ℕ × ℕ)) → ArePlain files → listed_lines files ≡ file_lines files
listed_direct spelled shown [] each = refl
listed_direct spelled shown ((name, size) ∷ files) each =
    ap (λ l. (l ++ 32 ∷ decimal size ++ 10 ∷ []) ++ listed_lines files) (spelled each.0.0 name each.0.1 ∙ sym (shown each.0.0 name each.0.1))
    ∙ ap (λ l. (name_text name ++ 32 ∷ decimal size ++ 10 ∷ []) ++ l) (listed_direct spelled shown files each.1)
