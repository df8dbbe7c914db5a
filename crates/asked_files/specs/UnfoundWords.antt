-- The lines of the words of a command that ask for no file.
use Rattle.std.specs.Prelude.{ℕ, Option, None, Some, List, [], ◌++◌, codes, slice_get}
use Rattle.shown_text.specs.Showing.{shown_text}
use Rattle.os8_dir.specs.declared.file_faults.FileFault.{FileFault}
use Rattle.os8_dir.specs.declared.file_faults.FileFault.TheVariants.{BadName, NotFound}
use Rattle.refusals.specs.Faults.{fault_line}
use Rattle.refusals.specs.declared.faults.SessionFault.TheVariants.{File}
use Rattle.archive_many.specs.declared.wishes.Wish.{Wish}
use Rattle.archive_many.specs.declared.wishes.Wish.TheVariants as wish
use Rattle.program_reports.specs.Prefixes.{with_prefixes}

-- the line of a word that is refused: the word as it is shown, and why
abbrev pub refusal_of : Option (List ℕ) → FileFault → List ℕ
refusal_of None why = []
refusal_of (Some word) why = with_prefixes (shown_text word ++ codes ": ") (fault_line (File why))

abbrev pub refusal_for : List (List ℕ) → Wish → List ℕ
refusal_for words (wish.File file) = []
refusal_for words (wish.Block block) = []
refusal_for words (wish.BadWord place) = refusal_of (slice_get words place) BadName
refusal_for words (wish.NotFound place) = refusal_of (slice_get words place) NotFound
