-- Images that are passed over (this project's profile).
use Rattle.std.specs.Prelude.{◌≡◌, ℕ, true, codes, decimal, Option, Some, None, Result, Ok, Err, List, [], ◌∷◌, ◌++◌}
use Rattle.shown_text.specs.Showing.{shown_text}
use Rattle.hosts.specs.Event.{Event}
use Rattle.program_reports.specs.Program.{program_line}
use Rattle.program_reports.specs.Prefixes.{with_prefixes}
use Rattle.outcome.specs.declared.endings.Ending.{Ending}
use Rattle.outcome.specs.declared.endings.Ending.TheVariants as ending
use Rattle.image_files.specs.Ending.{TellsLine}
use Rattle.image_files.specs.Work.{Then, Purely, Lacks}
use Rattle.index_commands.specs.declared.found.Found.{Found}
use Rattle.index_commands.specs.Found.{IsFound}

-- the number of a volume of a disk after the name of its image
abbrev pub number_text : Option ℕ → List ℕ
number_text None = []
number_text (Some number) = 0o72 ∷ decimal number

-- what stands before the line of a refusal: the name as it is shown
abbrev pub prefix_of : List ℕ → Option ℕ → List ℕ
prefix_of name number = shown_text name ++ number_text number ++ codes ": "

-- A volume is refused with a line, which standard error gets with the volume's name before it; the work goes on. Want of memory, and what else
-- is no refusal, ends it.
abbrev pub PassesOver : List ℕ → Option ℕ → Ending → List Event → Result (Unit {0}) Ending → List Event → Type 0
PassesOver name number (ending.Line line) old (Ok it) new = TellsLine (with_prefixes (prefix_of name number) (program_line line)) old new
PassesOver name number (ending.Line line) old (Err ended) new = Lacks old ended new
PassesOver name number other old (Ok it) new = ⊥
PassesOver name number other old (Err ended) new = (ended ≡ other) × (new ≡ old)

-- it is counted, and the lines that wait stay
abbrev pub RefusesVolume : List ℕ → Option ℕ → Ending → List ℕ → List Event → Result Found Ending → List Event → Type 0
RefusesVolume name number ending kept = Then (PassesOver name number ending) (λ it. Purely (IsFound true kept))
