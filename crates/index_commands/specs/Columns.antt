-- How the lines of an index are printed, and its columns at a terminal (this project's profile).
use Rattle.std.specs.Prelude.{◌≡◌, ◌⊎◌, ℕ, ◌+◌, ◌-◌, Bool, not, ◌&&◌, if◌then◌else◌, Result, Ok, Err, List, [], ◌∷◌, length}
use Rattle.hosts.specs.Event.{Event, terminal_call}
use Rattle.refusals.specs.declared.faults.SessionFault.TheVariants.{Memory}
use Rattle.outcome.specs.declared.endings.Ending.{Ending}
use Rattle.outcome.specs.declared.endings.Ending.TheVariants.{Fault}
use Rattle.volume_index.specs.Json.{json_lines}
use Rattle.image_files.specs.Work.{Lacks}
use Rattle.image_files.specs.Saving.{Prints}
use Rattle.index_commands.specs.TextColumns.{with_columns}
use Rattle.index_commands.specs.declared.columns.Columns.{Columns}
use Rattle.index_commands.specs.declared.columns.LineShape.{LineShape}

-- the larger of two
abbrev pub larger : ℕ → ℕ → ℕ
larger a b = a + (b - a)

-- how many bytes the longest of some names has
abbrev pub longest : List (List ℕ) → ℕ
longest [] = 0
longest (name ∷ names) = larger (length name) (longest names)

-- how wide the columns are: those of the image, its volume, a block, a length, a name, a date, and what a file holds
abbrev pub widths_of : List (List ℕ) → List ℕ
widths_of names = longest names ∷ 1 ∷ 4 ∷ 4 ∷ 9 ∷ 10 ∷ 10 ∷ []

-- Whether standard output is a terminal is asked. There columns line up, but for lines that are objects.
abbrev pub ChoosesColumns : LineShape → List (List ℕ) → List Event → Result Columns Ending → List Event → Type 0
ChoosesColumns shape names old (Ok columns) new =
    (is_terminal : Bool) × (new ≡ terminal_call is_terminal 1 ∷ old) × (columns.shape ≡ shape) × (columns.are_aligned ≡ (is_terminal && not shape.is_json)) × (columns.widths.items ≡ widths_of names)
ChoosesColumns shape names old (Err ending) new = (is_terminal : Bool) × (new ≡ terminal_call is_terminal 1 ∷ old) × (ending ≡ Fault Memory)

-- lines as they are printed
abbrev pub lines_in : Columns → List ℕ → List ℕ
lines_in columns lines = if columns.shape.is_json then json_lines lines else if columns.are_aligned then with_columns columns.widths.items lines else lines

-- lines are printed so; or there is no memory for them
abbrev pub Shows : Columns → List ℕ → List Event → Result (Unit {0}) Ending → List Event → Type 0
Shows columns lines old (Ok it) new = Prints (lines_in columns lines) old (Ok it) new
Shows columns lines old (Err ending) new = Prints (lines_in columns lines) old (Err ending) new ⊎ Lacks old ending new
