-- What an index has so far: whether a volume is refused, and the lines that wait until all are known (this project's profile).
use Rattle.std.specs.Prelude.{◌≡◌, Bool, true, false, not, ℕ, Result, Ok, Err, List, ◌++◌}
use Rattle.std.specs.Global.{Vec}
use Rattle.hosts.specs.Event.{Event}
use Rattle.refusals.specs.declared.faults.SessionFault.TheVariants.{Memory}
use Rattle.outcome.specs.declared.endings.Ending.{Ending}
use Rattle.outcome.specs.declared.endings.Ending.TheVariants.{Fault}
use Rattle.volume_index.specs.Same.{IsSame}
use Rattle.image_files.specs.Work.{After, Then, Purely}
use Rattle.index_commands.specs.declared.columns.Columns.{Columns}
use Rattle.index_commands.specs.declared.found.Found.{Found}
use Rattle.index_commands.specs.Columns.{Shows}

-- this is found, and nothing ends the command
abbrev pub IsFound : Bool → List ℕ → Result Found Ending → Type 0
IsFound is_refused kept (Ok found) = (found.is_refused ≡ is_refused) × (found.lines.items ≡ kept)
IsFound is_refused kept (Err ending) = ⊥

-- lines wait after others, unless memory is wanted
abbrev pub KeepsLines : Bool → List ℕ → List ℕ → Result Found Ending → Type 0
KeepsLines is_refused kept lines (Ok found) = IsFound is_refused (kept ++ lines) (Ok found)
KeepsLines is_refused kept lines (Err ending) = ending ≡ Fault Memory

-- the lines of a volume wait where those of equal files are wanted, else they are printed
abbrev pub TakesLines : Bool → Columns → Bool → List ℕ → List ℕ → List Event → Result Found Ending → List Event → Type 0
TakesLines true columns is_refused kept lines = Purely (KeepsLines is_refused kept lines)
TakesLines false columns is_refused kept lines = Then (After (not is_refused) (Shows columns lines)) (λ it. Purely (IsFound is_refused kept))

-- those of equal files, unless memory is wanted
abbrev pub FindsSame : List ℕ → Result (Vec ℕ) Ending → Type 0
FindsSame lines (Ok same) = IsSame lines same.items
FindsSame lines (Err ending) = ending ≡ Fault Memory

-- just these are printed
abbrev pub ShowsGroups : Columns → List ℕ → List Event → Result (Unit {0}) Ending → List Event → Type 0
ShowsGroups columns lines = Then (Purely (FindsSame lines)) (λ same. Shows columns same.items)

-- where those of equal files are wanted, just these are printed of the lines that waited
abbrev pub ShowsSame : Bool → Columns → List ℕ → List Event → Result (Unit {0}) Ending → List Event → Type 0
ShowsSame true columns lines = ShowsGroups columns lines
ShowsSame false columns lines = Purely (λ result. result ≡ Ok tt)
