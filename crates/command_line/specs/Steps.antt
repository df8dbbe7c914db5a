-- What the parts of the command line are and do, for private clauses.
use Rattle.std.specs.Prelude.{◌≡◌, ⊤, ◌≤◌, Bool, true, false, length, List, [], ◌∷◌, Option, Some, None, Result, Ok, Err}
use Rattle.clap.specs.Words.{Row, Text}
use Rattle.program_tasks.specs.declared.tasks.Task.{Task}
use Rattle.command_refusals.specs.declared.faults.TaskFault.{TaskFault}
use Rattle.command_refusals.specs.declared.faults.TaskFault.TheVariants as fault
use Rattle.command_table.specs.declared.table.Verb.{Verb}
use Rattle.command_table.specs.Found.{form_of, values_of}
use Rattle.command_refusals.specs.Refusals.{bad_block, missing_of, names_input_twice}
use Rattle.command_table.specs.Tables.{Argument, Entry, entry_named, rows_for}
use Rattle.command_line.specs.Tasks.{Asks, AsksFor, HasFitBlocks, Refuses}
use Rattle.command_table.specs.Values.{Has, IsFirst, IsTaken, IsWell}

-- ## What the arguments have

abbrev pub HasWhere : Bool → Text → List Row → Type 0
HasWhere true id values = Has id values
HasWhere false id values = ⊤

-- one that must be given has at least one value
abbrev pub HasSomeWhere : Bool → Text → List Row → Type 0
HasSomeWhere true id values = 1 ≤ length (values_of id values)
HasSomeWhere false id values = ⊤

-- the arguments have what the table says of them
abbrev pub Holds : Argument → List Row → Type 0
Holds row values = HasWhere row.is_required row.id values × HasSomeWhere row.is_required row.id values × IsTaken row.kind row.id values

abbrev pub AllHold : List Argument → List Row → Type 0
AllHold [] values = ⊤
AllHold (row ∷ rows) values = Holds row values × AllHold rows values

abbrev pub AllWell : List Argument → List Row → Type 0
AllWell [] values = ⊤
AllWell (row ∷ rows) values = IsWell (form_of row.kind) row.id values × IsFirst (form_of row.kind) row.id values × AllWell rows values

-- ## The parts of `task`

abbrev pub GivesMet : Option (Text × List Row) → Result Task TaskFault → Type 0
GivesMet met (Ok task) = Asks met task × HasFitBlocks task
GivesMet met (Err (fault.Words error)) = ⊥
GivesMet met (Err fault.Memory) = ⊤
GivesMet met (Err (fault.Refused line refusal)) = Refuses met line.now refusal

abbrev pub Gives : Text → List Row → Result Task TaskFault → Type 0
Gives name values result = GivesMet (Some (name, values)) result

abbrev pub IsAskedBy : Verb → List Row → Task → Type 0
IsAskedBy which values task = AsksFor which values task × HasFitBlocks task

-- the subcommand has what its arguments say, each value is of its kind, nothing is missing, standard input stands once, and the numbers of
-- blocks are some
abbrev pub Needs : Verb → List Row → Type 0
Needs which values = AllHold (rows_for which) values × AllWell (rows_for which) values × (missing_of which values ≡ None)
    × (names_input_twice values ≡ false) × (bad_block values ≡ None)

abbrev pub IsWhole : Text → List Row → Type 0
IsWhole name values = (entry : Entry) × (entry_named name ≡ Some entry) × AllHold (rows_for entry.verb) values

abbrev pub HasMet : Option (Text × List Row) → Type 0
HasMet None = ⊥
HasMet (Some met) = IsWhole met.0 met.1
