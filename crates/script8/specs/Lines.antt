-- What the lines of a script say (this project's profile).
use Rattle.std.specs.Prelude.{◌≡◌, ◌⊎◌, ℕ, ◌+◌, ◌-◌, ◌*◌, codes, ◌==◌, ◌&&◌, nat_le, nat_lt, if◌then◌else◌, Bool, true, false, Option, Some, None, option_map, List, [], ◌∷◌, length, Result, Ok, Err}
use Rattle.std.specs.List.{list_all}
use Rattle.std.specs.Str.{bytes_eq}
use Rattle.word12.specs.Octal.{octal_of}
use Rattle.word12.specs.declared.sizes.TheConstants.{MOST_SOURCES}
use Rattle.script8.specs.declared.entries.Entry.{Entry}
use Rattle.script8.specs.declared.entries.Entry.TheVariants as entry
use Rattle.script8.specs.declared.entries.FileEntry.{FileEntry}
use Rattle.script8.specs.declared.entries.FileEntry.TheVariants as files
use Rattle.script8.specs.declared.entries.JobEntry.{JobEntry}
use Rattle.script8.specs.declared.entries.JobEntry.TheVariants as job
use Rattle.script8.specs.declared.entries.ConsoleEntry.{ConsoleEntry}
use Rattle.script8.specs.declared.entries.ConsoleEntry.TheVariants as console
use Rattle.refusals.specs.declared.faults.SessionFault.{SessionFault}
use Rattle.refusals.specs.declared.faults.SessionFault.TheVariants.{BadLine, Memory}
use Rattle.script8.specs.declared.lines.Line.{Line}
use Rattle.script8.specs.declared.lines.Line.TheVariants.{Empty, Finish, Store, Whole}

-- a line without the one CR that may stand at its end
abbrev pub command_of : List ℕ → List ℕ
command_of [] = []
command_of (b ∷ []) = if b == 0o15 then [] else b ∷ []
command_of (b ∷ c ∷ bs) = b ∷ command_of (c ∷ bs)

-- a byte before the first of some words or lines
abbrev pub onto_first : ℕ → List (List ℕ) → List (List ℕ)
onto_first b [] = (b ∷ []) ∷ []
onto_first b (word ∷ words) = (b ∷ word) ∷ words

-- the parts of a text: what stands between its marks, which may be nothing
abbrev pub parts_of : ℕ → List ℕ → List (List ℕ)
parts_of mark [] = [] ∷ []
parts_of mark (b ∷ bs) = if b == mark then [] ∷ parts_of mark bs else onto_first b (parts_of mark bs)

-- the words of a command: what stands between its blanks
abbrev pub words_of : List ℕ → List (List ℕ)
words_of command = parts_of 0o40 command

-- the number that decimal digits go on to
abbrev pub digits_from : ℕ → List ℕ → Option ℕ
digits_from n [] = Some n
digits_from n (b ∷ bs) = if nat_le 0o60 b && nat_lt b 0o72 then digits_from (10 * n + (b - 0o60)) bs else None

-- a decimal number of 1 to 7 digits
abbrev pub number_of : List ℕ → Option ℕ
number_of [] = None
number_of (b ∷ bs) = if nat_le (length bs) 6 then digits_from 0 (b ∷ bs) else None

-- a number, where it is within limits
abbrev pub within : ℕ → ℕ → Option ℕ → Option ℕ
within least most None = None
within least most (Some n) = if nat_le least n && nat_le n most then Some n else None

-- the most steps of an entry
abbrev pub step_limit : ℕ
step_limit = 1000000

-- a number of steps
abbrev pub steps_of : List ℕ → Option ℕ
steps_of word = within 1 step_limit (number_of word)

-- an entry that makes steps may be asked for so many
abbrev pub are_steps : ℕ → Bool
are_steps n = nat_le 1 n && nat_le n step_limit

-- a cell: one octal digit of field, and four of address
abbrev pub cell_of : List ℕ → Option ℕ
cell_of word = octal_of 5 word

-- a character: three octal digits, up to 377
abbrev pub character_of : List ℕ → Option ℕ
character_of word = within 0 255 (octal_of 3 word)

-- whether a break is set: ON or OFF
abbrev pub setting_of : List ℕ → Option Bool
setting_of word =
    if bytes_eq word (codes "ON") then Some true else
    (if bytes_eq word (codes "OFF") then Some false else None)

-- an entry of two operands, where they are there
abbrev pub of_two : {A B E : Type 0} → (A → B → E) → Option A → Option B → Option E
of_two entry None b = None
of_two entry (Some a) None = None
of_two entry (Some a) (Some b) = Some (entry a b)

-- the entries of the console: those of one word
abbrev pub bare_console : List ℕ → Option ConsoleEntry
bare_console verb =
    if bytes_eq verb (codes "DONE") then Some console.Done else
    (if bytes_eq verb (codes "REGISTERS") then Some console.Registers else
    (if bytes_eq verb (codes "PRINTED") then Some console.Printed else None))

-- those of two words
abbrev pub console_with_word : List ℕ → List ℕ → Option ConsoleEntry
console_with_word verb word =
    if bytes_eq verb (codes "START") then option_map console.Start (cell_of word) else
    (if bytes_eq verb (codes "STEP") then option_map console.Step (steps_of word) else
    (if bytes_eq verb (codes "GO") then option_map console.Go (steps_of word) else
    (if bytes_eq verb (codes "KEY") then option_map console.Key (character_of word) else
    (if bytes_eq verb (codes "SWITCHES") then option_map console.Switches (octal_of 4 word) else
    (if bytes_eq verb (codes "EXAMINE") then option_map console.Examine (cell_of word) else None)))))

-- and those of three
abbrev pub console_with_words : List ℕ → List ℕ → List ℕ → Option ConsoleEntry
console_with_words verb first second =
    if bytes_eq verb (codes "RUN") then of_two console.Run (cell_of first) (steps_of second) else
    (if bytes_eq verb (codes "DEPOSIT") then of_two console.Deposit (cell_of first) (octal_of 4 second) else
    (if bytes_eq verb (codes "BREAK") then of_two console.Break (cell_of first) (setting_of second)
    else None))

-- an entry of the console
abbrev pub at_console : Option ConsoleEntry → Option Entry
at_console it = option_map entry.Console it

-- the entries of one word
abbrev pub bare_entry : List ℕ → Option Entry
bare_entry verb =
    if bytes_eq verb (codes "DIRECT") then Some (entry.Files files.Direct) else
    (if bytes_eq verb (codes "SQUEEZE") then Some (entry.Jobs job.Squeeze)
    else at_console (bare_console verb))

-- the entries of two words, but those with names
abbrev pub entry_with_word : List ℕ → List ℕ → Option Entry
entry_with_word verb word =
    if bytes_eq verb (codes "TURN") then option_map (λ number. entry.Jobs (job.Turn number)) (number_of word)
    else at_console (console_with_word verb word)

-- what an entry of one line says
abbrev pub whole : Option Entry → Result Line SessionFault
whole None = Err BadLine
whole (Some entry) = Ok (Whole entry)

-- the bytes of a name: one or more
abbrev pub name_bytes : List ℕ → Result (List ℕ) SessionFault
name_bytes [] = Err BadLine
name_bytes (b ∷ bs) = Ok (b ∷ bs)

-- an entry of a name, as `DELETE` and `LOAD`
abbrev pub line_of_name : (List ℕ → Entry) → Result (List ℕ) SessionFault → Result Line SessionFault
line_of_name entry (Err fault) = Err fault
line_of_name entry (Ok name) = Ok (Whole (entry name))

-- `STORE` of a name and of so many lines, at most 999,999
abbrev pub store_of : Result (List ℕ) SessionFault → Option ℕ → Result Line SessionFault
store_of name None = Err BadLine
store_of (Err fault) (Some lines) = Err fault
store_of (Ok name) (Some lines) = Ok (Store name lines)

-- a part that is a name: one or more bytes
abbrev pub is_name : List ℕ → Bool
is_name [] = false
is_name (b ∷ bs) = true

-- what stands between the commas of a list
abbrev pub parts_of_list : List ℕ → List (List ℕ)
parts_of_list list = parts_of 0o54 list

-- a list of names, of so many at most
abbrev pub lists_names : ℕ → List ℕ → Bool
lists_names most list = list_all is_name (parts_of_list list) && nat_le (length (parts_of_list list)) most

-- `ASSEMBLE` of one target and of 1 to 8 sources, which are between commas
abbrev pub target_and_sources : List ℕ → List ℕ → Option Entry
target_and_sources to from =
    if lists_names 1 to && lists_names MOST_SOURCES from then Some (entry.Jobs (job.Assemble to (parts_of_list from))) else None

-- the parts of an `ASSEMBLE`: a target and its sources
abbrev pub assemble_entry : List (List ℕ) → Option Entry
assemble_entry [] = None
assemble_entry (to ∷ []) = None
assemble_entry (to ∷ from ∷ []) = target_and_sources to from
assemble_entry (to ∷ from ∷ other ∷ others) = None

-- `ASSEMBLE` of what stands around one `<`
abbrev pub assemble_of : List ℕ → Option Entry
assemble_of word = assemble_entry (parts_of 60 word)

-- what a command of one word says
abbrev pub bare : List ℕ → Result Line SessionFault
bare verb = if bytes_eq verb (codes "FINISH") then Ok Finish else whole (bare_entry verb)

-- `DELETE` and `LOAD` of a name
abbrev pub delete : List ℕ → Entry
delete name = entry.Files (files.Delete name)

abbrev pub load : List ℕ → Entry
load name = entry.Jobs (job.Load name)

-- what a command of two words says
abbrev pub with_word : List ℕ → List ℕ → Result Line SessionFault
with_word verb word =
    if bytes_eq verb (codes "DELETE") then line_of_name delete (name_bytes word) else
    (if bytes_eq verb (codes "LOAD") then line_of_name load (name_bytes word) else
    (if bytes_eq verb (codes "ASSEMBLE") then whole (assemble_of word)
    else whole (entry_with_word verb word)))

-- what a command of three words says
abbrev pub with_words : List ℕ → List ℕ → List ℕ → Result Line SessionFault
with_words verb first second =
    if bytes_eq verb (codes "STORE") then store_of (name_bytes first) (within 0 999999 (number_of second))
    else whole (at_console (console_with_words verb first second))

-- what the words of a command say, or that they have none of the forms
abbrev pub form_of : List (List ℕ) → Result Line SessionFault
form_of [] = Err BadLine
form_of (verb ∷ []) = bare verb
form_of (verb ∷ word ∷ []) = with_word verb word
form_of (verb ∷ first ∷ second ∷ []) = with_words verb first second
form_of (verb ∷ first ∷ second ∷ third ∷ words) = Err BadLine

-- what a command says; one of no byte says nothing
abbrev pub command_says : List ℕ → Result Line SessionFault
command_says [] = Ok Empty
command_says (b ∷ bs) = form_of (words_of (b ∷ bs))

-- what a line says
unfoldable pub says : List ℕ → Result Line SessionFault
says line = command_says (command_of line)

-- the names of an entry of one line are kept
abbrev pub KeepsNameOfFile : FileEntry → Type 0
KeepsNameOfFile (files.Store name text) = ⊥
KeepsNameOfFile (files.Delete name) = Unit {0}
KeepsNameOfFile files.Direct = ⊥

abbrev pub KeepsNamesOfJob : JobEntry → Type 0
KeepsNamesOfJob (job.Assemble to from) = Unit {0}
KeepsNamesOfJob (job.Load name) = Unit {0}
KeepsNamesOfJob job.Squeeze = ⊥
KeepsNamesOfJob (job.Turn number) = ⊥

abbrev pub KeepsNames : Entry → Type 0
KeepsNames (entry.Files it) = KeepsNameOfFile it
KeepsNames (entry.Jobs it) = KeepsNamesOfJob it
KeepsNames (entry.Console it) = ⊥

-- a line of a STORE, a DELETE, a LOAD or an ASSEMBLE: its names are kept
abbrev pub HasName : Result Line SessionFault → Type 0
HasName (Ok Empty) = ⊥
HasName (Ok Finish) = ⊥
HasName (Ok (Store name lines)) = Unit {0}
HasName (Ok (Whole it)) = KeepsNames it
HasName (Err fault) = ⊥

-- What a line says is answered. Where it has a name, memory for it may be refused.
abbrev pub Parses : Result Line SessionFault → Result Line SessionFault → Type 0
Parses meaning result = (result ≡ meaning) ⊎ ((result ≡ Err Memory) × HasName meaning)
