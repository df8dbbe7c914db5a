-- What is refused of a command line that `clap` takes: the first that is wrong with it, in this order. First come two arguments that exclude
-- each other, then one that is missing, then standard input named twice, and then an argument too many. Then comes a value that is none of its
-- kind, by the order of the table. The two numbers of `get --blocks` come last.
use Rattle.std.specs.Prelude.{◌+◌, ◌&&◌, ◌||◌, not, Bool, false, if◌then◌else◌, ℕ, nat_eq, nat_lt, codes, is_some, List, [], ◌∷◌, Option, None, Some, option_map, unwrap_or}
use Rattle.std.specs.Str.{bytes_eq}
use Rattle.clap.specs.Words.{Row, Text, first_of}
use Rattle.word12.specs.declared.sizes.TheConstants.{MOST_BLOCKS}
use Rattle.command_refusals.specs.declared.reasons.Refusal.{Refusal}
use Rattle.command_refusals.specs.declared.reasons.Refusal.TheVariants as refusal
use Rattle.command_refusals.specs.declared.reasons.What.{What}
use Rattle.command_refusals.specs.declared.reasons.What.TheVariants as what
use Rattle.command_table.specs.declared.table.Form.{Form}
use Rattle.command_table.specs.declared.table.Form.TheVariants.{Text as a_text, Cell, Octal, Volume, Cpu, Drive, Time, Block, Seconds, Span, Index, Bits, Date, Year}
use Rattle.command_table.specs.declared.table.Kind.{Kind}
use Rattle.command_table.specs.declared.table.Kind.TheVariants as kind
use Rattle.command_table.specs.declared.table.Verb.{Verb}
use Rattle.command_table.specs.declared.table.Verb.TheVariants as verb
use Rattle.program_tasks.specs.Names.{volume_named}
use Rattle.command_table.specs.Found.{first_not, form_of, has, is_set, number_in, values_of, word_at}
use Rattle.command_table.specs.Tables.{Argument, pairs, rows_for}

-- what is said of a refusal
pub data Saying : Type 0 where
  together : Text → Text → Saying
  missing : What → Saying
  input_twice : Saying
  unexpected : Text → Saying
  value : Text → Text → Text → Saying

abbrev pub saying_of : Refusal → Saying
saying_of (refusal.Together one other) = together one.now other.now
saying_of (refusal.Missing what) = missing what
saying_of refusal.InputTwice = input_twice
saying_of (refusal.Unexpected text) = unexpected text.bytes.items
saying_of (refusal.Value shown why text) = value shown.now why.now text.bytes.items

-- ## Arguments that exclude each other

abbrev pub is_given : Text → Kind → List Row → Bool
is_given id kind.Flag values = is_set id values
is_given id other values = has id values

-- what an argument is called, if it was given
abbrev pub title_of : Argument → List Row → Option Text
title_of row values = if is_given row.id row.kind values then Some row.title else None

abbrev pub title_in : List Argument → Text → List Row → Option Text
title_in [] id values = None
title_in (row ∷ rows) id values = if bytes_eq row.id id then title_of row values else title_in rows id values

abbrev pub both_of : Option Text → Option Text → Option (Text × Text)
both_of None other = None
both_of (Some one) None = None
both_of (Some one) (Some other) = Some (one, other)

abbrev pub pair_or : Option (Text × Text) → Option (Text × Text) → Option (Text × Text)
pair_or None rest = rest
pair_or (Some pair) rest = Some pair

-- the first of these pairs of which both were given
abbrev pub first_pair : List (Text × Text) → List Argument → List Row → Option (Text × Text)
first_pair [] rows values = None
first_pair (pair ∷ later) rows values =
    pair_or (both_of (title_in rows pair.0 values) (title_in rows pair.1 values)) (first_pair later rows values)

abbrev pub pair_given : Verb → List Row → Option (Text × Text)
pair_given which values = first_pair pairs (rows_for which) values

-- how many of the names are that of standard input
abbrev pub input_count : List Text → ℕ
input_count [] = 0
input_count (name ∷ names) = (if bytes_eq name (codes "-") then 1 else 0) + input_count names

-- standard input is among these files
abbrev pub names_input : List Text → Bool
names_input names = nat_lt 0 (input_count names)

-- standard input, which has no time of its own, and the option that dates files by theirs
abbrev pub dated_input : List Row → Option (Text × Text)
dated_input values = if is_set (codes "dates") values && names_input (values_of (codes "FILE") values) then Some (codes "-", codes "--dates") else None

abbrev pub both_given : Verb → List Row → Option (Text × Text)
both_given which values = pair_or (pair_given which values) (dated_input values)

-- ## Arguments that are missing

-- an argument has one value, and another none
abbrev pub is_alone : Text → Text → List Row → Bool
is_alone id other values = has id values && not (is_some (word_at id 1 values)) && not (has other values)

-- a file is named
abbrev pub names_some : List Row → Bool
names_some values = is_set (codes "all") values || has (codes "NAME") values || has (codes "at") values

-- the first block and their number, where blocks are got
abbrev pub blocks_word : ℕ → List Row → Text
blocks_word index values = unwrap_or (word_at (codes "NAME") index values) []

-- a pattern, which may stand for several files
abbrev pub has_sign : Text → Bool
has_sign [] = false
has_sign (character ∷ text) = nat_eq character 0o52 || nat_eq character 0o77 || has_sign text

-- one file is named, by no pattern, and nothing is said of several
abbrev pub names_one : List Row → Bool
names_one values = (is_alone (codes "NAME") (codes "at") values || is_alone (codes "at") (codes "NAME") values)
    && not (has_sign (blocks_word 0 values)) && not (is_set (codes "all") values) && not (is_set (codes "force") values)
    && not (has (codes "text-of") values) && not (has (codes "year") values)

-- something is said of files for a folder
abbrev pub says_of_folder : List Row → Bool
says_of_folder values = has (codes "into") values || is_set (codes "force") values || has (codes "text-of") values || has (codes "year") values

-- texts are asked for, and not a tape
abbrev pub asks_texts : List Row → Bool
asks_texts values = is_set (codes "text") values && not (is_set (codes "tape") values) && not (is_set (codes "bin") values)

-- the texts of several files are to be printed: of all, of those that are named, or of those that a pattern fits
abbrev pub prints_texts : List Row → Bool
prints_texts values = asks_texts values && not (says_of_folder values) && not (names_one values)

abbrev pub blocks_missing : List Row → Option What
blocks_missing values =
    if not (has (codes "NAME") values) then Some what.FirstAndCount
    else if not (is_some (word_at (codes "NAME") 1 values)) then Some what.Count
    else None

-- files of the host are put under their own names
abbrev pub puts_many : List Row → Bool
puts_many values = not (has (codes "as") values)

-- of a file and the argument after it, which stands in the place of the name where `--at` gives the file
abbrev pub moved_missing : Text → What → What → List Row → Option What
moved_missing id one both values =
    if not (has (codes "NAME") values) then (if has (codes "at") values then Some one else Some both)
    else if has (codes "at") values || has id values then None else Some one

-- the files are to be copied that a pattern in the place of a name fits
abbrev pub copies_pattern : List Row → Bool
copies_pattern values =
    not (has (codes "to") values) && not (has (codes "at") values) && has (codes "TO") values && has_sign (unwrap_or (first_of (codes "NAME") values) [])

-- of files that are copied, several where it is said which volume gets them
abbrev pub copy_missing : List Row → Option What
copy_missing values =
    if has (codes "to") values then (if has (codes "NAME") values then None else Some what.Name)
    else moved_missing (codes "TO") what.To what.NameAndTo values

-- it is said where a volume lies in its file
abbrev pub says_where : List Row → Bool
says_where values = has (codes "volume") values || is_set (codes "dectape") values || is_set (codes "plain") values

-- of a file of a volume, where it is said where the volume lies
abbrev pub tape_missing : List Row → Option What
tape_missing values =
    if has (codes "NAME") values || not (says_where values) then None
    else if has (codes "TAPE") values then Some what.Name else Some what.TapeAndName

-- a file of a drive is named
abbrev pub names_disk : List Row → Bool
names_disk values = has (codes "rk0") values || has (codes "rk1") values || has (codes "rk2") values || has (codes "rk3") values

-- something is said of the disk of an 8/E
abbrev pub says_of_disk : List Row → Bool
says_of_disk values = names_disk values || has (codes "lock") values || is_set (codes "look") values || has (codes "wait") values || has (codes "disk-time") values || has (codes "seek-time") values

-- something is said of reader, punch, line printer, transfers or clock of an 8/E
abbrev pub says_of_devices : List Row → Bool
says_of_devices values = has (codes "reader") values || has (codes "punch") values || has (codes "printer") values || has (codes "transfers") values || has (codes "clock") values

-- something is said of an 8/E at the console
abbrev pub says_of_console : List Row → Bool
says_of_console values = says_of_disk values || says_of_devices values || has (codes "every") values || is_set (codes "capitals") values

-- the machine is an 8/E
abbrev pub is_8e : Option Text → Bool
is_8e None = false
is_8e (Some name) = bytes_eq name (codes "8e")

-- of the file of a program whose steps are printed or counted, or the machine of which something is said
abbrev pub steps_missing : List Row → Option What
steps_missing values =
    if (says_of_disk values || says_of_devices values) && not (is_8e (first_of (codes "cpu") values)) then Some what.Cpu else tape_missing values

-- and of that of a program at the Teletype
abbrev pub run_missing : List Row → Option What
run_missing values =
    if says_of_console values && not (is_8e (first_of (codes "cpu") values)) then Some what.Cpu else tape_missing values

-- something is said of the volume that has the sources
abbrev pub says_of_volume : List Row → Bool
says_of_volume values = has (codes "onto") values || says_where values

-- something is said of how PAL8 is read, or what is noted of it
abbrev pub says_of_pal8 : List Row → Bool
says_of_pal8 values =
    is_set (codes "no-links") values || is_set (codes "text-without-zero") values || is_set (codes "no-origin") values || is_set (codes "stay") values
    || is_set (codes "notes") values

-- of sources that are assembled
abbrev pub assemble_missing : List Row → Option What
assemble_missing values =
    if is_set (codes "cross") values && not (has (codes "list") values) then Some what.List
    else if says_of_pal8 values && not (is_set (codes "pal8") values) then Some what.Pal8
    else if says_of_volume values && not (has (codes "from") values) then Some what.From
    else if has (codes "wait") values && not (has (codes "onto") values) then Some what.Onto
    else None

-- a name means a volume of a disk by its end
abbrev pub means_volume : Option Text → Bool
means_volume None = false
means_volume (Some name) = is_some (volume_named None name).1

-- a new volume has the blocks of a DECtape or of an RK05 disk
abbrev pub makes_disk : List Row → Bool
makes_disk values = is_set (codes "dectape") values || (is_set (codes "rk05") values || (has (codes "volume") values
    || (means_volume (first_of (codes "IMAGE") values) && not (is_set (codes "new") values))))

abbrev pub missing_of : Verb → List Row → Option What
missing_of verb.Tape values = tape_missing values
missing_of verb.Rim values = tape_missing values
missing_of verb.Source values = tape_missing values
missing_of verb.Teletype values = run_missing values
missing_of verb.Trace values = steps_missing values
missing_of verb.Profile values = steps_missing values
missing_of verb.Assemble values = assemble_missing values
missing_of verb.Create values = if has (codes "BLOCKS") values || makes_disk values then None else Some what.Blocks
missing_of verb.Get values =
    if is_set (codes "blocks") values then blocks_missing values
    else if not (names_some values) then Some what.Name
    else if has (codes "into") values || names_one values || prints_texts values then None
    else Some what.Into
missing_of verb.Put values = if puts_many values && names_input (values_of (codes "FILE") values) then Some what.As else None
missing_of verb.Delete values = if has (codes "NAME") values || has (codes "at") values then None else Some what.Name
missing_of verb.Rename values = moved_missing (codes "NEW") what.New what.NameAndNew values
missing_of verb.Copy values = copy_missing values
missing_of which values = None

-- ## Standard input named twice

abbrev pub names_input_twice : List Row → Bool
names_input_twice values = nat_lt 1 (input_count (values_of (codes "FILE") values))

-- ## An argument too many

-- The third after an image whose blocks are got, the last where `--at` stands for a name, or the second file where one is given a name. It is the
-- fourth after an image of which one file is copied, and the third where a pattern says which files.
abbrev pub extra_argument : List Row → Option Text
extra_argument values =
    if is_set (codes "blocks") values then word_at (codes "NAME") 2 values
    else if has (codes "at") values then first_of (codes "NEW") values
    else if has (codes "as") values then word_at (codes "FILE") 1 values
    else if has (codes "to") values then None
    else if copies_pattern values then first_of (codes "NEW") values
    else first_of (codes "MORE") values

-- ## Values that are none

-- what is wrong with it
abbrev pub why : Form → Text
why a_text = codes "not a text"
why Cell = codes "not a cell, 0 to 77777 in octal, or F:AAAA"
why Octal = codes "not a word, 0 to 7777 in octal"
why Volume = codes "not 1 or 2"
why Cpu = codes "not 8i or 8e"
why Drive = codes "not a drive, 0 to 3"
why Time = codes "not a number of instructions, 0 to 1000000"
why Block = codes "not a block, 0 to 4095"
why Seconds = codes "not a number of seconds, 0 to 3600"
why Span = codes "not a block, 0 to 4095, nor two with a hyphen between, the lower first"
why Index = codes "not a number of a word, 0 to 255"
why Bits = codes "not a word of an image, 0 to 177777 in octal"
why Date = codes "not a date from 1970 on, as 1974-03-12"
why Year = codes "not a year, 1977 to 9999"

-- the argument, what is wrong with the value, and the value
abbrev pub Bad : Type 0
Bad = Text × Text × Text

abbrev pub bad_or : Argument → Option Text → Option Bad → Option Bad
bad_or row None rest = rest
bad_or row (Some text) rest = Some (row.title, why (form_of row.kind), text)

-- the first value that is none of its argument's kind
abbrev pub first_bad : List Argument → List Row → Option Bad
first_bad [] values = None
first_bad (row ∷ rows) values = bad_or row (first_not (form_of row.kind) (values_of row.id values)) (first_bad rows values)

abbrev pub bad_block : List Row → Option Bad
bad_block values =
    if not (is_set (codes "blocks") values) then None
    else if not (is_some (number_in 0 4094 (blocks_word 0 values))) then Some (codes "<FIRST>", codes "not a block, 0 to 4094", blocks_word 0 values)
    else if not (is_some (number_in 1 MOST_BLOCKS (blocks_word 1 values))) then Some (codes "<COUNT>", codes "not a number of blocks, 1 to 4095", blocks_word 1 values)
    else None

-- ## What is refused

-- the first that is there
abbrev pub or_else : Option Saying → Option Saying → Option Saying
or_else None later = later
or_else (Some first) later = Some first

abbrev said_twice : Bool → Option Saying
said_twice is_twice = if is_twice then Some input_twice else None

abbrev pub saying_of_bad : Bad → Saying
saying_of_bad bad = value bad.0 bad.1 bad.2

abbrev pub refusal_of : Verb → List Row → Option Saying
refusal_of which values =
    or_else (option_map (λ pair. together pair.0 pair.1) (both_given which values))
    (or_else (option_map missing (missing_of which values))
    (or_else (said_twice (names_input_twice values))
    (or_else (option_map unexpected (extra_argument values))
    (or_else (option_map saying_of_bad (first_bad (rows_for which) values))
    (option_map saying_of_bad (bad_block values))))))
