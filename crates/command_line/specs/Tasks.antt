-- What a command line asks of the program. The words are read as the library `clap` reads them: its own definitions say which words a command
-- takes, what they mean, and the kinds of error that others meet.
use Rattle.std.specs.Prelude.{◌≡◌, ◌≢◌, ◌≤◌, ◌<◌, ◌+◌, ⊤, Bool, true, false, if◌then◌else◌, ℕ, codes, List, [], ◌∷◌, ◌++◌, Option, None, Some, Result, Ok, Err, is_some, length, map, IfSome, option_and_then, option_map}
use Rattle.std.specs.Option.{option_map_or}
use Rattle.std.specs.Str.{bytes_eq}
use Rattle.clap.specs.Words.{Row, Text, first_of, fault_of, kind_of, one_of, subcommand_of, IsAmong}
use Rattle.clap.specs.declared.error.kind.ErrorKind.TheVariants.{OutOfMemory}
use Rattle.archive_files.specs.declared.forms.GetForm.{GetForm}
use Rattle.archive_files.specs.declared.forms.GetForm.TheVariants as get_as
use Rattle.word12.specs.declared.sizes.TheConstants.{MOST_BLOCKS, MOST_SOURCES}
use Rattle.disk_layouts.specs.declared.layouts.Layout.{Layout}
use Rattle.program_tasks.specs.Names.{volume_named}
use Rattle.program_tasks.specs.declared.archives.LineForm.{LineForm}
use Rattle.program_tasks.specs.declared.archives.LineForm.TheVariants.{Columns, Json}
use Rattle.program_tasks.specs.declared.boots.ConsoleForm.{ConsoleForm}
use Rattle.program_tasks.specs.declared.boots.DiskForm.{DiskForm}
use Rattle.program_tasks.specs.declared.boots.DriveForm.{DriveForm}
use Rattle.program_tasks.specs.declared.devices.DeviceForm.{DeviceForm}
use Rattle.program_tasks.specs.declared.forms.CopyChoice.{CopyChoice}
use Rattle.program_tasks.specs.declared.forms.CopyChoice.TheVariants.{One, Like}
use Rattle.program_tasks.specs.declared.forms.CreateForm.{CreateForm}
use Rattle.archive_files.specs.declared.asking.Asked.{Asked}
use Rattle.archive_files.specs.declared.asking.Asked.TheVariants.{Name, At}
use Rattle.program_tasks.specs.declared.forms.ImageForm.{ImageForm}
use Rattle.program_tasks.specs.declared.forms.TapeForm.{TapeForm}
use Rattle.program_tasks.specs.declared.forms.TapeForm.TheVariants.{File, Member}
use Rattle.program_tasks.specs.declared.forms.TextsForm.{TextsForm}
use Rattle.program_tasks.specs.declared.tasks.Cpu.{Cpu}
use Rattle.program_tasks.specs.declared.tasks.Cpu.TheVariants.{EightI, EightE}
use Rattle.program_tasks.specs.declared.tasks.TraceForm.{TraceForm}
use Rattle.program_tasks.specs.declared.tasks.RimForm.{RimForm}
use Rattle.program_tasks.specs.declared.tasks.RimForm.TheVariants.{Lines, Bin}
use Rattle.program_tasks.specs.declared.tasks.Saving.{Saving}
use Rattle.program_tasks.specs.declared.tasks.Saving.TheVariants.{AtEnd, Never, Always}
use Rattle.program_tasks.specs.declared.tasks.Task.{Task}
use Rattle.program_tasks.specs.declared.tasks.Task.TheVariants.{Tape, Rim, Source, Run, Create, CreateTape, CreateDisk, CreateVolume, ListLong, ListSome, Get, GetBin, GetMany, GetTexts, GetBlocks, Put, Delete, Rename, Copy, Squeeze, Check, Dump, Patch, Index, Rescue, Scan, Assemble, Teletype, Trace, Profile, Boot}
use Rattle.program_tasks.specs.declared.tasks.Task.TheVariants as task
use Rattle.command_refusals.specs.declared.faults.TaskFault.{TaskFault}
use Rattle.command_refusals.specs.declared.faults.TaskFault.TheVariants.{Words, Memory, Refused}
use Rattle.command_refusals.specs.declared.reasons.Refusal.{Refusal}
use Rattle.command_table.specs.declared.table.TheConstants.{MOST_IMAGES}
use Rattle.command_table.specs.declared.table.Verb.{Verb}
use Rattle.command_table.specs.declared.table.Verb.TheVariants as verb
use Rattle.command_table.specs.Found.{IsReadAs, time_or, is_among, bits_of, cell_of, date_year, has, is_set, layout_of, name_in, names_in, number_in, number_of, place_of, span_of, values_of, wait_of, word_of, year_of, IsInfo}
use Rattle.command_refusals.specs.Refusals.{blocks_word, copies_pattern, input_count, prints_texts, refusal_of}
use Rattle.command_table.specs.Tables.{Entry, entry_named, pdp8}
use Rattle.command_refusals.specs.Faults.{RefusesOf}

-- ## What it asks for

-- what is asked of a RIM tape: the BIN tape of its words, else their lines
abbrev pub rim_form : List Row → RimForm
rim_form values = if is_set (codes "bin") values then Bin else Lines

-- what is asked of a file that is asked for as it is: its tape, else its text, else its frames
abbrev pub get_form : List Row → GetForm
get_form values = if is_set (codes "tape") values then get_as.Tape else if is_set (codes "text") values then get_as.Text else get_as.Frames

-- when a run writes the image
abbrev pub saving_of : List Row → Saving
saving_of values = if is_set (codes "look") values then Never else if is_set (codes "keep") values then Always else AtEnd

-- The volume that an argument names: its file, and where in that it lies, as options say or else the name. It is waited for so many seconds, and
-- its faults are mended or not.
abbrev pub IsVolume : Option Layout → Bool → Text → ℕ → Bool → List Row → ImageForm → Type 0
IsVolume given is_plain id wait is_lenient values image = (option_map (volume_named given) (first_of id values) ≡ Some (image.file.bytes.items, image.layout))
    × (image.is_plain ≡ is_plain) × (image.wait ≡ wait) × (image.is_lenient ≡ is_lenient)

abbrev pub IsImage : Text → ℕ → List Row → ImageForm → Type 0
IsImage id wait values image = IsVolume (layout_of (codes "volume") (codes "dectape") values) (is_set (codes "plain") values) id wait false values image

-- ## The sources and the Teletype

-- the volume that has the sources, if one is named, and how long it is waited for
abbrev pub IsFrom : List Row → Option ImageForm → Type 0
IsFrom values None = has (codes "from") values ≡ false
IsFrom values (Some image) = IsImage (codes "from") (wait_of values) values image

-- the sources: files of that volume, else of the host
abbrev pub source_names : List Row → List Text
source_names values = if has (codes "from") values then names_in (codes "FILE") values else values_of (codes "FILE") values

-- a tape: a file of the host, or the file of a volume where one is named
abbrev pub IsTape : List Row → TapeForm → Type 0
IsTape values (File file) = (has (codes "NAME") values ≡ false) × (first_of (codes "TAPE") values ≡ Some file.bytes.items)
IsTape values (Member image name) = IsImage (codes "TAPE") 0 values image × (name_in (codes "NAME") values ≡ Some name.bytes.items)

-- and where none is named, that of standard input
abbrev pub IsTapeOrInput : List Row → Option TapeForm → Type 0
IsTapeOrInput values None = has (codes "TAPE") values ≡ false
IsTapeOrInput values (Some tape) = IsTape values tape

-- the machine of a name, 8i or 8e
abbrev pub machine_named : Text → Cpu
machine_named name = if bytes_eq name (codes "8e") then EightE else EightI

-- the machine that is to run, an 8/I where none is named
abbrev pub cpu_of : List Row → Cpu
cpu_of values = option_map_or machine_named (first_of (codes "cpu") values) EightI

-- a drive has the disk that an argument gives, if it is given, and is locked where `--lock` gives its number
abbrev pub IsDrive : Text → Text → List Row → DriveForm → Type 0
IsDrive id number values drive = (first_of id values ≡ option_map (λ image. image.bytes.items) drive.image)
    × (drive.is_locked ≡ is_among number (values_of (codes "lock") values))

-- the disks of a machine, that of drive 0 by this argument
abbrev pub IsDisk : Text → List Row → DiskForm → Type 0
IsDisk id values form = IsDrive id (codes "0") values form.drive0
    × IsDrive (codes "rk1") (codes "1") values form.drive1 × IsDrive (codes "rk2") (codes "2") values form.drive2
    × IsDrive (codes "rk3") (codes "3") values form.drive3 × (form.is_look ≡ is_set (codes "look") values) × (form.wait ≡ wait_of values)
    × (form.disk_time ≡ time_or 10 (codes "disk-time") values) × (form.seek_time ≡ time_or 10 (codes "seek-time") values)

-- the times of a disk are 0 to 1000000
abbrev pub AreFitTimes : DiskForm → Type 0
AreFitTimes form = (form.disk_time ≤ 1000000) × (form.seek_time ≤ 1000000)

-- the tape in the reader, the files of punch, line printer and transfers, and the clock
abbrev pub AreDevices : List Row → DeviceForm → Type 0
AreDevices values form = (first_of (codes "reader") values ≡ option_map (λ name. name.bytes.items) form.reader)
    × (first_of (codes "punch") values ≡ option_map (λ name. name.bytes.items) form.punch)
    × (first_of (codes "printer") values ≡ option_map (λ name. name.bytes.items) form.printer)
    × (first_of (codes "transfers") values ≡ option_map (λ name. name.bytes.items) form.transfers)
    × (option_map number_of (one_of (codes "clock") values) ≡ form.clock)

-- how a machine runs at the console, the disk of drive 0 by this argument
abbrev pub IsConsole : Text → List Row → ConsoleForm → Type 0
IsConsole id values form = IsDisk id values form.disk × AreDevices values form.devices
    × IsReadAs word_of (first_of (codes "switches") values) form.switches
    × (option_map number_of (one_of (codes "steps") values) ≡ form.steps) × (form.every ≡ time_or 1000000 (codes "every") values)
    × (first_of (codes "ends-with") values ≡ option_map (λ name. name.bytes.items) form.ends_with) × (form.has_capitals ≡ is_set (codes "capitals") values)
    × (form.is_raw ≡ is_set (codes "raw") values) × (form.is_live ≡ is_set (codes "live") values)

-- its limit of instructions is 1 up, and its times and the instructions between saves are 0 to 1000000
abbrev pub AreFitLimits : ConsoleForm → Type 0
AreFitLimits form = IfSome form.steps (λ steps. 1 ≤ steps) × AreFitTimes form.disk × (form.every ≤ 1000000)

-- a tape is traced or profiled so
abbrev pub IsTraceForm : List Row → TraceForm → Type 0
IsTraceForm values form = IsTape values form.tape
    × (form.cpu ≡ cpu_of values)
    × IsReadAs cell_of (first_of (codes "start") values) form.start
    × IsReadAs word_of (first_of (codes "switches") values) form.switches
    × (option_map number_of (one_of (codes "steps") values) ≡ form.steps)
    × (first_of (codes "keys") values ≡ option_map (λ keys. keys.bytes.items) form.keys) × IsDisk (codes "rk0") values form.disk
    × AreDevices values form.devices

-- ## The files of volumes

-- one that is only looked at, one of these whose faults are mended where it is asked for, and one that may be changed
abbrev pub IsSeen : List Row → ImageForm → Type 0
IsSeen values image = IsImage (codes "IMAGE") 0 values image

abbrev pub IsRead : List Row → ImageForm → Type 0
IsRead values image = IsVolume (layout_of (codes "volume") (codes "dectape") values) (is_set (codes "plain") values) (codes "IMAGE") 0 (is_set (codes "lenient") values) values image

abbrev pub IsChanged : List Row → ImageForm → Type 0
IsChanged values image = IsImage (codes "IMAGE") (wait_of values) values image

-- one of a disk that is made anew, whose options have no `--plain`
abbrev pub IsMade : List Row → ImageForm → Type 0
IsMade values image = IsVolume (layout_of (codes "volume") (codes "dectape") values) false (codes "IMAGE") (wait_of values) false values image

-- and one that files are copied to
abbrev pub IsTarget : Text → List Row → ImageForm → Type 0
IsTarget id values image = IsVolume (layout_of (codes "to-volume") (codes "to-dectape") values) (is_set (codes "to-plain") values) id (wait_of values) false values image

-- the file whose first block `--at` gives, else that of the name
abbrev pub IsFile : List Row → Asked → Type 0
IsFile values (Name name) = (has (codes "at") values ≡ false) × (name_in (codes "NAME") values ≡ Some name.bytes.items)
IsFile values (At place) = option_map place_of (first_of (codes "at") values) ≡ Some (Some place)

-- the files whose first blocks `--at` gives
abbrev pub ArePlaces : List Row → List ℕ → Type 0
ArePlaces values places = map place_of (values_of (codes "at") values) ≡ map (λ place. Some place) places

-- the argument after a file, which stands in the place of the name where `--at` gives the file
abbrev pub after : Text → Text → List Row → Text
after moved own values = if has (codes "at") values then moved else own

-- a name, if there is one
abbrev pub name_or_none : Option Text → List Text
name_or_none None = []
name_or_none (Some name) = name ∷ []

-- the names of files that are copied at once: all arguments after the image
abbrev pub names_given : List Row → List Text
names_given values = name_or_none (name_in (codes "NAME") values) ++ name_or_none (name_in (codes "TO") values)
    ++ name_or_none (name_in (codes "NEW") values) ++ names_in (codes "MORE") values

-- those of files that are copied: a pattern alone, or all arguments; and the argument that says which volume gets them
abbrev pub copied_names : List Row → List Text
copied_names values = if copies_pattern values then name_or_none (name_in (codes "NAME") values) else names_given values

abbrev pub target_id : List Row → Text
target_id values = if copies_pattern values then codes "TO" else codes "to"

-- which files are copied, and the volume that gets them: one, under a new name if one is given, or those of names or of a pattern
abbrev pub AreCopied : List Row → CopyChoice → ImageForm → Type 0
AreCopied values (One file name) to = (has (codes "to") values ≡ false) × (copies_pattern values ≡ false) × IsFile values file
    × IsTarget (after (codes "NAME") (codes "TO") values) values to
    × (name_in (after (codes "TO") (codes "NEW") values) values ≡ option_map (λ text. text.bytes.items) name)
AreCopied values (Like names is_forced) to = (copied_names values ≡ map (λ name. name.bytes.items) names.items) × IsTarget (target_id values) values to
    × (is_forced ≡ is_set (codes "force") values)

-- which files are texts
abbrev pub AreTexts : List Row → TextsForm → Type 0
AreTexts values texts = (texts.is_usual ≡ is_set (codes "text") values)
    × (names_in (codes "text-of") values ≡ map (λ text. text.bytes.items) texts.extensions.items)

-- a new volume is written so
abbrev pub IsCreateForm : List Row → CreateForm → Type 0
IsCreateForm values form = (first_of (codes "IMAGE") values ≡ Some form.file.bytes.items)
    × (form.is_new ≡ is_set (codes "new") values) × (form.wait ≡ wait_of values)

-- ## Whole archives, and what damaged volumes hold

-- the lines of an index: JSON objects, else columns
abbrev pub line_form : List Row → LineForm
line_form values = if is_set (codes "json") values then Json else Columns

-- ## The task

-- one file is to be got
abbrev pub GetsOne : List Row → Type 0
GetsOne values = (is_set (codes "blocks") values ≡ false) × (has (codes "into") values ≡ false) × (prints_texts values ≡ false)

-- the subcommand, with the values that were found for it, asks for the task
abbrev pub AsksFor : Verb → List Row → Task → Type 0
AsksFor which values (Tape tape) = (which ≡ verb.Tape) × IsTapeOrInput values tape
AsksFor which values (Rim tape form) = (which ≡ verb.Rim) × IsTapeOrInput values tape × (form ≡ rim_form values)
AsksFor which values (Source form) = (which ≡ verb.Source) × IsTapeOrInput values form.tape
    × (map cell_of (values_of (codes "start") values) ≡ map (λ start. Some start) form.starts.items)
    × (first_of (codes "names") values ≡ option_map (λ names. names.bytes.items) form.names)
    × (form.is_pal8 ≡ is_set (codes "pal8") values)
AsksFor which values (Run image form) = (which ≡ verb.Run) × IsChanged values image × (form.saving ≡ saving_of values)
    × (form.is_strict ≡ is_set (codes "strict") values)
AsksFor which values (Create form blocks) = (which ≡ verb.Create) × IsCreateForm values form
    × (is_set (codes "dectape") values ≡ false) × (is_set (codes "rk05") values ≡ false) × (option_map number_of (one_of (codes "BLOCKS") values) ≡ Some blocks)
AsksFor which values (CreateTape form) = (which ≡ verb.Create) × IsCreateForm values form
    × (is_set (codes "dectape") values ≡ true)
AsksFor which values (CreateDisk form) = (which ≡ verb.Create) × IsCreateForm values form
    × (is_set (codes "dectape") values ≡ false) × (is_set (codes "rk05") values ≡ true)
AsksFor which values (CreateVolume image) = (which ≡ verb.Create) × IsMade values image
    × (is_set (codes "dectape") values ≡ false) × (is_set (codes "rk05") values ≡ false) × (option_map number_of (one_of (codes "BLOCKS") values) ≡ None)
AsksFor which values (task.List image) = (which ≡ verb.List) × (has (codes "NAME") values ≡ false) × IsRead values image
    × (is_set (codes "long") values ≡ false)
AsksFor which values (ListLong image year) = (which ≡ verb.List) × (has (codes "NAME") values ≡ false) × IsRead values image
    × (is_set (codes "long") values ≡ true) × (year ≡ year_of values)
AsksFor which values (ListSome form) = (which ≡ verb.List) × (has (codes "NAME") values ≡ true) × IsRead values form.image
    × (names_in (codes "NAME") values ≡ map (λ name. name.bytes.items) form.names.items)
    × (form.is_long ≡ is_set (codes "long") values) × (form.year ≡ year_of values)
AsksFor which values (Get image file form) = (which ≡ verb.Get) × GetsOne values × IsRead values image
    × IsFile values file × (form ≡ get_form values) × (is_set (codes "bin") values ≡ false)
AsksFor which values (GetBin image file) = (which ≡ verb.Get) × GetsOne values × IsRead values image
    × IsFile values file × (is_set (codes "bin") values ≡ true)
AsksFor which values (GetMany form) = (which ≡ verb.Get) × (is_set (codes "blocks") values ≡ false)
    × IsRead values form.image
    × (names_in (codes "NAME") values ≡ map (λ name. name.bytes.items) form.names.items)
    × ArePlaces values form.places.items × (form.is_all ≡ is_set (codes "all") values)
    × (first_of (codes "into") values ≡ Some form.folder.bytes.items) × AreTexts values form.texts
    × (form.is_forced ≡ is_set (codes "force") values) × (form.year ≡ year_of values)
AsksFor which values (GetTexts form) = (which ≡ verb.Get) × (is_set (codes "blocks") values ≡ false) × (prints_texts values ≡ true)
    × IsRead values form.image × (names_in (codes "NAME") values ≡ map (λ name. name.bytes.items) form.names.items)
    × ArePlaces values form.places.items × (form.is_all ≡ is_set (codes "all") values)
AsksFor which values (GetBlocks form) = (which ≡ verb.Get) × (is_set (codes "blocks") values ≡ true)
    × IsRead values form.image × (number_in 0 4094 (blocks_word 0 values) ≡ Some form.first)
    × (number_in 1 MOST_BLOCKS (blocks_word 1 values) ≡ Some form.count) × (form.form ≡ get_form values)
AsksFor which values (Put form) = (which ≡ verb.Put) × IsChanged values form.image
    × (values_of (codes "FILE") values ≡ map (λ file. file.bytes.items) form.files.items)
    × (name_in (codes "as") values ≡ option_map (λ name. name.bytes.items) form.name)
    × AreTexts values form.texts × (form.may_empty ≡ is_set (codes "empty") values)
    × IsInfo values (option_map (λ words. words.items) form.info) × (form.is_dated ≡ is_set (codes "dates") values)
    × (form.year ≡ date_year values)
AsksFor which values (Delete form) = (which ≡ verb.Delete) × IsChanged values form.image
    × (names_in (codes "NAME") values ≡ map (λ name. name.bytes.items) form.names.items)
    × ArePlaces values form.places.items
AsksFor which values (Rename image file new) = (which ≡ verb.Rename) × IsChanged values image × IsFile values file
    × (name_in (after (codes "NAME") (codes "NEW") values) values ≡ Some new.bytes.items)
AsksFor which values (Copy form) = (which ≡ verb.Copy) × IsSeen values form.image × AreCopied values form.files form.to
AsksFor which values (Squeeze image) = (which ≡ verb.Squeeze) × IsChanged values image
AsksFor which values (Check form) = (which ≡ verb.Check) × (values_of (codes "IMAGE") values ≡ map (λ image. image.bytes.items) form.images.items)
    × (layout_of (codes "volume") (codes "dectape") values ≡ form.layout) × (form.is_plain ≡ is_set (codes "plain") values) × (form.is_all ≡ is_set (codes "all") values)
    × (form.is_lenient ≡ is_set (codes "lenient") values)
AsksFor which values (Dump form) = (which ≡ verb.Dump) × IsSeen values form.image × (form.span ≡ option_and_then span_of (first_of (codes "BLOCK") values))
    × (form.is_sixbit ≡ is_set (codes "sixbit") values)
AsksFor which values (Patch form) = (which ≡ verb.Patch) × IsChanged values form.image
    × (option_and_then place_of (first_of (codes "BLOCK") values) ≡ Some form.block)
    × (option_and_then (number_in 0 0o377) (first_of (codes "WORD") values) ≡ Some form.number)
    × (option_and_then bits_of (first_of (codes "OLD") values) ≡ Some form.old)
    × (option_and_then word_of (first_of (codes "NEW") values) ≡ Some form.new)
AsksFor which values (Index form) = (which ≡ verb.Index) × (values_of (codes "IMAGE") values ≡ map (λ image. image.bytes.items) form.images.items)
    × (layout_of (codes "volume") (codes "dectape") values ≡ form.layout) × (form.is_plain ≡ is_set (codes "plain") values) × (form.year ≡ year_of values)
    × (form.form ≡ line_form values) × (form.is_same ≡ is_set (codes "same") values) × (name_in (codes "find") values ≡ option_map (λ pattern. pattern.bytes.items) form.find)
    × (first_of (codes "grep") values ≡ option_map (λ text. text.bytes.items) form.grep) × (form.is_lenient ≡ is_set (codes "lenient") values)
AsksFor which values (Rescue form) = (which ≡ verb.Rescue) × IsSeen values form.image × (first_of (codes "NEW") values ≡ Some form.new.bytes.items)
AsksFor which values (Scan form) = (which ≡ verb.Scan) × IsSeen values form.image × (first_of (codes "into") values ≡ option_map (λ folder. folder.bytes.items) form.into)
AsksFor which values (Assemble form) = (which ≡ verb.Assemble) × (source_names values ≡ map (λ file. file.bytes.items) form.sources.items)
    × IsFrom values form.from × (name_in (codes "onto") values ≡ option_map (λ name. name.bytes.items) form.onto)
    × (first_of (codes "output") values ≡ option_map (λ file. file.bytes.items) form.output)
    × (first_of (codes "list") values ≡ option_map (λ file. file.bytes.items) form.list)
    × (form.is_cross ≡ is_set (codes "cross") values)
    × (form.is_pal8 ≡ is_set (codes "pal8") values)
    × (form.is_without_links ≡ is_set (codes "no-links") values)
    × (form.is_without_zero ≡ is_set (codes "text-without-zero") values)
    × (form.is_without_origin ≡ is_set (codes "no-origin") values)
    × (form.has_stays ≡ is_set (codes "stay") values)
    × (form.has_notes ≡ is_set (codes "notes") values)
AsksFor which values (Teletype form) = (which ≡ verb.Teletype) × IsTape values form.tape
    × (form.cpu ≡ cpu_of values)
    × IsReadAs cell_of (first_of (codes "start") values) form.start × IsConsole (codes "rk0") values form.console
AsksFor which values (Trace form) = (which ≡ verb.Trace) × IsTraceForm values form
AsksFor which values (Profile form) = (which ≡ verb.Profile) × IsTraceForm values form
AsksFor which values (Boot form) = (which ≡ verb.Boot) × IsConsole (codes "IMAGE") values form

-- and its arguments are not refused
abbrev pub AsksOf : Option Entry → List Row → Task → Type 0
AsksOf None values task = ⊥
AsksOf (Some entry) values task = (refusal_of entry.verb values ≡ None) × AsksFor entry.verb values task

abbrev pub Asks : Option (Text × List Row) → Task → Type 0
Asks None task = ⊥
Asks (Some met) task = AsksOf (entry_named met.0) met.1 task

-- its arguments are refused for this, with the line on its usage
abbrev pub Refuses : Option (Text × List Row) → Text → Refusal → Type 0
Refuses None line refusal = ⊥
Refuses (Some met) line refusal = RefusesOf (entry_named met.0) met.1 line refusal

-- A new volume has 8 to 4095 blocks. Blocks are 0 to 4094, and their number is 1 to 4095. At least one file is put or taken out. 1 to 1000000
-- images are checked, and an index is made of as many. A word of a block has a number below 256. There are 1 to 8 sources, of those of the host
-- one at most standard input. There is a listing where there are cross references, and a volume where one gets the tape. A limit of instructions is 1
-- up. The times of a disk are 0 to 1000000, and so are the instructions between saves.
abbrev pub HasFitBlocks : Task → Type 0
HasFitBlocks (Create form blocks) = (8 ≤ blocks) × (blocks ≤ MOST_BLOCKS)
HasFitBlocks (GetBlocks form) = (form.first ≤ 4094) × (1 ≤ form.count) × (form.count ≤ MOST_BLOCKS)
HasFitBlocks (Put form) = 1 ≤ length form.files.items
HasFitBlocks (Delete form) = 1 ≤ length form.names.items + length form.places.items
HasFitBlocks (Patch form) = form.number < 0o400
HasFitBlocks (Check form) = (1 ≤ length form.images.items) × (length form.images.items ≤ MOST_IMAGES)
HasFitBlocks (Index form) = (1 ≤ length form.images.items) × (length form.images.items ≤ MOST_IMAGES)
HasFitBlocks (Assemble form) = (1 ≤ length form.sources.items) × (length form.sources.items ≤ MOST_SOURCES)
    × (form.from ≡ None → input_count (map (λ file. file.bytes.items) form.sources.items) ≤ 1)
    × (form.is_cross ≡ true → is_some form.list ≡ true) × (is_some form.onto ≡ true → is_some form.from ≡ true)
HasFitBlocks (Teletype form) = AreFitLimits form.console
HasFitBlocks (Trace form) = IfSome form.steps (λ steps. 1 ≤ steps) × AreFitTimes form.disk
HasFitBlocks (Profile form) = IfSome form.steps (λ steps. 1 ≤ steps) × AreFitTimes form.disk
HasFitBlocks (Boot form) = AreFitLimits form
HasFitBlocks task = ⊤

-- The answer to the command line with these words, the program's own name first. It is a task where `clap` finds no fault in the words and they
-- ask for it. Else it is an error of `clap` of a kind that the words meet, a refusal of the arguments of a subcommand, or want of memory.
abbrev pub Answers : List Text → Result Task TaskFault → Type 0
Answers words (Ok task) = (fault_of pdp8 words ≡ []) × Asks (subcommand_of pdp8 words) task × HasFitBlocks task
Answers words (Err (Words error)) = IsAmong (kind_of error) (fault_of pdp8 words) × (kind_of error ≢ OutOfMemory)
Answers words (Err Memory) = ⊤
Answers words (Err (Refused line refusal)) = (fault_of pdp8 words ≡ []) × Refuses (subcommand_of pdp8 words) line.now refusal

-- a fault at words that `clap` takes
abbrev pub IsPastClap : TaskFault → Type 0
IsPastClap (Words error) = ⊥
IsPastClap Memory = ⊤
IsPastClap (Refused line refusal) = ⊤
