-- The commands on tapes change no file.
use Rattle.std.proofs.Common.{◌≡◌, ℕ, Bool, true, false, option_map, Option, None, Some, Result, Ok, Err, List, inl, inr, length}
use Rattle.std.specs.Global.{Vec, Global}
use Rattle.std.specs.Prelude.{String}
use Rattle.hosts.specs.Event.{Event}
use Rattle.hosts.specs.Streams.{changes_at}
use Rattle.archive_files.specs.declared.forms.GetForm.TheVariants.{Frames}
use Rattle.outcome.specs.Hints.{kind_note}
use Rattle.outcome.specs.declared.endings.Ending.{Ending}
use Rattle.outcome.specs.declared.endings.Ending.TheVariants.{Fault}
use Rattle.outcome.specs.declared.notes.PlainNote.{PlainNote}
use Rattle.archive_files.specs.Asking.{Target, target_of}
use Rattle.archive_files.specs.Getting.{Gets}
use Rattle.archive_files.specs.declared.faults.ArchiveFault.{ArchiveFault}
use Rattle.program_tasks.specs.declared.forms.ImageForm.{ImageForm}
use Rattle.program_tasks.specs.declared.forms.TapeForm.{TapeForm}
use Rattle.program_tasks.specs.declared.forms.TapeForm.TheVariants as tape
use Rattle.program_tasks.specs.declared.tasks.RimForm.{RimForm}
use Rattle.program_tasks.specs.declared.tasks.SourceForm.{SourceForm}
use Rattle.image_files.specs.Answers.{Answers, Refuses}
use Rattle.image_files.specs.Notes.{Tells}
use Rattle.image_files.specs.Inputs.{TakesInput}
use Rattle.image_files.specs.Reading.{Looks, LooksAt}
use Rattle.image_files.specs.Saving.{Prints}
use Rattle.image_files.specs.Work.{Then, Purely}
use Rattle.tape_commands.specs.Kinds.{RefusesFrames, RefusesTape, is_no_tape}
use Rattle.tape_commands.specs.Kinds as kinds
use Rattle.image_files.specs.Laws.{KeepsFiles}
use Rattle.image_files.proofs.KeepLemmas.{purely-keeps, same, then-keeps}
use Rattle.tape_commands.specs.Programs.{IsAsked, IsCoreProgram, IsTapeProgram, ReadsCore, ReadsGiven, ReadsMember, ReadsProgram, RefusesIf, TakesIf, TakesTape, has_no_tape, is_core_name}
use Rattle.tape_commands.specs.Rims.{GetsMember, GivesRim, ReadsFrames, WritesRim}
use Rattle.tape_commands.specs.Sources.{GivesSource, ReadsNames, WritesSource, starts_or}
use Rattle.tape_commands.specs.Tapes.{GivesLines, ListsTape}

tells-keeps : (path : List ℕ) (note : Option PlainNote) (old new : List Event) → Tells note old new → changes_at path new ≡ changes_at path old
tells-keeps path None old new p = same path p
tells-keeps path (Some note) old new p = same path p.1

-- ## What is refused

tape-refused : (path frames : List ℕ) (why : Ending) (old : List Event) (ending : Ending) (new : List Event) → RefusesTape frames why old ending new → changes_at path new ≡ changes_at path old
tape-refused path frames why old ending new (inl (kind, is, ends, p)) = tells-keeps path (kind_note kind) old new p
tape-refused path frames why old ending new (inr p) = same path p.1

refused-if : (is : Bool) (path frames : List ℕ) (why : Ending) (old : List Event) (ending : Ending) (new : List Event) → kinds.RefusesIf is frames why old ending new → changes_at path new ≡ changes_at path old
refused-if true path frames why old ending new p = tape-refused path frames why old ending new p
refused-if false path frames why old ending new p = same path p.1

pub frames-refused : (path frames : List ℕ) (why : Ending) (old : List Event) (ending : Ending) (new : List Event) → RefusesFrames frames why old ending new → changes_at path new ≡ changes_at path old
frames-refused path frames why old ending new p = refused-if (is_no_tape why) path frames why old ending new p

-- what image_files knows of its steps is handed in
module _
    (looks-keeps : (name shown : List ℕ) → KeepsFiles (Looks name shown))
    (looks-at-keeps : (form : ImageForm) → KeepsFiles (LooksAt form))
    (input-keeps : KeepsFiles TakesInput)
    (prints-keeps : (bytes : List ℕ) → KeepsFiles (Prints bytes))
    (refuses-keeps : (why : ArchiveFault) (size : ℕ) (old : List Event) (ending : Ending) (new : List Event) → Refuses why size old ending new → (path : List ℕ) → changes_at path new ≡ changes_at path old)
  where
    answers-keeps : {A : Type 0} (gives : Result A ArchiveFault → Type 0) (size : ℕ) → KeepsFiles (Answers gives size)
    answers-keeps gives size old (Ok it) new p path = same path p.1
    answers-keeps gives size old (Err ending) new (why, gave, p) path = refuses-keeps why size old ending new p path

    -- ## Programs

    file-keeps : (name : List ℕ) → KeepsFiles (Then (Looks name name) (λ frames. Purely (IsTapeProgram frames.items)))
    file-keeps name = then-keeps (Looks name name) (λ frames. Purely (IsTapeProgram frames.items)) (looks-keeps name name) (λ frames. purely-keeps (IsTapeProgram frames.items))

    core-keeps : (image : List ℕ) (wanted : Target) → KeepsFiles (ReadsCore image wanted)
    core-keeps image wanted = then-keeps (Answers (Gets image wanted Frames) (length image)) (λ frames. Purely (IsCoreProgram frames.items))
        (answers-keeps (Gets image wanted Frames) (length image)) (λ frames. purely-keeps (IsCoreProgram frames.items))

    member-refused : (is : Bool) (path image : List ℕ) (wanted : Target) (why : ArchiveFault) (old : List Event) (ending : Ending) (new : List Event) → RefusesIf is image wanted why old ending new
        → changes_at path new ≡ changes_at path old
    member-refused true path image wanted why old ending new (inl (frames, gets, p)) = tape-refused path frames.items _ old ending new p
    member-refused true path image wanted why old ending new (inr p) = answers-keeps (Gets image wanted Frames) (length image) old (Err ending) new p path
    member-refused false path image wanted why old ending new p = refuses-keeps why (length image) old ending new p path

    takes-keeps : (image : List ℕ) (wanted : Target) → KeepsFiles (TakesTape image wanted)
    takes-keeps image wanted old (Ok program) new p path = same path p.2
    takes-keeps image wanted old (Err ending) new (why, gets, p) path = member-refused (has_no_tape why) path image wanted why old ending new p

    takes-if : (is : Bool) (image : List ℕ) (wanted : Target) → KeepsFiles (TakesIf is image wanted)
    takes-if true image wanted = core-keeps image wanted
    takes-if false image wanted = takes-keeps image wanted

    member-keeps : (form : ImageForm) (name : List ℕ) → KeepsFiles (ReadsMember form name)
    member-keeps form name = then-keeps (Purely (IsAsked name)) (λ asked. Then (LooksAt form) (λ bytes. TakesIf (is_core_name name) bytes.items (target_of asked))) (purely-keeps (IsAsked name))
        (λ asked. then-keeps (LooksAt form) (λ bytes. TakesIf (is_core_name name) bytes.items (target_of asked)) (looks-at-keeps form) (λ bytes. takes-if (is_core_name name) bytes.items (target_of asked)))

    pub program-keeps : (form : TapeForm) → KeepsFiles (ReadsProgram form)
    program-keeps (tape.File file) old result new p path = file-keeps file.bytes.items old result new p path
    program-keeps (tape.Member form name) old result new p path = member-keeps form name.bytes.items old result new p path

    given-keeps : (form : Option TapeForm) → KeepsFiles (ReadsGiven form)
    given-keeps None old result new p path = then-keeps TakesInput (λ frames. Purely (IsTapeProgram frames.items)) input-keeps (λ frames. purely-keeps (IsTapeProgram frames.items)) old result new p path
    given-keeps (Some form) old result new p path = program-keeps form old result new p path

    -- ## The commands

    lines-keeps : (frames : List ℕ) → KeepsFiles (GivesLines frames)
    lines-keeps frames old (Ok text) new p path = same path p.1
    lines-keeps frames old (Err ending) new (why, is, p) path = frames-refused path frames (Fault why) old ending new p

    pub tape-keeps : (form : Option TapeForm) → KeepsFiles (ListsTape form)
    tape-keeps form = then-keeps (ReadsGiven form) (λ program. Then (GivesLines program.frames.items) (λ text. Prints text.items)) (given-keeps form)
        (λ program. then-keeps (GivesLines program.frames.items) (λ text. Prints text.items) (lines-keeps program.frames.items) (λ text. prints-keeps text.items))

    gets-keeps : (form : ImageForm) (name : List ℕ) → KeepsFiles (GetsMember form name)
    gets-keeps form name = then-keeps (Purely (IsAsked name)) (λ asked. Then (LooksAt form) (λ bytes. Answers (Gets bytes.items (target_of asked) Frames) (length bytes.items))) (purely-keeps (IsAsked name))
        (λ asked. then-keeps (LooksAt form) (λ bytes. Answers (Gets bytes.items (target_of asked) Frames) (length bytes.items)) (looks-at-keeps form)
        (λ bytes. answers-keeps (Gets bytes.items (target_of asked) Frames) (length bytes.items)))

    frames-keeps : (form : Option TapeForm) → KeepsFiles (ReadsFrames form)
    frames-keeps None old result new p path = input-keeps old result new p path
    frames-keeps (Some (tape.File file)) old result new p path = looks-keeps file.bytes.items file.bytes.items old result new p path
    frames-keeps (Some (tape.Member form name)) old result new p path = gets-keeps form name.bytes.items old result new p path

    pub rim-keeps : (form : RimForm) (given : Option TapeForm) → KeepsFiles (WritesRim form given)
    rim-keeps form given = then-keeps (ReadsFrames given) (λ frames. Then (Purely (GivesRim form frames.items)) (λ bytes. Prints bytes.items)) (frames-keeps given)
        (λ frames. then-keeps (Purely (GivesRim form frames.items)) (λ bytes. Prints bytes.items) (purely-keeps (GivesRim form frames.items)) (λ bytes. prints-keeps bytes.items))

    names-keeps : (names : Option (String Global)) → KeepsFiles (ReadsNames names)
    names-keeps None old (Ok names) new p path = same path p.1
    names-keeps None old (Err ending) new p path = absurd p
    names-keeps (Some file) old (Ok None) new p path = absurd p
    names-keeps (Some file) old (Ok (Some names)) new p path = looks-keeps file.bytes.items file.bytes.items old (Ok names) new p path
    names-keeps (Some file) old (Err ending) new p path = looks-keeps file.bytes.items file.bytes.items old (Err ending) new p path

    gives-keeps : (pal8 : Bool) (frames starts : List ℕ) (names : Option (List ℕ)) → KeepsFiles (GivesSource pal8 frames starts names)
    gives-keeps pal8 frames starts names old (Ok text) new p path = same path p.1
    gives-keeps pal8 frames starts names old (Err ending) new (why, is, p) path = frames-refused path frames _ old ending new p

    pub source-keeps : (form : SourceForm) → KeepsFiles (WritesSource form)
    source-keeps form =
        let named : Option (Vec ℕ) → Option (List ℕ) = option_map (λ names. names.items) in
        then-keeps (ReadsNames form.names) (λ names. Then (ReadsGiven form.tape) (λ program. Then (GivesSource form.is_pal8 program.frames.items (starts_or form.starts.items program.start) (named names)) (λ text. Prints text.items)))
        (names-keeps form.names) (λ names. then-keeps (ReadsGiven form.tape) (λ program. Then (GivesSource form.is_pal8 program.frames.items (starts_or form.starts.items program.start) (named names)) (λ text. Prints text.items))
        (given-keeps form.tape) (λ program. then-keeps (GivesSource form.is_pal8 program.frames.items (starts_or form.starts.items program.start) (named names)) (λ text. Prints text.items)
        (gives-keeps form.is_pal8 program.frames.items (starts_or form.starts.items program.start) (named names)) (λ text. prints-keeps text.items)))
