-- Tasks that only read and print.
use Rattle.std.proofs.Common.{◌≡◌, ◌∙◌, ◌||◌, ℕ, Bool, true, false, is_some, Option, None, Some, String, Result, Ok, Err, List, [], ◌∷◌, refl, ap, subst, inl, inr, length, true≢false, map}
use Rattle.std.specs.Global.{Global}
use Rattle.byte_reader.specs.Readings.{Reading}
use Rattle.hosts.specs.Event.{Event}
use Rattle.hosts.specs.Streams.{output, changes_at}
use Rattle.hosts.specs.declared.faults.HostFault.TheVariants as host
use Rattle.program_tasks.specs.declared.archives.IndexForm.{IndexForm}
use Rattle.program_tasks.specs.declared.forms.BlocksForm.{BlocksForm}
use Rattle.program_tasks.specs.declared.forms.CheckForm.{CheckForm}
use Rattle.archive_files.specs.declared.asking.Asked.{Asked}
use Rattle.program_tasks.specs.declared.forms.ImageForm.{ImageForm}
use Rattle.program_tasks.specs.declared.forms.ListForm.{ListForm}
use Rattle.program_tasks.specs.declared.forms.TapeForm.{TapeForm}
use Rattle.program_tasks.specs.declared.tasks.AssembleForm.{AssembleForm}
use Rattle.program_tasks.specs.declared.tasks.RimForm.{RimForm}
use Rattle.program_tasks.specs.declared.tasks.RunForm.{RunForm}
use Rattle.program_tasks.specs.declared.tasks.Saving.{Saving}
use Rattle.program_tasks.specs.declared.tasks.Saving.TheVariants.{AtEnd, Never, Always}
use Rattle.program_tasks.specs.declared.tasks.SourceForm.{SourceForm}
use Rattle.program_tasks.specs.declared.tasks.Task.{Task}
use Rattle.program_tasks.specs.declared.tasks.Task.TheVariants as task
use Rattle.program_tasks.specs.declared.boots.ConsoleForm.{ConsoleForm}
use Rattle.program_tasks.specs.declared.tasks.TeletypeForm.{TeletypeForm}
use Rattle.program_tasks.specs.declared.tasks.TraceForm.{TraceForm}
use Rattle.archive_files.specs.declared.forms.GetForm.{GetForm}
use Rattle.archive_files.specs.Getting.{Gets}
use Rattle.volume_index.specs.declared.styles.IndexStyle.{IndexStyle}
use Rattle.outcome.specs.Streams.{gives_data}
use Rattle.outcome.specs.declared.contents.Content.{Content}
use Rattle.outcome.specs.declared.contents.Content.TheVariants.{Image as Held}
use Rattle.outcome.specs.declared.endings.Ending.{Ending}
use Rattle.outcome.specs.declared.endings.Ending.TheVariants.{Line, Fault, Failure, Busy, NotWritten, FullOutput, Unreported, NoReader, Misuse}
use Rattle.outcome.specs.declared.reasons.Reason.TheVariants as reason
use Rattle.refusals.specs.declared.faults.SessionFault.TheVariants.{Memory}
use Rattle.outcome.specs.declared.notes.FileNote.{FileNote}
use Rattle.outcome.specs.declared.outcomes.Outcome.{Outcome}
use Rattle.outcome.specs.declared.outcomes.Stream.{Stream}
use Rattle.outcome.specs.declared.outcomes.Stream.TheVariants.{Output, Errors}
use Rattle.image_files.specs.Answers.{Answers, AreLines}
use Rattle.image_files.specs.Ending.{EndsAfter, EndsSo, EndsUnread, PrintsLine, PrintsOutcome, TellsLine, with_note}
use Rattle.image_files.specs.Laws.{KeepsFiles, ChangesNothing}
use Rattle.image_files.specs.Reading.{LooksAt, reading_of}
use Rattle.image_files.specs.Saving.{Prints}
use Rattle.image_files.specs.Work.{Ends, Then, Purely}
use Rattle.image_files.specs.declared.mending.ImageReading.{ImageReading}
use Rattle.image_files.proofs.KeepLemmas.{then-keeps, purely-keeps, looks-at-keeps, prints-keeps}
use Rattle.image_files.proofs.LeaveLemmas.{answers-never}
use Rattle.image_files.proofs.ReasonLemmas.{reason-keeps, unless-output}
use Rattle.image_files.specs.States.{TellsState, state_at_end, state_refused}
use Rattle.image_files.specs.declared.images.Image.{Image}
use Rattle.image_files.specs.declared.states.ChangeState.{ChangeState}
use Rattle.image_files.specs.declared.states.ImageNotes.{ImageNotes}
use Rattle.keeper_laws.specs.Ended.{DoesNothing}
use Rattle.get_commands.specs.Showing.{Shows}
use Rattle.archive_files.specs.Asking.{target_of}
use Rattle.get_commands.specs.ShowingParts.{ShowsBlocks, ShowsTape}
use Rattle.show_commands.specs.Checking.{ChecksImages}
use Rattle.show_commands.specs.Volumes.{ReportsOne}
use Rattle.show_commands.specs.declared.reports.ReportKind.{ReportKind}
use Rattle.show_commands.specs.declared.reports.ReportKind.TheVariants as report
use Rattle.show_commands.specs.Listing.{ListsSome}
use Rattle.get_commands.specs.Texts.{ShowsTexts}
use Rattle.show_commands.specs.Dumping.{Dumps, IsDump, form_of}
use Rattle.index_commands.specs.Indexing.{Indexes}
use Rattle.index_commands.specs.declared.columns.LineShape.{LineShape}
use Rattle.salvage_commands.specs.ScanningBlocks.{ShowsPieces}
use Rattle.volume_salvage.specs.Scanning.{Scans, scan_text}
use Rattle.tape_commands.specs.Rims.{WritesRim}
use Rattle.tape_commands.specs.Sources.{WritesSource}
use Rattle.tape_commands.specs.Tapes.{ListsTape}
use Rattle.assemble_commands.specs.Assembling.{Assembles}
use Rattle.script_commands.specs.Scripts.{OpensFor, RunsOver, RunsScript}
use Rattle.run_commands.specs.Profiles.{ProfilesTape}
use Rattle.run_commands.specs.Boots.{BootsDisk}
use Rattle.drive_files.specs.Opening.{are_saved}
use Rattle.drive_files.specs.Devices.{has_papers}
use Rattle.run_commands.specs.Teletypes.{RunsTeletype}
use Rattle.run_commands.specs.Traces.{TracesTape}
use Rattle.image_files.specs.Waiting.{AreBusy, TellsBusy, Within}
use Rattle.program.specs.Changes.{file_for, seconds_for}
use Rattle.program.specs.Tasks.{ChoosesStyle, DoesTask, ListsIndex, RunsImage, RunsTask, ScansBlocks, reading_of_index, shape_of}
use Rattle.program_laws.specs.Quiet.{has_output, may_change, saves}

same : {old new : List Event} → new ≡ old → ChangesNothing old new
same is = λ path. ap (λ (events : List Event). changes_at path events) is

-- ## Tries

pub busy-keeps : {A : Type 0} (command : List Event → Result A Ending → List Event → Type 0) → KeepsFiles command → (tries : List (List Event)) (old new : List Event) → AreBusy command tries old new → ChangesNothing old new
busy-keeps command keeps [] old new is path = same is path
busy-keeps command keeps (before ∷ earlier) old new (busy, after, last, is) path =
    same is path ∙ keeps before (Err (Busy Held)) after last path ∙ busy-keeps command keeps earlier old before busy path

pub busy-told : {A : Type 0} (name : List ℕ) (result : Result A Ending) (old new : List Event) → TellsBusy name result old new → DoesNothing old new
busy-told name result old new (inl p) = (λ path. ap (λ (events : List Event). changes_at path events) p.1, ap output p.1)
busy-told name result old new (inr p) = (λ path. reason-keeps (reason.Fault host.Busy) name old new p.1 path, unless-output false (reason.Fault host.Busy) name old new p.1)

within-keeps : {A : Type 0} (seconds : ℕ) (name : List ℕ) (command : List Event → Result A Ending → List Event → Type 0) → KeepsFiles command → KeepsFiles (Within seconds name command)
within-keeps seconds name command keeps old result new w path =
    (busy-told name result w.after new w.told).0 path ∙ keeps w.between result w.after w.last path ∙ busy-keeps command keeps w.tries old w.between w.busy path

-- ## The end of a command

tells-line : (line : List ℕ) (old new : List Event) → TellsLine line old new → ChangesNothing old new
tells-line line old new (inl (utf8, ok, is)) = same is
tells-line line old new (inr (not_utf8, is)) = same is

prints-line : (stream : Stream) (line : List ℕ) (old : List Event) (result : Result (Unit {0}) Ending) (new : List Event) → PrintsLine stream line old result new → ChangesNothing old new
prints-line Output line old result new p = prints-keeps line old result new p
prints-line Errors line old result new p = tells-line line old new p.1

noted : (note : Option (FileNote × Content)) (ok : Bool) (old : List Event) → ChangesNothing old (with_note note ok old)
noted None ok old path = refl
noted (Some it) ok old path = refl

prints-outcome : (it : Outcome) (old : List Event) (result : Result (Unit {0}) Ending) (new : List Event) → PrintsOutcome it old result new → ChangesNothing old new
prints-outcome it old result new (ok, p) path = prints-line it.stream it.line.items (with_note it.note ok old) result new p path ∙ noted it.note ok old path

pub tells-state : (state : Option ChangeState) (notes : Option ImageNotes) (old new : List Event) → TellsState state notes old new → DoesNothing old new
tells-state None notes old new p = (λ path. ap (λ (events : List Event). changes_at path events) p, ap output p)
tells-state (Some state) None old new p = (λ path. ap (λ (events : List Event). changes_at path events) p, ap output p)
tells-state (Some state) (Some notes) old new (ok, p) = (λ path. ap (λ (events : List Event). changes_at path events) p, ap output p)

ends-unread : (is_data : Bool) (state : Option ChangeState) (notes : Option ImageNotes) (refusal : ℕ) (ending : Ending) (old new : List Event) (status : ℕ) → EndsUnread is_data state notes refusal ending old new status → ChangesNothing old new
ends-unread is_data state notes refusal NoReader old new status p path = same p.0 path
ends-unread is_data state notes refusal (Line it) old new status (told, tells, (other, is, last, prints, so)) path = prints-outcome other told last new prints path ∙ (tells-state state notes old told tells).0 path
ends-unread is_data state notes refusal (Fault it) old new status (told, tells, (other, is, last, prints, so)) path = prints-outcome other told last new prints path ∙ (tells-state state notes old told tells).0 path
ends-unread is_data state notes refusal Failure old new status (told, tells, (other, is, last, prints, so)) path = prints-outcome other told last new prints path ∙ (tells-state state notes old told tells).0 path
ends-unread is_data state notes refusal (Busy it) old new status (told, tells, (other, is, last, prints, so)) path = prints-outcome other told last new prints path ∙ (tells-state state notes old told tells).0 path
ends-unread is_data state notes refusal (NotWritten it left) old new status (told, tells, (other, is, last, prints, so)) path = prints-outcome other told last new prints path ∙ (tells-state state notes old told tells).0 path
ends-unread is_data state notes refusal FullOutput old new status (told, tells, (other, is, last, prints, so)) path = prints-outcome other told last new prints path ∙ (tells-state state notes old told tells).0 path
ends-unread is_data state notes refusal Unreported old new status (told, tells, (other, is, last, prints, so)) path = prints-outcome other told last new prints path ∙ (tells-state state notes old told tells).0 path
ends-unread is_data state notes refusal Misuse old new status (told, tells, (other, is, last, prints, so)) path = prints-outcome other told last new prints path ∙ (tells-state state notes old told tells).0 path

ends-after : (is_data : Bool) (state : Option ChangeState) (notes : Option ImageNotes) (given : ℕ) (result : Result (Unit {0}) Ending) (old new : List Event) (status : ℕ) → EndsAfter is_data state notes given result old new status → ChangesNothing old new
ends-after is_data state notes given (Ok it) old new status p = same p.0
ends-after is_data state notes given (Err ending) old new status p = ends-unread is_data state notes given ending old new status p

pub ends-so : (is_data : Bool) (notes : Option ImageNotes) (work : Result (Unit {0}) Ending) (old new : List Event) (status : ℕ) → EndsSo is_data notes work old new status → ChangesNothing old new
ends-so is_data notes work old new status e path = ends-after is_data (state_refused work) notes e.outcome.status e.printed e.between new status e.after path
    ∙ prints-outcome e.outcome e.told e.printed e.between e.prints path ∙ (tells-state (state_at_end work) notes old e.told e.tells).0 path

-- ## The arms that have no law below

dumps-keep : (span : Option (ℕ × ℕ)) (is_sixbit : Bool) (form : ImageForm) → KeepsFiles (Dumps span is_sixbit form)
dumps-keep span is_sixbit form = then-keeps (LooksAt form) (λ image. Then (Purely (IsDump span (form_of is_sixbit) image.items)) (λ text. Prints text.items)) (looks-at-keeps form)
    (λ image. then-keeps (Purely (IsDump span (form_of is_sixbit) image.items)) (λ text. Prints text.items) (purely-keeps (IsDump span (form_of is_sixbit) image.items)) (λ text. prints-keeps text.items))

pieces-keep : (form : ImageForm) → KeepsFiles (ShowsPieces form)
pieces-keep form = then-keeps (LooksAt form) (λ image. Then (Answers (Scans image.items) (length image.items)) (λ scan. Then (Purely (AreLines (scan_text scan))) (λ lines. Prints lines.items))) (looks-at-keeps form)
    (λ image. then-keeps (Answers (Scans image.items) (length image.items)) (λ scan. Then (Purely (AreLines (scan_text scan))) (λ lines. Prints lines.items)) (answers-never (Scans image.items) (length image.items))
    (λ scan. then-keeps (Purely (AreLines (scan_text scan))) (λ lines. Prints lines.items) (purely-keeps (AreLines (scan_text scan))) (λ lines. prints-keeps lines.items)))

abbrev IsBusyAfter : Result Image Ending → Type 0
IsBusyAfter result = result ≡ Err (Busy Held)

not-busy : (image : Image) → IsBusyAfter (Ok image) → ⊥
not-busy image is = cc

-- a run of a script is what its law speaks of, after some tries
run-busy : (named : ImageForm) (form : RunForm) (is_typed : Bool) (input : Reading) → KeepsFiles (RunsScript named form is_typed input) → (tries : List (List Event)) (old new : List Event)
    → AreBusy (OpensFor form.saving named) tries old new → ChangesNothing old new
run-busy named form is_typed input keeps [] old new is path = same is path
run-busy named form is_typed input keeps (before ∷ earlier) old new (busy, after, last, is) path =
    same is path ∙ keeps before (Err (Busy Held)) after (inl last) path ∙ run-busy named form is_typed input keeps earlier old before busy path

run-keeps : (named : ImageForm) (form : RunForm) (is_typed : Bool) (input : Reading) → KeepsFiles (RunsScript named form is_typed input) → KeepsFiles (RunsImage named form is_typed input)
run-keeps named form is_typed input keeps old result new (inl ends) path = first result ends
  where
    first : (r : Result (Unit {0}) Ending) → Ends (Within named.wait named.file.bytes.items (OpensFor form.saving named)) old r new → changes_at path new ≡ changes_at path old
    first (Ok it) e = absurd e
    first (Err ending) w = (busy-told named.file.bytes.items (Err ending) w.after new w.told).0 path ∙ keeps w.between (Err ending) w.after (inl w.last) path
        ∙ run-busy named form is_typed input keeps w.tries old w.between w.busy path
run-keeps named form is_typed input keeps old result new (inr it) path = last it.done.told
  where
    -- an image that was opened is not busy, so nothing is printed of that
    last : TellsBusy named.file.bytes.items (Ok it.given) it.done.after it.between → changes_at path new ≡ changes_at path old
    last (inl p) = keeps it.done.between result new (inr (record { given = it.given; between = it.done.after; done = it.done.last; after = subst (λ (n : List Event). RunsOver form is_typed it.given input n result new) p.1 it.after })) path
        ∙ run-busy named form is_typed input keeps it.done.tries old it.done.between it.done.busy path
    last (inr p) = absurd (not-busy it.given p.0)

none-is : {X : Type 0} (o : Option X) → is_some o ≡ false → o ≡ None
none-is None is = refl
none-is (Some x) is = absurd (true≢false is)

-- ## All tasks

-- what the crates below know of their commands is handed in
module _
    (gets : (file : Asked) (how : GetForm) (form : ImageForm) → KeepsFiles (Shows (λ bytes. Gets bytes (target_of file) how) form))
    (blocks : (form : BlocksForm) → KeepsFiles (ShowsBlocks form))
    (tape-of : (file : Asked) (form : ImageForm) → KeepsFiles (ShowsTape file form))
    (reports : (kind : ReportKind) (reading : ImageReading) (file : List ℕ) → KeepsFiles (ReportsOne kind reading file))
    (checks : (form : CheckForm) → KeepsFiles (ChecksImages form))
    (lists : (form : ListForm) → KeepsFiles (ListsSome form))
    (texts : (image : ImageForm) (is_all : Bool) (words : List (List ℕ)) (places : List ℕ) → KeepsFiles (ShowsTexts image is_all words places))
    (indexes : (style : IndexStyle) (shape : LineShape) (reading : ImageReading) (names : List (List ℕ)) → KeepsFiles (Indexes style shape reading names))
    (tapes : (form : Option TapeForm) → KeepsFiles (ListsTape form))
    (rims : (form : RimForm) (tape : Option TapeForm) → KeepsFiles (WritesRim form tape))
    (sources : (form : SourceForm) → KeepsFiles (WritesSource form))
    (assembles : (form : AssembleForm) → form.onto ≡ None → form.output ≡ None → form.list ≡ None → KeepsFiles (Assembles form))
    (profiles : (form : TraceForm) → are_saved form.disk ≡ false → has_papers form.devices ≡ false → KeepsFiles (ProfilesTape form))
    (traces : (form : TraceForm) → are_saved form.disk ≡ false → has_papers form.devices ≡ false → KeepsFiles (TracesTape form))
  where
    assembled : (form : AssembleForm) → has_output form ≡ false → KeepsFiles (Assembles form)
    assembled form none = go (is_some form.onto) refl (is_some form.output) refl (is_some form.list) refl none
      where
        go : (a : Bool) → is_some form.onto ≡ a → (b : Bool) → is_some form.output ≡ b → (c : Bool) → is_some form.list ≡ c → (a || (b || c)) ≡ false → KeepsFiles (Assembles form)
        go true p b q c r is = absurd (true≢false is)
        go false p true q c r is = absurd (true≢false is)
        go false p false q true r is = absurd (true≢false is)
        go false p false q false r is = assembles form (none-is form.onto p) (none-is form.output q) (none-is form.list r)

    index-of : (form : IndexForm) → KeepsFiles (ListsIndex form)
    index-of form = then-keeps (Purely (ChoosesStyle form)) (λ style. Indexes style (shape_of form) (reading_of_index form) (map (λ image. image.bytes.items) form.images.items))
        (purely-keeps (ChoosesStyle form)) (λ style. indexes style (shape_of form) (reading_of_index form) (map (λ image. image.bytes.items) form.images.items))

    scans : (into : Option (String Global)) (image : ImageForm) → is_some into ≡ false → KeepsFiles (ScansBlocks into image)
    scans None image none = pieces-keep image
    scans (Some folder) image none = absurd (true≢false none)

    runs : (saving : Saving) → saves saving ≡ false → saving ≡ Never
    runs AtEnd is = absurd (true≢false is)
    runs Never is = refl
    runs Always is = absurd (true≢false is)

    neither-papers : (a b : Bool) → (a || b) ≡ false → (a ≡ false) × (b ≡ false)
    neither-papers true b is = absurd (true≢false is)
    neither-papers false b is = (refl, is)

    pub does-keep : (it : Task) (is_typed : Bool) (input : Reading) → ((form : TeletypeForm) → are_saved form.console.disk ≡ false → has_papers form.console.devices ≡ false → KeepsFiles (RunsTeletype form input))
        → ((named : ImageForm) (form : RunForm) → form.saving ≡ Never → KeepsFiles (RunsScript named form is_typed input))
        → ((form : ConsoleForm) → are_saved form.disk ≡ false → has_papers form.devices ≡ false → KeepsFiles (BootsDisk form input))
        → may_change it ≡ false → KeepsFiles (DoesTask it is_typed input)
    does-keep (task.Tape tape) is_typed input keys script boots quiet = tapes tape
    does-keep (task.Rim tape form) is_typed input keys script boots quiet = rims form tape
    does-keep (task.Source form) is_typed input keys script boots quiet = sources form
    does-keep (task.Assemble form) is_typed input keys script boots quiet = within-keeps (seconds_for form.from) (file_for form.from) (Assembles form) (assembled form quiet)
    does-keep (task.Teletype form) is_typed input keys script boots quiet =
        let two = neither-papers (are_saved form.console.disk) (has_papers form.console.devices) quiet in
        keys form two.0 two.1
    does-keep (task.Trace form) is_typed input keys script boots quiet =
        let two = neither-papers (are_saved form.disk) (has_papers form.devices) quiet in
        traces form two.0 two.1
    does-keep (task.Profile form) is_typed input keys script boots quiet =
        let two = neither-papers (are_saved form.disk) (has_papers form.devices) quiet in
        profiles form two.0 two.1
    does-keep (task.Boot form) is_typed input keys script boots quiet =
        let two = neither-papers (are_saved form.disk) (has_papers form.devices) quiet in
        boots form two.0 two.1
    does-keep (task.Create form blocks) is_typed input keys script boots quiet = absurd (true≢false quiet)
    does-keep (task.CreateTape form) is_typed input keys script boots quiet = absurd (true≢false quiet)
    does-keep (task.CreateDisk form) is_typed input keys script boots quiet = absurd (true≢false quiet)
    does-keep (task.CreateVolume image) is_typed input keys script boots quiet = absurd (true≢false quiet)
    does-keep (task.List image) is_typed input keys script boots quiet = reports report.Files (reading_of image) image.file.bytes.items
    does-keep (task.ListLong image year) is_typed input keys script boots quiet = reports (report.Places year) (reading_of image) image.file.bytes.items
    does-keep (task.ListSome form) is_typed input keys script boots quiet = lists form
    does-keep (task.Get image file form) is_typed input keys script boots quiet = gets file form image
    does-keep (task.GetBin image file) is_typed input keys script boots quiet = tape-of file image
    does-keep (task.GetMany form) is_typed input keys script boots quiet = absurd (true≢false quiet)
    does-keep (task.GetTexts form) is_typed input keys script boots quiet = texts form.image form.is_all (map (λ name. name.bytes.items) form.names.items) form.places.items
    does-keep (task.GetBlocks form) is_typed input keys script boots quiet = blocks form
    does-keep (task.Put form) is_typed input keys script boots quiet = absurd (true≢false quiet)
    does-keep (task.Delete form) is_typed input keys script boots quiet = absurd (true≢false quiet)
    does-keep (task.Rename image file new) is_typed input keys script boots quiet = absurd (true≢false quiet)
    does-keep (task.Copy form) is_typed input keys script boots quiet = absurd (true≢false quiet)
    does-keep (task.Squeeze image) is_typed input keys script boots quiet = absurd (true≢false quiet)
    does-keep (task.Check form) is_typed input keys script boots quiet = checks form
    does-keep (task.Dump form) is_typed input keys script boots quiet = dumps-keep form.span form.is_sixbit form.image
    does-keep (task.Patch form) is_typed input keys script boots quiet = absurd (true≢false quiet)
    does-keep (task.Index form) is_typed input keys script boots quiet = index-of form
    does-keep (task.Rescue form) is_typed input keys script boots quiet = absurd (true≢false quiet)
    does-keep (task.Scan form) is_typed input keys script boots quiet = scans form.into form.image quiet
    does-keep (task.Run image form) is_typed input keys script boots quiet = run-keeps image form is_typed input (script image form (runs form.saving quiet))

pub runs-keep : (it : Task) (is_typed : Bool) (input : Reading) (old new : List Event) (status : ℕ) → KeepsFiles (DoesTask it is_typed input) → RunsTask it is_typed input old new status → ChangesNothing old new
runs-keep it is_typed input old new status keeps (inl r) path = ends-so (gives_data it) r.notes r.work r.between new status r.ends path ∙ keeps old r.work r.between r.does path
runs-keep it is_typed input old new status keeps (inr e) path = ends-so (gives_data it) None (Err (Fault Memory)) old new status e path
