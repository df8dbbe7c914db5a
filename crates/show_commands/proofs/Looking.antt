-- Commands that change no file at all.
use Rattle.std.proofs.Common.{◌≡◌, ◌∙◌, ◌+◌, ◌&&◌, ℕ, Bool, true, false, ap, inl, inr, Option, Some, Result, Ok, Err, List, [], ◌∷◌, length, map, nat_eq}
use Rattle.std.specs.Global.{Vec}
use Rattle.disk_layouts.specs.declared.layouts.Layout.{Layout}
use Rattle.disk_layouts.specs.declared.layouts.Layout.TheVariants.{First, Second}
use Rattle.image_kind.specs.Margins.{body_of, margins_in}
use Rattle.image_kind.specs.Volumes.{volumes_in}
use Rattle.image_kind.specs.declared.margins.Margins.{Margins}
use Rattle.image_kind.specs.declared.volumes.Volumes.{Volumes}
use Rattle.image_kind.specs.declared.volumes.Volumes.TheVariants.{One, Both}
use Rattle.hosts.specs.Event.{Event, leftovers_call}
use Rattle.hosts.specs.Streams.{changes_at}
use Rattle.outcome.specs.declared.endings.Ending.{Ending}
use Rattle.program_reports.specs.Program.{program_line}
use Rattle.program_reports.specs.declared.programs.ProgramLine.TheVariants as line
use Rattle.program_tasks.specs.declared.forms.CheckForm.{CheckForm}
use Rattle.image_files.specs.Answers.{Answers, AreLines, named_lines}
use Rattle.image_files.specs.declared.mending.ImageReading.{ImageReading}
use Rattle.image_files.specs.Reading.{FindsVolume, LooksImage, file_named, reading_named}
use Rattle.image_files.specs.Saving.{Prints}
use Rattle.image_files.specs.Work.{After, Then, Purely}
use Rattle.show_commands.specs.declared.reports.Report.{Report}
use Rattle.show_commands.specs.declared.reports.ReportKind.{ReportKind}
use Rattle.show_commands.specs.Checking.{ChecksEach, ChecksEachImage, ChecksFiles, ChecksImages, ChecksNext, ChecksSeveral, DropsBeside, DropsEach, PrintsCount, TellsDropped, kind_of_check, reading_of_check, with_refusal}
use Rattle.image_files.specs.Ending.{EndsSound}
use Rattle.show_commands.specs.Reporting.{PrintsNamed, PrintsReport, Reports, TellsRefusal}
use Rattle.show_commands.specs.Volumes.{IsVolumeName, ReportsAlone, ReportsAt, ReportsBoth, ReportsBytes, ReportsFile, ReportsNext, ReportsNumbered, ReportsOne, ReportsRead, ReportsVolume, ReportsVolumes, TellsMargins, TellsMarginsIf, has_margins, is_check}
use Rattle.host_progress.specs.Progressing.{TellsProgress, WithProgress}
use Rattle.image_files.specs.Laws.{KeepsFiles}
use Rattle.image_files.specs.Leftovers.{ChoosesImages}
use Rattle.image_files.proofs.KeepLemmas.{after-keeps, then-keeps, purely-keeps, prints-keeps, looks-image-keeps}
use Rattle.image_files.proofs.LeaveLemmas.{answers-never, refuses-never}
use Rattle.host_progress.proofs.KeepLemmas.{progress-never, with-progress-never}

prints-report-never : (report : Report) → KeepsFiles (PrintsReport report)
prints-report-never report =
    then-keeps (After report.is_sound (Prints report.text.items)) (λ it. Purely (EndsSound report.is_sound)) (after-keeps report.is_sound (Prints report.text.items) (prints-keeps report.text.items))
    (λ it. purely-keeps (EndsSound report.is_sound))

prints-named-never : (file : List ℕ) (report : Report) → KeepsFiles (PrintsNamed file report)
prints-named-never file report =
    then-keeps (Purely (AreLines (named_lines file report.text.items))) (λ lines. Then (After report.is_sound (Prints lines.items)) (λ it. Purely (λ (result : Result Bool Ending). result ≡ Ok report.is_sound)))
    (purely-keeps (AreLines (named_lines file report.text.items)))
    (λ lines. then-keeps (After report.is_sound (Prints lines.items)) (λ it. Purely (λ (result : Result Bool Ending). result ≡ Ok report.is_sound)) (after-keeps report.is_sound (Prints lines.items) (prints-keeps lines.items)) (λ it. purely-keeps (λ (result : Result Bool Ending). result ≡ Ok report.is_sound)))

at-never : (kind : ReportKind) (layout : Option Layout) (body : List ℕ) → KeepsFiles (ReportsAt kind layout body)
at-never kind layout body old result new (inl (image, found, inl (report, reports, is, same))) path = ap (λ (events : List Event). changes_at path events) same
at-never kind layout body old result new (inl (image, found, inr (fault, ending, reports, refuses, told))) path = refuses-never fault (length image.items) old ending new refuses path
at-never kind layout body old result new (inr (ending, found, told, same)) path = ap (λ (events : List Event). changes_at path events) same

reports-volume-never : (kind : ReportKind) (name : List ℕ) (layout : Option Layout) (body : List ℕ) → KeepsFiles (ReportsVolume kind name layout body)
reports-volume-never kind name layout body = then-keeps (ReportsAt kind layout body) (PrintsNamed name) (at-never kind layout body) (prints-named-never name)

numbered-never : (kind : ReportKind) (file : List ℕ) (number : ℕ) (layout : Layout) (body : List ℕ) → KeepsFiles (ReportsNumbered kind file number layout body)
numbered-never kind file number layout body =
    then-keeps (Purely (IsVolumeName file number)) (λ name. Then (Purely (AreLines body)) (λ copy. ReportsVolume kind name.bytes.items (Some layout) copy.items)) (purely-keeps (IsVolumeName file number))
    (λ name. then-keeps (Purely (AreLines body)) (λ copy. ReportsVolume kind name.bytes.items (Some layout) copy.items) (purely-keeps (AreLines body))
    (λ copy. reports-volume-never kind name.bytes.items (Some layout) copy.items))

both-never : (kind : ReportKind) (file body : List ℕ) → KeepsFiles (ReportsBoth kind file body)
both-never kind file body =
    then-keeps (ReportsNumbered kind file 1 First body) (λ one. Then (After one (ReportsNumbered kind file 2 Second body)) (λ other. Purely (λ (result : Result Bool Ending). result ≡ Ok (one && other))))
    (numbered-never kind file 1 First body)
    (λ one. then-keeps (After one (ReportsNumbered kind file 2 Second body)) (λ other. Purely (λ (result : Result Bool Ending). result ≡ Ok (one && other))) (after-keeps one (ReportsNumbered kind file 2 Second body) (numbered-never kind file 2 Second body))
    (λ other. purely-keeps (λ (result : Result Bool Ending). result ≡ Ok (one && other))))

alone-never : (kind : ReportKind) (layout : Option Layout) (body : List ℕ) → KeepsFiles (ReportsAlone kind layout body)
alone-never kind layout body =
    then-keeps (Purely (FindsVolume layout body)) (λ image. Then (Answers (Reports kind image.items) (length image.items)) PrintsReport) (purely-keeps (FindsVolume layout body))
    (λ image. then-keeps (Answers (Reports kind image.items) (length image.items)) PrintsReport (answers-never (Reports kind image.items) (length image.items)) prints-report-never)

file-never : (kind : ReportKind) (file : List ℕ) (volumes : Volumes) (body : List ℕ) → KeepsFiles (ReportsFile kind file volumes body)
file-never kind file (One layout) body = alone-never kind layout body
file-never kind file Both body = then-keeps (ReportsBoth kind file body) (λ is_sound. Purely (EndsSound is_sound)) (both-never kind file body) (λ is_sound. purely-keeps (EndsSound is_sound))

note-never : (is_noted : Bool) (name : List ℕ) (margins : Margins) → KeepsFiles (TellsMarginsIf is_noted name margins)
note-never false name margins old result new p path = ap (λ (events : List Event). changes_at path events) p.1
note-never true name margins old (Ok it) new p path = ap (λ (events : List Event). changes_at path events) p.1
note-never true name margins old (Err ending) new p path = ap (λ (events : List Event). changes_at path events) p.1

margins-never : (kind : ReportKind) (name : List ℕ) (margins : Margins) → KeepsFiles (TellsMargins kind name margins)
margins-never kind name margins = note-never (is_check kind && has_margins margins) name margins

bytes-never : (kind : ReportKind) (given : Option Layout) (is_plain : Bool) (file bytes : List ℕ) → KeepsFiles (ReportsBytes kind given is_plain file bytes)
bytes-never kind given is_plain file bytes =
    then-keeps (TellsMargins kind file (margins_in given is_plain bytes)) (λ it. ReportsFile kind file (volumes_in given is_plain bytes) (body_of given is_plain bytes)) (margins-never kind file (margins_in given is_plain bytes))
    (λ it. file-never kind file (volumes_in given is_plain bytes) (body_of given is_plain bytes))

pub one-never : (kind : ReportKind) (reading : ImageReading) (file : List ℕ) → KeepsFiles (ReportsOne kind reading file)
one-never kind reading file =
    then-keeps (LooksImage reading file) (λ bytes. ReportsBytes kind reading.layout reading.is_plain file bytes.items) (looks-image-keeps reading file)
    (λ bytes. bytes-never kind reading.layout reading.is_plain file bytes.items)

volumes-never : (kind : ReportKind) (file : List ℕ) (volumes : Volumes) (body : List ℕ) → KeepsFiles (ReportsVolumes kind file volumes body)
volumes-never kind file (One layout) body = reports-volume-never kind file layout body
volumes-never kind file Both body = both-never kind file body

read-never : (kind : ReportKind) (given : Option Layout) (is_plain : Bool) (file : List ℕ) (bytes : Result (Vec ℕ) Ending) → KeepsFiles (ReportsRead kind given is_plain file bytes)
read-never kind given is_plain file (Ok bytes) =
    then-keeps (TellsMargins kind file (margins_in given is_plain bytes.items)) (λ it. ReportsVolumes kind file (volumes_in given is_plain bytes.items) (body_of given is_plain bytes.items)) (margins-never kind file (margins_in given is_plain bytes.items))
    (λ it. volumes-never kind file (volumes_in given is_plain bytes.items) (body_of given is_plain bytes.items))
read-never kind given is_plain file (Err ending) = then-keeps (Purely (TellsRefusal ending)) (PrintsNamed file) (purely-keeps (TellsRefusal ending)) (prints-named-never file)

reports-next-never : (kind : ReportKind) (reading : ImageReading) (file name : List ℕ) → KeepsFiles (ReportsNext kind reading file name)
reports-next-never kind reading file name old result new (bytes, between, looks, p) = λ path. read-never kind reading.layout reading.is_plain name bytes between result new p path ∙ looks-image-keeps reading file old bytes between looks path

next-never : (form : CheckForm) (is_told : Bool) (done all : ℕ) (file : List ℕ) → KeepsFiles (ChecksNext form is_told done all file)
next-never form is_told done all file =
    then-keeps (TellsProgress is_told done all) (λ it. ReportsNext (kind_of_check form.is_all) (reading_named (reading_of_check form) file) (file_named (reading_of_check form) file) file) (progress-never is_told done all)
    (λ it. reports-next-never (kind_of_check form.is_all) (reading_named (reading_of_check form) file) (file_named (reading_of_check form) file) file)

each-never : (form : CheckForm) (is_told : Bool) (done all refused : ℕ) (files : List (List ℕ)) → KeepsFiles (ChecksEach form is_told done all refused files)
each-never form is_told done all refused [] = purely-keeps (λ (result : Result ℕ Ending). result ≡ Ok refused)
each-never form is_told done all refused (file ∷ files) =
    then-keeps (After (nat_eq refused 0) (ChecksNext form is_told done all file)) (λ is_sound. ChecksEach form is_told (done + 1) all (with_refusal is_sound refused) files)
    (after-keeps (nat_eq refused 0) (ChecksNext form is_told done all file) (next-never form is_told done all file))
    (λ is_sound. each-never form is_told (done + 1) all (with_refusal is_sound refused) files)

count-never : (count refused : ℕ) → KeepsFiles (PrintsCount count refused)
count-never count refused =
    then-keeps (Purely (AreLines (program_line (line.Images count refused)))) (λ text. Then (After (nat_eq refused 0) (Prints text.items)) (λ it. Purely (EndsSound (nat_eq refused 0)))) (purely-keeps (AreLines (program_line (line.Images count refused))))
    (λ text. then-keeps (After (nat_eq refused 0) (Prints text.items)) (λ it. Purely (EndsSound (nat_eq refused 0))) (after-keeps (nat_eq refused 0) (Prints text.items) (prints-keeps text.items)) (λ it. purely-keeps (EndsSound (nat_eq refused 0))))

several-never : (form : CheckForm) (files : List (List ℕ)) → KeepsFiles (ChecksSeveral form files)
several-never form files =
    then-keeps (WithProgress (λ is_told. ChecksEach form is_told 0 (length files) 0 files)) (PrintsCount (length files))
    (with-progress-never (λ is_told. ChecksEach form is_told 0 (length files) 0 files) (λ is_told. each-never form is_told 0 (length files) 0 files)) (count-never (length files))

files-never : (form : CheckForm) (files : List (List ℕ)) → KeepsFiles (ChecksFiles form files)
files-never form [] = several-never form []
files-never form (file ∷ []) = one-never (kind_of_check form.is_all) (reading_named (reading_of_check form) file) (file_named (reading_of_check form) file)
files-never form (file ∷ other ∷ files) = several-never form (file ∷ other ∷ files)

dropped-never : (is_none : Bool) (name : List ℕ) (count : ℕ) → KeepsFiles (TellsDropped is_none name count)
dropped-never true name count old result new p path = ap (λ (events : List Event). changes_at path events) p.1
dropped-never false name count old (Ok it) new p path = ap (λ (events : List Event). changes_at path events) p.1
dropped-never false name count old (Err ending) new p path = ap (λ (events : List Event). changes_at path events) p.1

beside-never : (name : List ℕ) → KeepsFiles (DropsBeside name)
beside-never name old result new (inl p) path = dropped-never (nat_eq p.0 0) name p.0 (leftovers_call name p.0 ∷ old) result new p.1 path
beside-never name old result new (inr p) path = ap (λ (events : List Event). changes_at path events) p.2

drops-never : (form : CheckForm) (files : List (List ℕ)) → KeepsFiles (DropsEach form files)
drops-never form [] = purely-keeps (λ (result : Result (Unit {0}) Ending). result ≡ Ok tt)
drops-never form (file ∷ files) =
    then-keeps (DropsBeside (file_named (reading_of_check form) file)) (λ it. DropsEach form files) (beside-never (file_named (reading_of_check form) file)) (λ it. drops-never form files)

each-image-never : (form : CheckForm) (files : List (List ℕ)) → KeepsFiles (ChecksEachImage form files)
each-image-never form files = then-keeps (DropsEach form files) (λ it. ChecksFiles form files) (drops-never form files) (λ it. files-never form files)

pub checks-never : (form : CheckForm) → KeepsFiles (ChecksImages form)
checks-never form =
    then-keeps (Purely (ChoosesImages (map (λ file. file.bytes.items) form.images.items))) (λ images. ChecksEachImage form (map (λ image. image.bytes.items) images.items)) (purely-keeps (ChoosesImages (map (λ file. file.bytes.items) form.images.items)))
    (λ images. each-image-never form (map (λ image. image.bytes.items) images.items))
