-- A check that ends well has read each image file, and each volume in it is sound.
use Rattle.std.proofs.Common.{◌≡◌, ◌∙◌, ◌∷◌, ◌+◌, ◌&&◌, ℕ, Bool, true, false, nat_eq, Option, None, Some, Result, Ok, Err, List, [], ap, arith, codes, inl, inr, length, map, refl, subst, sym}
use Rattle.std.proofs.lemmas.Bool.Decides.{nat_tests}
use Rattle.hosts.specs.Event.{Event, DropLeftovers, failed_call, leftovers_call, look_call, print_call, seconds_call, tell_call, terminal_call}
use Rattle.hosts.specs.Streams.{read}
use Rattle.disk_layouts.specs.declared.layouts.Layout.{Layout}
use Rattle.disk_layouts.specs.declared.layouts.Layout.TheVariants.{First, Second}
use Rattle.image_kind.specs.Margins.{body_of, margins_in}
use Rattle.image_kind.specs.Volumes.{volumes_in}
use Rattle.image_kind.specs.declared.margins.Margins.{Margins}
use Rattle.image_kind.specs.declared.volumes.Volumes.{Volumes}
use Rattle.image_kind.specs.declared.volumes.Volumes.TheVariants.{One, Both}
use Rattle.outcome.specs.Notes.{leftovers_text, margins_text}
use Rattle.outcome.specs.declared.endings.Ending.{Ending}
use Rattle.program_reports.specs.declared.programs.ProgramLine.{ProgramLine}
use Rattle.program_tasks.specs.declared.forms.CheckForm.{CheckForm}
use Rattle.image_files.specs.Answers.{Answers, AreLines}
use Rattle.std.specs.Global.{Vec}
use Rattle.image_kind.specs.Lines.{mended_lines}
use Rattle.image_files.specs.Leftovers.{images_among}
use Rattle.image_kind.specs.declared.kinds.ImageKind.{ImageKind}
use Rattle.image_kind.specs.Keeping.{two_readings}
use Rattle.image_files.specs.Judging.{JudgesBy}
use Rattle.image_files.specs.Mending.{TellsLines}
use Rattle.image_files.specs.Reading.{JudgesLooked, LooksIf, LooksImage, file_named, reading_named}
use Rattle.image_files.specs.Saving.{Prints}
use Rattle.image_files.specs.declared.mending.ImageReading.{ImageReading}
use Rattle.image_files.specs.Work.{After, Then, Purely}
use Rattle.show_commands.specs.declared.reports.Report.{Report}
use Rattle.show_commands.specs.Checking.{ChecksEach, ChecksEachImage, ChecksFiles, ChecksImages, ChecksNext, ChecksSeveral, DropsBeside, DropsEach, PrintsCount, TellsDropped, kind_of_check, reading_of_check, with_refusal}
use Rattle.show_commands.specs.Laws.{AreSound, AreSoundIn, IsReadAs, IsSoundFile, IsSoundVolume}
use Rattle.host_progress.specs.Progressing.{BeginsProgress, EndsProgress, TellsDone, progress_text}
use Rattle.image_files.specs.Ending.{EndsSound}
use Rattle.show_commands.specs.Reporting.{PrintsNamed, PrintsReport, Reports, TellsLine, TellsRefusal, line_in}
use Rattle.show_commands.specs.Volumes.{ReportsAlone, ReportsAt, ReportsBoth, ReportsBytes, ReportsBytesAmong, ReportsFile, ReportsNext, ReportsNumbered, ReportsOne, ReportsVolume, ReportsVolumes, TellsMarginsIf, has_margins, is_check}

-- reads after some calls
reads : (old new : List Event) → new ≡ old → read new ≡ read old
reads old new is = ap (λ (events : List Event). read events) is

ends-sound : (is_sound : Bool) → EndsSound is_sound (Ok tt) → is_sound ≡ true
ends-sound true ends = refl
ends-sound false ends = absurd ends

abbrev given_or : Result Bool Ending → Bool
given_or (Ok it) = it
given_or (Err ending) = false

abbrev count_or : Result ℕ Ending → ℕ
count_or (Ok it) = it
count_or (Err ending) = 0

never : true ≡ false → ⊥
never is = cc

both-true : (one other : Bool) → (one && other) ≡ true → (one ≡ true) × (other ≡ true)
both-true true other is = (refl, is)
both-true false other is = absurd (never (sym is))

-- ## A volume

unsound-line : (text : Option ProgramLine) (ending : Ending) (report : Report) → TellsLine text ending (Ok report) → report.is_sound ≡ true → ⊥
unsound-line None ending report told sound = told
unsound-line (Some text) ending report told sound = never (sym sound ∙ told.1)

abbrev report_or : Report → Result Report Ending → Report
report_or other (Ok it) = it
report_or other (Err ending) = other

at-sound : (is_all : Bool) (layout : Option Layout) (body : List ℕ) (old : List Event) (report : Report) (new : List Event) → ReportsAt (kind_of_check is_all) layout body old (Ok report) new → report.is_sound ≡ true
    → IsSoundVolume is_all layout body × (new ≡ old)
at-sound is_all layout body old report new (inl (image, found, inl (other, reports, is, same))) sound =
    (record { image = image; found = found; report = report; reports = subst (λ r. Reports (kind_of_check is_all) image.items (Ok r)) (sym (ap (λ r. report_or report r) is)) reports; sound = sound }, same)
at-sound is_all layout body old report new (inl (image, found, inr (fault, ending, reports, refuses, told))) sound = absurd (unsound-line (line_in ending) ending report told sound)
at-sound is_all layout body old report new (inr (ending, found, told, same)) sound = absurd (unsound-line (line_in ending) ending report told sound)

named : (name : List ℕ) (report : Report) (old new : List Event) (is_sound : Bool) → PrintsNamed name report old (Ok is_sound) new → (is_sound ≡ report.is_sound) × (read new ≡ read old)
named name report old new is_sound (inl ends) = absurd ends
named name report old new is_sound (inr it) = lines it.after
  where
    lines : Then (After report.is_sound (Prints it.given.items)) (λ done. Purely (λ (result : Result Bool Ending). result ≡ Ok report.is_sound)) it.between (Ok is_sound) new → (is_sound ≡ report.is_sound) × (read new ≡ read old)
    lines (inl ends) = absurd ends
    lines (inr e) = (ap given_or e.after.0, reads e.between new e.after.1 ∙ reads (print_call true 0 it.given.items ∷ it.between) e.between e.done ∙ reads old it.between it.done.1)

volume-sound : (is_all : Bool) (name : List ℕ) (layout : Option Layout) (body : List ℕ) (old new : List Event) (is_sound : Bool) → ReportsVolume (kind_of_check is_all) name layout body old (Ok is_sound) new → is_sound ≡ true
    → IsSoundVolume is_all layout body × (read new ≡ read old)
volume-sound is_all name layout body old new is_sound (inl ends) sound = absurd ends
volume-sound is_all name layout body old new is_sound (inr it) sound =
    let end = named name it.given it.between new is_sound it.after in
    let at = at-sound is_all layout body old it.given it.between it.done (sym end.0 ∙ sound) in
    (at.0, end.1 ∙ reads old it.between at.1)

-- ## Both volumes of a disk

copied-sound : (is_all : Bool) (name : List ℕ) (layout : Layout) (body : List ℕ) (old new : List Event) (is_sound : Bool)
    → Then (Purely (AreLines body)) (λ copy. ReportsVolume (kind_of_check is_all) name (Some layout) copy.items) old (Ok is_sound) new → is_sound ≡ true → IsSoundVolume is_all (Some layout) body × (read new ≡ read old)
copied-sound is_all name layout body old new is_sound (inl ends) sound = absurd ends
copied-sound is_all name layout body old new is_sound (inr it) sound =
    let one = volume-sound is_all name (Some layout) it.given.items it.between new is_sound it.after sound in
    (subst (λ b. IsSoundVolume is_all (Some layout) b) it.done.0 one.0, one.1 ∙ reads old it.between it.done.1)

numbered-sound : (is_all : Bool) (file : List ℕ) (number : ℕ) (layout : Layout) (body : List ℕ) (old new : List Event) (is_sound : Bool) → ReportsNumbered (kind_of_check is_all) file number layout body old (Ok is_sound) new → is_sound ≡ true
    → IsSoundVolume is_all (Some layout) body × (read new ≡ read old)
numbered-sound is_all file number layout body old new is_sound (inl ends) sound = absurd ends
numbered-sound is_all file number layout body old new is_sound (inr it) sound =
    let one = copied-sound is_all it.given.bytes.items layout body it.between new is_sound it.after sound in
    (one.0, one.1 ∙ reads old it.between it.done.1)

second-sound : (is_all : Bool) (file body : List ℕ) (one : Bool) (old new : List Event) (is_sound : Bool)
    → Then (After one (ReportsNumbered (kind_of_check is_all) file 2 Second body)) (λ other. Purely (λ (result : Result Bool Ending). result ≡ Ok (one && other))) old (Ok is_sound) new → is_sound ≡ true
    → (one ≡ true) × IsSoundVolume is_all (Some Second) body × (read new ≡ read old)
second-sound is_all file body one old new is_sound (inl ends) sound = absurd ends
second-sound is_all file body one old new is_sound (inr it) sound =
    let are = both-true one it.given (sym (ap given_or it.after.0) ∙ sound) in
    let other = numbered-sound is_all file 2 Second body old it.between it.given it.done are.1 in
    (are.0, other.0, reads it.between new it.after.1 ∙ other.1)

both-sound : (is_all : Bool) (file body : List ℕ) (old new : List Event) (is_sound : Bool) → ReportsBoth (kind_of_check is_all) file body old (Ok is_sound) new → is_sound ≡ true → AreSoundIn is_all Both body × (read new ≡ read old)
both-sound is_all file body old new is_sound (inl ends) sound = absurd ends
both-sound is_all file body old new is_sound (inr it) sound =
    let second = second-sound is_all file body it.given it.between new is_sound it.after sound in
    let first = numbered-sound is_all file 1 First body old it.between it.given it.done second.0 in
    ((first.0, second.1), second.2 ∙ first.1)

-- ## The one file that is asked for

abbrev HasReadSound : Bool → ImageReading → List ℕ → List Event → List Event → Type 0
HasReadSound is_all reading name old new = (bytes : List ℕ) × IsSoundFile is_all reading bytes × (read new ≡ look_call name bytes ∷ read old)

printed : (report : Report) (old new : List Event) → PrintsReport report old (Ok tt) new → (report.is_sound ≡ true) × (read new ≡ read old)
printed report old new (inl ends) = absurd ends
printed report old new (inr it) = (ends-sound report.is_sound it.after.0, reads it.between new it.after.1 ∙ reads (print_call true 0 report.text.items ∷ old) it.between it.done)

answered : (is_all : Bool) (image : List ℕ) (old new : List Event) → Then (Answers (Reports (kind_of_check is_all) image) (length image)) PrintsReport old (Ok tt) new
    → (report : Report) × Reports (kind_of_check is_all) image (Ok report) × (report.is_sound ≡ true) × (read new ≡ read old)
answered is_all image old new (inl ends) = absurd ends
answered is_all image old new (inr it) =
    let end = printed it.given it.between new it.after in
    (it.given, it.done.0, end.0, end.1 ∙ reads old it.between it.done.1)

alone-sound : (is_all : Bool) (layout : Option Layout) (body : List ℕ) (old new : List Event) → ReportsAlone (kind_of_check is_all) layout body old (Ok tt) new → IsSoundVolume is_all layout body × (read new ≡ read old)
alone-sound is_all layout body old new (inl ends) = absurd ends
alone-sound is_all layout body old new (inr it) =
    let end = answered is_all it.given.items it.between new it.after in
    (record { image = it.given; found = it.done.0; report = end.0; reports = end.1; sound = end.2 }, end.3 ∙ reads old it.between it.done.1)

file-sound : (is_all : Bool) (file : List ℕ) (volumes : Volumes) (body : List ℕ) (old new : List Event) → ReportsFile (kind_of_check is_all) file volumes body old (Ok tt) new → AreSoundIn is_all volumes body × (read new ≡ read old)
file-sound is_all file (One layout) body old new reports = alone-sound is_all layout body old new reports
file-sound is_all file Both body old new (inl ends) = absurd ends
file-sound is_all file Both body old new (inr it) =
    let both = both-sound is_all file body old it.between it.given it.done (ends-sound it.given it.after.0) in
    (both.0, reads it.between new it.after.1 ∙ both.1)

lines-read : (lines : List ℕ) (old new : List Event) → TellsLines lines old new → read new ≡ read old
lines-read [] old new p = reads old new p
lines-read (c ∷ lines) old new p = reads (tell_call p.0 (c ∷ lines) ∷ old) new p.1

-- which bytes a file is read as, and that it was read
looked : (is_lenient : Bool) (given : Option Layout) (is_plain : Bool) (name : List ℕ) (old : List Event) (bytes : Vec ℕ) (new : List Event) → LooksIf is_lenient given is_plain name old (Ok bytes) new
    → (file : List ℕ) × IsReadAs is_lenient given is_plain file bytes.items × (read new ≡ look_call name file ∷ read old)
looked false given is_plain name old bytes new p = (bytes.items, refl, reads (look_call name bytes.items ∷ old) new p.1)
looked true given is_plain name old bytes new (inl ends) = absurd ends
looked true given is_plain name old bytes new (inr it) = (
  it.given.items,
  (it.after.0, it.after.1, it.after.2),
  lines-read (mended_lines name it.after.0) it.between new it.after.3 ∙ reads (look_call name it.given.items ∷ old) it.between it.done.1,
)

-- a file that may be read in one way is judged without a call
judged-by : (name : List ℕ) (two : Option (ImageKind × ImageKind)) (old new : List Event) → JudgesBy name two old (Ok tt) new → new ≡ old
judged-by name None old new p = p
judged-by name (Some two) old new p = absurd p

judged : (reading : ImageReading) (name : List ℕ) (file : Vec ℕ) (old : List Event) (bytes : Vec ℕ) (new : List Event) → JudgesLooked reading name file old (Ok bytes) new → (bytes ≡ file) × (new ≡ old)
judged reading name file old bytes new (inl ends) = absurd ends
judged reading name file old bytes new (inr it) = (it.after.0, it.after.1 ∙ judged-by name (two_readings reading.layout reading.is_plain file.items) old it.between it.done)

looked-image : (reading : ImageReading) (name : List ℕ) (old : List Event) (bytes : Vec ℕ) (new : List Event) → LooksImage reading name old (Ok bytes) new
    → (file : List ℕ) × IsReadAs reading.is_lenient reading.layout reading.is_plain file bytes.items × (read new ≡ look_call name file ∷ read old)
looked-image reading name old bytes new (inl ends) = absurd ends
looked-image reading name old bytes new (inr it) =
    let same = judged reading name it.given it.between bytes new it.after in
    let file = looked reading.is_lenient reading.layout reading.is_plain name old it.given it.between it.done in
    (file.0, subst (λ (b : Vec ℕ). IsReadAs reading.is_lenient reading.layout reading.is_plain file.0 b.items) (sym same.0) file.1, reads it.between new same.1 ∙ file.2)

note-read : (is_noted : Bool) (name : List ℕ) (margins : Margins) (old new : List Event) → TellsMarginsIf is_noted name margins old (Ok tt) new → read new ≡ read old
note-read false name margins old new p = reads old new p.1
note-read true name margins old new p = reads (tell_call p.0 (margins_text name margins.before margins.after) ∷ old) new p.1

bytes-sound : (is_all : Bool) (given : Option Layout) (is_plain : Bool) (file bytes : List ℕ) (old new : List Event) → ReportsBytes (kind_of_check is_all) given is_plain file bytes old (Ok tt) new
    → AreSoundIn is_all (volumes_in given is_plain bytes) (body_of given is_plain bytes) × (read new ≡ read old)
bytes-sound is_all given is_plain file bytes old new (inl ends) = absurd ends
bytes-sound is_all given is_plain file bytes old new (inr it) =
    let sound = file-sound is_all file (volumes_in given is_plain bytes) (body_of given is_plain bytes) it.between new it.after in
    (sound.0, sound.1 ∙ note-read (is_check (kind_of_check is_all) && has_margins (margins_in given is_plain bytes)) file (margins_in given is_plain bytes) old it.between it.done)

one-sound : (is_all : Bool) (reading : ImageReading) (name : List ℕ) (old new : List Event) → ReportsOne (kind_of_check is_all) reading name old (Ok tt) new → HasReadSound is_all reading name old new
one-sound is_all reading name old new (inl ends) = absurd ends
one-sound is_all reading name old new (inr it) =
    let sound = bytes-sound is_all reading.layout reading.is_plain name it.given.items it.between new it.after in
    let file = looked-image reading name old it.given it.between it.done in
    (file.0, (it.given.items, file.1, sound.0), sound.1 ∙ file.2)

-- ## Several files

volumes-sound : (is_all : Bool) (file : List ℕ) (volumes : Volumes) (body : List ℕ) (old new : List Event) (is_sound : Bool) → ReportsVolumes (kind_of_check is_all) file volumes body old (Ok is_sound) new → is_sound ≡ true
    → AreSoundIn is_all volumes body × (read new ≡ read old)
volumes-sound is_all file (One layout) body old new is_sound reports sound = volume-sound is_all file layout body old new is_sound reports sound
volumes-sound is_all file Both body old new is_sound reports sound = both-sound is_all file body old new is_sound reports sound

among-sound : (is_all : Bool) (given : Option Layout) (is_plain : Bool) (file bytes : List ℕ) (old new : List Event) (is_sound : Bool) → ReportsBytesAmong (kind_of_check is_all) given is_plain file bytes old (Ok is_sound) new → is_sound ≡ true
    → AreSoundIn is_all (volumes_in given is_plain bytes) (body_of given is_plain bytes) × (read new ≡ read old)
among-sound is_all given is_plain file bytes old new is_sound (inl ends) sound = absurd ends
among-sound is_all given is_plain file bytes old new is_sound (inr it) sound =
    let are = volumes-sound is_all file (volumes_in given is_plain bytes) (body_of given is_plain bytes) it.between new is_sound it.after sound in
    (are.0, are.1 ∙ note-read (is_check (kind_of_check is_all) && has_margins (margins_in given is_plain bytes)) file (margins_in given is_plain bytes) old it.between it.done)

unread : (file : List ℕ) (ending : Ending) (old new : List Event) (is_sound : Bool) → Then (Purely (TellsRefusal ending)) (PrintsNamed file) old (Ok is_sound) new → is_sound ≡ true → ⊥
unread file ending old new is_sound (inl ends) sound = ends
unread file ending old new is_sound (inr it) sound = unsound-line (line_in ending) ending it.given it.done.0 (sym (named file it.given it.between new is_sound it.after).0 ∙ sound)

next-read : (is_all : Bool) (reading : ImageReading) (file name : List ℕ) (old new : List Event) (is_sound : Bool) → ReportsNext (kind_of_check is_all) reading file name old (Ok is_sound) new → is_sound ≡ true → HasReadSound is_all reading file old new
next-read is_all reading file name old new is_sound (Ok bytes, between, looks, reports) sound =
    let are = among-sound is_all reading.layout reading.is_plain name bytes.items between new is_sound reports sound in
    let read_as = looked-image reading file old bytes between looks in
    (read_as.0, (bytes.items, read_as.1, are.0), are.1 ∙ read_as.2)
next-read is_all reading file name old new is_sound (Err ending, between, looks, reports) sound = absurd (unread name ending between new is_sound reports sound)

with-others : (form : CheckForm) (name : List ℕ) (old new : List Event) → HasReadSound form.is_all (reading_named (reading_of_check form) name) (file_named (reading_of_check form) name) old new
    → (names : List (List ℕ)) (last : List Event) → AreSound form names (read new) last → AreSound form (name ∷ names) (read old) last
with-others form name old new (bytes, sound, is) names last others = (bytes, sound, subst (λ r. AreSound form names r last) is others)

done-reads : (is_told : Bool) (done all : ℕ) (old new : List Event) → TellsDone is_told done all old new → read new ≡ read old
done-reads false done all old new p = reads old new p
done-reads true done all old new (passed, inl p) = reads (seconds_call passed ∷ old) new p
done-reads true done all old new (passed, inr p) = reads (tell_call p.0 (progress_text done all) ∷ seconds_call passed ∷ old) new p.2

next-sound : (form : CheckForm) (is_told : Bool) (done all : ℕ) (name : List ℕ) (old new : List Event) (is_sound : Bool) → ChecksNext form is_told done all name old (Ok is_sound) new → is_sound ≡ true
    → (names : List (List ℕ)) (last : List Event) → AreSound form names (read new) last → AreSound form (name ∷ names) (read old) last
next-sound form is_told done all name old new is_sound (inl ends) sound names last others = absurd ends
next-sound form is_told done all name old new is_sound (inr it) sound names last others =
    subst (λ r. AreSound form (name ∷ names) r last) (done-reads is_told done all old it.between it.done.1)
    (with-others form name it.between new (next-read form.is_all (reading_named (reading_of_check form) name) (file_named (reading_of_check form) name) name it.between new is_sound it.after sound) names last others)

none-refused : (is_sound : Bool) (refused : ℕ) → with_refusal is_sound refused ≡ 0 → (is_sound ≡ true) × (refused ≡ 0)
none-refused true refused is = (refl, is)
none-refused false refused is = absurd (omega (arith, is))

each-sound : (form : CheckForm) (is_told : Bool) (done all refused : ℕ) (names : List (List ℕ)) (count : ℕ) (old new : List Event) → ChecksEach form is_told done all refused names old (Ok count) new → count ≡ 0
    → (refused ≡ 0) × AreSound form names (read old) (read new)
each-sound form is_told done all refused [] count old new it none = (sym (ap count_or it.0) ∙ none, reads old new it.1)
each-sound form is_told done all refused (name ∷ names) count old new (inl ends) none = absurd ends
each-sound form is_told done all refused (name ∷ names) count old new (inr it) none =
    let rest = each-sound form is_told (done + 1) all (with_refusal it.given refused) names count it.between new it.after none in
    let sound = none-refused it.given refused rest.0 in
    (sound.1, next-sound form is_told done all name old it.between it.given it.done sound.0 names (read new) rest.1)

begun-reads : (is_told : Bool) (old new : List Event) → BeginsProgress is_told old new → read new ≡ read old
begun-reads true old new p = reads (seconds_call p.0 ∷ terminal_call false 1 ∷ terminal_call true 2 ∷ old) new p.1
begun-reads false old new (inl p) = reads (terminal_call false 2 ∷ old) new p
begun-reads false old new (inr p) = reads (terminal_call true 1 ∷ terminal_call true 2 ∷ old) new p

end-reads : (is_told : Bool) (old new : List Event) → EndsProgress is_told old new → read new ≡ read old
end-reads false old new p = reads old new p
end-reads true old new p = reads (tell_call p.0 (0o33 ∷ codes "[K") ∷ old) new p.1

is-zero : (n : ℕ) → nat_eq n 0 ≡ true → n ≡ 0
is-zero n is = grind (arith, nat_tests)

counted : (count refused : ℕ) (old new : List Event) → PrintsCount count refused old (Ok tt) new → (refused ≡ 0) × (read new ≡ read old)
counted count refused old new (inl ends) = absurd ends
counted count refused old new (inr it) = lines it.after
  where
    lines : Then (After (nat_eq refused 0) (Prints it.given.items)) (λ done. Purely (EndsSound (nat_eq refused 0))) it.between (Ok tt) new → (refused ≡ 0) × (read new ≡ read old)
    lines (inl ends) = absurd ends
    lines (inr e) = (is-zero refused (ends-sound (nat_eq refused 0) e.after.0), reads e.between new e.after.1 ∙ reads (print_call true 0 it.given.items ∷ it.between) e.between e.done ∙ reads old it.between it.done.1)

several-sound : (form : CheckForm) (names : List (List ℕ)) (old new : List Event) → ChecksSeveral form names old (Ok tt) new → AreSound form names (read old) (read new)
several-sound form names old new (inl ends) = absurd ends
several-sound form names old new (inr it) =
    let work = it.done in
    let end = counted (length names) it.given it.between new it.after in
    let each = each-sound form work.is_told 0 (length names) 0 names it.given work.begun work.done work.works end.0 in
    subst (λ r. AreSound form names (read old) r) (sym (end.1 ∙ end-reads work.is_told work.done it.between work.ends))
    (subst (λ r. AreSound form names r (read work.done)) (begun-reads work.is_told old work.begun work.begins) each.1)

pub files-sound : (form : CheckForm) (names : List (List ℕ)) (old new : List Event) → ChecksFiles form names old (Ok tt) new → AreSound form names (read old) (read new)
files-sound form [] old new checks = several-sound form [] old new checks
files-sound form (name ∷ []) old new checks = with-others form name old new (one-sound form.is_all (reading_named (reading_of_check form) name) (file_named (reading_of_check form) name) old new checks) [] (read new) refl
files-sound form (name ∷ other ∷ names) old new checks = several-sound form (name ∷ other ∷ names) old new checks

-- ## What lies beside them

dropped-reads : (is_none : Bool) (name : List ℕ) (count : ℕ) (old new : List Event) → TellsDropped is_none name count old (Ok tt) new → read new ≡ read old
dropped-reads true name count old new p = reads old new p.1
dropped-reads false name count old new p = reads (tell_call p.0 (leftovers_text name count) ∷ old) new p.1

beside-reads : (name : List ℕ) (old new : List Event) → DropsBeside name old (Ok tt) new → read new ≡ read old
beside-reads name old new (inl p) = dropped-reads (nat_eq p.0 0) name p.0 (leftovers_call name p.0 ∷ old) new p.1
beside-reads name old new (inr p) = reads (failed_call DropLeftovers name p.0 ∷ old) new p.2

drops-read : (form : CheckForm) (files : List (List ℕ)) (old new : List Event) → DropsEach form files old (Ok tt) new → read new ≡ read old
drops-read form [] old new p = reads old new p.1
drops-read form (file ∷ files) old new (inl ends) = absurd ends
drops-read form (file ∷ files) old new (inr it) = drops-read form files it.between new it.after ∙ beside-reads (file_named (reading_of_check form) file) old it.between it.done

each-image-sound : (form : CheckForm) (files : List (List ℕ)) (old new : List Event) → ChecksEachImage form files old (Ok tt) new → AreSound form files (read old) (read new)
each-image-sound form files old new (inl ends) = absurd ends
each-image-sound form files old new (inr it) = subst (λ r. AreSound form files r (read new)) (drops-read form files old it.between it.done) (files-sound form files it.between new it.after)

pub checks-sound : (form : CheckForm) (old new : List Event) → ChecksImages form old (Ok tt) new → AreSound form (images_among (map (λ file. file.bytes.items) form.images.items)) (read old) (read new)
checks-sound form old new (inl ends) = absurd ends
checks-sound form old new (inr it) =
    subst (λ files. AreSound form files (read old) (read new)) it.done.0
    (subst (λ events. AreSound form (map (λ image. image.bytes.items) it.given.items) (read events) (read new)) it.done.1 (each-image-sound form (map (λ image. image.bytes.items) it.given.items) it.between new it.after))
