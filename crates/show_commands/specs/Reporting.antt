-- The report of an image: what its directory says, or a list of its files.
use Rattle.std.specs.Prelude.{◌≡◌, ◌⊎◌, ℕ, Bool, true, false, nat_eq, Option, None, Some, Result, Ok, Err, List, length}
use Rattle.std.specs.Global.{Vec}
use Rattle.hosts.specs.Event.{Event}
use Rattle.volume_image.specs.Image.{ReadsImage}
use Rattle.volume_image.specs.declared.faults.ImageFault.{ImageFault}
use Rattle.volume_image.specs.declared.faults.ImageFault.TheVariants as image
use Rattle.refusals.specs.declared.faults.SessionFault.TheVariants.{Memory}
use Rattle.archive_files.specs.Checking.{Checks}
use Rattle.archive_files.specs.Listing.{ListsFiles}
use Rattle.archive_files.specs.declared.faults.ArchiveFault.{ArchiveFault}
use Rattle.archive_files.specs.declared.faults.ArchiveFault.TheVariants as archive
use Rattle.archive_survey.specs.Surveying.{IsSurveyed}
use Rattle.archive_survey.specs.declared.answers.Survey.{Survey}
use Rattle.show_commands.specs.Dates.{ListsDates}
use Rattle.program_reports.specs.Program.{program_line}
use Rattle.program_reports.specs.declared.programs.ProgramLine.{ProgramLine}
use Rattle.outcome.specs.declared.endings.Ending.{Ending}
use Rattle.outcome.specs.declared.endings.Ending.TheVariants.{Line, Fault, Failure, Busy, NotWritten, FullOutput, Unreported, NoReader, Misuse}
use Rattle.image_files.specs.Work.{After, Then, Purely}
use Rattle.image_files.specs.Answers.{AreLines, Refuses, named_lines}
use Rattle.image_files.specs.Saving.{Prints}
use Rattle.show_commands.specs.declared.reports.Report.{Report}
use Rattle.show_commands.specs.declared.reports.ReportKind.{ReportKind}
use Rattle.show_commands.specs.declared.reports.ReportKind.TheVariants as kinds
use Rattle.image_files.specs.Ending.{EndsSound}

-- ## The report of an image

-- bytes that are no image are refused
abbrev pub fault_of_image : ImageFault → ArchiveFault
fault_of_image image.NotWhole = archive.Image image.NotWhole
fault_of_image image.TooSmall = archive.Image image.TooSmall
fault_of_image image.TooLarge = archive.Image image.TooLarge
fault_of_image (image.BadWord number) = archive.Image (image.BadWord number)
fault_of_image image.Memory = archive.Refused Memory

-- all that the directory of an image still shows; the image is sound where this has no fault
abbrev pub SurveysAll : List ℕ → Result Report ArchiveFault → Type 0
SurveysAll bytes (Ok report) = (survey : Survey) × IsSurveyed bytes survey × (report.text.items ≡ survey.text.items) × (report.is_sound ≡ nat_eq survey.faults 0)
SurveysAll bytes (Err fault) = (why : ImageFault) × ReadsImage bytes (Err why) × (fault ≡ fault_of_image why)

-- a text of a sound image
abbrev pub IsSoundText : (Result (Vec ℕ) ArchiveFault → Type 0) → Result Report ArchiveFault → Type 0
IsSoundText gives (Ok report) = gives (Ok report.text) × (report.is_sound ≡ true)
IsSoundText gives (Err fault) = gives (Err fault)

-- the report of an image of these bytes: what its directory says, or all that it still shows, or its files by name or in order of their blocks
abbrev pub Reports : ReportKind → List ℕ → Result Report ArchiveFault → Type 0
Reports kinds.Directory bytes result = IsSoundText (Checks bytes) result
Reports kinds.Survey bytes result = SurveysAll bytes result
Reports kinds.Files bytes result = IsSoundText (ListsFiles bytes) result
Reports (kinds.Places year) bytes result = IsSoundText (ListsDates year bytes) result

-- ## What is printed of it

-- the lines of an image are printed
abbrev pub PrintsReport : Report → List Event → Result (Unit {0}) Ending → List Event → Type 0
PrintsReport report = Then (After report.is_sound (Prints report.text.items)) (λ it. Purely (EndsSound report.is_sound))

-- the lines of an image among others are printed, and it is answered whether it is sound
abbrev pub PrintsNamed : List ℕ → Report → List Event → Result Bool Ending → List Event → Type 0
PrintsNamed file report = Then (Purely (AreLines (named_lines file report.text.items))) (λ lines. Then (After report.is_sound (Prints lines.items)) (λ it. Purely (λ result. result ≡ Ok report.is_sound)))

-- ## An image among others

-- the line of an ending, if it has one of its own
abbrev pub line_in : Ending → Option ProgramLine
line_in (Line it) = Some it
line_in (Fault fault) = None
line_in Failure = None
line_in (Busy content) = None
line_in (NotWritten content left) = None
line_in FullOutput = None
line_in Unreported = None
line_in NoReader = None
line_in Misuse = None

-- an image that is refused with a line is reported by that, and is not sound; any other ending ends the command
abbrev pub TellsLine : Option ProgramLine → Ending → Result Report Ending → Type 0
TellsLine (Some it) ending (Ok report) = (report.text.items ≡ program_line it) × (report.is_sound ≡ false)
TellsLine (Some it) ending (Err other) = other ≡ Fault Memory
TellsLine None ending (Ok report) = ⊥
TellsLine None ending (Err other) = other ≡ ending

abbrev pub TellsRefusal : Ending → Result Report Ending → Type 0
TellsRefusal ending = TellsLine (line_in ending) ending

-- the report of bytes of an image among others; where it is refused, what may help is printed
abbrev pub ReportsAmong : ReportKind → List ℕ → List Event → Result Report Ending → List Event → Type 0
ReportsAmong kind bytes old result new = ((report : Report) × Reports kind bytes (Ok report) × (result ≡ Ok report) × (new ≡ old))
    ⊎ ((fault : ArchiveFault) × (ending : Ending) × Reports kind bytes (Err fault) × Refuses fault (length bytes) old ending new × TellsRefusal ending result)
