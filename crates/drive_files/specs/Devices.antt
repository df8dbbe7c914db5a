-- The tape in the reader of an 8/E, its clock, and the files of its papers. These get what is punched, what is printed on the line printer, and
-- a line of each transfer of a disk (this project's profile).
use Rattle.std.specs.Prelude.{◌≡◌, ◌⊎◌, ◌<◌, ℕ, Bool, true, false, ◌||◌, if◌then◌else◌, is_some, Option, None, Some, Result, Ok, Err, String, List, [], ◌∷◌}
use Rattle.std.specs.Global.{Global, Vec}
use Rattle.pdp8e.specs.Papers.{PaperState, PapersState, new_papers}
use Rattle.pdp8e.specs.State.{Pdp8e, with_tape, with_paper, with_clock}
use Rattle.hosts.specs.Event.{Event, there_call}
use Rattle.hosts.specs.Faults.{fault_number}
use Rattle.hosts.specs.Streams.{failures, last_fault}
use Rattle.hosts.specs.declared.faults.HostFault.{HostFault}
use Rattle.hosts.specs.declared.holding.Held.{Held}
use Rattle.program_tasks.specs.declared.devices.DeviceForm.{DeviceForm}
use Rattle.refusals.specs.declared.faults.SessionFault.TheVariants.{Memory}
use Rattle.outcome.specs.declared.contents.Content.TheVariants.{Tape}
use Rattle.outcome.specs.declared.endings.Ending.{Ending}
use Rattle.outcome.specs.declared.endings.Ending.TheVariants.{Fault}
use Rattle.image_files.specs.Making.{MakesFile, ending_of_file}
use Rattle.image_files.specs.Reading.{IsIdle, Looks, hold_calls}
use Rattle.image_files.specs.Reasons.{TellsFault}
use Rattle.image_files.specs.Saving.{Writes}
use Rattle.image_files.specs.Work.{Then, Purely, Lacks, IsJust}
use Rattle.drive_files.specs.Saving.{SavesNothing, earlier}
use Rattle.drive_files.specs.declared.devices.OpenDevices.{OpenDevices}
use Rattle.drive_files.specs.declared.devices.PaperPlace.{PaperPlace}
use Rattle.drive_files.specs.declared.devices.PaperPlaces.{PaperPlaces}

-- a file gets what is punched, or printed on the line printer, or the lines of transfers
abbrev pub has_papers : DeviceForm → Bool
has_papers form = is_some form.punch || (is_some form.printer || is_some form.transfers)

-- ## Before the run

-- empty papers, which keep what is put on them where a file gets it, unless memory is wanted for that
abbrev pub TakesPapers : DeviceForm → Result PapersState Ending → Type 0
TakesPapers form (Ok papers) = papers ≡ new_papers (is_some form.punch) (is_some form.printer) (is_some form.transfers)
TakesPapers form (Err ending) = ending ≡ Fault Memory

-- the frames of the tape in the reader, if there is one
abbrev pub ReadsTape : Option (String Global) → List Event → Result (Option (Vec ℕ)) Ending → List Event → Type 0
ReadsTape None = Purely (IsJust None)
ReadsTape (Some name) = Then (Looks name.bytes.items name.bytes.items) (λ frames. Purely (IsJust (Some frames)))

-- how a command ends by a file of a paper that can't be held
abbrev pub ending_of_paper : HostFault → Ending
ending_of_paper fault = ending_of_file Tape fault

-- a call for the file of a paper failed by this fault, which is printed; nothing is changed or read
pub record LacksPaper (name : List ℕ) (fault : HostFault) (old new : List Event) : Type 0 where
  pub between : List Event
  pub idle : IsIdle old between
  pub failed : failures old < failures between
  pub last : last_fault between ≡ fault_number fault
  pub tells : TellsFault fault name between new

-- the file of a paper is held, or why not is printed
abbrev pub HoldsPaper : List ℕ → List Event → Result Held Ending → List Event → Type 0
HoldsPaper name old (Ok held) new = new ≡ hold_calls name held.path.bytes.items held.has_lock old
HoldsPaper name old (Err ending) new = (fault : HostFault) × (ending ≡ ending_of_paper fault) × LacksPaper name fault old new

-- an empty file is made where there is none
abbrev pub MakesNone : Bool → List ℕ → List Event → Result (Unit {0}) Ending → List Event → Type 0
MakesNone true name old result new = SavesNothing old result new
MakesNone false name old result new = MakesFile Tape name [] old result new

abbrev pub MakesPaper : List ℕ → List Event → Result (Unit {0}) Ending → List Event → Type 0
MakesPaper name old result new = (is_there : Bool) × MakesNone is_there name (there_call name is_there ∷ old) result new

-- a place of this path and name
abbrev pub IsPlace : List ℕ → List ℕ → Result PaperPlace Ending → Type 0
IsPlace path name (Ok place) = (place.path.bytes.items ≡ path) × (place.name.bytes.items ≡ name)
IsPlace path name (Err ending) = ⊥

-- the file of a paper is made or emptied, and held
abbrev pub EmptiesHeld : List ℕ → List Event → Result PaperPlace Ending → List Event → Type 0
EmptiesHeld name = Then (MakesPaper name) (λ it. Then (HoldsPaper name) (λ held. Then (Writes Tape held.path.bytes.items name []) (λ it. Purely (IsPlace held.path.bytes.items name))))

-- unless memory is wanted
abbrev pub WantsMemory : List Event → Result PaperPlace Ending → List Event → Type 0
WantsMemory old (Ok place) new = ⊥
WantsMemory old (Err ending) new = Lacks old ending new

abbrev pub EmptiesPaper : List ℕ → List Event → Result PaperPlace Ending → List Event → Type 0
EmptiesPaper name old result new = WantsMemory old result new ⊎ EmptiesHeld name old result new

-- if there is a file
abbrev pub OpensPaper : Option (String Global) → List Event → Result (Option PaperPlace) Ending → List Event → Type 0
OpensPaper None = Purely (IsJust None)
OpensPaper (Some name) = Then (EmptiesPaper name.bytes.items) (λ place. Purely (IsJust (Some place)))

abbrev pub paper_places : Option PaperPlace → Option PaperPlace → Option PaperPlace → PaperPlaces
paper_places punch printer transfers = record { punch = punch; printer = printer; transfers = transfers }

-- no file gets what is put on paper
abbrev pub no_papers : PaperPlaces
no_papers = paper_places None None None

-- the files of punch, line printer and transfers, one after the other
abbrev pub OpensPapers : DeviceForm → List Event → Result PaperPlaces Ending → List Event → Type 0
OpensPapers form =
    Then (OpensPaper form.punch) (λ punch. Then (OpensPaper form.printer) (λ printer. Then (OpensPaper form.transfers) (λ transfers.
    Purely (IsJust (paper_places punch printer transfers)))))

abbrev pub open_devices : Option (Vec ℕ) → PaperPlaces → OpenDevices
open_devices tape papers = record { tape = tape; papers = papers }

-- the tape is read, and then the files of the papers are opened
abbrev pub OpensDevices : DeviceForm → List Event → Result OpenDevices Ending → List Event → Type 0
OpensDevices form = Then (ReadsTape form.reader) (λ tape. Then (OpensPapers form) (λ papers. Purely (IsJust (open_devices tape papers))))

-- ## The machine

abbrev pub with_tape_if : Option (Vec ℕ) → Pdp8e → Pdp8e
with_tape_if None m = m
with_tape_if (Some frames) m = with_tape m frames.items

abbrev pub with_paper_if : Bool → Pdp8e → Pdp8e
with_paper_if is_there m = if is_there then with_paper m else m

abbrev pub with_clock_if : Option ℕ → Pdp8e → Pdp8e
with_clock_if None m = m
with_clock_if (Some period) m = with_clock m period

-- tape, paper and clock are put into a machine, each if there is one
abbrev pub with_devices : Pdp8e → DeviceForm → OpenDevices → Pdp8e
with_devices m form devices = with_clock_if form.clock (with_paper_if (is_some form.printer) (with_tape_if devices.tape m))

-- ## After the run

-- how a command ends by a paper that is whole, or not
abbrev pub paper_end : Bool → Result (Unit {0}) Ending
paper_end true = Ok tt
paper_end false = Err (Fault Memory)

-- the file of a paper gets what was put on it
pub record WritesPaper (paper : PaperState) (place : PaperPlace) (old : List Event) (result : Result (Unit {0}) Ending) (new : List Event) : Type 0 where
  pub written : Result (Unit {0}) Ending
  pub writes : Writes Tape place.path.bytes.items place.name.bytes.items paper.bytes old written new
  pub is : result ≡ earlier written (paper_end paper.whole)

-- if there is a file
abbrev pub SavesPaper : PaperState → Option PaperPlace → List Event → Result (Unit {0}) Ending → List Event → Type 0
SavesPaper paper None = SavesNothing
SavesPaper paper (Some place) = WritesPaper paper place

-- the punch's, the line printer's and that of transfers, each whatever became of those before it
pub record SavesPapers (papers : PapersState) (places : PaperPlaces) (old : List Event) (result : Result (Unit {0}) Ending) (new : List Event) : Type 0 where
  pub first : Result (Unit {0}) Ending
  pub second : Result (Unit {0}) Ending
  pub third : Result (Unit {0}) Ending
  pub after_first : List Event
  pub after_second : List Event
  pub saves_punch : SavesPaper papers.punch places.punch old first after_first
  pub saves_printer : SavesPaper papers.printer places.printer after_first second after_second
  pub saves_transfers : SavesPaper papers.transfers places.transfers after_second third new
  pub is : result ≡ earlier first (earlier second third)
