-- The command that writes the source of a tape.
use Rattle.std.specs.Prelude.{◌≡◌, ℕ, Bool, true, false, Option, None, Some, option_map, String, Result, Ok, Err, List, [], ◌∷◌}
use Rattle.std.specs.Global.{Vec, Global}
use Rattle.hosts.specs.Event.{Event}
use Rattle.tape_source.specs.declared.faults.ListFault.{ListFault}
use Rattle.pal8_source.specs.Checked.{IsCheckedSource}
use Rattle.pal8_source.specs.Sources.{IsPal8Fault}
use Rattle.pal8_source.specs.declared.faults.Pal8Fault.{Pal8Fault}
use Rattle.tape_reports.specs.Written.{IsSourceText, IsTextFault, fault_of_list, fault_of_pal8}
use Rattle.program_reports.specs.declared.faults.SourceFault.{SourceFault}
use Rattle.program_tasks.specs.declared.tasks.SourceForm.{SourceForm}
use Rattle.outcome.specs.Endings.{ending_of_source}
use Rattle.outcome.specs.declared.endings.Ending.{Ending}
use Rattle.image_files.specs.Work.{Then}
use Rattle.image_files.specs.Reading.{Looks}
use Rattle.image_files.specs.Saving.{Prints}
use Rattle.tape_commands.specs.Kinds.{RefusesFrames}
use Rattle.tape_commands.specs.Programs.{ReadsGiven}

-- the file of the host that names cells is read, if one is named
abbrev pub ReadsNames : Option (String Global) → List Event → Result (Option (Vec ℕ)) Ending → List Event → Type 0
ReadsNames None old (Ok names) new = (names ≡ None) × (new ≡ old)
ReadsNames None old (Err ending) new = ⊥
ReadsNames (Some file) old (Ok None) new = ⊥
ReadsNames (Some file) old (Ok (Some names)) new = Looks file.bytes.items file.bytes.items old (Ok names) new
ReadsNames (Some file) old (Err ending) new = Looks file.bytes.items file.bytes.items old (Err ending) new

-- where a program starts: at the cells that are given, else where its core image says
abbrev pub starts_or : List ℕ → Option ℕ → List ℕ
starts_or [] None = []
starts_or [] (Some start) = start ∷ []
starts_or (first ∷ others) start = first ∷ others

-- a text is the PAL III source of frames, or why they have none
abbrev pub IsPal3Text : List ℕ → List ℕ → Option (List ℕ) → Result (Vec ℕ) SourceFault → Type 0
IsPal3Text frames starts names (Ok text) = IsSourceText frames starts names text.items
IsPal3Text frames starts names (Err why) = (fault : ListFault) × IsTextFault frames starts names fault × (why ≡ fault_of_list fault)

-- The same of PAL8. Such a text comes back: assembled, it gives each cell what the frames give it.
abbrev pub IsPal8Text : List ℕ → List ℕ → Option (List ℕ) → Result (Vec ℕ) SourceFault → Type 0
IsPal8Text frames starts names (Ok text) = IsCheckedSource frames starts names text.items
IsPal8Text frames starts names (Err why) = (fault : Pal8Fault) × IsPal8Fault frames starts names fault × (why ≡ fault_of_pal8 fault)

-- in the language that is asked for
abbrev pub IsTextOf : Bool → List ℕ → List ℕ → Option (List ℕ) → Result (Vec ℕ) SourceFault → Type 0
IsTextOf true frames starts names result = IsPal8Text frames starts names result
IsTextOf false frames starts names result = IsPal3Text frames starts names result

-- the source of frames, or why they have none
abbrev pub GivesSource : Bool → List ℕ → List ℕ → Option (List ℕ) → List Event → Result (Vec ℕ) Ending → List Event → Type 0
GivesSource pal8 frames starts names old (Ok text) new = IsTextOf pal8 frames starts names (Ok text) × (new ≡ old)
GivesSource pal8 frames starts names old (Err ending) new =
    (why : SourceFault) × IsTextOf pal8 frames starts names (Err why) × RefusesFrames frames (ending_of_source why) old ending new

-- The file that names cells is read, if one is named, and then the tape. Its source is printed, with nothing else on standard output. No
-- file changes.
abbrev pub WritesSource : SourceForm → List Event → Result (Unit {0}) Ending → List Event → Type 0
WritesSource form = Then (ReadsNames form.names) (λ names. Then (ReadsGiven form.tape) (λ program. Then (GivesSource form.is_pal8 program.frames.items (starts_or form.starts.items program.start) (option_map (λ names. names.items) names)) (λ text. Prints text.items)))
