-- Files of the host that are to be written, which must not be those that are read (this project's profile).
use Rattle.std.specs.Prelude.{◌≡◌, ◌⊎◌, ℕ, Bool, true, false, Result, Ok, Err, List, [], ◌∷◌, ◌++◌, codes}
use Rattle.hosts.specs.Event.{Event, failed_same, same_call, tell_call}
use Rattle.hosts.specs.declared.faults.HostFault.{HostFault}
use Rattle.program_reports.specs.declared.programs.ProgramLine.TheVariants.{OneFile}
use Rattle.outcome.specs.Notes.{name_text}
use Rattle.outcome.specs.declared.contents.Content.{Content}
use Rattle.outcome.specs.declared.notes.NameNote.TheVariants as note
use Rattle.outcome.specs.declared.endings.Ending.{Ending}
use Rattle.outcome.specs.declared.endings.Ending.TheVariants.{Line}
use Rattle.image_files.specs.Work.{Lacks, OrLacks, EndsTelling}
use Rattle.image_files.specs.Making.{ending_of_file}
use Rattle.image_files.specs.Reasons.{TellsUnheld}

-- two names that lead to one file, as a note has them
abbrev pub pair_name : List ℕ → List ℕ → List ℕ
pair_name one other = one ++ codes " and " ++ other

abbrev pub pair_text : List ℕ → List ℕ → List ℕ
pair_text output input = name_text note.OneFile (pair_name output input)

-- that two names are one file's is printed, unless memory is wanted for that
abbrev pub TellsPair : List ℕ → List ℕ → List Event → Result (Unit {0}) Ending → List Event → Type 0
TellsPair output input old (Ok it) new = (ok : Bool) × (new ≡ tell_call ok (pair_text output input) ∷ old)
TellsPair output input old (Err ending) new = Lacks old ending new

-- an output that is an input is refused, with both names
abbrev pub RefusesPair : List ℕ → List ℕ → List Event → Ending → List Event → Type 0
RefusesPair output input = OrLacks (EndsTelling (Line OneFile) (pair_text output input))

-- The host is asked of a name that is to be written, and of another, whether they lead to one file. Where they do, or the host can't say,
-- the command ends, and a note says why. So it goes on only where the host said that they don't.
abbrev pub IsApart : Content → List ℕ → List ℕ → List Event → Result (Unit {0}) Ending → List Event → Type 0
IsApart content output input old (Ok it) new = new ≡ same_call output input false ∷ old
IsApart content output input old (Err ending) new =
    RefusesPair output input (same_call output input true ∷ old) ending new
    ⊎ ((fault : HostFault) × (ending ≡ ending_of_file content fault) × TellsUnheld content fault output (failed_same output input fault ∷ old) new)

-- among some calls the host said of two names that they don't lead to one file
abbrev pub IsSaidApart : List ℕ → List ℕ → List Event → Type 0
IsSaidApart output input [] = ⊥
IsSaidApart output input (e ∷ earlier) = (e ≡ same_call output input false) ⊎ IsSaidApart output input earlier
