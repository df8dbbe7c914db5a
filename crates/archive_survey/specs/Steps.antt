-- What steps of the code do. No contract of a public function cites these.
use Rattle.std.specs.Prelude.{◌≡◌, ℕ, zero, suc, ◌+◌, min, Bool, false, nat_lt, if◌then◌else◌, Option, Some, None, List, [], ◌∷◌, slice_index}
use Rattle.std.specs.Ordering.{nat_cmp}
use Rattle.std.specs.BTreeSet.{BTreeSet}
use Rattle.std.specs.BTreeSet as set
use Rattle.std.specs.Borrow.{Bor}
use Rattle.os8_dir.specs.Entries.{is_zero, contains}
use Rattle.os8_dir.specs.declared.faults.DirFault.{DirFault}
use Rattle.archive_survey.specs.declared.judging.Verdict.{Verdict}
use Rattle.archive_survey.specs.declared.judging.Verdict.TheVariants as verdict
use Rattle.archive_survey.specs.declared.parts.Part.{Part}
use Rattle.archive_survey.specs.declared.parts.Part.TheVariants.{Segment, Fault, File, Empty}
use Rattle.archive_survey.specs.Findings.{Finding, Clean, Unsound, why_unsound}

-- an entry with the words after it
abbrev pub shown_entry : Option (Part × Bor (List ℕ)) → Option (Part × List ℕ)
shown_entry (Some p) = Some (p.0, p.1.now)
shown_entry None = None

-- a name is among those of a set
abbrev pub has_key : BTreeSet ℕ → ℕ → Bool
has_key names name = set.contains nat_cmp names name

-- a set has the names of a list
pub record KnowsNames (set : BTreeSet ℕ) (names : List ℕ) : Type 0 where
  pub known : (name : ℕ) → has_key set name ≡ contains names name

-- the verdict on an entry that has blocks
abbrev pub verdict_by : Option DirFault → Verdict
verdict_by (Some fault) = verdict.Unsound fault
verdict_by None = verdict.Sound

-- the verdict on a part; what is no entry is reported as it stands
abbrev pub verdict_of : ℕ → List ℕ → Part → Verdict
verdict_of volume names (Segment number count) = verdict.Sound
verdict_of volume names (Fault fault) = verdict.Sound
verdict_of volume names (File name info place size) = if is_zero size then verdict.Nothing else verdict_by (why_unsound volume place size (contains names name))
verdict_of volume names (Empty place size) = if is_zero size then verdict.Nothing else verdict_by (why_unsound volume place size false)

-- what a verdict reports
abbrev pub findings_by : Verdict → Part → List Finding
findings_by verdict.Nothing part = []
findings_by verdict.Sound part = Clean part ∷ []
findings_by (verdict.Unsound fault) part = Unsound fault part ∷ []

-- a count after so many claims more of one part: up to two
abbrev pub count_after : ℕ → ℕ → ℕ
count_after zero count = count
count_after (suc more) count = min 2 (count + 1)

-- a table's test of a block
abbrev pub is_two : List ℕ → ℕ → Bool
is_two counts block = nat_lt 1 (slice_index counts block)
