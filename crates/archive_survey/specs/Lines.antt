-- The lines of what is found in a directory (this project's profile).
use Rattle.std.specs.Prelude.{ℕ, zero, suc, ◌+◌, ◌&&◌, Bool, false, not, codes, decimal, nat_le, nat_lt, if◌then◌else◌, List, [], ◌∷◌, ◌++◌, length}
use Rattle.os8_dir.specs.declared.faults.DirFault.{DirFault}
use Rattle.refusals.specs.Faults.{directory_fault_text}
use Rattle.name_spelling.specs.Spelling.{text_of}
use Rattle.archive_survey.specs.declared.parts.Part.{Part}
use Rattle.archive_survey.specs.declared.parts.Part.TheVariants.{Segment, Fault, File, Empty}
use Rattle.archive_survey.specs.Findings.{Finding, Clean, Unsound, findings}

abbrev pub fault_line : DirFault → List ℕ
fault_line fault = directory_fault_text fault ++ 0o12 ∷ []

-- a block, and how many from it on
abbrev pub extent_text : ℕ → ℕ → List ℕ
extent_text place size = decimal place ++ 0o40 ∷ decimal size ++ 0o12 ∷ []

-- the line of a part
abbrev pub part_line : Part → List ℕ
part_line (Segment number count) = codes "SEGMENT " ++ extent_text number count
part_line (Fault fault) = fault_line fault
part_line (File name info place size) = codes "FILE " ++ text_of name ++ 0o40 ∷ extent_text place size
part_line (Empty place size) = codes "EMPTY " ++ extent_text place size

-- the lines of what is found; an unsound entry's fault has a line of its own
abbrev pub finding_lines : List Finding → List ℕ
finding_lines [] = []
finding_lines (Clean part ∷ rest) = part_line part ++ finding_lines rest
finding_lines (Unsound fault part ∷ rest) = fault_line fault ++ codes "UNSOUND " ++ part_line part ++ finding_lines rest

-- the line of a part that is a fault
abbrev pub loss_line : Part → List ℕ
loss_line (Segment number count) = []
loss_line (Fault fault) = fault_line fault
loss_line (File name info place size) = []
loss_line (Empty place size) = []

-- those of what is found that report a fault
abbrev pub loss_lines : List Finding → List ℕ
loss_lines [] = []
loss_lines (Clean part ∷ rest) = loss_line part ++ loss_lines rest
loss_lines (Unsound fault part ∷ rest) = fault_line fault ++ codes "UNSOUND " ++ part_line part ++ loss_lines rest

-- how many faults are reported
abbrev pub fault_count : Part → ℕ
fault_count (Segment number count) = 0
fault_count (Fault fault) = 1
fault_count (File name info place size) = 0
fault_count (Empty place size) = 0

abbrev pub count_faults : List Finding → ℕ
count_faults [] = 0
count_faults (Clean part ∷ rest) = fault_count part + count_faults rest
count_faults (Unsound fault part ∷ rest) = suc (count_faults rest)

-- ## Blocks that two entries claim

-- an entry has a block
abbrev pub has_block : Part → ℕ → Bool
has_block (Segment number count) block = false
has_block (Fault fault) block = false
has_block (File name info place size) block = nat_le place block && nat_lt block (place + size)
has_block (Empty place size) block = nat_le place block && nat_lt block (place + size)

-- how many sound entries have a block
abbrev pub claims : List Finding → ℕ → ℕ
claims [] block = 0
claims (Clean part ∷ rest) block = if has_block part block then suc (claims rest block) else claims rest block
claims (Unsound fault part ∷ rest) block = claims rest block

-- two sound entries or more have a block
abbrev pub is_twice : List Finding → ℕ → Bool
is_twice found block = nat_lt 1 (claims found block)

-- how many blocks pass a test one after the other, from a block on and among so many
abbrev pub run_length : (ℕ → Bool) → ℕ → ℕ → ℕ
run_length test zero block = 0
run_length test (suc more) block = if test block then suc (run_length test more (suc block)) else 0

-- the lines of the longest runs of blocks that pass a test, from a block on and among so many. Where the block before it passes, the
-- first of them began before.
abbrev pub run_lines : (ℕ → Bool) → Bool → ℕ → ℕ → List ℕ
run_lines test before zero block = []
run_lines test before (suc more) block =
    (if test block && not before then codes "TWICE " ++ extent_text block (run_length test (suc more) block) else [])
    ++ run_lines test (test block) more (suc block)

-- how many those are
abbrev pub count_runs : (ℕ → Bool) → Bool → ℕ → ℕ → ℕ
count_runs test before zero block = 0
count_runs test before (suc more) block = (if test block && not before then 1 else 0) + count_runs test (test block) more (suc block)

-- the text of a volume, and how many faults it reports
unfoldable pub survey_text : List (List ℕ) → List ℕ
survey_text blocks = finding_lines (findings blocks) ++ run_lines (is_twice (findings blocks)) false (length blocks) 0

-- those of its lines that report a fault
unfoldable pub survey_losses : List (List ℕ) → List ℕ
survey_losses blocks = loss_lines (findings blocks) ++ run_lines (is_twice (findings blocks)) false (length blocks) 0

unfoldable pub survey_faults : List (List ℕ) → ℕ
survey_faults blocks = count_faults (findings blocks) + count_runs (is_twice (findings blocks)) false (length blocks) 0
