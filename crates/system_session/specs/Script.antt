-- The result of a script: the answers to its items, and the lines that are written.
use Rattle.std.specs.Prelude.{◌≡◌, ◌≢◌, ◌⊎◌, ℕ, Bool, true, false, if◌then◌else◌, Result, Ok, Err, Option, Some, None, List, [], ◌∷◌, ◌++◌}
use Rattle.std.specs.Io.KnownBytes.{Appends, IsAtEnd}
use Rattle.script8.specs.Items.{script_of, whole_of}
use Rattle.script8.specs.Replies.{answer_lines, reply_lines}
use Rattle.refusals.specs.Faults.{fault_line}
use Rattle.script8.specs.declared.entries.Entry.TheVariants.{Jobs}
use Rattle.script8.specs.declared.entries.JobEntry.TheVariants.{Turn}
use Rattle.refusals.specs.declared.faults.SessionFault.{SessionFault}
use Rattle.refusals.specs.declared.faults.SessionFault.TheVariants as fault
use Rattle.script8.specs.declared.items.Item.{Item}
use Rattle.script8.specs.declared.items.Item.TheVariants.{Do, Finish, Refused}
use Rattle.script8.specs.declared.replies.Reply.TheVariants.{Line}
use Rattle.script8.specs.declared.replies.LineReply.TheVariants.{Working, Finished}
use Rattle.volume_jobs.specs.Jobs.{lowest_job}
use Rattle.system_session.specs.State.{State}
use Rattle.system_session.specs.System.{Answer, MayAnswer}
use Rattle.script8.specs.Reading.{IsReadWithin}
use Rattle.system_session.specs.Reading.{IsTaken}

-- The machine may give these answers to turns of the lowest job, one after another. None is want of memory.
abbrev pub Turns : State → List (ℕ × Answer) → State → Type 0
Turns old [] new = new ≡ old
Turns old ((number, answer) ∷ turns) new =
    (lowest_job old.jobs ≡ Some number) × (mid : State) × MayAnswer old (Jobs (Turn number)) answer mid
    × (answer ≢ Err fault.Memory) × Turns mid turns new

-- a job took a turn, and is not at its end
abbrev pub is_working : Answer → Bool
is_working (Ok (Line (Working number))) = true
is_working answer = false

-- the lines of turns that a FINISH stands for: those of the ends of jobs
abbrev pub turn_lines : List (ℕ × Answer) → List ℕ
turn_lines [] = []
turn_lines ((number, answer) ∷ turns) =
    (if is_working answer then [] else answer_lines (Some (Jobs (Turn number))) answer) ++ turn_lines turns

-- The machine may answer these items of a script, one after another, and these are the lines of each. A FINISH stands for turns
-- of the lowest job until none is left. A refused line changes nothing, and no item is answered by want of memory.
abbrev pub AnswersItems : State → List Item → List (List ℕ) → State → Type 0
AnswersItems old [] [] new = new ≡ old
AnswersItems old (Do entry ∷ items) (line ∷ lines) new =
    (mid : State) × (answer : Answer) × MayAnswer old entry answer mid × (answer ≢ Err fault.Memory)
    × (line ≡ answer_lines (Some entry) answer) × AnswersItems mid items lines new
AnswersItems old (Finish ∷ items) (line ∷ lines) new =
    (mid : State) × (turns : List (ℕ × Answer)) × Turns old turns mid × (lowest_job mid.jobs ≡ None)
    × (line ≡ turn_lines turns ++ reply_lines (Line Finished)) × AnswersItems mid items lines new
AnswersItems old (Refused why ∷ items) (line ∷ lines) new = (line ≡ fault_line why) × AnswersItems old items lines new
AnswersItems old items lines new = ⊥

-- the lines of items, one after another
abbrev pub all_lines : List (List ℕ) → List ℕ
all_lines [] = []
all_lines (line ∷ lines) = line ++ all_lines lines

-- the machine may answer the items, and the lines of its answers are written, and then the last ones
pub record WritesAnswers (old : State) (items : List Item) (new : State)
    (before after : Option (List ℕ)) (last : List ℕ) : Type 0 where
  pub lines : List (List ℕ)
  pub told : AnswersItems old items lines new
  pub written : Appends before after (all_lines lines ++ last)

-- turns are taken only where a FINISH stands for them
abbrev pub HasBegun : List (ℕ × Answer) → List Item → Type 0
HasBegun [] items = Unit {0}
HasBegun turns (Finish ∷ items) = Unit {0}
HasBegun turns items = ⊥

-- the machine may answer a prefix of the items, and where a FINISH comes next some of its turns; these are the lines
pub record AnswersPrefix (old : State) (items : List Item) (new : State) (bytes : List ℕ) : Type 0 where
  pub prefix : List Item
  pub rest : List Item
  pub parts : items ≡ prefix ++ rest
  pub lines : List (List ℕ)
  pub mid : State
  pub told : AnswersItems old prefix lines mid
  pub turns : List (ℕ × Answer)
  pub taken : Turns mid turns new
  pub begun : HasBegun turns rest
  pub shown : bytes ≡ all_lines lines ++ turn_lines turns

-- the lines of a prefix of the items are written, and then the last ones
abbrev pub WritesPrefix : State → List Item → State → Option (List ℕ) → Option (List ℕ) → List ℕ → Type 0
WritesPrefix old items new w w' last =
    (bytes : List ℕ) × AnswersPrefix old items new bytes × Appends w w' (bytes ++ last)

-- items are the first of others
abbrev pub IsPrefixOf : List Item → List Item → Type 0
IsPrefixOf prefix items = (rest : List Item) × (items ≡ prefix ++ rest)

-- the items that may be answered of the bytes that a reader gave: the whole ones, or all where it is at its end
abbrev pub AreDue : Option (List ℕ) → List ℕ → List Item → Type 0
AreDue r text items = (items ≡ whole_of text) ⊎ (IsAtEnd r × (items ≡ script_of text))

-- The result of running the script of a reader. On Ok the reader was read to its end, and the lines of the answers to all items are
-- written. Where the reader ends the run, they are those of the whole items that were taken. Where want of memory does, they are
-- those of a prefix of the items of the bytes that were taken. The line of the fault is written last. Where the writer failed, the
-- last line may be unwritten.
abbrev pub RunsText : ℕ → State → State → Option (List ℕ) → Option (List ℕ) → Option (List ℕ)
    → Option (List ℕ) → Result (Unit {0}) SessionFault → Type 0
RunsText most old new r r' w w' (Ok nothing) =
    (text : List ℕ) × IsReadWithin most r r' text × WritesAnswers old (script_of text) new w w' []
RunsText most old new r r' w w' (Err fault.Reader) =
    (text : List ℕ) × IsTaken most r r' text × IsPrefixOf (whole_of text) (script_of text)
    × WritesAnswers old (whole_of text) new w w' (fault_line fault.Reader)
RunsText most old new r r' w w' (Err fault.Memory) =
    (text : List ℕ) × IsTaken most r r' text × (items : List Item) × AreDue r' text items
    × WritesPrefix old items new w w' (fault_line fault.Memory)
RunsText most old new r r' w w' (Err fault.Writer) =
    (text : List ℕ) × IsTaken most r r' text × (items : List Item) × AreDue r' text items
    × ((bytes : List ℕ) × AnswersPrefix old items new bytes)
RunsText most old new r r' w w' (Err why) = ⊥
