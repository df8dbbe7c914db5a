-- What a watcher of a run is shown: each answer, with the blocks of the volume right after it.
use Rattle.std.specs.Prelude.{◌≡◌, ◌≢◌, ◌⊎◌, ℕ, nat_eq, Bool, true, false, Result, Ok, Err, Option, Some, None, List, [], ◌∷◌, ◌++◌}
use Rattle.std.specs.Io.KnownBytes.{Appends}
use Rattle.os8_dir.specs.Files.{files_of, capacity_of, limit_of, above_of}
use Rattle.os8_files.specs.Calls.{info_of}
use Rattle.script8.specs.Items.{script_of, whole_of}
use Rattle.script8.specs.Reading.{IsReadWithin}
use Rattle.script8.specs.Replies.{answer_lines}
use Rattle.script8.specs.declared.entries.Entry.{Entry}
use Rattle.script8.specs.declared.entries.Entry.TheVariants.{Jobs}
use Rattle.script8.specs.declared.entries.JobEntry.TheVariants.{Turn}
use Rattle.refusals.specs.declared.faults.SessionFault.{SessionFault}
use Rattle.refusals.specs.declared.faults.SessionFault.TheVariants as fault
use Rattle.script8.specs.declared.items.Item.{Item}
use Rattle.script8.specs.declared.items.Item.TheVariants.{Do, Finish, Refused}
use Rattle.script8.specs.declared.replies.Reply.TheVariants.{Line}
use Rattle.script8.specs.declared.replies.LineReply.TheVariants.{Finished}
use Rattle.volume_jobs.specs.Jobs.{lowest_job}
use Rattle.system_session.specs.Reading.{IsTaken}
use Rattle.system_session.specs.Script.{AreDue, HasBegun, IsPrefixOf, is_working}
use Rattle.system_session.specs.State.{State}
use Rattle.system_session.specs.System.{Answer, MayAnswer}

-- ## What is shown

-- an answer that is shown
pub record ShownAnswer : Type 0 where
  -- none for the end of a FINISH, and for a fault that belongs to no entry
  pub entry : Option Entry
  pub answer : Answer
  -- those of the volume right after the answer
  pub blocks : List (List ℕ)

-- the lines of what is shown
abbrev pub lines_of : List ShownAnswer → List ℕ
lines_of [] = []
lines_of (one ∷ later) = answer_lines one.entry one.answer ++ lines_of later

-- a volume of these blocks has just the files of a state
pub record HasFilesOf (state : State) (blocks : List (List ℕ)) : Type 0 where
  pub files : files_of blocks ≡ state.files
  pub capacity : capacity_of blocks ≡ state.capacity
  pub limit : limit_of blocks ≡ state.limit
  pub info : info_of blocks ≡ state.info
  pub tight : nat_eq (above_of blocks) 0 ≡ state.tight

-- this answer alone is shown, with a volume that has the files of the state after it
abbrev pub ShowsOne : Option Entry → Answer → State → List ShownAnswer → Type 0
ShowsOne entry answer state shown =
    (blocks : List (List ℕ)) × HasFilesOf state blocks × (shown ≡ record { entry = entry; answer = answer; blocks = blocks } ∷ [])

-- all that is shown of several, one after another
abbrev pub all_shown : List (List ShownAnswer) → List ShownAnswer
all_shown [] = []
all_shown (shown ∷ others) = shown ++ all_shown others

-- ## Of a run

-- what is shown of a turn that a FINISH stands for: nothing, or the end of its job
abbrev pub ShowsTurn : Bool → ℕ → Answer → State → List ShownAnswer → Type 0
ShowsTurn true number answer state shown = shown ≡ []
ShowsTurn false number answer state shown = ShowsOne (Some (Jobs (Turn number))) answer state shown

-- the turns that `Turns` allows, and what is shown of each
abbrev pub ShowsTurns : State → List (ℕ × Answer) → List (List ShownAnswer) → State → Type 0
ShowsTurns old [] [] new = new ≡ old
ShowsTurns old ((number, answer) ∷ turns) (shown ∷ others) new =
    (lowest_job old.jobs ≡ Some number) × (mid : State) × MayAnswer old (Jobs (Turn number)) answer mid
    × (answer ≢ Err fault.Memory) × ShowsTurn (is_working answer) number answer mid shown × ShowsTurns mid turns others new
ShowsTurns old turns others new = ⊥

-- the answers that `AnswersItems` allows to the items of a script, and what is shown of each item
abbrev pub ShowsItems : State → List Item → List (List ShownAnswer) → State → Type 0
ShowsItems old [] [] new = new ≡ old
ShowsItems old (Do entry ∷ items) (shown ∷ others) new =
    (mid : State) × (answer : Answer) × MayAnswer old entry answer mid × (answer ≢ Err fault.Memory)
    × ShowsOne (Some entry) answer mid shown × ShowsItems mid items others new
ShowsItems old (Finish ∷ items) (shown ∷ others) new =
    (mid : State) × (turns : List (ℕ × Answer)) × (ends : List (List ShownAnswer)) × ShowsTurns old turns ends mid
    × (lowest_job mid.jobs ≡ None) × (last : List ShownAnswer) × ShowsOne None (Ok (Line Finished)) mid last
    × (shown ≡ all_shown ends ++ last) × ShowsItems mid items others new
ShowsItems old (Refused why ∷ items) (shown ∷ others) new = ShowsOne None (Err why) old shown × ShowsItems old items others new
ShowsItems old items others new = ⊥

-- this is shown of the answers to items
abbrev pub ShowsAll : State → List Item → List ShownAnswer → State → Type 0
ShowsAll old items shown new = (groups : List (List ShownAnswer)) × ShowsItems old items groups new × (shown ≡ all_shown groups)

-- this is shown of a prefix of the items, and of some turns of a FINISH that comes next
pub record ShowsPrefix (old : State) (items : List Item) (new : State) (shown : List ShownAnswer) : Type 0 where
  pub prefix : List Item
  pub rest : List Item
  pub parts : items ≡ prefix ++ rest
  pub groups : List (List ShownAnswer)
  pub mid : State
  pub told : ShowsItems old prefix groups mid
  pub turns : List (ℕ × Answer)
  pub ends : List (List ShownAnswer)
  pub taken : ShowsTurns mid turns ends new
  pub begun : HasBegun turns rest
  pub are : shown ≡ all_shown groups ++ all_shown ends

-- last is a fault that belongs to no entry, or nothing
abbrev pub ShowsFault : State → List ShownAnswer → Type 0
ShowsFault state last = (last ≡ []) ⊎ ((why : SessionFault) × ShowsOne None (Err why) state last)

-- What is shown in a run of the script of a reader, all of which `RunsText` says too: the same items, answered in the same states. The
-- lines of what is shown are written. Where the writer failed, the last line may be unwritten.
abbrev pub ShowsText : ℕ → State → List ShownAnswer → State → Option (List ℕ) → Option (List ℕ) → Option (List ℕ)
    → Option (List ℕ) → Result (Unit {0}) SessionFault → Type 0
ShowsText most old shown new r r' w w' (Ok nothing) =
    (text : List ℕ) × IsReadWithin most r r' text × ShowsAll old (script_of text) shown new × Appends w w' (lines_of shown)
ShowsText most old shown new r r' w w' (Err fault.Reader) =
    (text : List ℕ) × IsTaken most r r' text × IsPrefixOf (whole_of text) (script_of text)
    × (first last : List ShownAnswer) × ShowsAll old (whole_of text) first new × ShowsOne None (Err fault.Reader) new last
    × (shown ≡ first ++ last) × Appends w w' (lines_of shown)
ShowsText most old shown new r r' w w' (Err fault.Memory) =
    (text : List ℕ) × IsTaken most r r' text × (items : List Item) × AreDue r' text items
    × (first last : List ShownAnswer) × ShowsPrefix old items new first × ShowsOne None (Err fault.Memory) new last
    × (shown ≡ first ++ last) × Appends w w' (lines_of shown)
ShowsText most old shown new r r' w w' (Err fault.Writer) =
    (text : List ℕ) × IsTaken most r r' text × (items : List Item) × AreDue r' text items
    × (first last : List ShownAnswer) × ShowsPrefix old items new first × ShowsFault new last × (shown ≡ first ++ last)
ShowsText most old shown new r r' w w' (Err why) = ⊥
