-- What is shown of a run is a run.
use Rattle.std.proofs.Common.{ℕ, ◌≡◌, refl, sym, ◌∙◌, ap, subst, if◌then◌else◌, Bool, true, false, List, [], ◌∷◌, ◌++◌, append-nil, Option, Some, None, Result, Ok, Err}
use Rattle.std.specs.Io.KnownBytes.{Appends}
use Rattle.script8.specs.Replies.{answer_lines, reply_lines}
use Rattle.refusals.specs.Faults.{fault_line}
use Rattle.script8.specs.declared.entries.Entry.{Entry}
use Rattle.script8.specs.declared.entries.Entry.TheVariants as kinds
use Rattle.script8.specs.declared.entries.JobEntry.TheVariants as order
use Rattle.refusals.specs.declared.faults.SessionFault.{SessionFault}
use Rattle.refusals.specs.declared.faults.SessionFault.TheVariants as fault
use Rattle.script8.specs.declared.items.Item.{Item}
use Rattle.script8.specs.declared.items.Item.TheVariants.{Do, Finish, Refused}
use Rattle.script8.specs.declared.replies.Reply.TheVariants.{Line}
use Rattle.script8.specs.declared.replies.LineReply.TheVariants.{Finished}
use Rattle.system_session.specs.RunSteps.{Tells, WasShown, Watch}
use Rattle.system_session.specs.Script.{AnswersItems, AnswersPrefix, RunsText, Turns, all_lines, is_working, turn_lines}
use Rattle.system_session.specs.Session.{SessionView, state_of}
use Rattle.system_session.specs.ShownAnswers.{ShownAnswer, ShowsItems, ShowsOne, ShowsPrefix, ShowsText, ShowsTurn, ShowsTurns, all_shown, lines_of}
use Rattle.system_session.specs.State.{State}
use Rattle.system_session.specs.System.{Answer}
use Rattle.system_session.proofs.ToldLemmas.{lines_of_append}

-- the volume of a session has the files of its state
pub session_shows : (entry : Option Entry) (answer : Answer) (s : SessionView) → ShowsOne entry answer (state_of s) (record { entry = entry; answer = answer; blocks = s.volume.blocks } ∷ [])
session_shows entry answer s = (s.volume.blocks, record { files = refl; capacity = refl; limit = refl; info = refl; tight = refl }, refl)

-- a watcher is shown an answer, with the volume that the session has
pub answer_shown : (w w1 : Watch) (entry : Option Entry) (answer : Answer) (given blocks : List (List ℕ)) → given ≡ blocks
    → ((before : List ShownAnswer) → w.was_shown before → w1.was_shown (before ++ record { entry = entry; answer = answer; blocks = given } ∷ []))
    → WasShown w w1 (record { entry = entry; answer = answer; blocks = blocks } ∷ [])
answer_shown w w1 entry answer given blocks is was before had = subst (λ (b : List (List ℕ)). w1.was_shown (before ++ record { entry = entry; answer = answer; blocks = b } ∷ [])) is (was before had)

pub answer_told : (w w1 : Watch) (entry : Option Entry) (answer : Answer) (given blocks : List (List ℕ)) (lines : List ℕ) → given ≡ blocks → lines ≡ answer_lines entry answer → Appends w.printed w1.printed lines
    → ((before : List ShownAnswer) → w.was_shown before → w1.was_shown (before ++ record { entry = entry; answer = answer; blocks = given } ∷ []))
    → Tells w w1 (record { entry = entry; answer = answer; blocks = blocks } ∷ [])
answer_told w w1 entry answer given blocks lines is are printed was = record {
  printed = subst (λ (l : List ℕ). Appends w.printed w1.printed l) (are ∙ sym (append-nil _)) printed;
  was_shown = answer_shown w w1 entry answer given blocks is was;
}

-- ## Lines

one_lines : (entry : Option Entry) (answer : Answer) (state : State) (shown : List ShownAnswer) → ShowsOne entry answer state shown → lines_of shown ≡ answer_lines entry answer
one_lines entry answer state shown one = ap lines_of one.2 ∙ append-nil _

turn_line : (working : Bool) (number : ℕ) (answer : Answer) (state : State) (shown : List ShownAnswer) → ShowsTurn working number answer state shown
    → lines_of shown ≡ (if working then [] else answer_lines (Some (kinds.Jobs (order.Turn number))) answer)
turn_line true number answer state shown shows = ap lines_of shows
turn_line false number answer state shown shows = one_lines _ answer state shown shows

turns_lines : (turns : List (ℕ × Answer)) (ends : List (List ShownAnswer)) (old new : State) → ShowsTurns old turns ends new → lines_of (all_shown ends) ≡ turn_lines turns
turns_lines [] [] old new shows = refl
turns_lines [] (shown ∷ ends) old new shows = absurd shows
turns_lines ((number, answer) ∷ turns) [] old new shows = absurd shows
turns_lines ((number, answer) ∷ turns) (shown ∷ ends) old new shows = lines_of_append shown (all_shown ends)
    ∙ (ap (λ l. l ++ lines_of (all_shown ends)) (turn_line (is_working answer) number answer shows.1 shown shows.4)
    ∙ ap (λ l. (if is_working answer then [] else answer_lines (Some (kinds.Jobs (order.Turn number))) answer) ++ l) (turns_lines turns ends shows.1 new shows.5))

turns_taken : (turns : List (ℕ × Answer)) (ends : List (List ShownAnswer)) (old new : State) → ShowsTurns old turns ends new → Turns old turns new
turns_taken [] [] old new shows = shows
turns_taken [] (shown ∷ ends) old new shows = absurd shows
turns_taken ((number, answer) ∷ turns) [] old new shows = absurd shows
turns_taken ((number, answer) ∷ turns) (shown ∷ ends) old new shows = (shows.0, shows.1, shows.2, shows.3, turns_taken turns ends shows.1 new shows.5)

-- the lines of each item
abbrev group_lines : List (List ShownAnswer) → List (List ℕ)
group_lines [] = []
group_lines (shown ∷ groups) = lines_of shown ∷ group_lines groups

all_group_lines : (groups : List (List ShownAnswer)) → lines_of (all_shown groups) ≡ all_lines (group_lines groups)
all_group_lines [] = refl
all_group_lines (shown ∷ groups) = lines_of_append shown (all_shown groups) ∙ ap (λ l. lines_of shown ++ l) (all_group_lines groups)

-- ## Answers

items_answered : (items : List Item) (groups : List (List ShownAnswer)) (old new : State) → ShowsItems old items groups new → AnswersItems old items (group_lines groups) new
items_answered [] [] old new shows = shows
items_answered [] (shown ∷ groups) old new shows = absurd shows
items_answered (Do entry ∷ items) [] old new shows = absurd shows
items_answered (Do entry ∷ items) (shown ∷ groups) old new shows =
    (shows.0, shows.1, shows.2, shows.3, one_lines _ shows.1 shows.0 shown shows.4, items_answered items groups shows.0 new shows.5)
items_answered (Finish ∷ items) [] old new shows = absurd shows
items_answered (Finish ∷ items) (shown ∷ groups) old new shows =
    (shows.0, shows.1, turns_taken shows.1 shows.2 old shows.0 shows.3, shows.4, lines, items_answered items groups shows.0 new shows.8)
  where
    lines : lines_of shown ≡ turn_lines shows.1 ++ reply_lines (Line Finished)
    lines = ap lines_of shows.7 ∙ (lines_of_append (all_shown shows.2) shows.5
        ∙ (ap (λ l. l ++ lines_of shows.5) (turns_lines shows.1 shows.2 old shows.0 shows.3) ∙ ap (λ l. turn_lines shows.1 ++ l) (one_lines None (Ok (Line Finished)) shows.0 shows.5 shows.6)))
items_answered (Refused why ∷ items) [] old new shows = absurd shows
items_answered (Refused why ∷ items) (shown ∷ groups) old new shows = (one_lines None (Err why) old shown shows.0, items_answered items groups old new shows.1)

prefix_answered : (old : State) (items : List Item) (new : State) (shown : List ShownAnswer) → ShowsPrefix old items new shown → AnswersPrefix old items new (lines_of shown)
prefix_answered old items new shown shows = record {
  prefix = shows.prefix;
  rest = shows.rest;
  parts = shows.parts;
  lines = group_lines shows.groups;
  mid = shows.mid;
  told = items_answered shows.prefix shows.groups old shows.mid shows.told;
  turns = shows.turns;
  taken = turns_taken shows.turns shows.ends shows.mid new shows.taken;
  begun = shows.begun;
  shown = ap lines_of shows.are ∙ (lines_of_append (all_shown shows.groups) (all_shown shows.ends)
      ∙ (ap (λ l. l ++ lines_of (all_shown shows.ends)) (all_group_lines shows.groups) ∙ ap (λ l. all_lines (group_lines shows.groups) ++ l) (turns_lines shows.turns shows.ends shows.mid new shows.taken)));
}

-- the lines of what is shown first, and of a fault
with_fault : (shown first last : List ShownAnswer) (why : SessionFault) (new : State) → ShowsOne None (Err why) new last → shown ≡ first ++ last → lines_of shown ≡ lines_of first ++ fault_line why
with_fault shown first last why new one is = ap lines_of is ∙ (lines_of_append first last ∙ ap (λ l. lines_of first ++ l) (one_lines None (Err why) new last one))

-- what is shown of a run of a text is one
pub shown_runs : (most : ℕ) (old new : State) (shown : List ShownAnswer) (r r' w w' : Option (List ℕ)) (result : Result (Unit {0}) SessionFault) → ShowsText most old shown new r r' w w' result → RunsText most old new r r' w w' result
shown_runs most old new shown r r' w w' (Ok nothing) shows = (
  shows.0,
  shows.1,
  record {
    lines = group_lines shows.2.0;
    told = items_answered _ shows.2.0 old new shows.2.1;
    written = subst (λ (l : List ℕ). Appends w w' l) (ap lines_of shows.2.2 ∙ (all_group_lines shows.2.0 ∙ sym (append-nil _))) shows.3;
  },
)
shown_runs most old new shown r r' w w' (Err fault.Reader) shows = (
  shows.0,
  shows.1,
  shows.2,
  record {
    lines = group_lines shows.5.0;
    told = items_answered _ shows.5.0 old new shows.5.1;
    written = subst (λ (l : List ℕ). Appends w w' l)
        (with_fault shown shows.3 shows.4 fault.Reader new shows.6 shows.7 ∙ ap (λ l. l ++ fault_line fault.Reader) (ap lines_of shows.5.2 ∙ all_group_lines shows.5.0)) shows.8;
  },
)
shown_runs most old new shown r r' w w' (Err fault.Memory) shows = (
  shows.0,
  shows.1,
  shows.2,
  shows.3,
  (
    lines_of shows.4,
    prefix_answered old shows.2 new shows.4 shows.6,
    subst (λ (l : List ℕ). Appends w w' l) (with_fault shown shows.4 shows.5 fault.Memory new shows.7 shows.8) shows.9,
  ),
)
shown_runs most old new shown r r' w w' (Err fault.Writer) shows = (shows.0, shows.1, shows.2, shows.3, (lines_of shows.4, prefix_answered old shows.2 new shows.4 shows.6))
shown_runs most old new shown r r' w w' (Err fault.BadLine) shows = absurd shows
shown_runs most old new shown r r' w w' (Err fault.NoJob) shows = absurd shows
shown_runs most old new shown r r' w w' (Err fault.TooManyJobs) shows = absurd shows
shown_runs most old new shown r r' w w' (Err (fault.File why)) shows = absurd shows
shown_runs most old new shown r r' w w' (Err (fault.Asm why)) shows = absurd shows
shown_runs most old new shown r r' w w' (Err (fault.Tape why)) shows = absurd shows
shown_runs most old new shown r r' w w' (Err fault.BadText) shows = absurd shows
shown_runs most old new shown r r' w w' (Err fault.TooManyBreaks) shows = absurd shows
