-- Runs of items, one after another.
use Rattle.std.proofs.Common.{ℕ, ◌≡◌, ◌≢◌, refl, sym, ◌∙◌, ap, subst, Bool, true, false, List, [], ◌∷◌, ◌++◌, append_assoc, append-nil, Some, None, Result, Ok, Err}
use Rattle.std.specs.Io.KnownBytes.{Appends}
use Rattle.std.proofs.KnownBytes.{Appends-nil}
use Rattle.script8.proofs.ByteLemmas.{appends_more}
use Rattle.script8.specs.Replies.{answer_lines, IsShort}
use Rattle.script8.specs.declared.entries.Entry.{Entry}
use Rattle.script8.specs.declared.entries.Entry.TheVariants as kinds
use Rattle.script8.specs.declared.entries.ConsoleEntry.{ConsoleEntry}
use Rattle.script8.specs.declared.entries.ConsoleEntry.TheVariants as console
use Rattle.script8.specs.declared.entries.FileEntry.TheVariants as filing
use Rattle.script8.specs.declared.entries.JobEntry.TheVariants as order
use Rattle.system_session.specs.Console.{ConsoleReplies}
use Rattle.script8.specs.declared.replies.Reply.TheVariants.{Line}
use Rattle.script8.specs.declared.replies.Reply.TheVariants as reply
use Rattle.script8.specs.declared.replies.Report.{Report}
use Rattle.script8.specs.declared.replies.Report.TheVariants as report
use Rattle.script8.specs.declared.replies.LineReply.TheVariants.{Finished}
use Rattle.refusals.specs.declared.faults.SessionFault.{SessionFault}
use Rattle.refusals.specs.declared.faults.SessionFault.TheVariants as fault
use Rattle.script8.specs.declared.items.Item.{Item}
use Rattle.script8.specs.declared.items.Item.TheVariants.{Do, Finish, Refused}
use Rattle.volume_jobs.specs.Jobs.{lowest_job}
use Rattle.system_session.specs.State.{Console, State}
use Rattle.system_session.specs.System.{Answer, MayAnswer}
use Rattle.system_session.specs.declared.endings.Ending.{Ending}
use Rattle.system_session.specs.declared.endings.Ending.TheVariants as ending
use Rattle.system_session.specs.RunSteps.{BreaksOff, IsTold, RunsItems, RunsTurn, TakesTurns, Tells, WasShown, Watch, WritesPart, WritesShown}
use Rattle.system_session.specs.Script.{is_working, HasBegun}
use Rattle.system_session.specs.ShownAnswers.{ShownAnswer, ShowsItems, ShowsOne, ShowsPrefix, ShowsTurn, ShowsTurns, all_shown, lines_of}

-- ## What a watcher is shown

pub lines_of_append : (xs ys : List ShownAnswer) → lines_of (xs ++ ys) ≡ lines_of xs ++ lines_of ys
lines_of_append [] ys = refl
lines_of_append (x ∷ xs) ys = ap (λ l. answer_lines x.entry x.answer ++ l) (lines_of_append xs ys) ∙ sym (append_assoc (answer_lines x.entry x.answer) (lines_of xs) (lines_of ys))

pub none_shown : (w : Watch) → WasShown w w []
none_shown w before is = subst (λ (l : List ShownAnswer). w.was_shown l) (sym (append-nil before)) is

pub shown_more : (w w1 w2 : Watch) (xs ys : List ShownAnswer) → WasShown w w1 xs → WasShown w1 w2 ys → WasShown w w2 (xs ++ ys)
shown_more w w1 w2 xs ys first second before is = subst (λ (l : List ShownAnswer). w2.was_shown l) (append_assoc before xs ys) (second (before ++ xs) (first before is))

pub tells_none : (w : Watch) → Tells w w []
tells_none w = record { printed = Appends-nil w.printed; was_shown = none_shown w }

pub tells_more : (w w1 w2 : Watch) (xs ys : List ShownAnswer) → Tells w w1 xs → Tells w1 w2 ys → Tells w w2 (xs ++ ys)
tells_more w w1 w2 xs ys first second = record {
  printed = subst (λ (l : List ℕ). Appends w.printed w2.printed l) (sym (lines_of_append xs ys)) (appends_more w.printed w1.printed w2.printed (lines_of xs) (lines_of ys) first.printed second.printed);
  was_shown = shown_more w w1 w2 xs ys first.was_shown second.was_shown;
}

-- ## Items

-- answers to items and to further items
told_append : (a b : List Item) (xs ys : List (List ShownAnswer)) (old mid new : State) → ShowsItems old a xs mid → ShowsItems mid b ys new → ShowsItems old (a ++ b) (xs ++ ys) new
told_append [] b [] ys old mid new first second = subst (λ (s : State). ShowsItems s b ys new) first second
told_append [] b (x ∷ xs) ys old mid new first second = absurd first
told_append (Do e ∷ a) b [] ys old mid new first second = absurd first
told_append (Do e ∷ a) b (x ∷ xs) ys old mid new first second = (first.0, first.1, first.2, first.3, first.4, told_append a b xs ys first.0 mid new first.5 second)
told_append (Finish ∷ a) b [] ys old mid new first second = absurd first
told_append (Finish ∷ a) b (x ∷ xs) ys old mid new first second = (first.0, first.1, first.2, first.3, first.4, first.5, first.6, first.7, told_append a b xs ys first.0 mid new first.8 second)
told_append (Refused why ∷ a) b [] ys old mid new first second = absurd first
told_append (Refused why ∷ a) b (x ∷ xs) ys old mid new first second = (first.0, told_append a b xs ys old mid new first.1 second)

all_append : (xs ys : List (List ShownAnswer)) → all_shown (xs ++ ys) ≡ all_shown xs ++ all_shown ys
all_append [] ys = refl
all_append (x ∷ xs) ys = ap (λ l. x ++ l) (all_append xs ys) ∙ sym (append_assoc x (all_shown xs) (all_shown ys))

-- turns and further turns
pub turns_append : (xs ys : List (ℕ × Answer)) (gs hs : List (List ShownAnswer)) (old mid new : State) → ShowsTurns old xs gs mid → ShowsTurns mid ys hs new → ShowsTurns old (xs ++ ys) (gs ++ hs) new
turns_append [] ys [] hs old mid new first second = subst (λ (s : State). ShowsTurns s ys hs new) first second
turns_append [] ys (g ∷ gs) hs old mid new first second = absurd first
turns_append ((n, answer) ∷ xs) ys [] hs old mid new first second = absurd first
turns_append ((n, answer) ∷ xs) ys (g ∷ gs) hs old mid new first second = (first.0, first.1, first.2, first.3, first.4, turns_append xs ys gs hs first.1 mid new first.5 second)

-- what is written for items and for further items
pub writes_append : (a b : List Item) (old mid new : State) (w w1 w2 : Watch) (last : List ShownAnswer) → WritesShown old a mid w w1 [] → WritesShown mid b new w1 w2 last → WritesShown old (a ++ b) new w w2 last
writes_append a b old mid new w w1 w2 last first second = record {
  groups = first.groups ++ second.groups;
  told = told_append a b first.groups second.groups old mid new first.told second.told;
  written = subst (λ (l : List ShownAnswer). Tells w w2 l) all (tells_more w w1 w2 (all_shown first.groups ++ []) (all_shown second.groups ++ last) first.written second.written);
}
  where
    all : (all_shown first.groups ++ []) ++ (all_shown second.groups ++ last) ≡ all_shown (first.groups ++ second.groups) ++ last
    all = ap (λ l. l ++ (all_shown second.groups ++ last)) (append-nil _) ∙ sym (append_assoc (all_shown first.groups) (all_shown second.groups) last) ∙ ap (λ l. l ++ last) (sym (all_append first.groups second.groups))

-- turns are taken of a FINISH, whatever items stand after it
begun_more : (turns : List (ℕ × Answer)) (rest c : List Item) → HasBegun turns rest → HasBegun turns (rest ++ c)
begun_more [] rest c begun = tt
begun_more (t ∷ turns) [] c begun = absurd begun
begun_more (t ∷ turns) (Do e ∷ rest) c begun = absurd begun
begun_more (t ∷ turns) (Finish ∷ rest) c begun = tt
begun_more (t ∷ turns) (Refused why ∷ rest) c begun = absurd begun

-- a prefix of items before others
pub after_more : (b c items : List Item) (old new : State) (shown : List ShownAnswer) → items ≡ b ++ c → ShowsPrefix old b new shown → ShowsPrefix old items new shown
after_more b c items old new shown is told = record {
  prefix = told.prefix;
  rest = told.rest ++ c;
  parts = is ∙ ap (λ (l : List Item). l ++ c) told.parts ∙ append_assoc told.prefix told.rest c;
  groups = told.groups;
  mid = told.mid;
  told = told.told;
  turns = told.turns;
  ends = told.ends;
  taken = told.taken;
  begun = begun_more told.turns told.rest c told.begun;
  are = told.are;
}

-- a prefix of items after others, before others
pub prefix_more : (items a b c : List Item) (old mid new : State) (w w1 : Watch) (shown : List ShownAnswer) → items ≡ a ++ (b ++ c) → (first : WritesShown old a mid w w1 []) → ShowsPrefix mid b new shown → ShowsPrefix old items new (all_shown first.groups ++ shown)
prefix_more items a b c old mid new w w1 shown is first second = record {
  prefix = a ++ second.prefix;
  rest = second.rest ++ c;
  parts = is ∙ ap (λ (l : List Item). a ++ l) inner ∙ sym (append_assoc a second.prefix (second.rest ++ c));
  groups = first.groups ++ second.groups;
  mid = second.mid;
  told = told_append a second.prefix first.groups second.groups old mid second.mid first.told second.told;
  turns = second.turns;
  ends = second.ends;
  taken = second.taken;
  begun = begun_more second.turns second.rest c second.begun;
  are = ap (λ l. all_shown first.groups ++ l) second.are ∙ sym (append_assoc (all_shown first.groups) (all_shown second.groups) (all_shown second.ends)) ∙ ap (λ l. l ++ all_shown second.ends) (sym (all_append first.groups second.groups));
}
  where
    inner : b ++ c ≡ second.prefix ++ (second.rest ++ c)
    inner = ap (λ (l : List Item). l ++ c) second.parts ∙ append_assoc second.prefix second.rest c

-- the same where its lines are written
pub writes_prefix_more : (items a b c : List Item) (old mid new : State) (w w1 w2 : Watch) → items ≡ a ++ (b ++ c) → WritesShown old a mid w w1 [] → WritesPart mid b new w1 w2 [] → WritesPart old items new w w2 []
writes_prefix_more items a b c old mid new w w1 w2 is first second = (
  all_shown first.groups ++ second.0,
  prefix_more items a b c old mid new w w1 second.0 is first second.1,
  subst (λ (l : List ShownAnswer). Tells w w2 l) (ap (λ l. l ++ (second.0 ++ [])) (append-nil _) ∙ sym (append_assoc (all_shown first.groups) second.0 [])) (tells_more w w1 w2 (all_shown first.groups ++ []) (second.0 ++ []) first.written second.2),
)

-- the same where the last line may be unwritten
pub breaks_off_more : (items a b c : List Item) (old mid new : State) (w w1 w2 : Watch) → items ≡ a ++ (b ++ c) → WritesShown old a mid w w1 [] → BreaksOff mid b new w1 w2 → BreaksOff old items new w w2
breaks_off_more items a b c old mid new w w1 w2 is first second = (
  all_shown first.groups ++ second.0,
  prefix_more items a b c old mid new w w1 second.0 is first second.1,
  shown_more w w1 w2 (all_shown first.groups) second.0 (subst (λ (l : List ShownAnswer). WasShown w w1 l) (append-nil _) first.written.was_shown) second.2,
)

-- what is shown of all items, and nothing more
pub all_written : (old : State) (items : List Item) (new : State) (w w1 : Watch) → (run : WritesShown old items new w w1 []) → WasShown w w1 (all_shown run.groups)
all_written old items new w w1 run = subst (λ (l : List ShownAnswer). WasShown w w1 l) (append-nil _) run.written.was_shown

-- nothing of the items is answered
pub prefix_none : (items : List Item) (old new : State) → new ≡ old → ShowsPrefix old items new []
prefix_none items old new same = record { prefix = []; rest = items; parts = refl; groups = []; mid = new; told = same; turns = []; ends = []; taken = refl; begun = tt; are = refl }

pub part_none : (items : List Item) (old new : State) (w : Watch) → new ≡ old → WritesPart old items new w w []
part_none items old new w same = ([], prefix_none items old new same, tells_none w)

-- all of the items are answered
pub prefix_all : (items : List Item) (old new : State) (groups : List (List ShownAnswer)) → ShowsItems old items groups new → ShowsPrefix old items new (all_shown groups)
prefix_all items old new groups told = record { prefix = items; rest = []; parts = sym (append-nil items); groups = groups; mid = new; told = told; turns = []; ends = []; taken = refl; begun = tt; are = sym (append-nil _) }

-- ## Answers

-- a report of the console leaves it as it was
console_unchanged : (it : ConsoleEntry) (report : Report) (old new : Console) → ConsoleReplies old it (reply.Report report) new → new ≡ old
console_unchanged console.Registers (report.Registers text) old new shows = shows.1
console_unchanged console.Printed (report.Printed characters) old new shows = shows.1
console_unchanged console.Registers (report.Direct lengths free) old new shows = absurd shows
console_unchanged console.Registers (report.Printed characters) old new shows = absurd shows
console_unchanged console.Printed (report.Direct lengths free) old new shows = absurd shows
console_unchanged console.Printed (report.Registers text) old new shows = absurd shows
console_unchanged (console.Start cell) report old new shows = absurd shows
console_unchanged (console.Step n) report old new shows = absurd shows
console_unchanged (console.Go n) report old new shows = absurd shows
console_unchanged (console.Run cell n) report old new shows = absurd shows
console_unchanged (console.Key character) report old new shows = absurd shows
console_unchanged console.Done report old new shows = absurd shows
console_unchanged (console.Switches word) report old new shows = absurd shows
console_unchanged (console.Examine cell) report old new shows = absurd shows
console_unchanged (console.Deposit cell word) report old new shows = absurd shows
console_unchanged (console.Break cell true) report old new shows = absurd shows
console_unchanged (console.Break cell false) report old new shows = absurd shows

-- a report leaves all as it was
unchanged : (entry : Entry) (answer : Answer) (old new : State) → MayAnswer old entry answer new → (IsShort answer → ⊥) → new ≡ old
unchanged entry (Ok (Line said)) old new step long = absurd (long tt)
unchanged entry (Err why) old new step long = absurd (long tt)
unchanged (kinds.Console it) (Ok (reply.Report report)) old new step long = step.2 ∙ ap (λ (c : Console). record old { console = c }) (console_unchanged it report old.console new.console step.1)
unchanged (kinds.Files (filing.Store name text)) (Ok (reply.Report shown)) old new step long = absurd step
unchanged (kinds.Files (filing.Delete name)) (Ok (reply.Report shown)) old new step long = absurd step
unchanged (kinds.Files filing.Direct) (Ok (reply.Report (report.Direct lengths free))) old new step long = step.2
unchanged (kinds.Files filing.Direct) (Ok (reply.Report (report.Registers text))) old new step long = absurd step
unchanged (kinds.Files filing.Direct) (Ok (reply.Report (report.Printed characters))) old new step long = absurd step
unchanged (kinds.Jobs (order.Assemble to from)) (Ok (reply.Report shown)) old new step long = absurd step
unchanged (kinds.Jobs (order.Load name)) (Ok (reply.Report shown)) old new step long = absurd step
unchanged (kinds.Jobs order.Squeeze) (Ok (reply.Report shown)) old new step long = absurd step
unchanged (kinds.Jobs (order.Turn n)) (Ok (reply.Report shown)) old new step long = absurd step

-- a turn's answer is one line
pub short_turn : (n : ℕ) (answer : Answer) (old new : State) → MayAnswer old (kinds.Jobs (order.Turn n)) answer new → (IsShort answer → ⊥) → ⊥
short_turn n (Ok (Line said)) old new step long = long tt
short_turn n (Err why) old new step long = long tt
short_turn n (Ok (reply.Report shown)) old new step long = step

-- an item whose answers are shown so, and whose lines are written
item_written : (item : Item) (old new : State) (w w' : Watch) (shown : List ShownAnswer) → ShowsItems old (item ∷ []) (shown ∷ []) new → Tells w w' shown → WritesShown old (item ∷ []) new w w' []
item_written item old new w w' shown told tells = record {
  groups = shown ∷ [];
  told = told;
  written = subst (λ (l : List ShownAnswer). Tells w w' l) (sym (append-nil _ ∙ append-nil _)) tells;
}

item_shown : (item : Item) (old new : State) (w w' : Watch) (shown : List ShownAnswer) → ShowsItems old (item ∷ []) (shown ∷ []) new → WasShown w w' shown → BreaksOff old (item ∷ []) new w w'
item_shown item old new w w' shown told was = (_, prefix_all (item ∷ []) old new (shown ∷ []) told, subst (λ (l : List ShownAnswer). WasShown w w' l) (sym (append-nil _)) was)

-- an entry that was done, and its answer
pub entry_told : (entry : Entry) (answer : Answer) (old new : State) (w w' : Watch) (shown : List ShownAnswer) (r : Result (Unit {0}) Ending)
    → MayAnswer old entry answer new → answer ≢ Err fault.Memory → ShowsOne (Some entry) answer new shown → IsTold w w' answer shown r
    → RunsItems (Do entry ∷ []) old new w w' r
entry_told entry answer old new w w' shown (Ok done) step other one told = item_written (Do entry) old new w w' shown (new, answer, step, other, one, refl) told
entry_told entry answer old new w w' shown (Err ending.Writer) step other one told = item_shown (Do entry) old new w w' shown (new, answer, step, other, one, refl) told
entry_told entry answer old new w w' shown (Err ending.Memory) step other one told = ([], prefix_none (Do entry ∷ []) old new (unchanged entry answer old new step told.1), told.0)
entry_told entry answer old new w w' shown (Err ending.Reader) step other one told = absurd told

-- an entry that want of memory left undone
pub entry_undone : (entry : Entry) (old new : State) (w : Watch) → new ≡ old → RunsItems (Do entry ∷ []) old new w w (Err ending.Memory)
entry_undone entry old new w same = part_none (Do entry ∷ []) old new w same

-- a line that is refused, and its line
pub refused_told : (why : SessionFault) (old new : State) (w w' : Watch) (shown : List ShownAnswer) (r : Result (Unit {0}) Ending)
    → new ≡ old → ShowsOne None (Err why) old shown → IsTold w w' (Err why) shown r → RunsItems (Refused why ∷ []) old new w w' r
refused_told why old new w w' shown (Ok done) same one told = item_written (Refused why) old new w w' shown (one, same) told
refused_told why old new w w' shown (Err ending.Writer) same one told = item_shown (Refused why) old new w w' shown (one, same) told
refused_told why old new w w' shown (Err ending.Memory) same one told = absurd (told.1 tt)
refused_told why old new w w' shown (Err ending.Reader) same one told = absurd told

-- a turn that left its job, whose line is not shown
pub turn_working : (n : ℕ) (answer : Answer) (old new : State) (w : Watch)
    → MayAnswer old (kinds.Jobs (order.Turn n)) answer new → answer ≢ Err fault.Memory → is_working answer ≡ true
    → RunsTurn n old new w w (Ok tt)
turn_working n answer old new w step other working = (answer, step, other, [], subst (λ (b : Bool). ShowsTurn b n answer new []) (sym working) refl, tells_none w)

-- a turn whose line is written
pub turn_told : (n : ℕ) (answer : Answer) (old new : State) (w w' : Watch) (shown : List ShownAnswer) (r : Result (Unit {0}) Ending)
    → MayAnswer old (kinds.Jobs (order.Turn n)) answer new → answer ≢ Err fault.Memory → is_working answer ≡ false
    → ShowsOne (Some (kinds.Jobs (order.Turn n))) answer new shown → IsTold w w' answer shown r
    → RunsTurn n old new w w' r
turn_told n answer old new w w' shown (Ok done) step other ended one told = (answer, step, other, shown, subst (λ (b : Bool). ShowsTurn b n answer new shown) (sym ended) one, told)
turn_told n answer old new w w' shown (Err ending.Writer) step other ended one told = (answer, step, other, shown, subst (λ (b : Bool). ShowsTurn b n answer new shown) (sym ended) one, told)
turn_told n answer old new w w' shown (Err ending.Memory) step other ended one told = absurd (short_turn n answer old new step told.1)
turn_told n answer old new w w' shown (Err ending.Reader) step other ended one told = absurd told

-- turns of a FINISH that goes on
pub turns_prefix : (turns : List (ℕ × Answer)) (ends : List (List ShownAnswer)) (old new : State) → ShowsTurns old turns ends new → ShowsPrefix old (Finish ∷ []) new (all_shown ends)
turns_prefix turns ends old new taken = record { prefix = []; rest = Finish ∷ []; parts = refl; groups = []; mid = old; told = refl; turns = turns; ends = ends; taken = taken; begun = begun turns; are = refl }
  where
    begun : (turns : List (ℕ × Answer)) → HasBegun turns (Finish ∷ [])
    begun [] = tt
    begun (t ∷ turns) = tt

-- a FINISH whose turns were taken
pub finish_told : (old new : State) (w w1 w2 : Watch) (last : List ShownAnswer) (r : Result (Unit {0}) Ending)
    → TakesTurns old new w w1 → lowest_job new.jobs ≡ None → ShowsOne None (Ok (Line Finished)) new last → IsTold w1 w2 (Ok (Line Finished)) last r
    → RunsItems (Finish ∷ []) old new w w2 r
finish_told old new w w1 w2 last (Ok done) taken none one told =
    item_written Finish old new w w2 (all_shown taken.1 ++ last) (new, taken.0, taken.1, taken.2, none, last, one, refl, refl) (tells_more w w1 w2 (all_shown taken.1) last taken.3 told)
finish_told old new w w1 w2 last (Err ending.Writer) taken none one told =
    item_shown Finish old new w w2 (all_shown taken.1 ++ last) (new, taken.0, taken.1, taken.2, none, last, one, refl, refl) (shown_more w w1 w2 (all_shown taken.1) last taken.3.was_shown told)
finish_told old new w w1 w2 last (Err ending.Memory) taken none one told = absurd (told.1 tt)
finish_told old new w w1 w2 last (Err ending.Reader) taken none one told = absurd told

one_more : (ends : List (List ShownAnswer)) (shown : List ShownAnswer) → all_shown ends ++ shown ≡ all_shown (ends ++ shown ∷ [])
one_more ends shown = ap (λ (l : List ShownAnswer). all_shown ends ++ l) (sym (append-nil shown)) ∙ sym (all_append ends (shown ∷ []))

-- a FINISH that a turn ended
pub finish_ended : (n : ℕ) (old mid new : State) (w w1 w2 : Watch) (why : Ending)
    → TakesTurns old mid w w1 → lowest_job mid.jobs ≡ Some n → RunsTurn n mid new w1 w2 (Err why)
    → RunsItems (Finish ∷ []) old new w w2 (Err why)
finish_ended n old mid new w w1 w2 ending.Memory taken lowest run = (
  all_shown taken.1,
  turns_prefix taken.0 taken.1 old new (subst (λ (s : State). ShowsTurns old taken.0 taken.1 s) (sym run.0) taken.2),
  tells_more w w1 w2 (all_shown taken.1) [] taken.3 run.1,
)
finish_ended n old mid new w w1 w2 ending.Writer taken lowest run = (
  all_shown (taken.1 ++ run.3 ∷ []),
  turns_prefix (taken.0 ++ (n, run.0) ∷ []) (taken.1 ++ run.3 ∷ []) old new (turns_append taken.0 ((n, run.0) ∷ []) taken.1 (run.3 ∷ []) old mid new taken.2 (lowest, new, run.1, run.2, run.4, refl)),
  subst (λ (l : List ShownAnswer). WasShown w w2 l) (one_more taken.1 run.3) (shown_more w w1 w2 (all_shown taken.1) run.3 taken.3.was_shown run.5),
)
finish_ended n old mid new w w1 w2 ending.Reader taken lowest run = absurd run

-- one more turn of a FINISH
pub turns_more : (n : ℕ) (old mid new : State) (w w1 w2 : Watch)
    → TakesTurns old mid w w1 → lowest_job mid.jobs ≡ Some n → RunsTurn n mid new w1 w2 (Ok tt) → TakesTurns old new w w2
turns_more n old mid new w w1 w2 taken lowest run = (
  taken.0 ++ (n, run.0) ∷ [],
  taken.1 ++ run.3 ∷ [],
  turns_append taken.0 ((n, run.0) ∷ []) taken.1 (run.3 ∷ []) old mid new taken.2 (lowest, new, run.1, run.2, run.4, refl),
  subst (λ (l : List ShownAnswer). Tells w w2 l) (one_more taken.1 run.3) (tells_more w w1 w2 (all_shown taken.1) run.3 taken.3 run.5),
)
