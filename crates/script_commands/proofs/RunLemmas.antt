-- Steps of a run, one after another.
use Rattle.std.proofs.Common.{◌≡◌, ◌∙◌, ◌++◌, ℕ, Bool, true, false, List, [], ◌∷◌, Option, None, Some, Result, Ok, Err, ap, refl, sym, subst, inl, inr, append-nil, codes}
use Rattle.std.proofs.lemmas.List.{append_assoc}
use Rattle.std.specs.Global.{Vec}
use Rattle.hosts.specs.Event.{Event, Call, Alter, Resolve, Hold, DropSeconds, Look, TakeInput, Alone, Leads, LockBeside, Free, There, MakeFolder, Print, Tell, Terminal, Seconds, Pause, Word, EndOfWords, TimeOf, Same, print_call, tell_call, DropLeftovers}
use Rattle.hosts.specs.Faults.{pipe_number}
use Rattle.hosts.specs.Streams.{output, output_text, with_printed, with_text}
use Rattle.hosts.specs.declared.faults.PrintFault.{PrintFault}
use Rattle.outcome.specs.Notes.{name_text}
use Rattle.outcome.specs.declared.endings.Ending.{Ending}
use Rattle.outcome.specs.declared.notes.NameNote.TheVariants.{Hint, TooLong}
use Rattle.program_tasks.specs.declared.tasks.Saving.{Saving}
use Rattle.program_tasks.specs.declared.tasks.Saving.TheVariants.{Never}
use Rattle.system_session.specs.ShownAnswers.{ShownAnswer}
use Rattle.image_files.specs.declared.images.Image.{Image}
use Rattle.script_commands.specs.Steps.{Step, AreReplies, StaysUnsaved, Saves, Fails, Replies, Prints, Refuses, Shows, Cuts, is_unknown, or_else, print_fault, printed_text, replies_of, reply_text, save_ending}
use Rattle.script_commands.specs.RunSteps.{Adds, HasDone, HasEnded, IsAfterPrint, MayPrint, Gets, PrintsLines, TellsForm}
use Rattle.script_commands.specs.declared.progress.Progress.{Progress}

-- ## What was printed

abbrev text_of : List (Bool × List ℕ) → List ℕ
text_of [] = []
text_of ((true, bytes) ∷ earlier) = text_of earlier ++ bytes
text_of ((false, bytes) ∷ earlier) = text_of earlier

with_one : (call : Call) (e : Event) (before : List (Bool × List ℕ)) (text : List ℕ) → text ≡ text_of before → with_text call e.ok e.bytes text ≡ text_of (with_printed call e before)
with_one Print e before text is = with_print e.ok e.bytes before text is where
  with_print : (ok : Bool) (bytes : List ℕ) (before : List (Bool × List ℕ)) (text : List ℕ) → text ≡ text_of before → with_text Print ok bytes text ≡ text_of ((ok, bytes) ∷ before)
  with_print true bytes before text is = ap (λ (t : List ℕ). t ++ bytes) is
  with_print false bytes before text is = is
with_one (Alter change) e before text is = is
with_one Resolve e before text is = is
with_one Hold e before text is = is
with_one DropSeconds e before text is = is
with_one Look e before text is = is
with_one TakeInput e before text is = is
with_one Alone e before text is = is
with_one Leads e before text is = is
with_one LockBeside e before text is = is
with_one Free e before text is = is
with_one There e before text is = is
with_one MakeFolder e before text is = is
with_one Tell e before text is = is
with_one Terminal e before text is = is
with_one Seconds e before text is = is
with_one Pause e before text is = is
with_one Word e before text is = is
with_one EndOfWords e before text is = is
with_one TimeOf e before text is = is
with_one Same e before text is = is
with_one DropLeftovers e before text is = is

text_is : (events : List Event) → output_text events ≡ text_of (output events)
text_is [] = refl
text_is (e ∷ earlier) = with_one e.call e (output earlier) (output_text earlier) (text_is earlier)

pub same_text : (old new : List Event) → output new ≡ output old → output_text new ≡ output_text old
same_text old new same = text_is new ∙ (ap text_of same ∙ sym (text_is old))

-- ## Steps that leave the image

pub shown : (start : Image) (old mid new : List Event) (xs : List ShownAnswer) (p : Progress) (form : List ℕ) (ok : Bool) → HasDone start old xs p mid → p.is_typed ≡ true → new ≡ tell_call ok (name_text Hint form) ∷ mid → HasDone start old xs p new
shown start old mid new xs p form ok d typed is = record {
  steps = Shows form ∷ d.steps;
  done = (mid, d.done, (typed, ok, is));
  image = d.image;
  place = d.place;
  sync = d.sync;
  refused = d.refused;
  why = d.why;
  fault = d.fault;
  cut = d.cut;
  replies = d.replies;
  waiting = d.waiting;
  text = ap output_text is ∙ d.text;
  kept = d.kept;
  never = d.never;
}

pub form_told : (start : Image) (old mid new : List Event) (xs : List ShownAnswer) (p : Progress) (form : List ℕ) → HasDone start old xs p mid → p.is_typed ≡ true → TellsForm form mid new → HasDone start old xs p new
form_told start old mid new xs p form d typed (inl same) = subst (λ (h : List Event). HasDone start old xs p h) (sym same) d
form_told start old mid new xs p form d typed (inr (ok, is)) = shown start old mid new xs p form ok d typed is

pub cut_short : (start : Image) (old mid new : List Event) (xs : List ShownAnswer) (p : Progress) (ok : Bool) → HasDone start old xs p mid → new ≡ tell_call ok (name_text TooLong (codes "standard input")) ∷ mid → HasDone start old xs (record p { is_cut = true }) new
cut_short start old mid new xs p ok d is = record {
  steps = Cuts ∷ d.steps;
  done = (mid, d.done, (ok, is));
  image = d.image;
  place = d.place;
  sync = d.sync;
  refused = d.refused;
  why = d.why;
  fault = d.fault;
  cut = refl;
  replies = d.replies;
  waiting = d.waiting;
  text = ap output_text is ∙ d.text;
  kept = d.kept;
  never = d.never;
}

-- all lines that wait are printed
pub printed : (start : Image) (old mid new : List Event) (xs : List ShownAnswer) (p : Progress) (lines : Vec ℕ) → HasDone start old xs p mid → p.fault ≡ None → lines.items ≡ [] → new ≡ print_call true 0 p.lines.items ∷ mid → HasDone start old xs (record p { lines = lines }) new
printed start old mid new xs p lines d going none is = record {
  steps = Prints p.lines.items ∷ d.steps;
  done = (mid, d.done, (sym d.fault ∙ going, d.waiting, is));
  image = d.image;
  place = d.place;
  sync = d.sync;
  refused = d.refused;
  why = d.why;
  fault = d.fault;
  cut = d.cut;
  replies = d.replies;
  waiting = rw none (d.waiting ∙ sym (append-nil _));
  text = ap output_text is ∙ (ap (λ (t : List ℕ). t ++ p.lines.items) d.text ∙ append_assoc (output_text old) (printed_text d.steps) p.lines.items);
  kept = d.kept;
  never = d.never;
}

-- none wait
nothing_printed : (start : Image) (old new : List Event) (xs : List ShownAnswer) (p : Progress) (lines : Vec ℕ) → HasDone start old xs p new → lines.items ≡ p.lines.items → HasDone start old xs (record p { lines = lines }) new
nothing_printed start old new xs p lines d same = record {
  steps = d.steps;
  done = d.done;
  image = d.image;
  place = d.place;
  sync = d.sync;
  refused = d.refused;
  why = d.why;
  fault = d.fault;
  cut = d.cut;
  replies = d.replies;
  waiting = rw same d.waiting;
  text = d.text;
  kept = d.kept;
  never = d.never;
}

abbrev is_faulty : Option PrintFault → Type 0
is_faulty None = ⊥
is_faulty (Some it) = Unit {0}

pub is_fault : (it : PrintFault) → Some it ≡ None → ⊥
is_fault it gone = subst is_faulty gone tt

pub refused : (start : Image) (old mid new : List Event) (xs : List ShownAnswer) (p : Progress) (why : PrintFault) (bytes : List ℕ) → HasDone start old xs p mid → p.fault ≡ None → new ≡ print_call false (pipe_number why) bytes ∷ mid → HasDone start old xs (record p { fault = Some why }) new
refused start old mid new xs p why bytes d going is = record {
  steps = Refuses why bytes ∷ d.steps;
  done = (mid, d.done, (sym d.fault ∙ going, is));
  image = d.image;
  place = d.place;
  sync = d.sync;
  refused = d.refused;
  why = d.why;
  fault = refl;
  cut = d.cut;
  replies = (d.replies.0, d.replies.1, λ saved printed. absurd (is_fault why printed));
  waiting = d.waiting;
  text = ap output_text is ∙ d.text;
  kept = d.kept;
  never = d.never;
}

-- one reply more
one_more : (xs : List ShownAnswer) (one : ShownAnswer) (steps : List Step) → AreReplies steps xs → save_ending steps ≡ None → print_fault steps ≡ None → xs ++ one ∷ [] ≡ (replies_of steps ++ one ∷ []) ++ []
one_more xs one steps are saved printed = ap (λ (l : List ShownAnswer). l ++ one ∷ []) (are.1 ∙ (ap (λ (l : List ShownAnswer). replies_of steps ++ l) (are.2 saved printed) ∙ append-nil _)) ∙ sym (append-nil _)

-- a run that has ended prints none of what it is shown
pub passed_over : (start : Image) (old new : List Event) (xs : List ShownAnswer) (p : Progress) (one : ShownAnswer) → HasDone start old xs p new → HasEnded p → HasDone start old (xs ++ one ∷ []) p new
passed_over start old new xs p one d ended = record {
  steps = d.steps;
  done = d.done;
  image = d.image;
  place = d.place;
  sync = d.sync;
  refused = d.refused;
  why = d.why;
  fault = d.fault;
  cut = d.cut;
  replies = (d.replies.0 ++ one ∷ [], ap (λ (l : List ShownAnswer). l ++ one ∷ []) d.replies.1 ∙ append_assoc (replies_of d.steps) d.replies.0 (one ∷ []), λ saved printed. absurd (over ended (d.why ∙ saved) (d.fault ∙ printed)));
  waiting = d.waiting;
  text = d.text;
  kept = d.kept;
  never = d.never;
} where
  over : HasEnded p → p.save_ending ≡ None → p.fault ≡ None → ⊥
  over (inl failed) saved printed = failed saved
  over (inr failed) saved printed = failed printed

pub replied : (start : Image) (old new : List Event) (xs : List ShownAnswer) (p : Progress) (is_refused : Bool) (bytes : List ℕ) (lines : Vec ℕ) (one : ShownAnswer) → HasDone start old xs p new → MayPrint is_refused p bytes one → lines.items ≡ p.lines.items ++ bytes
    → HasDone start old (xs ++ one ∷ []) (record p { lines = lines; is_refused = or_else is_refused p.is_refused }) new
replied start old new xs p is_refused bytes lines one d m are = record {
  steps = Replies one.entry one.answer one.blocks ∷ d.steps;
  done = (new, d.done, refl);
  image = d.image;
  place = d.place;
  sync = d.sync;
  refused = rw (m.refused, d.refused) refl;
  why = d.why;
  fault = d.fault;
  cut = d.cut;
  replies = ([], one_more xs one d.steps d.replies (sym d.why ∙ m.saved) (sym d.fault ∙ m.printed), λ saved printed. refl);
  waiting = rw are (rw (sym m.are) (ap (λ (t : List ℕ). t ++ bytes) d.waiting ∙ append_assoc (printed_text d.steps) p.lines.items bytes));
  text = d.text;
  kept = λ always. ((λ changed. rw (sym (d.image m.saved)) (m.kept always changed)), d.kept always);
  never = d.never;
}

-- lines are printed at once, where none wait
pub replied_now : (start : Image) (old mid new : List Event) (xs : List ShownAnswer) (p : Progress) (is_refused : Bool) (bytes : List ℕ) (one : ShownAnswer) → HasDone start old xs p mid → MayPrint is_refused p bytes one → p.lines.items ≡ [] → PrintsLines bytes (Ok tt) mid new
    → HasDone start old (xs ++ one ∷ []) (record p { is_refused = or_else is_refused p.is_refused }) new
replied_now start old mid new xs p is_refused [] one d m none is = subst (λ (h : List Event). HasDone start old (xs ++ one ∷ []) (record p { is_refused = or_else is_refused p.is_refused }) h) (sym is) (replied start old mid xs p is_refused [] p.lines one d m (sym (append-nil _)))
replied_now start old mid new xs p is_refused (byte ∷ bytes) one d m none is = record {
  steps = Prints (byte ∷ bytes) ∷ Replies one.entry one.answer one.blocks ∷ d.steps;
  done = (mid, (mid, d.done, refl), (sym d.fault ∙ m.printed, all, is));
  image = d.image;
  place = d.place;
  sync = d.sync;
  refused = rw (m.refused, d.refused) refl;
  why = d.why;
  fault = d.fault;
  cut = d.cut;
  replies = ([], one_more xs one d.steps d.replies (sym d.why ∙ m.saved) (sym d.fault ∙ m.printed), λ saved printed. refl);
  waiting = rw none (all ∙ sym (append-nil _));
  text = ap output_text is ∙ (ap (λ (t : List ℕ). t ++ byte ∷ bytes) d.text ∙ append_assoc (output_text old) (printed_text d.steps) (byte ∷ bytes));
  kept = λ always. ((λ changed. rw (sym (d.image m.saved)) (m.kept always changed)), d.kept always);
  never = d.never;
} where
  all : reply_text (Replies one.entry one.answer one.blocks ∷ d.steps) ≡ printed_text d.steps ++ byte ∷ bytes
  all = rw (sym m.are) (ap (λ (t : List ℕ). t ++ byte ∷ bytes) (d.waiting ∙ (ap (λ (t : List ℕ). printed_text d.steps ++ t) none ∙ append-nil _)))

-- ## Lines

-- lines are added after a save and the form of a line, which print nothing
pub text_after : (h h1 h2 h3 : List Event) (old mid : Vec ℕ) (new lines : List ℕ) → output h1 ≡ output h → output_text h2 ≡ output_text h1 → mid ≡ old → output_text h3 ++ new ≡ output_text h2 ++ mid.items ++ lines → output_text h3 ++ new ≡ output_text h ++ old.items ++ lines
text_after h h1 h2 h3 old mid new lines out text same is = is ∙ (ap (λ (t : List ℕ). t ++ mid.items ++ lines) (text ∙ same_text h h1 out) ∙ ap (λ (l : Vec ℕ). output_text h ++ l.items ++ lines) same)

pub text_printed : (bytes : List ℕ) (mid new : List Event) → PrintsLines bytes (Ok tt) mid new → output_text new ≡ output_text mid ++ bytes
text_printed [] mid new is = ap output_text is ∙ sym (append-nil _)
text_printed (byte ∷ bytes) mid new is = ap output_text is

pub all_printed : (start : Image) (old mid new : List Event) (xs : List ShownAnswer) (p : Progress) (lines : Vec ℕ) → HasDone start old xs p mid → p.fault ≡ None → lines.items ≡ [] → PrintsLines p.lines.items (Ok tt) mid new → HasDone start old xs (record p { lines = lines }) new
all_printed start old mid new xs p lines d going none is = go p.lines.items refl is where
  go : (bytes : List ℕ) → p.lines.items ≡ bytes → PrintsLines bytes (Ok tt) mid new → HasDone start old xs (record p { lines = lines }) new
  go [] are same = subst (λ (h : List Event). HasDone start old xs (record p { lines = lines }) h) (sym same) (nothing_printed start old mid xs p lines d (none ∙ sym are))
  go (byte ∷ bytes) are same = printed start old mid new xs p lines d going none (same ∙ ap (λ (b : List ℕ). print_call true 0 b ∷ mid) (sym are))

pub not_printed : (start : Image) (old mid new : List Event) (xs : List ShownAnswer) (p : Progress) (why : PrintFault) (bytes : List ℕ) → HasDone start old xs p mid → p.fault ≡ None → PrintsLines bytes (Err why) mid new → HasDone start old xs (record p { fault = Some why }) new
not_printed start old mid new xs p why [] d going is = absurd is
not_printed start old mid new xs p why (byte ∷ bytes) d going is = refused start old mid new xs p why (byte ∷ bytes) d going is

pub added : (start : Image) (old new : List Event) (xs : List ShownAnswer) (p q : Progress) (is_refused : Bool) (bytes : List ℕ) (one : ShownAnswer) → HasDone start old xs p new → MayPrint is_refused p bytes one → Adds is_refused bytes p q → HasDone start old (xs ++ one ∷ []) q new
added start old new xs p q is_refused bytes one d m it = subst (λ (r : Progress). HasDone start old (xs ++ one ∷ []) r new) (sym it.1) (replied start old new xs p is_refused bytes q.lines one d m it.0)

pub after_now : (start : Image) (old mid new : List Event) (xs : List ShownAnswer) (p q : Progress) (is_refused : Bool) (bytes : List ℕ) (one : ShownAnswer) (result : Result (Unit {0}) PrintFault) → HasDone start old xs p mid → MayPrint is_refused p bytes one → p.lines.items ≡ []
    → PrintsLines bytes result mid new → IsAfterPrint is_refused result p q → HasDone start old (xs ++ one ∷ []) q new
after_now start old mid new xs p q is_refused bytes one (Ok it) d m none is after =
    subst (λ (r : Progress). HasDone start old (xs ++ one ∷ []) r new) (sym after) (replied_now start old mid new xs p is_refused bytes one d m none is)
after_now start old mid new xs p q is_refused bytes one (Err why) d m none is after = subst (λ (r : Progress). HasDone start old (xs ++ one ∷ []) r new) (sym after)
    (passed_over start old new xs (record p { fault = Some why }) one (not_printed start old mid new xs p why bytes d m.printed is) (inr (is_fault why)))

pub may_still : (p q : Progress) (is_refused : Bool) (bytes : List ℕ) (one : ShownAnswer) → MayPrint is_refused p bytes one → q.save_ending ≡ p.save_ending → q.fault ≡ p.fault → q.saving ≡ p.saving → q.image ≡ p.image → MayPrint is_refused q bytes one
may_still p q is_refused bytes one m save_ending fault saving image = record {
  saved = save_ending ∙ m.saved;
  printed = fault ∙ m.printed;
  are = m.are;
  refused = m.refused;
  kept = λ always changed. rw image (m.kept (sym saving ∙ always) changed);
}

-- ## Steps of the image

abbrev is_there : Option Ending → Type 0
is_there None = ⊥
is_there (Some it) = Unit {0}

pub saved : (start : Image) (old mid new : List Event) (xs : List ShownAnswer) (p q : Progress) → HasDone start old xs p mid → p.save_ending ≡ None → (p.saving ≡ Never → ⊥) → q ≡ record p { image = q.image; is_place_told = q.is_place_told; is_sync_told = q.is_sync_told }
    → Gets p (Ok tt) q mid new → output new ≡ output mid → HasDone start old xs q new
saved start old mid new xs p q d none may same (inl it) out = rw (it.0) (subst (λ (h : List Event). HasDone start old xs p h) (sym it.1) d)
saved start old mid new xs p q d none may same (inr it) out = rw same (record {
  steps = Saves q.image it.0 ∷ d.steps;
  done = (mid, d.done, (sym d.why ∙ none, rw (sym (d.place none), sym (d.sync none), sym (d.image none)) it.1));
  image = λ gone. refl;
  place = λ gone. it.2;
  sync = λ gone. it.3 ∙ ap (or_else (is_unknown it.0)) (d.sync none);
  refused = d.refused;
  why = d.why;
  fault = d.fault;
  cut = d.cut;
  replies = d.replies;
  waiting = d.waiting;
  text = same_text mid new out ∙ d.text;
  kept = d.kept;
  never = λ never. absurd (may never);
})

pub failed : (start : Image) (old mid new : List Event) (xs : List ShownAnswer) (p q : Progress) (why : Ending) → HasDone start old xs p mid → p.save_ending ≡ None → (p.saving ≡ Never → ⊥) → q ≡ record p { image = q.image; is_place_told = q.is_place_told; is_sync_told = q.is_sync_told }
    → Gets p (Err why) q mid new → output new ≡ output mid → HasDone start old xs (record q { save_ending = Some why }) new
failed start old mid new xs p q why d none may same stays out = rw same (record {
  steps = Fails why ∷ d.steps;
  done = (mid, d.done, (sym d.why ∙ none, subst (λ (i : Image). StaysUnsaved i why mid new) (d.image none) stays));
  image = λ gone. absurd (is_some why gone);
  place = λ gone. absurd (is_some why gone);
  sync = λ gone. absurd (is_some why gone);
  refused = d.refused;
  why = refl;
  fault = d.fault;
  cut = d.cut;
  replies = (d.replies.0, d.replies.1, λ saved printed. absurd (is_some why saved));
  waiting = d.waiting;
  text = same_text mid new out ∙ d.text;
  kept = d.kept;
  never = λ never. absurd (may never);
}) where
  is_some : (it : Ending) → Some it ≡ None → ⊥
  is_some it gone = subst is_there gone tt

-- nothing is done
pub none_done : (start : Image) (saving : Saving) (is_typed : Bool) (lines : Vec ℕ) (old : List Event) → lines.items ≡ []
    → HasDone start old [] (record { image = start; saving = saving; is_typed = is_typed; lines = lines; is_place_told = false; is_sync_told = false; is_cut = false; is_refused = false; save_ending = None; fault = None }) old
none_done start saving is_typed lines old none = record {
  steps = [];
  done = refl;
  image = λ gone. refl;
  place = λ gone. refl;
  sync = λ gone. refl;
  refused = refl;
  why = refl;
  fault = refl;
  cut = refl;
  replies = ([], refl, λ saved printed. refl);
  waiting = sym none;
  text = sym (append-nil _);
  kept = λ always. tt;
  never = λ never. tt;
}
