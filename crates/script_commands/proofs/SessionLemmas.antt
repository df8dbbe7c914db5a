-- A run of a script over a session, from its steps.
use Rattle.std.proofs.Common.{◌≡◌, ◌∙◌, ◌≤◌, ◌<◌, ◌⊎◌, ◌++◌, ℕ, Bool, true, false, List, [], Option, None, Some, Result, Err, IfErr, ap, refl, sym, subst, inl, inr, append-nil, arith}
use Rattle.std.proofs.lemmas.List.{append_assoc}
use Rattle.std.specs.Global.{Vec}
use Rattle.hosts.specs.Event.{Event}
use Rattle.hosts.specs.Streams.{output, output_text}
use Rattle.hosts.specs.declared.faults.PrintFault.{PrintFault}
use Rattle.outcome.specs.declared.endings.Ending.{Ending}
use Rattle.program_tasks.specs.declared.tasks.RunForm.{RunForm}
use Rattle.program_tasks.specs.declared.tasks.Saving.{Saving}
use Rattle.program_tasks.specs.declared.tasks.Saving.TheVariants.{Never}
use Rattle.script8.specs.Reading.{MayReadNoMore, TakesBytes}
use Rattle.refusals.specs.declared.faults.TheConstants.{MOST}
use Rattle.refusals.specs.declared.faults.SessionFault.{SessionFault}
use Rattle.refusals.specs.declared.faults.SessionFault.TheVariants.{Reader, Writer}
use Rattle.system_session.specs.Script.{RunsText}
use Rattle.system_session.specs.ShownAnswers.{ShownAnswer, ShowsText}
use Rattle.system_session.specs.State.{State}
use Rattle.system_session.specs.Session.{IsLater, NoCallFailed, SessionView, state_of}
use Rattle.volume_image.specs.Image.{IsImageOf}
use Rattle.image_files.specs.declared.images.Image.{Image}
use Rattle.script_commands.specs.Scripts.{EndsRun, RunsSession}
use Rattle.script_commands.specs.Steps.{AreDone, has_refusal, last_image, printed_text, reply_text, print_fault, save_ending, has_cut}
use Rattle.script_commands.specs.RunSteps.{HasDone}
use Rattle.script_commands.specs.declared.progress.Progress.{Progress}
use Rattle.script_commands.proofs.RunLemmas.{none_done, same_text}

-- ## Before

-- a run that has done nothing
abbrev pub first : Image → Saving → Bool → Vec ℕ → Progress
first image saving is_typed lines = record { image = image; saving = saving; is_typed = is_typed; lines = lines; is_place_told = false; is_sync_told = false; is_cut = false; is_refused = false; save_ending = None; fault = None }

pub begun : (image : Image) (saving : Saving) (is_typed : Bool) (lines : Vec ℕ) (p : Progress) (old : List Event) → lines.items ≡ [] → p ≡ first image saving is_typed lines → HasDone p.image old [] p old
begun image saving is_typed lines p old none is = subst (λ (q : Progress). HasDone q.image old [] q old) (sym is) (none_done image saving is_typed lines old none)

-- what it has
pub image_at : (image : Image) (saving : Saving) (is_typed : Bool) (lines : Vec ℕ) (p : Progress) → p ≡ first image saving is_typed lines → p.image ≡ image
image_at image saving is_typed lines p is = ap (λ (q : Progress). q.image) is

pub saving_at : (image : Image) (saving : Saving) (is_typed : Bool) (lines : Vec ℕ) (p : Progress) → p ≡ first image saving is_typed lines → p.saving ≡ saving
saving_at image saving is_typed lines p is = ap (λ (q : Progress). q.saving) is

pub typed_at : (image : Image) (saving : Saving) (is_typed : Bool) (lines : Vec ℕ) (p : Progress) → p ≡ first image saving is_typed lines → p.is_typed ≡ is_typed
typed_at image saving is_typed lines p is = ap (λ (q : Progress). q.is_typed) is

pub cut_at : (image : Image) (saving : Saving) (is_typed : Bool) (lines : Vec ℕ) (p : Progress) → p ≡ first image saving is_typed lines → p.is_cut ≡ false
cut_at image saving is_typed lines p is = ap (λ (q : Progress). q.is_cut) is

pub begun_at : (image start : Image) (old h new : List Event) (shown : List ShownAnswer) (p : Progress) → HasDone start h shown p new → start ≡ image → h ≡ old → HasDone image old shown p new
begun_at image start old h new shown p d is same = subst (λ (i : Image). HasDone i old shown p new) is (subst (λ (e : List Event). HasDone start e shown p new) same d)

-- what was printed before is what the host says
pub told_at : (a b : State) (input given left after : Option (List ℕ)) (answer : Result (Unit {0}) SessionFault) (old h : List Event) (p : Progress)
    → RunsText 16777216 a b given left (Some (output_text h ++ p.lines.items)) after answer → given ≡ input → h ≡ old → p.lines.items ≡ [] → RunsText 16777216 a b input left (Some (output_text old)) after answer
told_at a b input given left after answer old h p told is same none = subst (λ (t : List ℕ). RunsText 16777216 a b input left (Some t) after answer) (ap (λ (l : List ℕ). output_text h ++ l) none ∙ (append-nil _ ∙ ap output_text same))
    (subst (λ (i : Option (List ℕ)). RunsText 16777216 a b i left (Some (output_text h ++ p.lines.items)) after answer) is told)

pub shows_at : (a b : State) (shown : List ShownAnswer) (input given left after : Option (List ℕ)) (answer : Result (Unit {0}) SessionFault) (old h : List Event) (p : Progress)
    → ShowsText 16777216 a shown b given left (Some (output_text h ++ p.lines.items)) after answer → given ≡ input → h ≡ old → p.lines.items ≡ [] → ShowsText 16777216 a shown b input left (Some (output_text old)) after answer
shows_at a b shown input given left after answer old h p shows is same none = subst (λ (t : List ℕ). ShowsText 16777216 a shown b input left (Some t) after answer) (ap (λ (l : List ℕ). output_text h ++ l) none ∙ (append-nil _ ∙ ap output_text same))
    (subst (λ (i : Option (List ℕ)). ShowsText 16777216 a shown b i left (Some (output_text h ++ p.lines.items)) after answer) is shows)

-- the reader's fault has its cause
pub cause_at : (answer : Result (Unit {0}) SessionFault) (has_failed : Type 0) (input given left : Option (List ℕ)) → IfErr answer (λ e. e ≡ Reader → MayReadNoMore 16777216 has_failed given left) → given ≡ input
    → IfErr answer (λ e. e ≡ Reader → MayReadNoMore 16777216 has_failed input left)
cause_at answer has_failed input given left cause is = subst (λ (i : Option (List ℕ)). IfErr answer (λ e. e ≡ Reader → MayReadNoMore 16777216 has_failed i left)) is cause

none_more : (old new : ℕ) → 0 ≡ new → old ≤ new → new ≡ old
none_more old new zero within = omega (arith, zero, within)

-- a store that counts no failures has had none
pub quiet : (old new : SessionView) → old.volume.stopped ≡ false → 0 ≡ new.volume.failed_reads → 0 ≡ new.volume.failed_writes → IsLater old new → NoCallFailed old new
quiet old new running reads writes later = record { running = running; reads = none_more _ _ reads later.reads; writes = none_more _ _ writes later.writes }

-- ## After

ended_by : (fault : SessionFault) (Cause : Type 0) (answer : Result (Unit {0}) SessionFault) → IfErr answer (λ e. e ≡ fault → Cause) → answer ≡ Err fault → Cause
ended_by fault Cause answer ends is = subst (λ (a : Result (Unit {0}) SessionFault). IfErr a (λ e. e ≡ fault → Cause)) is ends refl

module _
    (form : RunForm) (is_typed : Bool) (image : Image) (session end : SessionView) (input left : Option (List ℕ)) (answer : Result (Unit {0}) SessionFault) (result : Result (Unit {0}) Ending)
    (has_failed : Type 0) (old ran limit last new : List Event) (p q r s : Progress) (blocks : List (List ℕ)) (is_long : Bool) (shown : List ShownAnswer)
    (done : HasDone image old shown p ran) (saving : p.saving ≡ form.saving) (typed : p.is_typed ≡ is_typed)
    (told : RunsText 16777216 (state_of session) (state_of end) input left (Some (output_text old)) (Some (output_text ran ++ p.lines.items)) answer)
    (shows : ShowsText 16777216 (state_of session) shown (state_of end) input left (Some (output_text old)) (Some (output_text ran ++ p.lines.items)) answer)
    (cause : IfErr answer (λ e. e ≡ Reader → MayReadNoMore 16777216 has_failed input left))
    (stopped : IfErr answer (λ e. e ≡ Writer → (p.save_ending ≡ None → ⊥) ⊎ (p.fault ≡ None → ⊥)))
    (long : is_long ≡ true → (count : ℕ) × TakesBytes input left count × (MOST < count)) (short : is_long ≡ false → (count : ℕ) × TakesBytes input left count × (count ≤ MOST))
    (done-q : (start : Image) (before : List Event) (those : List ShownAnswer) → HasDone start before those p ran → HasDone start before those q limit)
    (out-q : output_text limit ≡ output_text ran) (is-q : q ≡ record p { is_cut = q.is_cut }) (cut-q : q.is_cut ≡ is_long)
    (done-r : (start : Image) (before : List Event) (those : List ShownAnswer) → HasDone start before those q limit → HasDone start before those r last)
    (image-r : (q.saving ≡ Never → ⊥) → r.save_ending ≡ None → IsImageOf r.image.bytes.items blocks) (blocks-are : blocks ≡ end.volume.blocks)
    (was-r : r.save_ending ≡ None → q.save_ending ≡ None) (fault-r : r.fault ≡ q.fault) (out-r : output last ≡ output limit) (lines-r : r.lines ≡ q.lines)
    (saving-r : r.saving ≡ q.saving) (typed-r : r.is_typed ≡ q.is_typed) (cut-r : r.is_cut ≡ q.is_cut)
    (done-s : (start : Image) (before : List Event) (those : List ShownAnswer) → HasDone start before those r last → HasDone start before those s new)
    (image-s : s.image ≡ r.image) (saving-s : s.saving ≡ r.saving) (typed-s : s.is_typed ≡ r.is_typed) (save_ending-s : s.save_ending ≡ r.save_ending) (cut-s : s.is_cut ≡ r.is_cut)
    (text-s : output_text new ++ s.lines.items ≡ output_text last ++ r.lines.items) (waiting-s : s.fault ≡ None → s.lines.items ≡ []) (fault-s : s.fault ≡ None → r.fault ≡ None)
    (ends : EndsRun s.saving form.is_strict s.is_refused s.save_ending s.fault answer result)
  where
    d : HasDone image old shown s new
    d = done-s image old shown (done-r image old shown (done-q image old shown done))

    q-saving : q.saving ≡ form.saving
    q-saving = ap (λ (x : Progress). x.saving) is-q ∙ saving

    s-saving : s.saving ≡ form.saving
    s-saving = saving-s ∙ (saving-r ∙ q-saving)

    s-typed : s.is_typed ≡ is_typed
    s-typed = typed-s ∙ (typed-r ∙ (ap (λ (x : Progress). x.is_typed) is-q ∙ typed))

    given : output_text new ++ s.lines.items ≡ output_text ran ++ p.lines.items
    given = text-s ∙ (ap (λ (t : List ℕ). t ++ r.lines.items) (same_text limit last out-r ∙ out-q) ∙ ap (λ (l : Vec ℕ). output_text ran ++ l.items) (lines-r ∙ ap (λ (x : Progress). x.lines) is-q))

    replies : output_text new ++ s.lines.items ≡ output_text old ++ reply_text d.steps
    replies = ap (λ (t : List ℕ). t ++ s.lines.items) d.text ∙ (append_assoc (output_text old) (printed_text d.steps) s.lines.items ∙ ap (λ (t : List ℕ). output_text old ++ t) (sym d.waiting))

    was-long : is_long ≡ has_cut d.steps
    was-long = sym cut-q ∙ (sym (cut-s ∙ cut-r) ∙ d.cut)

    was-saved : save_ending d.steps ≡ None → p.save_ending ≡ None
    was-saved none = sym (ap (λ (x : Progress). x.save_ending) is-q) ∙ was-r (sym save_ending-s ∙ (d.why ∙ none))

    was-printed : print_fault d.steps ≡ None → p.fault ≡ None
    was-printed none = sym (ap (λ (x : Progress). x.fault) is-q) ∙ (sym fault-r ∙ fault-s (d.fault ∙ none))

    stops : (p.save_ending ≡ None → ⊥) ⊎ (p.fault ≡ None → ⊥) → (save_ending d.steps ≡ None → ⊥) ⊎ (print_fault d.steps ≡ None → ⊥)
    stops (inl failed) = inl (λ none. failed (was-saved none))
    stops (inr failed) = inr (λ none. failed (was-printed none))

    saved : (form.saving ≡ Never → ⊥) → save_ending d.steps ≡ None → IsImageOf (last_image image d.steps).bytes.items end.volume.blocks
    saved may none = subst (λ (i : Image). IsImageOf i.bytes.items end.volume.blocks) (sym image-s ∙ d.image (d.why ∙ none))
        (subst (λ (b : List (List ℕ)). IsImageOf r.image.bytes.items b) blocks-are (image-r (λ never. may (sym q-saving ∙ never)) (sym save_ending-s ∙ (d.why ∙ none))))

    ended : EndsRun form.saving form.is_strict (has_refusal d.steps) (save_ending d.steps) (print_fault d.steps) answer result
    ended = subst (λ (b : Bool). EndsRun form.saving form.is_strict b (save_ending d.steps) (print_fault d.steps) answer result) d.refused
        (subst (λ (u : Option Ending). EndsRun form.saving form.is_strict s.is_refused u (print_fault d.steps) answer result) d.why
        (subst (λ (f : Option PrintFault). EndsRun form.saving form.is_strict s.is_refused s.save_ending f answer result) d.fault
        (subst (λ (v : Saving). EndsRun v form.is_strict s.is_refused s.save_ending s.fault answer result) s-saving ends)))

    pub session_ran : RunsSession form is_typed image session (record { before = input; after = left; has_failed = has_failed }) old result new
    session_ran = record {
      steps = d.steps;
      done = subst (λ (t : Bool). AreDone t image d.steps old new) s-typed d.done;
      end = end;
      answer = answer;
      told = subst (λ (t : List ℕ). RunsText 16777216 (state_of session) (state_of end) input left (Some (output_text old)) (Some t) answer) (sym given ∙ replies) told;
      shown = shown;
      shows = subst (λ (t : List ℕ). ShowsText 16777216 (state_of session) shown (state_of end) input left (Some (output_text old)) (Some t) answer) (sym given ∙ replies) shows;
      replies = d.replies;
      waiting = s.lines.items;
      printed = d.waiting;
      all = λ none. waiting-s (d.fault ∙ none);
      text = d.text;
      never = λ never. d.never (s-saving ∙ never);
      kept = λ always. d.kept (s-saving ∙ always);
      saved = saved;
      cause = λ is. ended_by Reader _ answer cause is;
      stopped = λ is. stops (ended_by Writer _ answer stopped is);
      cut = λ is. long (was-long ∙ is);
      whole = λ is. short (was-long ∙ is);
      ends = ended;
    }
