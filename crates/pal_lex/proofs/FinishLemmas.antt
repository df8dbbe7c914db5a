-- The end of a statement, and of a source.
use Rattle.std.proofs.Common.{◌≡◌, ℕ, ◌+◌, ◌≤◌, nat_eq, Bool, true, false, ◌&&◌, not, if◌then◌else◌, Some, None, Ok, Err, length, take, List, [], ◌∷◌, refl, ap, sym, subst, ◌∙◌, arith}
use Rattle.pal_lex.specs.Text.{is_dead, is_end, is_over, ends_statement, stretch, since, up_to_end, cr_count, limit, line_after, text_from}
use Rattle.pal_lex.specs.Cutting.{has_illegal, pieces}
use Rattle.pal_lex.specs.Runs.{base, tokens}
use Rattle.pal_lex.specs.Grammar.{phrase_of_tokens, has_bad_number}
use Rattle.pal_lex.specs.Drafting.{Cut, cut}
use Rattle.pal_lex.specs.Statements.{radix_by, radix_after, statements, fault_of, first_of, first_fault}
use Rattle.pal_lex.specs.Joins.{is_lone_pause, is_pause}
use Rattle.pal_lex.specs.Progress.{Progress}
use Rattle.pal_lex.specs.JudgeSteps.{Judges, dies, comment_after, after_statement, ended_statement, after_pause, pause_statement, next, after_fault}
use Rattle.pal_lex.specs.Reading.{IsReading, StateIs, HasRead, IsPaused, HasPaused, tokens_after, tokens_since, with_tokens, is_pause_body, IsHandedOut, Pauses, HandsOut, TellsFault, Answers, ReadsOn, BeginsSource}
use Rattle.pal_faults.specs.declared.lexical.LexFault.{LexFault}
use Rattle.pal_faults.specs.declared.lexical.LexFault.TheVariants.{IC, SY, NU, NE, Memory}
use Rattle.pal_lex.specs.declared.lexing.State.{State}
use Rattle.pal_lex.specs.declared.lexing.State.TheVariants.{Reading, Over, Failed}
use Rattle.pal_lex.specs.declared.phrases.Said.{Said}
use Rattle.pal_lex.specs.declared.phrases.Statement.{Statement}
use Rattle.pal_lex.specs.declared.runs.Radix.TheVariants.{Octal}
use Rattle.pal_lex.proofs.DraftLemmas.{cut_illegal, put_legal}
use Rattle.pal_lex.proofs.LawLemmas.{one_more, newest, ends_source}
use Rattle.pal_lex.proofs.JoinLemmas.{cut_statements, cut_line, cut_over, cut_twice, clear_comment, clear_stretch}
use Rattle.pal_lex.proofs.PauseLemmas.{said_no_pause}
use Rattle.pal_lex.proofs.RunLemmas.{reading}
use Rattle.pal_lex.proofs.ShapeLemmas.{bytes_since, same_said, same_bad, same_illegal, same_lone_pause}

-- What is known where a byte ends a statement after a text.
pub record Here (old : Progress) (seam : ℕ) (text : List ℕ) (b : ℕ) : Type 0 where
  pub now : IsReading old seam text
  pub dead : is_dead text b ≡ false
  pub end : is_end b ≡ true

abbrev live : ℕ → List ℕ → List (ℕ × ℕ)
live seam text = since seam (stretch text)

pub here : (old : Progress) (seam : ℕ) (text : List ℕ) (b : ℕ) → old.state ≡ Reading → dies old.comment b ≡ false → is_end b ≡ true → HasRead old seam text → Here old seam text b
here old seam text b state alive end read =
    let now = reading old seam text state read in
    record { now = now; dead = ap (λ (c : Bool). dies c b) (sym now.comment) ∙ alive; end = end }

ends : (old : Progress) (seam : ℕ) (text : List ℕ) (b : ℕ) → Here old seam text b → ends_statement text b ≡ true
ends old seam text b h = rw (h.end, h.dead, h.now.not_over) refl

-- the statement that the byte ends
newest_is : (old : Progress) (seam : ℕ) (text : List ℕ) (b : ℕ) → Here old seam text b → statements (b ∷ text) ≡ newest text b ∷ statements text
newest_is old seam text b h =
    one_more b text ∙ ap (λ (t : Bool). if t then newest text b ∷ statements text else statements text) (ends old seam text b h)

illegal_is : (old : Progress) (seam : ℕ) (text : List ℕ) (b : ℕ) → Here old seam text b → has_illegal (stretch text) ≡ old.draft.illegal
illegal_is old seam text b h = sym (same_illegal (live seam text) (stretch text) (bytes_since seam (stretch text)))
    ∙ cut_illegal old.draft (base (radix_after (statements text))) (has_illegal (live seam text)) (pieces (live seam text)) h.now.draft

tokens_are : (old : Progress) (seam : ℕ) (text : List ℕ) (b : ℕ) → Here old seam text b → old.draft.illegal ≡ false → old.draft.tokens ≡ tokens_since seam text
tokens_are old seam text b h legal = ap (λ (c : Cut). c.tokens) (put_legal (radix_after (statements text)) (live seam text) old.draft h.now.draft legal)

bad_is : (old : Progress) (seam : ℕ) (text : List ℕ) (b : ℕ) → Here old seam text b → old.draft.illegal ≡ false → has_bad_number (tokens_after text) ≡ has_bad_number old.draft.tokens
bad_is old seam text b h legal =
    sym (same_bad (radix_after (statements text)) (live seam text) (stretch text) (bytes_since seam (stretch text))) ∙ sym (ap has_bad_number (tokens_are old seam text b h legal))

said_is : (old : Progress) (seam : ℕ) (text : List ℕ) (b : ℕ) → Here old seam text b → old.draft.illegal ≡ false → phrase_of_tokens (tokens_after text) ≡ phrase_of_tokens old.draft.tokens
said_is old seam text b h legal =
    sym (same_said (radix_after (statements text)) (live seam text) (stretch text) (bytes_since seam (stretch text))) ∙ sym (ap phrase_of_tokens (tokens_are old seam text b h legal))

pause_is : (old : Progress) (seam : ℕ) (text : List ℕ) (b : ℕ) → Here old seam text b → is_pause (stretch text) ≡ (not old.draft.illegal && is_lone_pause old.draft.tokens)
pause_is old seam text b h =
    ap (λ (t : Bool). not t && is_lone_pause (tokens Octal (stretch text))) (illegal_is old seam text b h)
    ∙ where_legal old.draft.illegal (is_lone_pause (tokens Octal (stretch text))) (is_lone_pause old.draft.tokens) (λ legal.
    sym (same_lone_pause (radix_after (statements text)) Octal (live seam text) (stretch text) (bytes_since seam (stretch text)))
    ∙ sym (ap is_lone_pause (tokens_are old seam text b h legal)))
  where
    where_legal : (illegal a b : Bool) → (illegal ≡ false → a ≡ b) → (not illegal && a) ≡ (not illegal && b)
    where_legal true a b f = refl
    where_legal false a b f = f refl

-- ## A statement

abbrev next_line : Bool → ℕ → ℕ
next_line cr line = if cr then limit (line + 1) else line

line_following : (cr : Bool) (line count : ℕ) → line ≡ limit (1 + count) → next_line cr line ≡ limit (1 + ((if cr then 1 else 0) + count))
line_following true line count e = omega arith
line_following false line count e = omega arith

read_by : (dollar : Bool) (old : Progress) (seam : ℕ) (text : List ℕ) (b : ℕ) (s : Said) → Here old seam text b → old.state ≡ Reading → nat_eq b 36 ≡ dollar
    → first_fault (statements (b ∷ text)) ≡ None → radix_after (statements (b ∷ text)) ≡ radix_by s.body (radix_after (statements text))
    → StateIs (if dollar then Over else old.state) (after_statement b s.body old) seam (b ∷ text)
read_by true old seam text b s h state e none radix = (none, rw (h.now.not_over, e, h.dead) refl)
read_by false old seam text b s h state e none radix = subst (λ (s' : State). StateIs s' (after_statement b s.body old) seam (b ∷ text)) (sym state) record {
  begun = omega (arith, h.now.begun);
  comment = ap (λ (c : Bool). comment_after c b) h.now.comment;
  place = omega (arith, h.now.begun, h.now.place);
  line = line_following (nat_eq b 13) old.line (cr_count text) h.now.line;
  radix = ap (radix_by s.body) h.now.radix ∙ sym radix;
  draft = let nothing : stretch (b ∷ text) ≡ [] = rw (h.dead, h.end) refl in ap (λ l. cut (radix_after (statements (b ∷ text))) (since seam l)) (sym nothing);
  no_fault = none;
  not_over = rw (h.now.not_over, e) refl;
}

has_ended : (old : Progress) (seam : ℕ) (text : List ℕ) (b : ℕ) (s : Said) → StateIs (if nat_eq b 36 then Over else old.state) (after_statement b s.body old) seam (b ∷ text) → HasRead (after_statement b s.body old) seam (b ∷ text)
unfolding HasRead
has_ended old seam text b s h = h

handed_out : (old : Progress) (seam : ℕ) (text : List ℕ) (b : ℕ) (s : Said) → old.state ≡ Reading → Here old seam text b → Judges old.line old.draft.illegal old.draft.tokens (Ok s)
    → IsHandedOut seam text b (ended_statement b s old) old (after_statement b s.body old)
handed_out old seam text b s state h judges =
    let good : newest text b ≡ Ok (with_tokens (tokens_after text) (record (ended_statement b s old) { line = line_after text })) =
    rw (illegal_is old seam text b h ∙ judges.0, bad_is old seam text b h judges.0 ∙ judges.1, said_is old seam text b h judges.0 ∙ judges.2) refl in
    let is : statements (b ∷ text) ≡ Ok (with_tokens (tokens_after text) (ended_statement b s old)) ∷ statements text =
    newest_is old seam text b h ∙ ap (λ n. n ∷ statements text) good
    ∙ ap (λ n. Ok (with_tokens (tokens_after text) (record (ended_statement b s old) { line = n })) ∷ statements text) (sym h.now.line) in
    let none : first_fault (statements (b ∷ text)) ≡ None = ap first_fault is ∙ ap (λ f. first_of f None) h.now.no_fault in
    record {
      no_fault = none;
      newest = is;
      tokens = ap (λ l. if old.keeps_tokens then l else []) (tokens_are old seam text b h judges.0);
      source = refl;
      read = has_ended old seam text b s (read_by (nat_eq b 36) old seam text b s h state refl none (ap radix_after is));
    }

pub said_finished : (old new : Progress) (seam : ℕ) (text : List ℕ) (b : ℕ) (s : Said) (statement : Statement) → old.state ≡ Reading → Here old seam text b
    → Judges old.line old.draft.illegal old.draft.tokens (Ok s) → statement ≡ ended_statement b s old → new ≡ after_statement b s.body old
    → HandsOut (is_pause_body statement.body) seam text b statement old new
said_finished old new seam text b s statement state h judges is becomes =
    subst (λ (p : Bool). HandsOut p seam text b statement old new) (sym (ap (λ (t : Statement). is_pause_body t.body) is ∙ said_no_pause old.draft.tokens s judges.2))
    (subst (λ (t : Statement). IsHandedOut seam text b t old new) (sym is)
    (subst (λ (n : Progress). IsHandedOut seam text b (ended_statement b s old) old n) (sym becomes) (handed_out old seam text b s state h judges)))

-- ## PAUSE

has_paused : (l : Progress) (text : List ℕ) → IsPaused l text → HasPaused l text
unfolding HasPaused
has_paused l text h = h

pub is_paused : (l : Progress) (text : List ℕ) → HasPaused l text → IsPaused l text
unfolding HasPaused
is_paused l text h = h

alone_legal : (illegal alone : Bool) → (not illegal && alone) ≡ true → illegal ≡ false
alone_legal true alone e = absurd cc
alone_legal false alone e = refl

pause_out : (old : Progress) (seam : ℕ) (text : List ℕ) (b : ℕ) → Here old seam text b → old.may_pause ≡ true → (not old.draft.illegal && is_lone_pause old.draft.tokens) ≡ true
    → Pauses seam text b (pause_statement old) old (after_pause old)
pause_out old seam text b h may alone =
    let radix : radix_after (statements (up_to_end text)) ≡ radix_after (statements text) = ap radix_after (cut_statements text) in
    record {
      may_pause = may;
      pauses = rw (ends old seam text b h) (pause_is old seam text b h ∙ alone);
      line = h.now.line;
      tags = refl;
      last = refl;
      tokens = ap (λ l. if old.keeps_tokens then l else []) (tokens_are old seam text b h (alone_legal old.draft.illegal (is_lone_pause old.draft.tokens) alone));
      source = refl;
      same = cut_statements text;
      clear = (cut_twice text, cut_over text ∙ h.now.not_over);
      paused = has_paused (after_pause old) (up_to_end text) record {
        state = refl;
        line = h.now.line ∙ sym (cut_line text);
        radix = h.now.radix ∙ sym radix;
        draft = refl;
        no_fault = ap first_fault (cut_statements text) ∙ h.now.no_fault;
        not_over = cut_over text ∙ h.now.not_over;
        ended = cut_twice text;
      };
    }

pub pause_finished : (old new : Progress) (seam : ℕ) (text : List ℕ) (b : ℕ) (statement : Statement) → Here old seam text b → old.may_pause ≡ true
    → (not old.draft.illegal && is_lone_pause old.draft.tokens) ≡ true → statement ≡ pause_statement old → new ≡ after_pause old
    → HandsOut (is_pause_body statement.body) seam text b statement old new
pause_finished old new seam text b statement h may alone is becomes =
    subst (λ (p : Bool). HandsOut p seam text b statement old new) (sym (ap (λ (t : Statement). is_pause_body t.body) is))
    (subst (λ (t : Statement). Pauses seam text b t old new) (sym is)
    (subst (λ (n : Progress). Pauses seam text b (pause_statement old) old n) (sym becomes) (pause_out old seam text b h may alone)))

-- ## A fault

has_told : (old : Progress) (seam : ℕ) (text : List ℕ) (fault : LexFault) → first_fault (statements text) ≡ Some fault → HasRead (record old { state = Failed fault }) seam text
unfolding HasRead
has_told old seam text fault told = told

and_false : (a b : Bool) → b ≡ false → (a && b) ≡ false
and_false true b e = e
and_false false b e = refl

tells : (old : Progress) (seam : ℕ) (text : List ℕ) (b : ℕ) (fault : LexFault) → Here old seam text b
    → (old.may_pause ≡ true → (not old.draft.illegal && is_lone_pause old.draft.tokens) ≡ false) → newest text b ≡ Err fault
    → TellsFault seam text b fault old (record old { state = Failed fault })
tells old seam text b fault h quiet bad =
    let told : first_fault (statements (b ∷ text)) ≡ Some fault =
    ap first_fault (newest_is old seam text b h) ∙ ap (λ f. first_of f (fault_of (newest text b))) h.now.no_fault ∙ ap fault_of bad in
    (told, λ none may. and_false (ends_statement text b) (is_pause (stretch text)) (pause_is old seam text b h ∙ quiet may), has_told old seam (b ∷ text) fault told)

pub fault_finished : (old new : Progress) (seam : ℕ) (text : List ℕ) (b : ℕ) (fault : LexFault) → Here old seam text b
    → (old.may_pause ≡ true → (not old.draft.illegal && is_lone_pause old.draft.tokens) ≡ false) → Judges old.line old.draft.illegal old.draft.tokens (Err fault)
    → new ≡ after_fault fault old → Answers seam text b (Err fault) old new
fault_finished old new seam text b (IC line) h quiet judges becomes =
    subst (λ (n : Progress). TellsFault seam text b (IC line) old n) (sym becomes)
    (tells old seam text b (IC line) h quiet (rw (illegal_is old seam text b h ∙ judges.1) (ap (λ l. Err (IC l)) (sym h.now.line ∙ sym judges.0))))
fault_finished old new seam text b (NU line) h quiet judges becomes =
    subst (λ (n : Progress). TellsFault seam text b (NU line) old n) (sym becomes)
    (tells old seam text b (NU line) h quiet
    (rw (illegal_is old seam text b h ∙ judges.1, bad_is old seam text b h judges.1 ∙ judges.2) (ap (λ l. Err (NU l)) (sym h.now.line ∙ sym judges.0))))
fault_finished old new seam text b (SY line) h quiet judges becomes =
    subst (λ (n : Progress). TellsFault seam text b (SY line) old n) (sym becomes)
    (tells old seam text b (SY line) h quiet
    (rw (illegal_is old seam text b h ∙ judges.1, bad_is old seam text b h judges.1 ∙ judges.2, said_is old seam text b h judges.1 ∙ judges.3) (ap (λ l. Err (SY l)) (sym h.now.line ∙ sym judges.0))))
fault_finished old new seam text b (NE line) h quiet judges becomes = absurd judges
fault_finished old new seam text b Memory h quiet judges becomes = (h.now.no_fault, h.now.not_over, h.dead, becomes)

-- ## Beyond the end

over_all : (bytes text : List ℕ) → is_over text ≡ true → (statements (text_from text bytes) ≡ statements text) × (is_over (text_from text bytes) ≡ true)
over_all [] text over = (refl, over)
over_all (b ∷ bytes) text over =
    let one : is_over (b ∷ text) ≡ true = rw over refl in
    let rest = over_all bytes (b ∷ text) one in
    (rest.0 ∙ ends_source text (b ∷ []) over, rest.1)

all_taken : (bytes : List ℕ) → take (length bytes) bytes ≡ bytes
all_taken [] = refl
all_taken (b ∷ bytes) = ap (λ l. b ∷ l) (all_taken bytes)

over_parts : (l : Progress) (seam : ℕ) (text : List ℕ) → l.state ≡ Over → HasRead l seam text → (first_fault (statements text) ≡ None) × (is_over text ≡ true)
unfolding HasRead
over_parts l seam text e h = subst (λ (s : State). StateIs s l seam text) e h

has_over : (l : Progress) (seam : ℕ) (text : List ℕ) → l.state ≡ Over → first_fault (statements text) ≡ None → is_over text ≡ true → HasRead l seam text
unfolding HasRead
has_over l seam text e none over = subst (λ (s : State). StateIs s l seam text) (sym e) (none, over)

pub over_read : (l : Progress) (seam : ℕ) (text bytes : List ℕ) → l.state ≡ Over → HasRead l seam text → ReadsOn seam text bytes (length bytes) l
over_read l seam text bytes e h =
    let parts = over_parts l seam text e h in
    let all = over_all bytes text parts.1 in
    subst (λ prefix. (length bytes ≤ length bytes) × (statements (text_from text prefix) ≡ statements text) × HasRead l seam (text_from text prefix)) (sym (all_taken bytes))
    (omega arith, all.0, has_over l seam (text_from text bytes) e (ap first_fault all.0 ∙ parts.0) all.1)

-- ## The next source

next_reads : (old : Progress) (text : List ℕ) (last : Bool) → IsPaused old text → IsReading (next last old) (length text) text
next_reads old text last h = record {
  begun = omega arith;
  comment = sym (clear_comment text h.ended);
  place = omega arith;
  line = h.line;
  radix = h.radix;
  draft = h.draft ∙ ap (λ l. cut (radix_after (statements text)) (since (length text) l)) (sym (clear_stretch text h.ended));
  no_fault = h.no_fault;
  not_over = h.not_over;
}

next_has_read : (old : Progress) (text : List ℕ) (last : Bool) → IsReading (next last old) (length text) text → HasRead (next last old) (length text) text
unfolding HasRead
next_has_read old text last h = h

pub source_begins : (old new : Progress) (text : List ℕ) (last : Bool) → HasPaused old text → new ≡ next last old → BeginsSource text last old new
source_begins old new text last h becomes =
    subst (λ (n : Progress). BeginsSource text last old n) (sym becomes) record {
      read = next_has_read old text last (next_reads old text last (is_paused old text h));
      source = refl;
      may_pause = refl;
    }
