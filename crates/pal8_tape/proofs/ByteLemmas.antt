-- A byte more of a text.
use Rattle.std.proofs.Common.{◌≡◌, ℕ, Bool, true, false, ◌&&◌, not, if◌then◌else◌, Option, Some, None, Result, Ok, Err, IfOk, length, suc, List, [], ◌∷◌, refl, sym, ap, subst, ◌∙◌, arith}
use Rattle.pal_lex.specs.Text.{limit}
use Rattle.pal8_lex.specs.Text.{as_read, is_dropped, live}
use Rattle.pal8_lex.specs.Rules.{end_of}
use Rattle.pal8_lex.specs.Pieces.{ends, pieces}
use Rattle.pal8_lex.specs.Reading as lex
use Rattle.pal8_lex.specs.Statements.{statement_of}
use Rattle.pal8_lex.specs.declared.rules.End.{End}
use Rattle.pal8_asm.specs.Pushing.{EndsStatement, shown_statement}
use Rattle.pal8_asm.specs.Sources as asm
use Rattle.pal8_asm.specs.Sources.{PassResult, Source, Statement, statement_at, statements, with_next}
use Rattle.pal8_tape.specs.declared.join_faults.JoinFault.{JoinFault}
use Rattle.pal8_tape.specs.Joins.{empty_statement, ends_statement, is_pause, is_read, pass_on, pauses, tokens_after}
use Rattle.pal8_tape.specs.Passing.{Follows, PassState}
use Rattle.pal8_tape.specs.Steps.{MeetsByte, MeetsStatement}

pub self_longer : {A : Type 0} (x : A) (l : List A) → l ≡ x ∷ l → ⊥
self_longer x l is =
    let long : length l ≡ suc (length l) = ap length is in
    omega (arith, long)

abbrev statements_by : Bool → Bool → ℕ → List ℕ → Source
statements_by dropped ended b text =
    if dropped then statements text
    else (if ended then statement_at (limit (length text)) (statement_of (as_read b) (live text)) ∷ statements text else statements text)

if_dropped : (dropped : Bool) (b : ℕ) (text : List ℕ) → asm.statements_of (if dropped then live text else (as_read b, length text) ∷ live text)
    ≡ statements_by dropped (ends (pieces (live text)) (as_read b)) b text
if_dropped true b text = refl
if_dropped false b text = refl

-- the statement that a byte ends
abbrev pub ended_one : ℕ → List ℕ → Statement
ended_one b text = statement_at (limit (length text)) (statement_of (as_read b) (live text))

abbrev first_or : Statement → Source → Statement
first_or other [] = other
first_or other (s ∷ older) = s

ended_by : (dropped ended : Bool) (b : ℕ) (text : List ℕ) (s : Statement) → statements_by dropped ended b text ≡ s ∷ statements text
    → ((not dropped && ended) ≡ true) × (ended_one b text ≡ s)
ended_by true ended b text s is = absurd (self_longer s (statements text) is)
ended_by false true b text s is = (refl, ap (first_or s) is)
ended_by false false b text s is = absurd (self_longer s (statements text) is)

goes_by : (dropped ended : Bool) (b : ℕ) (text : List ℕ) → statements_by dropped ended b text ≡ statements text → (not dropped && ended) ≡ false
goes_by true ended b text is = refl
goes_by false true b text is = absurd (self_longer (ended_one b text) (statements text) (sym is))
goes_by false false b text is = refl

module _ (left : PassResult) (here : List ℕ) (b : ℕ) (new : lex.Progress) (pass : PassState) where
  abbrev before : PassResult
  before = pass_on left (statements here)

  pauses_by : (test : Bool) → ends_statement here b ≡ test → pauses left here b ≡ (test && (is_pause (tokens_after here) (end_of (as_read b)) && is_read before))
  pauses_by test is = ap (λ e. e && (is_pause (tokens_after here) (end_of (as_read b)) && is_read before)) is

  -- a byte that ends no statement
  pub goes_on : EndsStatement here b None new → Follows pass before → MeetsByte left here b None new pass
  goes_on it follows =
      let ended = ends (pieces (live here)) (as_read b) in
      let none = goes_by (is_dropped b) ended b here (sym (if_dropped (is_dropped b) b here) ∙ it.0) in
      (pauses_by false none, it.1, subst (λ l. Follows pass (pass_on left l)) (sym it.0) follows)

  module _ (e : End) (it : EndsStatement here b (Some e) new) where
    abbrev shown : Statement
    shown = shown_statement (limit (length here)) e new

    both : (ends_statement here b ≡ true) × (ended_one b here ≡ shown)
    both = ended_by (is_dropped b) (ends (pieces (live here)) (as_read b)) b here shown (sym (if_dropped (is_dropped b) b here) ∙ it.0)

    test_is : pauses left here b ≡ (is_pause shown.tokens shown.end && is_read before)
    test_is = pauses_by true both.0 ∙ ap (λ (s : Statement). is_pause s.tokens s.end && is_read before) both.1

    meets : (paused : Option End) → MeetsStatement before shown paused pass → MeetsByte left here b paused new pass
    meets None met = (test_is ∙ met.0, it.1, subst (λ l. Follows pass (pass_on left l)) (sym it.0) met.1)
    meets (Some end) met = (
      test_is ∙ met.0.0,
      met.1 ∙ sym (ap (λ (s : Statement). s.end) both.1),
      subst (λ x. Follows pass (with_next (empty_statement x) before)) (sym met.1) met.0.1,
    )

    -- a byte that ends one
    pub ends_statement_there : (result : Result (Option End) JoinFault)
        → IfOk result (λ paused. MeetsStatement before shown paused pass) → IfOk result (λ paused. MeetsByte left here b paused new pass)
    ends_statement_there (Ok paused) met = meets paused met
    ends_statement_there (Err fault) met = tt
