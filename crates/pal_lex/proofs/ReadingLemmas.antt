-- What a lexer knows after one more byte.
use Rattle.std.proofs.Common.{◌≡◌, ℕ, nat_eq, Bool, true, false, if◌then◌else◌, Option, Some, None, Result, Err, List, [], ◌∷◌, refl, ap, sym, subst, ◌∙◌, arith}
use Rattle.std.proofs.lemmas.Bool.Decides.{nat_tests}
use Rattle.pal_lex.specs.Text.{ends_statement, stretch, line_after}
use Rattle.pal_lex.specs.Cutting.{has_illegal}
use Rattle.pal_lex.specs.Runs.{tokens}
use Rattle.pal_lex.specs.Grammar.{phrase_of_tokens, has_bad_number}
use Rattle.pal_lex.specs.Drafting.{Cut, cut}
use Rattle.pal_lex.specs.Statements.{statement_or_fault, judge_statement, radix_by, radix_after, statements, fault_of, first_of, first_fault}
use Rattle.pal_lex.specs.Progress.{Progress}
use Rattle.pal_lex.specs.JudgeSteps.{after_byte, after_statement}
use Rattle.pal_lex.specs.Reading.{StateIs, HasRead, TellsFault, Answers, Ends, EndsSource}
use Rattle.pal_lex.specs.Laws.{IsOfStatement, FaultsAreOfStatements}
use Rattle.pal_faults.specs.declared.lexical.LexFault.{LexFault}
use Rattle.pal_faults.specs.declared.lexical.LexFault.TheVariants.{IC, SY, NU, NE, Memory}
use Rattle.pal_lex.specs.declared.lexing.State.{State}
use Rattle.pal_lex.specs.declared.lexing.State.TheVariants.{Over, Failed}
use Rattle.pal_lex.specs.declared.pieces.Token.{Token}
use Rattle.pal_lex.specs.declared.phrases.Body.{Body}
use Rattle.pal_lex.specs.declared.phrases.Said.{Said}
use Rattle.pal_lex.specs.declared.phrases.Statement.{Statement}
use Rattle.pal_lex.specs.declared.runs.Radix.{Radix}
use Rattle.pal_lex.specs.declared.runs.Radix.TheVariants.{Octal}
use Rattle.pal_lex.proofs.LawLemmas.{fault_stays}

has_read : (l : Progress) (seam : ℕ) (text : List ℕ) (state : State) → l.state ≡ state → StateIs state l seam text → HasRead l seam text
unfolding HasRead
has_read l seam text state e h = subst (λ (s : State). StateIs s l seam text) (sym e) h

abbrev newest : List ℕ → ℕ → Result Statement LexFault
newest text b = judge_statement (line_after text) (nat_eq b 36) (stretch text) (radix_after (statements text))

-- ## Beyond a fault

abbrev IsOfStatements : Option LexFault → Type 0
IsOfStatements None = Unit {0}
IsOfStatements (Some fault) = IsOfStatement fault

stated_fault : (line : ℕ) (last : Bool) (tokens : List Token) (s : Option Said) → IsOfStatements (fault_of (statement_or_fault line last tokens s))
stated_fault line last tokens None = tt
stated_fault line last tokens (Some s) = tt

judged_fault : (illegal bad : Bool) (line : ℕ) (s : Result Statement LexFault) → IsOfStatements (fault_of s)
    → IsOfStatements (fault_of (if illegal then Err (IC line) else (if bad then Err (NU line) else s)))
judged_fault true bad line s h = tt
judged_fault false true line s h = tt
judged_fault false false line s h = h

first_is : (a b : Option LexFault) → IsOfStatements a → IsOfStatements b → IsOfStatements (first_of a b)
first_is None b h k = k
first_is (Some a) b h k = h

step_is : (test : Bool) (s : Result Statement LexFault) (older : List (Result Statement LexFault)) → IsOfStatements (first_fault older)
    → IsOfStatements (fault_of s) → IsOfStatements (first_fault (if test then s ∷ older else older))
step_is true s older h k = first_is (first_fault older) (fault_of s) h k
step_is false s older h k = h

fault_is : (text : List ℕ) → IsOfStatements (first_fault (statements text))
unfolding statements
fault_is [] = tt
fault_is (b ∷ text) =
    step_is (ends_statement text b) (newest text b) (statements text) (fault_is text)
    (judged_fault (has_illegal (stretch text)) (has_bad_number (tokens (radix_after (statements text)) (stretch text))) (line_after text)
    (statement_or_fault (line_after text) (nat_eq b 36) (tokens (radix_after (statements text)) (stretch text)) (phrase_of_tokens (tokens (radix_after (statements text)) (stretch text))))
    (stated_fault (line_after text) (nat_eq b 36) (tokens (radix_after (statements text)) (stretch text)) (phrase_of_tokens (tokens (radix_after (statements text)) (stretch text)))))

pub known_fault : FaultsAreOfStatements
known_fault text fault e = subst IsOfStatements e (fault_is text)

has_failed : (l : Progress) (seam : ℕ) (text : List ℕ) (fault : LexFault) → l.state ≡ Failed fault → HasRead l seam text → first_fault (statements text) ≡ Some fault
unfolding HasRead
has_failed l seam text fault e h = subst (λ (s : State). StateIs s l seam text) e h

not_none : {A : Type 0} (text : List ℕ) (fault : LexFault) → first_fault (statements text) ≡ Some fault → first_fault (statements text) ≡ None → A
not_none text fault some none = let no : Some fault ≡ None = sym some ∙ none in absurd cc

failed_tells : (l : Progress) (seam : ℕ) (text : List ℕ) (b : ℕ) (fault : LexFault) → l.state ≡ Failed fault → HasRead l seam text → TellsFault seam text b fault l l
failed_tells l seam text b fault e h =
    let was = has_failed l seam text fault e h in
    let is = fault_stays text (b ∷ []) fault was in
    (is, λ none _. not_none text fault was none, has_read l seam (b ∷ text) (Failed fault) e is)

pub failed_byte : (l : Progress) (seam : ℕ) (text : List ℕ) (b : ℕ) (fault : LexFault) → l.state ≡ Failed fault → HasRead l seam text → Answers seam text b (Err fault) l l
failed_byte l seam text b (IC line) e h = failed_tells l seam text b (IC line) e h
failed_byte l seam text b (SY line) e h = failed_tells l seam text b (SY line) e h
failed_byte l seam text b (NU line) e h = failed_tells l seam text b (NU line) e h
failed_byte l seam text b (NE line) e h = absurd (known_fault text (NE line) (has_failed l seam text (NE line) e h))
failed_byte l seam text b Memory e h = absurd (known_fault text Memory (has_failed l seam text Memory e h))

pub failed_end : (l : Progress) (seam : ℕ) (text : List ℕ) (fault : LexFault) → l.state ≡ Failed fault → HasRead l seam text → Ends text (Err fault)
failed_end l seam text (IC line) e h = has_failed l seam text (IC line) e h
failed_end l seam text (SY line) e h = has_failed l seam text (SY line) e h
failed_end l seam text (NU line) e h = has_failed l seam text (NU line) e h
failed_end l seam text (NE line) e h = absurd (known_fault text (NE line) (has_failed l seam text (NE line) e h))
failed_end l seam text Memory e h = known_fault text Memory (has_failed l seam text Memory e h)

-- a fault of a statement is answered where the source ends, too
pub failed_next : (l : Progress) (seam : ℕ) (text : List ℕ) (fault : LexFault) → l.state ≡ Failed fault → HasRead l seam text
    → Ends text (Err fault) × EndsSource (Err fault) l l
failed_next l seam text (IC line) e h = (has_failed l seam text (IC line) e h, refl)
failed_next l seam text (SY line) e h = (has_failed l seam text (SY line) e h, refl)
failed_next l seam text (NU line) e h = (has_failed l seam text (NU line) e h, refl)
failed_next l seam text (NE line) e h = absurd (known_fault text (NE line) (has_failed l seam text (NE line) e h))
failed_next l seam text Memory e h = absurd (known_fault text Memory (has_failed l seam text Memory e h))

-- ## The next statement

pub begun_anew : (b : ℕ) (body : Body) (l : Progress) (state : State) (radix : Radix) (draft : Cut)
    → state ≡ (if nat_eq b 36 then Over else l.state) → radix ≡ radix_by body l.radix → draft ≡ cut Octal []
    → after_byte b (record { state = state; source = l.source; may_pause = l.may_pause; comment = l.comment; place = l.place; line = l.line; radix = radix; keeps_tokens = l.keeps_tokens; draft = draft }) ≡ after_statement b body l
begun_anew b body l state radix draft e r d = rw (e, r, d) refl

pub is_dollar : (b : ℕ) (state : State) → b ≡ 36 → Over ≡ (if nat_eq b 36 then Over else state)
is_dollar b state e = rw e refl

no_eq : (b : ℕ) → (b ≡ 36 → ⊥) → nat_eq b 36 ≡ false
no_eq b n = grind (arith, nat_tests)

pub is_no_dollar : (b : ℕ) (state : State) → (b ≡ 36 → ⊥) → state ≡ (if nat_eq b 36 then Over else state)
is_no_dollar b state n = ap (λ (t : Bool). if t then Over else state) (sym (no_eq b n))
