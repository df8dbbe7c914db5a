-- A byte more of a text, and a whole text.
use Rattle.std.proofs.Common.{◌≡◌, ℕ, nat_eq, Bool, true, false, if◌then◌else◌, Option, Some, None, Result, Ok, Err, List, [], ◌∷◌, ◌++◌, refl, ap, sym, ◌∙◌, ◌⊎◌, inl, inr, append_assoc, true≢false}
use Rattle.pal_lex.specs.Text.{ends_statement, stretch, line_after}
use Rattle.pal_lex.specs.Statements.{statements, first_fault, first_of as lex_first_of, with_stretch, judge_statement, radix_after}
use Rattle.pal_faults.specs.declared.lexical.LexFault.{LexFault}
use Rattle.pal_lex.specs.declared.phrases.Body.{Body}
use Rattle.pal_lex.specs.declared.phrases.Body.TheVariants.{Nothing, Origin, Define, Decimal, Octal, Pause, Field, Reference, Word}
use Rattle.pal_lex.specs.declared.phrases.Statement.{Statement}
use Rattle.pal_faults.specs.declared.assembling.AsmFault.{AsmFault}
use Rattle.pal_faults.specs.declared.assembling.AsmFault.TheVariants.{At, Memory}
use Rattle.pal_faults.specs.declared.assembling.Code.TheVariants.{NW}
use Rattle.pal_asm.specs.Expressions.{Meanings}
use Rattle.pal_asm.specs.Places.{Source, is_word, values, place_at}
use Rattle.pal_asm.specs.Words.{word_values}
use Rattle.pal_asm.specs.Faults.{first_of, at_line, statement_fault, first_order, no_end, word_fault, words_fault, has_word, last_line, no_word}
use Rattle.pal_faults.specs.Faults.{lexical}
use Rattle.pal_asm.specs.Laws.{FixedNamesKeepTheirValues, FirstFaultStays, WordFaultStays, NoWordIsTold, LexicalFaultIsTold, NoLexicalFault, StatementsStay, NoFaultBefore, FirstStatementsTell, FirstWordsTell, NoEndIsTold}
use Rattle.pal_asm.specs.Progress.{Progress}
use Rattle.pal_asm.specs.Passes.{IsSecond}
use Rattle.pal_asm.specs.TextSteps.{IsWordsFault}
use Rattle.pal_asm.specs.Passing.{BeginsSecondPass}
use Rattle.pal_asm.specs.declared.passing.Pass.{Pass}
use Rattle.pal_asm.specs.Texts.{GoesOnAfter, IsFaultOf}
use Rattle.pal_asm.proofs.WholeLemmas.{first_none, second_none, some_none, no_fault_before, fixed_keep}

-- ## Statements

pub nothing_read : statements [] ≡ []
unfolding statements
nothing_read = refl

-- a byte ends one statement or none
pub one_more : (b : ℕ) (text : List ℕ) → (statements (b ∷ text) ≡ statements text) ⊎ ((newest : Result Statement LexFault) × (statements (b ∷ text) ≡ newest ∷ statements text))
unfolding statements
one_more b text = by_test (ends_statement text b)
  where
    by_test : (test : Bool)
        → ((if test then with_stretch (line_after text) (nat_eq b 36) (stretch text) (statements text) else statements text) ≡ statements text)
        ⊎ ((newest : Result Statement LexFault) × ((if test then with_stretch (line_after text) (nat_eq b 36) (stretch text) (statements text) else statements text) ≡ newest ∷ statements text))
    by_test true = inr (judge_statement (line_after text) (nat_eq b 36) (stretch text) (radix_after (statements text)), refl)
    by_test false = inl refl

one_after : (b : ℕ) (text : List ℕ) → GoesOnAfter (statements (b ∷ text)) (statements text)
one_after b text = elim (one_more b text) [ inl same ↦ ([], same) | inr added ↦ (added.0 ∷ [], added.1) ]

further : (whole middle older : Source) → GoesOnAfter whole middle → GoesOnAfter middle older → GoesOnAfter whole older
further whole middle older last first =
    (last.0 ++ first.0, last.1 ∙ ap (λ s. last.0 ++ s) first.1 ∙ sym (append_assoc last.0 first.0 older))

-- ## Bytes that end no statement

-- ## Faults of the lexer

-- a source with no fault of the first order has none of the lexer
pub no_lex_fault : (source : Source) → first_order source ≡ None → first_fault source ≡ None
no_lex_fault [] none = refl
no_lex_fault (Ok s ∷ older) none = rw (no_lex_fault older (first_none _ _ none)) refl
no_lex_fault (Err f ∷ older) none = some_none (second_none _ _ none)

not_told : {A : Type 0} (source : Source) (f : LexFault) → first_order source ≡ None → first_fault source ≡ Some f → A
not_told source f none told = some_none (sym told ∙ no_lex_fault source none)

same_fault : (f g : LexFault) → Some f ≡ Some g → f ≡ g
same_fault f g e = cc

told_by : (newest : Result Statement LexFault) (older : Source) (f : LexFault) → first_order older ≡ None → first_fault (newest ∷ older) ≡ Some f
    → first_order (newest ∷ older) ≡ Some (lexical f)
told_by (Ok s) older f none told =
    let nothing : lex_first_of None None ≡ Some f = ap (λ o. lex_first_of o None) (sym (no_lex_fault older none)) ∙ told in
    some_none (sym nothing)
told_by (Err g) older f none told =
    let this : lex_first_of None (Some g) ≡ Some f = ap (λ o. lex_first_of o (Some g)) (sym (no_lex_fault older none)) ∙ told in
    ap (λ o. first_of o (Some (lexical g))) none ∙ ap (λ h. Some (lexical h)) (same_fault g f this)

lex_told : (text : List ℕ) (b : ℕ) (f : LexFault) → first_order (statements text) ≡ None → first_fault (statements (b ∷ text)) ≡ Some f
    → first_order (statements (b ∷ text)) ≡ Some (lexical f)
lex_told text b f none told = elim (one_more b text) [
  | inl same ↦ not_told (statements text) f none (ap first_fault (sym same) ∙ told)
  | inr added ↦ ap first_order added.1 ∙ told_by added.0 (statements text) f none (ap first_fault (sym added.1) ∙ told)
]

-- ## Faults of a whole text

pub first_stays : (later older : Source) (f : AsmFault) → first_order older ≡ Some f → first_order (later ++ older) ≡ Some f
first_stays [] older f told = told
first_stays (Ok s ∷ later) older f told = ap (λ o. first_of o (at_line s.line (statement_fault s (later ++ older)))) (first_stays later older f told)
first_stays (Err g ∷ later) older f told = ap (λ o. first_of o (Some (lexical g))) (first_stays later older f told)

pub words_stay : (known : Meanings) (later older : Source) (f : AsmFault) → words_fault known older ≡ Some f → words_fault known (later ++ older) ≡ Some f
words_stay known [] older f told = told
words_stay known (Ok s ∷ later) older f told =
    ap (λ o. first_of o (at_line s.line (word_fault (word_values known s.tags (later ++ older)) (place_at (later ++ older)) s.body))) (words_stay known later older f told)
words_stay known (Err g ∷ later) older f told = words_stay known later older f told

-- ## A source with no word

quiet : (known : Meanings) (place : ℕ) (body : Body) → is_word body ≡ false → word_fault known place body ≡ None
quiet known place Nothing e = refl
quiet known place (Origin p) e = refl
quiet known place (Define name v) e = refl
quiet known place Decimal e = refl
quiet known place Pause e = refl
quiet known place Octal e = refl
quiet known place (Field n) e = refl
quiet known place (Reference operation indirect address) e = absurd cc
quiet known place (Word v) e = absurd cc

neither : (a b : Bool) → (if a then true else b) ≡ false → (a ≡ false) × (b ≡ false)
neither true b e = absurd cc
neither false b e = (refl, e)

no_words : (known : Meanings) (source : Source) → has_word source ≡ false → words_fault known source ≡ None
no_words known [] e = refl
no_words known (Err f ∷ older) e = no_words known older e
no_words known (Ok s ∷ older) e =
    let both = neither (is_word s.body) (has_word older) e in
    rw (no_words known older both.1) (ap (at_line s.line) (quiet (word_values known s.tags older) (place_at older) s.body both.0))

wordless : (source : Source) (f : AsmFault) → no_word source ≡ Some f → has_word source ≡ false
wordless source f told = by_test (has_word source) told
  where
    by_test : (test : Bool) → (if test then None else Some (At NW (last_line source))) ≡ Some f → test ≡ false
    by_test true e = some_none (sym e)
    by_test false e = refl

-- the fault of a source with no word, or with no `$`
pub turned : (text : List ℕ) (f : AsmFault) (new : Pass) → BeginsSecondPass text (Err f) new → first_order (statements text) ≡ None → IsFaultOf text f
turned text (At code line) new turns none =
    ap (λ o. first_of o (first_of (no_end text) (first_of (words_fault (values (statements text)) (statements text)) (no_word (statements text))))) none ∙ by_end (no_end text) turns
  where
    by_end : (end : Option AsmFault) → first_of end (no_word (statements text)) ≡ Some (At code line)
        → first_of end (first_of (words_fault (values (statements text)) (statements text)) (no_word (statements text))) ≡ Some (At code line)
    by_end (Some g) told = told
    by_end None told =
        ap (λ o. first_of o (no_word (statements text))) (no_words (values (statements text)) (statements text) (wordless (statements text) (At code line) told)) ∙ told
turned text Memory new turns none = absurd turns

-- the fault that the second pass met
pub met_second : (text : List ℕ) (f : AsmFault) (turned : Progress) → IsWordsFault text f → no_end text ≡ None → IsSecond turned (statements text) [] → IsFaultOf text f
met_second text (At code line) turned told ended second =
    ap (λ o. first_of o (first_of (no_end text) (first_of (words_fault (values (statements text)) (statements text)) (no_word (statements text))))) second.no_fault
    ∙ ap (λ o. first_of o (first_of (words_fault (values (statements text)) (statements text)) (no_word (statements text)))) ended
    ∙ ap (λ o. first_of o (no_word (statements text))) told
met_second text Memory turned ran ended second = record {
  again = true;
  first = λ e. absurd (true≢false e);
  no_fault = λ _. ap (λ o. first_of o (no_end text)) second.no_fault ∙ ended;
  has_word = λ _. second.has_word;
  second = λ _. ran;
}

-- ## Laws

more_bytes : (later text : List ℕ) → GoesOnAfter (statements (later ++ text)) (statements text)
more_bytes [] text = ([], refl)
more_bytes (b ∷ later) text = further _ _ _ (one_after b (later ++ text)) (more_bytes later text)

pub statements_stay : StatementsStay
statements_stay = more_bytes

pub first_fault_stays : FirstFaultStays
first_fault_stays later text f told =
    let following = more_bytes later text in
    ap (λ o. first_of o (first_of (no_end (later ++ text)) (first_of (words_fault (values (statements (later ++ text))) (statements (later ++ text))) (no_word (statements (later ++ text))))))
    (ap first_order following.1 ∙ first_stays following.0 (statements text) f told)

pub word_fault_stays : WordFaultStays
word_fault_stays later text f none end told =
    let following = more_bytes later text in
    ap (λ o. first_of o (first_of (no_end (later ++ text)) (first_of (words_fault (values (statements (later ++ text))) (statements (later ++ text))) (no_word (statements (later ++ text)))))) none
    ∙ ap (λ o. first_of o (first_of (words_fault (values (statements (later ++ text))) (statements (later ++ text))) (no_word (statements (later ++ text))))) end
    ∙ ap (λ o. first_of o (no_word (statements (later ++ text))))
    (ap (words_fault (values (statements (later ++ text)))) following.1 ∙ words_stay (values (statements (later ++ text))) following.0 (statements text) f told)

pub no_word_is_told : NoWordIsTold
no_word_is_told text f none end told =
    ap (λ o. first_of o (first_of (no_end text) (first_of (words_fault (values (statements text)) (statements text)) (no_word (statements text))))) none
    ∙ ap (λ o. first_of o (first_of (words_fault (values (statements text)) (statements text)) (no_word (statements text)))) end
    ∙ ap (λ o. first_of o (no_word (statements text))) (no_words (values (statements text)) (statements text) (wordless (statements text) f told))
    ∙ told

pub first_statements_tell : FirstStatementsTell
first_statements_tell text later older f split told =
    ap (λ o. first_of o (first_of (no_end text) (first_of (words_fault (values (statements text)) (statements text)) (no_word (statements text)))))
    (ap first_order split ∙ first_stays later older f told)

pub first_words_tell : FirstWordsTell
first_words_tell text later older f split none end told =
    ap (λ o. first_of o (first_of (no_end text) (first_of (words_fault (values (statements text)) (statements text)) (no_word (statements text))))) none
    ∙ ap (λ o. first_of o (first_of (words_fault (values (statements text)) (statements text)) (no_word (statements text)))) end
    ∙ ap (λ o. first_of o (no_word (statements text))) (ap (words_fault (values (statements text))) split ∙ words_stay (values (statements text)) later older f told)

pub no_end_is_told : NoEndIsTold
no_end_is_told text f none told =
    ap (λ o. first_of o (first_of (no_end text) (first_of (words_fault (values (statements text)) (statements text)) (no_word (statements text))))) none
    ∙ ap (λ o. first_of o (first_of (words_fault (values (statements text)) (statements text)) (no_word (statements text)))) told

pub lexical_fault_is_told : LexicalFaultIsTold
lexical_fault_is_told = lex_told

pub no_lexical_fault : NoLexicalFault
no_lexical_fault = no_lex_fault

pub fixed_names_keep_their_values : FixedNamesKeepTheirValues
fixed_names_keep_their_values later older name value none kept is = fixed_keep later older name value none kept is

pub no_fault_before_all : NoFaultBefore
no_fault_before_all = no_fault_before

-- ## Answers for a statement
