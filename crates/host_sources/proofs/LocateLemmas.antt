-- Where a text has its fault.
use Rattle.std.proofs.Common.{◌≡◌, ℕ, ◌+◌, ◌≤◌, ◌<◌, nat_eq, Bool, true, false, ◌||◌, not, if◌then◌else◌, Option, Some, None, Result, Ok, Err, is_some, length, take, drop, get_or, List, [], ◌∷◌, ◌++◌, refl, ap, sym, subst, ◌∙◌}
use Rattle.std.proofs.lemmas.List.{take_all}
use Rattle.pal_lex.specs.Text.{is_over, ends_statement, text_of}
use Rattle.pal_lex.specs.Statements.{statements, first_fault}
use Rattle.pal_lex.specs.Laws.{EndsSource}
use Rattle.pal_lex.specs.Reading.{HasRead, Answers, HandsOut, is_pause_body, tokens_after, with_tokens}
use Rattle.pal_lex.specs.Progress.{Progress}
use Rattle.pal_faults.specs.declared.lexical.LexFault.{LexFault}
use Rattle.pal_lex.specs.declared.phrases.Body.{Body}
use Rattle.pal_lex.specs.declared.phrases.Body.TheVariants.{Nothing, Origin, Define, Decimal, Octal, Pause, Field, Reference, Word}
use Rattle.pal_lex.specs.declared.phrases.Statement.{Statement}
use Rattle.pal_faults.specs.declared.assembling.AsmFault.{AsmFault}
use Rattle.pal_faults.specs.declared.assembling.AsmFault.TheVariants.{At, Memory}
use Rattle.pal_asm.specs.Expressions.{Meanings}
use Rattle.pal_asm.specs.Places.{Source, is_word, place_at, values}
use Rattle.pal_asm.specs.Words.{word_values}
use Rattle.pal_asm.specs.Faults.{first_of, at_line, statement_fault, first_order, word_fault, words_fault, has_word, no_word}
use Rattle.pal_faults.specs.Faults.{lexical}
use Rattle.pal_asm.specs.Laws.{LexicalFaultIsTold, NoLexicalFault, NoFaultBefore}
use Rattle.pal_asm.specs.Laws as asm_laws
use Rattle.pal_asm.specs.Progress as asm
use Rattle.pal_asm.specs.Passes.{IsFirst, IsSecond, AnswersSecond, BeginsSecond}
use Rattle.source_places.proofs.PlaceLemmas.{next_byte}
use Rattle.pal_lex.proofs.LawLemmas.{one_more, newest}
use Rattle.pal_asm.proofs.TextLemmas.{nothing_read}
use Rattle.host_sources.specs.Places.{shortest, is_refused, is_settled}
use Rattle.host_sources.specs.Steps.{is_memory, step_after, PassesStatement, PassesByte, Passes, MakesByte, IsSettledAt, IsMetAt}
use Rattle.host_sources.specs.declared.locating.Step.TheVariants as step
use Rattle.host_sources.specs.declared.locating.Passed.TheVariants as passed
use Rattle.host_sources.proofs.PauseLemmas.{none_ends, one_ends, ends_parts, over_stays, calm_byte, whole_text, none_some, true_false, tells_fault}

-- ## The shortest beginning

shortest_at : (holds : List ℕ → Bool) → ((later text : List ℕ) → holds text ≡ true → holds (later ++ text) ≡ true) → (later here : List ℕ) (b : ℕ)
    → holds (b ∷ here) ≡ true → holds here ≡ false → shortest holds (later ++ b ∷ here) ≡ b ∷ here
shortest_at holds stays [] here b now earlier = rw earlier refl
shortest_at holds stays (c ∷ later) here b now earlier = rw (stays later (b ∷ here) now) (shortest_at holds stays later here b now earlier)

-- ## What stays

first_step : (ends : Bool) (s : Result Statement LexFault) (older : Source) (f : AsmFault) → first_order older ≡ Some f → first_order (if ends then s ∷ older else older) ≡ Some f
first_step true (Ok s) older f e = ap (λ o. first_of o (at_line s.line (statement_fault s older))) e
first_step true (Err g) older f e = ap (λ o. first_of o (Some (lexical g))) e
first_step false s older f e = e

first_stays : (later text : List ℕ) (f : AsmFault) → first_order (statements text) ≡ Some f → first_order (statements (later ++ text)) ≡ Some f
first_stays [] text f e = e
first_stays (b ∷ later) text f e =
    ap first_order (one_more b (later ++ text))
    ∙ first_step (ends_statement (later ++ text) b) (newest (later ++ text) b) (statements (later ++ text)) f (first_stays later text f e)

pub refused_stays : (later text : List ℕ) → is_refused text ≡ true → is_refused (later ++ text) ≡ true
refused_stays later text now = by_fault (first_order (statements text)) refl
  where
    by_fault : (f : Option AsmFault) → first_order (statements text) ≡ f → is_refused (later ++ text) ≡ true
    by_fault (Some f) e = ap is_some (first_stays later text f e)
    by_fault None e = true_false (sym now ∙ ap is_some e)

words_step : (last : Meanings) (ends : Bool) (s : Result Statement LexFault) (older : Source) (f : AsmFault) → words_fault last older ≡ Some f
    → words_fault last (if ends then s ∷ older else older) ≡ Some f
words_step last true (Ok s) older f e = ap (λ o. first_of o (at_line s.line (word_fault (word_values last s.tags older) (place_at older) s.body))) e
words_step last true (Err g) older f e = e
words_step last false s older f e = e

pub words_stay : (last : Meanings) (later text : List ℕ) (f : AsmFault) → words_fault last (statements text) ≡ Some f → words_fault last (statements (later ++ text)) ≡ Some f
words_stay last [] text f e = e
words_stay last (b ∷ later) text f e =
    ap (words_fault last) (one_more b (later ++ text))
    ∙ words_step last (ends_statement (later ++ text) b) (newest (later ++ text) b) (statements (later ++ text)) f (words_stay last later text f e)

or_true : (a : Bool) → (a || true) ≡ true
or_true true = refl
or_true false = refl

pub settled_stays : (last : Meanings) (later text : List ℕ) → is_settled last text ≡ true → is_settled last (later ++ text) ≡ true
settled_stays last later text now = by_fault (words_fault last (statements text)) refl
  where
    by_fault : (f : Option AsmFault) → words_fault last (statements text) ≡ f → is_settled last (later ++ text) ≡ true
    by_fault (Some f) e = ap (λ (o : Option AsmFault). is_some o || is_over (later ++ text)) (words_stay last later text f e)
    by_fault None e =
        let over : is_over text ≡ true = sym (ap (λ (o : Option AsmFault). is_some o || is_over text) e) ∙ now in
        ap (λ (t : Bool). is_some (words_fault last (statements (later ++ text))) || t) (over_stays text later over)
        ∙ or_true (is_some (words_fault last (statements (later ++ text))))

-- ## A text that goes on after a byte

pub goes_on : (bytes : List ℕ) (end : ℕ) → end < length bytes → text_of bytes ≡ text_of (drop (end + 1) bytes) ++ (get_or bytes end 0 ∷ text_of (take end bytes))
goes_on bytes end inside = whole_text bytes (end + 1) ∙ ap (λ l. text_of (drop (end + 1) bytes) ++ l) (next_byte bytes end (get_or bytes end 0) inside refl)

pub shortest_is : (holds : List ℕ → Bool) → ((later text : List ℕ) → holds text ≡ true → holds (later ++ text) ≡ true) → (bytes : List ℕ) (end : ℕ) → end < length bytes
    → holds (text_of (take (end + 1) bytes)) ≡ true → holds (text_of (take end bytes)) ≡ false → shortest holds (text_of bytes) ≡ text_of (take (end + 1) bytes)
shortest_is holds stays bytes end inside now earlier =
    let next = next_byte bytes end (get_or bytes end 0) inside refl in
    ap (shortest holds) (goes_on bytes end inside)
    ∙ shortest_at holds stays (text_of (drop (end + 1) bytes)) (text_of (take end bytes)) (get_or bytes end 0) (ap holds (sym next) ∙ now) earlier ∙ sym next

-- ## A text with a fault

pub refused_whole : (bytes : List ℕ) (end : ℕ) → IsMetAt bytes (passed.Refused end) → is_refused (text_of bytes) ≡ true
refused_whole bytes end p =
    ap is_refused (whole_text bytes (end + 1)) ∙ refused_stays (text_of (drop (end + 1) bytes)) (text_of (take (end + 1) bytes)) p.1

-- a text has no further statement after its `$`
pub same_statements : (bytes : List ℕ) (end : ℕ) (assembler : asm.Progress) → EndsSource → Passes bytes (passed.Over end) assembler
    → statements (text_of bytes) ≡ statements (text_of (take (end + 1) bytes))
same_statements bytes end assembler ends p =
    ap statements (whole_text bytes (end + 1)) ∙ ends (text_of (take (end + 1) bytes)) (text_of (drop (end + 1) bytes)) p.2

pub over_whole : (bytes : List ℕ) (end : ℕ) (assembler : asm.Progress) → Passes bytes (passed.Over end) assembler → is_over (text_of bytes) ≡ true
over_whole bytes end assembler p = ap is_over (whole_text bytes (end + 1)) ∙ over_stays (text_of (take (end + 1) bytes)) (text_of (drop (end + 1) bytes)) p.2

pub fine_whole : (bytes : List ℕ) (end : ℕ) (assembler : asm.Progress) → EndsSource → Passes bytes (passed.Over end) assembler → is_refused (text_of bytes) ≡ false
fine_whole bytes end assembler ends p = ap (λ s. is_some (first_order s)) (same_statements bytes end assembler ends p) ∙ ap is_some p.1.no_fault

-- ## No word

calm_body : (known : Meanings) (place : ℕ) (body : Body) → is_word body ≡ false → word_fault known place body ≡ None
calm_body known place Nothing e = refl
calm_body known place (Origin x) e = refl
calm_body known place (Define name x) e = refl
calm_body known place Decimal e = refl
calm_body known place Octal e = refl
calm_body known place Pause e = refl
calm_body known place (Field x) e = refl
calm_body known place (Reference operation indirect address) e = cc
calm_body known place (Word x) e = cc

by_word : (last : Meanings) (s : Statement) (older : Source) (word : Bool) → is_word s.body ≡ word → (if word then true else has_word older) ≡ false
    → (has_word older ≡ false → words_fault last older ≡ None) → words_fault last (Ok s ∷ older) ≡ None
by_word last s older true is e others = absurd cc
by_word last s older false is e others =
    ap (λ o. first_of o (at_line s.line (word_fault (word_values last s.tags older) (place_at older) s.body))) (others e)
    ∙ ap (at_line s.line) (calm_body (word_values last s.tags older) (place_at older) s.body is)

no_words : (last : Meanings) (source : Source) → has_word source ≡ false → words_fault last source ≡ None
no_words last [] e = refl
no_words last (Err f ∷ older) e = no_words last older e
no_words last (Ok s ∷ older) e = by_word last s older (is_word s.body) refl e (no_words last older)

no_word_by : (has : Bool) (f : AsmFault) (line : Option AsmFault) → (if has then None else line) ≡ Some f → has ≡ false
no_word_by true f line e = none_some e
no_word_by false f line e = refl

pub wordless : (bytes : List ℕ) (end : ℕ) (assembler : asm.Progress) (f : AsmFault) → EndsSource → Passes bytes (passed.Over end) assembler
    → no_word (statements (text_of (take (end + 1) bytes))) ≡ Some f → IsSettledAt bytes end
wordless bytes end assembler f ends p none =
    let last = values (statements (text_of bytes)) in
    let has = no_word_by (has_word (statements (text_of (take (end + 1) bytes)))) f _ none in
    let words : words_fault last (statements (text_of (take (end + 1) bytes))) ≡ None = no_words last (statements (text_of (take (end + 1) bytes))) has in (
      p.0,
      ap (λ (t : Bool). is_some (words_fault last (statements (text_of (take (end + 1) bytes)))) || t) p.2 ∙ or_true (is_some (words_fault last (statements (text_of (take (end + 1) bytes))))),
      before last words (words_fault last (statements (text_of (take end bytes)))) refl,
    )
  where
    before : (last : Meanings) → words_fault last (statements (text_of (take (end + 1) bytes))) ≡ None → (o : Option AsmFault) → words_fault last (statements (text_of (take end bytes))) ≡ o
        → is_settled last (text_of (take end bytes)) ≡ false
    before last words None e = ap (λ (o : Option AsmFault). is_some o || is_over (text_of (take end bytes))) e ∙ p.3
    before last words (Some g) e =
        none_some (sym words ∙ ap (λ t. words_fault last (statements t)) (next_byte bytes end (get_or bytes end 0) p.0 refl) ∙ words_stay last (get_or bytes end 0 ∷ []) (text_of (take end bytes)) g e)

-- ## A byte in the first pass

dollar_over : (text : List ℕ) (b : ℕ) → ends_statement text b ≡ true → nat_eq b 36 ≡ true → is_over (b ∷ text) ≡ true
dollar_over text b ends dollar = let parts = ends_parts text b ends in rw (parts.2, dollar, parts.1) refl

other_going : (text : List ℕ) (b : ℕ) → ends_statement text b ≡ true → nat_eq b 36 ≡ false → is_over (b ∷ text) ≡ false
other_going text b ends other = let parts = ends_parts text b ends in rw (parts.2, other) refl

pub pass_none : (text : List ℕ) (b : ℕ) (old new : Progress) (assembler : asm.Progress) → is_over text ≡ false → IsFirst assembler (statements text) → Answers 0 text b (Ok None) old new
    → PassesByte text b step.GoesOn new assembler
pass_none text b old new assembler going first answers =
    (answers.2, subst (IsFirst assembler) (sym answers.1) first, (calm_byte text b going (none_ends b text answers.1)).1)

-- a statement of a single source is no PAUSE
single : {A : Type 0} (pausing : Bool) (text : List ℕ) (b : ℕ) (s : Statement) (old new : Progress) → old.may_pause ≡ false → pausing ≡ true → HandsOut pausing 0 text b s old new → A
single true text b s old new may is out = true_false (sym out.may_pause ∙ may)
single false text b s old new may is out = absurd cc

pub handed : (text : List ℕ) (b : ℕ) (s : Statement) (old new : Progress) → old.may_pause ≡ false → Answers 0 text b (Ok (Some s)) old new
    → (is_pause_body s.body ≡ false) × (statements (b ∷ text) ≡ Ok (with_tokens (tokens_after text) s) ∷ statements text) × HasRead new 0 (b ∷ text)
handed text b s old new may answers = by_body (is_pause_body s.body) refl answers
  where
    by_body : (pausing : Bool) → is_pause_body s.body ≡ pausing → HandsOut pausing 0 text b s old new
        → (is_pause_body s.body ≡ false) × (statements (b ∷ text) ≡ Ok (with_tokens (tokens_after text) s) ∷ statements text) × HasRead new 0 (b ∷ text)
    by_body true is out = single true text b s old new may refl out
    by_body false is out = (is, out.newest, out.read)

pub pass_ended : (text : List ℕ) (b : ℕ) (s : Statement) (old new : Progress) (assembler : asm.Progress) → old.may_pause ≡ false → Answers 0 text b (Ok (Some s)) old new
    → PassesStatement s (statements text) true assembler → PassesByte text b (step_after b) new assembler
pass_ended text b s old new assembler may answers passes = by_dollar (nat_eq b 36) refl
  where
    by_dollar : (dollar : Bool) → nat_eq b 36 ≡ dollar → PassesByte text b (if dollar then step.Over else step.GoesOn) new assembler
    by_dollar dollar is =
        let out = handed text b s old new may answers in
        let first = subst (IsFirst assembler) (sym out.1) (passes (tokens_after text) out.0) in
        let ends = one_ends b text (Ok (with_tokens (tokens_after text) s)) out.1 in
        by_test dollar is out.2 first ends
      where
        by_test : (dollar : Bool) → nat_eq b 36 ≡ dollar → HasRead new 0 (b ∷ text) → IsFirst assembler (statements (b ∷ text)) → ends_statement text b ≡ true
            → PassesByte text b (if dollar then step.Over else step.GoesOn) new assembler
        by_test true is read first ends = (first, dollar_over text b ends is)
        by_test false is read first ends = (read, first, other_going text b ends is)

pub pass_refused : (text : List ℕ) (b : ℕ) (s : Statement) (old new : Progress) (assembler : asm.Progress) → old.may_pause ≡ false → Answers 0 text b (Ok (Some s)) old new
    → PassesStatement s (statements text) false assembler → PassesByte text b step.Refused new assembler
pass_refused text b s old new assembler may answers passes =
    let out = handed text b s old new may answers in
    ap (λ l. is_some (first_order l)) out.1 ∙ passes (tokens_after text) out.0

pub pass_told : (text : List ℕ) (b : ℕ) (fault : LexFault) (old new : Progress) → LexicalFaultIsTold → first_order (statements text) ≡ None → is_memory fault ≡ false
    → Answers 0 text b (Err fault) old new → is_refused (b ∷ text) ≡ true
pass_told text b fault old new law none other answers = ap is_some (law text b fault none (tells_fault text b fault old new other answers).0)

-- ## A byte in the second pass

-- a lexer that went on after a text of a whole source that has no fault of the first order has none
no_lexical : {A : Type 0} (text later : List ℕ) (b : ℕ) (fault : LexFault) → asm_laws.StatementsStay → NoFaultBefore → NoLexicalFault
    → first_order (statements (later ++ b ∷ text)) ≡ None → first_fault (statements (b ∷ text)) ≡ Some fault → A
no_lexical text later b fault stay before lexical none some =
    let more = stay later (b ∷ text) in
    none_some (sym (lexical (statements (b ∷ text)) (before more.0 (statements (b ∷ text)) (sym (ap first_order more.1) ∙ none))) ∙ some)

pub make_none : (whole : Source) (text : List ℕ) (b : ℕ) (old new : Progress) (assembler : asm.Progress) → is_over text ≡ false → IsSecond assembler whole (statements text)
    → Answers 0 text b (Ok None) old new → MakesByte whole text b true new assembler
make_none whole text b old new assembler going second answers =
    (answers.2, subst (IsSecond assembler whole) (sym answers.1) second, (calm_byte text b going (none_ends b text answers.1)).1)

-- whether the second pass goes on after a byte that ends a statement
pub make_ended : (whole : Source) (text : List ℕ) (b : ℕ) (s : Statement) (goes : Bool) (old new : Progress) (assembler : asm.Progress) → old.may_pause ≡ false
    → Answers 0 text b (Ok (Some s)) old new → goes ≡ not (nat_eq b 36) → IsSecond assembler whole (Ok (with_tokens (tokens_after text) s) ∷ statements text)
    → MakesByte whole text b goes new assembler
make_ended whole text b s goes old new assembler may answers is second =
    let out = handed text b s old new may answers in
    let made = subst (IsSecond assembler whole) (sym out.1) second in
    let ends = one_ends b text (Ok (with_tokens (tokens_after text) s)) out.1 in
    by_test (nat_eq b 36) goes refl is out.2 made ends
  where
    by_test : (dollar goes : Bool) → nat_eq b 36 ≡ dollar → goes ≡ not dollar → HasRead new 0 (b ∷ text) → IsSecond assembler whole (statements (b ∷ text)) → ends_statement text b ≡ true
        → MakesByte whole text b goes new assembler
    by_test true true is e read second ends = absurd cc
    by_test true false is e read second ends =
        ap (λ (t : Bool). is_some (words_fault (values whole) (statements (b ∷ text))) || t) (dollar_over text b ends is)
        ∙ or_true (is_some (words_fault (values whole) (statements (b ∷ text))))
    by_test false true is e read second ends = (read, second, other_going text b ends is)
    by_test false false is e read second ends = absurd cc

pub make_refused : (whole : Source) (text : List ℕ) (b : ℕ) (s : Statement) (f : AsmFault) (old new : Progress) (before assembler : asm.Progress) → old.may_pause ≡ false
    → Answers 0 text b (Ok (Some s)) old new → AnswersSecond whole (statements text) (with_tokens (tokens_after text) s) (Err f) before assembler
    → is_settled (values whole) (b ∷ text) ≡ true
make_refused whole text b s (At code line) old new before assembler may answers second =
    let out = handed text b s old new may answers in
    let words : words_fault (values whole) (statements (b ∷ text)) ≡ Some (At code line) = ap (words_fault (values whole)) out.1 ∙ second.0 in
    ap (λ (o : Option AsmFault). is_some o || is_over (b ∷ text)) words
make_refused whole text b s Memory old new before assembler may answers second = absurd second

-- what the whole has after a statement
pub whole_after : (text later : List ℕ) (b : ℕ) (s : Statement) (old new : Progress) → asm_laws.StatementsStay → old.may_pause ≡ false → Answers 0 text b (Ok (Some s)) old new
    → (more : Source) × (statements (later ++ b ∷ text) ≡ more ++ Ok (with_tokens (tokens_after text) s) ∷ statements text)
whole_after text later b s old new stay may answers =
    let more = stay later (b ∷ text) in
    (more.0, more.1 ∙ ap (λ l. more.0 ++ l) (handed text b s old new may answers).1)

pub make_told : (text later : List ℕ) (b : ℕ) (fault : LexFault) (old new : Progress) → asm_laws.StatementsStay → NoFaultBefore → NoLexicalFault
    → first_order (statements (later ++ b ∷ text)) ≡ None → is_memory fault ≡ false → Answers 0 text b (Err fault) old new
    → is_settled (values (statements (later ++ b ∷ text))) (b ∷ text) ≡ true
make_told text later b fault old new stay before law none other answers =
    no_lexical text later b fault stay before law none (tells_fault text b fault old new other answers).0

-- ## A pass over the first bytes of a text

pub record FirstStands (bytes : List ℕ) (taken : ℕ) (lexer : Progress) (assembler : asm.Progress) : Type 0 where
  pub read : HasRead lexer 0 (text_of (take taken bytes))
  pub first : IsFirst assembler (statements (text_of (take taken bytes)))
  pub going : is_over (text_of (take taken bytes)) ≡ false
  pub may : lexer.may_pause ≡ false

pub first_begins : (bytes : List ℕ) (lexer : Progress) (assembler : asm.Progress) → HasRead lexer 0 [] → IsFirst assembler [] → lexer.may_pause ≡ false → FirstStands bytes 0 lexer assembler
first_begins bytes lexer assembler read first may = record { read = read; first = subst (IsFirst assembler) (sym nothing_read) first; going = refl; may = may }

pub first_on : (bytes : List ℕ) (taken b : ℕ) (lexer : Progress) (assembler : asm.Progress) → taken < length bytes → b ≡ get_or bytes taken 0 → lexer.may_pause ≡ false
    → PassesByte (text_of (take taken bytes)) b step.GoesOn lexer assembler → FirstStands bytes (taken + 1) lexer assembler
first_on bytes taken b lexer assembler inside is may p =
    let next = sym (next_byte bytes taken b inside is) in
    record {
      read = subst (HasRead lexer 0) next p.0;
      first = subst (λ t. IsFirst assembler (statements t)) next p.1;
      going = ap is_over (sym next) ∙ p.2;
      may = may;
    }

pub first_over : (bytes : List ℕ) (taken b : ℕ) (lexer new : Progress) (before assembler : asm.Progress) → taken < length bytes → b ≡ get_or bytes taken 0 → FirstStands bytes taken lexer before
    → PassesByte (text_of (take taken bytes)) b step.Over new assembler → Passes bytes (passed.Over taken) assembler
first_over bytes taken b lexer new before assembler inside is s p =
    let next = sym (next_byte bytes taken b inside is) in
    (inside, subst (λ t. IsFirst assembler (statements t)) next p.0, ap is_over (sym next) ∙ p.1, s.going)

pub first_refused : (bytes : List ℕ) (taken b : ℕ) (lexer new : Progress) (before assembler : asm.Progress) → taken < length bytes → b ≡ get_or bytes taken 0 → FirstStands bytes taken lexer before
    → PassesByte (text_of (take taken bytes)) b step.Refused new assembler → Passes bytes (passed.Refused taken) assembler
first_refused bytes taken b lexer new before assembler inside is s p = (inside, ap is_refused (next_byte bytes taken b inside is) ∙ p, ap is_some s.first.no_fault)

pub first_open : (bytes : List ℕ) (taken : ℕ) (lexer : Progress) (assembler : asm.Progress) → length bytes ≤ taken → FirstStands bytes taken lexer assembler → Passes bytes passed.Open assembler
first_open bytes taken lexer assembler all s =
    let whole : text_of bytes ≡ text_of (take taken bytes) = ap text_of (sym (take_all taken bytes all)) in
    (ap is_refused whole ∙ ap is_some s.first.no_fault, ap is_over whole ∙ s.going)

pub record SecondStands (bytes : List ℕ) (taken : ℕ) (lexer : Progress) (assembler : asm.Progress) : Type 0 where
  pub read : HasRead lexer 0 (text_of (take taken bytes))
  pub second : IsSecond assembler (statements (text_of bytes)) (statements (text_of (take taken bytes)))
  pub going : is_over (text_of (take taken bytes)) ≡ false
  pub may : lexer.may_pause ≡ false

pub second_begins : (bytes : List ℕ) (lexer : Progress) (assembler : asm.Progress) → HasRead lexer 0 [] → IsSecond assembler (statements (text_of bytes)) [] → lexer.may_pause ≡ false
    → SecondStands bytes 0 lexer assembler
second_begins bytes lexer assembler read second may =
    record { read = read; second = subst (IsSecond assembler (statements (text_of bytes))) (sym nothing_read) second; going = refl; may = may }

-- what a byte is answered in the second pass of a text that goes on after it
pub in_whole : (bytes : List ℕ) (taken b : ℕ) (goes : Bool) (lexer : Progress) (assembler : asm.Progress) → taken < length bytes → b ≡ get_or bytes taken 0
    → MakesByte (statements (text_of (drop (taken + 1) bytes) ++ b ∷ text_of (take taken bytes))) (text_of (take taken bytes)) b goes lexer assembler
    → MakesByte (statements (text_of bytes)) (text_of (take taken bytes)) b goes lexer assembler
in_whole bytes taken b goes lexer assembler inside is =
    subst (λ t. MakesByte (statements t) (text_of (take taken bytes)) b goes lexer assembler)
    (sym (goes_on bytes taken inside ∙ ap (λ c. text_of (drop (taken + 1) bytes) ++ c ∷ text_of (take taken bytes)) (sym is)))

pub as_whole : (bytes : List ℕ) (taken b : ℕ) (older : Source) (assembler : asm.Progress) → taken < length bytes → b ≡ get_or bytes taken 0 → IsSecond assembler (statements (text_of bytes)) older
    → IsSecond assembler (statements (text_of (drop (taken + 1) bytes) ++ b ∷ text_of (take taken bytes))) older
as_whole bytes taken b older assembler inside is =
    subst (λ t. IsSecond assembler (statements t) older)
    (goes_on bytes taken inside ∙ ap (λ c. text_of (drop (taken + 1) bytes) ++ c ∷ text_of (take taken bytes)) (sym is))

pub second_on : (bytes : List ℕ) (taken b : ℕ) (lexer : Progress) (assembler : asm.Progress) → taken < length bytes → b ≡ get_or bytes taken 0 → lexer.may_pause ≡ false
    → MakesByte (statements (text_of bytes)) (text_of (take taken bytes)) b true lexer assembler → SecondStands bytes (taken + 1) lexer assembler
second_on bytes taken b lexer assembler inside is may p =
    let next = sym (next_byte bytes taken b inside is) in
    record {
      read = subst (HasRead lexer 0) next p.0;
      second = subst (λ t. IsSecond assembler (statements (text_of bytes)) (statements t)) next p.1;
      going = ap is_over (sym next) ∙ p.2;
      may = may;
    }

pub second_settled : (bytes : List ℕ) (taken b : ℕ) (lexer new : Progress) (before assembler : asm.Progress) → taken < length bytes → b ≡ get_or bytes taken 0 → SecondStands bytes taken lexer before
    → MakesByte (statements (text_of bytes)) (text_of (take taken bytes)) b false new assembler → IsSettledAt bytes taken
second_settled bytes taken b lexer new before assembler inside is s p = (
  inside,
  ap (is_settled (values (statements (text_of bytes)))) (next_byte bytes taken b inside is) ∙ p,
  ap (λ (o : Option AsmFault). is_some o || is_over (text_of (take taken bytes))) s.second.words ∙ s.going,
)

pub second_ends : (bytes : List ℕ) (taken : ℕ) (lexer : Progress) (assembler : asm.Progress) → length bytes ≤ taken → is_over (text_of bytes) ≡ true → SecondStands bytes taken lexer assembler
    → IsSettledAt bytes taken
second_ends bytes taken lexer assembler all over s = true_false (sym over ∙ ap is_over (ap text_of (sym (take_all taken bytes all))) ∙ s.going)

-- ## From the first pass to the second

pub turned : (whole : Source) (f : AsmFault) (old new : asm.Progress) → BeginsSecond whole (Err f) old new → no_word whole ≡ Some f
turned whole (At code line) old new turns = turns.0
turned whole Memory old new turns = absurd turns
