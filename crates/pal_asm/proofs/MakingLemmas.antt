-- The second pass in a source.
use Rattle.std.proofs.Common.{◌≡◌, ◌∙◌, inl, inr, ℕ, ◌+◌, ◌<◌, Bool, true, false, Option, Some, None, List, [], ◌∷◌, ◌++◌, length, take, drop, get_or, Result, Ok, Err, refl, ap, sym, subst, append_assoc}
use Rattle.pal_lex.specs.Text.{text_from}
use Rattle.pal_lex.specs.Statements.{statements, first_fault}
use Rattle.pal_lex.specs.Joins.{pauses, join_of}
use Rattle.pal_lex.specs.Laws.{ByteGoesOn, PauseJoins, PauseIsBad}
use Rattle.pal_lex.specs.Reading.{HasRead, HasPaused, Answers, HandsOut, TellsFault as LexTells, is_pause_body, with_tokens, tokens_after}
use Rattle.pal_lex.specs.Progress as lex
use Rattle.pal_lex.specs.Progress.{setting}
use Rattle.pal_faults.specs.declared.lexical.LexFault.{LexFault}
use Rattle.pal_faults.specs.declared.lexical.LexFault.TheVariants as fault
use Rattle.pal_lex.specs.declared.phrases.Statement.{Statement}
use Rattle.pal_lex.specs.declared.pieces.Token.{Token}
use Rattle.pal_asm.specs.Expressions.{Meanings}
use Rattle.pal_asm.specs.Places.{Source, values, place_at}
use Rattle.pal_asm.specs.Words.{pairs_by, word_values}
use Rattle.pal_asm.specs.Faults.{first_of, at_line, first_order, word_fault, words_fault}
use Rattle.pal_faults.specs.Faults.{lexical}
use Rattle.pal_asm.specs.Laws.{NoFaultBefore, NoLexicalFault}
use Rattle.pal_asm.specs.Passes.{IsSecond, AnswersSecond, with_handed}
use Rattle.pal_asm.specs.Progress as asm
use Rattle.pal_faults.specs.declared.assembling.AsmFault.{AsmFault}
use Rattle.pal_faults.specs.declared.assembling.AsmFault.TheVariants.{At, Memory}
use Rattle.pal_asm.specs.declared.passing.Pass.{Pass}
use Rattle.pal_asm.specs.Passing.{Counts, IsMade, TellsJoinFault, IsWithin, HasMade, MakesTo}
use Rattle.pal_asm.specs.Texts.{GoesOnAfter}
use Rattle.pal_asm.specs.TextSteps.{MakesStatement, MakesSome, MakesAnswer, MakesByte}
use Rattle.pal_asm.proofs.ByteLemmas.{from_after, the_rest, one_more}
use Rattle.pal_asm.proofs.PassingLemmas.{Stays, IsNothing, same_answer, not_ok, tells_more, counts_more, pauses_here, paused_byte, goes_on_by}

pub words_stay : (known : Meanings) → Stays (words_fault known)
words_stay known [] older f told = told
words_stay known (Ok s ∷ later) older f told =
    ap (λ o. first_of o (at_line s.line (word_fault (word_values known s.tags (later ++ older)) (place_at (later ++ older)) s.body))) (words_stay known later older f told)
words_stay known (Err g ∷ later) older f told = words_stay known later older f told

pub some_none : {C : Type 0} (f : LexFault) → Some f ≡ None → C
some_none f e = absurd (never e)
  where
    never : Some f ≡ None → ⊥
    never e = cc

-- ## A statement

pub answer_made : (answer : Option Statement) (s : Statement) (handed : Option (ℕ × ℕ)) (pass : Pass) (new : asm.Progress) (pairs pairs2 : List (ℕ × ℕ)) → answer ≡ Some s → is_pause_body s.body ≡ false → pairs2 ≡ with_handed pairs handed
    → ((whole later older : Source) (tokens : List Token) → is_pause_body s.body ≡ false → whole ≡ later ++ Ok (with_tokens tokens s) ∷ older → IsSecond pass.assembler whole older → AnswersSecond whole older (with_tokens tokens s) (Ok handed) pass.assembler new)
    → MakesAnswer answer (Ok tt) pass pairs (record { lexer = pass.lexer; assembler = new; waiting = pass.waiting; is_at_end = pass.is_at_end }) pairs2
answer_made answer s handed pass new pairs pairs2 is other put seconds =
    subst (λ a. MakesAnswer a (Ok tt) pass pairs now pairs2) (sym is)
    (subst (λ b. MakesSome b s (Ok tt) pass pairs now pairs2) (sym other) (refl, makes))
  where
    now : Pass
    now = record { lexer = pass.lexer; assembler = new; waiting = pass.waiting; is_at_end = pass.is_at_end }

    makes : (whole older : Source) (tokens : List Token) → GoesOnAfter whole (Ok (with_tokens tokens s) ∷ older) → IsSecond pass.assembler whole older → pairs ≡ pairs_by (values whole) older
        → MakesStatement whole (Ok (with_tokens tokens s) ∷ older) (Ok tt) new pairs2
    makes whole older tokens following second before =
        let made = seconds whole following.0 older tokens other following.1 second in
        (made.1, put ∙ ap (λ p. with_handed p handed) before ∙ sym made.0)

pub answer_refused : (answer : Option Statement) (s : Statement) (f : AsmFault) (pass : Pass) (new : asm.Progress) (pairs : List (ℕ × ℕ)) → answer ≡ Some s → is_pause_body s.body ≡ false
    → ((whole later older : Source) (tokens : List Token) → is_pause_body s.body ≡ false → whole ≡ later ++ Ok (with_tokens tokens s) ∷ older → IsSecond pass.assembler whole older → AnswersSecond whole older (with_tokens tokens s) (Err f) pass.assembler new)
    → MakesAnswer answer (Err f) pass pairs (record { lexer = pass.lexer; assembler = new; waiting = pass.waiting; is_at_end = pass.is_at_end }) pairs
answer_refused answer s f pass new pairs is other seconds =
    subst (λ a. MakesAnswer a (Err f) pass pairs now pairs) (sym is)
    (subst (λ b. MakesSome b s (Err f) pass pairs now pairs) (sym other) (refl, makes))
  where
    now : Pass
    now = record { lexer = pass.lexer; assembler = new; waiting = pass.waiting; is_at_end = pass.is_at_end }

    makes : (whole older : Source) (tokens : List Token) → GoesOnAfter whole (Ok (with_tokens tokens s) ∷ older) → IsSecond pass.assembler whole older → pairs ≡ pairs_by (values whole) older
        → MakesStatement whole (Ok (with_tokens tokens s) ∷ older) (Err f) new pairs
    makes whole older tokens following second before = by_fault f (seconds whole following.0 older tokens other following.1 second)
      where
        by_fault : (g : AsmFault) → AnswersSecond whole older (with_tokens tokens s) (Err g) pass.assembler new → MakesStatement whole (Ok (with_tokens tokens s) ∷ older) (Err g) new pairs
        by_fault (At code line) told = told.0
        by_fault Memory told = absurd told

-- ## A character

-- a text of a source with a byte more is in the whole
pub after_here : ByteGoesOn → (whole : Source) (prefix here : List ℕ) (b : ℕ) (several : Bool) (lexer : lex.Progress) (Fits : Source → Type 0) → Counts lexer prefix several here Fits → (lexer.may_pause ≡ true → pauses (here ++ prefix) b ≡ false)
    → IsWithin whole prefix several (b ∷ here) → GoesOnAfter whole (statements (b ∷ here ++ prefix))
after_here goes whole prefix here b several lexer Fits counts quiet within =
    let more = goes_on_by goes prefix here within.0 b within.1.0 several lexer Fits counts within.1.1.0 quiet in
    (more.0, within.1.1.1 ∙ more.1)

-- a byte that ends a statement without fault doesn't end PAUSE
pub quiet_at : PauseIsBad → (text : List ℕ) (b : ℕ) → first_fault (statements text) ≡ None → first_fault (statements (b ∷ text)) ≡ None → pauses text b ≡ false
quiet_at bad text b before none = by_test (pauses text b) refl
  where
    by_test : (test : Bool) → pauses text b ≡ test → test ≡ false
    by_test true e = some_none _ (sym (bad text b e before) ∙ none)
    by_test false e = refl

pub made_byte : PauseJoins → ByteGoesOn → PauseIsBad → (whole : Source) (pass new : Pass) (pairs pairs2 : List (ℕ × ℕ)) (lexer : lex.Progress) (answer : Option Statement) (result : Result (Unit {0}) AsmFault) (prefix : List ℕ) (several : Bool) (here : List ℕ) (b : ℕ)
    → ((seam : ℕ) (text : List ℕ) → HasRead pass.lexer seam text → Answers seam text b (Ok answer) pass.lexer lexer)
    → ((text : List ℕ) → HasPaused pass.lexer text → IsNothing (Ok answer) × (lexer ≡ pass.lexer))
    → setting lexer ≡ setting pass.lexer
    → MakesAnswer answer result (record { lexer = lexer; assembler = pass.assembler; waiting = pass.waiting; is_at_end = pass.is_at_end }) pairs new pairs2
    → HasMade whole pass pairs prefix several here false → IsWithin whole prefix several (b ∷ here) → MakesByte whole prefix several here b result new pairs2
made_byte joins goes bad whole pass new pairs pairs2 lexer answer result prefix several here b answers paused same makes has within = elim has [
  | inl counts ↦ by_answer answer makes counts.0 counts.1 (answers (length prefix) (here ++ prefix) counts.1.read)
  | inr p ↦
      let is = paused p.1.cut p.1.paused in
      let made : MakesAnswer None result now pairs new pairs2 = subst (λ a. MakesAnswer a result now pairs new pairs2) (same_answer answer is.0) makes in
      all_same made.0 made.1 made.2 (inr (p.0, paused_byte pass.lexer lexer prefix several here b (λ q. IsMade whole pass pairs q) p.1 is.1))
]
  where
    now : Pass
    now = record { lexer = lexer; assembler = pass.assembler; waiting = pass.waiting; is_at_end = pass.is_at_end }

    all_same : result ≡ Ok tt → new ≡ now → pairs2 ≡ pairs → HasMade whole now pairs prefix several (b ∷ here) false → MakesByte whole prefix several here b result new pairs2
    all_same is_ok is_now is_pairs made =
        subst (λ r. MakesByte whole prefix several here b r new pairs2) (sym is_ok)
        (subst (λ (n : Pass). HasMade whole n pairs2 prefix several (b ∷ here) false) (sym is_now)
        (subst (λ (l : List (ℕ × ℕ)). HasMade whole now l prefix several (b ∷ here) false) (sym is_pairs) made))

    after_pause : (s : Statement) (p : Bool) → MakesSome p s result now pairs new pairs2 → is_pause_body s.body ≡ p → pass.is_at_end ≡ false → Counts pass.lexer prefix several here (λ q. IsMade whole pass pairs q)
        → HandsOut p (length prefix) (here ++ prefix) b s pass.lexer lexer → MakesByte whole prefix several here b result new pairs2
    after_pause s true made pause going counts out =
        subst (λ r. MakesByte whole prefix several here b r new pairs2) (sym made.0)
        (subst (λ (n : Pass). HasMade whole n pairs2 prefix several (b ∷ here) false) (sym made.1)
        (subst (λ (l : List (ℕ × ℕ)). HasMade whole (record { lexer = lexer; assembler = pass.assembler; waiting = pass.waiting; is_at_end = true }) l prefix several (b ∷ here) false) (sym made.2)
        (inr (refl, pauses_here joins pass.lexer lexer prefix several here b s (λ q. IsMade whole pass pairs q) counts out))))
    after_pause s false made pause going counts out =
        by_result result (made.1 whole (statements (here ++ prefix)) (tokens_after (here ++ prefix)) (within_whole.0, within_whole.1 ∙ ap (λ l. within_whole.0 ++ l) out.newest) counts.at.1 counts.at.2)
      where
        quiet : pauses (here ++ prefix) b ≡ false
        quiet = quiet_at bad (here ++ prefix) b counts.fine out.no_fault

        within_whole : GoesOnAfter whole (statements (b ∷ here ++ prefix))
        within_whole = after_here goes whole prefix here b several pass.lexer (λ q. IsMade whole pass pairs q) counts (λ may. quiet) within

        by_result : (r : Result (Unit {0}) AsmFault) → MakesStatement whole (Ok (with_tokens (tokens_after (here ++ prefix)) s) ∷ statements (here ++ prefix)) r new.assembler pairs2 → MakesByte whole prefix several here b r new pairs2
        by_result (Ok done) m =
            subst (λ (n : Pass). HasMade whole n pairs2 prefix several (b ∷ here) false) (sym made.0)
            (inl (
              going,
              counts_more pass.lexer lexer prefix several here b (λ q. IsMade whole pass pairs q) (λ q. IsMade whole (record { lexer = lexer; assembler = new.assembler; waiting = pass.waiting; is_at_end = pass.is_at_end }) pairs2 q) counts same out.no_fault out.read
                  (counts.at.0, subst (λ q. IsSecond new.assembler whole q) (sym out.newest) m.0, m.1 ∙ ap (pairs_by (values whole)) (sym out.newest)),
            ))
        by_result (Err (At code line)) m = λ later others follows.
            let more = goes_on_by goes prefix here later b others several pass.lexer (λ q. IsMade whole pass pairs q) counts follows (λ may. quiet) in
            ap (words_fault (values whole)) more.1 ∙ words_stay (values whole) more.0 (statements (b ∷ here ++ prefix)) (At code line) (ap (words_fault (values whole)) out.newest ∙ m)
        by_result (Err Memory) m = absurd m

    by_answer : (a : Option Statement) → MakesAnswer a result now pairs new pairs2 → pass.is_at_end ≡ false → Counts pass.lexer prefix several here (λ q. IsMade whole pass pairs q)
        → Answers (length prefix) (here ++ prefix) b (Ok a) pass.lexer lexer → MakesByte whole prefix several here b result new pairs2
    by_answer None made going counts told =
        all_same made.0 made.1 made.2
        (inl (
          going,
          counts_more pass.lexer lexer prefix several here b (λ q. IsMade whole pass pairs q) (λ q. IsMade whole now pairs q) counts same told.0 told.2
              (subst (λ q. IsMade whole now pairs q) (sym told.1) counts.at),
        ))
    by_answer (Some s) made going counts told = after_pause s (is_pause_body s.body) made refl going counts told

-- the lexer refuses nothing in the second pass
pub made_not : ByteGoesOn → NoFaultBefore → NoLexicalFault → (whole : Source) (pass : Pass) (pairs : List (ℕ × ℕ)) (lexer : lex.Progress) (f : LexFault) (answer : AsmFault) (prefix : List ℕ) (several : Bool) (here : List ℕ) (b : ℕ) → answer ≡ lexical f
    → ((seam : ℕ) (text : List ℕ) → HasRead pass.lexer seam text → Answers seam text b (Err f) pass.lexer lexer)
    → ((text : List ℕ) → HasPaused pass.lexer text → IsNothing (Err f) × (lexer ≡ pass.lexer))
    → HasMade whole pass pairs prefix several here false → IsWithin whole prefix several (b ∷ here)
    → MakesByte whole prefix several here b (Err answer) (record { lexer = lexer; assembler = pass.assembler; waiting = pass.waiting; is_at_end = pass.is_at_end }) pairs
made_not goes before lexless whole pass pairs lexer f answer prefix several here b e answers paused has within = elim has [
  | inl counts ↦ subst (λ a. MakesByte whole prefix several here b (Err a) now pairs) (sym e) (by_fault f counts.0 counts.1 (answers (length prefix) (here ++ prefix) counts.1.read))
  | inr p ↦ not_ok f (paused p.1.cut p.1.paused).0
]
  where
    now : Pass
    now = record { lexer = lexer; assembler = pass.assembler; waiting = pass.waiting; is_at_end = pass.is_at_end }

    never : {C : Type 0} (g : LexFault) → Counts pass.lexer prefix several here (λ q. IsMade whole pass pairs q) → LexTells (length prefix) (here ++ prefix) b g pass.lexer lexer → C
    never g counts is =
        let following = after_here goes whole prefix here b several pass.lexer (λ q. IsMade whole pass pairs q) counts (is.1 counts.fine) within in
        some_none g (sym is.0 ∙ lexless (statements (b ∷ here ++ prefix)) (before following.0 (statements (b ∷ here ++ prefix)) (ap first_order (sym following.1) ∙ counts.at.1.no_fault)))

    by_fault : (g : LexFault) → pass.is_at_end ≡ false → Counts pass.lexer prefix several here (λ q. IsMade whole pass pairs q) → Answers (length prefix) (here ++ prefix) b (Err g) pass.lexer lexer
        → MakesByte whole prefix several here b (Err (lexical g)) now pairs
    by_fault (fault.IC line) going counts is = never (fault.IC line) counts is
    by_fault (fault.SY line) going counts is = never (fault.SY line) counts is
    by_fault (fault.NU line) going counts is = never (fault.NU line) counts is
    by_fault (fault.NE line) going counts is = absurd is
    by_fault fault.Memory going counts is =
        subst (λ (l : lex.Progress). HasMade whole (record { lexer = l; assembler = pass.assembler; waiting = pass.waiting; is_at_end = pass.is_at_end }) pairs prefix several here false) (sym is.3) (inl (going, counts))

-- ## Characters

-- a beginning of a text is in the whole where the text is
pub within_part : (whole : Source) (prefix : List ℕ) (several : Bool) (here bytes : List ℕ) → IsWithin whole prefix several (text_from here bytes) → IsWithin whole prefix several here
within_part whole prefix several here bytes within =
    let rest = from_after bytes here in (
      within.0 ++ rest.0,
      (
        within.1.0,
        (
          within.1.1.0,
          within.1.1.1 ∙ ap (λ t. statements (join_of (t ∷ within.1.0) ++ prefix)) (ap (λ t. within.0 ++ t) rest.1 ∙ sym (append_assoc within.0 rest.0 here)),
        ),
      ),
    )

pub within_byte : (whole : Source) (prefix : List ℕ) (several : Bool) (here bytes : List ℕ) (i b : ℕ) → i < length bytes → b ≡ get_or bytes i 0 → IsWithin whole prefix several (text_from here bytes)
    → IsWithin whole prefix several (b ∷ text_from here (take i bytes))
within_byte whole prefix several here bytes i b inside is within =
    within_part whole prefix several (b ∷ text_from here (take i bytes)) (drop (i + 1) bytes)
    (subst (λ t. IsWithin whole prefix several t) (the_rest here bytes (i + 1) ∙ ap (λ t. text_from t (drop (i + 1) bytes)) (one_more here bytes i b inside is)) within)

pub made_to : (whole : Source) (prefix : List ℕ) (several : Bool) (here bytes : List ℕ) (i b : ℕ) (new : Pass) (pairs : List (ℕ × ℕ)) → i < length bytes → b ≡ get_or bytes i 0
    → HasMade whole new pairs prefix several (b ∷ text_from here (take i bytes)) false → HasMade whole new pairs prefix several (text_from here (take (i + 1) bytes)) false
made_to whole prefix several here bytes i b new pairs inside is has = subst (λ t. HasMade whole new pairs prefix several t false) (sym (one_more here bytes i b inside is)) has

pub made_not_in : (whole : Source) (prefix : List ℕ) (several : Bool) (here bytes : List ℕ) (i b : ℕ) (new : Pass) (pairs : List (ℕ × ℕ)) (f : AsmFault) → i < length bytes → b ≡ get_or bytes i 0
    → MakesByte whole prefix several (text_from here (take i bytes)) b (Err f) new pairs → MakesTo whole prefix several here bytes i (Err f) new pairs
made_not_in whole prefix several here bytes i b new pairs (At code line) inside is tells =
    subst (λ t. TellsJoinFault (words_fault (values whole)) prefix several t (At code line)) (sym (the_rest here bytes (i + 1)))
    (tells_more (words_fault (values whole)) prefix several (text_from here (take (i + 1) bytes)) (drop (i + 1) bytes) (At code line)
    (subst (λ t. TellsJoinFault (words_fault (values whole)) prefix several t (At code line)) (sym (one_more here bytes i b inside is)) tells))
made_not_in whole prefix several here bytes i b new pairs Memory inside is has = has
