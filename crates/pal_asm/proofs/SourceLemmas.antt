-- Sources, one after the other, in the two passes.
use Rattle.std.proofs.Common.{◌≡◌, ◌∙◌, inl, inr, ℕ, ◌≤◌, ◌<◌, nat_eq, nat_lt, Bool, true, false, true≢false, not, if◌then◌else◌, Option, Some, None, Result, Ok, Err, IfErr, length, take, drop, get_or, List, [], ◌∷◌, ◌++◌, refl, ap, sym, subst, arith, append_assoc}
use Rattle.std.proofs.lemmas.Bool.Decides.{nat_tests}
use Rattle.std.specs.Borrow.{Bor}
use Rattle.pal_lex.specs.Text.{text_from, text_of, is_over, line_after}
use Rattle.pal_lex.specs.Statements.{statements, first_fault}
use Rattle.pal_lex.specs.Joins.{join_of}
use Rattle.pal_lex.specs.Laws.{has_next, JoinGoesOn, EndsJoin}
use Rattle.pal_lex.specs.Reading.{HasRead, with_tokens}
use Rattle.pal_lex.specs.Progress as lex
use Rattle.pal_faults.specs.declared.lexical.LexFault.{LexFault}
use Rattle.pal_lex.specs.declared.phrases.Statement.{Statement}
use Rattle.pal_faults.specs.declared.assembling.AsmFault.{AsmFault}
use Rattle.pal_faults.specs.declared.assembling.AsmFault.TheVariants.{At, Memory}
use Rattle.pal_faults.specs.declared.assembling.Code.TheVariants.{NE}
use Rattle.pal_asm.specs.declared.passing.Pass.{Pass}
use Rattle.pal_asm.specs.Places.{Source, values}
use Rattle.pal_asm.specs.Faults.{first_of, first_order, no_end, words_fault}
use Rattle.pal_asm.specs.Laws.{StatementsStay}
use Rattle.pal_asm.specs.Passes.{IsFirst, IsSecond}
use Rattle.pal_asm.specs.Passing.{Counts, Stands, StandsAfter, IsMade, PassesTo, MakesTo, HasPassed, HasMade, IsWithin, EndsSource, BeginsSecondPass}
use Rattle.pal_asm.specs.Progress as asm
use Rattle.pal_asm.specs.Texts.{texts, GoesOnAfter, RanOut, IsFaultOf}
use Rattle.pal_asm.specs.TextSteps.{are_several, GoesOn, BeginsPass, BeginsAgain, PassesSource, MakesSource, AreWordsOf, IsWordsFault}
use Rattle.pal_asm.proofs.NameLemmas.{following_one, first_one}
use Rattle.pal_asm.proofs.WholeLemmas.{some_none}
use Rattle.pal_asm.proofs.TextLemmas.{nothing_read, one_more, met_second}
use Rattle.pal_asm.proofs.ByteLemmas.{from_after, the_rest, all_taken}
use Rattle.pal_asm.proofs.PassingLemmas.{stands_map, fine_there}

-- ## Where a source leads

-- What comes after a source: the next counts after this text; or all was read that does; or its `$` is missing.
abbrev pub Reaches : List ℕ → List ℕ → List (List ℕ) → Result Bool AsmFault → lex.Progress → Bool → (Source → Type 0) → Type 0
Reaches before text others (Ok true) lexer ended Fits =
    (cut : List ℕ) × ((join_of (text ∷ others) ++ before ≡ join_of others ++ cut) × (ended ≡ false) × Counts lexer cut (are_several others) [] Fits)
Reaches before text others (Ok false) lexer ended Fits =
    (seam : ℕ) × (HasRead lexer seam (join_of (text ∷ others) ++ before) × Fits (statements (join_of (text ∷ others) ++ before)))
Reaches before text others (Err fault) lexer ended Fits =
    (no_end (join_of (text ∷ others) ++ before) ≡ Some fault) × Fits (statements (join_of (text ∷ others) ++ before))

clash : {C : Type 0} (b : Bool) → b ≡ false → b ≡ true → C
clash true e f = absurd (true≢false e)
clash false e f = absurd (true≢false (sym f))

same_may : (b : Bool) → (if not b then false else true) ≡ b
same_may true = refl
same_may false = refl

pub reaches : EndsJoin → (before text : List ℕ) (others : List (List ℕ)) (r : Result Bool AsmFault) (old new : lex.Progress) (was ended : Bool) (Fits : Source → Type 0)
    → Stands old was before (has_next others) text false Fits → GoesOn others old r new ended → Reaches before text others r new ended Fits
reaches law before text [] (Ok true) old new was ended Fits stands goes = absurd goes
reaches law before text [] (Ok false) old new was ended Fits stands goes = elim stands [
  | inl counts ↦ (length before, (subst (λ (l : lex.Progress). HasRead l (length before) (text ++ before)) (sym goes) counts.1.read, counts.1.at))
  | inr paused ↦ absurd (true≢false (sym paused.1.follows))
]
reaches law before text [] (Err f) old new was ended Fits stands goes = absurd goes
reaches law before text (next ∷ others) (Ok true) old new was ended Fits stands goes = elim stands [
  | inl counts ↦ clash ended goes.1 (goes.0.1 (length before) (text ++ before) counts.1.read counts.1.fine).1
  | inr paused ↦
      let p = paused.1 in
      let begins = goes.0.0 p.cut p.paused p.clear in (
        p.cut,
        (
          p.joins [] next others,
          goes.1,
          record { read = begins.read; may_pause = begins.may_pause ∙ same_may (has_next others); clear = p.clear; fine = fine_there old p.cut p.paused; at = p.at },
        ),
      )
]
reaches law before text (next ∷ others) (Ok false) old new was ended Fits stands goes = elim stands [
  | inl counts ↦
      let over = goes.0.1 (length before) (text ++ before) counts.1.read counts.1.fine in
      let joined = ap (λ t. t ++ before) (law before text (next ∷ others) counts.1.clear counts.1.fine) in (
        length before,
        (
          subst (λ t. HasRead new (length before) t) (sym joined) (subst (λ (l : lex.Progress). HasRead l (length before) (text ++ before)) (sym over.0) counts.1.read),
          subst (λ t. Fits (statements t)) (sym joined) counts.1.at,
        ),
      )
  | inr paused ↦ clash ended (goes.0.0 paused.1.cut paused.1.paused paused.1.clear).counts goes.1
]
reaches law before text (next ∷ others) (Err f) old new was ended Fits stands goes = elim stands [
  | inl counts ↦
      let joined = ap (λ t. t ++ before) (law before text (next ∷ others) counts.1.clear counts.1.fine) in
      (ap no_end joined ∙ goes.1 (length before) (text ++ before) counts.1.read counts.1.fine, subst (λ t. Fits (statements t)) (sym joined) counts.1.at)
  | inr paused ↦ absurd (goes.0 paused.1.cut paused.1.paused)
]

-- ## Want of memory

-- bytes whose statements are those before the newest
before_newest : (text : List ℕ) (newest : Result Statement LexFault) (older : Source) → statements text ≡ newest ∷ older → (prefix : List ℕ) × (statements prefix ≡ older)
before_newest [] newest older is = absurd (nothing (sym nothing_read ∙ is))
  where
    nothing : [] ≡ newest ∷ older → ⊥
    nothing e = cc
before_newest (b ∷ text) newest older is = elim (one_more b text) [
  | inl same ↦ before_newest text newest older (sym same ∙ is)
  | inr added ↦ (text, tail (statements text) older added.0 newest (sym added.1 ∙ is))
]
  where
    tail : (a b : Source) (x y : Result Statement LexFault) → x ∷ a ≡ y ∷ b → a ≡ b
    tail a b x y e = cc

-- the statements that a pass stands after are the first of the join
pub stands_after : JoinGoesOn → StatementsStay → (lexer : lex.Progress) (ended : Bool) (before text here later : List ℕ) (others : List (List ℕ)) (Fits : Source → Type 0) → text ≡ later ++ here
    → Stands lexer ended before (has_next others) here false Fits
    → (prefix : List ℕ) × (GoesOnAfter (statements (join_of (text ∷ others) ++ before)) (statements prefix) × Fits (statements prefix))
stands_after joins stay lexer ended before text here later [] Fits is stands = elim stands [
  | inl counts ↦
      let more = joins before here later [] counts.1.clear counts.1.fine in
      (here ++ before, ((more.0, ap (λ t. statements (join_of (t ∷ []) ++ before)) is ∙ more.1), counts.1.at))
  | inr paused ↦ absurd (true≢false (sym paused.1.follows))
]
stands_after joins stay lexer ended before text here later (next ∷ others) Fits is stands = elim stands [
  | inl counts ↦
      let more = joins before here later (next ∷ others) counts.1.clear counts.1.fine in
      (here ++ before, ((more.0, ap (λ t. statements (join_of (t ∷ next ∷ others) ++ before)) is ∙ more.1), counts.1.at))
  | inr paused ↦
      let p = paused.1 in
      let more = stay (join_of (next ∷ others)) p.cut in
      (p.cut, ((more.0, ap statements (ap (λ t. join_of (t ∷ next ∷ others) ++ before) is ∙ p.joins later next others) ∙ more.1), p.at))
]

ran_out_by : (whole : Source) (waiting : Option Statement) (assembler : asm.Progress) (prefix : List ℕ) → GoesOnAfter whole (statements prefix) → StandsAfter waiting assembler (statements prefix) → RanOut whole
ran_out_by whole None assembler prefix following is = record { prefix = prefix; following = following; no_fault = is.no_fault }
ran_out_by whole (Some s) assembler prefix following is =
    let shorter = before_newest prefix (Ok (with_tokens is.1.0 s)) is.0 is.1.1.0 in
    record {
      prefix = shorter.0;
      following = (
        following.0 ++ Ok (with_tokens is.1.0 s) ∷ [],
        following.1 ∙ ap (λ l. following.0 ++ l) (is.1.1.0 ∙ ap (λ l. Ok (with_tokens is.1.0 s) ∷ l) (sym shorter.1)) ∙ sym (append_assoc following.0 (Ok (with_tokens is.1.0 s) ∷ []) (statements shorter.0)),
      );
      no_fault = ap first_order shorter.1 ∙ is.1.1.2.no_fault;
    }

-- what characters are so far, and those after them
later_of : (bytes : List ℕ) (i : ℕ) → (later : List ℕ) × (text_of bytes ≡ later ++ text_from [] (take i bytes))
later_of bytes i =
    let rest = from_after (drop i bytes) (text_from [] (take i bytes)) in
    (rest.0, the_rest [] bytes i ∙ rest.1)

-- ## The first pass

waits : (pass : Pass) (source : Source) → pass.waiting ≡ None → StandsAfter pass.waiting pass.assembler source → IsFirst pass.assembler source
waits pass source none is = subst (λ w. StandsAfter w pass.assembler source) none is

no_memory : {C : Type 0} (text : List ℕ) → no_end text ≡ Some Memory → C
no_memory text e = by_test (is_over text) e
  where
    by_test : {C : Type 0} (b : Bool) → (if b then None else Some (At NE (line_after text))) ≡ Some Memory → C
    by_test true e = absurd cc
    by_test false e = absurd cc

-- the source was taken, and what comes after it
pub passes_on : EndsJoin → (before bytes : List ℕ) (others : List (List ℕ)) (offset : ℕ) (r : Result Bool AsmFault) (pass new : Pass) → length bytes ≤ offset → pass.waiting ≡ None
    → PassesTo before (has_next others) [] bytes offset (Ok tt) pass → GoesOn others pass.lexer r new.lexer new.is_at_end → new.assembler ≡ pass.assembler → new.waiting ≡ pass.waiting
    → PassesSource before (text_of bytes) others r new
passes_on law before bytes others offset r pass new long none passes goes same waiting = by_result r (reaches law before (text_of bytes) others r pass.lexer new.lexer pass.is_at_end new.is_at_end (λ s. StandsAfter new.waiting new.assembler s) stands goes)
  where
    stands : Stands pass.lexer pass.is_at_end before (has_next others) (text_of bytes) false (λ s. StandsAfter new.waiting new.assembler s)
    stands =
        stands_map pass.lexer pass.is_at_end before (has_next others) (text_of bytes) false (λ s. StandsAfter pass.waiting pass.assembler s) (λ s. StandsAfter new.waiting new.assembler s)
        (λ s is. subst (λ w. StandsAfter w new.assembler s) (sym waiting) (subst (λ (a : asm.Progress). StandsAfter pass.waiting a s) (sym same) is))
        (subst (λ t. HasPassed pass before (has_next others) t false) (all_taken [] bytes offset long) passes)

    by_result : (q : Result Bool AsmFault) → Reaches before (text_of bytes) others q new.lexer new.is_at_end (λ s. StandsAfter new.waiting new.assembler s) → PassesSource before (text_of bytes) others q new
    by_result (Ok true) to = (to.0, (to.1.0, (to.1.1, to.1.2, waiting ∙ none)))
    by_result (Ok false) to = (to.0, (to.1.0, waits new (statements (join_of (text_of bytes ∷ others) ++ before)) (waiting ∙ none) to.1.1, waiting ∙ none))
    by_result (Err (At code line)) to = ap (λ o. first_of o (no_end (join_of (text_of bytes ∷ others) ++ before))) (waits new (statements (join_of (text_of bytes ∷ others) ++ before)) (waiting ∙ none) to.1).no_fault ∙ to.0
    by_result (Err Memory) to = no_memory (join_of (text_of bytes ∷ others) ++ before) to.0

-- a fault was met in the source
pub passes_not : JoinGoesOn → StatementsStay → (before bytes : List ℕ) (others : List (List ℕ)) (offset : ℕ) (f : AsmFault) (new : Pass)
    → PassesTo before (has_next others) [] bytes offset (Err f) new → PassesSource before (text_of bytes) others (Err f) new
passes_not joins stay before bytes others offset (At code line) new tells = ap (λ o. first_of o (no_end (join_of (text_of bytes ∷ others) ++ before))) (tells [] others refl)
passes_not joins stay before bytes others offset Memory new has =
    let later = later_of bytes offset in
    let at = stands_after joins stay new.lexer new.is_at_end before (text_of bytes) (text_from [] (take offset bytes)) later.0 others (λ s. StandsAfter new.waiting new.assembler s) later.1 has in
    ran_out_by _ new.waiting new.assembler at.0 at.1.0 at.1.1

-- ## The second pass

pub is_within : (whole before bytes : List ℕ) (others : List (List ℕ)) → whole ≡ join_of (text_of bytes ∷ others) ++ before → IsWithin (statements whole) before (has_next others) (text_from [] bytes)
is_within whole before bytes others is = ([], (others, (refl, ap statements is)))

pub makes_on : EndsJoin → (whole before bytes : List ℕ) (others : List (List ℕ)) (offset : ℕ) (r : Result Bool AsmFault) (pass new : Pass) (pairs : List (ℕ × ℕ)) → length bytes ≤ offset
    → whole ≡ join_of (text_of bytes ∷ others) ++ before → no_end whole ≡ None
    → MakesTo (statements whole) before (has_next others) [] bytes offset (Ok tt) pass pairs → GoesOn others pass.lexer r new.lexer new.is_at_end → new.assembler ≡ pass.assembler → new.waiting ≡ pass.waiting
    → MakesSource (statements whole) before (text_of bytes) others r new pairs
makes_on law whole before bytes others offset r pass new pairs long is ends makes goes same waiting = by_result r (reaches law before (text_of bytes) others r pass.lexer new.lexer pass.is_at_end new.is_at_end (λ s. IsMade (statements whole) new pairs s) stands goes)
  where
    stands : Stands pass.lexer pass.is_at_end before (has_next others) (text_of bytes) false (λ s. IsMade (statements whole) new pairs s)
    stands =
        stands_map pass.lexer pass.is_at_end before (has_next others) (text_of bytes) false (λ s. IsMade (statements whole) pass pairs s) (λ s. IsMade (statements whole) new pairs s)
        (λ s made. (waiting ∙ made.0, subst (λ (a : asm.Progress). IsSecond a (statements whole) s) (sym same) made.1, made.2))
        (subst (λ t. HasMade (statements whole) pass pairs before (has_next others) t false) (all_taken [] bytes offset long) makes)

    never : {C : Type 0} (f : AsmFault) → no_end (join_of (text_of bytes ∷ others) ++ before) ≡ Some f → C
    never f e = some_none (sym e ∙ ap no_end (sym is) ∙ ends)

    by_result : (q : Result Bool AsmFault) → Reaches before (text_of bytes) others q new.lexer new.is_at_end (λ s. IsMade (statements whole) new pairs s) → MakesSource (statements whole) before (text_of bytes) others q new pairs
    by_result (Ok true) to = (to.0, (to.1.0, (to.1.1, to.1.2)))
    by_result (Ok false) to = to.1.1
    by_result (Err (At code line)) to = never (At code line) to.0
    by_result (Err Memory) to = never Memory to.0

pub makes_not : JoinGoesOn → StatementsStay → (whole before bytes : List ℕ) (others : List (List ℕ)) (offset : ℕ) (f : AsmFault) (new : Pass) (pairs : List (ℕ × ℕ))
    → whole ≡ join_of (text_of bytes ∷ others) ++ before → MakesTo (statements whole) before (has_next others) [] bytes offset (Err f) new pairs → MakesSource (statements whole) before (text_of bytes) others (Err f) new pairs
makes_not joins stay whole before bytes others offset (At code line) new pairs is tells = ap (λ t. words_fault (values (statements whole)) (statements t)) is ∙ tells [] others refl
makes_not joins stay whole before bytes others offset Memory new pairs is has =
    let later = later_of bytes offset in
    let at = stands_after joins stay new.lexer new.is_at_end before (text_of bytes) (text_from [] (take offset bytes)) later.0 others (λ s. IsMade (statements whole) new pairs s) later.1 has in
    record { prefix = at.0; following = (at.1.0.0, ap statements is ∙ at.1.0.1); no_fault = at.1.1.1.words }

-- ## Several sources

pub several_is : (sources : List (Bor (List ℕ))) → nat_lt 1 (length sources) ≡ are_several (texts sources)
several_is [] = refl
several_is (a ∷ []) = refl
several_is (a ∷ b ∷ others) = grind (arith, nat_tests)

pub split_is : (sources : List (Bor (List ℕ))) (none : Bor (List ℕ)) → 1 ≤ length sources → texts sources ≡ text_of (get_or sources 0 none).now ∷ texts (following_one sources)
split_is [] none long = absurd (omega (arith, long))
split_is (a ∷ others) none long = ap texts (first_one (a ∷ others) a long refl)

pub joined_is : (sources : List (Bor (List ℕ))) (none : Bor (List ℕ)) (before whole : List ℕ) → 1 ≤ length sources → whole ≡ join_of (texts sources) ++ before
    → whole ≡ join_of (text_of (get_or sources 0 none).now ∷ texts (following_one sources)) ++ before
joined_is sources none before whole long e = e ∙ ap (λ l. join_of l ++ before) (split_is sources none long)

-- what the first pass answers for the first of sources
pub first_at : (sources : List (Bor (List ℕ))) (none : Bor (List ℕ)) (before : List ℕ) (r : Result Bool AsmFault) (pass new : Pass) → 1 ≤ length sources → BeginsPass before (texts sources) pass
    → ((at : List ℕ) → BeginsPass at (text_of (get_or sources 0 none).now ∷ texts (following_one sources)) pass → PassesSource at (text_of (get_or sources 0 none).now) (texts (following_one sources)) r new)
    → PassesSource before (text_of (get_or sources 0 none).now) (texts (following_one sources)) r new
first_at sources none before r pass new long begins passes = passes before (subst (λ l. BeginsPass before l pass) (split_is sources none long) begins)

-- what the second pass answers
pub second_at : (whole before : List ℕ) (sources : List (Bor (List ℕ))) (none : Bor (List ℕ)) (r : Result Bool AsmFault) (pass new : Pass) (pairs made : List (ℕ × ℕ)) → 1 ≤ length sources → no_end whole ≡ None
    → whole ≡ join_of (texts sources) ++ before → BeginsAgain (statements whole) before (texts sources) pass pairs
    → ((all at : List ℕ) → all ≡ join_of (text_of (get_or sources 0 none).now ∷ texts (following_one sources)) ++ at → no_end all ≡ None
    → BeginsAgain (statements all) at (text_of (get_or sources 0 none).now ∷ texts (following_one sources)) pass pairs
    → MakesSource (statements all) at (text_of (get_or sources 0 none).now) (texts (following_one sources)) r new made)
    → MakesSource (statements whole) before (text_of (get_or sources 0 none).now) (texts (following_one sources)) r new made
second_at whole before sources none r pass new pairs made long ends is begins makes =
    makes whole before (joined_is sources none before whole long is) ends (subst (λ l. BeginsAgain (statements whole) before l pass pairs) (split_is sources none long) begins)

no_more : {A : Type 0} (rest : List A) → length rest < 1 → rest ≡ []
no_more [] short = refl
no_more (x ∷ rest) short = absurd (omega (arith, short))

-- no source is left
pub all_joined : (rest : List (Bor (List ℕ))) (before whole : List ℕ) → length rest < 1 → whole ≡ join_of (texts rest) ++ before → whole ≡ before
all_joined rest before whole short is = is ∙ ap (λ (l : List (Bor (List ℕ))). join_of (texts l) ++ before) (no_more rest short)

-- the words of the whole
pub words_made : (whole text : List ℕ) (pass : Pass) (pairs : List (ℕ × ℕ)) → whole ≡ text → IsMade (statements whole) pass pairs (statements text) → AreWordsOf whole pairs
words_made whole text pass pairs is made =
    let at = subst (λ t. IsMade (statements whole) pass pairs (statements t)) (sym is) made in
    (at.1.words, at.2)

pub words_refused : (whole before text : List ℕ) (others : List (List ℕ)) (f : AsmFault) (pass : Pass) (pairs : List (ℕ × ℕ)) → MakesSource (statements whole) before text others (Err f) pass pairs → IsWordsFault whole f
words_refused whole before text others (At code line) pass pairs told = told
words_refused whole before text others Memory pass pairs ran = ran

pub second_refused : (whole before : List ℕ) (sources : List (Bor (List ℕ))) (none : Bor (List ℕ)) (f : AsmFault) (pass new : Pass) (pairs made : List (ℕ × ℕ)) → 1 ≤ length sources → no_end whole ≡ None
    → whole ≡ join_of (texts sources) ++ before → BeginsAgain (statements whole) before (texts sources) pass pairs
    → ((all at : List ℕ) → all ≡ join_of (text_of (get_or sources 0 none).now ∷ texts (following_one sources)) ++ at → no_end all ≡ None
    → BeginsAgain (statements all) at (text_of (get_or sources 0 none).now ∷ texts (following_one sources)) pass pairs
    → MakesSource (statements all) at (text_of (get_or sources 0 none).now) (texts (following_one sources)) (Err f) new made)
    → IsWordsFault whole f
second_refused whole before sources none f pass new pairs made long ends is begins makes =
    words_refused whole before (text_of (get_or sources 0 none).now) (texts (following_one sources)) f new made (second_at whole before sources none (Err f) pass new pairs made long ends is begins makes)

-- the second pass begins with a lexer of no byte
pub again_begins : (whole : List ℕ) (several : Bool) (lexer : lex.Progress) (pass : Pass) → HasRead lexer 0 [] → lexer.may_pause ≡ several → BeginsSecondPass whole (Ok tt) pass → (pass.lexer ≡ lexer) × (pass.is_at_end ≡ false)
    → (pass.is_at_end ≡ false) × Counts pass.lexer [] several [] (λ source. IsMade (statements whole) pass [] source)
again_begins whole several lexer pass read may turns is = (
  is.1,
  record {
    read = subst (λ (l : lex.Progress). HasRead l 0 []) (sym is.0) read;
    may_pause = ap (λ (l : lex.Progress). l.may_pause) is.0 ∙ may;
    clear = (refl, refl);
    fine = ap first_fault nothing_read;
    at = subst (λ s. IsMade (statements whole) pass [] s) (sym nothing_read) turns.1;
  },
)

pub second_fault : {A : Type 0} (text : List ℕ) (r : Result A AsmFault) (pass : Pass) → IfErr r (λ f. IsWordsFault text f) → BeginsSecondPass text (Ok tt) pass → IfErr r (λ f. IsFaultOf text f)
second_fault text (Ok value) pass told turns = tt
second_fault text (Err f) pass told turns = met_second text f pass.assembler told turns.0 turns.1.1

-- ## From one source to the next

pub goes_to : (others : List (Bor (List ℕ))) (old new : lex.Progress) (last ended : Bool) → nat_eq (length others) 0 ≡ false → last ≡ not (are_several (texts others)) → EndsSource old last (Ok tt) new ended
    → GoesOn (texts others) old (Ok (not ended)) new ended
goes_to [] old new last ended some is ends = absurd (true≢false some)
goes_to (next ∷ others) old new last true some is ends = (subst (λ l. EndsSource old l (Ok tt) new true) is ends, refl)
goes_to (next ∷ others) old new last false some is ends = (subst (λ l. EndsSource old l (Ok tt) new false) is ends, refl)

pub goes_not : (others : List (Bor (List ℕ))) (old new : lex.Progress) (last ended : Bool) (f : AsmFault) → nat_eq (length others) 0 ≡ false → last ≡ not (are_several (texts others)) → EndsSource old last (Err f) new ended
    → GoesOn (texts others) old (Err f) new ended
goes_not [] old new last ended f some is ends = absurd (true≢false some)
goes_not (next ∷ others) old new last ended f some is ends = subst (λ l. EndsSource old l (Err f) new ended) is ends
