-- Bytes that go on with a name, a number or a comment.
use Rattle.std.proofs.Common.{◌≡◌, ℕ, suc, ◌+◌, nat_eq, Bool, true, false, ◌||◌, if◌then◌else◌, None, Ok, length, List, [], ◌∷◌, refl, sym, ap, subst, ◌∙◌, arith}
use Rattle.std.proofs.lemmas.Bool.Decides.{nat_tests}
use Rattle.pal_lex.specs.Text.{limit}
use Rattle.pal8_lex.specs.Text.{as_read, is_dropped, line_after, line_count, live}
use Rattle.pal8_lex.specs.Rules.{effect_of, ends_after, ends_by, is_end, is_letter_or_digit, shape_of}
use Rattle.pal8_lex.specs.Pieces.{Piece, ends, grown, head_of, open_of, pieces, string_of, tokens_of, with_byte, with_effect}
use Rattle.pal8_lex.specs.Drafting.{Present, present_of}
use Rattle.pal8_lex.specs.Reading.{Answers, HasRead, Progress, after_text, anew_by}
use Rattle.pal8_lex.specs.Statements.{statement_of, statements, statements_of}
use Rattle.pal8_lex.specs.Steps.{Fits, GoesFurther, IsNewest, is_run}
use Rattle.pal8_lex.specs.declared.rules.Head.{Head}
use Rattle.pal8_lex.specs.declared.rules.Head.TheVariants as heads
use Rattle.pal8_lex.specs.declared.rules.Open.{Open}
use Rattle.pal8_lex.specs.declared.rules.Open.TheVariants as following
use Rattle.pal8_lex.specs.declared.rules.Shape.TheVariants as shape
use Rattle.pal8_lex.specs.declared.rules.Effect.{Effect}
use Rattle.pal8_lex.specs.declared.rules.Effect.TheVariants as effect
use Rattle.pal8_lex.proofs.DraftLemmas.{fits, next_limit}

-- a lexer whose statement goes on
abbrev open_at : ℕ → ℕ → Present → Progress
open_at place line draft = record { place = place; line = line; end = None; draft = draft }

-- what was read, where a statement goes on
same_read : (l : Progress) (text : List ℕ) → l.end ≡ None → HasRead l text → l ≡ after_text text
unfolding HasRead
same_read l text none is = ap (λ e. anew_by e l) (sym none) ∙ is

one_more : (n : ℕ) → n + 1 ≡ suc n
one_more n = omega arith

zero_more : (n : ℕ) → 0 + n ≡ n
zero_more n = omega arith

-- ## One byte more

module _ (l : Progress) (text : List ℕ) (b : ℕ) (draft : Present) (is : l ≡ after_text text) where
  abbrev next : Progress
  next = record { place = limit (l.place + 1); line = l.line; end = l.end; draft = draft }

  place_is : limit (l.place + 1) ≡ limit (length text + 1)
  place_is = next_limit l.place (length text) (ap (λ p. p.place) is)

  reads : (bytes : List (ℕ × ℕ)) → live (b ∷ text) ≡ bytes → line_count bytes ≡ line_count (live text) → draft ≡ present_of (pieces bytes) → HasRead next (b ∷ text)
  unfolding HasRead
  reads bytes bytes_are lines draft_is =
      ap (λ e. anew_by e next) (ap (λ p. p.end) is)
      ∙ ap (λ e. record { place = limit (l.place + 1); line = l.line; end = e; draft = draft }) (ap (λ p. p.end) is)
      ∙ ap (λ n. record { place = n; line = l.line; end = None; draft = draft }) place_is
      ∙ ap (λ n. record { place = limit (length text + 1); line = n; end = None; draft = draft }) (ap (λ p. p.line) is ∙ ap (λ n. limit (1 + n)) (sym lines))
      ∙ ap (λ d. record { place = limit (length text + 1); line = line_after bytes; end = None; draft = d }) draft_is
      ∙ ap (λ x. record { place = limit (length text + 1); line = line_after x; end = None; draft = present_of (pieces x) }) (sym bytes_are)
      ∙ ap (λ n. record { place = limit n; line = line_after (live (b ∷ text)); end = None; draft = present_of (pieces (live (b ∷ text))) }) (one_more (length text))

  -- a byte that is as if it weren't there
  drops : is_dropped b ≡ true → draft ≡ l.draft → Answers text b (Ok false) next
  drops dropped same =
      let live_same : live (b ∷ text) ≡ live text = ap (λ t. if t then live text else (as_read b, length text) ∷ live text) dropped in
      (ap statements_of live_same, reads (live text) live_same refl (same ∙ ap (λ p. p.draft) is))

  -- a byte that ends nothing
  stands : is_dropped b ≡ false → ends (pieces (live text)) (as_read b) ≡ false → nat_eq (as_read b) 0o15 ≡ false
      → draft ≡ present_of (with_byte (as_read b, length text) (pieces (live text))) → Answers text b (Ok false) next
  stands there goes_on no_line draft_is =
      let live_is : live (b ∷ text) ≡ (as_read b, length text) ∷ live text = ap (λ t. if t then live text else (as_read b, length text) ∷ live text) there in (
        ap statements_of live_is ∙ ap (λ t. if t then statement_of (as_read b) (live text) ∷ statements text else statements text) goes_on,
        reads ((as_read b, length text) ∷ live text) live_is (ap (λ t. (if t then 1 else 0) + line_count (live text)) no_line ∙ zero_more (line_count (live text)))
            (draft_is ∙ ap (λ t. present_of (if t then [] else with_byte (as_read b, length text) (pieces (live text)))) (sym goes_on)),
      )

-- ## Comments

abbrev present : List Piece → Open → Present
present before state = record { tokens = tokens_of before; string = string_of before; state = state; head = head_of before }

comment_stays : (before : List Piece) (x : ℕ × ℕ) → open_of before ≡ following.Comment → present_of before ≡ present_of (with_byte x before)
comment_stays before x is =
    ap (present before) is ∙ ap (λ (f : Effect). present_of (with_effect f x before)) (sym (ap (λ o. effect_of o (head_of before) x.0) is))

no_line_end : (b : ℕ) → nat_eq b 0o12 ≡ false → is_dropped b ≡ false → nat_eq (as_read b) 0o15 ≡ false
no_line_end b line there = ap (λ t. nat_eq (if t then 0o15 else b) 0o15) line ∙ not_dropped b there
  where
    not_dropped : (b : ℕ) → is_dropped b ≡ false → nat_eq b 0o15 ≡ false
    not_dropped b there = by_test (nat_eq b 0o15) there
      where
        by_test : (test : Bool) → (test || nat_eq b 0o14 || nat_eq b 0 || nat_eq b 0o177) ≡ false → test ≡ false
        by_test true is = absurd cc
        by_test false is = refl

other_byte : (b : ℕ) → (b ≡ 0o12 → ⊥) → nat_eq b 0o12 ≡ false
other_byte b differs = grind (arith, nat_tests, differs)

pub comment_passed : (l new : Progress) (b : ℕ) → l.end ≡ None → l.draft.state ≡ following.Comment → (b ≡ 0o12 → ⊥)
    → new ≡ record { place = limit (l.place + 1); line = l.line; end = l.end; draft = l.draft } → GoesFurther b true l new
comment_passed l new b none state line new_is = λ text has. subst (Answers text b (Ok false)) (sym new_is) (by_drop text (same_read l text none has) (is_dropped b) refl)
  where
    by_drop : (text : List ℕ) → l ≡ after_text text → (test : Bool) → is_dropped b ≡ test
        → Answers text b (Ok false) record { place = limit (l.place + 1); line = l.line; end = l.end; draft = l.draft }
    by_drop text is true dropped = drops l text b l.draft is dropped refl
    by_drop text is false there =
        let open_is : open_of (pieces (live text)) ≡ following.Comment = ap (λ p. p.draft.state) (sym is) ∙ state in
        let no_end = no_line_end b (other_byte b line) there in
        stands l text b l.draft is there (ap (λ o. ends_by o (head_of (pieces (live text))) (as_read b)) open_is ∙ no_end) no_end
        (ap (λ p. p.draft) is ∙ comment_stays (pieces (live text)) (as_read b, length text) open_is)

-- ## Names and numbers

letter_is_there : (b : ℕ) → is_letter_or_digit b ≡ true → is_dropped b ≡ false
letter_is_there b is = grind (arith, nat_tests, is)

letter_as_read : (b : ℕ) → is_letter_or_digit b ≡ true → as_read b ≡ b
letter_as_read b is = ap (λ t. if t then 0o15 else b) (no_line b is)
  where
    no_line : (b : ℕ) → is_letter_or_digit b ≡ true → nat_eq b 0o12 ≡ false
    no_line b is = grind (arith, nat_tests, is)

letter_no_line : (b : ℕ) → is_letter_or_digit b ≡ true → nat_eq b 0o15 ≡ false
letter_no_line b is = grind (arith, nat_tests, is)

letter_no_end : (b : ℕ) → is_letter_or_digit b ≡ true → is_end b ≡ false
letter_no_end b is = grind (arith, nat_tests, is)

run_goes_on : (head : Head) (b : ℕ) → is_letter_or_digit b ≡ true → ends_after head b ≡ false
run_goes_on heads.Empty b is = letter_no_end b is
run_goes_on heads.One b is = letter_no_end b is
run_goes_on heads.Text b is = letter_no_line b is
run_goes_on heads.Listing b is = letter_no_end b is
run_goes_on heads.More b is = letter_no_end b is

ends_of_run : (state : Open) (head : Head) (b : ℕ) → is_run state ≡ true → is_letter_or_digit b ≡ true → ends_by state head b ≡ false
ends_of_run following.Start head b run is = absurd cc
ends_of_run following.Blank head b run is = absurd cc
ends_of_run (following.Run weight) head b run is = run_goes_on head b is
ends_of_run following.Term head b run is = absurd cc
ends_of_run following.Quote head b run is = absurd cc
ends_of_run (following.String delimiter) head b run is = absurd cc
ends_of_run following.Comment head b run is = absurd cc
ends_of_run following.Title head b run is = absurd cc

effect_on_run : (state : Open) (head : Head) (b : ℕ) → is_run state ≡ true → is_letter_or_digit b ≡ true → effect_of state head b ≡ effect.Lengthens
effect_on_run following.Start head b run is = absurd cc
effect_on_run following.Blank head b run is = absurd cc
effect_on_run (following.Run weight) head b run is = ap (λ t. if t then effect.Lengthens else effect.Begins (shape_of head b)) is
effect_on_run following.Term head b run is = absurd cc
effect_on_run following.Quote head b run is = absurd cc
effect_on_run (following.String delimiter) head b run is = absurd cc
effect_on_run following.Comment head b run is = absurd cc
effect_on_run following.Title head b run is = absurd cc

-- a letter or a digit is one byte more of the newest piece
run_grows : (before : List Piece) (b at : ℕ) (draft : Present) → is_run (open_of before) ≡ true → is_letter_or_digit b ≡ true
    → ((newest : Piece) (older : List Piece) → present_of before ≡ present_of (newest ∷ older) → newest.shape ≡ shape.Run → draft ≡ present_of (grown shape.Run (b, at) newest ∷ older))
    → draft ≡ present_of (with_byte (b, at) before)
run_grows before b at draft run letter lengthens =
    let e = effect_on_run (open_of before) (head_of before) b run letter in
    let it : IsNewest shape.Run before = subst (λ (f : Effect). Fits f before) e (fits before (head_of before) b) in
    lengthens it.newest it.older (ap present_of it.are) it.is_shape
    ∙ ap (λ s. present_of (grown s (b, at) it.newest ∷ it.older)) (sym it.is_shape)
    ∙ sym (ap (λ (p : List Piece). present_of (with_effect effect.Lengthens (b, at) p)) it.are)
    ∙ sym (ap (λ (f : Effect). present_of (with_effect f (b, at) before)) e)

pub run_lengthened : (l new : Progress) (b : ℕ) (draft : Present) → l.end ≡ None → is_run l.draft.state ≡ true → is_letter_or_digit b ≡ true
    → ((newest : Piece) (older : List Piece) (at : ℕ) → l.place ≡ limit at → l.draft ≡ present_of (newest ∷ older) → newest.shape ≡ shape.Run
    → draft ≡ present_of (grown shape.Run (b, at) newest ∷ older))
    → new ≡ record { place = limit (l.place + 1); line = l.line; end = l.end; draft = draft } → GoesFurther b true l new
run_lengthened l new b draft none run letter lengthens new_is = λ text has. subst (Answers text b (Ok false)) (sym new_is) (at_text text (same_read l text none has))
  where
    at_text : (text : List ℕ) → l ≡ after_text text → Answers text b (Ok false) record { place = limit (l.place + 1); line = l.line; end = l.end; draft = draft }
    at_text text is =
        let run_is : is_run (open_of (pieces (live text))) ≡ true = ap (λ p. is_run p.draft.state) (sym is) ∙ run in
        let read_is = letter_as_read b letter in
        stands l text b draft is (letter_is_there b letter)
        (ap (λ n. ends (pieces (live text)) n) read_is ∙ ends_of_run (open_of (pieces (live text))) (head_of (pieces (live text))) b run_is letter)
        (ap (λ n. nat_eq n 0o15) read_is ∙ letter_no_line b letter)
        (run_grows (pieces (live text)) b (length text) draft run_is letter
        (λ newest older same shape_is. lengthens newest older (length text) (ap (λ p. p.place) is) (ap (λ p. p.draft) is ∙ same) shape_is)
        ∙ ap (λ n. present_of (with_byte (n, length text) (pieces (live text)))) (sym read_is))
