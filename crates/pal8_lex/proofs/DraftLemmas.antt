-- What is kept of pieces, with one byte more.
use Rattle.std.proofs.Common.{◌≡◌, ℕ, ◌+◌, ◌/◌, nat_eq, Bool, true, false, ◌&&◌, if◌then◌else◌, List, [], ◌∷◌, ◌++◌, refl, sym, ap, subst, ◌∙◌, arith}
use Rattle.pal_lex.specs.Text.{limit}
use Rattle.word12.specs.Sixbit.{is_letter}
use Rattle.pal8_lex.specs.Text.{capital}
use Rattle.pal8_lex.specs.Runs.{first_kind, longer, run_of, weight_after}
use Rattle.pal8_lex.specs.Kinds.{head_of_one, head_with, is_comma, takes_blank_after}
use Rattle.pal8_lex.specs.Rules.{effect_of, is_letter_or_digit, shape_of}
use Rattle.pal8_lex.specs.Pieces.{Piece, end_after, grown, head_of, is_blank, open_by, open_of, after_blank, string_of, tokens_of, with_byte, with_effect}
use Rattle.pal8_lex.specs.Drafting.{Present, present_of}
use Rattle.pal8_lex.specs.Steps.{Fits, IsNewest, head_again}
use Rattle.pal8_lex.specs.declared.tokens.Token.{Token}
use Rattle.pal8_lex.specs.declared.tokens.Kind.{Kind}
use Rattle.pal8_lex.specs.declared.tokens.Number.{Number}
use Rattle.pal8_lex.specs.declared.tokens.Kind.TheVariants as kind
use Rattle.pal8_lex.specs.declared.rules.Head.{Head}
use Rattle.pal8_lex.specs.declared.rules.Head.TheVariants as heads
use Rattle.pal8_lex.specs.declared.rules.Open.{Open}
use Rattle.pal8_lex.specs.declared.rules.Open.TheVariants as following
use Rattle.pal8_lex.specs.declared.rules.Shape.{Shape}
use Rattle.pal8_lex.specs.declared.rules.Shape.TheVariants as shape
use Rattle.pal8_lex.specs.declared.rules.Effect.{Effect}
use Rattle.pal8_lex.specs.declared.rules.Effect.TheVariants as effect

pub next_limit : (place at : ℕ) → place ≡ limit at → limit (place + 1) ≡ limit (at + 1)
next_limit place at is = omega (arith, is)

abbrev present : List Token → List ℕ → Open → Head → Present
present t s o h = record { tokens = t; string = s; state = o; head = h }

four : {t t' : List Token} {s s' : List ℕ} {o o' : Open} {h h' : Head} → t ≡ t' → s ≡ s' → o ≡ o' → h ≡ h' → present t s o h ≡ present t' s' o' h'
four e f g k = rw (e, f, g, k) refl

-- ## Heads

longer_no_comma : (k : Kind) (weight b : ℕ) → is_comma k ≡ false → is_comma (longer k weight b) ≡ false
longer_no_comma (kind.Name name) weight b is = refl
longer_no_comma (kind.Number n) weight b is = refl
longer_no_comma (kind.Character c) weight b is = refl
longer_no_comma kind.Here weight b is = refl
longer_no_comma (kind.Operator sign) weight b is = refl
longer_no_comma kind.Equals weight b is = refl
longer_no_comma kind.Comma weight b is = is
longer_no_comma kind.Star weight b is = refl
longer_no_comma (kind.Opening pool) weight b is = refl
longer_no_comma (kind.Closing pool) weight b is = refl
longer_no_comma kind.String weight b is = refl
longer_no_comma kind.Bad weight b is = refl

begun_no_comma : (b : ℕ) → is_comma (first_kind b) ≡ false
begun_no_comma b = by_test (is_letter (capital b)) _ _
  where
    by_test : (test : Bool) (x : ℕ) (y : Number) → is_comma (if test then kind.Name x else kind.Number y) ≡ false
    by_test true x y = refl
    by_test false x y = refl

run_no_comma : (first : ℕ) (others : List (ℕ × ℕ)) → is_comma (run_of first others) ≡ false
run_no_comma first [] = begun_no_comma first
run_no_comma first (x ∷ older) = longer_no_comma (run_of first older) (weight_after older) x.0 (run_no_comma first older)

name_again : (k : Kind) (one two three : Bool) → head_again k (if one then heads.Text else if two then heads.Listing else if three then heads.Listing else heads.One) ≡ head_of_one k
name_again k true two three = refl
name_again k false true three = refl
name_again k false false true = refl
name_again k false false false = refl

one_again : (k again : Kind) → head_again again (head_of_one k) ≡ head_of_one again
one_again (kind.Name name) again = name_again again _ _ _
one_again (kind.Number n) again = refl
one_again (kind.Character c) again = refl
one_again kind.Here again = refl
one_again (kind.Operator sign) again = refl
one_again kind.Equals again = refl
one_again kind.Comma again = refl
one_again kind.Star again = refl
one_again (kind.Opening pool) again = refl
one_again (kind.Closing pool) again = refl
one_again kind.String again = refl
one_again kind.Bad again = refl

-- the newest token is another one
again_is : (k again : Kind) (h : Head) → is_comma k ≡ false → is_comma again ≡ false → head_again again (head_with k h) ≡ head_with again h
again_is k again heads.Empty plain other = one_again k again
again_is k again heads.One plain other = rw (plain, other) refl
again_is k again heads.Text plain other = rw (plain, other) refl
again_is k again heads.Listing plain other = rw (plain, other) refl
again_is k again heads.More plain other = refl

-- ## One byte more of the newest piece

abbrev run_weight : Open → ℕ
run_weight following.Start = 0
run_weight following.Blank = 0
run_weight (following.Run weight) = weight
run_weight following.Term = 0
run_weight following.Quote = 0
run_weight (following.String delimiter) = 0
run_weight following.Comment = 0
run_weight following.Title = 0

-- what a change of the last token makes of tokens
abbrev Changes : List Token → List Token → Kind → ℕ → Type 0
Changes tokens new k end =
    (before : List Token) (last : Token) → tokens ≡ before ++ last ∷ []
    → new ≡ before ++ record { kind = k; is_spaced = last.is_spaced; start = last.start; end = end } ∷ []

module _ (newest : Piece) (older : List Piece) (b at : ℕ) where
  -- the newest piece's token, with this kind and end
  abbrev token : Kind → ℕ → Token
  token k end = record { kind = k; is_spaced = is_blank (open_of older) && true; start = limit newest.first.1; end = end }

  abbrev run : Kind
  run = run_of newest.first.0 newest.others

  abbrev last_end : ℕ
  last_end = limit (end_after newest.first.1 newest.others)

  run_is : newest.shape ≡ shape.Run → present_of (newest ∷ older) ≡ record { tokens = tokens_of older ++ token run last_end ∷ []; string = string_of older; state = following.Run (weight_after newest.others); head = head_with run (head_of older) }
  run_is is = rw is refl

  pub lengthens : (weight end : ℕ) (tokens new_tokens : List Token) (string : List ℕ) (head new_head : Head) (k : Kind) → newest.shape ≡ shape.Run
      → record { tokens = tokens; string = string; state = following.Run weight; head = head } ≡ present_of (newest ∷ older)
      → ((before : List Token) (last : Token) → tokens ≡ before ++ last ∷ [] → k ≡ longer last.kind weight b)
      → Changes tokens new_tokens k end → end ≡ limit (at + 1) → new_head ≡ head_again k head
      → record { tokens = new_tokens; string = string; state = following.Run (weight / 0o100); head = new_head } ≡ present_of (grown shape.Run (b, at) newest ∷ older)
  lengthens weight end tokens new_tokens string head new_head k is old longer_is changes end_is head_is =
      let seen = old ∙ run_is is in
      let t : tokens ≡ tokens_of older ++ token run last_end ∷ [] = ap (λ (p : Present). p.tokens) seen in
      let w : weight ≡ weight_after newest.others = ap (λ (p : Present). run_weight p.state) seen in
      let k_is : k ≡ longer run (weight_after newest.others) b = longer_is (tokens_of older) (token run last_end) t ∙ ap (λ (n : ℕ). longer run n b) w in
      four (changes (tokens_of older) (token run last_end) t ∙ rw (k_is, end_is) refl) (ap (λ (p : Present). p.string) seen) (ap (λ (n : ℕ). following.Run (n / 0o100)) w)
      (head_is ∙ rw k_is (ap (head_again (longer run (weight_after newest.others) b)) (ap (λ (p : Present). p.head) seen))
      ∙ again_is run (longer run (weight_after newest.others) b) (head_of older) (run_no_comma newest.first.0 newest.others)
      (longer_no_comma run (weight_after newest.others) b (run_no_comma newest.first.0 newest.others)))

-- ## Which pieces a byte goes on with

blank_fits : (before : List Piece) (state : Open) (head : Head) (b : ℕ) → Fits (effect_of (after_blank state) head b) before
blank_fits before following.Start head b = tt
blank_fits before following.Blank head b = tt
blank_fits before (following.Run weight) head b = tt
blank_fits before following.Term head b = tt
blank_fits before following.Quote head b = tt
blank_fits before (following.String delimiter) head b = tt
blank_fits before following.Comment head b = tt
blank_fits before following.Title head b = tt

pub fits : (before : List Piece) (head : Head) (b : ℕ) → Fits (effect_of (open_of before) head b) before
fits [] head b = tt
fits (p ∷ older) head b = by_shape p.shape refl
  where
    by_shape : (s : Shape) → p.shape ≡ s → Fits (effect_of (open_by s p.first.0 p.others (open_of older)) head b) (p ∷ older)
    by_shape shape.Run is = by_test (is_letter_or_digit b)
      where
        by_test : (test : Bool) → Fits (if test then effect.Lengthens else effect.Begins (shape_of head b)) (p ∷ older)
        by_test true = record { newest = p; older = older; are = refl; is_shape = is }
        by_test false = tt
    by_shape shape.Blank is = blank_fits (p ∷ older) (open_of older) head b
    by_shape (shape.Mark k) is = by_test (takes_blank_after k)
      where
        by_test : (test : Bool) → Fits (effect_of (if test then following.Term else following.Start) head b) (p ∷ older)
        by_test true = tt
        by_test false = tt
    by_shape shape.Quote is = record { newest = p; older = older; are = refl; is_shape = is }
    by_shape shape.OpenString is = by_test (nat_eq b p.first.0)
      where
        by_test : (test : Bool) → Fits (if test then effect.Closes else effect.GoesOn) (p ∷ older)
        by_test true = record { newest = p; older = older; are = refl; is_shape = is }
        by_test false = record { newest = p; older = older; are = refl; is_shape = is }
    by_shape shape.ClosedString is = tt
    by_shape shape.Comment is = tt
    by_shape shape.Title is = tt

module _ (before : List Piece) (b at : ℕ) (old new : Present) (is : old ≡ present_of before) where
  same_effect : effect_of old.state old.head b ≡ effect_of (open_of before) (head_of before) b
  same_effect = ap (λ (p : Present). effect_of p.state p.head b) is

  pub puts_close : effect.Closes ≡ effect_of old.state old.head b
      → ((newest : Piece) (older : List Piece) → old ≡ present_of (newest ∷ older) → newest.shape ≡ shape.OpenString → new ≡ present_of (grown shape.ClosedString (b, at) newest ∷ older))
      → new ≡ present_of (with_byte (b, at) before)
  puts_close closes closed =
      let e = sym (closes ∙ same_effect) in
      let it : IsNewest shape.OpenString before = subst (λ (f : Effect). Fits f before) e (fits before (head_of before) b) in
      closed it.newest it.older (is ∙ ap present_of it.are) it.is_shape
      ∙ sym (ap (λ (l : List Piece). present_of (with_effect effect.Closes (b, at) l)) it.are)
      ∙ sym (ap (λ (f : Effect). present_of (with_effect f (b, at) before)) e)

  pub puts_character : (c : ℕ) → effect.Completes c ≡ effect_of old.state old.head b
      → ((newest : Piece) (older : List Piece) → old ≡ present_of (newest ∷ older) → newest.shape ≡ shape.Quote → new ≡ present_of (grown (shape.Mark (kind.Character c)) (b, at) newest ∷ older))
      → new ≡ present_of (with_byte (b, at) before)
  puts_character c completes completed =
      let e = sym (completes ∙ same_effect) in
      let it : IsNewest shape.Quote before = subst (λ (f : Effect). Fits f before) e (fits before (head_of before) b) in
      completed it.newest it.older (is ∙ ap present_of it.are) it.is_shape
      ∙ sym (ap (λ (l : List Piece). present_of (with_effect (effect.Completes c) (b, at) l)) it.are)
      ∙ sym (ap (λ (f : Effect). present_of (with_effect f (b, at) before)) e)
