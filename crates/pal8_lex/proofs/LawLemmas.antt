-- The laws about statements and pieces.
use Rattle.std.proofs.Common.{◌≡◌, ℕ, nat_eq, Bool, true, false, ◌&&◌, if◌then◌else◌, length, List, [], ◌∷◌, ◌++◌, refl, sym, ap, ◌∙◌}
use Rattle.pal8_lex.specs.Text.{as_read, is_dropped, live}
use Rattle.pal8_lex.specs.Rules.{effect_of, ends_after, ends_by}
use Rattle.pal8_lex.specs.Pieces.{Piece, after_blank, end_after, ends, head_by, head_of, is_blank, kind_by, kind_of, open_by, open_of, pieces, string_by, string_of, takes_blank, tokens_of, with_byte, with_effect, with_token}
use Rattle.pal8_lex.specs.Statements.{Statement, statement_of, statements, statements_of}
use Rattle.pal8_lex.specs.Steps.{Fits, IsNewest}
use Rattle.pal8_lex.specs.Laws.{StatementsStay, LinesEnd, StatementsBeginAnew, bytes_of, stretch, PiecesAreWhole, SaySame, BlanksAfterMeanNothing, BlanksAreOne, BlanksBeforeMeanNothing}
use Rattle.pal8_lex.specs.declared.rules.Head.{Head}
use Rattle.pal8_lex.specs.declared.rules.Head.TheVariants as heads
use Rattle.pal8_lex.specs.declared.rules.Open.{Open}
use Rattle.pal8_lex.specs.declared.rules.Open.TheVariants as following
use Rattle.pal8_lex.specs.declared.rules.Shape.{Shape}
use Rattle.pal8_lex.specs.declared.rules.Shape.TheVariants as shape
use Rattle.pal8_lex.specs.declared.rules.Effect.{Effect}
use Rattle.pal8_lex.specs.declared.rules.Effect.TheVariants as effect
use Rattle.pal8_lex.proofs.DraftLemmas.{fits}

-- ## Texts

-- statements with one more, if it is one
with_one : (test : Bool) (s : Statement) (older : List Statement) → (more : List Statement) × ((if test then s ∷ older else older) ≡ more ++ older)
with_one true s older = (s ∷ [], refl)
with_one false s older = ([], refl)

append_same : {A : Type 0} (xs ys zs : List A) → xs ++ ys ++ zs ≡ xs ++ (ys ++ zs)
append_same [] ys zs = refl
append_same (x ∷ xs) ys zs = ap (λ l. x ∷ l) (append_same xs ys zs)

one_more : (b : ℕ) (text : List ℕ) → (more : List Statement) × (statements (b ∷ text) ≡ more ++ statements text)
one_more b text = by_drop (is_dropped b)
  where
    by_drop : (test : Bool) → (more : List Statement) × (statements_of (if test then live text else (as_read b, length text) ∷ live text) ≡ more ++ statements text)
    by_drop true = ([], refl)
    by_drop false = with_one (ends (pieces (live text)) (as_read b)) _ (statements text)

pub statements_stay : StatementsStay
statements_stay text [] = ([], refl)
statements_stay text (b ∷ later) =
    let one = one_more b (later ++ text) in
    let rest = statements_stay text later in
    (one.0 ++ rest.0, one.1 ∙ ap (λ l. one.0 ++ l) rest.1 ∙ sym (append_same one.0 rest.0 (statements text)))

line_ends_after : (head : Head) → ends_after head 0o15 ≡ true
line_ends_after heads.Empty = refl
line_ends_after heads.One = refl
line_ends_after heads.Text = refl
line_ends_after heads.Listing = refl
line_ends_after heads.More = refl

line_ends_by : (state : Open) (head : Head) → ends_by state head 0o15 ≡ true
line_ends_by following.Start head = line_ends_after head
line_ends_by following.Blank head = line_ends_after head
line_ends_by (following.Run weight) head = line_ends_after head
line_ends_by following.Term head = line_ends_after head
line_ends_by following.Quote head = refl
line_ends_by (following.String delimiter) head = refl
line_ends_by following.Comment head = refl
line_ends_by following.Title head = refl

pub lines_end : LinesEnd
lines_end text = rw (line_ends_by (open_of (pieces (live text))) (head_of (pieces (live text)))) refl

pub statements_begin_anew : StatementsBeginAnew
statements_begin_anew [] before x is = rw is refl
statements_begin_anew (y ∷ later) before x is = ap (λ (p : List Piece). if ends p y.0 then [] else with_byte y p) (statements_begin_anew later before x is)

-- ## Pieces

effect_bytes : (f : Effect) (x : ℕ × ℕ) (before : List Piece) → Fits f before → bytes_of (with_effect f x before) ≡ x ∷ bytes_of before
effect_bytes (effect.Begins s) x before fit = refl
effect_bytes effect.Lengthens x [] fit = absurd (cc fit.are)
effect_bytes effect.Lengthens x (p ∷ older) fit = refl
effect_bytes effect.GoesOn x [] fit = absurd (cc fit.are)
effect_bytes effect.GoesOn x (p ∷ older) fit = refl
effect_bytes effect.Closes x [] fit = absurd (cc fit.are)
effect_bytes effect.Closes x (p ∷ older) fit = refl
effect_bytes (effect.Completes c) x [] fit = absurd (cc fit.are)
effect_bytes (effect.Completes c) x (p ∷ older) fit = refl

pub pieces_are_whole : PiecesAreWhole
pieces_are_whole [] = refl
pieces_are_whole (x ∷ older) = by_end (pieces_are_whole older) (ends (pieces older) x.0)
  where
    by_end : bytes_of (pieces older) ≡ stretch older → (test : Bool) → bytes_of (if test then [] else with_byte x (pieces older)) ≡ (if test then [] else x ∷ stretch older)
    by_end hyp true = refl
    by_end hyp false = effect_bytes (effect_of (open_of (pieces older)) (head_of (pieces older)) x.0) x (pieces older) (fits (pieces older) (head_of (pieces older)) x.0) ∙ ap (λ l. x ∷ l) hyp

-- ## Blanks

say_more : (later these those : List Piece) → SaySame these those → SaySame (later ++ these) (later ++ those)
say_more [] these those same = same
say_more (p ∷ later) these those same =
    let it = say_more later these those same in
    record {
      tokens = rw (it.tokens, it.state) refl;
      string = ap (string_by p.shape p.others) it.string;
      state = ap (open_by p.shape p.first.0 p.others) it.state;
      head = ap (head_by (kind_of p)) it.head;
    }

pub blanks_after : BlanksAfterMeanNothing
blanks_after later before blank is start = say_more later (blank ∷ before) before (record {
  tokens = rw is refl;
  string = rw is refl;
  state = rw (is, start) refl;
  head = rw is refl;
})

blank_twice : (state : Open) → after_blank (after_blank state) ≡ after_blank state
blank_twice following.Start = refl
blank_twice following.Blank = refl
blank_twice (following.Run weight) = refl
blank_twice following.Term = refl
blank_twice following.Quote = refl
blank_twice (following.String delimiter) = refl
blank_twice following.Comment = refl
blank_twice following.Title = refl

pub blanks_are_one : BlanksAreOne
blanks_are_one later before blank next is also = say_more later (next ∷ blank ∷ before) (blank ∷ before) (record {
  tokens = rw (is, also) refl;
  string = rw (is, also) refl;
  state = rw (is, also) (blank_twice (open_of before));
  head = rw (is, also) refl;
})

and_false : (b : Bool) → (b && false) ≡ false
and_false true = refl
and_false false = refl

pub blanks_before : BlanksBeforeMeanNothing
blanks_before later before blank next is none = say_more later (next ∷ blank ∷ before) (next ∷ before) (by_shape next.shape refl none)
  where
    by_shape : (s : Shape) → next.shape ≡ s → takes_blank s ≡ false → SaySame (next ∷ blank ∷ before) (next ∷ before)
    by_shape shape.Run same none = absurd (cc none)
    by_shape shape.Blank same none = record { tokens = rw (is, same) refl; string = rw (is, same) refl; state = rw (is, same) (blank_twice (open_of before)); head = rw (is, same) refl }
    by_shape (shape.Mark k) same none = record {
      tokens = rw (is, same, none, and_false (is_blank (after_blank (open_of before))), and_false (is_blank (open_of before))) refl;
      string = rw (is, same) refl;
      state = rw (is, same) refl;
      head = rw (is, same) refl;
    }
    by_shape shape.Quote same none = absurd (cc none)
    by_shape shape.OpenString same none = absurd (cc none)
    by_shape shape.ClosedString same none = absurd (cc none)
    by_shape shape.Comment same none = record { tokens = rw (is, same) refl; string = rw (is, same) refl; state = rw (is, same) refl; head = rw (is, same) refl }
    by_shape shape.Title same none = record { tokens = rw (is, same) refl; string = rw (is, same) refl; state = rw (is, same) refl; head = rw (is, same) refl }
