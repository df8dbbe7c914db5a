-- Lines of a PAL8 text that end with an octal number.
use Rattle.std.proofs.Common.{◌≡◌, ℕ, true, false, ◌&&◌, length, suc, List, [], ◌∷◌, ◌++◌, refl, ap, ◌∙◌}
use Rattle.pal_lex.specs.Text.{limit}
use Rattle.pal8_lex.specs.Text.{as_read, capital, is_dropped, line_after, live}
use Rattle.pal8_lex.specs.Kinds.{head_with}
use Rattle.pal8_lex.specs.Rules.{effect_of, ends_after, ends_by, is_end, shape_of_byte}
use Rattle.pal8_lex.specs.Runs.{longer_name, longer_number, run_of, weight_after}
use Rattle.pal8_lex.specs.Pieces.{Piece, end_after, ends, head_of, is_blank, open_of, pieces, string_of, tokens_of, with_byte}
use Rattle.pal8_lex.specs.declared.tokens.Kind.TheVariants as kind
use Rattle.pal8_lex.specs.declared.tokens.Number as number
use Rattle.pal8_lex.specs.declared.rules.End.TheVariants as byte
use Rattle.pal8_lex.specs.declared.rules.Head.{Head}
use Rattle.pal8_lex.specs.declared.rules.Head.TheVariants as heads
use Rattle.pal8_lex.specs.declared.rules.Open.{Open}
use Rattle.pal8_lex.specs.declared.rules.Open.TheVariants as following
use Rattle.pal8_lex.specs.declared.rules.Shape.TheVariants as shape
use Rattle.pal8_lex.specs.declared.rules.Effect.TheVariants as effect
use Rattle.pal8_asm.specs.Sources.{Source, statements}
use Rattle.pal8_source.proofs.DigitLemmas.{IsOctal}

-- a text ends in these pieces after these statements
pub record Reaches (text : List ℕ) (p : List Piece) (s : Source) : Type 0 where
  pub pieces_are : pieces (live text) ≡ p
  pub statements_are : statements text ≡ s

-- a byte more that ends no statement
pub goes_on : (text : List ℕ) (b : ℕ) (p : List Piece) (s : Source) → is_dropped b ≡ false → as_read b ≡ b → ends p b ≡ false
    → Reaches text p s → Reaches (b ∷ text) (with_byte (b, length text) p) s
goes_on text b p s kept read stays is = record {
  pieces_are = rw (kept, read, is.pieces_are, stays) refl;
  statements_are = rw (kept, read, is.pieces_are, stays) is.statements_are;
}

-- ## Numbers

abbrev pub run : ℕ × ℕ → List (ℕ × ℕ) → Piece
run first others = record { shape = shape.Run; first = first; others = others }

-- a text ends in a number with this octal value, after pieces and statements
pub record InNumber (text : List ℕ) (older : List Piece) (value : ℕ) (s : Source) : Type 0 where
  pub first : ℕ × ℕ
  pub others : List (ℕ × ℕ)
  pub n : number.Number
  pub reaches : Reaches text (run first others ∷ older) s
  pub is_number : run_of first.0 others ≡ kind.Number n
  pub octal : n.octal ≡ value

-- a number may begin after these pieces, and go on
pub record TakesNumber (p : List Piece) : Type 0 where
  pub still : (c : ℕ) → ends p c ≡ is_end c
  pub begins : (c : ℕ) → effect_of (open_of p) (head_of p) c ≡ effect.Begins (shape_of_byte c)
  pub goes : (n : number.Number) (c : ℕ) → ends_after (head_with (kind.Number n) (head_of p)) c ≡ is_end c

pub begins_number : (text : List ℕ) (c : ℕ) (p : List Piece) (s : Source) → IsOctal c → TakesNumber p → Reaches text p s
    → InNumber (c ∷ text) p (longer_number 8 0 (capital c)) s
begins_number text c p s digit takes is =
    let stays : ends p c ≡ false = takes.still c ∙ digit.ends in
    record {
      first = (c, length text);
      others = [];
      reaches = record {
        pieces_are = rw (digit.dropped, digit.read, is.pieces_are, stays, takes.begins c, digit.coded) refl;
        statements_are = rw (digit.dropped, digit.read, is.pieces_are, stays) is.statements_are;
      };
      n = record { spelling = longer_name 0 0o10000000000 (capital c); octal = longer_number 8 0 (capital c); decimal = longer_number 10 0 (capital c) };
      is_number = rw digit.letter refl;
      octal = refl;
    }

pub lengthens_number : (text : List ℕ) (c value : ℕ) (p : List Piece) (s : Source) → IsOctal c → TakesNumber p → InNumber text p value s
    → InNumber (c ∷ text) p (longer_number 8 value (capital c)) s
lengthens_number text c value p s digit takes is =
    let head : head_of (run is.first is.others ∷ p) ≡ head_with (kind.Number is.n) (head_of p) = rw is.is_number refl in
    let stays : ends (run is.first is.others ∷ p) c ≡ false = ap (λ h. ends_after h c) head ∙ takes.goes is.n c ∙ digit.ends in
    record {
      first = is.first;
      others = (c, length text) ∷ is.others;
      reaches = record {
        pieces_are = rw (digit.dropped, digit.read, is.reaches.pieces_are, stays, digit.coded) refl;
        statements_are = rw (digit.dropped, digit.read, is.reaches.pieces_are, stays) is.reaches.statements_are;
      };
      n = record {
        spelling = longer_name is.n.spelling (weight_after is.others) (capital c);
        octal = longer_number 8 is.n.octal (capital c);
        decimal = longer_number 10 is.n.decimal (capital c);
      };
      is_number = rw is.is_number refl;
      octal = ap (λ v. longer_number 8 v (capital c)) is.octal;
    }

-- ## Ends of lines

line_ends_after : (head : Head) → ends_after head 0o15 ≡ true
line_ends_after heads.Empty = refl
line_ends_after heads.One = refl
line_ends_after heads.Text = refl
line_ends_after heads.Listing = refl
line_ends_after heads.More = refl

line_ends_by : (state : Open) (head : Head) → ends_by state head 0o15 ≡ true
line_ends_by following.Start head = line_ends_after head
line_ends_by following.Blank head = line_ends_after head
line_ends_by (following.Run weight) head = line_ends_after head
line_ends_by following.Term head = line_ends_after head
line_ends_by following.Quote head = refl
line_ends_by (following.String delimiter) head = refl
line_ends_by following.Comment head = refl
line_ends_by following.Title head = refl

-- a line with such a number has ended
pub record EndsNumber (text : List ℕ) (older : List Piece) (value : ℕ) (s : Source) : Type 0 where
  pub line : ℕ
  pub at : ℕ
  pub start : ℕ
  pub end : ℕ
  pub n : number.Number
  pub octal : n.octal ≡ value
  pub reaches : Reaches text [] (record {
    line = line;
    at = at;
    tokens = tokens_of older ++ record { kind = kind.Number n; is_spaced = is_blank (open_of older) && true; start = start; end = end } ∷ [];
    string = string_of older;
    is_cut = false;
    end = byte.Line;
  } ∷ s)

pub ends_number : (text : List ℕ) (value : ℕ) (p : List Piece) (s : Source) → InNumber text p value s → EndsNumber (0o12 ∷ 0o15 ∷ text) p value s
ends_number text value p s is =
    let whole = run is.first is.others ∷ p in
    let ended = line_ends_by (open_of whole) (head_of whole) in
    record {
      line = line_after (live text);
      at = limit (suc (length text));
      start = limit is.first.1;
      end = limit (end_after is.first.1 is.others);
      n = is.n;
      octal = is.octal;
      reaches = record {
        pieces_are = rw (is.reaches.pieces_are, ended) refl;
        statements_are = rw (is.reaches.pieces_are, ended, is.is_number, is.reaches.statements_are) refl;
      };
    }
