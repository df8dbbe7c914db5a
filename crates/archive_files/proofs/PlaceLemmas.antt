-- Places in a text.
use Rattle.std.proofs.Common.{◌≡◌, ◌∙◌, ℕ, ◌+◌, ◌&&◌, Bool, true, false, not, nat_eq, List, [], ◌∷◌, ◌++◌, length, refl, sym, ap, arith, append_assoc, append-nil}
use Rattle.std.proofs.lemmas.Bool.{and_parts}
use Rattle.std.proofs.lemmas.List.{length-append}
use Rattle.char_pack.specs.Texts.{is_storable, may_stand}
use Rattle.archive_files.specs.HostTexts.{lines_text, is_unbroken, AreUnbroken, IsPlaceAfter, IsBadAt}
use Rattle.archive_files.specs.Steps.{IsSoFar}
use Rattle.archive_files.specs.declared.places.TextPlace.{TextPlace}

-- ## One byte more

lines-byte : (lines : List (List ℕ)) (begun : List ℕ) (byte : ℕ)
    → lines_text (10 ∷ []) lines begun ++ byte ∷ [] ≡ lines_text (10 ∷ []) lines (begun ++ byte ∷ [])
lines-byte [] begun byte = refl
lines-byte (line ∷ lines) begun byte =
    append_assoc line (10 ∷ lines_text (10 ∷ []) lines begun) (byte ∷ []) ∙ ap (λ l. line ++ 10 ∷ l) (lines-byte lines begun byte)

lines-end : (lines : List (List ℕ)) (begun : List ℕ)
    → lines_text (10 ∷ []) lines begun ++ 10 ∷ [] ≡ lines_text (10 ∷ []) (lines ++ begun ∷ []) []
lines-end [] begun = refl
lines-end (line ∷ lines) begun =
    append_assoc line (10 ∷ lines_text (10 ∷ []) lines begun) (10 ∷ []) ∙ ap (λ l. line ++ 10 ∷ l) (lines-end lines begun)

unbroken-byte : (begun : List ℕ) (byte : ℕ) → is_unbroken begun ≡ true → nat_eq byte 10 ≡ false → is_unbroken (begun ++ byte ∷ []) ≡ true
unbroken-byte [] byte is apart = rw apart refl
unbroken-byte (first ∷ begun) byte is apart =
    let parts = and_parts (not (nat_eq first 10)) (is_unbroken begun) is in
    rw parts.0 (unbroken-byte begun byte parts.1 apart)

unbroken-line : (lines : List (List ℕ)) (line : List ℕ) → AreUnbroken lines → is_unbroken line ≡ true → AreUnbroken (lines ++ line ∷ [])
unbroken-line [] line are is = (is, tt)
unbroken-line (first ∷ lines) line are is = (are.0, unbroken-line lines line are.1 is)

one-more : {X : Type 0} (xs : List X) (x : X) (n : ℕ) → n ≡ length xs + 1 → n + 1 ≡ length (xs ++ x ∷ []) + 1
one-more xs x n is = let size = length-append xs (x ∷ []) in omega (arith, size, is)

pub following-byte : (before : List ℕ) (byte : ℕ) (at new : TextPlace) → nat_eq byte 10 ≡ false → new.line ≡ at.line → new.byte ≡ at.byte + 1
    → IsPlaceAfter before at → IsPlaceAfter (before ++ byte ∷ []) new
following-byte before byte at new apart line_is byte_is is = record {
  lines = is.lines;
  begun = is.begun ++ byte ∷ [];
  before_are = ap (λ l. l ++ byte ∷ []) is.before_are ∙ lines-byte is.lines is.begun byte;
  unbroken = is.unbroken;
  in_line = unbroken-byte is.begun byte is.in_line apart;
  line_is = line_is ∙ is.line_is;
  byte_is = byte_is ∙ one-more is.begun byte at.byte is.byte_is;
}

pub following-lf : (before : List ℕ) (at new : TextPlace) → new.line ≡ at.line + 1 → new.byte ≡ 1
    → IsPlaceAfter before at → IsPlaceAfter (before ++ 10 ∷ []) new
following-lf before at new line_is byte_is is = record {
  lines = is.lines ++ is.begun ∷ [];
  begun = [];
  before_are = ap (λ l. l ++ 10 ∷ []) is.before_are ∙ lines-end is.lines is.begun;
  unbroken = unbroken-line is.lines is.begun is.unbroken is.in_line;
  in_line = refl;
  line_is = line_is ∙ one-more is.lines is.begun at.line is.line_is;
  byte_is = byte_is;
}

-- ## The text so far

storable-append : (before following : List ℕ) → is_storable (before ++ following) ≡ (is_storable before && is_storable following)
storable-append [] following = refl
storable-append (byte ∷ before) following = go (may_stand byte) (storable-append before following)
  where
    go : (b : Bool) → is_storable (before ++ following) ≡ (is_storable before && is_storable following)
        → (b && is_storable (before ++ following)) ≡ ((b && is_storable before) && is_storable following)
    go true rest = rest
    go false rest = refl

pub so-far-begin : (bytes : List ℕ) (at : TextPlace) → at.line ≡ 1 → at.byte ≡ 1 → IsSoFar bytes bytes at
so-far-begin bytes at line byte = record {
  before = [];
  bytes_are = refl;
  storable = refl;
  place = record { lines = []; begun = []; before_are = refl; unbroken = tt; in_line = refl; line_is = line; byte_is = byte };
}

pub so-far-more : (bytes others : List ℕ) (byte : ℕ) (at new : TextPlace) → may_stand byte ≡ true → (is : IsSoFar bytes (byte ∷ others) at)
    → (IsPlaceAfter is.before at → IsPlaceAfter (is.before ++ byte ∷ []) new) → IsSoFar bytes others new
so-far-more bytes others byte at new stands is on = record {
  before = is.before ++ byte ∷ [];
  bytes_are = is.bytes_are ∙ sym (append_assoc is.before (byte ∷ []) others);
  storable = storable-append is.before (byte ∷ []) ∙ rw (is.storable, stands) refl;
  place = on is.place;
}

pub so-far-bad : (bytes others : List ℕ) (byte : ℕ) (at : TextPlace) → may_stand byte ≡ false → IsSoFar bytes (byte ∷ others) at
    → (is_storable bytes ≡ false) × IsBadAt bytes at
so-far-bad bytes others byte at bad is = (
  ap is_storable is.bytes_are ∙ storable-append is.before (byte ∷ others) ∙ rw (is.storable, bad) refl,
  record {
    before = is.before;
    bad = byte;
    following = others;
    bytes_are = is.bytes_are;
    storable = is.storable;
    is_bad = bad;
    place = is.place;
  },
)

pub so-far-all : (bytes : List ℕ) (at : TextPlace) → IsSoFar bytes [] at → is_storable bytes ≡ true
so-far-all bytes at is = ap is_storable (is.bytes_are ∙ append-nil is.before) ∙ is.storable
