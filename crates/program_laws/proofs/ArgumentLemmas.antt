-- The line of an argument that is no text is one.
use Rattle.std.proofs.Common.{◌≡◌, ◌<◌, ◌/◌, ◌%◌, ◌==◌, ℕ, zero, suc, Bool, true, false, if◌then◌else◌, nat_le, nat_lt, List, [], ◌∷◌, ◌++◌, refl, ap, arith, codes, decimal, inl, inr}
use Rattle.std.specs.Str.{IsAscii, IsUtf8}
use Rattle.std.specs.Fmt.{digit_glyph, digits, digits_onto}
use Rattle.std.specs.List.{list_all}
use Rattle.std.proofs.lemmas.Bool.{and_parts, ltb-true}
use Rattle.std.proofs.lemmas.Str.{IsAscii-append, IsUtf8-from_ascii}
use Rattle.std.proofs.lemmas.Str.Ascii.{IsAscii-nil, IsAscii-cons}
use Rattle.clap.specs.Words.{Text}
use Rattle.hosts.specs.Event.{Event, tell_call}
use Rattle.hosts.specs.Streams.{errors}
use Rattle.shown_text.specs.Laws.{QuotedIsGraphic, are_graphic, is_graphic}
use Rattle.shown_text.specs.Showing.{with_quotes}
use Rattle.outcome.specs.Notes.{plain_text}
use Rattle.outcome.specs.declared.endings.Ending.TheVariants.{Fault, Misuse}
use Rattle.outcome.specs.declared.notes.PlainNote.TheVariants.{NoText}
use Rattle.refusals.specs.declared.faults.SessionFault.TheVariants.{Memory}
use Rattle.program.specs.GivenWords.{LosesWord, RefusesWord, ShowsWord, argument_line}
use Rattle.program_laws.specs.Ends.{HasTold}

-- ## Texts of ASCII

record IsPlain (text : List ℕ) : Type 0 where
  ascii : IsAscii text

plain-nil : IsPlain []
plain-nil = record { ascii = IsAscii-nil }

plain-cons : (byte : ℕ) (bytes : List ℕ) → byte < 128 → IsPlain bytes → IsPlain (byte ∷ bytes)
plain-cons byte bytes low is = record { ascii = IsAscii-cons byte bytes low is.ascii }

plain-append : (one other : List ℕ) → IsPlain one → IsPlain other → IsPlain (one ++ other)
plain-append one other p q = record { ascii = IsAscii-append one other p.ascii q.ascii }

-- a text that is spelled out
plain : (text : List ℕ) → list_all (λ byte. nat_lt byte 128) text ≡ true → IsPlain text
plain [] is = plain-nil
plain (byte ∷ bytes) is =
    let two = and_parts (nat_lt byte 128) (list_all (λ byte. nat_lt byte 128) bytes) is in
    plain-cons byte bytes (ltb-true byte 128 two.0) (plain bytes two.1)

glyph-low : (n : ℕ) → digit_glyph false (n % 10) < 128
glyph-low n = grind arith

either : (is_one : Bool) (one other : List ℕ) → IsPlain one → IsPlain other → IsPlain (if is_one then one else other)
either true one other p q = p
either false one other p q = q

digits-plain : (most n : ℕ) (text : List ℕ) → IsPlain text → IsPlain (digits_onto most 10 false n text)
digits-plain zero n text is = is
digits-plain (suc most) n text is =
    either (n / 10 == 0) (digit_glyph false (n % 10) ∷ text) (digits_onto most 10 false (n / 10) (digit_glyph false (n % 10) ∷ text)) (plain-cons (digit_glyph false (n % 10)) text (glyph-low n) is)
    (digits-plain most (n / 10) (digit_glyph false (n % 10) ∷ text) (plain-cons (digit_glyph false (n % 10)) text (glyph-low n) is))

decimal-plain : (n : ℕ) → IsPlain (decimal n)
unfolding digits
decimal-plain n = digits-plain 64 n [] plain-nil

graphic-low : (first character : ℕ) → is_graphic first character ≡ true → character < 128
graphic-low first character is =
    let low = ltb-true character 0o177 (and_parts (nat_le first character) (nat_lt character 0o177) is).1 in
    omega (arith, low)

graphic-plain : (first : ℕ) (text : List ℕ) → are_graphic first text ≡ true → IsPlain text
graphic-plain first [] is = plain-nil
graphic-plain first (byte ∷ bytes) is =
    let two = and_parts (is_graphic first byte) (are_graphic first bytes) is in
    plain-cons byte bytes (graphic-low first byte two.0) (graphic-plain first bytes two.1)

-- ## The line

line-is-text : QuotedIsGraphic → (place : ℕ) (word : Text) → IsUtf8 (argument_line place word)
line-is-text law place word = IsUtf8-from_ascii (argument_line place word) (plain-append _ (0o12 ∷ [])
    (plain-append _ (codes ": a file is opened by a name of UTF-8 text alone")
    (plain-append _ (with_quotes word)
    (plain-append _ (codes " is ")
    (plain-append (codes "note: argument ") (decimal place) (plain (codes "note: argument ") refl) (decimal-plain place))
    (plain (codes " is ") refl))
    (graphic-plain _ (with_quotes word) (law word)))
    (plain (codes ": a file is opened by a name of UTF-8 text alone") refl))
    (plain (0o12 ∷ []) refl)).ascii

no-memory : Misuse ≡ Fault Memory → ⊥
no-memory is = cc

shown : QuotedIsGraphic → (place : ℕ) (word : Text) (ok : Bool) (old new : List Event) → ShowsWord place word (tell_call ok (plain_text NoText) ∷ old) Misuse new → HasTold (argument_line place word) old new
shown law place word ok old new (inl lacks) = absurd (no-memory lacks.0)
shown law place word ok old new (inr (is, inl (utf8, taken, so))) = ([], (ok, plain_text NoText) ∷ [], taken, ap errors so)
shown law place word ok old new (inr (is, inr (not_utf8, so))) = absurd (not_utf8 (line-is-text law place word))

refused : QuotedIsGraphic → (place : ℕ) (word : Text) (old new : List Event) → RefusesWord place word old Misuse new → HasTold (argument_line place word) old new
refused law place word old new (inl lacks) = absurd (no-memory lacks.0)
refused law place word old new (inr (ok, shows)) = shown law place word ok old new shows

pub loses : QuotedIsGraphic → (place : ℕ) (word : Text) (old new : List Event) → LosesWord place word old Misuse new → (IsUtf8 word → ⊥) × HasTold (argument_line place word) old new
loses law place word old new (inl lacks) = absurd (no-memory lacks.0)
loses law place word old new (inr (no_text, refuses)) = (no_text, refused law place word old new refuses)
