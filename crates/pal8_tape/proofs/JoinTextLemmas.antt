-- Texts, and their bytes in order.
use Rattle.std.proofs.Common.{◌≡◌, ℕ, ◌+◌, ◌≤◌, ◌<◌, length, take, drop, get_or, suc, List, [], ◌∷◌, ◌++◌, refl, sym, ap, ◌∙◌, arith, append_assoc, length-append}
use Rattle.std.proofs.lemmas.List.{take_all, take-append-drop}
use Rattle.std.proofs.Math.Seq.{take-suc}
use Rattle.pal_lex.specs.Text.{text_from, text_of}

text_after : (bytes text : List ℕ) → text_from text bytes ≡ text_of bytes ++ text
text_after [] text = refl
text_after (b ∷ bytes) text =
    text_after bytes (b ∷ text) ∙ sym (append_assoc (text_of bytes) (b ∷ []) text) ∙ ap (λ l. l ++ text) (sym (text_after bytes (b ∷ [])))

text_on : (first later text : List ℕ) → text_from text (first ++ later) ≡ text_from (text_from text first) later
text_on [] later text = refl
text_on (b ∷ first) later text = text_on first later (b ∷ text)

-- the text of bytes after others
pub text_joined : (first later : List ℕ) → text_of (first ++ later) ≡ text_of later ++ text_of first
text_joined first later = text_on first later [] ∙ text_after later (text_of first)

-- turned twice, bytes are as they were
pub text_again : (bytes : List ℕ) → text_of (text_of bytes) ≡ bytes
text_again [] = refl
text_again (b ∷ bytes) = ap text_of (text_after bytes (b ∷ [])) ∙ text_joined (text_of bytes) (b ∷ []) ∙ ap (λ l. b ∷ l) (text_again bytes)

-- a byte more
pub next_byte : (bytes : List ℕ) (n b : ℕ) → n < length bytes → b ≡ get_or bytes n 0 → text_of (take (n + 1) bytes) ≡ b ∷ text_of (take n bytes)
next_byte bytes n b inside is =
    let next : n + 1 ≡ suc n = omega arith in
    ap (λ k. text_of (take k bytes)) next ∙ ap text_of (take-suc bytes n 0 inside) ∙ text_joined (take n bytes) (get_or bytes n 0 ∷ [])
    ∙ ap (λ c. c ∷ text_of (take n bytes)) (sym is)

-- the bytes of a text, from so many of them on
pub text_more : (bytes : List ℕ) (n : ℕ) → text_of bytes ≡ text_of (drop n bytes) ++ text_of (take n bytes)
text_more bytes n = ap text_of (sym (take-append-drop n bytes)) ∙ text_joined (take n bytes) (drop n bytes)

pub text_whole : (bytes : List ℕ) (n : ℕ) → length bytes ≤ n → text_of (take n bytes) ≡ text_of bytes
text_whole bytes n all = ap text_of (take_all n bytes all)

pub text_length : (bytes : List ℕ) → length (text_of bytes) ≡ length bytes
text_length [] = refl
text_length (b ∷ bytes) = ap length (text_after bytes (b ∷ [])) ∙ length-append (text_of bytes) (b ∷ []) ∙ ap (λ n. n + 1) (text_length bytes) ∙ omega arith
