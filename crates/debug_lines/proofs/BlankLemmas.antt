-- A blank before a line keeps the texts of its words.
use Rattle.std.proofs.Common.{◌≡◌, ◌∙◌, ◌+◌, ◌-◌, ℕ, zero, suc, Bool, true, false, map, take, drop, List, [], ◌∷◌, ap, arith, refl, if◌then◌else◌}
use Rattle.debug_lines.specs.Laws.{BlankKeepsTexts}
use Rattle.debug_lines.specs.Parts.{part, text_of}
use Rattle.debug_lines.specs.Words.{is_blank, word_length, words_from}
use Rattle.debug_lines.specs.declared.parts.Part.{Part}

abbrev pub moved : Part → Part
moved it = part (it.start + 1) (it.end + 1)

moved_if : (blank : Bool) (one two one_before two_before : List Part) → one ≡ map moved one_before → two ≡ map moved two_before
    → (if blank then one else two) ≡ map moved (if blank then one_before else two_before)
moved_if true one two one_before two_before first second = first
moved_if false one two one_before two_before first second = second

moved_words : (inside place : ℕ) (text : List ℕ) → words_from inside (place + 1) text ≡ map moved (words_from inside place text)
moved_words zero place [] = refl
moved_words (suc inside) place [] = refl
moved_words zero place (byte ∷ bytes) =
    let length = word_length (byte ∷ bytes) in
    moved_if (is_blank byte) (words_from 0 (place + 1 + 1) bytes) (part (place + 1) (place + 1 + length) ∷ words_from (length - 1) (place + 1 + 1) bytes)
    (words_from 0 (place + 1) bytes) (part place (place + length) ∷ words_from (length - 1) (place + 1) bytes)
    (moved_words 0 (place + 1) bytes)
    (ap (λ end. part (place + 1) end ∷ words_from (length - 1) (place + 1 + 1) bytes) (omega arith)
    ∙ ap (λ words. part (place + 1) (place + length + 1) ∷ words) (moved_words (length - 1) (place + 1) bytes))
moved_words (suc inside) place (byte ∷ bytes) = moved_words inside (place + 1) bytes

next : (n : ℕ) → n + 1 ≡ suc n
next n = omega arith

moved_text : (blank : ℕ) (line : List ℕ) (start end : ℕ) → text_of (blank ∷ line) (part (start + 1) (end + 1)) ≡ text_of line (part start end)
moved_text blank line start end =
    ap (λ count. take count (drop (start + 1) (blank ∷ line))) (omega arith)
    ∙ ap (λ place. take (end - start) (drop place (blank ∷ line))) (next start)

moved_texts : (blank : ℕ) (line : List ℕ) (words : List Part) → map (text_of (blank ∷ line)) (map moved words) ≡ map (text_of line) words
moved_texts blank line [] = refl
moved_texts blank line (word ∷ words) =
    ap (λ first. first ∷ map (text_of (blank ∷ line)) (map moved words)) (moved_text blank line word.start word.end)
    ∙ ap (λ rest. text_of line word ∷ rest) (moved_texts blank line words)

pub blank_keeps_texts : BlankKeepsTexts
blank_keeps_texts blank line is =
    rw is (ap (map (text_of (blank ∷ line))) (moved_words 0 0 line) ∙ moved_texts blank line (words_from 0 0 line))
