-- Words that begin at a place.
use Rattle.std.proofs.Common.{◌≡◌, ◌∙◌, ◌+◌, ◌-◌, ◌<◌, ◌++◌, ℕ, zero, suc, true, false, List, [], ◌∷◌, length, drop, get_or, arith, ap, sym, refl}
use Rattle.std.proofs.Math.Seq.{append_snoc, drop-cons}
use Rattle.std.proofs.lemmas.List.{drop-drop}
use Rattle.debug_lines.specs.Parts.{part}
use Rattle.debug_lines.specs.declared.parts.Part.{Part}
use Rattle.debug_lines.specs.Words.{words_from, word_length, is_blank}

-- the bytes of a word are passed
pub passed : (inside place : ℕ) (text : List ℕ) → words_from inside place text ≡ words_from 0 (place + inside) (drop inside text)
passed zero place text = ap (λ at. words_from 0 at text) (omega arith)
passed (suc inside) place [] = refl
passed (suc inside) place (byte ∷ bytes) =
    passed inside (place + 1) bytes ∙ ap (λ at. words_from 0 at (drop inside bytes)) (omega arith)

-- the words after one of so many bytes
after_word : (place count whole : ℕ) (rest : List ℕ) → suc count ≡ whole
    → part place (place + whole) ∷ words_from (whole - 1) (place + 1) rest
    ≡ part place (place + suc count) ∷ words_from 0 (place + suc count) (drop count rest)
after_word place count whole rest is =
    ap (λ n. part place (place + n) ∷ words_from (n - 1) (place + 1) rest) (sym is)
    ∙ ap (λ n. part place (place + suc count) ∷ words_from n (place + 1) rest) (omega arith)
    ∙ ap (λ words. part place (place + suc count) ∷ words) (passed count (place + 1) rest)
    ∙ ap (λ at. part place (place + suc count) ∷ words_from 0 at (drop count rest)) (omega arith)

-- a byte that is no blank begins a word
next_word : (place byte count : ℕ) (rest : List ℕ) → is_blank byte ≡ false → suc count ≡ word_length (byte ∷ rest)
    → words_from 0 place (byte ∷ rest) ≡ part place (place + suc count) ∷ words_from 0 (place + suc count) (drop count rest)
next_word place byte count rest other is = rw other (after_word place count (word_length (byte ∷ rest)) rest is)

-- and so at a place of a line
pub word_at : (line : List ℕ) (place count : ℕ) → place < length line → is_blank (get_or line place 0) ≡ false
    → count ≡ word_length (drop place line) → 0 < count
    → words_from 0 place (drop place line) ≡ part place (place + count) ∷ words_from 0 (place + count) (drop (place + count) line)
word_at line place zero inside other is least = absurd (omega (arith, least))
word_at line place (suc count) inside other is least =
    let cut = drop-cons line place 0 inside in
    ap (λ text. words_from 0 place text) cut
    ∙ next_word place (get_or line place 0) count (drop (suc place) line) other (is ∙ ap word_length cut)
    ∙ ap (λ text. part place (place + suc count) ∷ words_from 0 (place + suc count) text)
    (drop-drop count (suc place) line ∙ ap (λ n. drop n line) (omega arith))

-- a word is put after those before it
pub put_word : {A : Type 0} (before after rest : List A) (word : A) → after ≡ before ++ (word ∷ []) → before ++ word ∷ rest ≡ after ++ rest
put_word before after rest word is = sym (append_snoc before word rest) ∙ ap (λ words. words ++ rest) (sym is)
