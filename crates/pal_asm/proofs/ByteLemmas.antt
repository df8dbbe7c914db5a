-- Bytes of a text, from a place on.
use Rattle.std.proofs.Common.{◌≡◌, ◌∙◌, ℕ, ◌+◌, ◌<◌, ◌≤◌, suc, List, [], ◌∷◌, ◌++◌, length, take, drop, get_or, refl, ap, sym, subst, arith, append_assoc}
use Rattle.std.proofs.Math.Seq.{take-suc, take-add}
use Rattle.std.proofs.lemmas.List.{take-append-drop, take_all}
use Rattle.pal_lex.specs.Text.{text_from}
use Rattle.pal_lex.specs.Statements.{statements}
use Rattle.pal_lex.specs.Reading.{HasRead, ReadsOn}
use Rattle.pal_lex.specs.Progress as lex

-- more bytes stand before a text, which has its newest first
pub from_after : (bytes text : List ℕ) → (later : List ℕ) × (text_from text bytes ≡ later ++ text)
from_after [] text = ([], refl)
from_after (b ∷ bytes) text =
    let rest = from_after bytes (b ∷ text) in
    (rest.0 ++ b ∷ [], rest.1 ∙ sym (append_assoc rest.0 (b ∷ []) text))

pub from_both : (bytes others text : List ℕ) → text_from text (bytes ++ others) ≡ text_from (text_from text bytes) others
from_both [] others text = refl
from_both (b ∷ bytes) others text = from_both bytes others (b ∷ text)

pub following_others : (bytes here before : List ℕ) → text_from (here ++ before) bytes ≡ text_from here bytes ++ before
following_others [] here before = refl
following_others (b ∷ bytes) here before = following_others bytes (b ∷ here) before

-- a text with so many bytes, and with those between this and another place
pub up_to : (here bytes : List ℕ) (i n : ℕ) → text_from here (take (i + n) bytes) ≡ text_from (text_from here (take i bytes)) (take n (drop i bytes))
up_to here bytes i n = ap (text_from here) (take-add i n bytes) ∙ from_both (take i bytes) (take n (drop i bytes)) here

pub one_more : (here bytes : List ℕ) (i b : ℕ) → i < length bytes → b ≡ get_or bytes i 0 → text_from here (take (i + 1) bytes) ≡ b ∷ text_from here (take i bytes)
one_more here bytes i b inside is =
    ap (λ n. text_from here (take n bytes)) (sym (suc_is i)) ∙ ap (text_from here) (take-suc bytes i 0 inside) ∙ from_both (take i bytes) (get_or bytes i 0 ∷ []) here
    ∙ ap (λ c. c ∷ text_from here (take i bytes)) (sym is)
  where
    suc_is : (n : ℕ) → suc n ≡ n + 1
    suc_is n = omega arith

pub the_rest : (here bytes : List ℕ) (i : ℕ) → text_from here bytes ≡ text_from (text_from here (take i bytes)) (drop i bytes)
the_rest here bytes i = ap (text_from here) (sym (take-append-drop i bytes)) ∙ from_both (take i bytes) (drop i bytes) here

pub all_taken : (here bytes : List ℕ) (i : ℕ) → length bytes ≤ i → text_from here (take i bytes) ≡ text_from here bytes
all_taken here bytes i long = ap (text_from here) (take_all i bytes long)

-- the lexer took bytes that end no statement
pub read_more : (seam : ℕ) (before here bytes rest : List ℕ) (offset count : ℕ) (lexer : lex.Progress) → rest ≡ drop offset bytes → ReadsOn seam (text_from here (take offset bytes) ++ before) rest count lexer
    → HasRead lexer seam (text_from here (take (offset + count) bytes) ++ before)
    × (statements (text_from here (take (offset + count) bytes) ++ before) ≡ statements (text_from here (take offset bytes) ++ before))
read_more seam before here bytes rest offset count lexer following reads = (subst (HasRead lexer seam) is reads.2, ap statements (sym is) ∙ reads.1)
  where
    is : text_from (text_from here (take offset bytes) ++ before) (take count rest) ≡ text_from here (take (offset + count) bytes) ++ before
    is =
        ap (λ l. text_from (text_from here (take offset bytes) ++ before) (take count l)) following
        ∙ following_others (take count (drop offset bytes)) (text_from here (take offset bytes)) before
        ∙ ap (λ l. l ++ before) (sym (up_to here bytes offset count))
