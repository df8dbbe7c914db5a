-- A text with no fault has a word.
use Rattle.std.proofs.Common.{◌≡◌, ℕ, ◌<◌, Bool, true, false, if◌then◌else◌, Option, Some, None, Ok, Err, length, List, [], ◌∷◌, refl, ap, sym, subst, ◌∙◌, arith, length-append}
use Rattle.pal_lex.specs.Statements.{statements}
use Rattle.pal_lex.specs.declared.phrases.Body.{Body}
use Rattle.pal_lex.specs.declared.phrases.Body.TheVariants.{Nothing, Origin, Define, Decimal, Octal, Pause, Field, Reference, Word}
use Rattle.pal_lex.specs.declared.phrases.Part.{Part}
use Rattle.pal_asm.specs.Expressions.{Meanings, address_value}
use Rattle.pal_asm.specs.Places.{Source, is_word, values, place_at}
use Rattle.pal_asm.specs.Words.{offset_of, offset_to, with_offset, body_word, cell_at, with_pair, word_values, pairs_by}
use Rattle.pal_asm.specs.Faults.{at_line, address_fault, no_offset, out_of_reach, word_fault, words_fault, has_word, last_line, no_word}
use Rattle.pal_asm.specs.Laws.{HasWords}
use Rattle.pal_faults.specs.declared.assembling.AsmFault.TheVariants.{At}
use Rattle.pal_faults.specs.declared.assembling.Code.TheVariants.{NW}
use Rattle.pal_asm.proofs.WholeLemmas.{first_none, second_none, some_none, valued}

-- a value that is there
abbrev Is : Option ℕ → Type 0
Is value = (v : ℕ) × (value ≡ Some v)

address_is : (known : Meanings) (place : ℕ) (address : Option (List Part)) → address_fault known place address ≡ None → Is (address_value known place address)
address_is known place None none = (0, refl)
address_is known place (Some e) none = valued known place e none

offset_is : (offset : Option ℕ) → no_offset offset ≡ None → Is offset
offset_is None none = some_none none
offset_is (Some o) none = (o, refl)

-- a word with no fault is there
word_is : (known : Meanings) (place : ℕ) (body : Body) → is_word body ≡ true → word_fault known place body ≡ None → Is (body_word known place body)
word_is known place Nothing word none = absurd cc
word_is known place (Origin e) word none = absurd cc
word_is known place (Define name e) word none = absurd cc
word_is known place Decimal word none = absurd cc
word_is known place Pause word none = absurd cc
word_is known place Octal word none = absurd cc
word_is known place (Field e) word none = absurd cc
word_is known place (Reference operation indirect address) word none =
    let at = address_is known place address (first_none _ _ none) in
    let reached : no_offset (offset_of place at.0) ≡ None = ap (out_of_reach place) (sym at.1) ∙ second_none _ _ none in
    let offset = offset_is (offset_of place at.0) reached in
    (_, ap (λ a. with_offset operation indirect (offset_to place a)) at.1 ∙ ap (with_offset operation indirect) offset.1)
word_is known place (Word e) word none = valued known place e none

one_more : (pairs : List (ℕ × ℕ)) (cell : ℕ) (word : Option ℕ) → Is word → 0 < length (with_pair pairs cell word)
one_more pairs cell word is =
    subst (λ w. 0 < length (with_pair pairs cell w)) (sym is.1) (omega (arith, length-append pairs ((cell, is.0) ∷ [])))

no_less : (pairs : List (ℕ × ℕ)) (cell : ℕ) (word : Option ℕ) → 0 < length pairs → 0 < length (with_pair pairs cell word)
no_less pairs cell None some = some
no_less pairs cell (Some word) some = omega (arith, some, length-append pairs ((cell, word) ∷ []))

code_none : (line : ℕ) (known : Meanings) (place : ℕ) (body : Body) → at_line line (word_fault known place body) ≡ None → word_fault known place body ≡ None
code_none line known place body none = by_code (word_fault known place body) none
  where
    by_code : (code : Option _) → at_line line code ≡ None → code ≡ None
    by_code None e = refl
    by_code (Some code) e = some_none e

some_pairs : (last : Meanings) (source : Source) → has_word source ≡ true → words_fault last source ≡ None → 0 < length (pairs_by last source)
some_pairs last [] word none = absurd cc
some_pairs last (Err fault ∷ older) word none = some_pairs last older word none
some_pairs last (Ok s ∷ older) word none = by_test (is_word s.body) refl (λ e. some_pairs last older e (first_none _ _ none)) word
  where
    by_test : (test : Bool) → is_word s.body ≡ test → (has_word older ≡ true → 0 < length (pairs_by last older)) → (if test then true else has_word older) ≡ true → 0 < length (pairs_by last (Ok s ∷ older))
    by_test true is others e = one_more (pairs_by last older) (cell_at older) _
        (word_is (word_values last s.tags older) (place_at older) s.body is (code_none s.line (word_values last s.tags older) (place_at older) s.body (second_none _ _ none)))
    by_test false is others e = no_less (pairs_by last older) (cell_at older) _ (others e)

words_there : (source : Source) → no_word source ≡ None → has_word source ≡ true
words_there source none = by_test (has_word source) none
  where
    by_test : (test : Bool) → (if test then None else Some (At NW (last_line source))) ≡ None → test ≡ true
    by_test true e = refl
    by_test false e = some_none e

pub has_words : HasWords
has_words text none =
    let late = second_none _ _ (second_none _ _ none) in
    some_pairs (values (statements text)) (statements text) (words_there (statements text) (second_none _ _ late)) (first_none _ _ late)
