-- A text with no fault has a word.
use Rattle.std.proofs.Common.{◌≡◌, ℕ, ◌<◌, length, Bool, true, false, Result, Ok, Err, List, [], ◌∷◌, ◌++◌, refl, sym, ap, subst, ◌∙◌, arith}
use Rattle.pal8_asm.specs.Tapes.{TapeWords, without_clash, words_of_entries}
use Rattle.pal8_asm.specs.Sources.{PassResult, remainder_of_text}
use Rattle.pal8_asm.specs.Assembled.{dollar_in, has_words, result_if_any_word, result_with_words, result_of_source}
use Rattle.pal8_asm.specs.declared.faults.Fault.{Fault}
use Rattle.pal8_asm.specs.declared.faults.Place.{Place}
use Rattle.pal8_tape.specs.Laws.{HasWords}

err_ok : (fault : Fault) (made : TapeWords) → Err fault ≡ Ok made → ⊥
err_ok fault made is = cc

abbrev Answer : Type 0
Answer = Result TapeWords Fault

abbrev ok_as : TapeWords → Answer
ok_as made = Ok made

ok_same : (one other : TapeWords) → ok_as one ≡ ok_as other → one ≡ other
ok_same one other is = cc

judged_words : (dollar : Place) (met made : TapeWords) (has : Bool) → has ≡ has_words met.words → result_with_words dollar met has ≡ Ok made → has_words made.words ≡ true
judged_words dollar met made true same is = ap (λ m. has_words m.words) (sym (ok_same met made is)) ∙ sym same
judged_words dollar met made false same is = absurd (err_ok _ made is)

made_words : (dollar : Place) (met : Result TapeWords Fault) (made : TapeWords) → result_if_any_word dollar met ≡ Ok made → has_words made.words ≡ true
made_words dollar (Err fault) made is = absurd (err_ok fault made is)
made_words dollar (Ok met) made is = judged_words dollar met made (has_words met.words) refl is

passed_words : (left : PassResult) (made : TapeWords) → result_of_source left ≡ Ok made → has_words made.words ≡ true
passed_words (Err fault) made is = absurd (err_ok fault made is)
passed_words (Ok left) made is = made_words (dollar_in left.end) (without_clash (words_of_entries left.standing.names.own left.standing.late left.entries)) made is

false_true : false ≡ true → ⊥
false_true is = cc

some_first : (words pool : List (ℕ × ℕ)) → has_words words ≡ true → 0 < length (words ++ pool)
some_first [] pool has = absurd (false_true has)
some_first (word ∷ words) pool has = omega arith

pub has_words_in : HasWords
has_words_in options text pairs s = subst (λ l. 0 < length l) (sym s.are) (some_first s.made.words s.pool (passed_words (remainder_of_text options text) s.made s.is_whole))
