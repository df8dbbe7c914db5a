-- As many words are made as have marks, and a pool has one order.
use Rattle.std.proofs.Common.{◌≡◌, ℕ, ◌+◌, ◌≤◌, inl, inr, Bool, true, false, ◌&&◌, not, if◌then◌else◌, Option, Some, None, is_some, Result, Ok, Err, length, List, [], ◌∷◌, ◌++◌, refl, sym, ap, subst, ◌∙◌, arith, length-append}
use Rattle.pal8_pools.specs.Clashes.{with_word}
use Rattle.pal8_pools.specs.Asks.{Ask}
use Rattle.pal8_pools.specs.Cells.{ArePairs, IsIn, RiseFrom}
use Rattle.pal8_values.specs.Sums.{Meanings}
use Rattle.pal8_values.specs.Words.{AskResult, word_value}
use Rattle.pal8_asm.specs.Assembled.{dollar_in, has_words, result_if_any_word, result_of_source, result_of_text, result_with_words}
use Rattle.pal8_asm.specs.Marks.{mark_in, mark_of, marks_of}
use Rattle.pal8_asm.specs.Sources.{Entry, Remainder, remainder_of_text, with_values}
use Rattle.pal8_asm.specs.Tapes.{TapeWords, late_after, late_fault, late_value, late_values, nothing_made, spot_of, unless_clash, unless_fault, with_entries, with_entry, with_entry_by, with_made, without_clash}
use Rattle.pal8_asm.specs.declared.entries.Late.{Late}
use Rattle.pal8_asm.specs.declared.faults.Fault.{Fault}
use Rattle.pal8_asm.specs.declared.faults.Place.{Place}
use Rattle.pal8_asm.specs.declared.marks.Mark.{Mark}
use Rattle.pal8_places.specs.declared.options.Options.{Options}

abbrev pub MadeResult : Type 0
MadeResult = Result TapeWords Fault

abbrev pub whole : TapeWords → MadeResult
whole made = Ok made

abbrev failed : Fault → MadeResult
failed fault = Err fault

pub whole_same : (a b : TapeWords) → whole a ≡ whole b → a ≡ b
whole_same a b is = cc

failed_whole : (fault : Fault) (a : TapeWords) → failed fault ≡ whole a → ⊥
failed_whole fault a is = cc

-- ## Entries

unless_failed : (later : Option Fault) (fault : Fault) → unless_fault later (Err fault) ≡ failed fault
unless_failed None fault = refl
unless_failed (Some other) fault = refl

entry_failed : (own late : Meanings) (e : Entry) (is : Option Late) (fault : Fault) → with_entry_by own late e is (Err fault) ≡ failed fault
entry_failed own late e None fault = refl
entry_failed own late e (Some d) fault = unless_failed (late_fault e d (late_value own e d)) fault

entries_failed : (own late : Meanings) (es : List Entry) (fault : Fault) → with_entries own late es (Err fault) ≡ failed fault
entries_failed own late [] fault = refl
entries_failed own late (e ∷ es) fault = ap (with_entries own (late_after own e late) es) (entry_failed own late e e.late fault) ∙ entries_failed own (late_after own e late) es fault

abbrev marked : Bool → Mark → List Mark
marked t m = if t then m ∷ [] else []

word_count : (punched : Bool) (c word : ℕ) (words : List (ℕ × ℕ)) (m : Mark) → length (with_word punched c word words) ≡ length words + length (marked (punched && true) m)
word_count true c word words m = length-append words ((c, word) ∷ [])
word_count false c word words m = omega arith

late_count : (punched : Bool) (words : List (ℕ × ℕ)) (m : Mark) → length words ≡ length words + length (marked (punched && false) m)
late_count true words m = omega arith
late_count false words m = omega arith

module _ (e : Entry) (m : Mark) (made after : TapeWords) where
  made_by : (asked : AskResult) → with_made e made asked ≡ whole after → length after.words ≡ length made.words + length (marked (e.is_punched && true) m)
  made_by (Err fault) is = absurd (failed_whole _ after is)
  made_by (Ok (word, asks, punched)) is = ap (λ (a : TapeWords). length a.words) (sym (whole_same _ after is)) ∙ word_count e.is_punched e.cell word made.words m

  unless_by : (later : Option Fault) → unless_fault later (Ok made) ≡ whole after → length after.words ≡ length made.words + length (marked (e.is_punched && false) m)
  unless_by None is = ap (λ (a : TapeWords). length a.words) (sym (whole_same made after is)) ∙ late_count e.is_punched made.words m
  unless_by (Some fault) is = absurd (failed_whole fault after is)

  entry_by : (own late : Meanings) (is_late : Option Late) → with_entry_by own late e is_late (Ok made) ≡ whole after
      → length after.words ≡ length made.words + length (marked (e.is_punched && not (is_some is_late)) m)
  entry_by own late None is = made_by (word_value own (spot_of e) (with_values late e.steps) made.asks made.punched) is
  entry_by own late (Some d) is = unless_by (late_fault e d (late_value own e d)) is

none_more : (n : ℕ) → 0 + n ≡ n
none_more n = omega arith

added : (a b c d e : ℕ) → a ≡ b + c → b ≡ d + e → a ≡ d + (e + c)
added a b c d e p q = omega (arith, p, q)

module _ (own late : Meanings) (e : Entry) (es : List Entry) (made after : TapeWords)
    (count : (next : TapeWords) → with_entries own (late_after own e late) es (Ok next) ≡ whole after → length after.words ≡ length next.words + length (marks_of es))
  where
    count_by : (result : MadeResult) → with_entry own late e (Ok made) ≡ result → with_entries own (late_after own e late) es result ≡ whole after
        → length after.words ≡ length made.words + length (mark_in e ++ marks_of es)
    count_by (Err fault) one is = absurd (failed_whole fault after (sym (entries_failed own (late_after own e late) es fault) ∙ is))
    count_by (Ok next) one is =
        added _ _ _ _ _ (count next is) (entry_by e (mark_of e.place.line e.steps) made next own late e.late one)
        ∙ ap (λ n. length made.words + n) (sym (length-append (mark_in e) (marks_of es)))

count_entries : (own late : Meanings) (es : List Entry) (made after : TapeWords) → with_entries own late es (Ok made) ≡ whole after
    → length after.words ≡ length made.words + length (marks_of es)
count_entries own late [] made after is = ap (λ (a : TapeWords). length a.words) (sym (whole_same made after is)) ∙ omega arith
count_entries own late (e ∷ es) made after is =
    count_by own late e es made after (λ next is. count_entries own (late_after own e late) es next after is) (with_entry own late e (Ok made)) refl is

-- ## Texts

clash_by : (fault : Option Fault) (made after : TapeWords) → unless_clash made fault ≡ whole after → made ≡ after
clash_by None made after is = whole_same made after is
clash_by (Some fault) made after is = absurd (failed_whole fault after is)

any_by : (dollar : Place) (t : Bool) (made after : TapeWords) → result_with_words dollar made t ≡ whole after → made ≡ after
any_by dollar true made after is = whole_same made after is
any_by dollar false made after is = absurd (failed_whole _ after is)

any_result : (dollar : Place) (result : MadeResult) (after : TapeWords) → result_if_any_word dollar result ≡ whole after → result ≡ whole after
any_result dollar (Err fault) after is = is
any_result dollar (Ok made) after is = ap whole (any_by dollar (has_words made.words) made after is)

clash_result : (result : MadeResult) (after : TapeWords) → without_clash result ≡ whole after → result ≡ whole after
clash_result (Err fault) after is = is
clash_result (Ok made) after is = ap whole (clash_by made.clash made after is)

-- as many words are made as have marks
pub count_text : (options : Options) (text : List ℕ) (made : TapeWords) (left : Remainder) → result_of_text options text ≡ Ok made → remainder_of_text options text ≡ Ok left
    → length made.words ≡ length (marks_of left.entries)
count_text options text made left is leaves =
    count_entries left.standing.names.own (late_values left.standing.names.own left.standing.late left.entries (λ n. None)) left.entries nothing_made made
    (clash_result _ made (any_result (dollar_in left.end) _ made (sym (ap result_of_source leaves) ∙ is)))
    ∙ none_more (length (marks_of left.entries))

-- ## Pools

pair_low : (c v low : ℕ) (pairs : List (ℕ × ℕ)) → RiseFrom low pairs → IsIn c v pairs → low ≤ c
pair_low c v low [] rise p = absurd p
pair_low c v low (pair ∷ pairs) rise (inl p) = omega (arith, rise.0, p.0)
pair_low c v low (pair ∷ pairs) rise (inr p) = omega (arith, rise.0, pair_low c v (pair.0 + 1) pairs rise.1 p)

module _ (x y : ℕ × ℕ) (a b : List (ℕ × ℕ)) (rise_a : RiseFrom (x.0 + 1) a) (rise_b : RiseFrom (y.0 + 1) b) where
  first_same : IsIn x.0 x.1 (y ∷ b) → IsIn y.0 y.1 (x ∷ a) → (x.0 ≡ y.0) × (x.1 ≡ y.1)
  first_same (inl p) q = (sym p.0, sym p.1)
  first_same (inr p) (inl q) = (q.0, q.1)
  first_same (inr p) (inr q) = absurd (omega (arith, pair_low x.0 x.1 (y.0 + 1) b rise_b p, pair_low y.0 y.1 (x.0 + 1) a rise_a q))

  others_in : x.0 ≡ y.0 → (c v : ℕ) → IsIn c v a → IsIn c v (y ∷ b) → IsIn c v b
  others_in is c v p (inl q) = absurd (omega (arith, is, q.0, pair_low c v (x.0 + 1) a rise_a p))
  others_in is c v p (inr q) = q

pair_same : (x y : ℕ × ℕ) → x.0 ≡ y.0 → x.1 ≡ y.1 → x ≡ y
pair_same (a, b) (c, d) p q = ap (λ k. (k, b)) p ∙ ap (λ k. (c, k)) q

same_pairs : (low : ℕ) (a b : List (ℕ × ℕ)) → RiseFrom low a → RiseFrom low b → ((c v : ℕ) → IsIn c v a → IsIn c v b) → ((c v : ℕ) → IsIn c v b → IsIn c v a) → a ≡ b
same_pairs low [] [] ra rb there back = refl
same_pairs low [] (y ∷ b) ra rb there back = absurd (back y.0 y.1 (inl (refl, refl)))
same_pairs low (x ∷ a) [] ra rb there back = absurd (there x.0 x.1 (inl (refl, refl)))
same_pairs low (x ∷ a) (y ∷ b) ra rb there back =
    let same = first_same x y a b ra.1 rb.1 (there x.0 x.1 (inl (refl, refl))) (back y.0 y.1 (inl (refl, refl))) in
    ap (λ z. z ∷ a) (pair_same x y same.0 same.1)
    ∙ ap (λ l. y ∷ l)
    (same_pairs (x.0 + 1) a b ra.1 (subst (λ n. RiseFrom (n + 1) b) (sym same.0) rb.1)
    (λ c v p. others_in x y a b ra.1 rb.1 same.0 c v p (there c v (inr p)))
    (λ c v p. others_in y x b a rb.1 ra.1 (sym same.0) c v p (back c v (inr p))))

-- the pairs of asks are one list
pub same_pool : (asks punched : List Ask) (a b : List (ℕ × ℕ)) → ArePairs asks punched a → ArePairs asks punched b → a ≡ b
same_pool asks punched a b p q =
    same_pairs 0 a b p.rise q.rise (λ c v is. (q.each c v).1 ((p.each c v).0 is)) (λ c v is. (p.each c v).1 ((q.each c v).0 is))
