-- A text assembles to one list of pairs, so the tape that is written of them gives each cell what they give it.
use Rattle.std.proofs.Common.{◌≡◌, inl, inr, ℕ, ◌+◌, ◌<◌, ◌≤◌, nat_eq, Bool, true, false, if◌then◌else◌, length, is_some, Option, Some, None, Result, Ok, Err, List, [], ◌∷◌, ◌++◌, refl, ap, sym, subst, ◌∙◌, arith}
use Rattle.std.proofs.lemmas.Bool.{cases_lt}
use Rattle.std.proofs.lemmas.Bool.Decides.{nat_tests}
use Rattle.std.specs.Option.{option_or}
use Rattle.std.specs.Borrow.{Bor}
use Rattle.word12.specs.declared.sizes.TheConstants.{CORE}
use Rattle.pal_sym.specs.Values.{if_none}
use Rattle.bin_tape.specs.Items.{Item, IsPrefix, tape_map}
use Rattle.bin_tape.specs.Tape.{IsTape}
use Rattle.bin_tape.specs.Writing.{tape_of}
use Rattle.bin_tape.specs.Pairs as pairs
use Rattle.bin_tape.specs.Pairs.{last_word}
use Rattle.pal8_pools.specs.Cells.{ArePairs, IsIn, RiseFrom}
use Rattle.pal_lex.specs.Text.{text_of}
use Rattle.pal8_tape.specs.Joins.{bytes_in}
use Rattle.pal8_tape.specs.JoinLaws.{OneIsItself}
use Rattle.pal8_tape.specs.Answers as pal8_tape
use Rattle.pal8_asm.specs.Assembled.{result_of_text}
use Rattle.pal8_asm.specs.Assembling.{IsAssembled}
use Rattle.pal8_source.specs.Checked.{as_profile}
use Rattle.pal8_source.specs.Laws.{HasNoFault, TapeComesBack}
use Rattle.pal8_source.proofs.TapeLemmas.{in_core}
use Rattle.pal8_asm.specs.Laws.{meaning}
use Rattle.pal8_asm.specs.Tapes.{TapeWords}
use Rattle.pal8_asm.specs.declared.faults.Fault.{Fault}

-- ## One list

from : (low c v : ℕ) (pairs : List (ℕ × ℕ)) → RiseFrom low pairs → IsIn c v pairs → low ≤ c
from low c v [] rise is = absurd is
from low c v (pair ∷ others) rise (inl same) = omega (arith, rise.0, same.0)
from low c v (pair ∷ others) rise (inr is) = omega (arith, rise.0, from (pair.0 + 1) c v others rise.1 is)

abbrev Within : List (ℕ × ℕ) → List (ℕ × ℕ) → Type 0
Within these those = (c v : ℕ) → IsIn c v these → IsIn c v those

same_head : (x y : ℕ × ℕ) (p q : List (ℕ × ℕ)) → RiseFrom (x.0 + 1) p → RiseFrom (y.0 + 1) q → IsIn x.0 x.1 (y ∷ q) → IsIn y.0 y.1 (x ∷ p) → x ≡ y
same_head x y p q rise rise' (inl e) back = ap (λ a. (a, x.1)) (sym e.0) ∙ ap (λ b. (y.0, b)) (sym e.1)
same_head x y p q rise rise' (inr i) (inl e) = ap (λ a. (a, x.1)) e.0 ∙ ap (λ b. (y.0, b)) e.1
same_head x y p q rise rise' (inr i) (inr j) = absurd (omega (arith, from (y.0 + 1) x.0 x.1 q rise' i, from (x.0 + 1) y.0 y.1 p rise j))

later : (x : ℕ × ℕ) (p q : List (ℕ × ℕ)) → RiseFrom (x.0 + 1) p → Within (x ∷ p) (x ∷ q) → Within p q
later x p q rise within c v is = by_place (within c v (inr is))
  where
    by_place : IsIn c v (x ∷ q) → IsIn c v q
    by_place (inl e) = absurd (omega (arith, from (x.0 + 1) c v p rise is, e.0))
    by_place (inr i) = i

one_rising : (low low' : ℕ) (p q : List (ℕ × ℕ)) → RiseFrom low p → RiseFrom low' q → Within p q → Within q p → p ≡ q
one_rising low low' [] [] rise rise' there back = refl
one_rising low low' [] (y ∷ q) rise rise' there back = absurd (back y.0 y.1 (inl (refl, refl)))
one_rising low low' (x ∷ p) [] rise rise' there back = absurd (there x.0 x.1 (inl (refl, refl)))
one_rising low low' (x ∷ p) (y ∷ q) rise rise' there back =
    let same = same_head x y p q rise.1 rise'.1 (there x.0 x.1 (inl (refl, refl))) (back y.0 y.1 (inl (refl, refl))) in
    let rises : RiseFrom (x.0 + 1) q = subst (λ z. RiseFrom (z.0 + 1) q) (sym same) rise'.1 in
    let there' : Within (x ∷ p) (x ∷ q) = subst (λ z. Within (x ∷ p) (z ∷ q)) (sym same) there in
    let back' : Within (x ∷ q) (x ∷ p) = subst (λ z. Within (z ∷ q) (x ∷ p)) (sym same) back in
    ap (λ l. x ∷ l) (one_rising (x.0 + 1) (x.0 + 1) p q rise.1 rises (later x p q rise.1 there') (later x q p rises back')) ∙ ap (λ z. z ∷ q) same

one_pool : (made : TapeWords) (p q : List (ℕ × ℕ)) → ArePairs made.asks made.punched p → ArePairs made.asks made.punched q → p ≡ q
one_pool made p q a b =
    one_rising 0 0 p q a.rise b.rise (λ c v is. (b.each c v).1 ((a.each c v).0 is)) (λ c v is. (a.each c v).1 ((b.each c v).0 is))

abbrev made_or : TapeWords → Result TapeWords Fault → TapeWords
made_or other (Err fault) = other
made_or other (Ok made) = made

pub one_list : (whole : Result TapeWords Fault) (p q : List (ℕ × ℕ)) → IsAssembled whole p → IsAssembled whole q → p ≡ q
one_list whole p q a b =
    let made : b.made ≡ a.made = ap (made_or b.made) (sym b.is_whole ∙ a.is_whole) in
    let pool = one_pool a.made a.pool b.pool a.is_pool (subst (λ m. ArePairs m.asks m.punched b.pool) made b.is_pool) in
    a.are ∙ ap (λ l. a.made.words ++ l) pool ∙ ap (λ m. m.words ++ b.pool) (sym made) ∙ sym b.are

-- ## The words of a tape

same_choice : (a b : Option ℕ) → option_or a b ≡ if_none a b
same_choice None b = refl
same_choice (Some w) b = refl

pub last_is : (pairs : List (ℕ × ℕ)) (cell : ℕ) → last_word pairs cell ≡ meaning pairs cell
last_is [] cell = refl
last_is (pair ∷ later) cell =
    same_choice (last_word later cell) _ ∙ ap (λ o. if_none o (if nat_eq pair.0 cell then Some pair.1 else None)) (last_is later cell)

-- pairs of core give no other cell a word
pub past : (list : List (ℕ × ℕ)) → pairs.ArePairs list → (cell : ℕ) → CORE ≤ cell → meaning list cell ≡ None
past [] are cell high = refl
past (pair ∷ later) are cell high =
    ap (λ o. if_none o (if nat_eq pair.0 cell then Some pair.1 else None)) (past later are.2 cell high)
    ∙ ap (λ (b : Bool). if b then Some pair.1 else None) (other pair.0 cell are.0 high)
  where
    other : (a b : ℕ) → a < 32768 → 32768 ≤ b → nat_eq a b ≡ false
    other a b low high = grind (arith, nat_tests)

some_length : (pairs : List (ℕ × ℕ)) (cell : ℕ) → is_some (meaning pairs cell) ≡ true → 0 < length pairs
some_length [] cell some = absurd (cc some)
some_length (pair ∷ later) cell some = omega arith

everywhere : (items : List Item) (list : List (ℕ × ℕ)) → IsPrefix items → pairs.ArePairs list → ((cell : ℕ) → cell < CORE → meaning list cell ≡ tape_map items cell)
    → (cell : ℕ) → meaning list cell ≡ tape_map items cell
everywhere items list prefix are cells cell =
    elim (cases_lt cell CORE) [
      | inl low ↦ cells cell low
      | inr high ↦ past list are cell (omega (arith, high)) ∙ sym (none_past (tape_map items cell) (λ some. omega (arith, high, in_core items prefix cell some)))
    ]
  where
    none_past : (o : Option ℕ) → (is_some o ≡ true → ⊥) → o ≡ None
    none_past None not = refl
    none_past (Some w) not = absurd (not refl)

abbrev pub OneReading : Type 0
OneReading = (frames : List ℕ) (a b : List Item) → IsTape frames a → IsTape frames b → a ≡ b

abbrev pub WrittenTape : Type 0
WrittenTape = (list : List (ℕ × ℕ)) (rest : List ℕ) → pairs.ArePairs list → 0 < length list → pairs.IsTapeOf (tape_of list ++ rest) list

module _ (one : OneIsItself) where
  alone : (sources : List (Bor (List ℕ))) (text : List ℕ) → bytes_in sources ≡ text ∷ [] → pal8_tape.result_of as_profile (bytes_in sources) ≡ result_of_text as_profile (text_of text)
  alone sources text is = ap (pal8_tape.result_of as_profile) is ∙ ap (λ t. result_of_text as_profile (text_of t)) (one as_profile text).0

  pub no_fault : HasNoFault
  no_fault frames starts names text it sources is fault (met, faulty, place) =
      absurd (never (sym faulty ∙ alone sources text is ∙ it.comes_back.are.is_whole))
    where
      never : {f : Fault} {made : TapeWords} → Err f ≡ Ok made → ⊥
      never e = cc e

  pub comes_back : OneReading → WrittenTape → TapeComesBack
  comes_back reads writes frames starts names text items it tape sources is made rest has =
      let back = it.comes_back in
      let same : items ≡ it.is_source.items = reads frames items it.is_source.items tape it.is_source.is_tape in
      let list : has.pairs ≡ back.pairs = one_list (result_of_text as_profile (text_of text)) has.pairs back.pairs (subst (λ r. IsAssembled r has.pairs) (alone sources text is) has.are_all) back.are in
      let cells = everywhere it.is_source.items back.pairs it.is_source.is_tape.is_prefix.3 back.are_pairs back.cells in
      let low = in_core it.is_source.items it.is_source.is_tape.is_prefix.3 it.is_source.cell it.is_source.has_word in
      let written = writes back.pairs rest back.are_pairs (some_length back.pairs it.is_source.cell (ap is_some (cells it.is_source.cell) ∙ it.is_source.has_word)) in
      record {
        again = written.items;
        is_tape = subst (λ t. IsTape (t ++ rest) written.items) (sym (has.are ∙ ap tape_of list)) written.is_tape;
        map = λ cell. written.map cell ∙ last_is back.pairs cell ∙ cells cell ∙ ap (λ i. tape_map i cell) (sym same);
      }
