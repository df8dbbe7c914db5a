-- The texts of sources, in which statements are made harmless.
use Rattle.std.proofs.Common.{◌≡◌, ℕ, ◌+◌, ◌-◌, ◌≤◌, ◌<◌, Bool, true, false, if◌then◌else◌, nat_eq, Option, Some, None, Vec, Global, zero, suc, length, take, drop, get_or, slice_set, map, List, [], ◌∷◌, ◌++◌, refl, sym, ap, subst, ◌∙◌, arith, append_assoc, append-nil}
use Rattle.std.proofs.lemmas.Bool.Decides.{nat_tests}
use Rattle.std.proofs.lemmas.List.{take_all}
use Rattle.std.specs.Borrow.{Bor}
use Rattle.pal8_tape.specs.Joins.{bytes_in}
use Rattle.pal8_tape.specs.Mending.{harmless}
use Rattle.pal8_tape.specs.Further.{ended_text, ended_texts, harmless_at, with_first, with_others}
use Rattle.pal8_tape.specs.MendSteps.{text_if_last}

abbrev items_in : List (Vec ℕ Global) → List (List ℕ)
items_in texts = map (λ text. text.items) texts

-- ## One text made harmless

module _ (passed : Bool) (start : ℕ) where
  pub none_there : (texts : List (Vec ℕ Global)) (n : ℕ) → length texts ≤ n → harmless_at passed (items_in texts) n start ≡ None
  none_there [] n out = refl
  none_there (text ∷ texts) zero out = absurd (omega (arith, out))
  none_there (text ∷ texts) (suc n) out = ap (with_others text.items) (none_there texts n (omega (arith, out)))

  pub made_there : (texts : List (Vec ℕ Global)) (n : ℕ) (none next : Vec ℕ Global) → n < length texts → harmless passed start (get_or texts n none).items ≡ Some next.items
      → harmless_at passed (items_in texts) n start ≡ Some (items_in (slice_set texts n next))
  made_there [] n none next inside is = absurd (omega (arith, inside))
  made_there (text ∷ texts) zero none next inside is = ap (λ t. with_first t (items_in texts)) is
  made_there (text ∷ texts) (suc n) none next inside is = ap (with_others text.items) (made_there texts n none next (omega (arith, inside)) is)

  pub not_made : (texts : List (Vec ℕ Global)) (n : ℕ) (none : Vec ℕ Global) → harmless passed start (get_or texts n none).items ≡ None
      → n < length texts → harmless_at passed (items_in texts) n start ≡ None
  not_made [] n none is inside = refl
  not_made (text ∷ texts) zero none is inside = ap (λ t. with_first t (items_in texts)) is
  not_made (text ∷ texts) (suc n) none is inside = ap (with_others text.items) (not_made texts n none is (omega (arith, inside)))

-- ## The texts

abbrev pub following_one : {A : Type 0} → List A → List A
following_one l = take (length l - 1) (drop 1 l)

less_one : (n : ℕ) → suc n - 1 ≡ n
less_one n = omega arith

first_of_rest : {A : Type 0} (rest : List A) (none : A) → 1 ≤ length rest → rest ≡ get_or rest 0 none ∷ following_one rest
first_of_rest [] none long = absurd (omega (arith, long))
first_of_rest (x ∷ others) none long = ap (λ l. x ∷ l) (sym (ap (λ n. take n others) (less_one (length others)) ∙ take_all (length others) others (omega arith)))

some_more : (next : Bor (List ℕ)) (later : List (Bor (List ℕ))) → nat_eq (length (next ∷ later)) 0 ≡ false
some_more next later = grind (arith, nat_tests)

first_ended : (source : Bor (List ℕ)) (others : List (Bor (List ℕ))) (last : Bool) → last ≡ nat_eq (length others) 0
    → ended_texts (bytes_in (source ∷ others)) ≡ text_if_last last source.now ∷ ended_texts (bytes_in others)
first_ended source [] last is = ap (λ l. text_if_last l source.now ∷ []) (sym is)
first_ended source (next ∷ later) last is = ap (λ l. text_if_last l source.now ∷ ended_texts (bytes_in (next ∷ later))) (sym (is ∙ some_more next later))

-- a text more
pub ended_more : (rest : List (Bor (List ℕ))) (none : Bor (List ℕ)) (last : Bool) (old new whole : List (List ℕ)) (text : List ℕ) → 1 ≤ length rest
    → last ≡ nat_eq (length (following_one rest)) 0 → text ≡ text_if_last last (get_or rest 0 none).now → new ≡ old ++ text ∷ []
    → old ++ ended_texts (bytes_in rest) ≡ whole → new ++ ended_texts (bytes_in (following_one rest)) ≡ whole
ended_more rest none last old new whole text long is text_is added same =
    ap (λ l. l ++ ended_texts (bytes_in (following_one rest))) added
    ∙ append_assoc old (text ∷ []) (ended_texts (bytes_in (following_one rest)))
    ∙ ap (λ t. old ++ t ∷ ended_texts (bytes_in (following_one rest))) text_is
    ∙ ap (λ l. old ++ l) (sym (ap (λ l. ended_texts (bytes_in l)) (first_of_rest rest none long) ∙ first_ended (get_or rest 0 none) (following_one rest) last is))
    ∙ same

none_left : (rest : List (Bor (List ℕ))) → length rest ≡ 0 → rest ≡ []
none_left [] none = refl
none_left (source ∷ rest) none = absurd (omega (arith, none))

pub all_ended : (rest : List (Bor (List ℕ))) (texts whole : List (List ℕ)) → length rest ≡ 0 → texts ++ ended_texts (bytes_in rest) ≡ whole → texts ≡ whole
all_ended rest texts whole none same = sym (append-nil texts) ∙ sym (ap (λ l. texts ++ ended_texts (bytes_in l)) (none_left rest none)) ∙ same
