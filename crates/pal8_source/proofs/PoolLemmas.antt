-- Looking for the lowest cell, and what a pool of a page can be.
use Rattle.std.proofs.Common.{◌≡◌, ℕ, zero, suc, ◌+◌, ◌-◌, ◌*◌, ◌/◌, ◌%◌, ◌<◌, ◌≤◌, nat_le, inl, inr, length, is_some, List, Bool, true, false, ◌&&◌, not, if◌then◌else◌, Option, Some, None, refl, ap, sym, ◌∙◌, arith}
use Rattle.std.proofs.lemmas.Bool.{le-ltb, lt-ltb}
use Rattle.std.proofs.lemmas.Bool.Decides.{leb_tells}
use Rattle.std.proofs.lemmas.List.{get_or_past}
use Rattle.flow8.specs.Flow.{word_in}
use Rattle.source_notes.specs.Notes.{is_flagged}
use Rattle.pal8_source.specs.Pools.{Asks, Program, ask_of, asks_of, can_all_be, can_be, cell_from_end, first_ask, greatest, is_after, is_in_pool, is_in_turn, is_new, is_page_zero, is_pooled, later_ask, lowest, refers, size_by, upper_size}
use Rattle.pal8_source.specs.Steps.{SameAsks, size_in}

-- one of the cells is looked at
pub looks_once : (is : ℕ → Bool) (first k count : ℕ) → k < count
    → lowest is (first + k) (count - k) ≡ (if is (first + k) then Some (first + k) else lowest is (first + (k + 1)) (count - (k + 1)))
looks_once is first k count small =
    ap (λ n. lowest is (first + k) n) (left k count small) ∙ ap (λ n. if is (first + k) then Some (first + k) else lowest is n (count - (k + 1))) (next first k)
  where
    left : (k count : ℕ) → k < count → count - k ≡ suc (count - (k + 1))
    left k count small = omega (arith, small)

    next : (first k : ℕ) → suc (first + k) ≡ first + (k + 1)
    next first k = omega arith

pub found : (is : ℕ → Bool) (first k count : ℕ) (b : Bool) → k < count → b ≡ is (first + k) → b ≡ true → lowest is (first + k) (count - k) ≡ Some (first + k)
found is first k count b small is_b holds =
    looks_once is first k count small ∙ ap (λ (c : Bool). if c then Some (first + k) else lowest is (first + (k + 1)) (count - (k + 1))) (sym is_b ∙ holds)

pub not_found : (is : ℕ → Bool) (first k count : ℕ) (b : Bool) → k < count → b ≡ is (first + k) → b ≡ false
    → lowest is (first + k) (count - k) ≡ lowest is (first + (k + 1)) (count - (k + 1))
not_found is first k count b small is_b fails =
    looks_once is first k count small ∙ ap (λ (c : Bool). if c then Some (first + k) else lowest is (first + (k + 1)) (count - (k + 1))) (sym is_b ∙ fails)

pub none_left : (is : ℕ → Bool) (first k count : ℕ) → count ≤ k → lowest is (first + k) (count - k) ≡ None
none_left is first k count all = ap (λ n. lowest is (first + k) n) (none k count all)
  where
    none : (k count : ℕ) → count ≤ k → count - k ≡ 0
    none k count all = omega (arith, all)

-- ## Page zero

pub no_later : (p : Program) (size : ℕ → ℕ) (cell : ℕ) → 128 ≤ cell % 4096 → later_ask p size cell ≡ None
unfolding later_ask
no_later p size cell high =
    ap (λ (b : Bool). if b then lowest (λ from. not (is_in_pool size from) && refers p cell from) (4096 * (cell / 4096) + 128) (4096 - 128) else None) (le-ltb (cell % 4096) 128 high)

pub later_is : (p : Program) (size : ℕ → ℕ) (cell first count : ℕ) → cell % 4096 < 128 → first ≡ 4096 * (cell / 4096) + 128 → count ≡ 4096 - 128
    → later_ask p size cell ≡ lowest (λ from. not (is_in_pool size from) && refers p cell from) first count
unfolding later_ask
later_is p size cell first count low is_first is_count =
    ap (λ (b : Bool). if b then lowest (λ from. not (is_in_pool size from) && refers p cell from) (4096 * (cell / 4096) + 128) (4096 - 128) else None) (lt-ltb (cell % 4096) 128 low)
    ∙ ap (λ f. lowest (λ from. not (is_in_pool size from) && refers p cell from) f (4096 - 128)) (sym is_first)
    ∙ ap (λ n. lowest (λ from. not (is_in_pool size from) && refers p cell from) first n) (sym is_count)

-- ## Sizes

everywhere : (p : Program) (upper : List ℕ) → length upper ≡ 256 → ((page : ℕ) → page < 256 → size_in upper page ≡ upper_size p page)
    → (page : ℕ) → size_in upper page ≡ upper_size p page
everywhere p upper size same page = elim (leb_tells 256 page) [
  | inl high ↦ get_or_past upper page 0 (let h = high.1 in omega (arith, size, h)) ∙ sym (ap (λ (b : Bool). if b && not (is_page_zero page) then size_by p (λ other. 0) page else 0) (le-ltb page 256 high.1))
  | inr low ↦ same page low.1
]

pub upper_same : (p : Program) (upper : List ℕ) → length upper ≡ 256 → ((page : ℕ) → page < 256 → size_in upper page ≡ upper_size p page)
    → size_in upper ≡ upper_size p
upper_same p upper size same = λ i. λ page. everywhere p upper size same page i

-- ## Pools by what refers to their cells

same_ask : (a b : Asks) (page n k : ℕ) → SameAsks a b → k < 128 → ask_of a page n k ≡ ask_of b page n k
same_ask a b page n k same small =
    ap (λ own. first_ask (128 * page + 128 - n) own (a.later k)) (same.own k small) ∙ ap (λ later. first_ask (128 * page + 128 - n) (b.own k) later) (same.later k small)

same_turn : (a b : Asks) (page n k : ℕ) → SameAsks a b → k < 128 → is_in_turn a page n k ≡ is_in_turn b page n k
same_turn a b page n zero same small = ap is_some (same_ask a b page n zero same small)
same_turn a b page n (suc k) same small =
    ap (λ above. is_after above (ask_of a page n (suc k))) (same_ask a b page n k same (omega (arith, small))) ∙ ap (is_after (ask_of b page n k)) (same_ask a b page n (suc k) same small)

same_can : (p : Program) (a b : Asks) (page n k : ℕ) (word : Option ℕ) → SameAsks a b → k < 128 → can_be p a page n k word ≡ can_be p b page n k word
same_can p a b page n k None same small = refl
same_can p a b page n k (Some word) same small =
    ap (λ (t : Bool). not (is_flagged p.exempt (cell_from_end page k)) && (t && is_new p page word k)) (same_turn a b page n k same small)

same_all : (p : Program) (a b : Asks) (page n k : ℕ) → SameAsks a b → k ≤ 128 → can_all_be p a page n k ≡ can_all_be p b page n k
same_all p a b page n zero same small = refl
same_all p a b page n (suc k) same small =
    ap (λ (all : Bool). all && can_be p a page n k (word_in p.words (cell_from_end page k))) (same_all p a b page n k same (omega (arith, small)))
    ∙ ap (λ (can : Bool). can_all_be p b page n k && can) (same_can p a b page n k (word_in p.words (cell_from_end page k)) same (omega (arith, small)))

pub same_greatest : (p : Program) (a b : Asks) (page most : ℕ) → SameAsks a b → most ≤ 128
    → greatest (λ n. can_all_be p a page n n) most ≡ greatest (λ n. can_all_be p b page n n) most
same_greatest p a b page zero same small = refl
same_greatest p a b page (suc most) same small =
    ap (λ (can : Bool). if can then suc most else greatest (λ n. can_all_be p a page n n) most) (same_all p a b page (suc most) (suc most) same small)
    ∙ ap (λ n. if can_all_be p b page (suc most) (suc most) then suc most else n) (same_greatest p a b page most same (omega (arith, small)))

pub size_is : (p : Program) (size : ℕ → ℕ) (page most : ℕ) (a : Asks) → SameAsks a (asks_of p size page) → most ≡ 128
    → greatest (λ n. can_all_be p a page n n) most ≡ size_by p size page
unfolding size_by
size_is p size page most a same is =
    same_greatest p a (asks_of p size page) page most same (omega (arith, is)) ∙ ap (greatest (λ n. can_all_be p (asks_of p size page) page n n)) is

-- the cells of pools
pub pooled_is : (p : Program) (upper sizes : List ℕ) (cell : ℕ) → cell < 32768 → size_in upper ≡ upper_size p
    → ((page : ℕ) → page < 256 → size_in sizes page ≡ (if is_page_zero page then size_by p (size_in upper) page else size_in upper page))
    → is_in_pool (size_in sizes) cell ≡ is_pooled p cell
pooled_is p upper sizes cell small same all =
    ap (λ n. nat_le 128 (cell % 128 + n)) (all (cell / 128) (omega (arith, small)))
    ∙ ap (λ (u : ℕ → ℕ). nat_le 128 (cell % 128 + (if is_page_zero (cell / 128) then size_by p u (cell / 128) else u (cell / 128)))) same
