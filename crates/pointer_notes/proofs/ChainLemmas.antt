-- The tables of chains, built from the highest number down.
use Rattle.std.proofs.Common.{◌≡◌, ◌≢◌, ◌⊎◌, inl, inr, ℕ, suc, ◌≤◌, ◌<◌, ◌*◌, Bool, true, false, if◌then◌else◌, Option, Some, None, List, [], ◌∷◌, ◌++◌, drop, length, replicate, take, slice_index_or, slice_set, get_or-set_other, get_or-set_same, append-nil, append_assoc, refl, ap, sym, subst, ◌∙◌, arith}
use Rattle.std.proofs.lemmas.Bool.Decides.{eqb_tells}
use Rattle.std.proofs.lemmas.Grind.{get_or-set_at}
use Rattle.std.proofs.lemmas.List.{get_or-replicate, get_or_past, length-replicate, length-set}
use Rattle.std.proofs.Math.Seq.{take-append_seam}
use Rattle.std.proofs.lemmas.Bool.{cases_lt}
use Rattle.word12.specs.declared.sizes.TheConstants.{CORE}
use Rattle.source_notes.specs.Referrers.{cells_below}
use Rattle.pointer_flow.specs.Programs.{is_number}
use Rattle.pointer_notes.specs.Steps.{AreUnlinked, first_with, next_with}
use Rattle.pointer_notes.specs.Tables.{IsChain}

-- ## The numbers below one

pub below_none : (is : ℕ → Bool) → cells_below is 0 ≡ []
unfolding cells_below
below_none is = refl

pub below_more : (is : ℕ → Bool) (cell : ℕ) → cells_below is (suc cell) ≡ cells_below is cell ++ (if is cell then cell ∷ [] else [])
unfolding cells_below
below_more is cell = refl

-- ## A change of a table

-- the cells of a list are not below this
abbrev pub AreAbove : ℕ → List ℕ → Type 0
AreAbove low [] = Unit {0}
AreAbove low (cell ∷ cells) = (low ≤ cell) × AreAbove low cells

above_less : (low : ℕ) (cells : List ℕ) → AreAbove (suc low) cells → AreAbove low cells
above_less low [] above = tt
above_less low (cell ∷ cells) above = (omega (arith, above.0), above_less low cells above.1)

-- a chain stays where a table changes below it
chain_stays : (next : List (Option ℕ)) (cell : ℕ) (value first : Option ℕ) (cells : List ℕ) → AreAbove (suc cell) cells → IsChain next first cells
    → IsChain (slice_set next cell value) first cells
chain_stays next cell value None [] above chain = tt
chain_stays next cell value None (other ∷ cells) above chain = absurd chain
chain_stays next cell value (Some first) [] above chain = absurd chain
chain_stays next cell value (Some first) (other ∷ cells) above chain = (
  chain.0,
  chain_stays next cell value (slice_index_or (slice_set next cell value) first None) cells above.1
      (subst (λ o. IsChain next o cells) (sym same) chain.1),
)
  where
    apart : first ≢ cell
    apart = λ is. omega (arith, is, chain.0, above.0)

    same : slice_index_or (slice_set next cell value) first None ≡ slice_index_or next first None
    same = get_or-set_other next cell first value None apart

-- ## On the way

-- a chain has all cells from this one on of which this is true
pub record HasChain (is : ℕ → Bool) (next : List (Option ℕ)) (first : Option ℕ) (low : ℕ) : Type 0 where
  pub cells : List ℕ
  pub is_chain : IsChain next first cells
  pub are_above : AreAbove low cells
  pub all : cells_below is (2 * CORE) ≡ cells_below is low ++ cells

-- two tables have the chains of the cells from this one on
pub record AreChainsFrom (names : ℕ → ℕ → Bool) (first next : List (Option ℕ)) (low : ℕ) : Type 0 where
  pub first_size : length first ≡ CORE
  pub next_size : length next ≡ 2 * CORE
  pub chains : (named : ℕ) → named < CORE → HasChain (names named) next (slice_index_or first named None) low

pub begins : (names : ℕ → ℕ → Bool) (first next : List (Option ℕ)) → AreUnlinked first CORE → AreUnlinked next (2 * CORE) → AreChainsFrom names first next (2 * CORE)
begins names first next nothing none = record {
  first_size = nothing.size;
  next_size = none.size;
  chains = λ named small. record {
    cells = [];
    is_chain = subst (λ o. IsChain next o []) (sym (nothing.none named)) tt;
    are_above = tt;
    all = sym (append-nil (cells_below (names named) (2 * CORE)));
  };
}

-- two tables have the chains of all numbers
pub record AreNodeChains (names : ℕ → ℕ → Bool) (first next : List (Option ℕ)) : Type 0 where
  pub first_size : length first ≡ CORE
  pub next_size : length next ≡ 2 * CORE
  pub chains : (named : ℕ) → named < CORE → IsChain next (slice_index_or first named None) (cells_below (names named) (2 * CORE))

pub ends : (names : ℕ → ℕ → Bool) (first next : List (Option ℕ)) → AreChainsFrom names first next 0 → AreNodeChains names first next
ends names first next built = record {
  first_size = built.first_size;
  next_size = built.next_size;
  chains = λ named small.
      let chain = built.chains named small in
      subst (IsChain next (slice_index_or first named None)) (sym (chain.all ∙ ap (λ l. l ++ chain.cells) (below_none (names named)))) chain.is_chain;
}

-- a cell of which it isn't true
passes : (is : ℕ → Bool) (next : List (Option ℕ)) (first : Option ℕ) (cell : ℕ) → is cell ≡ false → HasChain is next first (suc cell)
    → HasChain is next first cell
passes is next first cell fails chain = record {
  cells = chain.cells;
  is_chain = chain.is_chain;
  are_above = above_less cell chain.cells chain.are_above;
  all =
      chain.all
      ∙ ap (λ l. l ++ chain.cells)
      (below_more is cell ∙ ap (λ b. cells_below is cell ++ (if b then cell ∷ [] else [])) fails ∙ append-nil (cells_below is cell));
}

-- one of which it is
leads : (is : ℕ → Bool) (next : List (Option ℕ)) (first : Option ℕ) (cell : ℕ) → is cell ≡ true → cell < length next
    → HasChain is next first (suc cell)
    → HasChain is (slice_set next cell first) (Some cell) cell
leads is next first cell holds inside chain = record {
  cells = cell ∷ chain.cells;
  is_chain = (
    refl,
    subst (λ o. IsChain (slice_set next cell first) o chain.cells) (sym (get_or-set_same next cell first None inside))
        (chain_stays next cell first first chain.cells chain.are_above chain.is_chain),
  );
  are_above = (omega arith, above_less cell chain.cells chain.are_above);
  all =
      chain.all
      ∙ ap (λ l. l ++ chain.cells) (below_more is cell ∙ ap (λ b. cells_below is cell ++ (if b then cell ∷ [] else [])) holds)
      ∙ append_assoc (cells_below is cell) (cell ∷ []) chain.cells;
}

-- the table changes below its cells
changes : (is : ℕ → Bool) (next : List (Option ℕ)) (first value : Option ℕ) (cell : ℕ) → HasChain is next first (suc cell)
    → HasChain is (slice_set next cell value) first (suc cell)
changes is next first value cell chain = record {
  cells = chain.cells;
  is_chain = chain_stays next cell value first chain.cells chain.are_above chain.is_chain;
  are_above = chain.are_above;
  all = chain.all;
}

-- one cell less is left
pub links : (names : ℕ → ℕ → Bool) (first next : List (Option ℕ)) (cell : ℕ) (named : Option ℕ) → cell < 2 * CORE
    → ((other : ℕ) → names other cell ≡ is_number named other) → AreChainsFrom names first next (suc cell)
    → AreChainsFrom names (first_with named cell first) (next_with named cell first next) cell
links names first next cell None small what built = record {
  first_size = built.first_size;
  next_size = built.next_size;
  chains = λ other low. passes (names other) next (slice_index_or first other None) cell (what other) (built.chains other low);
}
links names first next cell (Some named) small what built = record {
  first_size = length-set first named (Some cell) ∙ built.first_size;
  next_size = length-set next cell (slice_index_or first named None) ∙ built.next_size;
  chains = λ other low.
      let now = slice_set next cell (slice_index_or first named None) in
      elim (eqb_tells named other) [
        | inl same ↦
            let at = get_or-set_at first named other (Some cell) None (sym same.1) (omega (arith, same.1, low, built.first_size)) in
            subst (λ o. HasChain (names other) now o cell) (sym at)
            (subst (λ n. HasChain (names other) (slice_set next cell (slice_index_or first n None)) (Some cell) cell) (sym same.1)
            (leads (names other) next (slice_index_or first other None) cell (what other ∙ same.0) (omega (arith, small, built.next_size))
            (built.chains other low)))
        | inr apart ↦
            let at = get_or-set_other first named other (Some cell) None (λ is. apart.1 (sym is)) in
            subst (λ o. HasChain (names other) now o cell) (sym at)
            (passes (names other) now (slice_index_or first other None) cell (what other ∙ apart.0)
            (changes (names other) next (slice_index_or first other None) (slice_index_or first named None) cell (built.chains other low)))
      ];
}

-- ## Tables of no cells

all_same : (count cell : ℕ) (none : Option ℕ) → slice_index_or (replicate count none) cell none ≡ none
all_same count cell none = at (cases_lt cell count)
  where
    at : (cell < count) ⊎ (count ≤ cell) → slice_index_or (replicate count none) cell none ≡ none
    at (inl within) = get_or-replicate count cell none none within
    at (inr beyond) = get_or_past (replicate count none) cell none (omega (arith, beyond, length-replicate count none))

pub unlinked : (count size : ℕ) (cells : List (Option ℕ)) → size ≡ count → cells ≡ replicate count None → AreUnlinked cells size
unlinked count size cells same is = record {
  size = ap (λ l. length l) is ∙ length-replicate count None ∙ sym same;
  none = λ cell. ap (λ l. slice_index_or l cell None) is ∙ all_same count cell None;
}

-- ## A step of the loop

pub built_on : (names : ℕ → ℕ → Bool) (first next first' next' : List (Option ℕ)) (low number cell : ℕ) (named : Option ℕ) → suc number ≡ low
    → cell ≡ number → number < 2 * CORE
    → ((other : ℕ) → names other number ≡ is_number named other) → first' ≡ first_with named cell first → next' ≡ next_with named cell first next
    → AreChainsFrom names first next low → AreChainsFrom names first' next' number
built_on names first next first' next' low number cell named more same small what firsts nexts built =
    subst (λ n. AreChainsFrom names first' n number) (sym (nexts ∙ ap (λ c. next_with named c first next) same))
    (subst (λ f. AreChainsFrom names f (next_with named number first next) number) (sym (firsts ∙ ap (λ c. first_with named c first) same))
    (links names first next number named small what (subst (AreChainsFrom names first next) (sym more) built)))

pub ended : (names : ℕ → ℕ → Bool) (first next : List (Option ℕ)) (low : ℕ) → low ≡ 0 → AreChainsFrom names first next low
    → AreNodeChains names first next
ended names first next low none built = ends names first next (subst (AreChainsFrom names first next) none built)

-- what a slice of a whole vector leaves of it
pub whole : (count : ℕ) (new old : List (Option ℕ)) → length new ≡ count → take count (new ++ drop (length new) old) ≡ new
whole count new old size = rw (sym size) (take-append_seam new (drop (length new) old))
