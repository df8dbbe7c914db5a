-- The cells of the numbers that refer to a cell.
use Rattle.std.proofs.Common.{◌≡◌, inl, inr, ℕ, zero, suc, ◌*◌, ◌/◌, ◌%◌, ◌<◌, nat_eq, Bool, true, false, ◌&&◌, ◌||◌, not, if◌then◌else◌, Option, Some, None, List, [], ◌∷◌, ◌++◌, drop, length, take, slice_index_or, append_assoc, refl, ap, sym, subst, ◌∙◌, arith}
use Rattle.std.proofs.lemmas.Bool.{eq-eqb, ne_eqb}
use Rattle.std.proofs.lemmas.Bool.Decides.{eqb_tells}
use Rattle.word12.specs.declared.sizes.TheConstants.{CORE, FIELD}
use Rattle.flow8.specs.Exits.{referred_cell}
use Rattle.source_notes.specs.Referrers.{cells_below, is_call, is_reference, names_cell}
use Rattle.pointer_flow.specs.Programs.{is_number}
use Rattle.pointer_notes.specs.Views.{View}
use Rattle.pointer_notes.specs.References.{is_given_cell, is_jms, leads_to, pointer_of, shown_target}
use Rattle.pointer_notes.specs.Steps.{cell_if, led_cell, named_cell, node_cell, other_than, own_cell}
use Rattle.pointer_notes.specs.Tables.{AreChains, HasCells, halves, names_by}
use Rattle.pointer_notes.specs.declared.references.Kind.{Kind}
use Rattle.pointer_notes.specs.declared.references.Kind.TheVariants.{Call, Reference, Target, Pointer}
use Rattle.pointer_notes.proofs.ChainLemmas.{AreNodeChains, below_more, below_none, whole}

-- ## What the numbers of a cell stand for

-- a number stands for a cell
abbrev pub stands_for : Kind → View → ℕ → ℕ → Bool
stands_for kind view named node = is_number (node_cell kind view node) named

named_is : (cell named : ℕ) (word : Option ℕ) → is_number (named_cell cell word) named ≡ names_cell cell word named
named_is cell named None = refl
named_is cell named (Some word) = by (is_reference (cell % FIELD) word)
  where
    by : (b : Bool) → is_number (if b then Some (referred_cell cell word) else None) named ≡ (b && nat_eq (referred_cell cell word) named)
    by true = refl
    by false = refl

if_is : (b : Bool) (cell : Option ℕ) (named : ℕ) → is_number (cell_if b cell) named ≡ (b && is_number cell named)
if_is true cell named = refl
if_is false cell named = refl

swapped : (a b c : Bool) → ((a && b) && c) ≡ (a && (c && b))
swapped true true true = refl
swapped true true false = refl
swapped true false true = refl
swapped true false false = refl
swapped false true true = refl
swapped false true false = refl
swapped false false true = refl
swapped false false false = refl

or_false : (b : Bool) → b ≡ (b || false)
or_false true = refl
or_false false = refl

-- an instruction refers to a cell by its word, or by where it leads
pub either_way : (kind : Kind) (view : View) (named cell : ℕ)
    → names_by kind view named cell ≡ (is_number (own_cell kind view cell) named || is_number (led_cell kind view cell) named)
either_way Call view named cell =
    ap (λ b. b || (is_jms (view.words cell) && leads_to view named cell))
    (sym (if_is (view.is_code cell && is_call (view.words cell)) (named_cell cell (view.words cell)) named
    ∙ ap (λ b. (view.is_code cell && is_call (view.words cell)) && b) (named_is cell named (view.words cell))
    ∙ swapped (view.is_code cell) (is_call (view.words cell)) (names_cell cell (view.words cell) named)))
    ∙ ap (λ b. is_number (own_cell Call view cell) named || b) (sym (if_is (is_jms (view.words cell)) (shown_target view cell) named))
either_way Reference view named cell =
    ap (λ b. b || (not (is_jms (view.words cell)) && leads_to view named cell))
    (sym (if_is (view.is_code cell && not (is_call (view.words cell))) (named_cell cell (view.words cell)) named
    ∙ ap (λ b. (view.is_code cell && not (is_call (view.words cell))) && b) (named_is cell named (view.words cell))
    ∙ swapped (view.is_code cell) (not (is_call (view.words cell))) (names_cell cell (view.words cell) named)))
    ∙ ap (λ b. is_number (own_cell Reference view cell) named || b) (sym (if_is (not (is_jms (view.words cell))) (shown_target view cell) named))
either_way Target view named cell = refl
either_way Pointer view named cell =
    sym (if_is (is_given_cell view (view.answers cell).target) (pointer_of cell (view.words cell)) named)
    ∙ or_false (is_number (own_cell Pointer view cell) named)

-- the second number stands for a cell where the first doesn't
other_is : (own led : Option ℕ) (named : ℕ)
    → is_number (other_than own led) named ≡ (not (is_number own named) && is_number led named)
other_is own None named = nothing (is_number own named)
  where
    nothing : (b : Bool) → false ≡ (not b && false)
    nothing true = refl
    nothing false = refl
other_is own (Some led) named = elim (eqb_tells led named) [
  | inl same ↦
      ap (λ n. is_number (if is_number own n then None else Some led) named) same.1
      ∙ by (is_number own named) same.0
      ∙ ap (λ b. not (is_number own named) && b) (sym same.0)
  | inr apart ↦
      none (is_number own led) apart.0
      ∙ nothing (is_number own named)
      ∙ ap (λ b. not (is_number own named) && b) (sym apart.0)
]
  where
    by : (b : Bool) → nat_eq led named ≡ true → is_number (if b then None else Some led) named ≡ (not b && true)
    by true is = refl
    by false is = is

    none : (b : Bool) → nat_eq led named ≡ false → is_number (if b then None else Some led) named ≡ false
    none true is = refl
    none false is = is

    nothing : (b : Bool) → false ≡ (not b && false)
    nothing true = refl
    nothing false = refl

-- ## The halves of the numbers below twice a cell

halves_join : (xs ys : List ℕ) → halves (xs ++ ys) ≡ halves xs ++ halves ys
halves_join [] ys = refl
halves_join (node ∷ xs) ys = ap (λ l. node / 2 ∷ l) (halves_join xs ys)

half_if : (b : Bool) (node cell : ℕ) → node / 2 ≡ cell → halves (if b then node ∷ [] else []) ≡ (if b then cell ∷ [] else [])
half_if true node cell is = ap (λ n. n ∷ []) is
half_if false node cell is = refl

-- of two numbers one at most stands for a cell
both : (a b : Bool) (cell : ℕ) → ((if a then cell ∷ [] else []) ++ (if not a && b then cell ∷ [] else [])) ≡ (if a || b then cell ∷ [] else [])
both true b cell = refl
both false true cell = refl
both false false cell = refl

pub halves_below : (is node_is : ℕ → Bool) (count : ℕ)
    → ((cell : ℕ) → ((if node_is (2 * cell) then cell ∷ [] else []) ++ (if node_is (suc (2 * cell)) then cell ∷ [] else [])) ≡ (if is cell then cell ∷ [] else []))
    → halves (cells_below node_is (2 * count)) ≡ cells_below is count
halves_below is node_is zero either = ap halves (below_none node_is) ∙ sym (below_none is)
halves_below is node_is (suc count) either =
    ap (λ n. halves (cells_below node_is n)) twice
    ∙ ap halves (below_more node_is (suc (2 * count)) ∙ ap (λ l. l ++ second) (below_more node_is (2 * count)))
    ∙ halves_join (cells_below node_is (2 * count) ++ first) second
    ∙ ap (λ l. l ++ halves second) (halves_join (cells_below node_is (2 * count)) first)
    ∙ ap (λ l. (halves (cells_below node_is (2 * count)) ++ l) ++ halves second) (half_if (node_is (2 * count)) (2 * count) count (omega arith))
    ∙ ap (λ l. (halves (cells_below node_is (2 * count)) ++ (if node_is (2 * count) then count ∷ [] else [])) ++ l)
    (half_if (node_is (suc (2 * count))) (suc (2 * count)) count (omega arith))
    ∙ append_assoc (halves (cells_below node_is (2 * count))) (if node_is (2 * count) then count ∷ [] else [])
    (if node_is (suc (2 * count)) then count ∷ [] else [])
    ∙ ap (λ l. l ++ ((if node_is (2 * count) then count ∷ [] else []) ++ (if node_is (suc (2 * count)) then count ∷ [] else [])))
    (halves_below is node_is count either)
    ∙ ap (λ l. cells_below is count ++ l) (either count)
    ∙ sym (below_more is count)
  where
    twice : 2 * suc count ≡ suc (suc (2 * count))
    twice = omega arith

    first : List ℕ
    first = if node_is (2 * count) then 2 * count ∷ [] else []

    second : List ℕ
    second = if node_is (suc (2 * count)) then suc (2 * count) ∷ [] else []

-- ## The numbers of a view

even_is : (kind : Kind) (view : View) (cell : ℕ) → node_cell kind view (2 * cell) ≡ own_cell kind view cell
even_is kind view cell =
    ap (λ b. if b then own_cell kind view (2 * cell / 2) else other_than (own_cell kind view (2 * cell / 2)) (led_cell kind view (2 * cell / 2)))
    (eq-eqb (2 * cell % 2) 0 (omega arith))
    ∙ ap (own_cell kind view) half
  where
    half : 2 * cell / 2 ≡ cell
    half = omega arith

odd_is : (kind : Kind) (view : View) (cell : ℕ) → node_cell kind view (suc (2 * cell)) ≡ other_than (own_cell kind view cell) (led_cell kind view cell)
odd_is kind view cell =
    ap (λ b. if b then own_cell kind view (suc (2 * cell) / 2) else other_than (own_cell kind view (suc (2 * cell) / 2)) (led_cell kind view (suc (2 * cell) / 2)))
    (ne_eqb (suc (2 * cell) % 2) 0 odd)
    ∙ ap (λ n. other_than (own_cell kind view n) (led_cell kind view n)) half
  where
    odd : suc (2 * cell) % 2 ≡ 0 → ⊥
    odd is = omega (arith, is)

    half : suc (2 * cell) / 2 ≡ cell
    half = omega arith

pub either_number : (kind : Kind) (view : View) (named cell : ℕ)
    → ((if stands_for kind view named (2 * cell) then cell ∷ [] else []) ++ (if stands_for kind view named (suc (2 * cell)) then cell ∷ [] else []))
    ≡ (if names_by kind view named cell then cell ∷ [] else [])
either_number kind view named cell =
    ap (λ o. (if is_number o named then cell ∷ [] else []) ++ (if stands_for kind view named (suc (2 * cell)) then cell ∷ [] else [])) (even_is kind view cell)
    ∙ ap (λ b. (if is_number own named then cell ∷ [] else []) ++ (if b then cell ∷ [] else []))
    (ap (λ o. is_number o named) (odd_is kind view cell) ∙ other_is own led named)
    ∙ both (is_number own named) (is_number led named) cell
    ∙ ap (λ b. if b then cell ∷ [] else []) (sym (either_way kind view named cell))
  where
    own : Option ℕ
    own = own_cell kind view cell

    led : Option ℕ
    led = led_cell kind view cell

pub chained : (kind : Kind) (view : View) (first next : List (Option ℕ)) → AreNodeChains (stands_for kind view) first next
    → AreChains (names_by kind view) first next
chained kind view first next are = record {
  first_size = are.first_size;
  next_size = are.next_size;
  chains = λ named small. record {
    nodes = cells_below (stands_for kind view named) (2 * CORE);
    chain = are.chains named small;
    are = halves_below (names_by kind view named) (stands_for kind view named) CORE (either_number kind view named);
  };
}

-- what slices of whole vectors leave of them
pub written : (names : ℕ → ℕ → Bool) (count count' : ℕ) (first next old old' : List (Option ℕ)) → length first ≡ count → length next ≡ count'
    → AreChains names first next → AreChains names (take count (first ++ drop (length first) old)) (take count' (next ++ drop (length next) old'))
written names count count' first next old old' size size' chains =
    subst (λ n. AreChains names (take count (first ++ drop (length first) old)) n) (sym (whole count' next old' size'))
    (subst (λ f. AreChains names f next) (sym (whole count first old size)) chains)

-- the chain of a cell, as it is read
pub at_cell : (names : ℕ → ℕ → Bool) (first next lent : List (Option ℕ)) (cell : ℕ) (read : Option ℕ) → AreChains names first next → lent ≡ first
    → cell < CORE → read ≡ slice_index_or lent cell None → HasCells next read (cells_below (names cell) CORE)
at_cell names first next lent cell read are lends small found =
    subst (λ o. HasCells next o (cells_below (names cell) CORE)) (sym (found ∙ ap (λ l. slice_index_or l cell None) lends)) (are.chains cell small)
