-- How often cells are fetched, step by step.
use Rattle.std.proofs.Common.{◌≡◌, ℕ, zero, suc, ◌+◌, ◌<◌, ◌≤◌, ◌^◌, inl, inr, Bool, true, false, ◌&&◌, nat_eq, if◌then◌else◌, List, None, length, slice_index_or, slice_set, add-one, length-set, refl, ap, sym, subst, ◌∙◌, arith}
use Rattle.std.proofs.lemmas.Bool.{cases_eq, eq-eqb, ne_eqb}
use Rattle.std.proofs.lemmas.List.{get_or-set_same, get_or-set_other}
use Rattle.word12.specs.declared.sizes.TheConstants.{CORE}
use Rattle.cpu8.specs.State.{State, next_cell}
use Rattle.cpu8.specs.Step.{next_word}
use Rattle.cpu8.specs.Go.{printing_step, after, answer}
use Rattle.cpu8.specs.QuietSteps.{is_quiet, Does}
use Rattle.cpu8.specs.Fetches.{is_fetch, fetches, fetch_count, AddsFetches, HaveRoom}
use Rattle.cpu8.specs.declared.outcomes.Stepped.TheVariants.{Ran}
use Rattle.cpu8.proofs.QuietLemmas.{printing_step-quiet}

count-none : (s : State) (cell : ℕ) → fetch_count 0 s cell ≡ 0
unfolding fetch_count
count-none s cell = refl

count-next : (k : ℕ) (s : State) (cell : ℕ) → fetch_count (k + 1) s cell ≡ fetch_count k s cell + (if fetches k s cell then 1 else 0)
unfolding fetch_count
count-next k s cell = rw add-one refl

one_at_most : (b : Bool) → (if b then 1 else 0) ≤ 1
one_at_most true = omega arith
one_at_most false = omega arith

-- no more fetches than steps
pub count-most : (k : ℕ) (s : State) (cell : ℕ) → fetch_count k s cell ≤ k
count-most zero s cell = omega (arith, count-none s cell)
count-most (suc k) s cell =
    let e : suc k ≡ k + 1 = omega arith in
    subst (λ n. fetch_count n s cell ≤ n) (sym e)
    (omega (arith, count-most k s cell, count-next k s cell, one_at_most (fetches k s cell)))

-- a step that is an instruction fetches the word of the next cell
fetches-ran : (k : ℕ) (s : State) (here cell : ℕ) → answer true k s ≡ Ran None → next_cell (after true k s) ≡ here → fetches k s cell ≡ nat_eq here cell
fetches-ran k s here cell ran at = ap (λ did. is_fetch did && nat_eq (next_cell (after true k s)) cell) ran ∙ ap (λ c. nat_eq c cell) at

count-by : (k : ℕ) (s : State) (here cell : ℕ) (b : Bool) → answer true k s ≡ Ran None → next_cell (after true k s) ≡ here → nat_eq here cell ≡ b
    → fetch_count (k + 1) s cell ≡ fetch_count k s cell + (if b then 1 else 0)
count-by k s here cell b ran at is =
    count-next k s cell ∙ ap (λ (b : Bool). fetch_count k s cell + (if b then 1 else 0)) (fetches-ran k s here cell ran at ∙ is)

-- ## Counts of all cells

pub adds-none : (s : State) (counts : List ℕ) → AddsFetches 0 s counts counts
adds-none s counts = record { size = refl; cells = λ cell below. omega (arith, count-none s cell) }

-- one more is counted
adds-one : (k : ℕ) (s : State) (here : ℕ) (old counts : List ℕ) → length old ≡ CORE → AddsFetches k s old counts → here < CORE
    → answer true k s ≡ Ran None → next_cell (after true k s) ≡ here
    → AddsFetches (k + 1) s old (slice_set counts here (slice_index_or counts here 0 + 1))
adds-one k s here old counts whole adds within ran at = record {
  size = length-set counts here (slice_index_or counts here 0 + 1) ∙ adds.size;
  cells = λ cell below. elim (cases_eq cell here) [
    | inl same ↦
        let inside : here < length counts = subst (λ n. here < n) (sym (adds.size ∙ whole)) within in
        let set =
        ap (λ c. slice_index_or (slice_set counts here (slice_index_or counts here 0 + 1)) c 0) same
        ∙ get_or-set_same counts here (slice_index_or counts here 0 + 1) 0 inside in
        let before = adds.cells here within in
        let more = count-by k s here here true ran at (eq-eqb here here refl) in
        let was = ap (λ c. slice_index_or old c 0) same in
        let count = ap (λ c. fetch_count (k + 1) s c) same in
        omega (arith, set, before, more, was, count)
    | inr apart ↦
        let set = get_or-set_other counts here cell (slice_index_or counts here 0 + 1) 0 apart in
        let before = adds.cells cell below in
        let more = count-by k s here cell false ran at (ne_eqb here cell (λ same. apart (sym same))) in
        omega (arith, set, before, more)
  ];
}

pub adds-next : (k : ℕ) (s old new : State) (here : ℕ) (from counts : List ℕ) → length from ≡ CORE → AddsFetches k s from counts
    → old ≡ after true k s → is_quiet true old ≡ true → Does old (next_word old) new → here ≡ next_cell old → here < CORE
    → AddsFetches (k + 1) s from (slice_set counts here (slice_index_or counts here 0 + 1))
adds-next k s old new here from counts whole adds at h does is within =
    let ran : answer true k s ≡ Ran None =
    ap (λ x. (printing_step true x).1) (sym at) ∙ (ap (λ p. p.1) (printing_step-quiet true old h) ∙ sym does.answer) in
    adds-one k s here from counts whole adds within ran (ap (λ x. next_cell x) (sym at) ∙ sym is)

-- there is room for one more
pub adds-room : (k n : ℕ) (s : State) (old counts : List ℕ) (cell : ℕ) → AddsFetches k s old counts → HaveRoom n old → k < n → cell < CORE
    → slice_index_or counts cell 0 + 1 < 2 ^ 64
adds-room k n s old counts cell adds room more within =
    let most = count-most k s cell in
    let is = adds.cells cell within in
    let enough = room cell in
    omega (arith, most, is, enough, more)
