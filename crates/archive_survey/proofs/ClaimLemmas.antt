-- Claims of blocks, and runs of blocks that have two.
use Rattle.std.proofs.Common.{◌≡◌, ◌∙◌, ℕ, zero, suc, ◌+◌, ◌-◌, ◌<◌, min, ◌&&◌, Bool, true, false, not, if◌then◌else◌, codes, List, [], ◌++◌, length, slice_index, nat_lt, refl, sym, ap, arith, append_assoc, inl, inr}
use Rattle.std.proofs.lemmas.Bool.{lt-ltb, le-ltb, cases_lt}
use Rattle.archive_survey.specs.Lines.{extent_text, run_length, run_lines, count_runs, claims, is_twice}
use Rattle.archive_survey.specs.Steps.{is_two}
use Rattle.archive_survey.specs.Findings.{Finding}

-- a run goes on
pub run_more : (test : ℕ → Bool) (left place all : ℕ) → 0 < left → test place ≡ true → place + run_length test left place ≡ all
    → place + 1 + run_length test (left - 1) (place + 1) ≡ all
run_more test zero place all some is before = absurd (omega arith)
run_more test (suc left) place all some is before =
    let less : suc left - 1 ≡ left = omega arith in
    let next : place + 1 ≡ suc place = omega arith in
    rw (less, next) (omega (arith, rw is at before))

-- what stands for a block, by whether it has two claims and whether the one before it has
pub runs_more : (test : ℕ → Bool) (before two : Bool) (left block : ℕ) (out new all : List ℕ) → 0 < left → two ≡ test block
    → new ≡ out ++ (if two && not before then codes "TWICE " ++ extent_text block (run_length test left block) else [])
    → out ++ run_lines test before left block ≡ all → new ++ run_lines test two (left - 1) (block + 1) ≡ all
runs_more test before two zero block out new all some two_is put is = absurd (omega arith)
runs_more test before two (suc left) block out new all some two_is put is =
    let less : suc left - 1 ≡ left = omega arith in
    let next : block + 1 ≡ suc block = omega arith in
    rw (put, less, next, two_is)
    (append_assoc out (if test block && not before then codes "TWICE " ++ extent_text block (run_length test (suc left) block) else []) (run_lines test (test block) left (suc block)) ∙ is)

pub counts_more : (test : ℕ → Bool) (before two : Bool) (left block runs begun all : ℕ) → 0 < left → two ≡ test block
    → begun ≡ (if two && not before then 1 else 0)
    → runs + count_runs test before left block ≡ all → runs + begun + count_runs test two (left - 1) (block + 1) ≡ all
counts_more test before two zero block runs begun all some two_is put is = absurd (omega arith)
counts_more test before two (suc left) block runs begun all some two_is put is =
    let less : suc left - 1 ≡ left = omega arith in
    let next : block + 1 ≡ suc block = omega arith in
    rw (put, less, next, two_is) (omega (arith, is))

-- ## Tests that agree

run_length-same : (t s : ℕ → Bool) (left block : ℕ) → ((k : ℕ) → k < block + left → t k ≡ s k) → run_length t left block ≡ run_length s left block
run_length-same t s zero block same = refl
run_length-same t s (suc left) block same =
    rw (same block (omega arith), run_length-same t s left (suc block) (λ k low. same k (omega arith))) refl

pub run_lines-same : (t s : ℕ → Bool) (before : Bool) (left block : ℕ) → ((k : ℕ) → k < block + left → t k ≡ s k) → run_lines t before left block ≡ run_lines s before left block
run_lines-same t s before zero block same = refl
run_lines-same t s before (suc left) block same =
    rw (run_length-same t s (suc left) block same, same block (omega arith), run_lines-same t s (s block) left (suc block) (λ k low. same k (omega arith))) refl

pub count_runs-same : (t s : ℕ → Bool) (before : Bool) (left block : ℕ) → ((k : ℕ) → k < block + left → t k ≡ s k) → count_runs t before left block ≡ count_runs s before left block
count_runs-same t s before zero block same = refl
count_runs-same t s before (suc left) block same =
    rw (same block (omega arith), count_runs-same t s (s block) left (suc block) (λ k low. same k (omega arith))) refl

-- counts up to two tell the same of two
pub two_same : (a b : ℕ) → min 2 a ≡ min 2 b → nat_lt 1 a ≡ nat_lt 1 b
two_same a b same = elim (cases_lt 1 a) [
  | inl more ↦ lt-ltb 1 a more ∙ sym (lt-ltb 1 b (omega (arith, same)))
  | inr less ↦ le-ltb 1 a less ∙ sym (le-ltb 1 b (omega (arith, same)))
]

-- where each count is that of the claims up to two, the tests agree
pub tests_same : (old counts : List ℕ) (found : List Finding) (volume : ℕ) → length old ≡ volume → ((k : ℕ) → slice_index old k ≡ 0)
    → ((k : ℕ) → k < length old → min 2 (slice_index counts k) ≡ min 2 (slice_index old k + claims found k))
    → (k : ℕ) → k < 0 + volume → is_two counts k ≡ is_twice found k
tests_same old counts found volume size zeros is k low =
    two_same (slice_index counts k) (claims found k)
    (is k (omega (arith, size)) ∙ ap (min 2) (ap (λ n. n + claims found k) (zeros k) ∙ omega arith))

-- lines, and after them those of the runs by a test that agrees
pub runs-following : (t s : ℕ → Bool) (volume size : ℕ) (out lines mid new : List ℕ) → size ≡ volume → ((k : ℕ) → k < 0 + volume → t k ≡ s k)
    → mid ≡ out ++ lines → new ≡ mid ++ run_lines t false size 0 → new ≡ out ++ (lines ++ run_lines s false volume 0)
runs-following t s volume size out lines mid new is_size same is_mid is_new =
    is_new
    ∙ ap (λ l. l ++ run_lines t false size 0) is_mid
    ∙ append_assoc out lines (run_lines t false size 0)
    ∙ ap (λ n. out ++ (lines ++ run_lines t false n 0)) is_size
    ∙ ap (λ l. out ++ (lines ++ l)) (run_lines-same t s false volume 0 same)
