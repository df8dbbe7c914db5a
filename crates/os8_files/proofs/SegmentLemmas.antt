-- The words that are kept of blocks 1 to 6.
use Rattle.std.proofs.Common.{ℕ, zero, suc, ◌+◌, ◌≤◌, Bool, true, false, List, [], nat_lt, if◌then◌else◌, slice_set, sym, ◌∙◌, arith, get_or-set_other}
use Rattle.volume_image.specs.Volume.{next_count}
use Rattle.os8_files.specs.Mounted.{AreSegments}
use Rattle.os8_files.specs.Calls.{counted_more}
use Rattle.os8_files.specs.WriteSteps.{with_run}
use Rattle.os8_files.proofs.RunLemmas.{block-with_run}

pub segments-written : (blocks kept : List (List ℕ)) (place : ℕ) (words : List ℕ) → AreSegments blocks kept → 7 ≤ place → AreSegments (slice_set blocks place words) kept
segments-written blocks kept place words are high = record {
  size = are.size;
  words = λ k few. are.words k few ∙ sym (get_or-set_other blocks place (k + 1) words [] (omega (arith, few, high)));
}

pub segments-run : (blocks kept : List (List ℕ)) (place : ℕ) (ws : List (List ℕ)) → AreSegments blocks kept → 7 ≤ place → AreSegments (with_run blocks place ws) kept
segments-run blocks kept place ws are high = record {
  size = are.size;
  words = λ k few. are.words k few ∙ sym (block-with_run blocks place ws (k + 1) (omega (arith, few, high)));
}

-- A count after so many more has risen by at most so many.
pub counted-few : (n : ℕ) → next_count n ≤ n + 1
counted-few n = by (nat_lt n 18446744073709551615)
  where
    by : (b : Bool) → (if b then n + 1 else n) ≤ n + 1
    by true = omega arith
    by false = omega arith

pub counted_more-few : (k n : ℕ) → counted_more k n ≤ n + k
counted_more-few zero n = omega arith
counted_more-few (suc k) n = omega (arith, counted-few (counted_more k n), counted_more-few k n)
