-- The lines of segments.
use Rattle.std.proofs.Common.{◌≡◌, ◌∙◌, ℕ, zero, suc, ◌<◌, ◌-◌, Bool, true, false, true≢false, if◌then◌else◌, List, [], ◌++◌, length, get_or, refl, ap, sym, arith, nat_lt, append_assoc, Some, slice_get}
use Rattle.std.proofs.lemmas.Bool.{lt-ltb}
use Rattle.std.proofs.lemmas.Option.{get_or_from_slice_get}
use Rattle.std.proofs.lemmas.Grind.{get_or_default_zero}
use Rattle.os8_dir.specs.Reading.{block, word}
use Rattle.archive_files.specs.Checking.{segment_line, segment_lines}

-- one segment along the links
pub segment_step : (left next number : ℕ) (blocks : List (List ℕ)) → left ≡ suc next → 0 < number → number < 7
    → segment_lines left blocks number ≡ segment_line number (word (block blocks number) 0) ++ segment_lines next blocks (word (block blocks number) 2)
segment_step left next zero blocks is some most = absurd (omega (arith, some))
segment_step left next (suc number) blocks is some most = rw is (go (nat_lt number 6) (lt-ltb number 6 (omega (arith, most))))
  where
    go : (b : Bool) → b ≡ true
        → (if b then segment_line (suc number) (word (block blocks (suc number)) 0) ++ segment_lines next blocks (word (block blocks (suc number)) 2) else [])
        ≡ segment_line (suc number) (word (block blocks (suc number)) 0) ++ segment_lines next blocks (word (block blocks (suc number)) 2)
    go true is = refl
    go false is = absurd (true≢false (sym is))

-- a word of a block that was read
pub word_is : (blocks : List (List ℕ)) (n k x : ℕ) (words : List ℕ) → slice_get blocks n ≡ Some words → k < length words → x ≡ get_or words k x → word (block blocks n) k ≡ x
word_is blocks n k x words is inside read =
    ap (λ (w : List ℕ). word w k) (get_or_from_slice_get blocks n words [] is) ∙ sym (read ∙ get_or_default_zero words k x inside)

-- the lines so far, with those of one segment more
pub lines_more : (left number first link : ℕ) (blocks : List (List ℕ)) (out new all : List ℕ) → 0 < left → 0 < number → number < 7
    → word (block blocks number) 0 ≡ first → word (block blocks number) 2 ≡ link
    → new ≡ out ++ segment_line number first → out ++ segment_lines left blocks number ≡ all → new ++ segment_lines (left - 1) blocks link ≡ all
lines_more left number first link blocks out new all more some most is_first is_link put before =
    rw (put, ← is_first, ← is_link)
    (append_assoc out (segment_line number (word (block blocks number) 0)) (segment_lines (left - 1) blocks (word (block blocks number) 2))
    ∙ ap (λ l. out ++ l) (sym (segment_step left (left - 1) number blocks (omega (arith, more)) some most)) ∙ before)
