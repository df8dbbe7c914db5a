-- The words that the entries of plain lines make.
use Rattle.std.proofs.Common.{◌≡◌, ℕ, ◌+◌, ◌%◌, ◌<◌, None, Ok, List, [], ◌∷◌, ◌++◌, refl, ap, sym, ◌∙◌, arith, append_assoc}
use Rattle.std.proofs.lemmas.List.{append-nil}
use Rattle.pal8_pools.specs.Clashes.{lowest_clash}
use Rattle.pal8_pools.specs.Cells.{ArePairs}
use Rattle.pal8_values.specs.Sums.{Meanings}
use Rattle.pal8_asm.specs.Sources.{Entry}
use Rattle.pal8_asm.specs.Tapes.{TapeWords, late_after, late_after_by, with_entries, with_entry}
use Rattle.pal8_source.proofs.BlockLemmas.{IsWordOf}

-- entries are the words of cells, one by one
abbrev pub AreWords : List Entry → List (ℕ × ℕ) → Type 0
AreWords [] [] = Unit {0}
AreWords [] (pair ∷ pairs) = ⊥
AreWords (e ∷ entries) [] = ⊥
AreWords (e ∷ entries) (pair ∷ pairs) = IsWordOf pair e × AreWords entries pairs

pub one_more : (entries : List Entry) (pairs : List (ℕ × ℕ)) (e : Entry) (pair : ℕ × ℕ) → AreWords entries pairs → IsWordOf pair e
    → AreWords (entries ++ e ∷ []) (pairs ++ pair ∷ [])
one_more [] [] e pair are is = (is, tt)
one_more [] (p ∷ pairs) e pair are is = absurd are
one_more (x ∷ entries) [] e pair are is = absurd are
one_more (x ∷ entries) (p ∷ pairs) e pair are is = (are.0, one_more entries pairs e pair are.1 is)

-- these words, which ask nothing
abbrev pub made_of : List (ℕ × ℕ) → TapeWords
made_of words = record { words = words; asks = []; punched = []; clash = None }

no_clash : (words : List (ℕ × ℕ)) → lowest_clash [] words ≡ None
no_clash [] = refl
no_clash (word ∷ others) = rw (no_clash others) refl

same_low : (w : ℕ) → w < 4096 → (0 + w) % 4096 ≡ w
same_low w small = omega (arith, small)

entry_makes : (own late : Meanings) (e : Entry) (pair : ℕ × ℕ) (before : List (ℕ × ℕ)) → IsWordOf pair e
    → with_entry own late e (Ok (made_of before)) ≡ Ok (made_of (before ++ pair ∷ []))
entry_makes own late e pair before is =
    rw (is.late, is.steps, is.punched, is.cell, same_low pair.1 is.small, no_clash (before ++ pair ∷ [])) refl

not_late : (own late : Meanings) (e : Entry) → e.late ≡ None → late_after own e late ≡ late
not_late own late e none = ap (λ d. late_after_by own e d late) none

pub entries_make : (own late : Meanings) (entries : List Entry) (pairs before : List (ℕ × ℕ)) → AreWords entries pairs
    → with_entries own late entries (Ok (made_of before)) ≡ Ok (made_of (before ++ pairs))
entries_make own late [] [] before are = ap (λ l. Ok (made_of l)) (sym (append-nil before))
entries_make own late [] (p ∷ pairs) before are = absurd are
entries_make own late (e ∷ entries) [] before are = absurd are
entries_make own late (e ∷ entries) (pair ∷ pairs) before are =
    ap (λ l. with_entries own l entries (with_entry own late e (Ok (made_of before)))) (not_late own late e are.0.late)
    ∙ ap (with_entries own late entries) (entry_makes own late e pair before are.0)
    ∙ entries_make own late entries pairs (before ++ pair ∷ []) are.1
    ∙ ap (λ l. Ok (made_of l)) (append_assoc before (pair ∷ []) pairs)

-- nothing is asked, so there is no pool
pub no_pool : ArePairs [] [] []
no_pool = record { rise = tt; each = λ c v. ((λ is. absurd is), λ pair. absurd pair.is_asked) }
