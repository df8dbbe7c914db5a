-- The chances of blocks.
use Rattle.std.proofs.Common.{◌≡◌, ◌∙◌, ℕ, zero, suc, ◌+◌, ◌-◌, ◌*◌, ◌<◌, ◌≤◌, true, true≢false, List, [], ◌∷◌, ◌++◌, length, take, drop, get_or, length-append, refl, sym, ap, subst, arith, inl, inr}
use Rattle.std.proofs.lemmas.Bool.{cases_lt}
use Rattle.std.proofs.Math.Seq.{get_or-append_seam}
use Rattle.std.proofs.lemmas.List.{get_or_append_left}
use Rattle.char_pack.specs.declared.packing.TheConstants.{BLOCK_FRAMES}
use Rattle.bin_tape.specs.Items.{Item}
use Rattle.bin_tape.specs.Tape.{IsTape}
use Rattle.rim_tape.specs.Fault.{IsSomeRim}
use Rattle.file_kind.specs.Kinds.{IsSomeTape}
use Rattle.block_scan.specs.Chances.{AreChances, IsChance, RulesOut}
use Rattle.block_scan.specs.TailSteps.{no_tails, tails_of}
use Rattle.block_scan.specs.declared.chances.Chance.{Chance}
use Rattle.block_scan.specs.declared.tails.Tails.{Tails}
use Rattle.block_scan.proofs.ProgramLemmas.{more-rim, more-tape}
use Rattle.block_scan.proofs.TailLemmas.{bin-tail, rim-tail, tails-append}

-- ## One walk

take-drop : (n : ℕ) (xs : List ℕ) → take n xs ++ drop n xs ≡ xs
take-drop zero xs = refl
take-drop (suc n) [] = refl
take-drop (suc n) (x ∷ xs) = ap (λ l. x ∷ l) (take-drop n xs)

drop-nil : (n : ℕ) → drop {A = ℕ} n [] ≡ []
drop-nil zero = refl
drop-nil (suc n) = refl

drop-more : (n k : ℕ) (xs : List ℕ) → drop k (drop n xs) ≡ drop (n + k) xs
drop-more zero k xs =
    let same : 0 + k ≡ k = omega arith in
    ap (λ m. drop m xs) (sym same)
drop-more (suc n) k [] = drop-nil k ∙ sym (drop-nil (suc n + k))
drop-more (suc n) k (x ∷ xs) =
    let same : suc n + k ≡ suc (n + k) = omega arith in
    drop-more n k xs ∙ ap (λ m. drop m (x ∷ xs)) (sym same)

block-before : (all here after : List ℕ) (block next : ℕ) (tails new : Tails) → next ≡ block + 1 → after ≡ drop (BLOCK_FRAMES * block) all → here ≡ take BLOCK_FRAMES after
    → tails ≡ tails_of (drop (BLOCK_FRAMES * next) all) no_tails → new ≡ tails_of here tails → new ≡ tails_of (drop (BLOCK_FRAMES * block) all) no_tails
block-before all here after block next tails new is_next is_after is_here are is_new =
    let place : BLOCK_FRAMES * next ≡ BLOCK_FRAMES * block + BLOCK_FRAMES = omega (arith, is_next) in
    let from : List ℕ = drop (BLOCK_FRAMES * block) all in
    is_new
    ∙ ap (tails_of here) (are ∙ ap (λ n. tails_of (drop n all) no_tails) place ∙ ap (λ l. tails_of l no_tails) (sym (drop-more (BLOCK_FRAMES * block) BLOCK_FRAMES all)))
    ∙ ap (λ l. tails_of l (tails_of (drop BLOCK_FRAMES from) no_tails)) (is_here ∙ ap (take BLOCK_FRAMES) is_after)
    ∙ sym (tails-append (take BLOCK_FRAMES from) (drop BLOCK_FRAMES from) no_tails)
    ∙ ap (λ l. tails_of l no_tails) (take-drop BLOCK_FRAMES from)

-- one block more
pub earlier-block : (all here after : List ℕ) (block : ℕ) (tails new : Tails) → 0 < block → after ≡ drop (BLOCK_FRAMES * (block - 1)) all → here ≡ take BLOCK_FRAMES after
    → tails ≡ tails_of (drop (BLOCK_FRAMES * block) all) no_tails → new ≡ tails_of here tails → new ≡ tails_of (drop (BLOCK_FRAMES * (block - 1)) all) no_tails
earlier-block all here after block tails new some is_after is_here are is_new = block-before all here after (block - 1) block tails new (omega (arith, some)) is_after is_here are is_new

-- ## The chances

-- those of the blocks from one on
pub record AreFrom (all : List ℕ) (count block : ℕ) (chances : List Chance) : Type 0 where
  pub size : length chances + block ≡ count
  pub each : (place : ℕ) → block ≤ place → place < count → IsChance (drop (BLOCK_FRAMES * place) all) (get_or chances (count - 1 - place) (record { bin = true; rim = true }))

pub no-block : (all : List ℕ) (count : ℕ) → AreFrom all count count []
no-block all count = record { size = omega arith; each = λ place from before. absurd (omega (arith, from, before)) }

is-chance : (all : List ℕ) (block : ℕ) (chance : Chance) (tails : Tails) → tails ≡ tails_of (drop (BLOCK_FRAMES * block) all) no_tails → chance.bin ≡ tails.bin.if_heeded.is_tape
    → chance.rim ≡ tails.rim.is_tape → IsChance (drop (BLOCK_FRAMES * block) all) chance
is-chance all block chance tails are bin rim = record {
  bin = λ tape. bin ∙ ap (λ t. t.bin.if_heeded.is_tape) are ∙ bin-tail (drop (BLOCK_FRAMES * block) all) tape.items tape.is_tape;
  rim = λ tape. rim ∙ ap (λ t. t.rim.is_tape) are ∙ rim-tail (drop (BLOCK_FRAMES * block) all) tape.pairs tape.is_rim;
}

one-block : (all : List ℕ) (count block : ℕ) (chance : Chance) (chances : List Chance) (tails : Tails) → AreFrom all count (block + 1) chances
    → tails ≡ tails_of (drop (BLOCK_FRAMES * block) all) no_tails → chance.bin ≡ tails.bin.if_heeded.is_tape → chance.rim ≡ tails.rim.is_tape → AreFrom all count block (chances ++ chance ∷ [])
one-block all count block chance chances tails are is bin rim = record {
  size = omega (arith, are.size, length-append chances (chance ∷ []));
  each = λ place from before.
      elim (cases_lt block place) [
        | inl above ↦
            subst (λ c. IsChance (drop (BLOCK_FRAMES * place) all) c)
            (sym (get_or_append_left chances (chance ∷ []) (record { bin = true; rim = true }) (count - 1 - place) (omega (arith, above, before, are.size))))
            (are.each place (omega (arith, above)) before)
        | inr here ↦
            let same : place ≡ block = omega (arith, from, here) in
            let last : count - 1 - place ≡ length chances = omega (arith, same, are.size) in
            rw (last, same)
            (subst (λ c. IsChance (drop (BLOCK_FRAMES * block) all) c) (sym (get_or-append_seam chances chance [] (record { bin = true; rim = true })))
            (is-chance all block chance tails is bin rim))
      ];
}

pub one-more-block : (all : List ℕ) (count block : ℕ) (chance : Chance) (chances new : List Chance) (tails : Tails) → 0 < block → new ≡ chances ++ chance ∷ [] → AreFrom all count block chances
    → tails ≡ tails_of (drop (BLOCK_FRAMES * (block - 1)) all) no_tails → chance.bin ≡ tails.bin.if_heeded.is_tape → chance.rim ≡ tails.rim.is_tape → AreFrom all count (block - 1) new
one-more-block all count block chance chances new tails some is_new are is bin rim =
    let same : block ≡ block - 1 + 1 = omega (arith, some) in
    subst (AreFrom all count (block - 1)) (sym is_new) (one-block all count (block - 1) chance chances tails (subst (λ n. AreFrom all count n chances) same are) is bin rim)

pub all-blocks : (all : List ℕ) (count block : ℕ) (chances : List Chance) → block ≡ 0 → AreFrom all count block chances → AreChances all count chances
all-blocks all count block chances none are = record {
  size = omega (arith, none, are.size);
  each = λ place before. are.each place (omega (arith, none)) before;
}

-- ## Without a chance

pub rules-out : ((frames more : List ℕ) (items : List Item) → IsTape frames items → IsTape (frames ++ more) items) → (words all : List ℕ) (left : ℕ) (chance : Chance) → IsChance all chance
    → RulesOut words all left chance
rules-out law words all left chance is = record {
  bin = λ none n some few heads.
      true≢false (sym (is.bin (subst IsSomeTape (take-drop (BLOCK_FRAMES * n) all) (more-tape law (take (BLOCK_FRAMES * n) all) (drop (BLOCK_FRAMES * n) all) heads))) ∙ none);
  rim = λ none n some few heads.
      true≢false (sym (is.rim (subst IsSomeRim (take-drop (BLOCK_FRAMES * n) all) (more-rim (take (BLOCK_FRAMES * n) all) (drop (BLOCK_FRAMES * n) all) heads))) ∙ none);
}
