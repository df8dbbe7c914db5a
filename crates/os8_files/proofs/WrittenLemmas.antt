-- What blocks hold where segments are written to them.
use Rattle.std.proofs.Common.{◌≡◌, ℕ, zero, suc, ◌+◌, ◌-◌, ◌*◌, ◌<◌, ◌≤◌, All, List, [], ◌∷◌, ◌++◌, length, take, drop, get_or, slice_set, refl, ap, sym, subst, ◌∙◌, arith, add-one, get_or-set_other, get_or-set_same, Option, Some, None, inl, inr}
use Rattle.std.proofs.Math.ListN.{length-set}
use Rattle.std.proofs.Math.Seq.{take-append_seam, drop-append-add}
use Rattle.std.proofs.lemmas.List.{drop-set-lt}
use Rattle.std.proofs.lemmas.List.Elements.{All-head, All-tail}
use Rattle.std.proofs.lemmas.Bool.Decides.{eqb_tells}
use Rattle.os8_dir.specs.Entries.{DirectoryState}
use Rattle.os8_dir.specs.Reading.{block}
use Rattle.os8_dir.specs.Found.{FilePlace}
use Rattle.os8_dir.specs.Files.{join_blocks, run, data_if_there}
use Rattle.os8_dir.specs.Segments.{segment_of}
use Rattle.os8_files.specs.WriteSteps.{with_segments, KeepsHigh}

pub segments-next : (k : ℕ) (d : DirectoryState) (blocks : List (List ℕ)) → with_segments (k + 1) d blocks ≡ slice_set (with_segments k d blocks) (k + 1) (segment_of d k)
segments-next k d blocks = ap (λ j. with_segments j d blocks) (add-one k) ∙ ap (λ j. slice_set (with_segments k d blocks) j (segment_of d k)) (sym (add-one k))

pub length-segments : (k : ℕ) (d : DirectoryState) (blocks : List (List ℕ)) → length (with_segments k d blocks) ≡ length blocks
length-segments zero d blocks = refl
length-segments (suc k) d blocks = length-set (with_segments k d blocks) (suc k) (segment_of d k) ∙ length-segments k d blocks

pub block-segments : (n : ℕ) (d : DirectoryState) (blocks : List (List ℕ)) (k : ℕ) → n < length blocks → k < n → block (with_segments n d blocks) (k + 1) ≡ segment_of d k
block-segments zero d blocks k inside less = absurd (omega (arith, less))
block-segments (suc n) d blocks k inside less =
    elim (eqb_tells k n) [
      | inl p ↦ let e : k + 1 ≡ suc n = omega (arith, p.1) in ap (λ j. get_or (slice_set (with_segments n d blocks) (suc n) (segment_of d n)) j []) e
          ∙ get_or-set_same (with_segments n d blocks) (suc n) (segment_of d n) [] (omega (arith, inside, length-segments n d blocks))
          ∙ ap (segment_of d) (sym p.1)
      | inr p ↦ get_or-set_other (with_segments n d blocks) (suc n) (k + 1) (segment_of d n) [] (omega (arith, p.1))
          ∙ block-segments n d blocks k (omega (arith, inside)) (omega (arith, less, p.1))
    ]

pub drop-segments : (n : ℕ) (d : DirectoryState) (blocks : List (List ℕ)) → n ≤ 6 → drop 7 (with_segments n d blocks) ≡ drop 7 blocks
drop-segments zero d blocks few = refl
drop-segments (suc n) d blocks few = drop-set-lt 7 (with_segments n d blocks) (suc n) (segment_of d n) (omega (arith, few)) ∙ drop-segments n d blocks (omega (arith, few))

pub first-segments : (n : ℕ) (d : DirectoryState) (blocks : List (List ℕ)) → block (with_segments n d blocks) 0 ≡ block blocks 0
first-segments zero d blocks = refl
first-segments (suc n) d blocks = get_or-set_other (with_segments n d blocks) (suc n) 0 (segment_of d n) [] (omega arith) ∙ first-segments n d blocks

pub unused-segments : (n : ℕ) (d : DirectoryState) (blocks : List (List ℕ)) (k : ℕ) → n < k → block (with_segments n d blocks) k ≡ block blocks k
unused-segments zero d blocks k more = refl
unused-segments (suc n) d blocks k more = get_or-set_other (with_segments n d blocks) (suc n) k (segment_of d n) [] (omega (arith, more)) ∙ unused-segments n d blocks k (omega (arith, more))

-- Some segments are written, and one that comes next has any words.
pub keeps-high : (n : ℕ) (d : DirectoryState) (old mid new : List (List ℕ)) (words : List ℕ) → n < 6 → mid ≡ with_segments n d old → new ≡ slice_set mid (n + 1) words → KeepsHigh old new
keeps-high n d old mid new words few at is =
    let mid-high : drop 7 mid ≡ drop 7 old = ap (drop 7) at ∙ drop-segments n d old (omega (arith, few)) in
    let mid-first : block mid 0 ≡ block old 0 = ap (λ bs. block bs 0) at ∙ first-segments n d old in
    let mid-size : length mid ≡ length old = ap (λ (bs : List (List ℕ)). length bs) at ∙ length-segments n d old in
    record {
      high = ap (drop 7) is ∙ drop-set-lt 7 mid (n + 1) words (omega (arith, few)) ∙ mid-high;
      first = ap (λ bs. block bs 0) is ∙ get_or-set_other mid (n + 1) 0 words [] (omega arith) ∙ mid-first;
      size = ap (λ (bs : List (List ℕ)). length bs) is ∙ length-set mid (n + 1) words ∙ mid-size;
    }

drop-none : {A : Type 0} (n : ℕ) → drop {A = A} n [] ≡ []
drop-none zero = refl
drop-none (suc n) = refl

drop-more : {A : Type 0} (n k : ℕ) (xs : List A) → drop (n + k) xs ≡ drop k (drop n xs)
drop-more zero k xs = let e : zero + k ≡ k = omega arith in ap (λ j. drop j xs) e
drop-more (suc n) k [] = drop-none (suc n + k) ∙ sym (drop-none k)
drop-more (suc n) k (x ∷ xs) = let e : suc n + k ≡ suc (n + k) = omega arith in ap (λ j. drop j (x ∷ xs)) e ∙ drop-more n k xs

-- A run of blocks that lie above the segments.
pub run-high : (old new : List (List ℕ)) (place size : ℕ) → drop 7 new ≡ drop 7 old → 7 ≤ place → run new place size ≡ run old place size
run-high old new place size same high =
    let e : place ≡ 7 + (place - 7) = omega (arith, high) in
    ap (λ p. join_blocks (take size (drop p new))) e
    ∙ ap (λ bs. join_blocks (take size bs)) (drop-more 7 (place - 7) new ∙ ap (drop (place - 7)) same ∙ sym (drop-more 7 (place - 7) old))
    ∙ ap (λ p. join_blocks (take size (drop p old))) (sym e)

-- What is held of a file whose run is the same.
pub held-kept : (old new : List (List ℕ)) (info : ℕ) (f : Option FilePlace) → ((g : FilePlace) → f ≡ Some g → run new g.place g.size ≡ run old g.place g.size) → data_if_there new info f ≡ data_if_there old info f
held-kept old new info None kept = refl
held-kept old new info (Some f) kept = ap (λ r. Some (take info f.info, r)) (kept f refl)

-- One block of joined blocks.
pub block-joined : (size : ℕ) (bs : List (List ℕ)) (k : ℕ) → All (λ (words : List ℕ). length words ≡ size) bs → k < length bs → take size (drop (size * k) (join_blocks bs)) ≡ get_or bs k []
block-joined size [] k each inside = absurd (omega (arith, inside))
block-joined size (b ∷ bs) zero each inside =
    let e : size * zero ≡ 0 = omega arith in
    ap (λ n. take size (drop n (b ++ join_blocks bs))) e
    ∙ subst (λ n. take n (b ++ join_blocks bs) ≡ b) (All-head (λ (words : List ℕ). length words ≡ size) b bs each) (take-append_seam b (join_blocks bs))
block-joined size (b ∷ bs) (suc k) each inside =
    let long : length b ≡ size = All-head (λ (words : List ℕ). length words ≡ size) b bs each in
    let e : size * suc k ≡ length b + size * k = omega (arith, long) in
    ap (λ n. take size (drop n (b ++ join_blocks bs))) e
    ∙ ap (take size) (drop-append-add b (join_blocks bs) (size * k))
    ∙ block-joined size bs k (All-tail (λ (words : List ℕ). length words ≡ size) b bs each) (omega (arith, inside))
