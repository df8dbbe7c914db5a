-- How many blocks are written where a directory is.
use lib.Pointwise.{pointwise}
use Rattle.std.proofs.Common.{◌≡◌, ℕ, zero, suc, ◌+◌, ◌<◌, ◌≤◌, Bool, true, false, List, [], nat_eq, length, slice_set, if◌then◌else◌, refl, ap, sym, ◌∙◌, arith, add-one, get_or-set_other, inl, inr}
use Rattle.std.proofs.lemmas.Bool.Decides.{Decides-eqb, eqb_tells}
use Rattle.std.proofs.lemmas.Slice.Eq.{slice_eq-Decides}
use Rattle.os8_dir.specs.Entries.{DirectoryState}
use Rattle.os8_dir.specs.Reading.{block}
use Rattle.volume_image.specs.Volume.{next_count}
use Rattle.os8_dir.specs.Segments.{segment_of, segment_count}
use Rattle.os8_files.specs.Calls.{differing, counted_more, StopsInPart}
use Rattle.os8_files.specs.WriteSteps.{count_of_changed, with_segments}
use Rattle.os8_files.proofs.WrittenLemmas.{block-segments, unused-segments}

pub same-list : (xs : List ℕ) → pointwise nat_eq xs xs ≡ true
same-list xs = (slice_eq-Decides Decides-eqb xs xs _ refl).1 refl

-- A block that is as before is not counted.
not-counted : (m : ℕ) (old new : List (List ℕ)) → block new (suc m) ≡ block old (suc m) → differing (suc m) old new ≡ differing m old new
not-counted m old new same =
    ap (λ ws. if pointwise nat_eq (block old (suc m)) ws then differing m old new else suc (differing m old new)) same
    ∙ ap (λ b. if b then differing m old new else suc (differing m old new)) (same-list (block old (suc m)))

-- Of the blocks that have other words each holds a segment that was written.
pub counts : (n : ℕ) (d : DirectoryState) (old new : List (List ℕ)) → n < length old → new ≡ with_segments n d old → (m : ℕ) → (m ≤ n → differing m old new ≡ count_of_changed m d old) × (n ≤ m → differing m old new ≡ count_of_changed n d old)
counts n d old new inside is zero = ((λ low. refl), (λ none. ap (λ j. count_of_changed j d old) (sym (zero-of none))))
  where
    zero-of : n ≤ zero → n ≡ 0
    zero-of none = omega (arith, none)
counts n d old new inside is (suc m) =
    let following = counts n d old new inside is m in
    let low : suc m ≤ n → differing (suc m) old new ≡ count_of_changed (suc m) d old = λ less.
    let e : suc m ≡ m + 1 = sym (add-one m) in
    let at : block new (suc m) ≡ segment_of d m = ap (λ j. block new j) e ∙ ap (λ bs. block bs (m + 1)) is ∙ block-segments n d old m inside (omega (arith, less)) in
    ap (λ ws. if pointwise nat_eq (block old (suc m)) ws then differing m old new else suc (differing m old new)) at
    ∙ ap (λ j. if pointwise nat_eq (block old (suc m)) (segment_of d m) then j else suc j) (following.0 (omega (arith, less))) in (
      low,
      λ more. elim (eqb_tells n (suc m)) [
        | inl p ↦ let e : suc m ≤ n = omega (arith, p.1) in low e ∙ ap (λ j. count_of_changed j d old) (sym p.1)
        | inr p ↦ not-counted m old new (ap (λ bs. block bs (suc m)) is ∙ unused-segments n d old (suc m) (omega (arith, more, p.1))) ∙ following.1 (omega (arith, more, p.1))
      ],
    )

pub few-writes : (n : ℕ) (d : DirectoryState) (old new : List (List ℕ)) → n ≤ 6 → n < length old → new ≡ with_segments n d old → count_of_changed n d old ≡ differing 6 old new
few-writes n d old new few inside is = sym ((counts n d old new inside is 6).1 few)

-- As many blocks differ from those that are the same.
differing-to : (m : ℕ) (old mid new : List (List ℕ)) → ((k : ℕ) → k ≤ m → block new k ≡ block mid k) → differing m old new ≡ differing m old mid
differing-to zero old mid new same = refl
differing-to (suc m) old mid new same =
    ap (λ ws. if pointwise nat_eq (block old (suc m)) ws then differing m old new else suc (differing m old new)) (same (suc m) (omega arith))
    ∙ ap (λ j. if pointwise nat_eq (block old (suc m)) (block mid (suc m)) then j else suc j) (differing-to m old mid new (λ k low. same k (omega (arith, low))))

-- A segment was not written after so many others.
pub stops-in-part : (n : ℕ) (d : DirectoryState) (old mid new : List (List ℕ)) (words : List ℕ) (before after : ℕ) → n < segment_count d → n < 6 → n < length old → mid ≡ with_segments n d old → new ≡ slice_set mid (n + 1) words → after ≡ next_count (counted_more (count_of_changed n d old) before) → StopsInPart old new d before after
stops-in-part n d old mid new words before after taken low inside at is risen = record {
  part = record {
    number = n;
    taken = taken;
    low = low;
    below = λ k under. ap (λ bs. block bs (k + 1)) is ∙ get_or-set_other mid (n + 1) (k + 1) words [] (omega (arith, under)) ∙ ap (λ bs. block bs (k + 1)) at ∙ block-segments n d old k inside under;
    above = λ k high few. ap (λ bs. block bs k) is ∙ get_or-set_other mid (n + 1) k words [] (omega (arith, high)) ∙ ap (λ bs. block bs k) at ∙ unused-segments n d old k (omega (arith, high));
  };
  writes = risen ∙ ap (λ j. next_count (counted_more j before)) (sym (
      differing-to n old mid new (λ k under. ap (λ bs. block bs k) is ∙ get_or-set_other mid (n + 1) k words [] (omega (arith, under)))
      ∙ (counts n d old mid inside at n).0 (omega arith)));
}

-- The same blocks differ from those that are the same.
pub differing-same : (m : ℕ) (old mid new : List (List ℕ)) → ((k : ℕ) → k ≤ m → block mid k ≡ block old k) → differing m mid new ≡ differing m old new
differing-same zero old mid new same = refl
differing-same (suc m) old mid new same =
    ap (λ ws. if pointwise nat_eq ws (block new (suc m)) then differing m mid new else suc (differing m mid new)) (same (suc m) (omega arith))
    ∙ ap (λ j. if pointwise nat_eq (block old (suc m)) (block new (suc m)) then j else suc j) (differing-same m old mid new (λ k low. same k (omega (arith, low))))

-- one segment more is written, or not where it has the words
pub count-next : (k : ℕ) (d : DirectoryState) (old mid : List (List ℕ)) (words : List ℕ) (before now after : ℕ) → mid ≡ with_segments k d old → words ≡ segment_of d k → now ≡ counted_more (count_of_changed k d old) before
    → after ≡ (if pointwise nat_eq (block mid (k + 1)) words then now else next_count now) → after ≡ counted_more (count_of_changed (k + 1) d old) before
count-next k d old mid words before now after is segment sofar told =
    told
    ∙ ap (λ b. if pointwise nat_eq b words then now else next_count now) (ap (λ bs. block bs (k + 1)) is ∙ unused-segments k d old (k + 1) (omega arith) ∙ ap (block old) (add-one k))
    ∙ ap (λ w. if pointwise nat_eq (block old (suc k)) w then now else next_count now) segment
    ∙ ap (λ n. if pointwise nat_eq (block old (suc k)) (segment_of d k) then n else next_count n) sofar
    ∙ cases (pointwise nat_eq (block old (suc k)) (segment_of d k)) (count_of_changed k d old)
    ∙ ap (λ j. counted_more (count_of_changed j d old) before) (sym (add-one k))
  where
    cases : (b : Bool) (n : ℕ) → (if b then counted_more n before else next_count (counted_more n before)) ≡ counted_more (if b then n else suc n) before
    cases true n = refl
    cases false n = refl
