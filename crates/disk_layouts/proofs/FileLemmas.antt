-- What a file is kept as, with another image of its volume.
use Rattle.std.proofs.Common.{◌≡◌, ◌∙◌, ℕ, zero, suc, ◌+◌, ◌-◌, ◌*◌, ◌<◌, ◌≤◌, max, List, length, slice_index, take, drop, ◌++◌, refl, sym, ap, subst, arith, inl, inr}
use Rattle.std.proofs.lemmas.Bool.{cases_lt}
use Rattle.std.proofs.lemmas.List.{get_or-take, take_at}
use Rattle.std.proofs.Math.ListN.{get_or-eq_default, length-take}
use Rattle.disk_layouts.specs.declared.layouts.Layout.{Layout}
use Rattle.disk_layouts.specs.declared.layouts.Layout.TheVariants.{First, Second, Dectape}
use Rattle.disk_layouts.specs.declared.sizes.TheConstants.{DISK_VOLUME, DISK, TAPE}
use Rattle.disk_layouts.specs.Disks.{image_size, place, IsOutside}
use Rattle.disk_layouts.specs.Files.{IsUsed, HasLaid, needed_bytes}
use Rattle.disk_layouts.specs.Kept.{IsKept, most_bytes}
use Rattle.disk_layouts.proofs.CopyLemmas.{outside_first, outside_second}

-- bytes of which the volume's were written and no others
pub record IsWritten (layout : Layout) (old image new : List ℕ) : Type 0 where
  pub size : length new ≡ length old
  pub fits : length image ≡ image_size layout
  pub volume : (k : ℕ) → k < image_size layout → slice_index new (place layout k) ≡ slice_index image k
  pub others : (at : ℕ) → IsOutside layout at → slice_index new at ≡ slice_index old at

-- after the end of what is needed there are zeros
zeros_after : (layout : Layout) (old image new : List ℕ) (count used : ℕ) → IsKept layout old count → IsWritten layout old image new → IsUsed image used
    → (k : ℕ) → max count (needed_bytes layout used) ≤ k → slice_index new k ≡ 0
zeros_after First old image new count used kept w is k from = elim (cases_lt k DISK_VOLUME) [
  | inl inside ↦ w.volume k inside ∙ is.zeros k (omega arith)
  | inr following ↦ w.others k (outside_first k following) ∙ kept.zeros k (omega arith)
]
zeros_after Second old image new count zero kept w is k from = elim (cases_lt k DISK_VOLUME) [
  | inl before ↦ w.others k (outside_second k (inl before)) ∙ kept.zeros k (omega arith)
  | inr inside ↦ elim (cases_lt k DISK) [
    | inl within ↦
        let same : k ≡ (k - DISK_VOLUME) + DISK_VOLUME = omega arith in
        ap (slice_index new) same ∙ w.volume (k - DISK_VOLUME) (omega arith) ∙ is.zeros (k - DISK_VOLUME) (omega arith)
    | inr following ↦ w.others k (outside_second k (inr following)) ∙ kept.zeros k (omega arith)
  ]
]
zeros_after Second old image new count (suc more) kept w is k from = elim (cases_lt k DISK_VOLUME) [
  | inl before ↦ w.others k (outside_second k (inl before)) ∙ kept.zeros k (omega arith)
  | inr inside ↦ elim (cases_lt k DISK) [
    | inl within ↦
        let same : k ≡ (k - DISK_VOLUME) + DISK_VOLUME = omega arith in
        ap (slice_index new) same ∙ w.volume (k - DISK_VOLUME) (omega arith) ∙ is.zeros (k - DISK_VOLUME) (omega arith)
    | inr following ↦ w.others k (outside_second k (inr following)) ∙ kept.zeros k (omega arith)
  ]
]
zeros_after Dectape old image new count used kept w is k from =
    get_or-eq_default new 0 (omega (arith, kept.whole, kept.tape refl, w.size))

needed_most : (layout : Layout) (used : ℕ) → 512 * used ≤ image_size layout → needed_bytes layout used ≤ most_bytes layout
needed_most First used most = omega arith
needed_most Second zero most = omega arith
needed_most Second (suc more) most = omega arith
needed_most Dectape used most = omega arith

whole_tape : (layout : Layout) (count used : ℕ) → (layout ≡ Dectape → count ≡ TAPE) → layout ≡ Dectape → max count (needed_bytes layout used) ≡ TAPE
whole_tape First count used tape is = absurd (cc)
whole_tape Second count used tape is = absurd (cc)
whole_tape Dectape count used tape is = omega (arith, tape is)

-- the file is kept as before
pub kept_written : (layout : Layout) (old image new : List ℕ) (count used : ℕ) → IsKept layout old count → IsWritten layout old image new → IsUsed image used
    → 512 * used ≤ length image → IsKept layout new (max count (needed_bytes layout used))
kept_written layout old image new count used kept w is most =
    let low : needed_bytes layout used ≤ most_bytes layout = needed_most layout used (omega (arith, w.fits)) in
    record {
      whole = w.size ∙ kept.whole;
      within = omega (arith, kept.within, kept.whole, w.size, low);
      zeros = zeros_after layout old image new count used kept w is;
      tape = whole_tape layout count used kept.tape;
    }

-- a byte of a file is that of what is kept
pub byte_kept : (layout : Layout) (bytes : List ℕ) (count : ℕ) → IsKept layout bytes count → (k : ℕ) → slice_index (take count bytes) k ≡ slice_index bytes k
byte_kept layout bytes count kept k = elim (cases_lt k count) [
  | inl inside ↦ get_or-take count bytes k 0 inside
  | inr following ↦ get_or-eq_default (take count bytes) 0 (omega (arith, length-take count bytes)) ∙ sym (kept.zeros k following)
]

-- what the file has of the image that was written
pub laid_written : (layout : Layout) (old image new : List ℕ) (count used : ℕ) → IsKept layout old count → IsWritten layout old image new → IsUsed image used
    → 512 * used ≤ length image
    → HasLaid (record { layout = layout; bytes = take count old }) image (record { layout = layout; bytes = take (max count (needed_bytes layout used)) new })
laid_written layout old image new count used kept w is most =
    let after = kept_written layout old image new count used kept w is most in
    record {
      fits = w.fits;
      layout = refl;
      volume = λ k inside. byte_kept layout new (max count (needed_bytes layout used)) after (place layout k) ∙ w.volume k inside;
      others = λ at out. byte_kept layout new (max count (needed_bytes layout used)) after at ∙ w.others at out ∙ sym (byte_kept layout old count kept at);
      used = used;
      is_used = is;
      size = omega (arith, length-take count old, length-take (max count (needed_bytes layout used)) new, kept.within, after.within);
    }

-- the same where the bytes stand in a vector's room, and the numbers are what calls gave
pub kept_lay : (layout : Layout) (old image new : List ℕ) (room count used end most : ℕ) → length new ≡ room → IsKept layout old count → IsWritten layout old image new
    → IsUsed image used → 512 * used ≤ length image → end ≡ needed_bytes layout used → most ≡ max count end → IsKept layout (take room (new ++ drop (length new) old)) most
kept_lay layout old image new room count used end most fits kept w is low end_is most_is =
    subst (λ (l : List ℕ). IsKept layout l most) (sym (take_at new (drop (length new) old) room fits))
    (subst (λ (n : ℕ). IsKept layout new n) (sym (most_is ∙ ap (max count) end_is)) (kept_written layout old image new count used kept w is low))

pub laid_lay : (layout : Layout) (old image new : List ℕ) (room count used end most : ℕ) → length new ≡ room → IsKept layout old count → IsWritten layout old image new
    → IsUsed image used → 512 * used ≤ length image → end ≡ needed_bytes layout used → most ≡ max count end
    → HasLaid (record { layout = layout; bytes = take count old }) image (record { layout = layout; bytes = take most (take room (new ++ drop (length new) old)) })
laid_lay layout old image new room count used end most fits kept w is low end_is most_is =
    subst (λ (l : List ℕ). HasLaid (record { layout = layout; bytes = take count old }) image (record { layout = layout; bytes = take most l })) (sym (take_at new (drop (length new) old) room fits))
    (subst (λ (n : ℕ). HasLaid (record { layout = layout; bytes = take count old }) image (record { layout = layout; bytes = take n new })) (sym (most_is ∙ ap (max count) end_is))
    (laid_written layout old image new count used kept w is low))
