-- Bytes of a volume where they lie in a file.
use Rattle.std.proofs.Common.{◌≡◌, ◌∙◌, ℕ, ◌+◌, ◌-◌, ◌*◌, ◌/◌, ◌%◌, ◌<◌, ◌≤◌, List, slice_index, ◌⊎◌, ap, arith, inl, inr}
use Rattle.std.proofs.lemmas.Bool.{cases_lt}
use Rattle.disk_layouts.specs.declared.layouts.Layout.TheVariants.{First, Second, Dectape}
use Rattle.disk_layouts.specs.declared.sizes.TheConstants.{DISK_VOLUME, DISK}
use Rattle.disk_layouts.specs.Disks.{place, IsOutside}

-- outside the first volume is after it
pub following_first : (at : ℕ) → IsOutside First at → DISK_VOLUME ≤ at
following_first at out = elim (cases_lt at DISK_VOLUME) [
  | inl inside ↦ absurd (out at inside (omega arith))
  | inr following ↦ following
]

-- outside the second volume is before it, or after the disk
pub beside_second : (at : ℕ) → IsOutside Second at → DISK_VOLUME ≤ at → DISK ≤ at
beside_second at out from = elim (cases_lt at DISK) [
  | inl inside ↦ absurd (out (at - DISK_VOLUME) (omega arith) (omega arith))
  | inr following ↦ following
]

-- where a byte of a tape's block lies
pub tape_place : (n k : ℕ) → 256 * n ≤ k → k < 256 * (n + 1) → 258 * (k / 256) + k % 256 ≡ 258 * n + (k - 256 * n)
tape_place n k least most = omega arith

-- outside a tape's volume is outside each block's first 256 bytes
pub beside_tape : (n at : ℕ) → n < 1474 → IsOutside Dectape at → 258 * n ≤ at → 258 * n + 256 ≤ at
beside_tape n at few out from = elim (cases_lt at (258 * n + 256)) [
  | inl inside ↦
      let k = 256 * n + (at - 258 * n) in
      let is : 258 * (k / 256) + k % 256 ≡ 258 * n + (k - 256 * n) = tape_place n k (omega arith) (omega arith) in
      absurd (out k (omega arith) (is ∙ omega arith))
  | inr following ↦ following
]

-- one block of a tape more
pub tape_volume_more : (n : ℕ) (file new image : List ℕ) → ((k : ℕ) → k < 256 → slice_index new (258 * n + k) ≡ slice_index image (256 * n + k))
    → ((k : ℕ) → k < 258 * n → slice_index new k ≡ slice_index file k) → ((k : ℕ) → k < 256 * n → slice_index file (place Dectape k) ≡ slice_index image k)
    → (k : ℕ) → k < 256 * (n + 1) → slice_index new (258 * (k / 256) + k % 256) ≡ slice_index image k
tape_volume_more n file new image part before sofar k most = elim (cases_lt k (256 * n)) [
  | inl old ↦ before (258 * (k / 256) + k % 256) (omega arith) ∙ sofar k old
  | inr least ↦
      let inside : k - 256 * n < 256 = omega arith in
      let same : 256 * n + (k - 256 * n) ≡ k = omega arith in
      ap (slice_index new) (tape_place n k least most) ∙ part (k - 256 * n) inside ∙ ap (slice_index image) same
]

pub tape_others_more : (n : ℕ) (file new first : List ℕ) → n < 1474 → ((k : ℕ) → k < 258 * n → slice_index new k ≡ slice_index file k)
    → ((k : ℕ) → 258 * n + 256 ≤ k → slice_index new k ≡ slice_index file k) → ((at : ℕ) → IsOutside Dectape at → slice_index file at ≡ slice_index first at)
    → (at : ℕ) → IsOutside Dectape at → slice_index new at ≡ slice_index first at
tape_others_more n file new first few before following sofar at out = elim (cases_lt at (258 * n)) [
  | inl lower ↦ before at lower ∙ sofar at out
  | inr from ↦ following at (beside_tape n at few out from) ∙ sofar at out
]

-- a block more that is zeros alone
pub blank_more : (image : List ℕ) (n : ℕ) → 0 < n → ((k : ℕ) → 512 * n ≤ k → slice_index image k ≡ 0)
    → ((k : ℕ) → k < 512 → slice_index image (512 * (n - 1) + k) ≡ 0) → (k : ℕ) → 512 * (n - 1) ≤ k → slice_index image k ≡ 0
blank_more image n some zeros blank k from = elim (cases_lt k (512 * n)) [
  | inl inside ↦
      let low : k - 512 * (n - 1) < 512 = omega arith in
      let same : k ≡ 512 * (n - 1) + (k - 512 * (n - 1)) = omega arith in
      ap (slice_index image) same ∙ blank (k - 512 * (n - 1)) low
  | inr following ↦ zeros k following
]

-- after fewer blocks than one that isn't zeros alone not all is zeros
pub least_used : (image : List ℕ) (n : ℕ) → 0 < n → (((k : ℕ) → k < 512 → slice_index image (512 * (n - 1) + k) ≡ 0) → ⊥)
    → (fewer : ℕ) → ((k : ℕ) → 512 * fewer ≤ k → slice_index image k ≡ 0) → n ≤ fewer
least_used image n some other fewer zeros = elim (cases_lt fewer n) [
  | inl less ↦ absurd (other (λ k h. zeros (512 * (n - 1) + k) (omega arith)))
  | inr most ↦ most
]

-- after the first volume is outside it
pub outside_first : (at : ℕ) → DISK_VOLUME ≤ at → IsOutside First at
outside_first at following = λ k inside same. absurd (omega (arith, same))

-- before the second volume and after the disk is outside it
pub outside_second : (at : ℕ) → (at < DISK_VOLUME) ⊎ (DISK ≤ at) → IsOutside Second at
outside_second at (inl before) = λ k inside same. absurd (omega (arith, same))
outside_second at (inr following) = λ k inside same. absurd (omega (arith, same))
