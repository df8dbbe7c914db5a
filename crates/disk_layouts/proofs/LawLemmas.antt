-- What holds of a file in which an image was laid.
use Rattle.std.proofs.Common.{◌≡◌, ◌∙◌, ℕ, zero, suc, ◌+◌, ◌-◌, ◌*◌, ◌/◌, ◌%◌, ◌<◌, ◌≤◌, ◌⊎◌, List, length, refl, sym, ap, subst, arith, inl, inr}
use Rattle.std.proofs.lemmas.Bool.{cases_lt}
use Rattle.std.proofs.lemmas.Grind.{same_number_lists}
use Rattle.std.proofs.Math.ListN.{get_or-eq_default}
use Rattle.disk_layouts.specs.declared.layouts.Layout.{Layout}
use Rattle.disk_layouts.specs.declared.layouts.Layout.TheVariants.{First, Second, Dectape}
use Rattle.disk_layouts.specs.declared.sizes.TheConstants.{DISK_VOLUME, DISK}
use Rattle.disk_layouts.specs.Disks.{byte, image_size, place, IsImageIn, IsOutside}
use Rattle.disk_layouts.specs.Files.{Disk, IsUsed, HasLaid, needed_bytes}
use Rattle.disk_layouts.proofs.CopyLemmas.{outside_first, outside_second}

-- what was laid is read again
pub laid_is_read : (old new : Disk) (image read : List ℕ) → HasLaid old image new → IsImageIn new.layout new.bytes read → read ≡ image
laid_is_read old new image read laid is =
    let again = subst (λ (l : Layout). IsImageIn l new.bytes read) laid.layout is in
    same_number_lists read image (again.size ∙ sym laid.fits)
    (λ k inside. let low : k < image_size old.layout = omega (arith, again.size) in again.bytes k low ∙ laid.volume k low)

-- a file with the other volume as it was
pub read_before : (layout : Layout) (old new other : List ℕ) → ((k : ℕ) → k < image_size layout → byte new (place layout k) ≡ byte old (place layout k))
    → IsImageIn layout old other → IsImageIn layout new other
read_before layout old new other same is = record { size = is.size; bytes = λ k inside. is.bytes k inside ∙ sym (same k inside) }

pub second_stays : (old new : Disk) (image : List ℕ) → old.layout ≡ First → HasLaid old image new → (at : ℕ) → DISK_VOLUME ≤ at → byte new.bytes at ≡ byte old.bytes at
second_stays old new image is laid at following = laid.others at (subst (λ (l : Layout). IsOutside l at) (sym is) (outside_first at following))

pub first_stays : (old new : Disk) (image : List ℕ) → old.layout ≡ Second → HasLaid old image new → (at : ℕ) → at < DISK_VOLUME → byte new.bytes at ≡ byte old.bytes at
first_stays old new image is laid at before = laid.others at (subst (λ (l : Layout). IsOutside l at) (sym is) (outside_second at (inl before)))

-- the last words of a tape's blocks are outside its volume
outside_tape : (block at : ℕ) → 258 * block + 256 ≤ at → at < 258 * block + 258 → IsOutside Dectape at
outside_tape block at least most = λ k inside same. absurd (omega (arith, same))

pub words_stay : (old new : Disk) (image : List ℕ) → old.layout ≡ Dectape → HasLaid old image new → (block at : ℕ) → 258 * block + 256 ≤ at → at < 258 * block + 258
    → byte new.bytes at ≡ byte old.bytes at
words_stay old new image is laid block at least most =
    laid.others at (subst (λ (l : Layout). IsOutside l at) (sym is) (outside_tape block at least most))

-- a byte of the volume lies here
record IsInside (layout : Layout) (at : ℕ) : Type 0 where
  pub k : ℕ
  pub low : k < image_size layout
  pub here : place layout k ≡ at

-- each place of a file has a byte of the volume or is outside it
inside_or_outside : (layout : Layout) (at : ℕ) → IsInside layout at ⊎ IsOutside layout at
inside_or_outside First at = elim (cases_lt at DISK_VOLUME) [
  | inl low ↦ inl (record { k = at; low = low; here = refl })
  | inr following ↦ inr (outside_first at following)
]
inside_or_outside Second at = elim (cases_lt at DISK_VOLUME) [
  | inl before ↦ inr (outside_second at (inl before))
  | inr from ↦ elim (cases_lt at DISK) [
    | inl low ↦ inl (record { k = at - DISK_VOLUME; low = omega arith; here = omega arith })
    | inr following ↦ inr (outside_second at (inr following))
  ]
]
inside_or_outside Dectape at = elim (cases_lt (at % 258) 256) [
  | inl word ↦ elim (cases_lt (at / 258) 1474) [
    | inl low ↦ inl (record { k = 256 * (at / 258) + at % 258; low = omega arith; here = omega arith })
    | inr following ↦ inr (λ k inside same. absurd (omega (arith, same)))
  ]
  | inr last ↦ inr (λ k inside same. absurd (omega (arith, same)))
]

-- each byte of a file in which what was read of it is laid is as it was
pub bytes_stay : (old new : Disk) (image : List ℕ) → IsImageIn old.layout old.bytes image → HasLaid old image new → (at : ℕ) → byte new.bytes at ≡ byte old.bytes at
bytes_stay old new image is laid at = elim (inside_or_outside old.layout at) [
  | inl i ↦ ap (byte new.bytes) (sym i.here) ∙ laid.volume i.k i.low ∙ is.bytes i.k i.low ∙ ap (byte old.bytes) i.here
  | inr out ↦ laid.others at out
]

-- after the blocks of a file its image has zeros alone
zeros_read : (layout : Layout) (file image : List ℕ) (fewer : ℕ) → IsImageIn layout file image → ((k : ℕ) → 512 * fewer ≤ k → length file ≤ place layout k)
    → (k : ℕ) → 512 * fewer ≤ k → byte image k ≡ 0
zeros_read layout file image fewer is following k from = elim (cases_lt k (image_size layout)) [
  | inl inside ↦ is.bytes k inside ∙ get_or-eq_default file 0 (following k from)
  | inr past ↦ get_or-eq_default image 0 (omega (arith, is.size))
]

-- what is needed ends in the last block of the file
needed_low : (layout : Layout) (file image : List ℕ) (used : ℕ) → IsImageIn layout file image → IsUsed image used → needed_bytes layout used ≤ 512 * ((length file + 511) / 512)
needed_low First file image used is u =
    let fewer = (length file + 511) / 512 in
    let low : used ≤ fewer = u.least fewer (zeros_read First file image fewer is (λ k from. omega arith)) in
    omega arith
needed_low Second file image zero is u = omega arith
needed_low Second file image (suc more) is u =
    let fewer = (length file + 511) / 512 - 3248 in
    let low : suc more ≤ fewer = u.least fewer (zeros_read Second file image fewer is (λ k from. omega arith)) in
    omega arith
needed_low Dectape file image used is u = omega arith

-- the file is longer by less than a block
pub little_more : (old new : Disk) (image : List ℕ) → IsImageIn old.layout old.bytes image → HasLaid old image new → length new.bytes < length old.bytes + 512
little_more old new image is laid = omega (arith, laid.size, needed_low old.layout old.bytes image laid.used is laid.is_used)

-- a file of the same layout, length and bytes is the same
same_file : (old new : Disk) (image : List ℕ) → IsImageIn old.layout old.bytes image → HasLaid old image new → length new.bytes ≡ length old.bytes → new ≡ old
same_file old new image is laid size =
    let bytes : new.bytes ≡ old.bytes = same_number_lists new.bytes old.bytes size (λ k inside. bytes_stay old new image is laid k) in
    let layout : new.layout ≡ old.layout = laid.layout in
    subst (λ (b : List ℕ). new ≡ record { layout = old.layout; bytes = b }) bytes (subst (λ (l : Layout). new ≡ record { layout = l; bytes = new.bytes }) layout refl)

pub whole_stays : (old new : Disk) (image : List ℕ) → IsImageIn old.layout old.bytes image → HasLaid old image new → length old.bytes % 512 ≡ 0 → new ≡ old
whole_stays old new image is laid whole =
    same_file old new image is laid (omega (arith, laid.size, needed_low old.layout old.bytes image laid.used is laid.is_used))

tape_needs : (layout : Layout) (used : ℕ) → layout ≡ Dectape → needed_bytes layout used ≡ 0
tape_needs layout used is = subst (λ (l : Layout). needed_bytes l used ≡ 0) (sym is) refl

pub tape_stays : (old new : Disk) (image : List ℕ) → IsImageIn old.layout old.bytes image → HasLaid old image new → old.layout ≡ Dectape → new ≡ old
tape_stays old new image is laid tape =
    same_file old new image is laid (omega (arith, laid.size, tape_needs old.layout laid.used tape))
