-- The bytes of a volume in a file, and what is found of them.
use Rattle.std.proofs.Common.{◌≡◌, ◌∙◌, ℕ, zero, suc, ◌+◌, ◌-◌, ◌*◌, ◌≤◌, ◌<◌, max, ◌==◌, ◌&&◌, Bool, true, false, Option, None, Some, List, ◌++◌, length, take, drop, refl, sym, ap, subst, arith, inl, inr, length-append, length-drop, length-take, take_at, drop_at, take_all, append_assoc}
use Rattle.std.proofs.Math.ListN.{get_or-eq_default}
use Rattle.std.proofs.lemmas.Bool.{cases_lt, eqb-true}
use Rattle.std.proofs.lemmas.Grind.{same_number_lists}
use Rattle.disk_layouts.specs.Disks.{FitsLayout, IsImageIn, image_size}
use Rattle.disk_layouts.specs.Files.{Disk, IsUsed, needed_bytes}
use Rattle.disk_layouts.specs.Laws.{ReadsWhatItLays}
use Rattle.disk_layouts.specs.declared.faults.DiskFault.TheVariants.{TooLong, NoTape, Memory}
use Rattle.disk_layouts.specs.declared.layouts.Layout.{Layout}
use Rattle.disk_layouts.specs.declared.layouts.Layout.TheVariants.{First, Second, Dectape}
use Rattle.image_kind.specs.Keeping.{is_same_place, number_of}
use Rattle.image_kind.specs.Margins.{body_by}
use Rattle.image_kind.specs.Parts.{Parts}
use Rattle.image_kind.specs.declared.margins.Margins.{Margins}
use Rattle.image_kind.specs.declared.volumes.Volumes.{Volumes}
use Rattle.image_kind.specs.declared.volumes.Volumes.TheVariants.{One, Both}
use Rattle.outcome.specs.declared.endings.Ending.{Ending}
use Rattle.outcome.specs.declared.endings.Ending.TheVariants.{Line, Fault}
use Rattle.program_reports.specs.declared.programs.ProgramLine.TheVariants as line
use Rattle.refusals.specs.declared.faults.SessionFault.TheVariants as session
use Rattle.image_files.specs.Again.{EndsForMemory}
use Rattle.image_files.specs.Reading.{IsNoVolume, IsParted, IsVolumeOf}
use Rattle.image_files.specs.Saving.{IsBodyWith, IsFileAround}
use Rattle.image_files.proofs.WorkLemmas.{no_item}

-- ## The bytes between others

-- bytes of this length stand after the first ones
between : (b n : ℕ) (before body after : List ℕ) → length before ≡ b → length body ≡ n → take n (drop b (before ++ body ++ after)) ≡ body
between b n before body after first size =
    ap (λ (l : List ℕ). take n (drop b l)) (append_assoc before body after) ∙ ap (λ (l : List ℕ). take n l) (drop_at before (body ++ after) b first) ∙ take_at body after n size

-- all others are as many
three-lengths : (before body after : List ℕ) → length (before ++ body ++ after) ≡ length before + length body + length after
three-lengths before body after = length-append (before ++ body) after ∙ ap (λ (n : ℕ). n + length after) (length-append before body)

-- the bytes before and after a body, and how many these are
record AreBeside (b n : ℕ) (file body : List ℕ) : Type 0 where
  pub size : length body ≡ length (take n (drop b file))
  pub whole : length (take b file ++ body ++ drop n (drop b file)) ≡ length file

beside : (b n : ℕ) (file body : List ℕ) → length body ≡ length (take n (drop b file)) → AreBeside b n file body
beside b n file body size =
    let first = length-take b file in
    let second = length-drop b file in
    let third = length-take n (drop b file) in
    let last = length-drop n (drop b file) in
    record { size = size; whole = three-lengths (take b file) body (drop n (drop b file)) ∙ omega (arith, first, second, third, last, size) }

-- a file with other bytes between those before and after them has just these there
pub body-again : (margins : Margins) (file body : List ℕ) → length body ≡ length (body_by margins file)
    → body_by margins (take margins.before file ++ body ++ drop (length file - margins.before - margins.after) (drop margins.before file)) ≡ body
body-again margins file body size = elim (cases_lt (length file) margins.before) [
  | inl low ↦
      let b = margins.before in
      let n = length file - b - margins.after in
      let others = take b file ++ body ++ drop n (drop b file) in
      let whole = (beside b n file body size).whole in
      let few = length-take n (drop b file) in
      let less = length-drop b file in
      let many = length-take (length others - b - margins.after) (drop b others) in
      let rest = length-drop b others in
      no_item (body_by margins others) (omega (arith, low, whole, many, rest)) ∙ sym (no_item body (omega (arith, low, size, few, less)))
  | inr high ↦
      let b = margins.before in
      let n = length file - b - margins.after in
      let whole = (beside b n file body size).whole in
      let first = length-take b file in
      let few = length-take n (drop b file) in
      let less = length-drop b file in
      between b (length (take b file ++ body ++ drop n (drop b file)) - b - margins.after) (take b file) body (drop n (drop b file))
      (omega (arith, first, high)) (omega (arith, whole, size, few, less, high))
]

plain-body : (file : List ℕ) → body_by (record { before = 0; after = 0 }) file ≡ file
plain-body file = take_all (length file - 0 - 0) file (omega arith)

-- a file that was made so has its body between the same margins
pub body-saved : (margins : Margins) (file : List ℕ) (parts : Option Parts) (body saved : List ℕ) → IsParted margins file parts → IsFileAround parts body saved → body_by margins saved ≡ body
body-saved margins file None body saved parted around = ap (λ (m : Margins). body_by m saved) parted ∙ plain-body saved ∙ around
body-saved margins file (Some parts) body saved parted (size, is) =
    ap (λ (l : List ℕ). body_by margins l) (is ∙ ap (λ (p : Parts). p.before ++ body ++ p.after) parted)
    ∙ body-again margins file body (size ∙ ap (λ (p : Parts). length p.body) parted)

-- ## The same volumes, in the same place

-- the volumes of a number
volumes_at : ℕ → Volumes
volumes_at zero = One None
volumes_at (suc zero) = One (Some First)
volumes_at (suc (suc zero)) = One (Some Second)
volumes_at (suc (suc (suc zero))) = One (Some Dectape)
volumes_at (suc (suc (suc (suc more)))) = Both

at-number : (volumes : Volumes) → volumes_at (number_of volumes) ≡ volumes
unfolding volumes_at
at-number (One None) = refl
at-number (One (Some First)) = refl
at-number (One (Some Second)) = refl
at-number (One (Some Dectape)) = refl
at-number Both = refl

pub same-volumes : (one other : Volumes) → (number_of one == number_of other) ≡ true → other ≡ one
same-volumes one other same = sym (at-number other) ∙ ap volumes_at (sym (eqb-true (number_of one) (number_of other) same)) ∙ at-number one

pub both-hold : (one other : Bool) → (one && other) ≡ true → (one ≡ true) × (other ≡ true)
both-hold true other is = (refl, is)
both-hold false other is = absurd (cc)

pub same-place : (one other : Margins) → is_same_place one other ≡ true → other ≡ one
same-place one other same =
    let both = both-hold (one.before == other.before) (one.after == other.after) same in
    let before : other.before ≡ one.before = sym (eqb-true one.before other.before both.0) in
    let after : other.after ≡ one.after = sym (eqb-true one.after other.after both.1) in
    subst (λ (b : ℕ). other ≡ record { before = b; after = one.after }) before (subst (λ (a : ℕ). other ≡ record { before = other.before; after = a }) after refl)

-- ## What is found of a volume

-- where a volume lies so, whoever finds one in bytes finds these, and otherwise memory is wanted
pub record IsIn (volume : Option Layout) (body bytes : List ℕ) : Type 0 where
  pub is : (found : List ℕ) (disk : Option Disk) → IsVolumeOf volume body found disk → found ≡ bytes
  pub lacks : (ending : Ending) → IsNoVolume volume body ending → EndsForMemory ending

no-volume : (layout : Layout) (body : List ℕ) (ending : Ending) → FitsLayout layout body → IsNoVolume (Some layout) body ending → EndsForMemory ending
no-volume First body (Line (line.Disk TooLong)) fits p = absurd (omega (arith, fits, p))
no-volume First body (Line (line.Disk NoTape)) fits p = absurd p
no-volume Second body (Line (line.Disk TooLong)) fits p = absurd (omega (arith, fits, p))
no-volume Second body (Line (line.Disk NoTape)) fits p = absurd p
no-volume Dectape body (Line (line.Disk TooLong)) fits p = absurd p
no-volume Dectape body (Line (line.Disk NoTape)) fits p = absurd (p fits)
no-volume layout body (Line (line.Disk Memory)) fits p = inr refl
no-volume layout body (Fault session.Memory) fits p = inl refl
no-volume layout body ending fits p = absurd p

-- a whole file
whole-file : (bytes body : List ℕ) → body ≡ bytes → IsIn None body bytes
whole-file bytes body same = record { is = found_is; lacks = λ ending none. absurd none } where
  found_is : (found : List ℕ) (disk : Option Disk) → IsVolumeOf None body found disk → found ≡ bytes
  found_is found None is = is ∙ same
  found_is found (Some disk) is = absurd is

-- a volume of which each image is this
layout-found : (layout : Layout) (bytes body : List ℕ) → FitsLayout layout body → ((found : List ℕ) → IsImageIn layout body found → found ≡ bytes) → IsIn (Some layout) body bytes
layout-found layout bytes body fits only = record { is = found_is; lacks = λ ending none. no-volume layout body ending fits none } where
  found_is : (found : List ℕ) (disk : Option Disk) → IsVolumeOf (Some layout) body found disk → found ≡ bytes
  found_is found None is = absurd is
  found_is found (Some disk) (same, file, fits, image) = only found image

-- two images of one volume are the same
one-image : (layout : Layout) (body one other : List ℕ) → IsImageIn layout body one → IsImageIn layout body other → one ≡ other
one-image layout body one other is again =
    same_number_lists one other (is.size ∙ sym again.size) (λ k inside. let low : k < image_size layout = omega (arith, is.size) in is.bytes k low ∙ sym (again.bytes k low))

-- what was found is found again
pub found-as-before : (volume : Option Layout) (body bytes : List ℕ) (disk : Option Disk) → IsVolumeOf volume body bytes disk → IsIn volume body bytes
found-as-before None body bytes None is = whole-file bytes body (sym is)
found-as-before None body bytes (Some disk) is = absurd is
found-as-before (Some layout) body bytes None is = absurd is
found-as-before (Some layout) body bytes (Some disk) (same, file, fits, image) =
    layout-found layout bytes body fits (λ found again. one-image layout body found bytes again image)

-- no more blocks are used than the volume has
used-most : (layout : Layout) (bytes : List ℕ) (used blocks : ℕ) → length bytes ≤ 512 * blocks → IsUsed bytes used → used ≤ blocks
used-most layout bytes used blocks fits is = is.least blocks (λ k from. get_or-eq_default bytes 0 (omega (arith, fits, from)))

-- a file in which an image was laid is one of its layout, as it was before
fits-laid : (layout : Layout) (file bytes body : List ℕ) (used : ℕ) → FitsLayout layout file → length bytes ≡ image_size layout → IsUsed bytes used
    → length body ≡ max (length file) (needed_bytes layout used) → FitsLayout layout body
fits-laid First file bytes body used fits size is long =
    let most = used-most First bytes used 3248 (omega (arith, size)) is in omega (arith, fits, long, most)
fits-laid Second file bytes body zero fits size is long = omega (arith, fits, long)
fits-laid Second file bytes body (suc more) fits size is long =
    let most = used-most Second bytes (suc more) 3248 (omega (arith, size)) is in omega (arith, fits, long, most)
fits-laid Dectape file bytes body used fits size is long = omega (arith, fits, long)

-- what was laid is found
pub laid-is-found : ReadsWhatItLays → (volume : Option Layout) (file image bytes body : List ℕ) (disk : Option Disk) → IsVolumeOf volume file image disk → IsBodyWith disk bytes body
    → IsIn volume body bytes
laid-is-found law None file image bytes body None is with_it = whole-file bytes body with_it
laid-is-found law None file image bytes body (Some disk) is with_it = absurd is
laid-is-found law (Some layout) file image bytes body None is with_it = absurd is
laid-is-found law (Some layout) file image bytes body (Some disk) (same, at, fits, image_in) laid =
    let fits_before = subst (λ (l : List ℕ). FitsLayout layout l) (sym at) fits in
    let fits_own = subst (λ (l : Layout). FitsLayout l disk.bytes) (sym same) fits_before in
    layout-found layout bytes body
    (subst (λ (l : Layout). FitsLayout l body) same (fits-laid disk.layout disk.bytes bytes body laid.used fits_own laid.fits laid.is_used laid.size))
    (λ found again. law disk (record { layout = disk.layout; bytes = body }) bytes found laid (subst (λ (l : Layout). IsImageIn l body found) (sym same) again))
