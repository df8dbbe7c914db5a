-- What a file holds, by its frames.
use Rattle.std.specs.Prelude.{◌≡◌, ℕ, true, false, List}
use Rattle.bin_tape.specs.Items.{Item}
use Rattle.bin_tape.specs.Tape.{IsTape}
use Rattle.char_pack.specs.Packing.{words_of_bytes}
use Rattle.core_image.specs.Fault.{IsSomeImage}
use Rattle.core_image.specs.Image.{IsImage}
use Rattle.rim_tape.specs.Fault.{IsSomeRim}
use Rattle.file_kind.specs.Texts.{all_zero, is_text}
use Rattle.file_kind.specs.declared.kinds.FileKind.{FileKind}
use Rattle.file_kind.specs.declared.kinds.FileKind.TheVariants.{Zeros, Core, Bin, Rim, Text, Unknown}

-- the words of the frames are a core image whose program starts at this cell
pub record IsCore (frames : List ℕ) (start : ℕ) : Type 0 where
  pub pairs : List (ℕ × ℕ)
  pub status : ℕ
  pub is_image : IsImage (words_of_bytes frames) pairs start status

abbrev pub IsNoCore : List ℕ → Type 0
IsNoCore frames = IsSomeImage (words_of_bytes frames) → ⊥

-- the frames are a BIN tape
pub record IsSomeTape (frames : List ℕ) : Type 0 where
  pub items : List Item
  pub is_tape : IsTape frames items

-- they are neither zeros nor a core image
abbrev pub IsPlain : List ℕ → Type 0
IsPlain frames = (all_zero frames ≡ false) × IsNoCore frames

-- nor a tape
abbrev pub IsNoTape : List ℕ → Type 0
IsNoTape frames = IsPlain frames × (IsSomeTape frames → ⊥) × (IsSomeRim frames → ⊥)

-- What a file holds: the first of these that its frames are.
abbrev pub IsKind : List ℕ → FileKind → Type 0
IsKind frames Zeros = all_zero frames ≡ true
IsKind frames (Core start) = (all_zero frames ≡ false) × IsCore frames start
IsKind frames Bin = IsPlain frames × IsSomeTape frames
IsKind frames Rim = IsPlain frames × (IsSomeTape frames → ⊥) × IsSomeRim frames
IsKind frames Text = IsNoTape frames × (is_text frames ≡ true)
IsKind frames Unknown = IsNoTape frames × (is_text frames ≡ false)
