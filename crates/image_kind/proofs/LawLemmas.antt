-- What whole blocks with a whole directory are.
use Rattle.std.proofs.Common.{◌≡◌, ℕ, List, None, length, refl, true}
use Rattle.image_kind.specs.Kinds.{are_blocks, is_past_disk_volume, is_volume_at, kind_with, readings_of}
use Rattle.image_kind.specs.declared.kinds.Form.TheVariants.{Volume}
use Rattle.image_kind.specs.declared.kinds.Readings.{Readings}

pub whole_volume-first : (bytes : List ℕ) → are_blocks (length bytes) ≡ true → is_volume_at bytes 0 ≡ true → is_past_disk_volume bytes ≡ true
    → readings_of bytes ≡ record { first = kind_with Volume 0 0; other = None }
unfolding readings_of
whole_volume-first bytes whole sound past = rw (whole, sound, past) refl
