use Rattle.image_kind.proofs.MendingLemmas.{sound_stays, listed_are_wide, wide_are_listed}
use Rattle.image_kind.proofs.mending_laws.mended_files.Goals as goal

pub returns : goal.returns
returns c = record {
  sound = sound_stays;
  listed = listed_are_wide;
  changed = wide_are_listed;
}
