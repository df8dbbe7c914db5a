use Rattle.os8_dir.proofs.ApartLemmas.{found-inside, found-apart}
use Rattle.os8_dir.specs.Found.{files_at}
use Rattle.os8_dir.proofs.laws.files_inside.Goals as goal

pub returns : goal.returns
returns c = record {
  inside = λ volume name d f is found. found-inside d.first volume name (files_at d.first d.entries) f is.apart found;
  apart = λ volume name other d f g is differ found_f found_g. found-apart d.first volume name other (files_at d.first d.entries) f g is.apart differ found_f found_g;
}
