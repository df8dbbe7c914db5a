use Rattle.os8_dir.proofs.LawLemmas.{padded-take}
use Rattle.os8_dir.proofs.FileLemmas.{placed-directory, placed-there, placed-others, total-placed}
use Rattle.os8_dir.proofs.ApartLemmas.{take-padded}
use Rattle.os8_dir.proofs.CountLemmas.{length-placed, placed-tight}
use Rattle.os8_dir.specs.Changes.{new_file}
use Rattle.os8_dir.proofs.laws.file_placed.Goals as goal

pub returns : goal.returns
returns c = record {
  directory = λ volume name place size words d is named some. placed-directory volume d (new_file d name words place size) is named some (padded-take 10 d.info words);
  there = placed-there;
  info = λ name place size words d few. take-padded d.info 10 words few;
  others = λ other first f es. placed-others first other f es;
  covered = total-placed;
  entries = length-placed;
  tight = placed-tight;
}
