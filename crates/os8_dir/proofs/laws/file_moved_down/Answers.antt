use Rattle.os8_dir.proofs.FileLemmas.{moved-directory, gap-file, moved-there, moved-others, total-moved}
use Rattle.os8_dir.proofs.CountLemmas.{length-moved}
use Rattle.os8_dir.proofs.laws.file_moved_down.Goals as goal

pub returns : goal.returns
returns c = record {
  directory = moved-directory;
  found = λ volume name d is some. gap-file name d.first d.entries is.neat is.single some;
  there = λ volume name d is some. moved-there name d.first d.entries is.neat is.single some;
  others = moved-others;
  covered = total-moved;
  entries = length-moved;
}
