use Rattle.std.proofs.Common.{[], refl}
use Rattle.os8_files.proofs.KeptLemmas.{reads-keep, holds-keep, enters-keep, writes-keep, closes-keep, deletes-keep, squeezes-keep}
use Rattle.os8_files.proofs.PutLaws.{puts-keep, puts-plain}
use Rattle.os8_files.proofs.laws.held_files.Goals as goal

pub returns : goal.returns
returns c = record {
  read_block = reads-keep;
  hold = holds-keep;
  enter = enters-keep;
  write = writes-keep;
  close = closes-keep;
  put = λ old new name words result is. puts-keep old new name [] words result (puts-plain old new name words result is);
  delete = deletes-keep;
  squeeze_turn = squeezes-keep;
  release = λ old hold name held runs. refl;
  give_up = λ old name held runs. refl;
}
