use Rattle.std.proofs.Common.{[]}
use Rattle.os8_files.proofs.StoppedLemmas.{reads-stopped, lists-stopped, holds-stopped, enters-stopped, writes-stopped, closes-stopped, deletes-stopped, squeezes-stopped}
use Rattle.os8_files.proofs.PutLaws.{puts-stopped, puts-plain}
use Rattle.os8_files.proofs.laws.stopped_calls.Goals as goal

pub returns : goal.returns
returns c = record {
  read_block = reads-stopped;
  listing = lists-stopped;
  hold = holds-stopped;
  enter = enters-stopped;
  write = writes-stopped;
  close = closes-stopped;
  put = λ old new name words result is. puts-stopped old new name [] words result (puts-plain old new name words result is);
  delete = deletes-stopped;
  squeeze_turn = squeezes-stopped;
}
