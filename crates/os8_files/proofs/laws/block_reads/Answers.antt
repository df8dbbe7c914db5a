use Rattle.std.proofs.Common.{[]}
use Rattle.os8_files.proofs.LeaveLemmas.{reads-leave, holds-leave, enters-leave, writes-leave, closes-leave, deletes-leave, squeezes-leave}
use Rattle.os8_files.proofs.PutLaws.{puts-leave, puts-plain}
use Rattle.os8_files.proofs.laws.block_reads.Goals as goal

pub returns : goal.returns
returns c = record {
  read_block = λ old new name k before after result is. (reads-leave old new name k before after result is).counts;
  hold = λ old new name result is. (holds-leave old new name result is).1;
  enter = λ old new name wish result is. (enters-leave old new name wish result is).counts;
  write = λ old new words result is. (writes-leave old new words result is).counts;
  close = λ old new name info result is. (closes-leave old new name info result is).counts;
  put = λ old new name words result is. (puts-leave old new name [] words result (puts-plain old new name words result is)).counts;
  delete = λ old new name result is. (deletes-leave old new name result is).counts;
  squeeze_turn = λ old new result is. (squeezes-leave old new result is).counts;
}
