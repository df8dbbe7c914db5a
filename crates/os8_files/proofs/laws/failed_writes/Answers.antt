use Rattle.std.proofs.Common.{[]}
use Rattle.os8_files.proofs.SurviveLemmas.{writes-survive, closes-survive, deletes-survive, squeezes-survive, survives-from}
use Rattle.os8_files.proofs.PutLaws.{puts-survive, puts-plain}
use Rattle.os8_files.proofs.laws.failed_writes.Goals as goal

pub returns : goal.returns
returns c = record {
  write = writes-survive;
  close = closes-survive;
  put = λ old new name words result is. puts-survive old new name [] words result (puts-plain old new name words result is);
  delete = deletes-survive;
  squeeze_turn = squeezes-survive;
  later = survives-from;
}
