use Rattle.os8_files.proofs.LeaveLemmas.{keeps-holds}
use Rattle.os8_files.proofs.PutLaws.{puts-leave, puts-keep, puts-survive, puts-stopped}
use Rattle.os8_files.proofs.laws.informed_files.Goals as goal

pub returns : goal.returns
returns c = record {
  holds = λ old new name given words result is. keeps-holds old new _ _ (puts-leave old new name given words result is) (puts-keep old new name given words result is);
  places = λ old new name given words result is. (puts-leave old new name given words result is).places;
  reads = λ old new name given words result is. (puts-leave old new name given words result is).counts;
  failed_writes = puts-survive;
  stopped = puts-stopped;
}
