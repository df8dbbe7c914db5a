use Rattle.os8_files.proofs.LeaveLemmas.{keeps-holds}
use Rattle.os8_files.proofs.RenameLaws.{renames-keep, renames-leave, renames-survive, renames-stopped}
use Rattle.os8_files.proofs.laws.renamed_files.Goals as goal

pub returns : goal.returns
returns c = record {
  holds = λ old new name other result is. keeps-holds old new _ _ (renames-leave old new name other result is) (renames-keep old new name other result is);
  places = λ old new name other third result is one two runs. (renames-leave old new name other result is).places third (one, two) runs;
  reads = λ old new name other result is. (renames-leave old new name other result is).counts;
  failed_writes = renames-survive;
  stopped = renames-stopped;
}
