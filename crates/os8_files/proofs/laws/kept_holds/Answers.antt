use Rattle.std.proofs.Common.{[], refl}
use Rattle.os8_files.proofs.KeptLemmas.{reads-keep, enters-keep, writes-keep, closes-keep, deletes-keep, squeezes-keep}
use Rattle.os8_files.proofs.LeaveLemmas.{keeps-holds, reads-leave, holds-leave, enters-leave, writes-leave, closes-leave, deletes-leave, squeezes-leave}
use Rattle.os8_files.proofs.WholeLemmas.{both-keep}
use Rattle.os8_files.proofs.PutLaws.{puts-leave, puts-keep, puts-plain}
use Rattle.os8_files.proofs.laws.kept_holds.Goals as goal

pub returns : goal.returns
returns c = record {
  read_block = λ old new name k before after result is. keeps-holds old new _ _ (reads-leave old new name k before after result is) (reads-keep old new name k before after result is);
  hold = λ old new name result is. (holds-leave old new name result is).2;
  enter = λ old new name wish result is. keeps-holds old new _ _ (enters-leave old new name wish result is) (enters-keep old new name wish result is);
  write = λ old new words result is. keeps-holds old new _ _ (writes-leave old new words result is) (writes-keep old new words result is);
  close = λ old new name info result is. keeps-holds old new _ _ (closes-leave old new name info result is) (closes-keep old new name info result is);
  put = λ old new name words result is. keeps-holds old new _ _ (puts-leave old new name [] words result (puts-plain old new name words result is)) (puts-keep old new name [] words result (puts-plain old new name words result is));
  give_up = λ old. record { holds = refl; running = λ runs. runs; held = λ name held runs. refl };
  delete = λ old new name result is. keeps-holds old new _ _ (deletes-leave old new name result is) (deletes-keep old new name result is);
  squeeze_turn = λ old new result is. keeps-holds old new _ _ (squeezes-leave old new result is) (squeezes-keep old new result is);
  both = both-keep;
}
