use Rattle.std.proofs.Common.{[], refl}
use Rattle.os8_files.proofs.LeaveLemmas.{keeps-places, reads-leave, holds-leave, enters-leave, writes-leave, closes-leave, deletes-leave, moves-one}
use Rattle.os8_files.proofs.PutLaws.{puts-leave, puts-plain}
use Rattle.os8_files.proofs.laws.file_places.Goals as goal

pub returns : goal.returns
returns c = record {
  read_block = λ old new name k before after result is. keeps-places old new _ (reads-leave old new name k before after result is);
  hold = λ old new name result is. (holds-leave old new name result is).0;
  release = λ old hold name runs. refl;
  enter = λ old new name wish result is. keeps-places old new _ (enters-leave old new name wish result is);
  write = λ old new words result is. keeps-places old new _ (writes-leave old new words result is);
  close = λ old new name info result is. (closes-leave old new name info result is).places;
  put = λ old new name words result is. (puts-leave old new name [] words result (puts-plain old new name words result is)).places;
  give_up = λ old name runs. refl;
  delete = λ old new name result is. (deletes-leave old new name result is).places;
  squeeze_turn = moves-one;
}
