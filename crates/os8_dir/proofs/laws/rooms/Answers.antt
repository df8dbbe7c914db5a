use Rattle.os8_dir.proofs.ChosenLemmas.{fitting-smallest, largest-first, fitting-largest}
use Rattle.os8_dir.proofs.CountLemmas.{fitting-room, fitting-none, fitting-short, blocks-lie, room-outside}
use Rattle.os8_dir.proofs.laws.rooms.Goals as goal

pub returns : goal.returns
returns c = record {
  fitting = fitting-room;
  smallest = fitting-smallest;
  largest = largest-first;
  no_wish = fitting-largest;
  none = fitting-none;
  short = fitting-short;
  lie = blocks-lie;
  outside = λ from count name first es f. room-outside from count name first es f;
}
