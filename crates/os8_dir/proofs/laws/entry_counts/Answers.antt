use Rattle.os8_dir.proofs.CountLemmas.{length-files, length-counts, few-empties, tight-empties, largest-least, largest-most, tight-free}
use Rattle.os8_dir.proofs.laws.entry_counts.Goals as goal

pub returns : goal.returns
returns c = record {
  files = length-files;
  entries = length-counts;
  empties = few-empties;
  one = tight-empties;
  least = largest-least;
  most = largest-most;
  all = tight-free;
}
