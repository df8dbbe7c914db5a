use Rattle.os8_dir.proofs.FileLemmas.{removed-directory, removed-gone, removed-others, total-removed}
use Rattle.os8_dir.proofs.CountLemmas.{length-removed}
use Rattle.os8_dir.proofs.laws.file_removed.Goals as goal

pub returns : goal.returns
returns c = record {
  directory = removed-directory;
  gone = removed-gone;
  others = removed-others;
  covered = total-removed;
  entries = length-removed;
}
