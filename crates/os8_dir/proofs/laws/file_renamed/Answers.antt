use Rattle.os8_dir.proofs.RenamingLemmas.{renamed-directory, renamed-gone, renamed-there, renamed-others, total-renamed, length-renamed, rooms-renamed, above-renamed, renamed-back}
use Rattle.os8_dir.proofs.laws.file_renamed.Goals as goal

pub returns : goal.returns
returns c = record {
  directory = renamed-directory;
  gone = renamed-gone;
  there = renamed-there;
  others = renamed-others;
  covered = total-renamed;
  entries = length-renamed;
  rooms = rooms-renamed;
  above = above-renamed;
  back = renamed-back;
}
