use Rattle.std.proofs.Common.{◌≡◌, ◌*◌, Some, false, take}
use Rattle.std.specs.FinMap.{get}
use Rattle.os8_dir.specs.Files.{FileData, files_of}
use Rattle.archive_files.proofs.getting.read_blocks.Given as goal

-- the blocks so far are read
abbrev pub invariant-loop-k : goal.invariant-loop-k
invariant-loop-k g l = record {
  running : l.files.stopped ≡ false;
  same : l.files.blocks ≡ l.fn.files.blocks;
  reads : l.files.failed_reads ≡ l.fn.files.failed_reads;
  words : (file : FileData) → get (files_of l.fn.files.blocks) l.fn.name ≡ Some file → l.words.items ≡ take (256 * l.k) file.1;
}
