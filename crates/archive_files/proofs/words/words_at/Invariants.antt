use Rattle.std.proofs.Common.{◌≡◌}
use Rattle.os8_dir.specs.Files.{run}
use Rattle.archive_files.proofs.words.words_at.Given as goal

-- the blocks so far are read
abbrev pub invariant-loop-k : goal.invariant-loop-k
invariant-loop-k l = l.words.items ≡ run l.fn.volume.blocks l.fn.place l.k
