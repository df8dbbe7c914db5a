use Rattle.std.proofs.Common.{◌≡◌, List, [], ◌++◌, length}
use Rattle.os8_dir.specs.Files.{files_of}
use Rattle.os8_files.specs.Calls.{IsReady, info_of}
use Rattle.volume_salvage.specs.Rescued.{with_files}
use Rattle.volume_salvage.specs.Rows.{Differ}
use Rattle.volume_salvage.specs.Steps.{IsRow}
use Rattle.volume_salvage.specs.declared.volumes.KeptFile.{KeptFile}
use Rattle.volume_salvage.proofs.volumes.keep_files.Given as goal

-- the files that are left are still to come, after so many
abbrev pub invariant-loop-rest : goal.invariant-loop-rest
invariant-loop-rest l = record {
  ready : IsReady l.service;
  info : info_of l.service.blocks ≡ info_of l.fn.service.blocks;
  files : with_files (info_of l.fn.service.blocks) (files_of l.service.blocks) l.rest
      ≡ with_files (info_of l.fn.service.blocks) (files_of l.fn.service.blocks) l.fn.files;
  done : (before : List KeptFile) × (l.fn.files ≡ before ++ l.rest) × (l.place ≡ length before)
      × (IsRow l.fn.service.blocks [] → Differ before → IsRow l.service.blocks before);
}

abbrev pub decreases-loop-rest : goal.decreases-loop-rest
decreases-loop-rest l = length l.rest
