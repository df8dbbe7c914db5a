use Rattle.std.proofs.Common.{◌≡◌, ◌+◌, ◌++◌, ℕ, List, [], drop, length, map}
use Rattle.os8_files.specs.Mounted.{MountState}
use Rattle.os8_files.specs.Calls.{IsReady}
use Rattle.os8_dir.specs.declared.file_faults.FileFault.{FileFault}
use Rattle.archive_files.specs.Asking.{target_of, AreAsked}
use Rattle.archive_files.specs.Deleting.{AreDeleted, IsRefusedAt}
use Rattle.archive_files.proofs.DeleteLemmas.{DeletesSo}
use Rattle.archive_files.proofs.deleting.delete_all.Given as goal

-- what becomes of those that are left becomes of all
abbrev pub invariant-loop-one : goal.invariant-loop-one
invariant-loop-one l = record {
  ready : IsReady l.files;
  free : l.files.holds ≡ [];
  count : length l.names.items ≡ l.one-index;
  done : (new : MountState) (numbers : List ℕ) → AreAsked l.fn.files.blocks (map target_of (drop l.one-index l.asked)) numbers → AreDeleted l.files numbers new
      → DeletesSo l.fn.files (map target_of l.asked) (l.names.items ++ numbers) new;
  refused : (k : ℕ) (fault : FileFault) → IsRefusedAt l.fn.files.blocks l.files (map target_of (drop l.one-index l.asked)) k fault
      → IsRefusedAt l.fn.files.blocks l.fn.files (map target_of l.asked) (l.one-index + k) fault;
}
