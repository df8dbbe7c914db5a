use Rattle.std.proofs.Common.{◌≡◌, [], List, ℕ, Result, length}
use Rattle.std.specs.Option.{option_copied}
use Rattle.os8_files.specs.Mounted.{MountState}
use Rattle.os8_files.specs.Calls.{IsReady}
use Rattle.refusals.specs.declared.faults.SessionFault.{SessionFault}
use Rattle.archive_many.specs.PutSteps.{PutsFiles}
use Rattle.archive_many.proofs.putting.put_files.Given as goal

-- what becomes of the files that are left becomes of all
abbrev pub invariant-loop-rest : goal.invariant-loop-rest
invariant-loop-rest l = record {
  ready : IsReady l.service;
  free : l.service.holds ≡ [];
  all : (result : Result (Unit {0}) SessionFault) (after : List ℕ) (new : MountState) → PutsFiles l.service (option_copied l.fn.info) l.rest result l.blocks.items after new
      → PutsFiles l.fn.service (option_copied l.fn.info) l.fn.files result l.fn.blocks.items after new;
}

abbrev pub decreases-loop-rest : goal.decreases-loop-rest
decreases-loop-rest l = length l.rest
