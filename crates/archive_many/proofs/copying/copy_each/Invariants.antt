use Rattle.std.proofs.Common.{ℕ, Result, length}
use Rattle.std.specs.Option.{option_copied}
use Rattle.std.specs.Global.{Vec}
use Rattle.archive_many.specs.CopySteps.{CopiesEach}
use Rattle.archive_many.specs.declared.faults.CopyAllFault.{CopyAllFault}
use Rattle.archive_many.proofs.copying.copy_each.Given as goal

-- what becomes of the files that are left becomes of all
abbrev pub invariant-loop-rest : goal.invariant-loop-rest
invariant-loop-rest l = (result : Result (Vec ℕ) CopyAllFault) → CopiesEach l.from l.image.items (option_copied l.fn.new_name) l.rest result → CopiesEach l.from l.fn.to.items (option_copied l.fn.new_name) l.files result

abbrev pub decreases-loop-rest : goal.decreases-loop-rest
decreases-loop-rest l = length l.rest
