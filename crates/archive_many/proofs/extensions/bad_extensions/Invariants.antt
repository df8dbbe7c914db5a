use Rattle.std.proofs.Common.{take, map}
use Rattle.archive_many.specs.Extensions.{AreLists}
use Rattle.archive_many.proofs.extensions.bad_extensions.Given as goal

-- the lists so far are good
abbrev pub invariant-loop-place : goal.invariant-loop-place
invariant-loop-place l = AreLists (map (λ list. list.bytes.items) (take l.place l.fn.lists))
