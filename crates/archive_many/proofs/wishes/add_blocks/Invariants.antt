use Rattle.std.proofs.Common.{◌≡◌, ◌++◌, length, map}
use Rattle.archive_many.specs.Wishing.{wish_of_block}
use Rattle.archive_many.proofs.wishes.add_blocks.Given as goal

abbrev pub invariant-loop-rest : goal.invariant-loop-rest
invariant-loop-rest l = l.wishes.items ++ map (wish_of_block l.fn.files) l.rest ≡ l.fn.wishes.items ++ map (wish_of_block l.fn.files) l.fn.blocks

abbrev pub decreases-loop-rest : goal.decreases-loop-rest
decreases-loop-rest l = length l.rest
