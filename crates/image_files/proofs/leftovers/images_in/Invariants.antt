use Rattle.std.proofs.Common.{◌≡◌, ◌++◌, length, map}
use Rattle.image_files.specs.Leftovers.{images_in}
use Rattle.image_files.proofs.leftovers.images_in.Given as goal

-- those that are taken, and what is left to take
abbrev pub invariant-loop-rest : goal.invariant-loop-rest
invariant-loop-rest l = map (λ name. name.bytes.items) l.images.items ++ images_in l.fn.is_one (map (λ name. name.bytes.items) l.rest) ≡ images_in l.fn.is_one (map (λ name. name.bytes.items) l.fn.names)

abbrev pub decreases-loop-rest : goal.decreases-loop-rest
decreases-loop-rest l = length l.rest
