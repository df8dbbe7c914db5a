use Rattle.std.proofs.Common.{◌≡◌, ◌++◌, ℕ, List, length, true}
use Rattle.archive_many.specs.HostNames.{IsFolder, has_no_slash}
use Rattle.archive_many.proofs.host_names.last_part.Given as goal

-- the part begins after the last slash so far
abbrev pub invariant-loop-rest : goal.invariant-loop-rest
invariant-loop-rest l =
    (folder : List ℕ) × (seen : List ℕ) × (l.fn.path ≡ folder ++ l.part) × IsFolder folder × (l.part ≡ seen ++ l.rest) × (has_no_slash seen ≡ true)

abbrev pub decreases-loop-rest : goal.decreases-loop-rest
decreases-loop-rest l = length l.rest
