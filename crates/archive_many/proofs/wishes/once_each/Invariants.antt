use Rattle.std.proofs.Common.{◌≡◌, [], length}
use Rattle.archive_many.specs.WishSteps.{KnowsPlaces}
use Rattle.archive_many.specs.Wishing.{once}
use Rattle.archive_many.proofs.wishes.once_each.Given as goal

abbrev pub invariant-loop-rest : goal.invariant-loop-rest
invariant-loop-rest l = record {
  known : KnowsPlaces l.places l.wishes.items;
  each : once l.wishes.items l.rest ≡ once [] l.fn.asked;
}

abbrev pub decreases-loop-rest : goal.decreases-loop-rest
decreases-loop-rest l = length l.rest
