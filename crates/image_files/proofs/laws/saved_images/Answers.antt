use Rattle.std.proofs.Common.{subst, true}
use Rattle.hosts.specs.Place.{about, replay}
use Rattle.hosts.specs.Saving.{KeepsFile}
use Rattle.image_files.proofs.laws.saved_images.Goals as goal

pub returns : goal.returns
returns c content path file old new saved certain may start found leaves =
    let kept = subst (λ b. KeepsFile b saved.durability file (about path old) (about path new)) may saved.kept in
    c.saved_files.ensures file (replay start (about path new)) found
    (subst (λ d. KeepsFile true d file (about path old) (about path new)) certain kept start) leaves
