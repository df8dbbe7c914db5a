use Rattle.std.proofs.Common.{◌∷◌, subst}
use Rattle.hosts.specs.Place.{Leaves, about, replay}
use Rattle.image_files.proofs.laws.unsaved_images.Goals as goal

pub returns : goal.returns
returns c content path file fault old new unsaved start found leaves =
    let same = unsaved.same start in
    subst (λ d. Leaves (d ∷ (replay start (about path old)).earlier) found) same.on_disk
    (subst (λ e. Leaves ((replay start (about path new)).on_disk ∷ e) found) same.earlier leaves)
