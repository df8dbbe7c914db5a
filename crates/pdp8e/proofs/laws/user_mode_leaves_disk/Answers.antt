use Rattle.pdp8e.proofs.UserLemmas.{user_leaves}
use Rattle.pdp8e.proofs.laws.user_mode_leaves_disk.Goals as goal

pub returns : goal.returns
returns c = user_leaves
