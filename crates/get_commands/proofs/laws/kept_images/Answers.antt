use Rattle.get_commands.proofs.AskLemmas.{image-kept}
use Rattle.get_commands.proofs.laws.kept_images.Goals as goal

pub returns : goal.returns
returns c = image-kept
