use Rattle.show_commands.proofs.Sounding.{checks-sound}
use Rattle.show_commands.proofs.laws.sound_images.Goals as goal

pub returns : goal.returns
returns c = checks-sound
