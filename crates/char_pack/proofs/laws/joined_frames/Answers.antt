use Rattle.char_pack.proofs.FrameLemmas.{frames-append}
use Rattle.char_pack.proofs.laws.joined_frames.Goals as goal

pub returns : goal.returns
returns c = frames-append
