use Rattle.std.proofs.Common.{sym}
use Rattle.char_pack.proofs.FrameLemmas.{length-frames}
use Rattle.char_pack.proofs.reading.frame_count.Goals as goal

pub returns-clause-frames : goal.returns-clause-frames
returns-clause-frames c = sym (length-frames c.args.words.now)
