use Rattle.char_pack.proofs.PackLemmas.{packed-frames}
use Rattle.char_pack.proofs.laws.packed_frames.Goals as goal

pub returns : goal.returns
returns c = λ words even fit. packed-frames words even (λ k within. fit k 0 within)
