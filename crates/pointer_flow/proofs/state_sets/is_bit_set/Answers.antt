use Rattle.std.proofs.Common.{refl}
use Rattle.pointer_flow.proofs.BitLemmas.{reads_bit}
use Rattle.pointer_flow.proofs.state_sets.is_bit_set.Goals as goal

pub returns : goal.returns
returns c = reads_bit c.args.bits.now c.args.number _ refl
