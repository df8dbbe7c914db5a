use Rattle.std.proofs.Common.{◌/◌, ◌<◌, length, arith}
use Rattle.pointer_flow.proofs.BitLemmas.{set_elsewhere, set_here}
use Rattle.pointer_flow.proofs.state_sets.set_bit.Goals as goal

pub returns : goal.returns
returns c =
    let inside : c.args.number / 64 < length c.args.bits.now = omega (arith, c.requires) in
    record {
      marked = set_here c.args.bits.now c.args.number inside;
      others = λ other apart. set_elsewhere c.args.bits.now c.args.number other inside apart;
    }
