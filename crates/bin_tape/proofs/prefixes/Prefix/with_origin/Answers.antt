use Rattle.std.proofs.Common.{refl, arith}
use Rattle.bin_tape.proofs.ItemLemmas.{address_low}
use Rattle.bin_tape.proofs.prefixes.Prefix.with_origin.Goals as goal

pub returns : goal.returns
returns c = λ items part r. record {
  next = omega (arith, address_low items r.is_prefix);
  sum = omega arith;
  origin = refl;
  word = refl;
  last = r.last;
  first = refl;
  is_prefix = (c.requires.high, c.requires.low, r.is_prefix);
  begun = tt;
}
