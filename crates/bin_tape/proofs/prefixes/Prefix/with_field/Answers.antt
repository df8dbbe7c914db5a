use Rattle.std.proofs.Common.{refl, arith}
use Rattle.bin_tape.proofs.ItemLemmas.{address_low}
use Rattle.bin_tape.proofs.prefixes.Prefix.with_field.Goals as goal

pub returns : goal.returns
returns c = λ items r. record {
  next = omega (arith, address_low items r.is_prefix);
  sum = r.sum;
  origin = r.origin;
  word = refl;
  last = r.last;
  first = r.first;
  is_prefix = (c.requires, r.is_prefix);
  begun = tt;
}
