use Rattle.std.proofs.Common.{refl, arith}
use Rattle.bin_tape.proofs.ItemLemmas.{address_low}
use Rattle.bin_tape.proofs.prefixes.Prefix.with_word.Goals as goal

pub returns : goal.returns
returns c = λ items part r begun. record {
  next = omega (arith, address_low items r.is_prefix);
  sum = omega arith;
  origin = r.origin;
  word = refl;
  last = (r.next, c.pair-word.ensures.value, r.sum);
  first = refl;
  is_prefix = (c.requires.high, c.requires.low, begun, r.is_prefix);
  begun = tt;
}
