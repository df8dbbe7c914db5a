use Rattle.std.proofs.Common.{◌≡◌, length}
use Rattle.pal8_source.specs.Texts.{is_among}
use Rattle.pal8_source.proofs.texts.is_among.Given as goal

abbrev pub invariant-loop-rest : goal.invariant-loop-rest
invariant-loop-rest l = is_among l.byte l.fn.text ≡ is_among l.byte l.rest

abbrev pub decreases-loop-rest : goal.decreases-loop-rest
decreases-loop-rest l = length l.rest
