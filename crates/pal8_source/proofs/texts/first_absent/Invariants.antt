use Rattle.std.proofs.Common.{◌≡◌, length}
use Rattle.pal8_source.specs.Texts.{first_absent}
use Rattle.pal8_source.proofs.texts.first_absent.Given as goal

abbrev pub invariant-loop-rest : goal.invariant-loop-rest
invariant-loop-rest l = first_absent l.fn.list l.text ≡ first_absent l.rest l.text

abbrev pub decreases-loop-rest : goal.decreases-loop-rest
decreases-loop-rest l = length l.rest
