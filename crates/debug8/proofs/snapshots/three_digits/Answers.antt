use Rattle.std.proofs.Common.{◌∙◌}
use Rattle.debug8.proofs.Digits.{three-digits}
use Rattle.debug8.proofs.snapshots.three_digits.Goals as goal

pub returns : goal.returns
returns c = c.in_ok-text.ensures.ok ∙ three-digits c.args.number
