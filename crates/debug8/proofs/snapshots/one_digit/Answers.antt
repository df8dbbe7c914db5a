use Rattle.std.proofs.Common.{◌∙◌}
use Rattle.debug8.proofs.Digits.{decimal-octal}
use Rattle.debug8.proofs.snapshots.one_digit.Goals as goal

pub returns : goal.returns
returns c = c.in_ok-text.ensures.ok ∙ decimal-octal c.args.number
