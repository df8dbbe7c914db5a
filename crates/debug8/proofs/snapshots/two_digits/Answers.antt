use Rattle.std.proofs.Common.{rules}
use Rattle.debug8.proofs.Digits.{two-digits}
use Rattle.debug8.proofs.snapshots.two_digits.Goals as goal

pub returns : goal.returns
returns c = search (rules, two-digits c.args.number, c.in_ok-text.ensures)
