use Rattle.std.proofs.Common.{arith}
use Rattle.std.proofs.lemmas.List.{take_all}
use Rattle.volume_salvage.specs.declared.scan_lines.TheConstants.{MOST_SHOWN}
use Rattle.volume_salvage.proofs.scan_lines.put_first_line.Goals as goal

pub returns-then-frames-le-MOST_SHOWN : goal.returns-then-frames-le-MOST_SHOWN
returns-then-frames-le-MOST_SHOWN c = rw (take_all MOST_SHOWN c.args.frames.now (omega (arith, c.if-frames-le-MOST_SHOWN.true))) c.put_characters.ensures
