use Rattle.std.proofs.Common.{inr}
use Rattle.show_commands.proofs.checks.check_next.Goals as goal

pub returns-clause-checks : goal.returns-clause-checks
returns-clause-checks g c = inr (record { given = tt; between = g.H.Host.history c.tell.new.host; done = (tt, c.tell.ensures.tells); after = rw (c.kind_of_check-kind.ensures, c.image_named.ensures.file, c.image_named.ensures.reading, c.reading_of.ensures) at c.report_next.ensures })
