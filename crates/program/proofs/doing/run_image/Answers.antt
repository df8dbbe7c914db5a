use Rattle.std.proofs.Common.{inr}
use Rattle.program.proofs.doing.run_image.Goals as goal

pub returns : goal.returns
returns g c = inr (record {
  given = c.in_ok-image.image;
  between = g.H.Host.history c.open_within.new.host;
  done = c.in_ok-image.ensures;
  after = rw c.forms_for.ensures at c.run_over.ensures;
})
