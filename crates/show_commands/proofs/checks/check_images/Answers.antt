use Rattle.std.proofs.Common.{inr, refl}
use Rattle.show_commands.proofs.checks.check_images.Goals as goal

pub returns : goal.returns
returns g c = inr (record { given = c.in_ok-images.images; between = g.H.Host.history c.args.host.now; done = (rw c.deref.ensures.value at c.in_ok-images.ensures, refl); after = rw c.deref-2.ensures.value at c.check_each_image.ensures })
