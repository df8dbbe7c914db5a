use Rattle.std.proofs.Common.{inl, inr, refl}
use Rattle.image_files.specs.Reading.{LooksAt}
use Rattle.image_files.proofs.WorkLemmas.{ends_with}
use Rattle.tape_commands.proofs.rims.member_frames.Goals as goal

pub returns-in_err-bytes : goal.returns-in_err-bytes
returns-in_err-bytes g c = inr (record { given = c.in_ok-asked.asked; between = g.H.Host.history c.args.host.now; done = (c.in_ok-asked.ensures, refl); after = inl (ends_with (LooksAt c.args.image.now) (g.H.Host.history c.args.host.now) (g.H.Host.history c.look_at.new.host) _ c.in_err-bytes.field-0.0 c.in_err-bytes.ensures.looks c.from_residual-in_err-bytes.ensures) })

pub returns : goal.returns
returns g c = inr (record { given = c.in_ok-asked.asked; between = g.H.Host.history c.args.host.now; done = (c.in_ok-asked.ensures, refl); after = inr (record { given = c.in_ok-bytes.bytes; between = g.H.Host.history c.look_at.new.host; done = c.in_ok-bytes.ensures.looks; after = rw c.deref.ensures.value at c.show_file.ensures }) })
