use Rattle.std.proofs.Common.{rules, inl, inr, refl}
use Rattle.image_files.specs.Reading.{LooksAt}
use Rattle.image_files.proofs.WorkLemmas.{ends_with}
use Rattle.show_commands.proofs.dumps.dump_blocks.Goals as goal

pub returns-in_err-text : goal.returns-in_err-text
returns-in_err-text g c = inr (record { given = c.in_ok-image.image; between = g.H.Host.history c.look_at.new.host; done = c.in_ok-image.ensures.looks; after = inl (search rules) })

pub returns : goal.returns
returns g c = inr (record { given = c.in_ok-image.image; between = g.H.Host.history c.look_at.new.host; done = c.in_ok-image.ensures.looks; after = inr (record { given = c.in_ok-text.text; between = g.H.Host.history c.look_at.new.host; done = (rw c.form_of.ensures at (rw c.deref.ensures.value at c.in_ok-text.ensures), refl); after = rw c.deref-2.ensures.value at c.print.ensures }) })

pub returns-in_err-image : goal.returns-in_err-image
returns-in_err-image g c = inl (ends_with (LooksAt c.args.form.now) _ _ _ _ c.in_err-image.ensures.looks c.from_residual.ensures)
