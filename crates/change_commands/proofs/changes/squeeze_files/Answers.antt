use Rattle.std.proofs.Common.{ℕ, Err, List, length, rules, inl, inr, refl, subst}
use Rattle.archive_files.specs.Squeezing.{SqueezesFiles}
use Rattle.image_files.specs.Answers.{Answers}
use Rattle.image_files.proofs.WorkLemmas.{ends_with}
use Rattle.change_commands.proofs.changes.squeeze_files.Goals as goal

pub returns-in_err-new : goal.returns-in_err-new
returns-in_err-new g c = inr (record { given = c.in_ok-image.image; between = g.H.Host.history c.open.new.host; done = c.in_ok-image.ensures.opens; after = inl (ends_with (Answers (SqueezesFiles c.in_ok-image.image.bytes.items) (length c.in_ok-image.image.bytes.items)) _ _ _ c.in_err-new.field-0.0 (subst (λ (b : List ℕ). Answers (SqueezesFiles b) (length b) (g.H.Host.history c.open.new.host) (Err c.in_err-new.field-0.0) (g.H.Host.history c.squeezed_image.new.host)) c.deref.ensures.value c.in_err-new.ensures) c.from_residual-in_err-new.ensures) })

pub returns-in_err-line : goal.returns-in_err-line
returns-in_err-line g c = inr (record { given = c.in_ok-image.image; between = g.H.Host.history c.open.new.host; done = c.in_ok-image.ensures.opens; after = inr (record { given = c.in_ok-new.new; between = g.H.Host.history c.squeezed_image.new.host; done = search rules; after = inl (search rules) }) })

pub returns : goal.returns
returns g c = inr (record { given = c.in_ok-image.image; between = g.H.Host.history c.open.new.host; done = c.in_ok-image.ensures.opens; after = inr (record { given = c.in_ok-new.new; between = g.H.Host.history c.squeezed_image.new.host; done = search rules; after = inr (record { given = c.in_ok-line.line; between = g.H.Host.history c.squeezed_image.new.host; done = (c.in_ok-line.ensures, refl); after = rw c.deref-2.ensures.value at (rw c.deref-3.ensures.value at c.store.ensures) }) }) })
