use Rattle.std.proofs.Common.{ℕ, Err, List, inl, inr, subst}
use Rattle.archive_many.specs.declared.opened.VolumeFile.{VolumeFile}
use Rattle.change_commands.specs.Copying.{FindsFiles, PutsFiles, TellsCopies}
use Rattle.image_files.specs.Reading.{LooksAt}
use Rattle.image_files.proofs.WorkLemmas.{ends_with}
use Rattle.change_commands.proofs.copying.copy_between.Goals as goal

pub returns-in_err-from : goal.returns-in_err-from
returns-in_err-from g c = inl (ends_with (LooksAt c.args.form.now.image) _ _ _ c.in_err-from.field-0.0 c.in_err-from.ensures.looks c.from_residual.ensures)

pub returns-in_err-files : goal.returns-in_err-files
returns-in_err-files g c = inr (record { given = c.in_ok-from.from; between = g.H.Host.history c.look_at.new.host; done = c.in_ok-from.ensures.looks; after = inl (ends_with (FindsFiles c.args.form.now c.in_ok-from.from.items) _ _ _ _ (rw c.deref.ensures.value at c.in_err-files.ensures) c.from_residual-in_err-files.ensures) })

pub returns-in_err-new : goal.returns-in_err-new
returns-in_err-new g c = inr (record { given = c.in_ok-from.from; between = g.H.Host.history c.look_at.new.host; done = c.in_ok-from.ensures.looks; after = inr (record { given = c.in_ok-files.files; between = g.H.Host.history c.find_files.new.host; done = rw c.deref.ensures.value at c.in_ok-files.ensures; after = inl (ends_with (PutsFiles c.args.form.now c.in_ok-from.from.items c.in_ok-files.files.items c.args.image.bytes.items) _ _ _ _ (subst (λ (l : List VolumeFile). PutsFiles c.args.form.now c.in_ok-from.from.items l c.args.image.bytes.items (g.H.Host.history c.find_files.new.host) (Err c.in_err-new.field-0.0) (g.H.Host.history c.image_with.new.host)) c.deref-3.ensures.value (subst (λ (l : List ℕ). PutsFiles c.args.form.now l c.deref-3.result.now c.args.image.bytes.items (g.H.Host.history c.find_files.new.host) (Err c.in_err-new.field-0.0) (g.H.Host.history c.image_with.new.host)) c.deref-2.ensures.value c.in_err-new.ensures)) c.from_residual-in_err-new.ensures) }) })

pub returns : goal.returns
returns g c = inr (record { given = c.in_ok-from.from; between = g.H.Host.history c.look_at.new.host; done = c.in_ok-from.ensures.looks; after = inr (record { given = c.in_ok-files.files; between = g.H.Host.history c.find_files.new.host; done = rw c.deref.ensures.value at c.in_ok-files.ensures; after = inr (record { given = c.in_ok-new.new; between = g.H.Host.history c.image_with.new.host; done = rw c.deref-2.ensures.value at (rw c.deref-3.ensures.value at c.in_ok-new.ensures); after = inr (record { given = c.in_ok-lines.lines; between = g.H.Host.history c.copied_lines.new.host; done = rw c.deref-4.ensures.value at (rw c.deref-5.ensures.value at c.in_ok-lines.ensures); after = rw c.deref-6.ensures.value at (rw c.deref-7.ensures.value at c.store.ensures) }) }) }) })

pub returns-in_err-lines : goal.returns-in_err-lines
returns-in_err-lines g c = inr (record { given = c.in_ok-from.from; between = g.H.Host.history c.look_at.new.host; done = c.in_ok-from.ensures.looks; after = inr (record { given = c.in_ok-files.files; between = g.H.Host.history c.find_files.new.host; done = rw c.deref.ensures.value at c.in_ok-files.ensures; after = inr (record { given = c.in_ok-new.new; between = g.H.Host.history c.image_with.new.host; done = rw c.deref-2.ensures.value at (rw c.deref-3.ensures.value at c.in_ok-new.ensures); after = inl (ends_with (TellsCopies c.args.form.now c.in_ok-from.from.items c.in_ok-files.files.items c.args.image.bytes.items) _ _ _ _ (rw c.deref-4.ensures.value at (rw c.deref-5.ensures.value at c.in_err-lines.ensures)) c.from_residual-in_err-lines.ensures) }) }) })
