use Rattle.std.proofs.Common.{inl, inr, length, refl}
use Rattle.archive_many.specs.Cutting.{CutsFiles}
use Rattle.image_files.specs.Answers.{Answers}
use Rattle.image_files.proofs.WorkLemmas.{ends_with}
use Rattle.change_commands.proofs.copying.copied_lines.Goals as goal

pub returns : goal.returns
returns g c = inr (record { given = c.in_ok-cuts.cuts; between = g.H.Host.history c.find_cuts.new.host; done = rw c.deref.ensures.value at c.in_ok-cuts.ensures; after = (rw (c.new_name.ensures, c.deref-2.ensures.value) at c.lines_of.ensures, refl) })

pub returns-in_err-cuts : goal.returns-in_err-cuts
returns-in_err-cuts g c =
    inl (ends_with (Answers (CutsFiles c.args.from.now c.args.image.now.bytes.items c.args.files.now) (length c.args.from.now)) _ _ _ c.in_err-cuts.field-0.0 (rw c.deref.ensures.value at c.in_err-cuts.ensures) c.from_residual.ensures)
