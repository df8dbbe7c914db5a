use Rattle.std.proofs.Common.{inl, inr}
use Rattle.tape_commands.specs.Tapes.{GivesLines}
use Rattle.image_files.proofs.WorkLemmas.{ends_with}
use Rattle.tape_commands.proofs.tapes.list_tape.Goals as goal

pub returns-in_err-text : goal.returns-in_err-text
returns-in_err-text g c = inr (record { given = c.in_ok-program.program; between = g.H.Host.history c.given_program.new.host; done = c.in_ok-program.ensures; after = inl (ends_with (GivesLines c.in_ok-program.program.frames.items) _ _ _ _ (rw c.deref.ensures.value at c.in_err-text.ensures) c.from_residual-in_err-text.ensures) })

pub returns : goal.returns
returns g c = inr (record { given = c.in_ok-program.program; between = g.H.Host.history c.given_program.new.host; done = c.in_ok-program.ensures; after = inr (record { given = c.in_ok-text.text; between = g.H.Host.history c.lines_of.new.host; done = rw c.deref.ensures.value at c.in_ok-text.ensures; after = rw c.deref-2.ensures.value at c.print.ensures }) })
