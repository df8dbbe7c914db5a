use Rattle.std.proofs.Common.{rules, inl, inr, refl, subst, Err}
use Rattle.get_commands.specs.ShowingParts.{GivesTape}
use Rattle.image_files.specs.Work.{Purely}
use Rattle.image_files.proofs.WorkLemmas.{ends_with}
use Rattle.image_files.specs.Reading.{LooksAt}
use Rattle.get_commands.proofs.showing_parts.get_bin.Goals as goal

pub returns-in_err-frames : goal.returns-in_err-frames
returns-in_err-frames g c = inr (record { given = c.in_ok-bytes.bytes; between = g.H.Host.history c.look_at.new.host; done = c.in_ok-bytes.ensures.looks; after = inl (search rules) })

pub returns-in_err-bin : goal.returns-in_err-bin
returns-in_err-bin g c = inr (record { given = c.in_ok-bytes.bytes; between = g.H.Host.history c.look_at.new.host; done = c.in_ok-bytes.ensures.looks; after = inr (record { given = c.in_ok-frames.frames; between = g.H.Host.history c.show_file.new.host; done = search rules; after = inl (ends_with (Purely (GivesTape c.in_ok-frames.frames.items)) _ _ _ _ (subst (λ b. GivesTape b (Err c.in_err-bin.field-0.0)) c.deref-2.ensures.value c.in_err-bin.ensures, refl) c.from_residual-in_err-bin.ensures) }) })

pub returns : goal.returns
returns g c = inr (record { given = c.in_ok-bytes.bytes; between = g.H.Host.history c.look_at.new.host; done = c.in_ok-bytes.ensures.looks; after = inr (record { given = c.in_ok-frames.frames; between = g.H.Host.history c.show_file.new.host; done = search rules; after = inr (record { given = c.in_ok-bin.bin; between = g.H.Host.history c.show_file.new.host; done = (search rules, refl); after = c.print_tape.ensures }) }) })

pub returns-in_err-bytes : goal.returns-in_err-bytes
returns-in_err-bytes g c = inl (ends_with (LooksAt c.args.image.now) _ _ _ _ c.in_err-bytes.ensures.looks c.from_residual.ensures)
