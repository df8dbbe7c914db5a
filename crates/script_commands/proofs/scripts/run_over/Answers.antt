use Rattle.std.proofs.Common.{inl, inr, length, refl}
use Rattle.image_files.specs.Answers.{Answers}
use Rattle.image_files.specs.Work.{Purely}
use Rattle.script_commands.specs.Scripts.{IsRoom, MountsSession, is_parted}
use Rattle.image_files.proofs.WorkLemmas.{ends_with}
use Rattle.script_commands.proofs.scripts.run_over.Goals as goal

pub returns-in_err-rooms : goal.returns-in_err-rooms
returns-in_err-rooms g c = inl (ends_with (Purely (IsRoom {A = Unit {0}})) (g.H.Host.history c.args.host.now) (g.H.Host.history c.args.host.now) _ c.in_err-rooms.field-0.0 (c.in_err-rooms.ensures, refl) c.from_residual.ensures)

pub returns-in_err-session : goal.returns-in_err-session
returns-in_err-session g c = inr (record { given = tt; between = g.H.Host.history c.args.host.now; done = (tt, refl); after = inl (ends_with (Answers (MountsSession (is_parted c.args.image) c.args.image.bytes.items) (length c.args.image.bytes.items)) _ _ _ c.in_err-session.field-0.0 (rw (c.is_parted.ensures, c.deref-2.ensures.value) at c.in_err-session.ensures) c.from_residual-in_err-session.ensures) })

pub returns : goal.returns
returns g c = inr (record { given = tt; between = g.H.Host.history c.args.host.now; done = (tt, refl); after = inr (record { given = c.in_ok-session.session; between = g.H.Host.history c.session_over.new.host; done = rw c.deref-2.ensures.value at c.in_ok-session.ensures; after = c.run_session.ensures }) })
