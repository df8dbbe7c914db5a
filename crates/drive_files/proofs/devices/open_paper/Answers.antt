use Rattle.std.proofs.Common.{inl, inr, refl}
use Rattle.image_files.proofs.WorkLemmas.{ends_with}
use Rattle.drive_files.specs.Devices.{EmptiesPaper}
use Rattle.drive_files.proofs.devices.open_paper.Goals as goal

pub returns-in_err-place-in-Some : goal.returns-in_err-place-in-Some
returns-in_err-place-in-Some g c = rw c.in-Some.is (inl (ends_with (EmptiesPaper c.in-Some.name.bytes.items) (g.H.Host.history c.args.host.now) _ _ _
    (rw c.as_str.ensures.value at c.in_err-place-in-Some.ensures) c.from_residual.ensures))

pub returns-in_ok-place-in-Some : goal.returns-in_ok-place-in-Some
returns-in_ok-place-in-Some g c = rw c.in-Some.is (inr (record {
  given = c.in_ok-place-in-Some.place;
  between = g.H.Host.history c.empty_paper.new.host;
  done = rw c.as_str.ensures.value at c.in_ok-place-in-Some.ensures;
  after = (refl, refl);
}))
