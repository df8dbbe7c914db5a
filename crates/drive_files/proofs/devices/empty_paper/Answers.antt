use Rattle.std.proofs.Common.{[], Err, inl, inr, refl, subst}
use Rattle.image_files.specs.Saving.{Writes}
use Rattle.image_files.proofs.WorkLemmas.{ends_with}
use Rattle.outcome.specs.declared.contents.Content.TheVariants.{Tape}
use Rattle.drive_files.specs.Devices.{HoldsPaper, MakesPaper}
use Rattle.drive_files.proofs.DeviceLemmas.{name-memory}
use Rattle.drive_files.proofs.devices.empty_paper.Goals as goal

pub returns-in_err-shown : goal.returns-in_err-shown
returns-in_err-shown g c = inl (name-memory _ _ _ refl c.from_residual.ensures)

pub returns-in_err-make_paper : goal.returns-in_err-make_paper
returns-in_err-make_paper g c = inr (inl (ends_with (MakesPaper c.args.name.now) _ _ _ _ c.in_err-make_paper.ensures c.from_residual-in_err-make_paper.ensures))

pub returns-in_err-held : goal.returns-in_err-held
returns-in_err-held g c = inr (inr (record {
  given = tt;
  between = g.H.Host.history c.make_paper.new.host;
  done = c.in_ok-make_paper.ensures;
  after = inl (ends_with (HoldsPaper c.args.name.now) (g.H.Host.history c.make_paper.new.host) _ _ _ c.in_err-held.ensures c.from_residual-in_err-held.ensures);
}))

pub returns-in_err-write_file : goal.returns-in_err-write_file
returns-in_err-write_file g c = inr (inr (record {
  given = tt;
  between = g.H.Host.history c.make_paper.new.host;
  done = c.in_ok-make_paper.ensures;
  after = inr (record {
    given = c.in_ok-held.held;
    between = g.H.Host.history c.hold_paper.new.host;
    done = c.in_ok-held.ensures;
    after = inl (ends_with (Writes Tape c.in_ok-held.held.path.bytes.items c.args.name.now []) (g.H.Host.history c.hold_paper.new.host) _ _ _
        (subst (λ p. Writes Tape p c.args.name.now [] (g.H.Host.history c.hold_paper.new.host) (Err c.in_err-write_file.field-0.0) (g.H.Host.history c.write_file.new.host)) c.as_str.ensures.value c.in_err-write_file.ensures) c.from_residual-in_err-write_file.ensures);
  });
}))

pub returns : goal.returns
returns g c = inr (inr (record {
  given = tt;
  between = g.H.Host.history c.make_paper.new.host;
  done = c.in_ok-make_paper.ensures;
  after = inr (record {
    given = c.in_ok-held.held;
    between = g.H.Host.history c.hold_paper.new.host;
    done = c.in_ok-held.ensures;
    after = inr (record {
      given = tt;
      between = g.H.Host.history c.write_file.new.host;
      done = rw c.as_str.ensures.value at c.in_ok-write_file.ensures;
      after = ((refl, c.in_ok-shown.ensures.ok), refl);
    });
  });
}))
