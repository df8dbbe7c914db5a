use Rattle.std.proofs.Common.{inl, inr, refl}
use Rattle.image_files.proofs.WorkLemmas.{ends_with}
use Rattle.drive_files.specs.Devices.{OpensDevices}
use Rattle.run_commands.proofs.console_files.open_files.Goals as goal

pub returns-in_err-devices : goal.returns-in_err-devices
returns-in_err-devices g c = inr (record {
  given = c.in_ok-papers.papers;
  between = g.H.Host.history c.args.host.now;
  done = (c.in_ok-papers.ensures, refl);
  after = inr (record {
    given = c.in_ok-drives.drives;
    between = g.H.Host.history c.open_drives.new.host;
    done = c.in_ok-drives.ensures;
    after = inl (ends_with (OpensDevices c.args.form.now.devices) _ _ _ _ c.in_err-devices.ensures c.from_residual-in_err-devices.ensures);
  });
})

pub returns : goal.returns
returns g c = inr (record {
  given = c.in_ok-papers.papers;
  between = g.H.Host.history c.args.host.now;
  done = (c.in_ok-papers.ensures, refl);
  after = inr (record {
    given = c.in_ok-drives.drives;
    between = g.H.Host.history c.open_drives.new.host;
    done = c.in_ok-drives.ensures;
    after = inr (record {
      given = c.in_ok-devices.devices;
      between = g.H.Host.history c.open_devices.new.host;
      done = c.in_ok-devices.ensures;
      after = ((refl, refl, refl), refl);
    });
  });
})
