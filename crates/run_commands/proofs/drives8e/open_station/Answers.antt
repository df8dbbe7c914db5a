use Rattle.std.proofs.Common.{◌∙◌, ap, inl, inr, refl}
use Rattle.image_files.proofs.WorkLemmas.{ends_with}
use Rattle.drive_files.specs.Opening.{OpensDrives}
use Rattle.drive_files.specs.Devices.{OpensDevices, with_devices}
use Rattle.drive_files.specs.Mounting.{with_papers}
use Rattle.drive_files.specs.declared.devices.PaperPlaces.{PaperPlaces}
use Rattle.drive_files.specs.declared.mounting.Places.{Places}
use Rattle.run_commands.proofs.drives8e.open_station.Goals as goal

pub returns-in_err-drives : goal.returns-in_err-drives
returns-in_err-drives g c = inr (record {
  given = c.in_ok-papers.papers;
  between = g.H.Host.history c.args.host.now;
  done = (c.in_ok-papers.ensures, refl);
  after = inl (ends_with (OpensDrives c.args.form.now) _ _ _ _ c.in_err-drives.ensures c.from_residual-in_err-drives.ensures);
})

pub returns-in_err-devices : goal.returns-in_err-devices
returns-in_err-devices g c = inr (record {
  given = c.in_ok-papers.papers;
  between = g.H.Host.history c.args.host.now;
  done = (c.in_ok-papers.ensures, refl);
  after = inr (record {
    given = c.in_ok-drives.drives;
    between = g.H.Host.history c.open_drives.new.host;
    done = c.in_ok-drives.ensures;
    after = inl (ends_with (OpensDevices c.args.asked.now) _ _ _ _ c.in_err-devices.ensures c.from_residual-in_err-devices.ensures);
  });
})

pub returns : goal.returns
returns g c = inr (record {
  given = c.in_ok-papers.papers;
  between = g.H.Host.history c.args.host.now;
  done = (c.in_ok-papers.ensures, refl);
  after = inr (record {
    given = c.in_ok-drives.drives;
    between = g.H.Host.history c.open_drives.new.host;
    done = c.in_ok-drives.ensures;
    after = inr (record {
      given = c.in_ok-devices.devices;
      between = g.H.Host.history c.open_devices.new.host;
      done = c.in_ok-devices.ensures;
      after = (
        (
          c.put_devices.ensures.machine ∙ ap (λ m. with_devices m c.args.asked.now c.in_ok-devices.devices) c.machine_of-machine.ensures.machine,
          ap (λ (p : PaperPlaces). let x : Places = record c.machine_of-machine.result.1 { papers = p } in x) c.put_devices.ensures.papers
              ∙ ap (λ (p : Places). with_papers c.in_ok-devices.devices p) c.machine_of-machine.ensures.places,
          refl,
        ),
        refl,
      );
    });
  });
})
