use Rattle.std.proofs.Common.{inl, inr, refl}
use Rattle.image_files.proofs.WorkLemmas.{ends_with}
use Rattle.drive_files.specs.Devices.{OpensPapers, ReadsTape}
use Rattle.drive_files.proofs.devices.open_devices.Goals as goal

pub returns-in_err-tape : goal.returns-in_err-tape
returns-in_err-tape g c = inl (ends_with (ReadsTape c.args.form.now.reader) _ _ _ _ c.in_err-tape.ensures c.from_residual.ensures)

pub returns-in_err-papers : goal.returns-in_err-papers
returns-in_err-papers g c = inr (record {
  given = c.in_ok-tape.tape;
  between = g.H.Host.history c.read_tape.new.host;
  done = c.in_ok-tape.ensures;
  after = inl (ends_with (OpensPapers c.args.form.now) _ _ _ _ c.in_err-papers.ensures c.from_residual-in_err-papers.ensures);
})

pub returns : goal.returns
returns g c = inr (record {
  given = c.in_ok-tape.tape;
  between = g.H.Host.history c.read_tape.new.host;
  done = c.in_ok-tape.ensures;
  after = inr (record { given = c.in_ok-papers.papers; between = g.H.Host.history c.open_papers.new.host; done = c.in_ok-papers.ensures; after = (refl, refl) });
})
