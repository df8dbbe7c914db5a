use Rattle.std.proofs.Common.{inl, inr, refl}
use Rattle.image_files.proofs.WorkLemmas.{ends_with}
use Rattle.drive_files.specs.Devices.{OpensPaper}
use Rattle.drive_files.proofs.devices.open_papers.Goals as goal

pub returns-in_err-punch : goal.returns-in_err-punch
returns-in_err-punch g c = inl (ends_with (OpensPaper c.args.form.now.punch) _ _ _ _ c.in_err-punch.ensures c.from_residual.ensures)

pub returns-in_err-printer : goal.returns-in_err-printer
returns-in_err-printer g c = inr (record {
  given = c.in_ok-punch.punch;
  between = g.H.Host.history c.open_paper.new.host;
  done = c.in_ok-punch.ensures;
  after = inl (ends_with (OpensPaper c.args.form.now.printer) _ _ _ _ c.in_err-printer.ensures c.from_residual-in_err-printer.ensures);
})

pub returns-in_err-transfers : goal.returns-in_err-transfers
returns-in_err-transfers g c = inr (record {
  given = c.in_ok-punch.punch;
  between = g.H.Host.history c.open_paper.new.host;
  done = c.in_ok-punch.ensures;
  after = inr (record {
    given = c.in_ok-printer.printer;
    between = g.H.Host.history c.open_paper-2.new.host;
    done = c.in_ok-printer.ensures;
    after = inl (ends_with (OpensPaper c.args.form.now.transfers) _ _ _ _ c.in_err-transfers.ensures c.from_residual-in_err-transfers.ensures);
  });
})

pub returns : goal.returns
returns g c = inr (record {
  given = c.in_ok-punch.punch;
  between = g.H.Host.history c.open_paper.new.host;
  done = c.in_ok-punch.ensures;
  after = inr (record {
    given = c.in_ok-printer.printer;
    between = g.H.Host.history c.open_paper-2.new.host;
    done = c.in_ok-printer.ensures;
    after = inr (record { given = c.in_ok-transfers.transfers; between = g.H.Host.history c.open_paper-3.new.host; done = c.in_ok-transfers.ensures; after = (refl, refl) });
  });
})
