use Rattle.std.proofs.Common.{◌∙◌, ap, subst}
use Rattle.pdp8e.specs.Papers.{PapersState}
use Rattle.drive_files.specs.Devices.{SavesPapers}
use Rattle.drive_files.specs.Saving.{earlier}
use Rattle.drive_files.proofs.devices.save_papers.Goals as goal

pub returns : goal.returns
returns g c = subst (λ (p : PapersState). SavesPapers p c.args.places.now (g.H.Host.history c.args.host.now) c.earlier-2.result (g.H.Host.history c.save_paper-third.new.host)) c.papers.view_is (record {
  first = c.save_paper-first.result;
  second = c.save_paper-second.result;
  third = c.save_paper-third.result;
  after_first = g.H.Host.history c.save_paper-first.new.host;
  after_second = g.H.Host.history c.save_paper-second.new.host;
  saves_punch = c.save_paper-first.ensures;
  saves_printer = c.save_paper-second.ensures;
  saves_transfers = c.save_paper-third.ensures;
  is = c.earlier-2.ensures ∙ ap (λ r. earlier c.save_paper-first.result r) c.earlier.ensures;
})
