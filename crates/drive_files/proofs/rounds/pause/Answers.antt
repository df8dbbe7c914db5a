use Rattle.std.proofs.Common.{Ok, Err, refl, subst}
use Rattle.drive_files.specs.Rounds.{FilesIfGrown}
use Rattle.drive_files.specs.declared.consoles.Console.{Console}
use Rattle.drive_files.proofs.rounds.pause.Goals as goal

pub returns-in-Ok-file_if_grown-clause-does : goal.returns-in-Ok-file_if_grown-clause-does
returns-in-Ok-file_if_grown-clause-does g c = (
  Ok c.in-Ok.field-0,
  (c.save_if_due.new.places, c.save_if_due.new.last),
  g.H.Host.history c.save_if_due.new.host,
  (c.in-Ok.ensures {u = tt}).saves,
  (
    Ok c.in-Ok-file_if_grown.field-0,
    c.file_if_grown.new.last,
    g.H.Host.history c.file_if_grown.new.host,
    subst (λ (s : Console). FilesIfGrown s c.save_if_due.new.places c.save_if_due.new.last c.file_if_grown.new.last (g.H.Host.history c.save_if_due.new.host) (Ok c.in-Ok-file_if_grown.field-0) (g.H.Host.history c.file_if_grown.new.host))
        c.save_if_due.ensures.console (c.in-Ok-file_if_grown.ensures {u = tt}),
    refl,
    c.asks_for_end.ensures,
  ),
)

pub returns-in-Err-file_if_grown-clause-does : goal.returns-in-Err-file_if_grown-clause-does
returns-in-Err-file_if_grown-clause-does g c = (
  Ok c.in-Ok.field-0,
  (c.save_if_due.new.places, c.save_if_due.new.last),
  g.H.Host.history c.save_if_due.new.host,
  (c.in-Ok.ensures {u = tt}).saves,
  (
    Err c.in-Err-file_if_grown.ending,
    c.file_if_grown.new.last,
    g.H.Host.history c.file_if_grown.new.host,
    subst (λ (s : Console). FilesIfGrown s c.save_if_due.new.places c.save_if_due.new.last c.file_if_grown.new.last (g.H.Host.history c.save_if_due.new.host) (Err c.in-Err-file_if_grown.ending) (g.H.Host.history c.file_if_grown.new.host))
        c.save_if_due.ensures.console c.in-Err-file_if_grown.ensures,
    refl,
    (refl, refl),
  ),
)
