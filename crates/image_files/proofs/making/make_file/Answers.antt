use Rattle.std.proofs.Common.{Err, ap, inl, inr, rules, sym}
use Rattle.image_files.proofs.KeepLemmas.{of-both}
use Rattle.image_files.proofs.making.make_file.Goals as goal

pub returns-in_default : goal.returns-in_default
returns-in_default g c =
    let e = c.in-Err.ensures in
    inr (inr (
      c.in-Err.fault,
      g.H.Host.history c.hold_file.new.host,
      (c.in_default.not-Absent, ap (λ it. Err it) c.ending_of_file-in_default.ensures),
      record { files = λ path. of-both path (g.H.Host.history c.args.host.now) (g.H.Host.history c.hold_file.new.host) (e.files path) e.folders; prints = e.output; tells = e.errors; reads = e.read },
      e.cause,
      sym e.why,
      c.tell_unheld-in_default.ensures,
    ))

pub returns-in-Ok : goal.returns-in-Ok
returns-in-Ok g c = inl (c.in-Ok.held.path.bytes.items, c.in-Ok.held.has_lock, c.tell_of_lock.ensures.0, search rules)
