use Rattle.std.proofs.Common.{refl}
use Rattle.hosts.specs.Streams.{errors}
use Rattle.hosts.specs.declared.faults.Durability.TheVariants.{Unknown}
use Rattle.image_files.proofs.UnsavedLemmas.{unsaved}
use Rattle.image_files.proofs.saving.write_file.Goals as goal

pub returns-in-Err : goal.returns-in-Err
returns-in-Err g c =
    let e = c.in-Err.ensures in
    unsaved c.args.content c.args.path.now c.args.name.now c.args.bytes.now c.in-Err.fault.state c.in-Err.fault.why (g.H.Host.history c.args.host.now) (g.H.Host.history c.save_noted.new.host) (g.H.Host.history c.tell_reason.new.host)
    e.saves e.order_cut e.any_moment e.cause e.why e.errors (record { others = e.others; beside = e.beside; prints = e.output; reads = e.read; keeps_folders = e.folders }) c.tell_reason.ensures

pub returns-in-Unknown : goal.returns-in-Unknown
returns-in-Unknown g c =
    let t = c.tell.ensures in
    rw (t.1) (record {
      durability = Unknown;
      kept = rw c.in-Unknown.is at c.in-Ok.ensures.saves;
      moments = c.save_noted.ensures.any_moment;
      order = c.in-Ok.ensures.order;
      noted = errors (g.H.Host.history c.save_noted.new.host);
      place = c.save_noted.ensures.errors;
      sync = (t.0, rw (c.text.ensures) refl);
      only = record { others = c.save_noted.ensures.others; beside = c.save_noted.ensures.beside; prints = c.save_noted.ensures.output; reads = c.save_noted.ensures.read; keeps_folders = c.save_noted.ensures.folders };
    })
