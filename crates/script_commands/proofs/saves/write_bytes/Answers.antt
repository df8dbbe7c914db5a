use Rattle.std.proofs.Common.{inr}
use Rattle.script_commands.proofs.SaveLemmas.{left_so}
use Rattle.script_commands.proofs.saves.write_bytes.Goals as goal

pub returns-in-Err : goal.returns-in-Err
returns-in-Err g c =
    let e = c.in-Err.ensures in
    inr (left_so c.args.is_told c.args.path.now c.args.name.now c.args.bytes.now c.in-Err.fault.state c.in-Err.fault.why (g.H.Host.history c.args.host.now) (g.H.Host.history c.save_file.new.host) (g.H.Host.history c.tell_reason.new.host)
    e.saves e.order_cut e.any_moment e.cause e.why (rw c.place_note.ensures at e.noted) (record { others = e.others; beside = e.beside; prints = e.output; reads = e.read; keeps_folders = e.folders }) c.tell_reason.ensures)
