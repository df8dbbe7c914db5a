use Rattle.script_commands.proofs.RunLemmas.{all_printed, not_printed}
use Rattle.script_commands.proofs.printing.print_waiting.Goals as goal

pub returns-in-Ok-clause-done : goal.returns-in-Ok-clause-done
returns-in-Ok-clause-done g c start old shown going d = all_printed start old (g.H.Host.history c.args.host.now) (g.H.Host.history c.print_bytes.new.host) shown c.args.progress.now c.clear.new.self d going c.clear.ensures.items (rw c.deref.ensures.value at c.in-Ok.ensures)

pub returns-in-Err-clause-done : goal.returns-in-Err-clause-done
returns-in-Err-clause-done g c start old shown going d = not_printed start old (g.H.Host.history c.args.host.now) (g.H.Host.history c.print_bytes.new.host) shown c.args.progress.now c.in-Err.fault _ d going c.in-Err.ensures
