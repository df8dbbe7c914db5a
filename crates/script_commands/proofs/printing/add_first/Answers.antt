use Rattle.script_commands.proofs.RunLemmas.{added, after_now}
use Rattle.script_commands.proofs.printing.add_first.Goals as goal

pub returns-then-has_room-clause-done : goal.returns-then-has_room-clause-done
returns-then-has_room-clause-done g c start old shown one m d = added start old (g.H.Host.history c.args.host.now) shown c.args.progress.now c.push_lines.new.progress c.args.is_refusal c.args.lines.now one d m c.push_lines.ensures

pub returns-clause-done : goal.returns-clause-done
returns-clause-done g c start old shown one m d = after_now start old (g.H.Host.history c.args.host.now) (g.H.Host.history c.print_now.new.host) shown c.args.progress.now c.print_now.new.progress c.args.is_refusal c.args.lines.now one _ d m c.requires c.print_now.ensures.prints c.print_now.ensures.progress
