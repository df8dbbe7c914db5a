use Rattle.script_commands.proofs.RunLemmas.{form_told}
use Rattle.script_commands.proofs.watching.show_form.Goals as goal

pub returns-then-is_bad_line-clause-done : goal.returns-then-is_bad_line-clause-done
returns-then-is_bad_line-clause-done g c start old shown d = form_told start old (g.H.Host.history c.args.host.now) (g.H.Host.history c.tell_form.new.host) shown c.args.progress.now c.args.hint.now d c.if-progress.true c.tell_form.ensures
