use Rattle.script_commands.proofs.RunLemmas.{cut_short}
use Rattle.script_commands.proofs.scripts.tell_if_cut.Goals as goal

pub returns-then-is_too_long-clause-done : goal.returns-then-is_too_long-clause-done
returns-then-is_too_long-clause-done g c start old shown d = cut_short start old (g.H.Host.history c.args.host.now) (g.H.Host.history c.tell_cut_input.new.host) shown c.args.progress.now c.tell_cut_input.ensures.0 d c.tell_cut_input.ensures.1
