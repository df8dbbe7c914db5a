use Rattle.std.proofs.Common.{rules}
use Rattle.script_commands.proofs.RunLemmas.{saved, failed}
use Rattle.script_commands.proofs.saves.keep.Goals as goal

pub returns-in-Ok-clause-done : goal.returns-in-Ok-clause-done
returns-in-Ok-clause-done g c start old shown d = saved start old (g.H.Host.history c.args.host.now) (g.H.Host.history c.save.new.host) shown c.args.progress.now c.save.new.progress d (search rules) c.requires c.save.ensures.same c.in-Ok.ensures.gets c.save.ensures.output

pub returns-in-Err-clause-done : goal.returns-in-Err-clause-done
returns-in-Err-clause-done g c start old shown d = failed start old (g.H.Host.history c.args.host.now) (g.H.Host.history c.save.new.host) shown c.args.progress.now c.save.new.progress _ d (search rules) c.requires c.save.ensures.same c.in-Err.ensures.gets c.save.ensures.output
