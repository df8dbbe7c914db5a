use Rattle.std.proofs.Common.{rules, inr}
use Rattle.put_commands.proofs.putting.judge_put.Goals as goal

pub returns : goal.returns
returns g c = inr (record { given = tt; between = g.H.Host.history c.keep_words.new.host; done = search rules; after = c.judge_info.ensures })
