use Rattle.pal8_pools.proofs.TableLemmas.{answers_ask}
use Rattle.pal8_pools.proofs.pools.Pools.ask.Goals as goal

pub returns : goal.returns
returns c = λ asks words holds.
    answers_ask (record { field = c.args.field; page = c.args.page; value = c.args.value; stay = c.args.stay }) c.args.punched asks words c.args.self.now c.make.new.self c.put.new.self c.put.result
    c.in_ok-make.ensures.0 c.requires.field c.requires.page holds (c.put.ensures asks words (c.in_ok-make.ensures.0.keeps asks words holds))
