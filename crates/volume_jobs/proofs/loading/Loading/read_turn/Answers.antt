use Rattle.std.proofs.Common.{refl, subst}
use Rattle.os8_files.specs.Calls.{HasRead}
use Rattle.volume_jobs.proofs.TurnLemmas.{loads_on}
use Rattle.volume_jobs.proofs.loading.Loading.read_turn.Goals as goal

pub returns-clause-turn : goal.returns-clause-turn
returns-clause-turn g c = λ words has is.
    loads_on words c.args.files.now c.read_block.new.self c.args.self.now c.take_block.new.self c.args.left c.read_block.new.words c.take_block.result has is
    (subst (λ n. HasRead c.args.files.now n c.args.self.now.blocks_read c.read_block.new.words c.read_block.new.self) c.name-name.ensures c.in_ok-read_block.ensures)
    (λ this. c.take_block.ensures.block words c.args.left is this c.requires.more refl)
