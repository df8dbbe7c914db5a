use Rattle.block_scan.proofs.ChanceLemmas.{rules-out}
use Rattle.block_scan.proofs.programs.rule_out.Goals as goal

pub returns : goal.returns
returns c = rules-out c.longer_tape.ensures c.args.words.now c.args.frames.now c.args.count c.args.chance c.requires
