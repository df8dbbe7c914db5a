use Rattle.pal_asm.proofs.ByteLemmas.{read_more}
use Rattle.pal_asm.proofs.passing.read_on.Goals as goal

pub returns-clause-read : goal.returns-clause-read
returns-clause-read c = λ seam before here read.
    read_more seam before here c.args.text.now c.split_at.result.1.now c.args.offset c.read_on.result c.read_on.new.self c.split_at.ensures.back (c.read_on.ensures.read seam _ read)
