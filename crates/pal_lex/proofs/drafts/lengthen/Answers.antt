use Rattle.pal_lex.specs.Runs.{base}
use Rattle.pal_lex.specs.GrowthSteps.{grown}
use Rattle.pal_lex.proofs.DraftLemmas.{lengthened}
use Rattle.pal_lex.proofs.drafts.lengthen.Goals as goal

pub returns-in-Some : goal.returns-in-Some
returns-in-Some c = λ before last e.
    let h = c.in-Some.ensures.item in
    let g = c.grown-last.ensures in
    rw g (lengthened c.args.tokens.now before last c.in-Some.last.now
    (λ t. record { kind = grown (base c.args.radix) c.args.weight c.args.character t.kind; start = t.start; end = c.args.end }) e h.1)
