use Rattle.std.proofs.Common.{◌∙◌, ◌<◌, sym, ap, subst, slice_index_or, slice_set, true, false}
use Rattle.pal8_pools.specs.Clashes.{AreMarks, lower, lowest_clash, with_word}
use Rattle.pal8_pools.proofs.ClashLemmas.{lowest_more, one_mark}
use Rattle.pal8_pools.proofs.word_cells.WordCells.put.Goals as goal

pub returns-then-not-is_punched-clause-clash : goal.returns-then-not-is_punched-clause-clash
returns-then-not-is_punched-clause-clash c = λ words word before after punched are holds stay none own zero.
    c.lowest_near-near.ensures words before after punched are holds stay none own zero
    ∙ ap (λ t. lowest_clash after (with_word t c.args.cell word words)) (sym c.if-not-is_punched.true)

pub returns-clause-marks : goal.returns-clause-marks
returns-clause-marks c = λ words word are.
    subst (λ t. AreMarks (slice_set c.self.inside.marks.items c.index.result true) (with_word t c.args.cell word words)) (sym c.if-not-is_punched.false)
    (one_mark c.self.inside.marks.items words c.args.cell word c.index.result c.index.ensures.value
    (subst (λ n. c.index.result < n) (sym c.self.invariant) c.index.ensures.range)
    (λ q. ap (λ l. slice_index_or l q false) c.self.view_is ∙ are q))

pub returns-clause-clash : goal.returns-clause-clash
returns-clause-clash c = λ words word before after punched are holds stay none own zero.
    c.lower.ensures ∙ ap (λ r. lower r c.if_taken-at.result) (c.lowest_near-near.ensures words before after punched are holds stay none own zero)
    ∙ ap (lower (lowest_clash after words)) (c.if_taken-at.ensures after punched holds) ∙ lowest_more words after c.args.cell word
    ∙ ap (λ t. lowest_clash after (with_word t c.args.cell word words)) (sym c.if-not-is_punched.false)
