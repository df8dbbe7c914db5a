use Rattle.std.proofs.Common.{ap, sym, ◌∙◌, subst}
use Rattle.bin_tape.specs.Progress.{Progress}
use Rattle.bin_tape.specs.Reading.{Counts}
use Rattle.bin_tape.proofs.FrameLemmas.{counts_ignore, counts_other, kept_ignore, kept_more}
use Rattle.bin_tape.proofs.readers.TapeReader.count.Goals as goal

pub returns-then-frame-eq-IGNORE-clause-counts : goal.returns-then-frame-eq-IGNORE-clause-counts
returns-then-frame-eq-IGNORE-clause-counts c = λ frames counts.
    counts_ignore _ _ _ frames _ c.if-frame-eq-IGNORE.true c.saturating_add-self-inside.ensures
    (subst (λ (p : Progress). Counts p.place p.ignoring frames) (sym c.self.view_is) counts)

pub returns-then-frame-eq-IGNORE-clause-kept : goal.returns-then-frame-eq-IGNORE-clause-kept
returns-then-frame-eq-IGNORE-clause-kept c = λ frames counts. rw c.if-frame-eq-IGNORE.true (kept_ignore frames)

pub returns-clause-counts : goal.returns-clause-counts
returns-clause-counts c = λ frames counts.
    counts_other _ _ _ frames _ c.if-frame-eq-IGNORE.false c.saturating_add-self-inside.ensures
    (subst (λ (p : Progress). Counts p.place p.ignoring frames) (sym c.self.view_is) counts)

pub returns-clause-kept : goal.returns-clause-kept
returns-clause-kept c = λ frames counts.
    kept_more frames _ c.if-frame-eq-IGNORE.false _ (ap (λ (p : Progress). p.ignoring) c.self.view_is ∙ counts.ignoring_is)
