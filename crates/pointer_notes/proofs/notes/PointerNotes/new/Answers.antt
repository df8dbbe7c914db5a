use Rattle.std.proofs.Common.{sym, ◌∙◌}
use Rattle.pointer_notes.proofs.NoteLemmas.{found_by, viewed}
use Rattle.pointer_notes.proofs.notes.PointerNotes.new.Goals as goal

pub invariant_of-result : goal.invariant_of-result
invariant_of-result c =
    found_by c.args.words.now c.args.code.now c.in_ok-answers.answers.items c.deref.result.now c.in_ok-notes.notes c.in_ok-calls.calls c.in_ok-others.others
    c.in_ok-targets.targets c.in_ok-pointers.pointers c.in_ok-assumed_cells.assumed_cells.items c.deref.ensures.value c.requires.words c.requires.code
    (sym c.in_ok-answers.answers.ok.0 ∙ c.in_ok-answers.ensures.size) c.in_ok-notes.ensures.words c.in_ok-notes.ensures.code
    (record {
      callers = c.in_ok-calls.ensures;
      referrers = c.in_ok-others.ensures;
      targeted = c.in_ok-targets.ensures;
      pointed = c.in_ok-pointers.ensures;
    })
    c.in_ok-assumed_cells.ensures

pub returns-clause-view : goal.returns-clause-view
returns-clause-view c = λ p is words code.
    viewed p c.args.words.now c.args.code.now c.in_ok-answers.answers.items words code (c.in_ok-answers.ensures.answers p is)
