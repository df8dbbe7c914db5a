use Rattle.std.proofs.Common.{◌≡◌, ℕ, true, false, List, Vec, Global, option_map, subst}
use Rattle.flow8.specs.Flow.{word_in}
use Rattle.pal8_source.specs.Plain.{plain_source}
use Rattle.pal8_source.proofs.ChoiceLemmas.{chosen, judges_same, stands}
use Rattle.pal8_source.proofs.checking.checked_source.Goals as goal

pub returns-then-branch-clause-source : goal.returns-then-branch-clause-source
returns-then-branch-clause-source c =
    let text = c.in_ok-text.text.items in
    let words = c.in_ok-words.words.items in
    let judged =
    judges_same c.deref.result.now words c.deref-2.result.now text c.in_ok-comes_back.field-0 true c.deref.ensures.value c.deref-2.ensures.value c.if-branch.true
    c.in_ok-comes_back.ensures in
    chosen c.args.frames.now c.args.starts.now (option_map {T = Vec ℕ Global} {U = List ℕ} (λ names. names.items) c.args.names.now) text words
    c.in_ok-text.ensures.source c.in_ok-words.ensures.words c.one_reading.ensures judged

pub returns-clause-source : goal.returns-clause-source
returns-clause-source c =
    let text = c.in_ok-text.text.items in
    let words = c.in_ok-words.words.items in
    let judged =
    judges_same c.deref.result.now words c.deref-2.result.now text c.in_ok-comes_back.field-0 false c.deref.ensures.value c.deref-2.ensures.value c.if-branch.false
    c.in_ok-comes_back.ensures in
    stands c.args.frames.now c.args.starts.now (option_map {T = Vec ℕ Global} {U = List ℕ} (λ names. names.items) c.args.names.now) text words
    c.in_ok-text.ensures.source c.in_ok-words.ensures.words c.one_reading.ensures judged c.in_ok-plain.plain.items
    (subst (λ w. c.in_ok-plain.plain.items ≡ plain_source (word_in w)) c.deref-3.ensures.value c.in_ok-plain.ensures)
