use Rattle.std.proofs.Common.{◌-◌, ap, sym, ◌∙◌, arith}
use Rattle.flow8.specs.Flow.{word_in}
use Rattle.source_notes.specs.Notes.{is_flagged}
use Rattle.source_notes.specs.Steps.{cell_named_by}
use Rattle.source_notes.specs.Tables.{names_by}
use Rattle.source_notes.proofs.ChainLemmas.{begins, built_on, ended, has_cell, names_what}
use Rattle.source_notes.proofs.chains.link_all.Goals as goal

pub loop-number-init : goal.loop-number-init
loop-number-init c =
    begins (names_by c.args.kind (word_in c.args.words.now) (is_flagged c.args.code.now)) c.args.first.now c.args.next.now c.requires.first
    c.requires.next

pub loop-number-preserved : goal.loop-number-preserved
loop-number-preserved c =
    let words = word_in c.args.words.now in
    let is_code = is_flagged c.args.code.now in
    let number = c.loop-number.number - 1 in
    let named = c.cell_named_by.ensures.value ∙ ap (cell_named_by c.args.kind words is_code) c.of-cell.ensures.number in
    built_on (names_by c.args.kind words is_code) c.loop-number.first c.loop-number.next c.link.new.first c.link.new.next c.loop-number.number
    number c.of-cell.result c.cell_named_by.result
    (omega (arith, c.loop-number-test.true)) c.of-cell.ensures.number (omega (arith, c.loop-number-test.true, c.loop-number.auto.number))
    (λ other. names_what c.args.kind words is_code other number ∙ ap (λ o. has_cell o other) (sym named))
    c.link.ensures.first c.link.ensures.next c.loop-number.invariant

pub returns : goal.returns
returns c =
    ended (names_by c.args.kind (word_in c.args.words.now) (is_flagged c.args.code.now)) c.loop-number.first c.loop-number.next c.loop-number.number
    (omega (arith, c.loop-number-test.false)) c.loop-number.invariant
