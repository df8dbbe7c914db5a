use Rattle.std.proofs.Common.{◌≡◌, ◌+◌, subst, arith}
use Rattle.flow8.specs.Exits.{cell_after}
use Rattle.flow8.specs.Flow.{IsAmong}
use Rattle.pointer_flow.specs.Programs.{cells_from}
use Rattle.pointer_flow.specs.Steps.{NotesCells}
use Rattle.pointer_flow.proofs.WriteLemmas.{IsFirstOf, among_first, first_among, first_more, first_none, notes_as, notes_none}
use Rattle.pointer_flow.proofs.writes.note_after.Goals as goal

pub loop-more-init : goal.loop-more-init
loop-more-init c =
    notes_none c.args.writers.now c.args.cell (IsFirstOf (λ k. cell_after (c.args.first + k) c.args.cell) 0)
    (first_none (λ k. cell_after (c.args.first + k) c.args.cell))

pub loop-more-preserved : goal.loop-more-preserved
loop-more-preserved c =
    first_more c.args.writers.now c.loop-more.writers c.note_writer.new.writers c.args.cell c.loop-more.more c.cell_after.result
    (λ k. cell_after (c.args.first + k) c.args.cell) c.cell_after.ensures.value c.loop-more.invariant c.note_writer.ensures

pub returns : goal.returns
returns c =
    let end : c.loop-more.more ≡ c.args.count = omega (arith, c.loop-more-test.false, c.loop-more.auto.more-end) in
    notes_as c.args.writers.now c.loop-more.writers c.args.cell (IsFirstOf (λ k. cell_after (c.args.first + k) c.args.cell) c.args.count)
    (λ other. IsAmong other (cells_from c.args.cell c.args.first c.args.count)) (first_among c.args.cell c.args.first c.args.count)
    (among_first c.args.cell c.args.first c.args.count)
    (subst (λ n. NotesCells c.args.writers.now c.loop-more.writers c.args.cell (IsFirstOf (λ k. cell_after (c.args.first + k) c.args.cell) n)) end
    c.loop-more.invariant)
