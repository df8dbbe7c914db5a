use Rattle.std.proofs.Common.{◌≡◌, Some, None, subst, arith}
use Rattle.cpu8.specs.State.{place}
use Rattle.flow8.specs.Flow.{IsAmong}
use Rattle.pointer_flow.specs.Steps.{NotesCells}
use Rattle.pointer_flow.specs.Writes.{stored_cells}
use Rattle.pointer_flow.proofs.WriteLemmas.{IsFirstOf, among_fields, fields_among, first_more, first_none, notes_as, notes_none}
use Rattle.pointer_flow.proofs.writes.note_fields.Goals as goal

pub loop-field-init : goal.loop-field-init
loop-field-init c = notes_none c.args.writers.now c.args.cell (IsFirstOf (λ k. place k c.args.address) 0) (first_none (λ k. place k c.args.address))

pub loop-field-preserved : goal.loop-field-preserved
loop-field-preserved c =
    first_more c.args.writers.now c.loop-field.writers c.note_writer.new.writers c.args.cell c.loop-field.field c.at.result (λ k. place k c.args.address)
    c.at.ensures.number c.loop-field.invariant c.note_writer.ensures

pub returns : goal.returns
returns c =
    let end : c.loop-field.field ≡ 8 = omega (arith, c.loop-field-test.false, c.loop-field.auto.field-end) in
    notes_as c.args.writers.now c.loop-field.writers c.args.cell (IsFirstOf (λ k. place k c.args.address) 8)
    (λ other. IsAmong other (stored_cells None (Some c.args.address))) (fields_among c.args.address) (among_fields c.args.address)
    (subst (λ n. NotesCells c.args.writers.now c.loop-field.writers c.args.cell (IsFirstOf (λ k. place k c.args.address) n)) end c.loop-field.invariant)
