use Rattle.std.proofs.Common.{ap}
use Rattle.std.proofs.lemmas.Result.{err_from_is_err_and}
use Rattle.pal_lex.specs.Reading.{with_tokens}
use Rattle.pal_asm.specs.Progress.{Progress}
use Rattle.pal_asm.specs.Faults.{first_of, body_fault}
use Rattle.pal_asm.specs.PassSteps.{meanings_at_body, is_fixed_at_body}
use Rattle.pal_asm.proofs.PassLemmas.{first_more, first_fault_more, tags_judged, same_room}
use Rattle.pal_asm.proofs.assemblers.Assembler.first.Goals as goal

pub returns-in-Ok-pass-clause-answers : goal.returns-in-Ok-pass-clause-answers
returns-in-Ok-pass-clause-answers c = λ older tokens goes first.
    first_more (with_tokens tokens c.args.statement.now) older c.args.self.now _ c.self.inside.line c.self.inside.is_second c.self.inside.symbols c.room.new.self c.pass.new.symbols c.self.inside.spot c.in-Ok-pass.spot
    c.self.inside.fault c.names-tags.result.now c.self.view_is c.names-tags.ensures c.in_ok-room.ensures c.in-Ok-pass.ensures first

pub returns-in-Err-pass-clause-answers : goal.returns-in-Err-pass-clause-answers
returns-in-Err-pass-clause-answers c = λ older tokens goes first.
    first_fault_more (with_tokens tokens c.args.statement.now) older c.args.self.now c.fail-in-Err-pass.new.self _ c.self.inside.line c.self.inside.is_second c.self.inside.symbols c.room.new.self c.self.inside.spot
    c.self.inside.fault c.names-tags.result.now c.in-Err-pass.code c.fail-in-Err-pass.result c.self.view_is c.names-tags.ensures c.in_ok-room.ensures c.in-Err-pass.ensures
    c.fail-in-Err-pass.ensures.fault (ap (λ (p : Progress). p.fault) c.fail-in-Err-pass.ensures.failed) first

pub returns-in-Err-clause-answers : goal.returns-in-Err-clause-answers
returns-in-Err-clause-answers c = λ older tokens goes first.
    first_fault_more (with_tokens tokens c.args.statement.now) older c.args.self.now c.fail.new.self 0 c.self.inside.line c.self.inside.is_second c.self.inside.symbols c.self.inside.symbols c.self.inside.spot
    c.self.inside.fault c.names-tags.result.now c.in-Err.code c.fail.result c.self.view_is c.names-tags.ensures (same_room c.self.inside.symbols)
    (ap (λ f. first_of f (body_fault (is_fixed_at_body c.names-tags.result.now c.self.inside.symbols) (meanings_at_body c.names-tags.result.now c.self.inside.spot.location c.self.inside.symbols) c.self.inside.spot.location c.args.statement.now.body)) c.in-Err.ensures)
    c.fail.ensures.fault (ap (λ (p : Progress). p.fault) c.fail.ensures.failed) first

pub returns-in_err-room-clause-judged : goal.returns-in_err-room-clause-judged
returns-in_err-room-clause-judged c = λ older first.
    let p = err_from_is_err_and c.from_residual.result c.from_residual.ensures.1 in rw (p.1, p.2)
    (tags_judged c.args.statement.now older c.args.self.now c.self.inside.line c.self.inside.is_second c.self.inside.symbols c.self.inside.spot c.self.inside.fault c.names-tags.result.now
    c.self.view_is c.names-tags.ensures c.in-Ok.ensures first)
