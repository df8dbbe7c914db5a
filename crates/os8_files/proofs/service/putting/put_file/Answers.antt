use Rattle.std.proofs.Common.{subst, ◌∙◌}
use Rattle.std.proofs.lemmas.Result.{err_from_is_err_and}
use Rattle.os8_files.specs.Calls.{ClosesFile}
use Rattle.os8_files.proofs.PutLemmas.{entered_beginning, entered_not, filled_of, closed, filled_failed}
use Rattle.os8_files.proofs.service.putting.put_file.Goals as goal

pub fill-requires-clause-beginning : goal.fill-requires-clause-beginning
fill-requires-clause-beginning g c = entered_beginning _ _ _ _ _ c.in_ok-tentative.ensures (c.rooms.ensures.fitting _ _ _ _ c.in_ok-tentative.ensures.fits).1

pub close-requires : goal.close-requires
close-requires g c = filled_of _ _ _ _ _ _ _ _ c.in-Ok.ensures.call.0 c.in_ok-tentative.ensures c.in-Ok.ensures.call.1 c.in-Ok.ensures.token

pub returns-in_err-tentative-clause-call : goal.returns-in_err-tentative-clause-call
returns-in_err-tentative-clause-call g c =
    let p = err_from_is_err_and c.from_residual.result c.from_residual.ensures.1 in
    rw (p.1, p.2) (entered_not c.args.info.now c.args.files.now c.enter.new.self c.args.name c.args.blocks c.args.words.now c.in_err-tentative.field-0.0 c.requires.named c.requires.some c.requires.count c.requires.none c.in_err-tentative.ensures)

pub returns-in-Ok-clause-call : goal.returns-in-Ok-clause-call
returns-in-Ok-clause-call g c =
    closed c.args.info.now c.args.files.now c.enter.new.self c.fill.new.files c.close.new.self c.args.name c.args.blocks c.in_ok-tentative.tentative c.args.words.now _ _ c.requires.some c.requires.count c.in_ok-tentative.ensures c.in-Ok.ensures.call.1
    (subst (λ n. ClosesFile c.fill.new.files n c.args.info.now c.close.result c.close.new.self) (c.in-Ok.ensures.token ∙ c.in_ok-tentative.ensures.token) c.close.ensures)

pub returns-in-Err-clause-call : goal.returns-in-Err-clause-call
returns-in-Err-clause-call g c =
    filled_failed c.args.info.now c.args.files.now c.enter.new.self c.fill.new.files c.give_up.new.self c.args.name c.args.blocks c.in_ok-tentative.tentative c.args.words.now c.in-Err.fault c.requires.count c.in_ok-tentative.ensures c.in-Err.ensures.call c.give_up.ensures
