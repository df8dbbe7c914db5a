use Rattle.std.proofs.Common.{Ok, Err, [], length, sym, subst, ◌∙◌, append-nil}
use Rattle.std.proofs.lemmas.Result.{err_from_is_err_and}
use Rattle.pal_lex.specs.Joins.{join_of}
use Rattle.pal_lex.specs.Statements.{statements}
use Rattle.pal_asm.specs.Texts.{texts}
use Rattle.pal_asm.specs.TextSteps.{HasPassedAll, IsFirstFault}
use Rattle.pal_asm.specs.Passing.{StandsAfter}
use Rattle.pal_asm.proofs.SourceLemmas.{first_at, joined_is, all_joined}
use Rattle.pal_asm.proofs.texts.first_pass.Goals as goal

pub loop-rest-init : goal.loop-rest-init
loop-rest-init c = record { before = []; begins = c.requires; whole = sym (append-nil (join_of (texts c.args.sources.now))) }

pub loop-rest-preserved : goal.loop-rest-preserved
loop-rest-preserved c =
    let i = c.loop-rest.invariant in
    let at = rw c.if-not-goes_on.false at
    (first_at c.loop-rest.rest.now _ i.before (Ok c.in_ok-goes_on.goes_on) c.loop-rest.pass c.first_source.new.pass c.in-len1-up.len_at_least i.begins c.in_ok-goes_on.ensures) in
    record { before = at.0; begins = at.1.1; whole = joined_is c.loop-rest.rest.now _ i.before (join_of (texts c.args.sources.now)) c.in-len1-up.len_at_least i.whole ∙ at.1.0 }

pub returns-then-not-goes_on-clause-passed : goal.returns-then-not-goes_on-clause-passed
returns-then-not-goes_on-clause-passed c =
    let i = c.loop-rest.invariant in
    subst (λ t. HasPassedAll t c.first_source.new.pass) (sym (joined_is c.loop-rest.rest.now _ i.before (join_of (texts c.args.sources.now)) c.in-len1-up.len_at_least i.whole))
    (rw c.if-not-goes_on.true at
    (first_at c.loop-rest.rest.now _ i.before (Ok c.in_ok-goes_on.goes_on) c.loop-rest.pass c.first_source.new.pass c.in-len1-up.len_at_least i.begins c.in_ok-goes_on.ensures))

pub returns-in_err-goes_on-clause-fault : goal.returns-in_err-goes_on-clause-fault
returns-in_err-goes_on-clause-fault c =
    let i = c.loop-rest.invariant in
    let p = err_from_is_err_and c.from_residual.result c.from_residual.ensures.1 in rw (p.1, p.2)
    (subst (λ t. IsFirstFault t c.in_err-goes_on.field-0.0) (sym (joined_is c.loop-rest.rest.now _ i.before (join_of (texts c.args.sources.now)) c.in-len1-up.len_at_least i.whole))
    (first_at c.loop-rest.rest.now _ i.before (Err _) c.loop-rest.pass c.first_source.new.pass c.in-len1-up.len_at_least i.begins c.in_err-goes_on.ensures))

pub returns-clause-passed : goal.returns-clause-passed
returns-clause-passed c =
    let i = c.loop-rest.invariant in
    subst (λ t. HasPassedAll t c.loop-rest.pass) (sym (all_joined c.loop-rest.rest.now i.before (join_of (texts c.args.sources.now)) c.in_default.len_below i.whole))
    (length i.before, (i.begins.1.read, subst (λ w. StandsAfter w c.loop-rest.pass.assembler (statements i.before)) i.begins.2 i.begins.1.at, i.begins.2))
