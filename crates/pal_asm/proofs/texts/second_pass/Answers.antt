use Rattle.std.proofs.Common.{Ok, [], sym, subst, ◌∙◌, append-nil}
use Rattle.std.proofs.lemmas.Result.{err_from_is_err_and}
use Rattle.pal_lex.specs.Joins.{join_of}
use Rattle.pal_lex.specs.Statements.{statements}
use Rattle.pal_asm.specs.Texts.{texts}
use Rattle.pal_asm.specs.TextSteps.{BeginsAgain}
use Rattle.pal_asm.proofs.SourceLemmas.{second_at, joined_is, all_joined, words_made, second_refused}
use Rattle.pal_asm.proofs.texts.second_pass.Goals as goal

pub loop-rest-init : goal.loop-rest-init
loop-rest-init c = record {
  before = [];
  begins = subst (λ l. BeginsAgain (statements (join_of (texts c.args.sources.now))) [] (texts c.args.sources.now) c.args.pass.now l) (sym c.new-pairs.ensures.items) c.requires.begins;
  whole = sym (append-nil (join_of (texts c.args.sources.now)));
}

pub loop-rest-preserved : goal.loop-rest-preserved
loop-rest-preserved c =
    let i = c.loop-rest.invariant in
    let whole = join_of (texts c.args.sources.now) in
    let at = rw c.if-not-goes_on.false at
    (second_at whole i.before c.loop-rest.rest.now _ (Ok c.in_ok-goes_on.goes_on) c.loop-rest.pass c.second_source.new.pass c.loop-rest.pairs.items c.second_source.new.pairs.items c.in-len1-up.len_at_least c.requires.ends i.whole i.begins c.in_ok-goes_on.ensures) in
    record { before = at.0; begins = at.1.1; whole = joined_is c.loop-rest.rest.now _ i.before whole c.in-len1-up.len_at_least i.whole ∙ at.1.0 }

pub returns-then-not-goes_on-clause-pairs : goal.returns-then-not-goes_on-clause-pairs
returns-then-not-goes_on-clause-pairs c =
    let i = c.loop-rest.invariant in
    let whole = join_of (texts c.args.sources.now) in
    words_made whole _ c.second_source.new.pass c.second_source.new.pairs.items (joined_is c.loop-rest.rest.now _ i.before whole c.in-len1-up.len_at_least i.whole)
    (rw c.if-not-goes_on.true at
    (second_at whole i.before c.loop-rest.rest.now _ (Ok c.in_ok-goes_on.goes_on) c.loop-rest.pass c.second_source.new.pass c.loop-rest.pairs.items c.second_source.new.pairs.items c.in-len1-up.len_at_least c.requires.ends i.whole i.begins c.in_ok-goes_on.ensures))

pub returns-in_err-goes_on-clause-fault : goal.returns-in_err-goes_on-clause-fault
returns-in_err-goes_on-clause-fault c =
    let i = c.loop-rest.invariant in
    let p = err_from_is_err_and c.from_residual.result c.from_residual.ensures.1 in rw (p.1, p.2)
    (second_refused (join_of (texts c.args.sources.now)) i.before c.loop-rest.rest.now _ _ c.loop-rest.pass c.second_source.new.pass c.loop-rest.pairs.items c.second_source.new.pairs.items
    c.in-len1-up.len_at_least c.requires.ends i.whole i.begins c.in_err-goes_on.ensures)

pub returns-clause-pairs : goal.returns-clause-pairs
returns-clause-pairs c =
    let i = c.loop-rest.invariant in
    let whole = join_of (texts c.args.sources.now) in
    words_made whole i.before c.loop-rest.pass c.loop-rest.pairs.items (all_joined c.loop-rest.rest.now i.before whole c.in_default.len_below i.whole) i.begins.1.at
