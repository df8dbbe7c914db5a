use Rattle.std.proofs.Common.{◌++◌, ap, subst, ◌∙◌}
use Rattle.host_sources.specs.Reading.{IsEnded}
use Rattle.source_listing.proofs.ReferenceLemmas.{named_none, named_some}
use Rattle.source_listing.proofs.references.take_byte.Goals as goal

pub returns-in_ok-put_statement-in-Some-clause-takes : goal.returns-in_ok-put_statement-in-Some-clause-takes
returns-in_ok-put_statement-in-Some-clause-takes c = λ text read may fine.
    let ended = subst (λ e. IsEnded text c.args.byte e c.statement_ended.new.lexer) c.in-Some.is (c.in_ok-statement.ensures.ended text read may fine) in (
      c.in_ok-put_statement-in-Some.ensures
          ∙ ap (λ l. c.args.found.now.items ++ l) (named_some c.args.spot text c.args.byte c.in-Some.statement ended.1.0 ended.0 ended.1.1),
      ended.2,
    )

pub returns-in-None-clause-takes : goal.returns-in-None-clause-takes
returns-in-None-clause-takes c = λ text read may fine.
    let ended = subst (λ e. IsEnded text c.args.byte e c.statement_ended.new.lexer) c.in-None.is (c.in_ok-statement.ensures.ended text read may fine) in
    (named_none c.args.spot c.args.found.now.items text c.args.byte ended.0, ended.2)
