use Rattle.std.proofs.Common.{subst, ◌∙◌}
use Rattle.host_sources.specs.Reading.{IsEnded}
use Rattle.source_listing.proofs.RowLemmas.{ends_none, ends_some}
use Rattle.source_listing.proofs.word_ends.ends_word.Goals as goal

pub returns-in-Some-clause-word : goal.returns-in-Some-clause-word
returns-in-Some-clause-word c = λ text read may fine.
    let ended = subst (λ e. IsEnded text c.args.byte e c.statement_ended.new.lexer) c.in-Some.is (c.in_ok-statement.ensures.ended text read may fine) in
    (c.is_word.ensures ∙ ends_some text c.args.byte c.in-Some.statement ended.1.0 ended.0 ended.1.1, ended.2)

pub returns-in-None-clause-word : goal.returns-in-None-clause-word
returns-in-None-clause-word c = λ text read may fine.
    let ended = subst (λ e. IsEnded text c.args.byte e c.statement_ended.new.lexer) c.in-None.is (c.in_ok-statement.ensures.ended text read may fine) in
    (ends_none text c.args.byte ended.0, ended.2)
