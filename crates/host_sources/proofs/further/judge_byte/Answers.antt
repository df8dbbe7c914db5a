use Rattle.std.proofs.Common.{ap, sym, subst, ◌∙◌}
use Rattle.pal_lex.specs.Statements.{statements}
use Rattle.pal_asm.specs.Faults.{first_order}
use Rattle.host_sources.specs.Reading.{IsEnded}
use Rattle.host_sources.specs.Symbols.{meaning_in, Follows}
use Rattle.host_sources.proofs.FurtherLemmas.{judged_none, judged_some}
use Rattle.host_sources.proofs.further.judge_byte.Goals as goal

pub returns-in-None-clause-judges : goal.returns-in-None-clause-judges
returns-in-None-clause-judges c = λ text read may fine follows.
    let ended = subst (λ e. IsEnded text c.args.byte e c.statement_ended.new.lexer) c.in-None.is (c.in_ok-statement.ensures.ended text read may fine) in
    record {
      follows = subst (Follows c.args.names.now.symbols c.args.names.now.place) (sym ended.1) follows;
      read = ended.2;
      told = judged_none (meaning_in c.args.last.now) text c.args.byte ended.0;
    }

pub returns-in_ok-judged-in-Some-clause-judges : goal.returns-in_ok-judged-in-Some-clause-judges
returns-in_ok-judged-in-Some-clause-judges c = λ text read may fine follows.
    let ended = subst (λ e. IsEnded text c.args.byte e c.statement_ended.new.lexer) c.in-Some.is (c.in_ok-statement.ensures.ended text read may fine) in
    let more = ended.1 in
    record {
      follows = subst (Follows c.judge.new.names.symbols c.judge.new.names.place) (sym more.1)
          (c.in_ok-judged-in-Some.ensures.follows (statements text) more.0 follows (ap first_order (sym more.1) ∙ fine));
      read = ended.2;
      told = c.in_ok-judged-in-Some.ensures.fault (statements text) follows ∙ judged_some (meaning_in c.args.last.now) text c.args.byte c.in-Some.statement more.0 ended.0 more.1;
    }
