use Rattle.std.proofs.Common.{ap, sym, subst, ◌∙◌}
use Rattle.pal_lex.specs.Statements.{statements}
use Rattle.pal_asm.specs.Faults.{first_order}
use Rattle.host_sources.specs.Reading.{IsEnded}
use Rattle.host_sources.specs.Symbols.{Follows}
use Rattle.host_sources.proofs.names.take_byte.Goals as goal

pub returns-in_ok-take-in-Some-clause-takes : goal.returns-in_ok-take-in-Some-clause-takes
returns-in_ok-take-in-Some-clause-takes c = λ text read may fine follows.
    let ended = subst (λ e. IsEnded text c.args.byte e c.statement_ended.new.lexer) c.in-Some.is (c.in_ok-statement.ensures.ended text read may fine) in
    let more = ended.1 in (
      subst (Follows c.take.new.names.symbols c.take.new.names.place) (sym more.1)
          (c.in_ok-take-in-Some.ensures (statements text) more.0 follows (ap first_order (sym more.1) ∙ fine)),
      ended.2,
    )

pub returns-in-None-clause-takes : goal.returns-in-None-clause-takes
returns-in-None-clause-takes c = λ text read may fine follows.
    let ended = subst (λ e. IsEnded text c.args.byte e c.statement_ended.new.lexer) c.in-None.is (c.in_ok-statement.ensures.ended text read may fine) in
    (subst (Follows c.args.names.now.symbols c.args.names.now.place) (sym ended.1) follows, ended.2)
