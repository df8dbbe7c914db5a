use Rattle.std.proofs.Common.{get_or, refl, ap, sym, ◌∙◌}
use Rattle.pal_lex.specs.Progress.{Setting}
use Rattle.host_sources.proofs.PauseLemmas.{begins, pauses_at, over_at, goes_on}
use Rattle.host_sources.proofs.pauses.prefix_of.Goals as goal

pub loop-taken-init : goal.loop-taken-init
loop-taken-init c = record {
  stands = begins c.args.text.now c.several_without_tokens-lexer.result c.several_without_tokens-lexer.ensures.read;
  may = ap (λ (s : Setting). s.may_pause) c.several_without_tokens-lexer.ensures.setting;
}

pub returns-then-is_pause-clause-prefix : goal.returns-then-is_pause-clause-prefix
returns-then-is_pause-clause-prefix c =
    let stands = c.loop-taken.invariant.stands in
    pauses_at c.args.text.now c.loop-taken.taken c.loop-taken.end (get_or c.args.text.now c.loop-taken.taken 0) c.in_ok-met.met c.loop-taken.lexer c.meet.new.lexer c.loop-taken-test.true refl stands
    (c.in_ok-met.ensures.meets stands.here stands.read c.loop-taken.invariant.may stands.fine) (sym c.is_pause.ensures ∙ c.if-is_pause.true)

pub returns-then-ends_text-clause-prefix : goal.returns-then-ends_text-clause-prefix
returns-then-ends_text-clause-prefix c =
    let stands = c.loop-taken.invariant.stands in
    over_at c.args.text.now c.loop-taken.taken c.loop-taken.end (get_or c.args.text.now c.loop-taken.taken 0) c.in_ok-met.met c.loop-taken.lexer c.meet.new.lexer c.loop-taken-test.true refl stands
    (c.in_ok-met.ensures.meets stands.here stands.read c.loop-taken.invariant.may stands.fine) (sym c.ends_text.ensures ∙ c.if-ends_text.true)

pub loop-taken-preserved : goal.loop-taken-preserved
loop-taken-preserved c =
    let stands = c.loop-taken.invariant.stands in
    record {
      stands = goes_on c.args.text.now c.loop-taken.taken c.loop-taken.end (get_or c.args.text.now c.loop-taken.taken 0) c.in_ok-met.met c.renew-end.result c.loop-taken.lexer c.meet.new.lexer
          c.renew-end.new.lexer c.loop-taken-test.true refl stands (c.in_ok-met.ensures.meets stands.here stands.read c.loop-taken.invariant.may stands.fine)
          (sym c.is_pause.ensures ∙ c.if-is_pause.false) (sym c.ends_text.ensures ∙ c.if-ends_text.false) c.renew-end.ensures.renews;
      may = c.renew-end.ensures.may (c.meet.ensures.setting ∙ c.loop-taken.invariant.may);
    }
