use Rattle.std.proofs.Common.{◌∷◌, [], ◌++◌, take, ap, sym, ◌∙◌, subst}
use Rattle.std.proofs.lemmas.List.{take_more}
use Rattle.flow8.specs.FlowSteps.{MarksCells}
use Rattle.flow8.proofs.FlowLemmas.{marks_more}
use Rattle.flow8.proofs.flows.mark_starts.Goals as goal

pub loop-start-preserved : goal.loop-start-preserved
loop-start-preserved c =
    let all = take_more c.args.starts.now c.loop-start.start-index c.start-item.result c.loop-start-test.true
    ∙ ap (λ start. take c.loop-start.start-index c.args.starts.now ++ start ∷ []) (sym c.start-item.is) in
    let both = marks_more c.args.words.now c.args.reached.now c.loop-start.reached c.mark.new.reached c.args.waiting.now.items c.loop-start.waiting.items c.mark.new.waiting.items
    (take c.loop-start.start-index c.args.starts.now) (c.start-item.result ∷ []) c.loop-start.invariant.marks c.in_ok-mark.ensures in
    record {
      size = c.in_ok-mark.ensures.size ∙ c.loop-start.invariant.size;
      marks = subst (λ l. MarksCells c.args.words.now c.args.reached.now c.mark.new.reached c.args.waiting.now.items c.mark.new.waiting.items l) (sym all) both;
    }
