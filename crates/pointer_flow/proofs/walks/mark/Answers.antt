use Rattle.std.proofs.Common.{◌≡◌, inl, inr, length, sym, ◌∙◌, arith}
use Rattle.std.proofs.lemmas.Bool.{not-false, not-true}
use Rattle.pointer_flow.specs.Steps.{is_open_in}
use Rattle.pointer_flow.proofs.MarkLemmas.{marks_new, marks_not}
use Rattle.pointer_flow.proofs.walks.mark.Goals as goal

pub returns-then-is_shut : goal.returns-then-is_shut
returns-then-is_shut c =
    let is_open = is_open_in c.args.rules.now.facts.now.words.now c.args.rules.now.facts.now.data_flags.now in
    marks_not is_open c.args.reached.now.bits.items c.args.waiting.now.items c.args.state.now
    (inl (not-true (is_open c.args.state.now.cell) (sym c.is_shut.ensures ∙ c.if-is_shut.true)))

pub returns-then-has : goal.returns-then-has
returns-then-has c =
    marks_not (is_open_in c.args.rules.now.facts.now.words.now c.args.rules.now.facts.now.data_flags.now) c.args.reached.now.bits.items
    c.args.waiting.now.items c.args.state.now (inr (sym c.has.ensures ∙ c.if-has.true))

pub returns : goal.returns
returns c =
    let is_open = is_open_in c.args.rules.now.facts.now.words.now c.args.rules.now.facts.now.data_flags.now in
    let old = c.args.reached.now.bits in
    let new = c.insert.new.self.bits in
    let size : length new.items ≡ length old.items = omega (arith, c.insert.ensures.size, new.ok.0, old.ok.0) in
    marks_new is_open old.items new.items c.args.waiting.now.items c.push.new.self.items c.args.state.now c.requires
    (not-false (is_open c.args.state.now.cell) (sym c.is_shut.ensures ∙ c.if-is_shut.false)) (sym c.has.ensures ∙ c.if-has.false) size
    c.insert.ensures.marked c.insert.ensures.others c.in_ok-push.ensures.items
