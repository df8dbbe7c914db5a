use Rattle.std.proofs.Common.{◌&&◌, ap, sym, ◌∙◌}
use Rattle.terminal8.proofs.LookLemmas.{unless-over}
use Rattle.terminal8e.proofs.LookLemmas.{attends-not, attends-looks}
use Rattle.terminal8e.proofs.operators.Operator.attend.Goals as goal

pub returns-then-not-asks_for_key-clause-ok : goal.returns-then-not-asks_for_key-clause-ok
returns-then-not-asks_for_key-clause-ok g c =
    attends-not g.M.TerminalMachine.acts c.args.self.now.input c.args.self.now.keyboard c.args.self.now.ahead c.args.self.now.is_over c.args.machine.now c.args.self.now.since _
    (sym c.asks_for_key.ensures ∙ c.if-not-asks_for_key.true)

pub returns-else-self-clause-ok : goal.returns-else-self-clause-ok
returns-else-self-clause-ok g c =
    attends-looks g.M.TerminalMachine.acts c.args.self.now.input c.args.self.now.keyboard c.look.new.self.keyboard c.args.self.now.ahead c.look.new.self.ahead
    c.args.self.now.is_over c.look.new.self.is_over c.args.machine.now c.look.new.machine
    c.args.self.now.since c.look.new.self.since _ _ c.look.new.self.is_over (sym c.asks_for_key.ensures ∙ c.if-not-asks_for_key.false)
    c.in_ok-look.ensures.ok c.in_ok-look.ensures.since (unless-over c.look.new.self.is_over (g.M.TerminalMachine.acts.waits_for_key c.look.new.machine) c.if-self.false)

pub returns-then-self-clause-ok : goal.returns-then-self-clause-ok
returns-then-self-clause-ok g c =
    rw (c.waits_for_key.ensures)
    (attends-looks g.M.TerminalMachine.acts c.args.self.now.input c.args.self.now.keyboard c.look.new.self.keyboard c.args.self.now.ahead c.look.new.self.ahead
    c.args.self.now.is_over c.look.new.self.is_over c.args.machine.now c.look.new.machine
    c.args.self.now.since c.look.new.self.since _ _ _ (sym c.asks_for_key.ensures ∙ c.if-not-asks_for_key.false)
    c.in_ok-look.ensures.ok c.in_ok-look.ensures.since (ap (λ b. b && g.M.TerminalMachine.acts.waits_for_key c.look.new.machine) (sym c.if-self.true)))
