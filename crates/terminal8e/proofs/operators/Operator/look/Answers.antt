use Rattle.std.proofs.Common.{ℕ, Option, Ok, subst}
use Rattle.terminal8.specs.KeyReads.{ReadsKey}
use Rattle.terminal8e.proofs.LookLemmas.{looks-over, looks-key, looks-none}
use Rattle.terminal8e.proofs.operators.Operator.look.Goals as goal

pub returns-then-self-clause-ok : goal.returns-then-self-clause-ok
returns-then-self-clause-ok g c =
    looks-over g.M.TerminalMachine.acts c.args.self.now.input c.args.self.now.keyboard c.args.self.now.ahead c.args.self.now.is_over c.args.machine.now _ c.if-self.true

pub returns-in-Some-clause-ok : goal.returns-in-Some-clause-ok
returns-in-Some-clause-ok g c =
    let read = subst (λ (o : Option ℕ). ReadsKey c.args.self.now.keyboard c.next_key.new.keyboard c.args.self.now.ahead c.next_key.new.ahead
    (g.R.ByteReader.remaining c.args.reader.now) (g.R.ByteReader.remaining c.next_key.new.reader) (Ok o)) c.in-Some.is c.in_ok-key.ensures.key in
    rw c.strike_key.ensures (looks-key g.M.TerminalMachine.acts c.args.self.now.input _ _ _ _ c.args.self.now.is_over c.args.machine.now _ _ c.in-Some.key c.if-self.false read)

pub returns-in-None-clause-ok : goal.returns-in-None-clause-ok
returns-in-None-clause-ok g c =
    let read = subst (λ (o : Option ℕ). ReadsKey c.args.self.now.keyboard c.next_key.new.keyboard c.args.self.now.ahead c.next_key.new.ahead
    (g.R.ByteReader.remaining c.args.reader.now) (g.R.ByteReader.remaining c.next_key.new.reader) (Ok o)) c.in-None.is c.in_ok-key.ensures.key in
    looks-none g.M.TerminalMachine.acts c.args.self.now.input _ _ _ _ c.args.self.now.is_over c.is_ending-self.result c.args.machine.now _ _ c.if-self.false c.is_ending-self.ensures read.0 read.1
