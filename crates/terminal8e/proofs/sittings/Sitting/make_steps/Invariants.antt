use Rattle.std.proofs.Common.{◌≡◌, ◌-◌, ◌≤◌, ℕ, List, Option}
use Rattle.terminal8.specs.declared.keyboards.Form.{Form}
use Rattle.terminal8e.specs.Parts.{HasCome}
use Rattle.terminal8e.proofs.RunLemmas.{IsRunning}
use Rattle.terminal8e.proofs.sittings.Sitting.make_steps.Given as goal

-- the run that had come to the begin of the part has come so far, and goes on
abbrev pub invariant-loop-self : goal.invariant-loop-self
invariant-loop-self g l = record {
  running : (first : _) (form : Form) (before written : Option (List ℕ))
      → HasCome g.M.TerminalMachine.acts form l.fn.self.operator.input first l.fn.machine l.fn.self before (g.R.ByteReader.remaining l.fn.reader) written (g.O.Output.contents l.fn.writer)
      → IsRunning g.M.TerminalMachine.acts form l.fn.self.operator.input first l.machine l.self.operator.keyboard l.self.operator.ahead l.self.operator.is_over l.self.operator.since
      before (g.R.ByteReader.remaining l.reader) written (g.O.Output.contents l.writer) l.paper l.self.absences l.self.steps;
  input : l.self.operator.input ≡ l.fn.self.operator.input;
  sooner : l.self.operator.since ≤ l.self.steps;
  within : l.self.steps ≤ l.last;
  begun : l.begun ≤ l.self.steps;
}

abbrev pub decreases-loop-self : goal.decreases-loop-self
decreases-loop-self g l = l.last - l.self.steps
