use Rattle.std.proofs.Common.{ℕ, ◌+◌, map, Some, arith, ap, sym, subst, ◌∙◌, ◌≡◌, ◌<◌, false, None}
use Rattle.cpu8.specs.State.{State}
use Rattle.cpu8.specs.declared.outcomes.Stepped.TheVariants.{Ran}
use Rattle.terminal8.specs.Asks.{asks_for_key}
use Rattle.terminal8.specs.Fetches.{AddsFetches}
use Rattle.terminal8.specs.Terminal.{Terminal, later, after_step}
use Rattle.terminal8.proofs.FetchLemmas.{not-asked, later-alone, answers-alone, asks-alone, adds-alone}
use Rattle.terminal8.proofs.terminals.Terminal.go_on_counting.Goals as goal

pub returns : goal.returns
returns c =
    let t : Terminal = record {
      machine = c.self.inside.machine;
      looks = map (λ key. Some key) c.self.inside.keys.now;
      since = c.self.inside.since;
    } in
    let made = c.run_unasked_counting-steps.result in
    let did = c.run_unasked_counting-steps.ensures in
    let asks =
    not-asked t made did.unasked (λ m below. c.steps_before_look-most.ensures.sooner m (omega (arith, below, did.within))) in
    record {
      within = omega (arith, did.within, c.steps_before_look-most.ensures.within);
      state =
          ap (λ (s : State). let x : Terminal = record t { machine = s; since = t.since + made } in x) did.state
          ∙ sym (later-alone made t asks)
          ∙ ap (λ x. later made x) c.self.view_is;
      answers = subst (λ x. (k : ℕ) → k < made → (after_step (later k x)).1 ≡ Ran None) c.self.view_is (answers-alone t made did.unasked asks);
      asks =
          subst (λ x. (k : ℕ) → k < made → asks_for_key (later k x).since (later k x).machine ≡ false) c.self.view_is
          (asks-alone t made asks);
      counts =
          subst (λ x. AddsFetches made x c.args.counts.now c.run_unasked_counting-steps.new.counts) c.self.view_is
          (adds-alone made t c.args.counts.now c.run_unasked_counting-steps.new.counts asks did.counts);
    }
