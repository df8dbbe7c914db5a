-- A run that counts.
use Rattle.std.proofs.Common.{◌≡◌, ℕ, ◌+◌, ◌<◌, ◌≤◌, Bool, true, false, if◌then◌else◌, List, length, Some, None, below_more, ap, sym, subst, ◌∙◌, arith}
use Rattle.word12.specs.declared.sizes.TheConstants.{CORE}
use Rattle.cpu8.specs.State.{next_cell}
use Rattle.cpu8.specs.Laws.{runs_on}
use Rattle.cpu8.specs.Fetches.{is_fetch}
use Rattle.cpu8.specs.declared.outcomes.Stepped.{Stepped}
use Rattle.cpu8.specs.declared.outcomes.Stepped.TheVariants.{Stopped, Ran}
use Rattle.terminal8.specs.Terminal.{stop_of, has_halted}
use Rattle.pdp8e.specs.Terminal.{Terminal, next, after_step, later, starves, GoesOn, IsRun}
use Rattle.pdp8e.specs.TerminalSteps.{last_did}
use Rattle.terminal8.specs.declared.outcomes.TerminalEnd.{TerminalEnd}
use Rattle.terminal8.specs.declared.outcomes.TerminalEnd.TheVariants as why
use Rattle.profile8.specs.Counts.{AreZero}
use Rattle.trace8e.specs.Counts.{AreCounts}
use Rattle.profile8.specs.CountSteps.{counts_with}
use Rattle.trace8e.proofs.CountLemmas.{counts-none, counts-next}
use Rattle.trace8e.proofs.RunLemmas.{did-next, did-none, ends-by, later-next, later-none, next-since}
use Rattle.trace8.proofs.WaitingLemmas.{goes-by}

-- A terminal has made so many steps, and the run goes on.
pub record IsGoing (t now : Terminal) (made : ℕ) : Type 0 where
  pub at : now ≡ later made t
  pub goes_on : (k : ℕ) → k < made → GoesOn t k
  pub runs : runs_on (last_did made t) ≡ true
  pub sooner : now.since ≤ t.since + made

-- All of them were counted.
pub record IsCounting (t now : Terminal) (made : ℕ) (counts : List ℕ) : Type 0 where
  pub going : IsGoing t now made
  pub are : AreCounts made t counts

-- ## A run that goes on

pub begun : (t : Terminal) (counts : List ℕ) → t.machine.processor.base.running ≡ true → length counts ≡ CORE → AreZero counts → IsCounting t t 0 counts
begun t counts running size zeros = record {
  going = record {
    at = sym (later-none t);
    goes_on = λ k below. absurd (omega (arith, below));
    runs = ap (λ d. runs_on d) (did-none t) ∙ ap (λ (b : Bool). runs_on (if b then Ran None else Stopped)) running;
    sooner = omega arith;
  };
  are = counts-none t counts size zeros;
}

-- what the counts are after a step
next-counts : (t now : Terminal) (made : ℕ) (counts counts' : List ℕ) → IsCounting t now made counts → next_cell now.machine.processor.base < CORE
    → counts' ≡ counts_with counts (next_cell now.machine.processor.base) (is_fetch (after_step now).1) → AreCounts (made + 1) t counts'
next-counts t now made counts counts' i within is =
    let inside : next_cell (later made t).machine.processor.base < CORE = subst (λ x. next_cell x.machine.processor.base < CORE) i.going.at within in
    subst (λ l. AreCounts (made + 1) t l)
    (sym (is ∙ ap (λ x. counts_with counts (next_cell x.machine.processor.base) (is_fetch (after_step x).1)) i.going.at))
    (counts-next made t counts i.are inside)

next-at : (t now new : Terminal) (made : ℕ) → IsGoing t now made → new ≡ next now → new ≡ later (made + 1) t
next-at t now new made i is = is ∙ ap (λ x. next x) i.at ∙ sym (later-next made t)

next-goes : (t now : Terminal) (made : ℕ) → IsGoing t now made → starves now ≡ false → (k : ℕ) → k < made + 1 → GoesOn t k
next-goes t now made i fed = below_more _ _ i.goes_on (record { runs = i.runs; fed = ap (λ x. starves x) (sym i.at) ∙ fed })

next-did : (t now : Terminal) (made : ℕ) (did : Stepped) → IsGoing t now made → did ≡ (after_step now).1 → last_did (made + 1) t ≡ did
next-did t now made did i is = did-next made t ∙ ap (λ x. (after_step x).1) (sym i.at) ∙ sym is

going_on : (t now new : Terminal) (made : ℕ) (did : Stepped) → IsGoing t now made → starves now ≡ false → new ≡ next now → did ≡ (after_step now).1
    → runs_on did ≡ true → IsGoing t new (made + 1)
going_on t now new made did i fed new_is did_is runs = record {
  at = next-at t now new made i new_is;
  goes_on = next-goes t now made i fed;
  runs = ap (λ d. runs_on d) (next-did t now made did i did_is) ∙ runs;
  sooner = let since = ap (λ x. x.since) new_is in omega (arith, since, next-since now, i.sooner);
}

pub counted_on : (t now new : Terminal) (made : ℕ) (counts counts' : List ℕ) (did : Stepped) → IsCounting t now made counts → starves now ≡ false
    → new ≡ next now → did ≡ (after_step now).1 → next_cell now.machine.processor.base < CORE
    → counts' ≡ counts_with counts (next_cell now.machine.processor.base) (is_fetch (after_step now).1) → stop_of did ≡ None → IsCounting t new (made + 1) counts'
counted_on t now new made counts counts' did i fed new_is did_is within counts_are goes = record {
  going = going_on t now new made did i.going fed new_is did_is (goes-by did goes);
  are = next-counts t now made counts counts' i within counts_are;
}

-- ## The ends of a run

-- What a run of at most n steps comes to that ends so.
pub record HasCounted (t new : Terminal) (n steps : ℕ) (w : TerminalEnd) (counts : List ℕ) : Type 0 where
  pub run : IsRun t n steps w
  pub terminal : new ≡ later steps t
  pub counts_are : AreCounts steps t counts

pub stopped_run : (t : Terminal) (n : ℕ) (counts : List ℕ) → t.machine.processor.base.running ≡ false → length counts ≡ CORE → AreZero counts
    → HasCounted t t n 0 why.Halt counts
stopped_run t n counts stands size zeros = record {
  run = record {
    within = omega arith;
    goes_on = λ k below. absurd (omega (arith, below));
    ends = ap (λ d. has_halted d) (did-none t) ∙ ap (λ (b : Bool). has_halted (if b then Ran None else Stopped)) stands;
  };
  terminal = sym (later-none t);
  counts_are = counts-none t counts size zeros;
}

pub ended_run : (t now new : Terminal) (n made : ℕ) (counts counts' : List ℕ) (did : Stepped) (w : TerminalEnd) → IsCounting t now made counts → made < n
    → starves now ≡ false → new ≡ next now → did ≡ (after_step now).1 → next_cell now.machine.processor.base < CORE
    → counts' ≡ counts_with counts (next_cell now.machine.processor.base) (is_fetch (after_step now).1) → stop_of did ≡ Some w → HasCounted t new n (made + 1) w counts'
ended_run t now new n made counts counts' did w i sooner fed new_is did_is within counts_are stops = record {
  run = record {
    within = omega (arith, sooner);
    goes_on = next-goes t now made i.going fed;
    ends = ends-by t n (made + 1) did w (next-did t now made did i.going did_is) stops;
  };
  terminal = next-at t now new made i.going new_is;
  counts_are = next-counts t now made counts counts' i within counts_are;
}
