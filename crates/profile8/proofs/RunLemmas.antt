-- A run that counts.
use Rattle.std.proofs.Common.{◌≡◌, ℕ, ◌+◌, zero, suc, ◌<◌, ◌≤◌, Bool, true, false, true≢false, ◌&&◌, if◌then◌else◌, List, [], ◌∷◌, length, Option, Some, None, is_some, unwrap_or, below_more, refl, ap, sym, subst, ◌∙◌, arith}
use Rattle.word12.specs.declared.sizes.TheConstants.{CORE}
use Rattle.cpu8.specs.State.{State, next_cell}
use Rattle.cpu8.specs.Laws.{runs_on}
use Rattle.cpu8.specs.Fetches.{is_fetch}
use Rattle.cpu8.specs.declared.outcomes.Stepped.{Stepped}
use Rattle.cpu8.specs.declared.outcomes.Stepped.TheVariants.{Stopped, Interrupted, Ran, Halted, Unassigned}
use Rattle.terminal8.specs.Asks.{asks_for_key, waits_for_key}
use Rattle.terminal8.specs.Fetches.{AddsFetches}
use Rattle.terminal8.specs.Terminal.{Terminal, after_look, next, after_step, later, last_did, is_none_left, starves, stop_of, has_halted, GoesOn, Ends, IsRun}
use Rattle.terminal8.specs.declared.outcomes.TerminalEnd.{TerminalEnd}
use Rattle.terminal8.specs.declared.outcomes.TerminalEnd.TheVariants as why
use Rattle.terminal8.proofs.TerminalLemmas.{later-none, later-next, did-none, did-next}
use Rattle.profile8.specs.Counts.{AreCounts, AreZero}
use Rattle.profile8.specs.CountSteps.{counts_with}
use Rattle.profile8.proofs.CountLemmas.{counts-none, counts-next, counts-more}

-- A terminal has made so many steps, and the run goes on.
pub record IsGoing (t now : Terminal) (made : ℕ) : Type 0 where
  pub at : now ≡ later made t
  pub goes_on : (k : ℕ) → k < made → GoesOn t k
  pub runs : runs_on (last_did made t) ≡ true
  pub sooner : now.since ≤ t.since + made

-- All of them were counted.
pub record IsCounting (t now : Terminal) (made : ℕ) (counts : List ℕ) : Type 0 where
  pub going : IsGoing t now made
  pub are : AreCounts made t counts

-- ## Steps

-- ## How long ago the program asked for a key

looked-since : (s : State) (looks : List (Option ℕ)) → (after_look s looks).since ≡ 0
looked-since s [] = refl
looked-since s (None ∷ looks) = refl
looked-since s (Some key ∷ looks) = refl

attended-by : (t : Terminal) (asks : Bool) → (if asks then after_look t.machine t.looks else t).since ≤ t.since
attended-by t true = omega (arith, looked-since t.machine t.looks)
attended-by t false = omega arith

next-since : (t : Terminal) → (next t).since ≤ t.since + 1
next-since t = omega (arith, attended-by t (asks_for_key t.since t.machine))

-- ## Whether a step was an end

none_some : (w : TerminalEnd) → Some w ≡ None → ⊥
none_some w is = true≢false (ap (λ o. is_some o) is)

why_is : (a b : TerminalEnd) → Some a ≡ Some b → a ≡ b
why_is a b is = ap (λ o. unwrap_or o a) is

goes_by : (did : Stepped) → stop_of did ≡ None → runs_on did ≡ true
goes_by Halted is = absurd (none_some why.Halt is)
goes_by (Unassigned word) is = absurd (none_some why.Unassigned is)
goes_by Stopped is = absurd (none_some why.Halt is)
goes_by Interrupted is = refl
goes_by (Ran printed) is = refl

ends_by : (t : Terminal) (n steps : ℕ) (did : Stepped) (w : TerminalEnd) → last_did steps t ≡ did → stop_of did ≡ Some w → Ends t n steps w
ends_by t n steps Halted w last is = subst (λ x. Ends t n steps x) (why_is why.Halt w is) (ap (λ d. has_halted d) last)
ends_by t n steps Stopped w last is = subst (λ x. Ends t n steps x) (why_is why.Halt w is) (ap (λ d. has_halted d) last)
ends_by t n steps (Unassigned word) w last is = subst (λ x. Ends t n steps x) (why_is why.Unassigned w is) (word, last)
ends_by t n steps Interrupted w last is = absurd (none_some w (sym is))
ends_by t n steps (Ran printed) w last is = absurd (none_some w (sym is))

-- ## A run that goes on

pub begun : (t : Terminal) (counts : List ℕ) → t.machine.running ≡ true → length counts ≡ CORE → AreZero counts → IsCounting t t 0 counts
begun t counts running size zeros = record {
  going = record {
    at = sym (later-none t);
    goes_on = λ k below. absurd (omega (arith, below));
    runs = ap (λ d. runs_on d) (did-none t) ∙ ap (λ (b : Bool). runs_on (if b then Ran None else Stopped)) running;
    sooner = omega arith;
  };
  are = counts-none t counts size zeros;
}

-- what the counts are after a step
next-counts : (t now : Terminal) (made : ℕ) (counts counts' : List ℕ) → IsCounting t now made counts → next_cell now.machine < CORE
    → counts' ≡ counts_with counts (next_cell now.machine) (is_fetch (after_step now).1) → AreCounts (made + 1) t counts'
next-counts t now made counts counts' i within is =
    let inside : next_cell (later made t).machine < CORE = subst (λ x. next_cell x.machine < CORE) i.going.at within in
    subst (λ l. AreCounts (made + 1) t l)
    (sym (is ∙ ap (λ x. counts_with counts (next_cell x.machine) (is_fetch (after_step x).1)) i.going.at))
    (counts-next made t counts i.are inside)

next-at : (t now new : Terminal) (made : ℕ) → IsGoing t now made → new ≡ next now → new ≡ later (made + 1) t
next-at t now new made i is = is ∙ ap (λ x. next x) i.at ∙ sym (later-next made t)

next-goes : (t now : Terminal) (made : ℕ) → IsGoing t now made → starves now ≡ false → (k : ℕ) → k < made + 1 → GoesOn t k
next-goes t now made i fed = below_more _ _ i.goes_on (record { runs = i.runs; fed = ap (λ x. starves x) (sym i.at) ∙ fed })

next-did : (t now : Terminal) (made : ℕ) (did : Stepped) → IsGoing t now made → did ≡ (after_step now).1 → last_did (made + 1) t ≡ did
next-did t now made did i is = did-next made t ∙ ap (λ x. (after_step x).1) (sym i.at) ∙ sym is

going_on : (t now new : Terminal) (made : ℕ) (did : Stepped) → IsGoing t now made → starves now ≡ false → new ≡ next now → did ≡ (after_step now).1
    → runs_on did ≡ true → IsGoing t new (made + 1)
going_on t now new made did i fed new_is did_is runs = record {
  at = next-at t now new made i new_is;
  goes_on = next-goes t now made i fed;
  runs = ap (λ d. runs_on d) (next-did t now made did i did_is) ∙ runs;
  sooner = let since = ap (λ x. x.since) new_is in omega (arith, since, next-since now, i.sooner);
}

pub counted_on : (t now new : Terminal) (made : ℕ) (counts counts' : List ℕ) (did : Stepped) → IsCounting t now made counts → starves now ≡ false
    → new ≡ next now → did ≡ (after_step now).1 → next_cell now.machine < CORE
    → counts' ≡ counts_with counts (next_cell now.machine) (is_fetch (after_step now).1) → stop_of did ≡ None → IsCounting t new (made + 1) counts'
counted_on t now new made counts counts' did i fed new_is did_is within counts_are goes = record {
  going = going_on t now new made did i.going fed new_is did_is (goes_by did goes);
  are = next-counts t now made counts counts' i within counts_are;
}

-- ## Several steps at once

-- the law of a machine that waits for a key
abbrev AskWhereTheyWait : Type 0
AskWhereTheyWait = (s : State) (since : ℕ) → waits_for_key s ≡ true → asks_for_key since s ≡ true

waits_by : (s : State) (since : ℕ) (waits : Bool) → AskWhereTheyWait → waits_for_key s ≡ waits → asks_for_key since s ≡ false → waits_for_key s ≡ false
waits_by s since true law is asks = absurd (true≢false (sym (law s since is) ∙ asks))
waits_by s since false law is asks = is

fed_by : (none : Bool) (waits : Bool) → waits ≡ false → (none && waits) ≡ false
fed_by true waits is = is
fed_by false waits is = refl

fed : (t : Terminal) → AskWhereTheyWait → asks_for_key t.since t.machine ≡ false → starves t ≡ false
fed t law asks = fed_by (is_none_left t.looks) (waits_for_key t.machine) (waits_by t.machine t.since (waits_for_key t.machine) law refl asks)

-- the run goes on over steps that go on and ask for no key
pub going_far : (t now : Terminal) (made k : ℕ) → AskWhereTheyWait → IsGoing t now made
    → ((m : ℕ) → m < k → (after_step (later m now)).1 ≡ Ran None)
    → ((m : ℕ) → m < k → asks_for_key (later m now).since (later m now).machine ≡ false)
    → IsGoing t (later k now) (made + k)
going_far t now made zero law i answers asks =
    let e : made ≡ made + 0 = omega arith in
    subst (λ x. IsGoing t x (made + 0)) (sym (later-none now)) (subst (λ (n : ℕ). IsGoing t now n) e i)
going_far t now made (suc k) law i answers asks =
    let e : made + k + 1 ≡ made + suc k = omega arith in
    let f : k + 1 ≡ suc k = omega arith in
    let before =
    going_far t now made k law i (λ m below. answers m (omega (arith, below))) (λ m below. asks m (omega (arith, below))) in
    let did = answers k (omega arith) in
    let here = going_on t (later k now) (next (later k now)) (made + k) (Ran None) before (fed (later k now) law (asks k (omega arith))) refl (sym did) refl in
    subst (λ x. IsGoing t x (made + suc k)) (sym (later-next k now) ∙ ap (λ n. later n now) f)
    (subst (λ (n : ℕ). IsGoing t (next (later k now)) n) e here)

pub counted_far : (t now new : Terminal) (made k : ℕ) (counts counts' : List ℕ) → AskWhereTheyWait
    → ((a b : ℕ) (t : Terminal) → later (a + b) t ≡ later b (later a t)) → IsCounting t now made counts → new ≡ later k now
    → ((m : ℕ) → m < k → (after_step (later m now)).1 ≡ Ran None)
    → ((m : ℕ) → m < k → asks_for_key (later m now).since (later m now).machine ≡ false)
    → AddsFetches k now counts counts' → IsCounting t new (made + k) counts'
counted_far t now new made k counts counts' law adds i new_is answers asks more = record {
  going = subst (λ x. IsGoing t x (made + k)) (sym new_is) (going_far t now made k law i.going answers asks);
  are = counts-more adds made k t counts counts' i.are (subst (λ x. AddsFetches k x counts counts') i.going.at more);
}

-- ## The ends of a run

-- What a run of at most n steps comes to that ends so.
pub record HasCounted (t new : Terminal) (n steps : ℕ) (w : TerminalEnd) (counts : List ℕ) : Type 0 where
  pub run : IsRun t n steps w
  pub terminal : new ≡ later steps t
  pub counts_are : AreCounts steps t counts

pub stopped_run : (t : Terminal) (n : ℕ) (counts : List ℕ) → t.machine.running ≡ false → length counts ≡ CORE → AreZero counts
    → HasCounted t t n 0 why.Halt counts
stopped_run t n counts stands size zeros = record {
  run = record {
    within = omega arith;
    goes_on = λ k below. absurd (omega (arith, below));
    ends = ap (λ d. has_halted d) (did-none t) ∙ ap (λ (b : Bool). has_halted (if b then Ran None else Stopped)) stands;
  };
  terminal = sym (later-none t);
  counts_are = counts-none t counts size zeros;
}

pub ended_run : (t now new : Terminal) (n made : ℕ) (counts counts' : List ℕ) (did : Stepped) (w : TerminalEnd) → IsCounting t now made counts → made < n
    → starves now ≡ false → new ≡ next now → did ≡ (after_step now).1 → next_cell now.machine < CORE
    → counts' ≡ counts_with counts (next_cell now.machine) (is_fetch (after_step now).1) → stop_of did ≡ Some w → HasCounted t new n (made + 1) w counts'
ended_run t now new n made counts counts' did w i sooner fed new_is did_is within counts_are stops = record {
  run = record {
    within = omega (arith, sooner);
    goes_on = next-goes t now made i.going fed;
    ends = ends_by t n (made + 1) did w (next-did t now made did i.going did_is) stops;
  };
  terminal = next-at t now new made i.going new_is;
  counts_are = next-counts t now made counts counts' i within counts_are;
}
