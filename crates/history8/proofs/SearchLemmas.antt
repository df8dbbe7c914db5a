-- The way back to where a condition held.
use Rattle.std.proofs.Common.{◌≡◌, ℕ, zero, suc, ◌+◌, ◌-◌, ◌<◌, ◌≤◌, min, Bool, true, false, List, length, get_or, Option, Some, None, refl, ap, sym, subst, ◌∙◌, arith}
use Rattle.cpu8.specs.State.{State}
use Rattle.history8.specs.History.{state_after}
use Rattle.history8.specs.Entries.{changes_of, oldest}
use Rattle.history8.specs.EntrySteps.{MakesAgain}
use Rattle.history8.specs.Stops.{Condition}
use Rattle.history8.specs.Steps.{FindsNext, holds_at, IsGreatest, IsLastOf, newest_of}
use Rattle.history8.specs.Checkpoints.{Checkpoint, first_state, AreCheckpoints}
use Rattle.history8.specs.declared.entries.Entry.{Entry}
use Rattle.history8.proofs.CheckpointLemmas.{are-at, first-of, some-of}

-- ## Up to a place

-- what was found so far
pub record Searched (condition : Condition) (entries : List Entry) (from to : ℕ) (before now : State) (found : Option ℕ) : Type 0 where
  pub state : (first : State) → before ≡ state_after (oldest from (changes_of entries)) first → now ≡ state_after (oldest to (changes_of entries)) first
  pub greatest : (first : State) → before ≡ state_after (oldest from (changes_of entries)) first → IsGreatest condition entries first from to found

pub searched-none : (condition : Condition) (entries : List Entry) (from : ℕ) (s : State) → Searched condition entries from from s s None
searched-none condition entries from s = record {
  state = λ first e. e;
  greatest = λ first e m low high. absurd (omega (arith, low, high));
}

-- by cases on how far a number is below another
under : (P : ℕ → Type 0) (b m d : ℕ) → d ≡ b - m → m < b + 1 → (m < b → P m) → P b → P m
under P b m zero e high less here = let same : b ≡ m = omega (arith, e, high) in subst P same here
under P b m (suc d) e high less here = less (omega (arith, e))

above : (P : Type 0) (a m d : ℕ) → d ≡ m - a → (a < m → P) → (m ≤ a → P) → P
above P a m zero e more less = less (omega (arith, e))
above P a m (suc d) e more less = more (omega (arith, e))

greatest-next : (condition : Condition) (entries : List Entry) (first : State) (from a b : ℕ) (found : Option ℕ) (is_met : Bool)
    → IsGreatest condition entries first from a found → from ≤ a → a < b → ((m : ℕ) → a < m → m < b → holds_at condition entries first m ≡ false)
    → is_met ≡ holds_at condition entries first b → IsGreatest condition entries first from b (newest_of is_met b found)
greatest-next condition entries first from a b found true greatest low less none met =
    (omega (arith, low, less), omega arith, sym met, λ m more most. absurd (omega (arith, more, most)))
greatest-next condition entries first from a b (Some place) false greatest low less none met = (
  greatest.0,
  omega (arith, greatest.1, less),
  greatest.2,
  λ m more most. under (λ i. holds_at condition entries first i ≡ false) b m (b - m) refl most
      (λ below. above (holds_at condition entries first m ≡ false) a m (m - a) refl (λ past. none m past below) (λ within. greatest.3 m more (omega (arith, within)))) (sym met),
)
greatest-next condition entries first from a b None false greatest low less none met = λ m more most.
    under (λ i. holds_at condition entries first i ≡ false) b m (b - m) refl most
    (λ below. above (holds_at condition entries first m ≡ false) a m (m - a) refl (λ past. none m past below) (λ within. greatest m more (omega (arith, within)))) (sym met)

pub searched-part : (condition : Condition) (entries : List Entry) (from a b : ℕ) (before now next : State) (found : Option ℕ) (characters : ℕ) (is_met : Bool)
    → Searched condition entries from a before now found → from ≤ a → a < b → MakesAgain entries a b now next characters
    → FindsNext condition entries a b now is_met → Searched condition entries from b before next (newest_of is_met b found)
searched-part condition entries from a b before now next found characters is_met so_far low less made finds = record {
  state = λ first is. (made first (so_far.state first is)).0;
  greatest = λ first is.
      let here = finds first (so_far.state first is) in
      greatest-next condition entries first from a b found is_met (so_far.greatest first is) low less here.0 here.1;
}

last-greatest : (condition : Condition) (entries : List Entry) (first : State) (from to end : ℕ) (found : Option ℕ)
    → IsGreatest condition entries first from to found → end ≤ to → (from < to → to ≤ end) → IsGreatest condition entries first from end found
last-greatest condition entries first from to end (Some place) greatest low high =
    let some : from < to = omega (arith, greatest.0, greatest.1) in
    let top : to ≤ end = high some in
    (greatest.0, omega (arith, greatest.1, top), greatest.2, λ m more most. greatest.3 m more (omega (arith, most, low)))
last-greatest condition entries first from to end None greatest low high = λ m more most. greatest m more (omega (arith, most, low))

pub searched-all : (condition : Condition) (entries : List Entry) (from to end : ℕ) (before now : State) (found : Option ℕ)
    → Searched condition entries from to before now found → end ≤ to → (from < to → to ≤ end) → IsLastOf condition entries from end before found
searched-all condition entries from to end before now found so_far low high = λ first is.
    last-greatest condition entries first from to end found (so_far.greatest first is) low high

-- ## From the newest checkpoint to the first

-- it held nowhere after a place
pub record HeldNot (condition : Condition) (entries : List Entry) (checkpoints : List Checkpoint) (top end left : ℕ) : Type 0 where
  pub none : (m : ℕ) → end < m → m < top + 1 → holds_at condition entries (first_state checkpoints) m ≡ false
  pub within : end ≤ top
  pub last : left ≡ 0 → end ≡ 0
  pub left_within : left ≤ length checkpoints

pub held-begun : (condition : Condition) (entries : List Entry) (checkpoints : List Checkpoint) (top : ℕ) → AreCheckpoints entries (first_state checkpoints) checkpoints
    → HeldNot condition entries checkpoints top top (length checkpoints)
held-begun condition entries checkpoints top are = record {
  none = λ m low high. absurd (omega (arith, low, high));
  within = omega arith;
  last = λ none. absurd (omega (arith, none, some-of entries (first_state checkpoints) checkpoints are));
  left_within = omega arith;
}

-- of the checkpoint, with the machine that it gives
pub found-of : (condition : Condition) (entries : List Entry) (checkpoints : List Checkpoint) (n end : ℕ) (checkpoint : Checkpoint) (machine : State) (found : Option ℕ)
    → AreCheckpoints entries (first_state checkpoints) checkpoints → n < length checkpoints → checkpoint ≡ get_or checkpoints n checkpoint → machine ≡ checkpoint.state
    → IsLastOf condition entries checkpoint.count end machine found → IsGreatest condition entries (first_state checkpoints) checkpoint.count end found
found-of condition entries checkpoints n end checkpoint machine found are within at restored last =
    last (first_state checkpoints) (restored ∙ (are-at entries (first_state checkpoints) checkpoints n checkpoint are within at).machine)

pub held-found : (condition : Condition) (entries : List Entry) (checkpoints : List Checkpoint) (top end left count place : ℕ)
    → HeldNot condition entries checkpoints top end left → IsGreatest condition entries (first_state checkpoints) count end (Some place)
    → IsGreatest condition entries (first_state checkpoints) 0 top (Some place)
held-found condition entries checkpoints top end left count place held greatest = (
  omega (arith, greatest.0),
  omega (arith, greatest.1, held.within),
  greatest.2,
  λ m more most. above (holds_at condition entries (first_state checkpoints) m ≡ false) end m (m - end) refl
      (λ past. held.none m past most) (λ within. greatest.3 m more (omega (arith, within))),
)

pub held-next : (condition : Condition) (entries : List Entry) (checkpoints : List Checkpoint) (top end left next : ℕ) (checkpoint : Checkpoint)
    → AreCheckpoints entries (first_state checkpoints) checkpoints → HeldNot condition entries checkpoints top end left → 0 < left
    → checkpoint ≡ get_or checkpoints (left - 1) checkpoint
    → IsGreatest condition entries (first_state checkpoints) checkpoint.count end None → next ≡ min end checkpoint.count
    → HeldNot condition entries checkpoints top next (left - 1)
held-next condition entries checkpoints top end left next checkpoint are held some at none e = record {
  none = λ m more most. above (holds_at condition entries (first_state checkpoints) m ≡ false) end m (m - end) refl
      (λ past. held.none m past most) (λ within. none m (omega (arith, more, within, e)) (omega (arith, within)));
  within = omega (arith, held.within, e);
  last = λ first. let is = first-of entries (first_state checkpoints) checkpoints checkpoint are (at ∙ ap (λ i. get_or checkpoints i checkpoint) first) in omega (arith, is, e);
  left_within = omega (arith, held.left_within);
}

-- of a checkpoint as the code has it
pub found-viewed : (condition : Condition) (entries : List Entry) (checkpoints : List Checkpoint) (n end : ℕ) (viewed checkpoint : Checkpoint) (machine : State) (found : Option ℕ)
    → AreCheckpoints entries (first_state checkpoints) checkpoints → n < length checkpoints → checkpoint ≡ get_or checkpoints n checkpoint → machine ≡ checkpoint.state
    → viewed ≡ checkpoint → IsLastOf condition entries viewed.count end machine found
    → IsGreatest condition entries (first_state checkpoints) checkpoint.count end found
found-viewed condition entries checkpoints n end viewed checkpoint machine found are within at restored view last =
    found-of condition entries checkpoints n end checkpoint machine found are within at restored
    (subst (λ x. IsLastOf condition entries x.count end machine found) view last)

pub held-nowhere : (condition : Condition) (entries : List Entry) (checkpoints : List Checkpoint) (top end left : ℕ)
    → HeldNot condition entries checkpoints top end left → left ≡ 0 → IsGreatest condition entries (first_state checkpoints) 0 top None
held-nowhere condition entries checkpoints top end left held none = λ m more most. held.none m (omega (arith, held.last none, more)) most
