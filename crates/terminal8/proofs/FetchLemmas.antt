-- Steps in which a program asks for no key, and how often they fetch the word of each cell.
use Rattle.std.proofs.Common.{◌≡◌, ℕ, zero, suc, ◌+◌, ◌<◌, Bool, true, false, true≢false, ◌&&◌, ◌||◌, not, nat_le, nat_eq, if◌then◌else◌, List, None, add-one, refl, ap, sym, subst, ◌∙◌, arith}
use Rattle.cpu8.specs.State.{State, next_cell}
use Rattle.cpu8.specs.Step.{next_word}
use Rattle.cpu8.specs.Go.{printing_step, after, answer}
use Rattle.cpu8.specs.Unasked.{AreUnasked, IsUnasked, is_ksf}
use Rattle.cpu8.specs.Fetches as cpu
use Rattle.cpu8.specs.Fetches.{is_fetch}
use Rattle.cpu8.specs.declared.outcomes.Stepped.TheVariants.{Ran}
use Rattle.terminal8.specs.Asks.{asks_for_key, is_undisturbed}
use Rattle.terminal8.specs.Fetches.{AddsFetches, fetch_count, fetches}
use Rattle.terminal8.specs.Terminal.{Terminal, after_look, later, next, after_step}
use Rattle.terminal8.proofs.TerminalLemmas.{later-none, later-next}

-- ## Asking

none-asked : (unread ksf und late : Bool) → (not unread && ksf) ≡ false → late ≡ false → (not unread && ((ksf && und) || late)) ≡ false
none-asked true ksf und late finds is = refl
none-asked false true und late finds is = absurd (true≢false finds)
none-asked false false und late finds is = is

-- a program that finds its key, before its time is over, asks for none
pub asks-not : (s : State) (since m : ℕ) → IsUnasked s m → (s.interrupts_on && nat_le 30000 (since + m)) ≡ false
    → asks_for_key (since + m) (after true m s) ≡ false
asks-not s since m unasked sooner =
    let x = after true m s in
    none-asked x.teletype.keyboard_flag (is_ksf (next_word x)) (is_undisturbed x) (x.interrupts_on && nat_le 30000 (since + m)) unasked.finds
    (ap (λ on. on && nat_le 30000 (since + m)) unasked.interrupts ∙ sooner)

-- ## Steps of a terminal at which no key is asked for

-- no key is asked for in the first k steps
abbrev pub AreNotAsked : Terminal → ℕ → Type 0
AreNotAsked t k = (m : ℕ) → m < k → asks_for_key (t.since + m) (after true m t.machine) ≡ false

-- the machine makes its steps by itself
abbrev pub alone : Terminal → ℕ → Terminal
alone t k = record t { machine = after true k t.machine; since = t.since + k }

after-zero : (s : State) → after true 0 s ≡ s
unfolding after
after-zero s = refl

after-next : (k : ℕ) (s : State) → after true (k + 1) s ≡ (printing_step true (after true k s)).0
unfolding after
after-next k s = rw add-one refl

alone-none : (t : Terminal) → t ≡ alone t 0
alone-none t =
    let e : t.since ≡ t.since + 0 = omega arith in
    ap (λ (n : ℕ). let x : Terminal = record t { since = n } in x) e
    ∙ ap (λ (s : State). let x : Terminal = record t { machine = s; since = t.since + 0 } in x) (sym (after-zero t.machine))

-- one step more
next-alone : (t : Terminal) (k : ℕ) → asks_for_key (t.since + k) (after true k t.machine) ≡ false → next (alone t k) ≡ alone t (k + 1)
next-alone t k asks =
    let e : t.since + k + 1 ≡ t.since + (k + 1) = omega arith in
    ap (λ (b : Bool). let x : Terminal = if b then after_look (alone t k).machine t.looks else alone t k in
    let y : Terminal = record x { machine = (printing_step true x.machine).0; since = x.since + 1 } in y) asks
    ∙ ap (λ (s : State). let y : Terminal = record t { machine = s; since = t.since + k + 1 } in y) (sym (after-next k t.machine))
    ∙ ap (λ (n : ℕ). let y : Terminal = record t { machine = after true (k + 1) t.machine; since = n } in y) e

pub later-alone : (k : ℕ) (t : Terminal) → AreNotAsked t k → later k t ≡ alone t k
later-alone zero t asks = later-none t ∙ alone-none t
later-alone (suc k) t asks =
    let e : suc k ≡ k + 1 = omega arith in
    subst (λ n. later n t ≡ alone t n) (sym e)
    (later-next k t ∙ ap (λ x. next x) (later-alone k t (λ m below. asks m (omega (arith, below)))) ∙ next-alone t k (asks k (omega arith)))

-- what such a step does
pub stepped-alone : (k : ℕ) (t : Terminal) → AreNotAsked t (k + 1) → after_step (later k t) ≡ printing_step true (after true k t.machine)
stepped-alone k t asks =
    ap (λ x. after_step x) (later-alone k t (λ m below. asks m (omega (arith, below))))
    ∙ ap (λ (b : Bool). let x : Terminal = if b then after_look (alone t k).machine t.looks else alone t k in printing_step true x.machine) (asks k (omega arith))

-- ## Fetches

count-none : (t : Terminal) (cell : ℕ) → fetch_count 0 t cell ≡ 0
unfolding fetch_count
count-none t cell = refl

count-next : (k : ℕ) (t : Terminal) (cell : ℕ) → fetch_count (k + 1) t cell ≡ fetch_count k t cell + (if fetches (later k t) cell then 1 else 0)
unfolding fetch_count
count-next k t cell = rw add-one refl

cpu-none : (s : State) (cell : ℕ) → cpu.fetch_count 0 s cell ≡ 0
unfolding cpu.fetch_count
cpu-none s cell = refl

cpu-next : (k : ℕ) (s : State) (cell : ℕ) → cpu.fetch_count (k + 1) s cell ≡ cpu.fetch_count k s cell + (if cpu.fetches k s cell then 1 else 0)
unfolding cpu.fetch_count
cpu-next k s cell = rw add-one refl

fetches-alone : (k : ℕ) (t : Terminal) (cell : ℕ) → AreNotAsked t (k + 1) → fetches (later k t) cell ≡ cpu.fetches k t.machine cell
fetches-alone k t cell asks =
    ap (λ r. is_fetch r.1 && nat_eq (next_cell (later k t).machine) cell) (stepped-alone k t asks)
    ∙ ap (λ x. is_fetch (answer true k t.machine) && nat_eq (next_cell x.machine) cell) (later-alone k t (λ m below. asks m (omega (arith, below))))

counts-alone : (k : ℕ) (t : Terminal) (cell : ℕ) → AreNotAsked t k → fetch_count k t cell ≡ cpu.fetch_count k t.machine cell
counts-alone zero t cell asks = count-none t cell ∙ sym (cpu-none t.machine cell)
counts-alone (suc k) t cell asks =
    let e : suc k ≡ k + 1 = omega arith in
    let fetch = fetches-alone k t cell (λ m below. asks m (omega (arith, below))) in
    let before = counts-alone k t cell (λ m below. asks m (omega (arith, below))) in
    subst (λ n. fetch_count n t cell ≡ cpu.fetch_count n t.machine cell) (sym e)
    (count-next k t cell
    ∙ ap (λ n. n + (if fetches (later k t) cell then 1 else 0)) before
    ∙ ap (λ (b : Bool). cpu.fetch_count k t.machine cell + (if b then 1 else 0)) fetch
    ∙ sym (cpu-next k t.machine cell))

pub adds-alone : (k : ℕ) (t : Terminal) (old new : List ℕ) → AreNotAsked t k → cpu.AddsFetches k t.machine old new → AddsFetches k t old new
adds-alone k t old new asks adds = record {
  size = adds.size;
  cells = λ cell below. let is = adds.cells cell below in let same = counts-alone k t cell asks in omega (arith, is, same);
}

-- ## What goes on without a key

pub not-asked : (t : Terminal) (k : ℕ) → AreUnasked t.machine k
    → ((m : ℕ) → m < k → (t.machine.interrupts_on && nat_le 30000 (t.since + m)) ≡ false) → AreNotAsked t k
not-asked t k unasked sooner m below = asks-not t.machine t.since m (unasked m below) (sooner m below)

fewer : (t : Terminal) (k m : ℕ) → AreNotAsked t k → m < k → AreNotAsked t (m + 1)
fewer t k m asks below n more = asks n (omega (arith, below, more))

pub answers-alone : (t : Terminal) (k : ℕ) → AreUnasked t.machine k → AreNotAsked t k → (m : ℕ) → m < k → (after_step (later m t)).1 ≡ Ran None
answers-alone t k unasked asks m below = ap (λ r. r.1) (stepped-alone m t (fewer t k m asks below)) ∙ (unasked m below).answer

pub asks-alone : (t : Terminal) (k : ℕ) → AreNotAsked t k → (m : ℕ) → m < k → asks_for_key (later m t).since (later m t).machine ≡ false
asks-alone t k asks m below =
    ap (λ x. asks_for_key x.since x.machine) (later-alone m t (λ n more. asks n (omega (arith, below, more)))) ∙ asks m below
