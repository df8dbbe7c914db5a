-- Checkpoints of a history.
use Rattle.std.proofs.Common.{◌≡◌, ◌⊎◌, inl, inr, ℕ, zero, suc, ◌+◌, ◌-◌, ◌<◌, ◌≤◌, List, [], ◌∷◌, ◌++◌, length, take, drop, get_or, slice_index, refl, ap, sym, subst, ◌∙◌, arith}
use Rattle.cpu8.specs.State.{State}
use Rattle.history8.specs.History.{state_after, characters_after}
use Rattle.history8.specs.Entries.{changes_of, IsPlace}
use Rattle.history8.specs.EntrySteps.{KeepsPlaces}
use Rattle.history8.specs.Checkpoints.{Checkpoint, first_state, IsCheckpoint, AllCheckpoints, AreCheckpoints}
use Rattle.history8.specs.CheckpointSteps.{AreWithin, counts_of, LosesOne, KeepsCheckpoint}
use Rattle.history8.specs.declared.entries.Entry.{Entry}

-- ## One of them

pub all-at : (entries : List Entry) (first : State) (checkpoints : List Checkpoint) (n : ℕ) (checkpoint : Checkpoint) → AllCheckpoints entries first checkpoints
    → n < length checkpoints → checkpoint ≡ get_or checkpoints n checkpoint → IsCheckpoint entries first checkpoint
all-at entries first [] n checkpoint all within at = absurd (omega (arith, within))
all-at entries first (next ∷ later) zero checkpoint all within at = subst (λ x. IsCheckpoint entries first x) (sym at) all.0
all-at entries first (next ∷ later) (suc n) checkpoint all within at = all-at entries first later n checkpoint all.1 (omega (arith, within)) at

pub within-at : (count : ℕ) (checkpoints : List Checkpoint) (n : ℕ) (checkpoint : Checkpoint) → AreWithin count checkpoints
    → n < length checkpoints → checkpoint ≡ get_or checkpoints n checkpoint → checkpoint.count ≤ count
within-at count [] n checkpoint all within at = absurd (omega (arith, within))
within-at count (next ∷ later) zero checkpoint all within at = subst (λ x. x.count ≤ count) (sym at) all.0
within-at count (next ∷ later) (suc n) checkpoint all within at = within-at count later n checkpoint all.1 (omega (arith, within)) at

pub count-at : (checkpoints : List Checkpoint) (n : ℕ) (checkpoint : Checkpoint) → n < length checkpoints → checkpoint ≡ get_or checkpoints n checkpoint
    → checkpoint.count ≡ slice_index (counts_of checkpoints) n
count-at [] n checkpoint within at = absurd (omega (arith, within))
count-at (next ∷ later) zero checkpoint within at = ap (λ x. x.count) at
count-at (next ∷ later) (suc n) checkpoint within at = count-at later n checkpoint (omega (arith, within)) at

pub all-of : (entries : List Entry) (first : State) (checkpoints : List Checkpoint) → AreCheckpoints entries first checkpoints → AllCheckpoints entries first checkpoints
all-of entries first [] are = absurd are
all-of entries first (checkpoint ∷ later) are = (are.1, are.2)

pub some-of : (entries : List Entry) (first : State) (checkpoints : List Checkpoint) → AreCheckpoints entries first checkpoints → 0 < length checkpoints
some-of entries first [] are = absurd are
some-of entries first (checkpoint ∷ later) are = omega arith

-- the first is before all changes
pub first-of : (entries : List Entry) (first : State) (checkpoints : List Checkpoint) (checkpoint : Checkpoint) → AreCheckpoints entries first checkpoints
    → checkpoint ≡ get_or checkpoints 0 checkpoint → checkpoint.count ≡ 0
first-of entries first [] checkpoint are at = absurd are
first-of entries first (next ∷ later) checkpoint are at = ap (λ x. x.count) at ∙ are.0

pub are-at : (entries : List Entry) (first : State) (checkpoints : List Checkpoint) (n : ℕ) (checkpoint : Checkpoint) → AreCheckpoints entries first checkpoints
    → n < length checkpoints → checkpoint ≡ get_or checkpoints n checkpoint → IsCheckpoint entries first checkpoint
are-at entries first checkpoints n checkpoint are within at =
    all-at entries first checkpoints n checkpoint (all-of entries first checkpoints are) within at

-- ## They are before so many changes

all-within : (entries : List Entry) (first : State) (checkpoints : List Checkpoint) → AllCheckpoints entries first checkpoints → AreWithin (length (changes_of entries)) checkpoints
all-within entries first [] all = tt
all-within entries first (next ∷ later) all = (all.0.place.is_place.count_within, all-within entries first later all.1)

pub are-within : (entries : List Entry) (first : State) (checkpoints : List Checkpoint) (count : ℕ) → AreCheckpoints entries first checkpoints
    → count ≡ length (changes_of entries) → AreWithin count checkpoints
are-within entries first checkpoints count are e =
    subst (λ n. AreWithin n checkpoints) (sym e) (all-within entries first checkpoints (all-of entries first checkpoints are))

within-from : (count : ℕ) (checkpoints : List Checkpoint) → ((k : ℕ) → k < length checkpoints → slice_index (counts_of checkpoints) k ≤ count) → AreWithin count checkpoints
within-from count [] few = tt
within-from count (next ∷ later) few = (
  few 0 (omega arith),
  within-from count later (λ k below. few (suc k) (omega (arith, below))),
)

-- ## Entries that keep their places

checkpoint-kept : (old new : List Entry) (first : State) (most : ℕ) (checkpoint : Checkpoint) → KeepsPlaces old new most → checkpoint.count ≤ most
    → IsCheckpoint old first checkpoint → IsCheckpoint new first checkpoint
checkpoint-kept old new first most checkpoint keeps within is =
    let kept = keeps checkpoint.count checkpoint.entry checkpoint.steps is.place within in
    record {
      place = kept.0;
      machine = is.machine ∙ ap (λ xs. state_after xs first) (sym kept.1);
      printed = is.printed ∙ ap (λ xs. length (characters_after xs first)) (sym kept.1);
    }

all-kept : (old new : List Entry) (first : State) (most : ℕ) (checkpoints : List Checkpoint) → KeepsPlaces old new most → AreWithin most checkpoints
    → AllCheckpoints old first checkpoints → AllCheckpoints new first checkpoints
all-kept old new first most [] keeps within all = tt
all-kept old new first most (next ∷ later) keeps within all =
    (checkpoint-kept old new first most next keeps within.0 all.0, all-kept old new first most later keeps within.1 all.1)

pub are-kept : (old new : List Entry) (first : State) (most : ℕ) (checkpoints : List Checkpoint) → KeepsPlaces old new most → AreWithin most checkpoints
    → AreCheckpoints old first checkpoints → AreCheckpoints new first checkpoints
are-kept old new first most [] keeps within are = are
are-kept old new first most (next ∷ later) keeps within are =
    (are.0, checkpoint-kept old new first most next keeps within.0 are.1, all-kept old new first most later keeps within.1 are.2)

-- as changes are added
pub are-added : (old new : List Entry) (first : State) (checkpoints : List Checkpoint) → KeepsPlaces old new (length (changes_of old))
    → AreCheckpoints old first checkpoints → AreCheckpoints new first checkpoints
are-added old new first checkpoints keeps are =
    are-kept old new first (length (changes_of old)) checkpoints keeps (are-within old first checkpoints (length (changes_of old)) are refl) are

-- ## Fewer and more of them

all-taken : (entries : List Entry) (first : State) (n : ℕ) (checkpoints : List Checkpoint) → AllCheckpoints entries first checkpoints → AllCheckpoints entries first (take n checkpoints)
all-taken entries first zero checkpoints all = tt
all-taken entries first (suc n) [] all = tt
all-taken entries first (suc n) (next ∷ later) all = (all.0, all-taken entries first n later all.1)

all-dropped : (entries : List Entry) (first : State) (n : ℕ) (checkpoints : List Checkpoint) → AllCheckpoints entries first checkpoints → AllCheckpoints entries first (drop n checkpoints)
all-dropped entries first zero checkpoints all = all
all-dropped entries first (suc n) [] all = tt
all-dropped entries first (suc n) (next ∷ later) all = all-dropped entries first n later all.1

all-joined : (entries : List Entry) (first : State) (a b : List Checkpoint) → AllCheckpoints entries first a → AllCheckpoints entries first b → AllCheckpoints entries first (a ++ b)
all-joined entries first [] b all more = more
all-joined entries first (next ∷ a) b all more = (all.0, all-joined entries first a b all.1 more)

-- the same first one, and the others are checkpoints too
pub record SameFirst (entries : List Entry) (first : State) (old new : List Checkpoint) : Type 0 where
  pub are : AreCheckpoints entries first new
  pub same : first_state new ≡ first_state old

pub taken-some : (entries : List Entry) (first : State) (n : ℕ) (checkpoints : List Checkpoint) → 0 < n → AreCheckpoints entries first checkpoints
    → SameFirst entries first checkpoints (take n checkpoints)
taken-some entries first zero checkpoints some are = absurd (omega (arith, some))
taken-some entries first (suc n) [] some are = absurd are
taken-some entries first (suc n) (next ∷ later) some are = record { are = (are.0, are.1, all-taken entries first n later are.2); same = refl }

joined : (entries : List Entry) (first : State) (a b : List Checkpoint) → AreCheckpoints entries first a → AllCheckpoints entries first b → SameFirst entries first a (a ++ b)
joined entries first [] b are more = absurd are
joined entries first (next ∷ a) b are more = record { are = (are.0, are.1, all-joined entries first a b are.2 more); same = refl }

pushed : (entries : List Entry) (first : State) (a : List Checkpoint) (last : Checkpoint) → AreCheckpoints entries first a → IsCheckpoint entries first last
    → SameFirst entries first a (a ++ last ∷ [])
pushed entries first a last are is = joined entries first a (last ∷ []) are (is, tt)

lost : (entries : List Entry) (first : State) (old new : List Checkpoint) → AreCheckpoints entries first old → LosesOne old new → SameFirst entries first old new
lost entries first old new are loses =
    let front = taken-some entries first loses.0 old loses.1 are in
    let both = joined entries first (take loses.0 old) (drop (suc loses.0) old) front.are
    (all-dropped entries first (suc loses.0) old (all-of entries first old are)) in
    subst (λ xs. SameFirst entries first old xs) (sym loses.3) (record { are = both.are; same = both.same ∙ front.same })

pub one-kept : (entries : List Entry) (first : State) (old new : List Checkpoint) (last : Checkpoint) → AreCheckpoints entries first old → IsCheckpoint entries first last
    → KeepsCheckpoint old new last → SameFirst entries first old new
one-kept entries first old new last are is (inl e) = subst (λ xs. SameFirst entries first old xs) (sym e) (record { are = are; same = refl })
one-kept entries first old new last are is (inr (inl e)) = subst (λ xs. SameFirst entries first old xs) (sym e) (pushed entries first old last are is)
one-kept entries first old new last are is (inr (inr left)) =
    let less = lost entries first old left.0 are left.1 in
    let more = pushed entries first left.0 last less.are is in
    subst (λ xs. SameFirst entries first old xs) (sym left.2) (record { are = more.are; same = more.same ∙ less.same })

-- ## Those before so many changes

counts-taken : (n : ℕ) (checkpoints : List Checkpoint) (k : ℕ) → k < n → slice_index (counts_of (take n checkpoints)) k ≡ slice_index (counts_of checkpoints) k
counts-taken zero checkpoints k below = absurd (omega (arith, below))
counts-taken (suc n) [] k below = refl
counts-taken (suc n) (next ∷ later) zero below = refl
counts-taken (suc n) (next ∷ later) (suc k) below = counts-taken n later k (omega (arith, below))

taken-length : (n : ℕ) (checkpoints : List Checkpoint) → length (take n checkpoints) ≤ n
taken-length zero checkpoints = omega arith
taken-length (suc n) [] = omega arith
taken-length (suc n) (next ∷ later) = let h = taken-length n later in omega arith

first-count : (entries : List Entry) (first : State) (checkpoints : List Checkpoint) → AreCheckpoints entries first checkpoints → slice_index (counts_of checkpoints) 0 ≡ 0
first-count entries first [] are = absurd are
first-count entries first (next ∷ later) are = are.0

at-or : (n : ℕ) (checkpoints : List Checkpoint) (count : ℕ) → slice_index (counts_of checkpoints) 0 ≡ 0
    → ((k : ℕ) → 0 < k → k < n → slice_index (counts_of checkpoints) k ≤ count) → (k : ℕ) → k < n → slice_index (counts_of (take n checkpoints)) k ≤ count
at-or n checkpoints count none few zero below = omega (arith, counts-taken n checkpoints zero below, none)
at-or n checkpoints count none few (suc k) below = omega (arith, counts-taken n checkpoints (suc k) below, few (suc k) (omega arith) below)

pub record Earlier (entries : List Entry) (first : State) (old new : List Checkpoint) (count : ℕ) : Type 0 where
  pub are : AreCheckpoints entries first new
  pub same : first_state new ≡ first_state old
  pub within : AreWithin count new

pub earlier-ones : (entries : List Entry) (first : State) (old new : List Checkpoint) (n count : ℕ) → AreCheckpoints entries first old → 0 < n → new ≡ take n old
    → ((k : ℕ) → 0 < k → k < n → slice_index (counts_of old) k ≤ count) → Earlier entries first old new count
earlier-ones entries first old new n count are some taken few =
    let front = taken-some entries first n old some are in
    let at : (k : ℕ) → k < length (take n old) → slice_index (counts_of (take n old)) k ≤ count = λ k below.
    let under : k < n = omega (arith, below, taken-length n old) in
    at-or n old count (first-count entries first old are) few k under in
    subst (λ xs. Earlier entries first old xs count) (sym taken) (record { are = front.are; same = front.same; within = within-from count (take n old) at })

last-one : (P : ℕ → Type 0) (n k d : ℕ) → d ≡ n - k → k < n + 1 → (k < n → P k) → P n → P k
last-one P n k zero e high less here = let same : n ≡ k = omega (arith, e, high) in subst P same here
last-one P n k (suc d) e high less here = less (omega (arith, e))

pub counts-next : (checkpoints : List Checkpoint) (n count : ℕ) → ((k : ℕ) → 0 < k → k < n → slice_index (counts_of checkpoints) k ≤ count)
    → slice_index (counts_of checkpoints) n ≤ count → (k : ℕ) → 0 < k → k < n + 1 → slice_index (counts_of checkpoints) k ≤ count
counts-next checkpoints n count few here k some below = last-one (λ i. slice_index (counts_of checkpoints) i ≤ count) n k (n - k) refl below (λ less. few k some less) here

pub kept-pushed : (old mid new : List Checkpoint) (last checkpoint : Checkpoint) → (mid ≡ old) ⊎ LosesOne old mid → new ≡ mid ++ last ∷ [] → last ≡ checkpoint
    → KeepsCheckpoint old new checkpoint
kept-pushed old mid new last checkpoint (inl same) push is = inr (inl (push ∙ ap (λ xs. xs ++ last ∷ []) same ∙ ap (λ x. old ++ x ∷ []) is))
kept-pushed old mid new last checkpoint (inr loses) push is = inr (inr (mid, loses, push ∙ ap (λ x. mid ++ x ∷ []) is))

-- a checkpoint as the code has it
pub viewed-place : (entries : List Entry) (first : State) (viewed checkpoint : Checkpoint) → viewed ≡ checkpoint → IsCheckpoint entries first checkpoint
    → IsPlace entries viewed.count viewed.entry viewed.steps
viewed-place entries first viewed checkpoint view is = subst (λ x. IsPlace entries x.count x.entry x.steps) (sym view) is.place.is_place
