-- Places of a history.
use Rattle.std.proofs.Common.{◌≡◌, ℕ, zero, suc, ◌+◌, ◌<◌, ◌≤◌, Bool, true, List, [], ◌∷◌, ◌++◌, length, take, get_or, refl, ap, sym, subst, ◌∙◌, append_assoc, arith}
use Rattle.std.proofs.lemmas.List.{length-append, take_more, take_all}
use Rattle.history8.specs.Changes.{Change}
use Rattle.history8.specs.History.{steps_before}
use Rattle.history8.specs.Entries.{with_entry, with_entries, with_entries_to, changes_of, changes_to, oldest, with_part, HasSteps, HasMore, AreSome, NextHasSteps, IsPlace, is_no_step}
use Rattle.history8.specs.EntrySteps.{NextHasMore}
use Rattle.history8.specs.declared.entries.Entry.{Entry}
use Rattle.history8.specs.declared.entries.Entry.TheVariants as kept
use Rattle.history8.proofs.EntryLemmas.{entries-over, entries-append, steps-more, steps-length, oldest-at, oldest-length, part-later, part-none, no-steps}

-- ## A place and its changes

pub place-later : (entries : List Entry) (entry steps : ℕ) (changes : List Change) → NextHasSteps entries entry steps
    → (more : List Change) × (with_entries entries changes ≡ more ++ with_entries_to entries entry steps changes)
place-later [] entry steps changes next = ([], refl)
place-later (first ∷ later) zero steps changes next =
    let part = part-later first steps changes next in (
      with_entries later [] ++ part.0,
      entries-over later (with_entry first changes) ∙ ap (λ xs. with_entries later [] ++ xs) part.1
          ∙ sym (append_assoc (with_entries later []) part.0 (with_part first steps changes)),
    )
place-later (first ∷ later) (suc entry) steps changes next = place-later later entry steps (with_entry first changes) next

pub place-is : (entries : List Entry) (count entry steps : ℕ) → NextHasSteps entries entry steps
    → count ≡ length (changes_to entries entry steps) → IsPlace entries count entry steps
place-is entries count entry steps next e =
    let later = place-later entries entry steps [] next in
    let len : length (changes_of entries) ≡ length later.0 + length (changes_to entries entry steps) =
    ap (λ xs. length xs) later.1 ∙ length-append later.0 (changes_to entries entry steps) in
    record {
      within = next;
      count_within = omega (arith, e, len);
      changes = sym (oldest-at later.0 (changes_to entries entry steps) (changes_of entries) count later.1 e);
    }

pub place-count : (entries : List Entry) (count entry steps : ℕ) → IsPlace entries count entry steps → count ≡ length (changes_to entries entry steps)
place-count entries count entry steps place =
    sym (oldest-length count (changes_of entries) place.count_within) ∙ ap (λ xs. length xs) (sym place.changes)

-- ## The next entry of a place

pub to-entry : (entries : List Entry) (n : ℕ) (entry : Entry) (k : ℕ) (changes : List Change) → n < length entries → entry ≡ get_or entries n entry
    → with_entries_to entries n k changes ≡ with_part entry k (with_entries (take n entries) changes)
to-entry [] n entry k changes within at = absurd (omega (arith, within))
to-entry (first ∷ later) zero entry k changes within at = ap (λ x. with_part x k changes) (sym at)
to-entry (first ∷ later) (suc n) entry k changes within at = to-entry later n entry k (with_entry first changes) (omega (arith, within)) at

pub to-start : (entries : List Entry) (n : ℕ) (changes : List Change) → with_entries_to entries n 0 changes ≡ with_entries (take n entries) changes
to-start [] zero changes = refl
to-start [] (suc n) changes = refl
to-start (first ∷ later) zero changes = part-none first changes
to-start (first ∷ later) (suc n) changes = to-start later n (with_entry first changes)

pub take-next : (entries : List Entry) (n : ℕ) (entry : Entry) (changes : List Change) → n < length entries → entry ≡ get_or entries n entry
    → with_entries (take (n + 1) entries) changes ≡ with_entry entry (with_entries (take n entries) changes)
take-next entries n entry changes within at =
    ap (λ xs. with_entries xs changes) (take_more entries n entry within)
    ∙ ap (λ x. with_entries (take n entries ++ x ∷ []) changes) (sym at)
    ∙ entries-append (take n entries) (entry ∷ []) changes

pub next-at : (entries : List Entry) (n : ℕ) (entry : Entry) (k : ℕ) → n < length entries → entry ≡ get_or entries n entry
    → NextHasSteps entries n k → HasSteps entry k
next-at [] n entry k within at next = absurd (omega (arith, within))
next-at (first ∷ later) zero entry k within at next = subst (λ x. HasSteps x k) (sym at) next
next-at (first ∷ later) (suc n) entry k within at next = next-at later n entry k (omega (arith, within)) at next

pub next-of : (entries : List Entry) (n : ℕ) (entry : Entry) (k : ℕ) → n < length entries → entry ≡ get_or entries n entry
    → HasSteps entry k → NextHasSteps entries n k
next-of [] n entry k within at has = absurd (omega (arith, within))
next-of (first ∷ later) zero entry k within at has = subst (λ x. HasSteps x k) at has
next-of (first ∷ later) (suc n) entry k within at has = next-of later n entry k (omega (arith, within)) at has

pub next-start : (entries : List Entry) (n : ℕ) → n ≤ length entries → NextHasSteps entries n 0
next-start [] n within = (omega (arith, within), refl)
next-start (first ∷ later) zero within = no-steps first
next-start (first ∷ later) (suc n) within = next-start later n (omega (arith, within))

pub next-within : (entries : List Entry) (n k : ℕ) → NextHasSteps entries n k → n ≤ length entries
next-within [] n k next = omega (arith, next.0)
next-within (first ∷ later) zero k next = omega arith
next-within (first ∷ later) (suc n) k next = let h = next-within later n k next in omega arith

pub next-some : (entries : List Entry) (n k : ℕ) → NextHasSteps entries n k → 0 < k → n < length entries
next-some [] n k next some = absurd (omega (arith, next.1, some))
next-some (first ∷ later) zero k next some = omega arith
next-some (first ∷ later) (suc n) k next some = let h = next-some later n k next some in omega arith

next-more : (entries : List Entry) (n k : ℕ) (changes : List Change) → NextHasSteps entries n k
    → length (with_entries_to entries n k changes) < length (with_entries entries changes) → n < length entries
next-more [] n k changes next less = absurd (omega (arith, less))
next-more (first ∷ later) zero k changes next less = omega arith
next-more (first ∷ later) (suc n) k changes next less = let h = next-more later n k (with_entry first changes) next less in omega arith

pub place-within : (entries : List Entry) (count entry steps : ℕ) → IsPlace entries count entry steps → count < length (changes_of entries)
    → entry < length entries
place-within entries count entry steps place less =
    next-more entries entry steps [] place.within (omega (arith, less, place-count entries count entry steps place))

-- ## Further places

pub place-steps : (entries : List Entry) (count n k : ℕ) (quick : Bool) (all s : ℕ) → IsPlace entries count n k → n < length entries
    → kept.Steps quick all ≡ get_or entries n (kept.Steps quick all) → k + s ≤ all
    → IsPlace entries (count + s) n (k + s) × (oldest (count + s) (changes_of entries) ≡ steps_before quick s (oldest count (changes_of entries)))
place-steps entries count n k quick all s place within at room =
    let entry = kept.Steps quick all in
    let before = with_entries (take n entries) [] in
    let e : k + s ≡ s + k = omega arith in
    let more : changes_to entries n (k + s) ≡ steps_before quick s (changes_to entries n k) =
    to-entry entries n entry (k + s) [] within at ∙ ap (λ j. steps_before quick j before) e ∙ steps-more quick k s before
    ∙ ap (λ xs. steps_before quick s xs) (sym (to-entry entries n entry k [] within at)) in
    let len : count + s ≡ length (changes_to entries n (k + s)) =
    omega (arith, place-count entries count n k place, steps-length quick s (changes_to entries n k), ap (λ xs. length xs) more) in
    let new : IsPlace entries (count + s) n (k + s) = place-is entries (count + s) n (k + s) (next-of entries n entry (k + s) within at room) len in (
      new,
      sym new.changes ∙ more ∙ ap (λ xs. steps_before quick s xs) place.changes,
    )

entry-one : (entry : Entry) (k : ℕ) (before : List Change) → is_no_step entry ≡ true → HasSteps entry k
    → (with_part entry k before ≡ before) × (length (with_entry entry before) ≡ length before + 1)
entry-one (kept.Steps quick count) k before no_step has = cc
entry-one (kept.Key character) k before no_step has = (refl, omega arith)
entry-one (kept.Deposit cell word) k before no_step has = (refl, omega arith)
entry-one (kept.Switches word) k before no_step has = (refl, omega arith)
entry-one (kept.Start cell) k before no_step has = (refl, omega arith)

pub place-entry : (entries : List Entry) (count n k : ℕ) (entry : Entry) → IsPlace entries count n k → n < length entries
    → entry ≡ get_or entries n entry → is_no_step entry ≡ true
    → IsPlace entries (count + 1) (n + 1) 0 × (oldest (count + 1) (changes_of entries) ≡ with_entry entry (oldest count (changes_of entries)))
place-entry entries count n k entry place within at no_step =
    let before = with_entries (take n entries) [] in
    let one = entry-one entry k before no_step (next-at entries n entry k within at place.within) in
    let here : changes_to entries n k ≡ before = to-entry entries n entry k [] within at ∙ one.0 in
    let more : changes_to entries (n + 1) 0 ≡ with_entry entry before = to-start entries (n + 1) [] ∙ take-next entries n entry [] within at in
    let len : count + 1 ≡ length (changes_to entries (n + 1) 0) =
    omega (arith, place-count entries count n k place, ap (λ xs. length xs) here, ap (λ xs. length xs) more, one.1) in
    let new : IsPlace entries (count + 1) (n + 1) 0 =
    place-is entries (count + 1) (n + 1) 0 (next-start entries (n + 1) (omega (arith, within))) len in (
      new,
      sym new.changes ∙ more ∙ ap (λ xs. with_entry entry xs) (sym here ∙ place.changes),
    )

-- after a whole entry of steps
pub place-whole : (entries : List Entry) (count n : ℕ) (quick : Bool) (all k : ℕ) → IsPlace entries count n k → n < length entries
    → kept.Steps quick all ≡ get_or entries n (kept.Steps quick all) → all ≡ k → IsPlace entries count (n + 1) 0
place-whole entries count n quick all k place within at whole =
    let entry = kept.Steps quick all in
    let before = with_entries (take n entries) [] in
    let same : changes_to entries (n + 1) 0 ≡ changes_to entries n k =
    to-start entries (n + 1) [] ∙ take-next entries n entry [] within at ∙ ap (λ j. steps_before quick j before) whole
    ∙ sym (to-entry entries n entry k [] within at) in
    place-is entries count (n + 1) 0 (next-start entries (n + 1) (omega (arith, within))) (place-count entries count n k place ∙ ap (λ xs. length xs) (sym same))

pub more-start : (entries : List Entry) (n : ℕ) → AreSome entries → n < length entries → NextHasMore entries n 0
more-start [] n some within = absurd (omega (arith, within))
more-start (first ∷ later) zero some within = some.0
more-start (first ∷ later) (suc n) some within = more-start later n some.1 (omega (arith, within))

pub more-of : (entries : List Entry) (n : ℕ) (entry : Entry) (k : ℕ) → n < length entries → entry ≡ get_or entries n entry
    → HasMore entry k → NextHasMore entries n k
more-of [] n entry k within at more = absurd (omega (arith, within))
more-of (first ∷ later) zero entry k within at more = subst (λ x. HasMore x k) at more
more-of (first ∷ later) (suc n) entry k within at more = more-of later n entry k (omega (arith, within)) at more

pub more-at : (entries : List Entry) (n : ℕ) (entry : Entry) (k : ℕ) → n < length entries → entry ≡ get_or entries n entry
    → NextHasMore entries n k → HasMore entry k
more-at [] n entry k within at more = absurd (omega (arith, within))
more-at (first ∷ later) zero entry k within at more = subst (λ x. HasMore x k) (sym at) more
more-at (first ∷ later) (suc n) entry k within at more = more-at later n entry k (omega (arith, within)) at more

-- ## The last place

pub place-end : (entries : List Entry) (count : ℕ) → count ≡ length (changes_of entries) → IsPlace entries count (length entries) 0
place-end entries count e =
    let all : changes_to entries (length entries) 0 ≡ changes_of entries =
    to-start entries (length entries) [] ∙ ap (λ xs. with_entries xs []) (take_all (length entries) entries (omega arith)) in
    place-is entries count (length entries) 0 (next-start entries (length entries) (omega arith)) (e ∙ ap (λ xs. length xs) (sym all))

pub place-last : (entries : List Entry) (count n : ℕ) (quick : Bool) (all : ℕ) → count ≡ length (changes_of entries) → n + 1 ≡ length entries
    → kept.Steps quick all ≡ get_or entries n (kept.Steps quick all) → IsPlace entries count n all
place-last entries count n quick all e last at =
    let entry = kept.Steps quick all in
    let within : n < length entries = omega (arith, last) in
    let same : changes_to entries n all ≡ changes_of entries =
    to-entry entries n entry all [] within at ∙ sym (take-next entries n entry [] within at)
    ∙ ap (λ xs. with_entries xs []) (take_all (n + 1) entries (omega (arith, last))) in
    place-is entries count n all (next-of entries n entry all within at (omega arith)) (e ∙ ap (λ xs. length xs) (sym same))

-- as the code gives them
pub whole-place : (entries : List Entry) (count n k to entry steps : ℕ) (next : Entry) (quick : Bool) (all : ℕ) → IsPlace entries count n k → n < length entries
    → next ≡ get_or entries n next → next ≡ kept.Steps quick all → all ≡ k → to ≡ count → entry ≡ n + 1 → steps ≡ 0 → IsPlace entries to entry steps
whole-place entries count n k to entry steps next quick all place within at is whole e-to e-entry e-steps =
    subst (λ t. IsPlace entries t entry steps) (sym e-to) (subst (λ i. IsPlace entries count i steps) (sym e-entry)
    (subst (λ j. IsPlace entries count (n + 1) j) (sym e-steps)
    (place-whole entries count n quick all k place within (subst (λ x. x ≡ get_or entries n x) is at) whole)))

pub start-more : (entries : List Entry) (n k : ℕ) → AreSome entries → n < length entries → k ≡ 0 → NextHasMore entries n k
start-more entries n k some within none = subst (λ j. NextHasMore entries n j) (sym none) (more-start entries n some within)

pub steps-left : (entries : List Entry) (n k : ℕ) (next : Entry) (quick : Bool) (all : ℕ) → n < length entries → next ≡ get_or entries n next → next ≡ kept.Steps quick all
    → NextHasMore entries n k → k < all
steps-left entries n k next quick all within at is more = more-at entries n (kept.Steps quick all) k within (subst (λ x. x ≡ get_or entries n x) is at) more

pub steps-more-left : (entries : List Entry) (n k : ℕ) (next : Entry) (quick : Bool) (all : ℕ) → n < length entries → next ≡ get_or entries n next → next ≡ kept.Steps quick all
    → NextHasSteps entries n k → (all ≡ k → ⊥) → NextHasMore entries n k
steps-more-left entries n k next quick all within at is has differ =
    let at-steps : kept.Steps quick all ≡ get_or entries n (kept.Steps quick all) = subst (λ x. x ≡ get_or entries n x) is at in
    let few : k ≤ all = next-at entries n (kept.Steps quick all) k within at-steps has in
    more-of entries n (kept.Steps quick all) k within at-steps (omega (arith, few, differ))

has-more-other : (entry : Entry) (k : ℕ) → is_no_step entry ≡ true → HasSteps entry k → HasMore entry k
has-more-other (kept.Steps quick count) k no_step has = cc
has-more-other (kept.Key character) k no_step has = has
has-more-other (kept.Deposit cell word) k no_step has = has
has-more-other (kept.Switches word) k no_step has = has
has-more-other (kept.Start cell) k no_step has = has

pub other-more : (entries : List Entry) (n k : ℕ) (next : Entry) → n < length entries → next ≡ get_or entries n next → is_no_step next ≡ true
    → NextHasSteps entries n k → NextHasMore entries n k
other-more entries n k next within at no_step has = more-of entries n next k within at (has-more-other next k no_step (next-at entries n next k within at has))

part-few : (entry : Entry) (k : ℕ) (changes : List Change) → HasSteps entry k → k ≤ length (with_part entry k changes)
part-few (kept.Steps quick count) k changes has = omega (arith, steps-length quick k changes)
part-few (kept.Key character) k changes has = omega (arith, has)
part-few (kept.Deposit cell word) k changes has = omega (arith, has)
part-few (kept.Switches word) k changes has = omega (arith, has)
part-few (kept.Start cell) k changes has = omega (arith, has)

-- so many changes are before it at least
steps-few : (entries : List Entry) (n k : ℕ) (changes : List Change) → NextHasSteps entries n k → k ≤ length (with_entries_to entries n k changes)
steps-few [] n k changes next = omega (arith, next.1)
steps-few (first ∷ later) zero k changes next = part-few first k changes next
steps-few (first ∷ later) (suc n) k changes next = steps-few later n k (with_entry first changes) next

pub place-few : (entries : List Entry) (count n k : ℕ) → IsPlace entries count n k → k ≤ count
place-few entries count n k place = omega (arith, place-count entries count n k place, steps-few entries n k [] place.within)
