-- Lists of entries, as the code changes and counts them.
use Rattle.std.proofs.Common.{◌≡◌, ◌==◌, ℕ, zero, suc, ◌+◌, ◌-◌, ◌<◌, ◌≤◌, Bool, true, false, if◌then◌else◌, List, [], ◌∷◌, ◌++◌, length, take, get_or, set, Some, refl, ap, sym, subst, ◌∙◌, arith}
use Rattle.std.proofs.lemmas.List.{length-append, take_more, take_all, set_at}
use Rattle.std.proofs.lemmas.Bool.{le-ltb, lt-ltb}
use Rattle.std.proofs.Math.Bool.{beq}
use Rattle.history8.specs.Changes.{Change, Step, Key, Deposit, Switches, Start}
use Rattle.history8.specs.History.{steps_before, step_count, changes_to_step}
use Rattle.history8.specs.Entries.{with_entry, changes_of, changes_to, HasMore, AreSome, IsPlace, IsAfterNoStep, IsFixedPlace, is_no_step, HasSteps}
use Rattle.history8.specs.EntrySteps.{KeepsPlaces, EndsInSteps}
use Rattle.history8.specs.declared.entries.Entry.{Entry}
use Rattle.history8.specs.declared.entries.Entry.TheVariants as kept
use Rattle.history8.proofs.EntryLemmas.{entries-push, entry-over, steps-length, steps-more}
use Rattle.history8.proofs.PlaceLemmas.{place-count, place-later, place-end, place-last, next-of, next-at, next-start, next-some, to-entry, to-start, take-next}
use Rattle.history8.proofs.KeptLemmas.{cut, cut_entry, cut-is, cut-some, keeps-push, keeps-longer, keeps-cut}

-- ## Entries that are added

some-push : (entries : List Entry) (last : Entry) → AreSome entries → HasMore last 0 → AreSome (entries ++ last ∷ [])
some-push [] last some more = (more, tt)
some-push (first ∷ later) last some more = (some.0, some-push later last some.1 more)

some-front : (front : List Entry) (last : Entry) → AreSome (front ++ last ∷ []) → AreSome front
some-front [] last some = tt
some-front (first ∷ front) last some = (some.0, some-front front last some.1)

-- what entries become as these changes are added
pub record Adds (old new : List Entry) (changes : List Change) : Type 0 where
  pub is : changes_of new ≡ changes
  pub some : AreSome new
  pub places : KeepsPlaces old new (length (changes_of old))

pub adds-entry : (old new : List Entry) (entry : Entry) → AreSome old → HasMore entry 0 → new ≡ old ++ entry ∷ []
    → Adds old new (with_entry entry (changes_of old))
adds-entry old new entry some more e =
    subst (λ xs. Adds old xs (with_entry entry (changes_of old))) (sym e)
    (record {
      is = entries-push old entry;
      some = some-push old entry some more;
      places = keeps-push old entry (length (changes_of old));
    })

adds-longer : (front : List Entry) (quick : Bool) (count steps : ℕ) → AreSome (front ++ kept.Steps quick count ∷ []) → 0 < steps
    → Adds (front ++ kept.Steps quick count ∷ []) (front ++ kept.Steps quick (count + steps) ∷ [])
    (steps_before quick steps (changes_of (front ++ kept.Steps quick count ∷ [])))
adds-longer front quick count steps some more =
    let e : count + steps ≡ steps + count = omega arith in
    record {
      is = entries-push front (kept.Steps quick (count + steps))
          ∙ ap (λ n. steps_before quick n (changes_of front)) e
          ∙ steps-more quick count steps (changes_of front)
          ∙ ap (λ xs. steps_before quick steps xs) (sym (entries-push front (kept.Steps quick count)));
      some = some-push front (kept.Steps quick (count + steps)) (some-front front (kept.Steps quick count) some) (omega (arith, more));
      places = keeps-longer front quick count steps (length (changes_of (front ++ kept.Steps quick count ∷ [])));
    }

pub adds-steps : (old : List Entry) (last : ℕ) (quick : Bool) (count steps : ℕ) (front : List Entry) → old ≡ front ++ kept.Steps quick count ∷ []
    → last ≡ length old - 1 → AreSome old → 0 < steps
    → Adds old (set old last (kept.Steps quick (count + steps))) (steps_before quick steps (changes_of old))
adds-steps old last quick count steps front whole at some more =
    let len : length front ≡ last = omega (arith, ap (λ xs. length xs) whole, length-append front (kept.Steps quick count ∷ []), at) in
    let new : set old last (kept.Steps quick (count + steps)) ≡ front ++ kept.Steps quick (count + steps) ∷ [] =
    ap (λ xs. set xs last (kept.Steps quick (count + steps))) whole ∙ set_at front (kept.Steps quick count) [] (kept.Steps quick (count + steps)) last len in
    subst (λ xs. Adds xs (set old last (kept.Steps quick (count + steps))) (steps_before quick steps (changes_of xs))) (sym whole)
    (subst (λ xs. Adds (front ++ kept.Steps quick count ∷ []) xs (steps_before quick steps (changes_of (front ++ kept.Steps quick count ∷ [])))) (sym new)
    (adds-longer front quick count steps (subst (λ xs. AreSome xs) whole some) more))

pub last-within : (old front : List Entry) (quick : Bool) (count : ℕ) → old ≡ front ++ kept.Steps quick count ∷ [] → count ≤ length (changes_of old)
last-within old front quick count whole =
    let e : changes_of old ≡ steps_before quick count (changes_of front) = ap (λ xs. changes_of xs) whole ∙ entries-push front (kept.Steps quick count) in
    omega (arith, ap (λ xs. length xs) e, steps-length quick count (changes_of front))

pub last-split : (entries : List Entry) (last : ℕ) (entry : Entry) → last + 1 ≡ length entries → entry ≡ get_or entries last entry
    → (front : List Entry) × (entries ≡ front ++ entry ∷ [])
last-split entries last entry len at = (
  take last entries,
  sym (take_all (last + 1) entries (omega (arith, len))) ∙ take_more entries last entry (omega (arith, len)) ∙ ap (λ x. take last entries ++ x ∷ []) (sym at),
)

-- an index of the last one
pub last-len : (n : ℕ) (b : Bool) → b ≡ (n == 0) → b ≡ false → n - 1 + 1 ≡ n
last-len zero b e fails = cc
last-len (suc n) b e fails = omega arith

same-quick : (a b : Bool) → beq a b ≡ true → a ≡ b
same-quick false false e = refl
same-quick false true e = cc
same-quick true false e = cc
same-quick true true e = refl

pub ends-in : (entries : List Entry) (last : ℕ) (entry : Entry) (is_quick quick : Bool) (count : ℕ) → last + 1 ≡ length entries
    → entry ≡ get_or entries last entry → entry ≡ kept.Steps is_quick count → beq is_quick quick ≡ true → EndsInSteps entries quick (Some count)
ends-in entries last entry is_quick quick count len at is same =
    let split = last-split entries last entry len at in
    (split.0, split.1 ∙ ap (λ x. split.0 ++ x ∷ []) (is ∙ ap (λ q. kept.Steps q count) (same-quick is_quick quick same)))

-- ## The end of entries

some-at : (entries : List Entry) (n : ℕ) (entry : Entry) → AreSome entries → n < length entries → entry ≡ get_or entries n entry → HasMore entry 0
some-at [] n entry some within at = absurd (omega (arith, within))
some-at (first ∷ later) zero entry some within at = subst (λ x. HasMore x 0) (sym at) some.0
some-at (first ∷ later) (suc n) entry some within at = some-at later n entry some.1 (omega (arith, within)) at

after-at : (entries : List Entry) (n : ℕ) (entry : Entry) → n < length entries → entry ≡ get_or entries n entry → is_no_step entry ≡ true
    → IsAfterNoStep entries (suc n)
after-at [] n entry within at no_step = tt
after-at (first ∷ later) zero entry within at no_step = ap (λ x. is_no_step x) (sym at) ∙ no_step
after-at (first ∷ later) (suc n) entry within at no_step = after-at later n entry (omega (arith, within)) at no_step

pub no-step-of : (entry : Entry) → ((quick : Bool) (count : ℕ) → entry ≡ kept.Steps quick count → ⊥) → is_no_step entry ≡ true
no-step-of (kept.Steps quick count) not_steps = absurd (not_steps quick count refl)
no-step-of (kept.Key character) not_steps = refl
no-step-of (kept.Deposit cell word) not_steps = refl
no-step-of (kept.Switches word) not_steps = refl
no-step-of (kept.Start cell) not_steps = refl

pub end-steps : (entries : List Entry) (count last : ℕ) (quick : Bool) (all : ℕ) (entry : Entry) → count ≡ length (changes_of entries) → AreSome entries
    → last + 1 ≡ length entries → entry ≡ get_or entries last entry → entry ≡ kept.Steps quick all → IsFixedPlace entries count last all
end-steps entries count last quick all entry e some len at is =
    let steps_at : kept.Steps quick all ≡ get_or entries last (kept.Steps quick all) = subst (λ x. x ≡ get_or entries last x) is at in
    let more : 0 < all = some-at entries last (kept.Steps quick all) some (omega (arith, len)) steps_at in
    record {
      is_place = place-last entries count last quick all e len steps_at;
      is_fixed = λ none. absurd (omega (arith, none, more));
    }

pub end-other : (entries : List Entry) (count last : ℕ) (entry : Entry) → count ≡ length (changes_of entries)
    → last + 1 ≡ length entries → entry ≡ get_or entries last entry → is_no_step entry ≡ true → IsFixedPlace entries count (last + 1) 0
end-other entries count last entry e len at no_step =
    let next : suc last ≡ last + 1 = omega arith in
    record {
      is_place = subst (λ n. IsPlace entries count n 0) (sym len) (place-end entries count e);
      is_fixed = λ none. subst (λ n. IsAfterNoStep entries n) next (after-at entries last entry (omega (arith, len)) at no_step);
    }

-- ## Entries that are cut

cut_entry-zero : (first : Entry) → cut_entry first 0 ≡ []
cut_entry-zero (kept.Steps quick count) = refl
cut_entry-zero (kept.Key character) = refl
cut_entry-zero (kept.Deposit cell word) = refl
cut_entry-zero (kept.Switches word) = refl
cut_entry-zero (kept.Start cell) = refl

cut-zero : (entries : List Entry) (n : ℕ) → take n entries ≡ cut entries n 0
cut-zero [] zero = refl
cut-zero [] (suc n) = refl
cut-zero (first ∷ later) zero = sym (cut_entry-zero first)
cut-zero (first ∷ later) (suc n) = ap (λ xs. first ∷ xs) (cut-zero later n)

cut-part : (entries : List Entry) (n : ℕ) (quick : Bool) (all k : ℕ) → n < length entries → kept.Steps quick all ≡ get_or entries n (kept.Steps quick all)
    → take (suc n) (set entries n (kept.Steps quick (suc k))) ≡ cut entries n (suc k)
cut-part [] n quick all k within at = absurd (omega (arith, within))
cut-part (first ∷ later) zero quick all k within at = ap (λ x. cut_entry x (suc k)) at
cut-part (first ∷ later) (suc n) quick all k within at = ap (λ xs. first ∷ xs) (cut-part later n quick all k (omega (arith, within)) at)

pub record Cuts (old new : List Entry) (n k count : ℕ) : Type 0 where
  pub changes : changes_of new ≡ changes_to old n k
  pub some : AreSome new
  pub places : KeepsPlaces old new count

cuts : (old new : List Entry) (n k count : ℕ) → IsPlace old count n k → AreSome old → new ≡ cut old n k → Cuts old new n k count
cuts old new n k count place some e =
    subst (λ xs. Cuts old xs n k count) (sym e)
    (record {
      changes = cut-is old n k [] place.within;
      some = cut-some old n k place.within some;
      places = keeps-cut old n k count place.within (place-count old count n k place);
    })

pub cuts-whole : (old : List Entry) (n k count : ℕ) → IsPlace old count n k → AreSome old → k ≡ 0 → Cuts old (take n old) n k count
cuts-whole old n k count place some none = cuts old (take n old) n k count place some (cut-zero old n ∙ ap (λ j. cut old n j) (sym none))

pub cuts-part : (old : List Entry) (n k count : ℕ) (entry : Entry) (quick : Bool) (all : ℕ) → IsPlace old count n k → AreSome old → 0 < k
    → entry ≡ get_or old n entry → entry ≡ kept.Steps quick all → Cuts old (take (n + 1) (set old n (kept.Steps quick k))) n k count
cuts-part old n zero count entry quick all place some more at is = absurd (omega (arith, more))
cuts-part old n (suc k) count entry quick all place some more at is =
    let e : n + 1 ≡ suc n = omega arith in
    cuts old (take (n + 1) (set old n (kept.Steps quick (suc k)))) n (suc k) count place some
    (ap (λ m. take m (set old n (kept.Steps quick (suc k)))) e
    ∙ cut-part old n quick all k (next-some old n (suc k) place.within more) (subst (λ x. x ≡ get_or old n x) is at))

has-steps : (entry : Entry) (k : ℕ) → HasSteps entry k → 0 < k → ((quick : Bool) (all : ℕ) → entry ≡ kept.Steps quick all → ⊥) → ⊥
has-steps (kept.Steps quick count) k has more not_steps = not_steps quick count refl
has-steps (kept.Key character) k has more not_steps = absurd (omega (arith, has, more))
has-steps (kept.Deposit cell word) k has more not_steps = absurd (omega (arith, has, more))
has-steps (kept.Switches word) k has more not_steps = absurd (omega (arith, has, more))
has-steps (kept.Start cell) k has more not_steps = absurd (omega (arith, has, more))

-- a place in an entry is one in steps
pub part-steps : (old : List Entry) (n k count : ℕ) (entry : Entry) → IsPlace old count n k → 0 < k → entry ≡ get_or old n entry
    → ((quick : Bool) (all : ℕ) → entry ≡ kept.Steps quick all → ⊥) → ⊥
part-steps old n k count entry place more at not_steps =
    has-steps entry k (next-at old n entry k (next-some old n k place.within more) at place.within) more not_steps

-- ## Numbers of steps and changes

step_count-steps : (quick : Bool) (k : ℕ) (changes : List Change) → step_count (steps_before quick k changes) ≡ step_count changes + k
step_count-steps quick zero changes = omega arith
step_count-steps quick (suc k) changes = let h = step_count-steps quick k changes in omega arith

pub steps-counted : (quick : Bool) (count : ℕ) (entry : Entry) → entry ≡ kept.Steps quick count → count ≡ step_count (with_entry entry [])
steps-counted quick count entry is = omega (arith, ap (λ e. step_count (with_entry e [])) is, step_count-steps quick count [])

pub changes-counted : (quick : Bool) (count : ℕ) (entry : Entry) → entry ≡ kept.Steps quick count → count ≡ length (with_entry entry [])
changes-counted quick count entry is = omega (arith, ap (λ e. length (with_entry e [])) is, steps-length quick count [])

step_count-entry : (entry : Entry) (changes : List Change) → step_count (with_entry entry changes) ≡ step_count changes + step_count (with_entry entry [])
step_count-entry (kept.Steps quick count) changes = omega (arith, step_count-steps quick count changes, step_count-steps quick count [])
step_count-entry (kept.Key character) changes = omega arith
step_count-entry (kept.Deposit cell word) changes = omega arith
step_count-entry (kept.Switches word) changes = omega arith
step_count-entry (kept.Start cell) changes = omega arith

steps-within : (changes : List Change) → step_count changes ≤ length changes
steps-within [] = omega arith
steps-within (Step quick ∷ earlier) = let h = steps-within earlier in omega arith
steps-within (Key character ∷ earlier) = let h = steps-within earlier in omega arith
steps-within (Deposit cell word ∷ earlier) = let h = steps-within earlier in omega arith
steps-within (Switches word ∷ earlier) = let h = steps-within earlier in omega arith
steps-within (Start cell ∷ earlier) = let h = steps-within earlier in omega arith

-- the entries before the next one, and with it
pub record CountsNext (entries : List Entry) (n : ℕ) (entry : Entry) : Type 0 where
  pub steps : step_count (changes_of (take (n + 1) entries)) ≡ step_count (changes_of (take n entries)) + step_count (with_entry entry [])
  pub changes : length (changes_of (take (n + 1) entries)) ≡ length (changes_of (take n entries)) + length (with_entry entry [])
  pub steps_within : step_count (changes_of (take (n + 1) entries)) ≤ length (changes_of entries)
  pub changes_within : length (changes_of (take (n + 1) entries)) ≤ length (changes_of entries)
  pub entry_within : step_count (with_entry entry []) ≤ length (with_entry entry [])

front-within : (entries : List Entry) (n : ℕ) → n ≤ length entries → length (changes_of (take n entries)) ≤ length (changes_of entries)
front-within entries n within =
    let later = place-later entries n 0 [] (next-start entries n within) in
    omega (arith, ap (λ xs. length xs) later.1, length-append later.0 (changes_to entries n 0), ap (λ xs. length xs) (to-start entries n []))

pub counts-next : (entries : List Entry) (n : ℕ) (entry : Entry) → n < length entries → entry ≡ get_or entries n entry → CountsNext entries n entry
counts-next entries n entry within at =
    let next = take-next entries n entry [] within at in
    let before = changes_of (take n entries) in
    let front = front-within entries (n + 1) (omega (arith, within)) in
    record {
      steps = ap (λ xs. step_count xs) next ∙ step_count-entry entry before;
      changes = omega (arith, ap (λ xs. length xs) next, ap (λ xs. length xs) (entry-over entry before), length-append (with_entry entry []) before);
      steps_within = omega (arith, front, steps-within (changes_of (take (n + 1) entries)));
      changes_within = front;
      entry_within = steps-within (with_entry entry []);
    }

-- ## The way back to a step

step_count-append : (more changes : List Change) → step_count changes ≤ step_count (more ++ changes)
step_count-append [] changes = omega arith
step_count-append (Step quick ∷ more) changes = let h = step_count-append more changes in omega arith
step_count-append (Key character ∷ more) changes = step_count-append more changes
step_count-append (Deposit cell word ∷ more) changes = step_count-append more changes
step_count-append (Switches word ∷ more) changes = step_count-append more changes
step_count-append (Start cell ∷ more) changes = step_count-append more changes

to-step-all : (n : ℕ) (changes : List Change) → step_count changes ≤ n → changes_to_step n changes ≡ changes
to-step-all n [] few = refl
to-step-all n (last ∷ earlier) few =
    ap (λ b. let xs : List Change = if b then changes_to_step n earlier else last ∷ earlier in xs) (le-ltb n (step_count (last ∷ earlier)) few)

to-step-more : (n : ℕ) (last : Change) (earlier : List Change) → n < step_count (last ∷ earlier) → changes_to_step n (last ∷ earlier) ≡ changes_to_step n earlier
to-step-more n last earlier many =
    ap (λ b. let xs : List Change = if b then changes_to_step n earlier else last ∷ earlier in xs) (lt-ltb n (step_count (last ∷ earlier)) many)

to-step-cut : (n : ℕ) (more : List Change) (quick : Bool) (changes : List Change) → step_count changes ≡ n
    → changes_to_step n (more ++ Step quick ∷ changes) ≡ changes
to-step-cut n [] quick changes e = to-step-more n (Step quick) changes (omega (arith, e)) ∙ to-step-all n changes (omega (arith, e))
to-step-cut n (last ∷ more) quick changes e =
    to-step-more n last (more ++ Step quick ∷ changes) (omega (arith, e, step_count-append (last ∷ more) (Step quick ∷ changes)))
    ∙ to-step-cut n more quick changes e

pub to-step-end : (n : ℕ) (entries : List Entry) → step_count (changes_of entries) ≤ n → length (changes_of entries) ≡ length (changes_to_step n (changes_of entries))
to-step-end n entries few = ap (λ xs. length xs) (sym (to-step-all n (changes_of entries) few))

to-step-steps : (entries : List Entry) (n steps : ℕ) (quick : Bool) (all d : ℕ) → n < length entries
    → kept.Steps quick all ≡ get_or entries n (kept.Steps quick all) → d < all → step_count (changes_of (take n entries)) + d ≡ steps
    → length (changes_of (take n entries)) + d ≡ length (changes_to_step steps (changes_of entries))
to-step-steps entries n steps quick all d within at less e =
    let entry = kept.Steps quick all in
    let before = changes_of (take n entries) in
    let later = place-later entries n (suc d) [] (next-of entries n entry (suc d) within at (omega (arith, less))) in
    let whole : changes_of entries ≡ later.0 ++ Step quick ∷ steps_before quick d before =
    later.1 ∙ ap (λ xs. later.0 ++ xs) (to-entry entries n entry (suc d) [] within at) in
    let to : changes_to_step steps (changes_of entries) ≡ steps_before quick d before =
    ap (λ xs. changes_to_step steps xs) whole ∙ to-step-cut steps later.0 quick (steps_before quick d before) (step_count-steps quick d before ∙ e) in
    omega (arith, ap (λ xs. length xs) to, steps-length quick d before)

pub to-step-in : (entries : List Entry) (n before steps : ℕ) (entry : Entry) → n < length entries → entry ≡ get_or entries n entry
    → before ≡ step_count (changes_of (take n entries)) → before ≤ steps → steps - before < step_count (with_entry entry [])
    → length (changes_of (take n entries)) + (steps - before) ≡ length (changes_to_step steps (changes_of entries))
to-step-in entries n before steps (kept.Steps quick count) within at e few less =
    to-step-steps entries n steps quick count (steps - before) within at (omega (arith, less, step_count-steps quick count [])) (omega (arith, e, few))
to-step-in entries n before steps (kept.Key character) within at e few less = absurd (omega (arith, less))
to-step-in entries n before steps (kept.Deposit cell word) within at e few less = absurd (omega (arith, less))
to-step-in entries n before steps (kept.Switches word) within at e few less = absurd (omega (arith, less))
to-step-in entries n before steps (kept.Start cell) within at e few less = absurd (omega (arith, less))

pub over-items : (now items : List Entry) (quick : Bool) (count : ℕ) → now ≡ items → EndsInSteps now quick (Some count) → EndsInSteps items quick (Some count)
over-items now items quick count e ends = subst (λ xs. EndsInSteps xs quick (Some count)) e ends

pub more-no-step : (entry : Entry) → is_no_step entry ≡ true → HasMore entry 0
more-no-step (kept.Steps quick count) no_step = cc
more-no-step (kept.Key character) no_step = refl
more-no-step (kept.Deposit cell word) no_step = refl
more-no-step (kept.Switches word) no_step = refl
more-no-step (kept.Start cell) no_step = refl
