-- Changes as entries.
use Rattle.std.proofs.Common.{◌≡◌, ℕ, zero, suc, ◌+◌, ◌-◌, ◌≤◌, Bool, List, [], ◌∷◌, ◌++◌, length, drop, refl, ap, sym, ◌∙◌, append_assoc, arith}
use Rattle.std.proofs.lemmas.List.{length-append, length-drop, drop_at}
use Rattle.history8.specs.Changes.{Change, Step, Key, Deposit, Switches, Start}
use Rattle.history8.specs.History.{steps_before}
use Rattle.history8.specs.Entries.{with_entry, with_entries, changes_of, oldest, with_part, HasSteps}
use Rattle.history8.specs.declared.entries.Entry.{Entry}
use Rattle.history8.specs.declared.entries.Entry.TheVariants as kept

pub steps-over : (quick : Bool) (k : ℕ) (changes : List Change) → steps_before quick k changes ≡ steps_before quick k [] ++ changes
steps-over quick zero changes = refl
steps-over quick (suc k) changes = ap (λ xs. Step quick ∷ xs) (steps-over quick k changes)

pub steps-length : (quick : Bool) (k : ℕ) (changes : List Change) → length (steps_before quick k changes) ≡ k + length changes
steps-length quick zero changes = omega arith
steps-length quick (suc k) changes = let h = steps-length quick k changes in omega arith

pub steps-more : (quick : Bool) (a b : ℕ) (changes : List Change) → steps_before quick (b + a) changes ≡ steps_before quick b (steps_before quick a changes)
steps-more quick a zero changes = let e : zero + a ≡ a = omega arith in ap (λ n. steps_before quick n changes) e
steps-more quick a (suc b) changes =
    let e : suc b + a ≡ suc (b + a) = omega arith in
    ap (λ n. steps_before quick n changes) e ∙ ap (λ xs. Step quick ∷ xs) (steps-more quick a b changes)

pub entry-over : (entry : Entry) (changes : List Change) → with_entry entry changes ≡ with_entry entry [] ++ changes
entry-over (kept.Steps quick count) changes = steps-over quick count changes
entry-over (kept.Key character) changes = refl
entry-over (kept.Deposit cell word) changes = refl
entry-over (kept.Switches word) changes = refl
entry-over (kept.Start cell) changes = refl

pub entries-over : (entries : List Entry) (changes : List Change) → with_entries entries changes ≡ with_entries entries [] ++ changes
entries-over [] changes = refl
entries-over (entry ∷ later) changes =
    entries-over later (with_entry entry changes)
    ∙ ap (λ xs. with_entries later [] ++ xs) (entry-over entry changes)
    ∙ sym (append_assoc (with_entries later []) (with_entry entry []) changes)
    ∙ ap (λ xs. xs ++ changes) (sym (entries-over later (with_entry entry [])))

pub entries-append : (a b : List Entry) (changes : List Change) → with_entries (a ++ b) changes ≡ with_entries b (with_entries a changes)
entries-append [] b changes = refl
entries-append (entry ∷ a) b changes = entries-append a b (with_entry entry changes)

pub entries-push : (entries : List Entry) (entry : Entry) → changes_of (entries ++ entry ∷ []) ≡ with_entry entry (changes_of entries)
entries-push entries entry = entries-append entries (entry ∷ []) []

-- the oldest of changes are those before the others
pub oldest-at : (more earlier all : List Change) (n : ℕ) → all ≡ more ++ earlier → n ≡ length earlier → oldest n all ≡ earlier
oldest-at more earlier all n whole count =
    let len : length all ≡ length more + length earlier = ap (λ xs. length xs) whole ∙ length-append more earlier in
    let e : length more ≡ length all - n = omega (arith, len, count) in
    ap (λ xs. drop (length all - n) xs) whole ∙ drop_at more earlier (length all - n) e

pub oldest-length : (n : ℕ) (all : List Change) → n ≤ length all → length (oldest n all) ≡ n
oldest-length n all within = omega (arith, length-drop (length all - n) all)

pub oldest-all : (n : ℕ) (all : List Change) → n ≡ length all → oldest n all ≡ all
oldest-all n all e = oldest-at [] all all n refl e

-- ## Parts of entries

pub part-later : (entry : Entry) (k : ℕ) (changes : List Change) → HasSteps entry k
    → (more : List Change) × (with_entry entry changes ≡ more ++ with_part entry k changes)
part-later (kept.Steps quick count) k changes within =
    let e : count ≡ (count - k) + k = omega (arith, within) in (
      steps_before quick (count - k) [],
      ap (λ n. steps_before quick n changes) e ∙ steps-more quick k (count - k) changes ∙ steps-over quick (count - k) (steps_before quick k changes),
    )
part-later (kept.Key character) k changes none = (Key character ∷ [], refl)
part-later (kept.Deposit cell word) k changes none = (Deposit cell word ∷ [], refl)
part-later (kept.Switches word) k changes none = (Switches word ∷ [], refl)
part-later (kept.Start cell) k changes none = (Start cell ∷ [], refl)

pub part-none : (entry : Entry) (changes : List Change) → with_part entry 0 changes ≡ changes
part-none (kept.Steps quick count) changes = refl
part-none (kept.Key character) changes = refl
part-none (kept.Deposit cell word) changes = refl
part-none (kept.Switches word) changes = refl
part-none (kept.Start cell) changes = refl

pub no-steps : (entry : Entry) → HasSteps entry 0
no-steps (kept.Steps quick count) = omega arith
no-steps (kept.Key character) = refl
no-steps (kept.Deposit cell word) = refl
no-steps (kept.Switches word) = refl
no-steps (kept.Start cell) = refl
