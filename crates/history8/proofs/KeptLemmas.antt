-- Places that stay as entries are added or cut.
use Rattle.std.proofs.Common.{◌≡◌, ℕ, zero, suc, ◌+◌, ◌<◌, ◌≤◌, Bool, true, false, List, [], ◌∷◌, ◌++◌, length, refl, ap, sym, subst, ◌∙◌, arith}
use Rattle.std.proofs.lemmas.List.{length-append}
use Rattle.history8.specs.Changes.{Change}
use Rattle.history8.specs.History.{steps_before}
use Rattle.history8.specs.Entries.{with_entry, with_entries, with_entries_to, changes_to, with_part, HasSteps, AreSome, NextHasSteps, IsPlace, IsAfterNoStep, is_no_step}
use Rattle.history8.specs.EntrySteps.{KeepsPlaces}
use Rattle.history8.specs.declared.entries.Entry.{Entry}
use Rattle.history8.specs.declared.entries.Entry.TheVariants as kept
use Rattle.history8.proofs.EntryLemmas.{steps-length, part-later, part-none, no-steps}
use Rattle.history8.proofs.PlaceLemmas.{place-is, place-count}

record IsFixed (entries : List Entry) (entry steps : ℕ) : Type 0 where
  within : NextHasSteps entries entry steps
  after : steps ≡ 0 → IsAfterNoStep entries entry

-- a place stays
record Stays (old new : List Entry) (entry steps : ℕ) : Type 0 where
  fixed : IsFixed new entry steps
  same : (changes : List Change) → with_entries_to new entry steps changes ≡ with_entries_to old entry steps changes

keeps-from : (old new : List Entry) (most : ℕ)
    → ((entry steps : ℕ) → IsFixed old entry steps → length (changes_to old entry steps) ≤ most → Stays old new entry steps) → KeepsPlaces old new most
keeps-from old new most stays count entry steps place within =
    let len = place-count old count entry steps place.is_place in
    let s = stays entry steps (record { within = place.is_place.within; after = place.is_fixed }) (omega (arith, len, within)) in
    let new_place : IsPlace new count entry steps = place-is new count entry steps s.fixed.within (len ∙ ap (λ xs. length xs) (sym (s.same []))) in (
      record { is_place = new_place; is_fixed = s.fixed.after },
      sym new_place.changes ∙ s.same [] ∙ place.is_place.changes,
    )

-- ## Under an entry

after-under : (first : Entry) (old new : List Entry) (entry : ℕ) → IsAfterNoStep new entry → IsAfterNoStep (first ∷ old) (suc entry) → IsAfterNoStep (first ∷ new) (suc entry)
after-under first old new zero under here = here
after-under first old new (suc entry) under here = under

after-less : (first : Entry) (old : List Entry) (entry : ℕ) → IsAfterNoStep (first ∷ old) (suc entry) → IsAfterNoStep old entry
after-less first [] zero here = tt
after-less first (next ∷ old) zero here = tt
after-less first old (suc entry) here = here

fixed-less : (first : Entry) (old : List Entry) (entry steps : ℕ) → IsFixed (first ∷ old) (suc entry) steps → IsFixed old entry steps
fixed-less first old entry steps fixed = record {
  within = fixed.within;
  after = λ none. after-less first old entry (fixed.after none);
}

stays-under : (first : Entry) (old new : List Entry) (entry steps : ℕ) → IsFixed (first ∷ old) (suc entry) steps → Stays old new entry steps
    → Stays (first ∷ old) (first ∷ new) (suc entry) steps
stays-under first old new entry steps fixed stays = record {
  fixed = record {
    within = stays.fixed.within;
    after = λ none. after-under first old new entry (stays.fixed.after none) (fixed.after none);
  };
  same = λ changes. stays.same (with_entry first changes);
}

stays-first : (first : Entry) (old new : List Entry) (steps : ℕ) → IsFixed (first ∷ old) zero steps → Stays (first ∷ old) (first ∷ new) zero steps
stays-first first old new steps fixed = record {
  fixed = record { within = fixed.within; after = λ none. tt };
  same = λ changes. refl;
}

-- ## An entry more

stays-end : (entry : Entry) (steps : ℕ) → steps ≡ 0 → Stays [] (entry ∷ []) zero steps
stays-end entry steps none = record {
  fixed = record { within = subst (λ k. HasSteps entry k) (sym none) (no-steps entry); after = λ _. tt };
  same = λ changes. ap (λ k. with_part entry k changes) none ∙ part-none entry changes;
}

stays-push : (entries : List Entry) (last : Entry) (entry steps : ℕ) → IsFixed entries entry steps → Stays entries (entries ++ last ∷ []) entry steps
stays-push [] last zero steps fixed = stays-end last steps fixed.within.1
stays-push [] last (suc entry) steps fixed = absurd (omega (arith, fixed.within.0))
stays-push (first ∷ later) last zero steps fixed = stays-first first later (later ++ last ∷ []) steps fixed
stays-push (first ∷ later) last (suc entry) steps fixed =
    stays-under first later (later ++ last ∷ []) entry steps fixed (stays-push later last entry steps (fixed-less first later entry steps fixed))

pub keeps-push : (entries : List Entry) (last : Entry) (most : ℕ) → KeepsPlaces entries (entries ++ last ∷ []) most
keeps-push entries last most = keeps-from entries (entries ++ last ∷ []) most (λ entry steps fixed within. stays-push entries last entry steps fixed)

-- ## A longer last entry

stays-longer : (front : List Entry) (quick : Bool) (count more entry steps : ℕ) → IsFixed (front ++ kept.Steps quick count ∷ []) entry steps
    → Stays (front ++ kept.Steps quick count ∷ []) (front ++ kept.Steps quick (count + more) ∷ []) entry steps
stays-longer [] quick count more zero steps fixed = record {
  fixed = record { within = omega (arith, fixed.within); after = λ none. tt };
  same = λ changes. refl;
}
stays-longer [] quick count more (suc zero) steps fixed = let no = fixed.after fixed.within.1 in cc
stays-longer [] quick count more (suc (suc entry)) steps fixed = absurd (omega (arith, fixed.within.0))
stays-longer (first ∷ front) quick count more zero steps fixed =
    stays-first first (front ++ kept.Steps quick count ∷ []) (front ++ kept.Steps quick (count + more) ∷ []) steps fixed
stays-longer (first ∷ front) quick count more (suc entry) steps fixed =
    stays-under first (front ++ kept.Steps quick count ∷ []) (front ++ kept.Steps quick (count + more) ∷ []) entry steps fixed
    (stays-longer front quick count more entry steps (fixed-less first (front ++ kept.Steps quick count ∷ []) entry steps fixed))

pub keeps-longer : (front : List Entry) (quick : Bool) (count more most : ℕ)
    → KeepsPlaces (front ++ kept.Steps quick count ∷ []) (front ++ kept.Steps quick (count + more) ∷ []) most
keeps-longer front quick count more most =
    keeps-from (front ++ kept.Steps quick count ∷ []) (front ++ kept.Steps quick (count + more) ∷ []) most
    (λ entry steps fixed within. stays-longer front quick count more entry steps fixed)

-- ## Entries up to a place

abbrev pub cut_entry : Entry → ℕ → List Entry
cut_entry (kept.Steps quick count) zero = []
cut_entry (kept.Steps quick count) (suc steps) = kept.Steps quick (suc steps) ∷ []
cut_entry (kept.Key character) steps = []
cut_entry (kept.Deposit cell word) steps = []
cut_entry (kept.Switches word) steps = []
cut_entry (kept.Start cell) steps = []

abbrev pub cut : List Entry → ℕ → ℕ → List Entry
cut [] entry steps = []
cut (first ∷ later) zero steps = cut_entry first steps
cut (first ∷ later) (suc entry) steps = first ∷ cut later entry steps

cut_entry-is : (first : Entry) (steps : ℕ) (changes : List Change) → HasSteps first steps → with_entries (cut_entry first steps) changes ≡ with_part first steps changes
cut_entry-is (kept.Steps quick count) zero changes has = refl
cut_entry-is (kept.Steps quick count) (suc steps) changes has = refl
cut_entry-is (kept.Key character) steps changes has = refl
cut_entry-is (kept.Deposit cell word) steps changes has = refl
cut_entry-is (kept.Switches word) steps changes has = refl
cut_entry-is (kept.Start cell) steps changes has = refl

pub cut-is : (entries : List Entry) (entry steps : ℕ) (changes : List Change) → NextHasSteps entries entry steps
    → with_entries (cut entries entry steps) changes ≡ with_entries_to entries entry steps changes
cut-is [] entry steps changes next = refl
cut-is (first ∷ later) zero steps changes next = cut_entry-is first steps changes next
cut-is (first ∷ later) (suc entry) steps changes next = cut-is later entry steps (with_entry first changes) next

cut_entry-some : (first : Entry) (steps : ℕ) → HasSteps first steps → AreSome (cut_entry first steps)
cut_entry-some (kept.Steps quick count) zero has = tt
cut_entry-some (kept.Steps quick count) (suc steps) has = (omega arith, tt)
cut_entry-some (kept.Key character) steps has = tt
cut_entry-some (kept.Deposit cell word) steps has = tt
cut_entry-some (kept.Switches word) steps has = tt
cut_entry-some (kept.Start cell) steps has = tt

pub cut-some : (entries : List Entry) (entry steps : ℕ) → NextHasSteps entries entry steps → AreSome entries → AreSome (cut entries entry steps)
cut-some [] entry steps next some = tt
cut-some (first ∷ later) zero steps next some = cut_entry-some first steps next
cut-some (first ∷ later) (suc entry) steps next some = (some.0, cut-some later entry steps next some.1)

-- a part of an entry is no more than the whole
part-less : (entry : Entry) (k : ℕ) (changes : List Change) → HasSteps entry k → length (with_part entry k changes) ≤ length (with_entry entry changes)
part-less entry k changes has =
    let later = part-later entry k changes has in
    omega (arith, ap (λ xs. length xs) later.1, length-append later.0 (with_part entry k changes))

part-longer : (entry : Entry) (k : ℕ) (changes : List Change) → HasSteps entry k → 0 < k → length changes < length (with_part entry k changes)
part-longer (kept.Steps quick count) k changes has some = omega (arith, steps-length quick k changes, some)
part-longer (kept.Key character) k changes has some = absurd (omega (arith, has, some))
part-longer (kept.Deposit cell word) k changes has some = absurd (omega (arith, has, some))
part-longer (kept.Switches word) k changes has some = absurd (omega (arith, has, some))
part-longer (kept.Start cell) k changes has some = absurd (omega (arith, has, some))

one-longer : (entry : Entry) (k : ℕ) (changes : List Change) → HasSteps entry k → is_no_step entry ≡ true
    → length (with_part entry k changes) < length (with_entry entry changes)
one-longer (kept.Steps quick count) k changes has no_step = absurd (let e : false ≡ true = no_step in cc)
one-longer (kept.Key character) k changes has no_step = omega arith
one-longer (kept.Deposit cell word) k changes has no_step = omega arith
one-longer (kept.Switches word) k changes has no_step = omega arith
one-longer (kept.Start cell) k changes has no_step = omega arith

-- a fixed place after a whole entry has more changes before it than one in that entry
longer : (first : Entry) (later : List Entry) (entry steps k : ℕ) (changes : List Change) → HasSteps first k → IsFixed (first ∷ later) (suc entry) steps
    → length (with_part first k changes) < length (with_entries_to later entry steps (with_entry first changes))
longer first [] zero steps k changes has fixed = one-longer first k changes has (fixed.after fixed.within.1)
longer first [] (suc entry) steps k changes has fixed = absurd (omega (arith, fixed.within.0))
longer first (next ∷ later) zero zero k changes has fixed =
    let e = part-none next (with_entry first changes) in
    let one = one-longer first k changes has (fixed.after refl) in
    omega (arith, ap (λ xs. length xs) e, one)
longer first (next ∷ later) zero (suc steps) k changes has fixed =
    let some : 0 < suc steps = omega arith in
    omega (arith, part-longer next (suc steps) (with_entry first changes) fixed.within some, part-less first k changes has)
longer first (next ∷ later) (suc entry) steps k changes has fixed =
    let more = longer next later entry steps 0 (with_entry first changes) (no-steps next) (fixed-less first (next ∷ later) (suc entry) steps fixed) in
    omega (arith, ap (λ xs. length xs) (part-none next (with_entry first changes)), more, part-less first k changes has)

stays-part : (first : Entry) (later : List Entry) (steps k : ℕ) (changes : List Change) → HasSteps first steps → HasSteps first k
    → length (with_part first steps changes) ≤ length (with_part first k changes) → Stays (first ∷ later) (cut_entry first k) zero steps
stays-part (kept.Steps quick count) later steps zero changes has within less =
    let none : steps ≡ 0 = omega (arith, less, steps-length quick steps changes) in
    record {
      fixed = record { within = (refl, none); after = λ _. tt };
      same = λ changes. ap (λ k. steps_before quick k changes) (sym none);
    }
stays-part (kept.Steps quick count) later steps (suc k) changes has within less = record {
  fixed = record { within = omega (arith, less, steps-length quick steps changes, steps-length quick (suc k) changes); after = λ _. tt };
  same = λ changes. refl;
}
stays-part (kept.Key character) later steps k changes has within less = record { fixed = record { within = (refl, has); after = λ _. tt }; same = λ changes. refl }
stays-part (kept.Deposit cell word) later steps k changes has within less = record { fixed = record { within = (refl, has); after = λ _. tt }; same = λ changes. refl }
stays-part (kept.Switches word) later steps k changes has within less = record { fixed = record { within = (refl, has); after = λ _. tt }; same = λ changes. refl }
stays-part (kept.Start cell) later steps k changes has within less = record { fixed = record { within = (refl, has); after = λ _. tt }; same = λ changes. refl }

stays-cut : (entries : List Entry) (entry steps n k : ℕ) (changes : List Change) → IsFixed entries entry steps → NextHasSteps entries n k
    → length (with_entries_to entries entry steps changes) ≤ length (with_entries_to entries n k changes) → Stays entries (cut entries n k) entry steps
stays-cut [] entry steps n k changes fixed next less = record { fixed = fixed; same = λ changes. refl }
stays-cut (first ∷ later) zero steps zero k changes fixed next less = stays-part first later steps k changes fixed.within next less
stays-cut (first ∷ later) zero steps (suc n) k changes fixed next less = stays-first first later (cut later n k) steps fixed
stays-cut (first ∷ later) (suc entry) steps zero k changes fixed next less =
    absurd (omega (arith, less, longer first later entry steps k changes next fixed))
stays-cut (first ∷ later) (suc entry) steps (suc n) k changes fixed next less =
    stays-under first later (cut later n k) entry steps fixed
    (stays-cut later entry steps n k (with_entry first changes) (fixed-less first later entry steps fixed) next less)

pub keeps-cut : (entries : List Entry) (n k most : ℕ) → NextHasSteps entries n k → most ≡ length (changes_to entries n k) → KeepsPlaces entries (cut entries n k) most
keeps-cut entries n k most next len =
    keeps-from entries (cut entries n k) most (λ entry steps fixed within. stays-cut entries entry steps n k [] fixed next (omega (arith, within, len)))
