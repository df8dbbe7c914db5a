-- What a history keeps, as it goes on and back.
use Rattle.std.proofs.Common.{◌≡◌, ℕ, zero, suc, ◌+◌, ◌-◌, min, ◌<◌, ◌≤◌, Bool, true, false, List, [], ◌∷◌, ◌++◌, length, take, drop, get_or, Option, Some, None, option_map, Result, Ok, Err, OnErr, refl, ap, sym, subst, ◌∙◌, if◌then◌else◌, nat_lt, arith}
use Rattle.std.proofs.lemmas.List.{append-nil, append_assoc, drop_all, drop_min, take-append-drop, take_at}
use Rattle.cpu8.specs.State.{State}
use Rattle.cpu8.specs.Go.{after, character_of, characters_of, printing_step}
use Rattle.cpu8.specs.Unasked.{AreUnasked}
use Rattle.history8.specs.Changes.{Change, Step}
use Rattle.history8.specs.History.{History, state_after, characters_after, steps_before, changes_to_step, without, up_to_step, step_count}
use Rattle.history8.specs.Entries.{changes_of, changes_to, with_entry, oldest, AreSome, IsPlace, IsFixedPlace, is_no_step}
use Rattle.history8.specs.EntrySteps.{KeepsPlaces, MakesAgain}
use Rattle.history8.specs.Checkpoints.{Checkpoint, AreCheckpoints, IsCheckpoint, first_state}
use Rattle.history8.specs.CheckpointSteps.{AreWithin, KeepsCheckpoint}
use Rattle.history8.specs.Keeping.{Keeps}
use Rattle.history8.specs.Stops.{Condition, holds_of, LeastBack}
use Rattle.history8.specs.Steps.{IsLastPlace}
use Rattle.history8.specs.declared.entries.Entry.{Entry}
use Rattle.history8.specs.declared.entries.Entry.TheVariants as kept
use Rattle.history8.proofs.EntryLemmas.{oldest-at, oldest-all, oldest-length, steps-length}
use Rattle.history8.proofs.PlaceLemmas.{place-is, place-count}
use Rattle.history8.proofs.StateLemmas.{after-step, after-steps, printed-one, printed-steps, few-characters}
use Rattle.history8.proofs.CheckpointLemmas.{Earlier, are-added, are-at, are-kept, one-kept}

-- ## The beginning

pub keeps-new : (checkpoints : List Checkpoint) (machine : State) (entries : List Entry) (characters : List ℕ) (count : ℕ)
    → checkpoints ≡ record { count = 0; entry = 0; steps = 0; characters = 0; state = machine } ∷ [] → entries ≡ [] → characters ≡ [] → count ≡ 0
    → Keeps entries checkpoints machine count characters
keeps-new checkpoints machine entries characters count e-checkpoints e-entries e-characters e-count =
    subst (λ es. Keeps es checkpoints machine count characters) (sym e-entries)
    (subst (λ cs. Keeps [] cs machine count characters) (sym e-checkpoints)
    (subst (λ n. Keeps [] (record { count = 0; entry = 0; steps = 0; characters = 0; state = machine } ∷ []) machine n characters) (sym e-count)
    (subst (λ xs. Keeps [] (record { count = 0; entry = 0; steps = 0; characters = 0; state = machine } ∷ []) machine 0 xs) (sym e-characters)
    (record {
      are = (
        refl,
        record {
          place = record { is_place = place-is [] 0 0 0 (refl, refl) refl; is_fixed = λ _. tt };
          machine = refl;
          printed = refl;
        },
        tt,
      );
      some = tt;
      counted = refl;
      left = refl;
      printed = refl;
    }))))

-- ## Changes that are added

pub keeps-steps : (old new : List Entry) (checkpoints : List Checkpoint) (quick : Bool) (k : ℕ) (before now : State) (n m : ℕ) (characters more : List ℕ)
    → Keeps old checkpoints before n characters → changes_of new ≡ steps_before quick k (changes_of old) → AreSome new
    → KeepsPlaces old new (length (changes_of old)) → now ≡ after quick k before → m ≡ n + k → more ≡ characters ++ characters_of quick k before
    → Keeps new checkpoints now m more
keeps-steps old new checkpoints quick k before now n m characters more keeps changes some places state count printed =
    let first = first_state checkpoints in
    record {
      are = are-added old new first checkpoints places keeps.are;
      some = some;
      counted = omega (arith, count, keeps.counted, ap (λ xs. length xs) changes, steps-length quick k (changes_of old));
      left = state ∙ ap (λ s. after quick k s) keeps.left ∙ sym (after-steps quick k (changes_of old) first) ∙ ap (λ xs. state_after xs first) (sym changes);
      printed = printed ∙ ap (λ xs. xs ++ characters_of quick k before) keeps.printed
          ∙ ap (λ s. characters_after (changes_of old) first ++ characters_of quick k s) keeps.left
          ∙ sym (printed-steps quick k (changes_of old) first) ∙ ap (λ xs. characters_after xs first) (sym changes);
    }

pub keeps-step : (old new : List Entry) (checkpoints : List Checkpoint) (quick : Bool) (before now : State) (n m : ℕ) (characters more : List ℕ)
    → Keeps old checkpoints before n characters → changes_of new ≡ Step quick ∷ changes_of old → AreSome new
    → KeepsPlaces old new (length (changes_of old)) → now ≡ (printing_step quick before).0 → m ≡ n + 1 → more ≡ characters ++ character_of (printing_step quick before).1
    → Keeps new checkpoints now m more
keeps-step old new checkpoints quick before now n m characters more keeps changes some places state count printed =
    keeps-steps old new checkpoints quick 1 before now n m characters more keeps changes some places (after-step quick before now state) count
    (printed ∙ ap (λ xs. characters ++ xs) (sym (printed-one quick before)))

entry-left : (entry : Entry) (earlier : List Change) (first before now : State) → is_no_step entry ≡ true → before ≡ state_after earlier first
    → now ≡ state_after (with_entry entry []) before
    → (now ≡ state_after (with_entry entry earlier) first) × (characters_after (with_entry entry earlier) first ≡ characters_after earlier first)
    × (length (with_entry entry earlier) ≡ length earlier + 1)
entry-left (kept.Steps quick count) earlier first before now no_step e made = cc
entry-left (kept.Key character) earlier first before now no_step e made =
    (made ∙ ap (λ s. state_after (with_entry (kept.Key character) []) s) e, append-nil (characters_after earlier first), omega arith)
entry-left (kept.Deposit cell word) earlier first before now no_step e made =
    (made ∙ ap (λ s. state_after (with_entry (kept.Deposit cell word) []) s) e, append-nil (characters_after earlier first), omega arith)
entry-left (kept.Switches word) earlier first before now no_step e made =
    (made ∙ ap (λ s. state_after (with_entry (kept.Switches word) []) s) e, append-nil (characters_after earlier first), omega arith)
entry-left (kept.Start cell) earlier first before now no_step e made =
    (made ∙ ap (λ s. state_after (with_entry (kept.Start cell) []) s) e, append-nil (characters_after earlier first), omega arith)

pub keeps-change : (old new : List Entry) (checkpoints : List Checkpoint) (entry : Entry) (before now : State) (n m : ℕ) (characters more : List ℕ)
    → Keeps old checkpoints before n characters → changes_of new ≡ with_entry entry (changes_of old) → AreSome new
    → KeepsPlaces old new (length (changes_of old)) → is_no_step entry ≡ true → now ≡ state_after (with_entry entry []) before → m ≡ n + 1 → more ≡ characters
    → Keeps new checkpoints now m more
keeps-change old new checkpoints entry before now n m characters more keeps changes some places no_step state count printed =
    let first = first_state checkpoints in
    let made = entry-left entry (changes_of old) first before now no_step keeps.left state in
    record {
      are = are-added old new first checkpoints places keeps.are;
      some = some;
      counted = omega (arith, count, keeps.counted, ap (λ xs. length xs) changes, made.2);
      left = made.0 ∙ ap (λ xs. state_after xs first) (sym changes);
      printed = printed ∙ keeps.printed ∙ sym made.1 ∙ ap (λ xs. characters_after xs first) (sym changes);
    }

-- ## Checkpoints that are kept

pub record KeepsMore (entries : List Entry) (old new : List Checkpoint) (machine : State) (count : ℕ) (characters : List ℕ) : Type 0 where
  pub keeps : Keeps entries new machine count characters
  pub same : first_state new ≡ first_state old

pub keeps-checkpoint : (entries : List Entry) (old new : List Checkpoint) (machine : State) (count : ℕ) (characters : List ℕ) (at entry steps printed : ℕ)
    → Keeps entries old machine count characters → at ≡ count → IsFixedPlace entries at entry steps → printed ≡ length characters
    → KeepsCheckpoint old new (record { count = at; entry = entry; steps = steps; characters = printed; state = machine })
    → KeepsMore entries old new machine count characters
keeps-checkpoint entries old new machine count characters at entry steps printed keeps is place len more =
    let first = first_state old in
    let all : oldest at (changes_of entries) ≡ changes_of entries = oldest-all at (changes_of entries) (is ∙ keeps.counted) in
    let last : Checkpoint = record { count = at; entry = entry; steps = steps; characters = printed; state = machine } in
    let checkpoint : IsCheckpoint entries first last = record {
      place = place;
      machine = keeps.left ∙ ap (λ xs. state_after xs first) (sym all);
      printed = len ∙ ap (λ xs. length xs) keeps.printed ∙ ap (λ xs. length (characters_after xs first)) (sym all);
    } in
    let kept = one-kept entries first old new last keeps.are checkpoint more in
    record {
      keeps = record {
        are = subst (λ s. AreCheckpoints entries s new) (sym kept.same) kept.are;
        some = keeps.some;
        counted = keeps.counted;
        left = keeps.left ∙ ap (λ s. state_after (changes_of entries) s) (sym kept.same);
        printed = keeps.printed ∙ ap (λ s. characters_after (changes_of entries) s) (sym kept.same);
      };
      same = kept.same;
    }

-- ## The way back

-- a machine made again from a checkpoint
pub record Remade (entries : List Entry) (first : State) (target : ℕ) (now : State) (characters : ℕ) : Type 0 where
  pub left : now ≡ state_after (oldest target (changes_of entries)) first
  pub printed : characters ≡ length (characters_after (oldest target (changes_of entries)) first)

pub remade : (entries : List Entry) (checkpoints : List Checkpoint) (n : ℕ) (newest : Checkpoint) (target : ℕ) (restored now : State) (characters : ℕ)
    → AreCheckpoints entries (first_state checkpoints) checkpoints → n < length checkpoints → newest ≡ get_or checkpoints n newest → restored ≡ newest.state
    → MakesAgain entries newest.count target restored now characters → Remade entries (first_state checkpoints) target now (newest.characters + characters)
remade entries checkpoints n newest target restored now characters are within at restores made =
    let is = are-at entries (first_state checkpoints) checkpoints n newest are within at in
    let again = made (first_state checkpoints) (restores ∙ is.machine) in
    record {
      left = again.0;
      printed = omega (arith, again.1, is.printed);
    }

pub remade-few : (entries : List Entry) (checkpoints : List Checkpoint) (n : ℕ) (newest : Checkpoint) (target characters : ℕ)
    → AreCheckpoints entries (first_state checkpoints) checkpoints → n < length checkpoints → newest ≡ get_or checkpoints n newest
    → newest.count + characters ≤ target → newest.characters + characters ≤ target
remade-few entries checkpoints n newest target characters are within at few =
    let is = are-at entries (first_state checkpoints) checkpoints n newest are within at in
    omega (
      arith,
      few,
      is.printed,
      few-characters (oldest newest.count (changes_of entries)) (first_state checkpoints),
      oldest-length newest.count (changes_of entries) is.place.is_place.count_within,
    )

-- the oldest of what was printed
printed-append : (more earlier : List Change) (first : State) → (later : List ℕ) × (characters_after (more ++ earlier) first ≡ characters_after earlier first ++ later)
printed-append [] earlier first = ([], sym (append-nil (characters_after earlier first)))
printed-append (last ∷ more) earlier first =
    let before = printed-append more earlier first in
    let printed = characters_after (last ∷ []) (state_after (more ++ earlier) first) in (
      before.0 ++ printed,
      ap (λ xs. xs ++ printed) before.1 ∙ append_assoc (characters_after earlier first) before.0 printed,
    )

oldest-of : (n : ℕ) (all : List Change) → (more : List Change) × (all ≡ more ++ oldest n all)
oldest-of n all = (take (length all - n) all, sym (take-append-drop (length all - n) all))

pub printed-before : (entries : List Entry) (first : State) (target : ℕ) (characters : List ℕ) (n : ℕ) → characters ≡ characters_after (changes_of entries) first
    → n ≡ length (characters_after (oldest target (changes_of entries)) first) → take n characters ≡ characters_after (oldest target (changes_of entries)) first
printed-before entries first target characters n printed len =
    let whole = oldest-of target (changes_of entries) in
    let parts = printed-append whole.0 (oldest target (changes_of entries)) first in
    ap (λ xs. take n xs) (printed ∙ ap (λ xs. characters_after xs first) whole.1 ∙ parts.1)
    ∙ take_at (characters_after (oldest target (changes_of entries)) first) parts.0 n (sym len)

-- what is kept as later changes are taken away
pub record KeepsLess (old new : List Entry) (checkpoints less : List Checkpoint) (machine : State) (count : ℕ) (characters : List ℕ) : Type 0 where
  pub keeps : Keeps new less machine count characters
  pub same : first_state less ≡ first_state checkpoints
  pub changes : changes_of new ≡ oldest count (changes_of old)

pub keeps-less : (old new : List Entry) (checkpoints less : List Checkpoint) (before now : State) (n count target : ℕ) (characters fewer : List ℕ) (printed entry steps : ℕ)
    → Keeps old checkpoints before n characters → Earlier old (first_state checkpoints) checkpoints less target → Remade old (first_state less) target now printed
    → IsPlace old count entry steps → count ≡ target → changes_of new ≡ changes_to old entry steps → AreSome new → KeepsPlaces old new count
    → fewer ≡ take printed characters → KeepsLess old new checkpoints less now count fewer
keeps-less old new checkpoints less before now n count target characters fewer printed entry steps keeps earlier made place is changes some places taken =
    let first = first_state checkpoints in
    let cut : changes_of new ≡ oldest count (changes_of old) = changes ∙ place.changes in
    let to : oldest target (changes_of old) ≡ changes_of new = ap (λ i. oldest i (changes_of old)) (sym is) ∙ sym cut in
    let kept : AreCheckpoints new first less = are-kept old new first count less places (subst (λ i. AreWithin i less) (sym is) earlier.within) earlier.are in
    let len : printed ≡ length (characters_after (oldest target (changes_of old)) first) =
    made.printed ∙ ap (λ s. length (characters_after (oldest target (changes_of old)) s)) earlier.same in
    record {
      keeps = record {
        are = subst (λ s. AreCheckpoints new s less) (sym earlier.same) kept;
        some = some;
        counted = place-count old count entry steps place ∙ ap (λ xs. length xs) (sym changes);
        left = made.left ∙ ap (λ xs. state_after xs (first_state less)) to;
        printed = taken ∙ printed-before old first target characters printed keeps.printed len
            ∙ ap (λ xs. characters_after xs first) to ∙ ap (λ s. characters_after (changes_of new) s) (sym earlier.same);
      };
      same = earlier.same;
      changes = cut;
    }

-- the history that a way back leaves
pub back-is : (changes : List Change) (n count target back : ℕ) → n ≡ length changes → target ≡ n - back → count ≡ target → oldest count changes ≡ drop back changes
back-is changes n count target back len e is =
    let left : length changes - count ≡ min back (length changes) = omega (arith, len, e, is) in
    ap (λ i. drop i changes) left ∙ drop_min back changes

-- the present, made again
-- nothing is gone back
pub stays-whole : (entries : List Entry) (n back : ℕ) (first : State) → n ≡ length (changes_of entries) → n - back ≡ n → record { first = first; changes = changes_of entries } ≡ without back (record { first = first; changes = changes_of entries })
stays-whole entries n back first counted e =
    let left : 0 ≡ min back (length (changes_of entries)) = omega (arith, counted, e) in
    ap (λ xs. record { first = first; changes = xs }) (ap (λ i. drop i (changes_of entries)) left ∙ drop_min back (changes_of entries))

-- ## The way back to a step

part-chosen : (n : ℕ) (last : Change) (earlier more : List Change) (b : Bool) → earlier ≡ more ++ changes_to_step n earlier
    → (front : List Change) × (last ∷ earlier ≡ front ++ (let xs : List Change = if b then changes_to_step n earlier else last ∷ earlier in xs))
part-chosen n last earlier more true e = (last ∷ more, ap (λ xs. last ∷ xs) e)
part-chosen n last earlier more false e = ([], refl)

to-step-part : (n : ℕ) (changes : List Change) → (more : List Change) × (changes ≡ more ++ changes_to_step n changes)
to-step-part n [] = ([], refl)
to-step-part n (last ∷ earlier) =
    let before = to-step-part n earlier in
    part-chosen n last earlier before.0 (nat_lt n (step_count (last ∷ earlier))) before.1

pub step-is : (h : History) (count left steps : ℕ) → count ≡ length h.changes → left ≡ length (changes_to_step steps h.changes)
    → without (count - left) h ≡ up_to_step steps h
step-is h count left steps counted len =
    let part = to-step-part steps h.changes in
    ap (λ xs. record h { changes = xs })
    (ap (λ n. drop (n - left) h.changes) counted ∙ oldest-at part.0 (changes_to_step steps h.changes) h.changes left part.1 len)

-- ## The last place, as a number of changes back

back-at : (changes : List Change) (count m : ℕ) → count ≡ length changes → m ≤ count → oldest (count - m) changes ≡ drop m changes
back-at changes count m counted within =
    let e : length changes - (count - m) ≡ m = omega (arith, counted, within) in
    ap (λ i. drop i changes) e

place-at : (changes : List Change) (count p : ℕ) → count ≡ length changes → oldest p changes ≡ drop (count - p) changes
place-at changes count p counted = ap (λ n. drop (n - p) changes) (sym counted)

past-all : (condition : Condition) (changes : List Change) (first : State) (m : ℕ) → length changes ≤ m → holds_of condition (drop m changes) first ≡ false
past-all condition changes first m past = ap (λ xs. holds_of condition xs first) (drop_all m changes past)

-- by cases on whether a number is below another
either-way : (P : Type 0) (a b d : ℕ) → d ≡ b - a → (a < b → P) → (b ≤ a → P) → P
either-way P a b zero e below above = above (omega (arith, e))
either-way P a b (suc d) e below above = below (omega (arith, e))

pub least-back : (condition : Condition) (entries : List Entry) (first : State) (count : ℕ) (found : Option ℕ) → count ≡ length (changes_of entries)
    → IsLastPlace condition entries first count found
    → LeastBack condition (record { first = first; changes = changes_of entries }) (option_map (λ p. count - p) found)
least-back condition entries first count (Some p) counted last = (
  omega (arith, last.0, last.1),
  ap (λ xs. holds_of condition xs first) (sym (place-at (changes_of entries) count p counted)) ∙ last.2,
  λ m low high.
      ap (λ xs. holds_of condition xs first) (sym (back-at (changes_of entries) count m counted (omega (arith, high))))
      ∙ last.3 (count - m) (omega (arith, high, last.0, last.1)) (omega (arith, low, high)),
)
least-back condition entries first count None counted last = λ m low.
    either-way (holds_of condition (drop m (changes_of entries)) first ≡ false) m count (count - m) refl
    (λ below. ap (λ xs. holds_of condition xs first) (sym (back-at (changes_of entries) count m counted (omega (arith, below))))
    ∙ last (count - m) (omega (arith, below)) (omega (arith, low, below)))
    (λ past. past-all condition (changes_of entries) first m (omega (arith, past, counted)))

-- ## Of the code

pub keeps-same : (old new : List Entry) (checkpoints : List Checkpoint) (machine : State) (n m : ℕ) (characters more : List ℕ)
    → Keeps old checkpoints machine n characters → new ≡ old → m ≡ n → more ≡ characters → Keeps new checkpoints machine m more
keeps-same old new checkpoints machine n m characters more keeps e-entries e-count e-characters =
    subst (λ es. Keeps es checkpoints machine m more) (sym e-entries)
    (subst (λ i. Keeps old checkpoints machine i more) (sym e-count) (subst (λ xs. Keeps old checkpoints machine n xs) (sym e-characters) keeps))

pub viewed-change : (first : State) (old new : List Change) (h : History) (change : List Change → List Change) → record { first = first; changes = old } ≡ h
    → new ≡ change old → record { first = first; changes = new } ≡ record h { changes = change h.changes }
viewed-change first old new h change view e =
    let history : List Change → History = λ xs. record { first = first; changes = xs } in
    let changed : History → History = λ x. record x { changes = change x.changes } in
    ap history e ∙ ap changed view

-- a clause on an error
pub on-err : {A E : Type 0} (r : Result A E) (P : Type 0) → P → OnErr r P
on-err (Ok x) P p = tt
on-err (Err e) P p = p

pub counted-changes : (entries : List Entry) (checkpoints : List Checkpoint) (machine : State) (n : ℕ) (characters : List ℕ) (first : State) (h : History)
    → Keeps entries checkpoints machine n characters → record { first = first; changes = changes_of entries } ≡ h → n ≡ length h.changes
counted-changes entries checkpoints machine n characters first h keeps view = keeps.counted ∙ ap (λ x. length x.changes) view

-- steps that print nothing
unasked-none : (k : ℕ) (s : State) → AreUnasked s k → characters_of true k s ≡ []
unfolding after characters_of
unasked-none zero s none = refl
unasked-none (suc k) s none =
    ap (λ d. characters_of true k s ++ character_of d) (none k (omega arith)).answer
    ∙ append-nil (characters_of true k s) ∙ unasked-none k s (λ m below. none m (omega (arith, below)))

pub unasked-printed : (k : ℕ) (s : State) (characters : List ℕ) → AreUnasked s k → characters ≡ characters ++ characters_of true k s
unasked-printed k s characters none = sym (ap (λ xs. characters ++ xs) (unasked-none k s none) ∙ append-nil characters)
