-- The way back, as the code goes it: over the lists behind its slices.
use Rattle.std.proofs.Common.{◌≡◌, ℕ, ◌-◌, List, [], ◌∷◌, length, take, drop, Option, option_map, ap, sym, subst, ◌∙◌}
use Rattle.cpu8.specs.State.{State}
use Rattle.history8.specs.Changes.{Change}
use Rattle.history8.specs.History.{History, state_after, characters_after, changes_to_step, without, up_to_step, new_history}
use Rattle.history8.specs.Entries.{changes_of, changes_to, oldest, AreSome, IsPlace}
use Rattle.history8.specs.EntrySteps.{KeepsPlaces}
use Rattle.history8.specs.Checkpoints.{Checkpoint, AreCheckpoints, first_state}
use Rattle.history8.specs.Keeping.{Keeps}
use Rattle.history8.specs.Stops.{Condition, LeastBack}
use Rattle.history8.specs.Steps.{IsLastPlace}
use Rattle.history8.specs.declared.entries.Entry.{Entry}
use Rattle.history8.proofs.CheckpointLemmas.{Earlier}
use Rattle.history8.proofs.HistoryLemmas.{Remade, back-is, keeps-less, least-back, stays-whole, step-is}

pub are-over : (entries slice : List Entry) (checkpoints copies : List Checkpoint) → slice ≡ entries → copies ≡ checkpoints
    → AreCheckpoints entries (first_state checkpoints) checkpoints → AreCheckpoints slice (first_state copies) copies
are-over entries slice checkpoints copies e-entries e-checkpoints are =
    subst (λ es. AreCheckpoints es (first_state copies) copies) (sym e-entries) (subst (λ cs. AreCheckpoints entries (first_state cs) cs) (sym e-checkpoints) are)

pub remade-over : (entries slice : List Entry) (checkpoints copies : List Checkpoint) (target : ℕ) (now : State) (characters : ℕ) → slice ≡ entries → copies ≡ checkpoints
    → now ≡ state_after (oldest target (changes_of slice)) (first_state copies)
    → characters ≡ length (characters_after (oldest target (changes_of slice)) (first_state copies)) → Remade entries (first_state checkpoints) target now characters
remade-over entries slice checkpoints copies target now characters e-entries e-checkpoints left printed = record {
  left = left ∙ ap (λ es. state_after (oldest target (changes_of es)) (first_state copies)) e-entries
      ∙ ap (λ cs. state_after (oldest target (changes_of entries)) (first_state cs)) e-checkpoints;
  printed = printed ∙ ap (λ es. length (characters_after (oldest target (changes_of es)) (first_state copies))) e-entries
      ∙ ap (λ cs. length (characters_after (oldest target (changes_of entries)) (first_state cs))) e-checkpoints;
}

-- what a way back leaves
pub record GoesBack (entries : List Entry) (less : List Checkpoint) (machine : State) (count : ℕ) (characters : List ℕ) (h : History) (back : ℕ) : Type 0 where
  pub keeps : Keeps entries less machine count characters
  pub view : record { first = first_state less; changes = changes_of entries } ≡ without back h

pub goes-back : (old new : List Entry) (checkpoints less : List Checkpoint) (before now : State) (n m count target back : ℕ) (characters fewer : List ℕ) (printed entry steps : ℕ) (h : History)
    → Keeps old checkpoints before n characters → record { first = first_state checkpoints; changes = changes_of old } ≡ h
    → Earlier old (first_state checkpoints) checkpoints less target → Remade old (first_state less) target now printed
    → IsPlace old count entry steps → count ≡ target → changes_of new ≡ changes_to old entry steps → AreSome new → KeepsPlaces old new count
    → fewer ≡ take printed characters → target ≡ n - back → m ≡ count → GoesBack new less now m fewer h back
goes-back old new checkpoints less before now n m count target back characters fewer printed entry steps h keeps view earlier made place is changes some places taken e-back e-count =
    let kept = keeps-less old new checkpoints less before now n count target characters fewer printed entry steps keeps earlier made place is changes some places taken in
    let cut : changes_of new ≡ drop back (changes_of old) = kept.changes ∙ back-is (changes_of old) n count target back keeps.counted e-back is in
    let of-first : State → History = λ s. record { first = s; changes = changes_of new } in
    let of-changes : List Change → History = λ xs. record { first = first_state checkpoints; changes = xs } in
    record {
      keeps = subst (λ i. Keeps new less now i fewer) (sym e-count) kept.keeps;
      view = ap of-first kept.same ∙ ap of-changes cut ∙ ap (λ x. without back x) view;
    }

-- the last place, as a number of changes back
pub back-over : (condition : Condition) (entries slice : List Entry) (checkpoints copies : List Checkpoint) (machine : State) (n : ℕ) (characters : List ℕ) (h : History) (found answer : Option ℕ)
    → slice ≡ entries → copies ≡ checkpoints → Keeps entries checkpoints machine n characters → record { first = first_state checkpoints; changes = changes_of entries } ≡ h
    → IsLastPlace condition slice (first_state copies) n found → answer ≡ option_map (λ p. n - p) found → LeastBack condition h answer
back-over condition entries slice checkpoints copies machine n characters h found answer e-entries e-checkpoints keeps view last e =
    let here : IsLastPlace condition entries (first_state checkpoints) n found =
    subst (λ cs. IsLastPlace condition entries (first_state cs) n found) e-checkpoints (subst (λ es. IsLastPlace condition es (first_state copies) n found) e-entries last) in
    subst (λ o. LeastBack condition h o) (sym e) (subst (λ x. LeastBack condition x (option_map (λ p. n - p) found)) view
    (least-back condition entries (first_state checkpoints) n found keeps.counted here))

-- a history of no change
pub begun : (checkpoints : List Checkpoint) (machine : State) (entries : List Entry)
    → checkpoints ≡ record { count = 0; entry = 0; steps = 0; characters = 0; state = machine } ∷ [] → entries ≡ []
    → record { first = first_state checkpoints; changes = changes_of entries } ≡ new_history machine
begun checkpoints machine entries e-checkpoints e-entries =
    let of-first : State → History = λ s. record { first = s; changes = changes_of entries } in
    let of-entries : List Entry → History = λ es. record { first = machine; changes = changes_of es } in
    ap of-first (ap (λ cs. first_state cs) e-checkpoints) ∙ ap of-entries e-entries

pub first-are : (entries : List Entry) (first : State) (old new : List Checkpoint) (count : ℕ) → Earlier entries first old new count → first ≡ first_state old
    → AreCheckpoints entries (first_state new) new
first-are entries first old new count earlier e = subst (λ s. AreCheckpoints entries s new) (e ∙ sym earlier.same) earlier.are

pub stays-here : (entries : List Entry) (n back : ℕ) (first : State) (h : History) → n ≡ length (changes_of entries) → n - back ≡ n
    → record { first = first; changes = changes_of entries } ≡ h → h ≡ without back h
stays-here entries n back first h counted e view = sym view ∙ stays-whole entries n back first counted e ∙ ap (λ x. without back x) view

pub step-over : (h : History) (count left back steps : ℕ) → back ≡ count - left → count ≡ length h.changes → left ≡ length (changes_to_step steps h.changes)
    → without back h ≡ up_to_step steps h
step-over h count left back steps e counted len = ap (λ n. without n h) e ∙ step-is h count left steps counted len
