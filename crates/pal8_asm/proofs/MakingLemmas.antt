-- Entries, one after the other.
use Rattle.std.proofs.Common.{◌≡◌, ℕ, ◌+◌, ◌-◌, ◌*◌, ◌/◌, ◌%◌, ◌≤◌, suc, Bool, if◌then◌else◌, Option, Some, None, Result, Ok, Err, length, get_or, take, drop, List, [], ◌∷◌, ◌++◌, refl, sym, ap, subst, ◌∙◌, arith}
use Rattle.std.proofs.lemmas.List.{take_all, append_assoc, append-nil, length-append, length-drop, take-append-le, drop-append-le}
use Rattle.std.proofs.Math.Path.{fun_ext}
use Rattle.std.proofs.Math.Seq.{take-length}
use Rattle.word12.specs.declared.sizes.TheConstants.{PAGE}
use Rattle.pal8_pools.specs.Asks.{Ask}
use Rattle.pal8_pools.specs.Cells.{ArePairs}
use Rattle.pal8_pools.specs.Pooled.{PoolTable}
use Rattle.pal8_pools.specs.Clashes.{AreMarks, OthersStay, lowest_clash, with_word}
use Rattle.pal8_grammar.specs.declared.steps.Step.{Step}
use Rattle.pal8_grammar.specs.declared.steps.Step.TheVariants as step
use Rattle.pal8_values.specs.Sums.{Meanings}
use Rattle.pal8_values.specs.Words.{AskResult, word_value}
use Rattle.pal8_values.specs.Answering.{IsAsked, IsFault}
use Rattle.pal8_values.specs.Laws.{GoesNear, WordsAskNear}
use Rattle.pal8_values.specs.declared.sums.Spot.{Spot}
use Rattle.pal8_values.specs.declared.faults.ValueFault.{ValueFault}
use Rattle.pal8_values.specs.declared.faults.ValueFault.TheVariants as value
use Rattle.pal8_asm.specs.Kept.{cut, entry_of, total}
use Rattle.pal8_places.specs.Places.{code_of}
use Rattle.pal8_asm.specs.Sources.{Entry, at_place, entry_with, number_or, resolved_step, with_values}
use Rattle.pal8_asm.specs.Tapes.{TapeWords, clash_fault, first_of, is_last_late, late_after, late_fault, late_value, late_values, spot_of, unless_fault, with_entries, with_entry, with_entry_by, with_made, with_word_entry}
use Rattle.pal8_asm.specs.Making.{IsMaking}
use Rattle.pal8_asm.specs.Steps.{AddsPool, GivesAt, IsFaultAt, IsJudgedLate, Makes, fault_at}
use Rattle.pal8_asm.specs.declared.faults.Fault.{Fault}
use Rattle.pal8_asm.specs.declared.faults.Place.{Place}
use Rattle.pal8_asm.specs.declared.entries.Head.{Head}
use Rattle.pal8_asm.specs.declared.entries.Late.{Late}
use Rattle.pal8_asm.specs.declared.faults.AsmFault.{AsmFault}
use Rattle.pal8_asm.specs.declared.faults.AsmFault.TheVariants.{At, Memory}

-- The rest of the entries comes to what all of them come to.
pub record IsOnTheWay (own late : Meanings) (whole : Result TapeWords Fault) (heads : List Head) (steps : List Step) (pools : PoolTable) (marks : List Bool) (clash : Option Fault)
    (pairs : List (ℕ × ℕ)) : Type 0 where
  pub so_far : Result TapeWords Fault
  pub same : with_entries own late (cut heads steps) so_far ≡ whole
  pub making : IsMaking so_far pools marks clash pairs

entry_stays : (own late : Meanings) (e : Entry) (fault : Fault) → with_entry own late e (Err fault) ≡ Err fault
entry_stays own late e fault = by_late e.late
  where
    by_late : (definition : Option Late) → with_entry_by own late e definition (Err fault) ≡ Err fault
    by_late None = refl
    by_late (Some d) = refl

pub entries_stay : (own late : Meanings) (entries : List Entry) (fault : Fault) → with_entries own late entries (Err fault) ≡ Err fault
entries_stay own late [] fault = refl
entries_stay own late (e ∷ others) fault =
    ap (with_entries own (late_after own e late) others) (entry_stays own late e fault) ∙ entries_stay own (late_after own e late) others fault

-- ## Heads

-- what stands after the first of a list
abbrev pub following : {A : Type 0} → List A → List A
following l = take (length l - 1) (drop 1 l)

less_one : (n : ℕ) → suc n - 1 ≡ n
less_one n = omega arith

pub first_one : {A : Type 0} (l : List A) (a : A) → 1 ≤ length l → a ≡ get_or l 0 a → l ≡ a ∷ following l
first_one [] a long first = absurd (omega (arith, long))
first_one (x ∷ others) a long first =
    ap (λ v. v ∷ others) (sym first)
    ∙ ap (λ l. a ∷ l) (sym (ap (λ n. take n others) (less_one (length others)) ∙ take_all (length others) others (omega arith)))

-- the steps of the other heads are there
pub others_fit : (heads : List Head) (h : Head) (steps rest : List Step) → 1 ≤ length heads → h ≡ get_or heads 0 h → rest ≡ drop h.count steps → total heads ≤ length steps
    → total (following heads) ≤ length rest
others_fit heads h steps rest long first is fits = omega (arith, ap total (first_one heads h long first), ap length is, length-drop h.count steps, fits)

-- an entry was seen, and the others stay to be seen
pub late_goes_on : (own : Meanings) (is_late : ℕ → Bool) (heads : List Head) (h : Head) (steps its rest : List Step) (late late' : Meanings) → 1 ≤ length heads
    → h ≡ get_or heads 0 h → its ≡ take h.count steps → rest ≡ drop h.count steps
    → late' ≡ (if is_last_late is_late h.late then late_after own (entry_of h its) late else late)
    → late_values own is_late (cut (following heads) rest) late' ≡ late_values own is_late (cut heads steps) late
late_goes_on own is_late heads h steps its rest late late' long first front back comes =
    ap (late_values own is_late (cut (following heads) rest)) comes
    ∙ ap (λ l. late_values own is_late (cut (following heads) rest) (if is_last_late is_late h.late then late_after own (entry_of h l) late else late)) front
    ∙ ap (λ l. late_values own is_late (cut (following heads) l) (if is_last_late is_late h.late then late_after own (entry_of h (take h.count steps)) late else late)) back
    ∙ ap (λ l. late_values own is_late (cut l steps) late) (sym (first_one heads h long first))

-- ## Entries

abbrev entry : Head → List Step → Entry
entry h steps = entry_of h (take h.count steps)

-- an entry that fails makes all fail
pub entry_fails : (own late : Meanings) (whole : Result TapeWords Fault) (heads : List Head) (h : Head) (steps : List Step) (pools pools' : PoolTable) (marks marks' : List Bool)
    (clash clash' : Option Fault) (pairs pairs' : List (ℕ × ℕ)) (fault : AsmFault) → 1 ≤ length heads → h ≡ get_or heads 0 h
    → (way : IsOnTheWay own late whole heads steps pools marks clash pairs) → Makes (with_entry own late (entry h steps) way.so_far) (Err fault) pools' marks' clash' pairs'
    → Makes whole (Err fault) pools' marks' clash' pairs'
entry_fails own late whole [] h steps pools pools' marks marks' clash clash' pairs pairs' fault long first way fails = absurd (omega (arith, long))
entry_fails own late whole (x ∷ others) h steps pools pools' marks marks' clash clash' pairs pairs' (At code place) long first way fails =
    sym way.same ∙ ap (λ e. with_entries own (late_after own (entry e steps) late) (cut others (drop x.count steps)) (with_entry own late (entry e steps) way.so_far)) (sym first)
    ∙ ap (with_entries own (late_after own (entry h steps) late) (cut others (drop x.count steps))) fails
    ∙ entries_stay own (late_after own (entry h steps) late) (cut others (drop x.count steps)) _
entry_fails own late whole (x ∷ others) h steps pools pools' marks marks' clash clash' pairs pairs' Memory long first way fails = tt

-- an entry was made, and the others stay to be made
pub entry_made : (own late late' : Meanings) (whole : Result TapeWords Fault) (heads others : List Head) (h : Head) (steps later : List Step) (pools pools' : PoolTable)
    (marks marks' : List Bool) (clash clash' : Option Fault) (pairs pairs' : List (ℕ × ℕ)) → heads ≡ h ∷ others → later ≡ drop h.count steps
    → late' ≡ late_after own (entry h steps) late → (way : IsOnTheWay own late whole heads steps pools marks clash pairs)
    → IsMaking (with_entry own late (entry h steps) way.so_far) pools' marks' clash' pairs' → IsOnTheWay own late' whole others later pools' marks' clash' pairs'
entry_made own late late' whole heads others h steps later pools pools' marks marks' clash clash' pairs pairs' are left comes way making = record {
  so_far = with_entry own late (entry h steps) way.so_far;
  same =
      ap (λ l. with_entries own l (cut others later) (with_entry own late (entry h steps) way.so_far)) comes
      ∙ ap (λ l. with_entries own (late_after own (entry h steps) late) (cut others l) (with_entry own late (entry h steps) way.so_far)) left
      ∙ ap (λ l. with_entries own late (cut l steps) way.so_far) (sym are) ∙ way.same;
  making = making;
}

-- a late definition has no fault
pub late_judged : (own late : Meanings) (e : Entry) (d : Late) (whole : Result TapeWords Fault) (pools : PoolTable) (marks : List Bool) (clash : Option Fault) (pairs : List (ℕ × ℕ))
    → e.late ≡ Some d → late_fault e d (late_value own e d) ≡ None → IsMaking whole pools marks clash pairs → IsMaking (with_entry own late e whole) pools marks clash pairs
late_judged own late e d whole pools marks clash pairs is none making = record {
  made = making.made;
  is_whole = ap (λ o. with_entry_by own late e o whole) is ∙ ap (λ o. unless_fault o whole) none ∙ ap (unless_fault None) making.is_whole;
  words = making.words;
  holds = making.holds;
  marked = making.marked;
  clashes = making.clashes;
  free = making.free;
}

-- a late definition has a fault
pub late_fails : (own late : Meanings) (e : Entry) (d : Late) (whole : Result TapeWords Fault) (pools pools' : PoolTable) (marks marks' : List Bool) (clash clash' : Option Fault)
    (pairs pairs' : List (ℕ × ℕ)) (fault : AsmFault) → e.late ≡ Some d → IsJudgedLate (late_fault e d (late_value own e d)) (Err fault) → IsMaking whole pools marks clash pairs
    → Makes (with_entry own late e whole) (Err fault) pools' marks' clash' pairs'
late_fails own late e d whole pools pools' marks marks' clash clash' pairs pairs' (At code place) is fails making =
    ap (λ o. with_entry_by own late e o whole) is ∙ ap (λ o. unless_fault o whole) fails ∙ ap (unless_fault (Some (at_place place code))) making.is_whole
late_fails own late e d whole pools pools' marks marks' clash clash' pairs pairs' Memory is fails making = tt

-- an entry that is a word
pub word_made : (own late : Meanings) (e : Entry) (whole : Result TapeWords Fault) (pools : PoolTable) (marks : List Bool) (clash : Option Fault) (pairs : List (ℕ × ℕ))
    (result : Result (Unit {0}) AsmFault) → e.late ≡ None → Makes (with_word_entry own e (with_values late e.steps) whole) result pools marks clash pairs
    → Makes (with_entry own late e whole) result pools marks clash pairs
word_made own late e whole pools marks clash pairs result is makes =
    subst (λ o. Makes (with_entry_by own late e o whole) result pools marks clash pairs) (sym is) makes

-- ## One word more

abbrev fault_or : {A : Type 0} → Fault → Result A Fault → Fault
fault_or other (Err fault) = fault
fault_or other (Ok a) = other

coded_word : (e : Entry) (made : TapeWords) (whole : AskResult) (fault : Fault) → fault_at e.place whole ≡ Err fault → with_made e made whole ≡ Err fault
coded_word e made (Err why) fault is = ap Err (ap (fault_or fault) is)
coded_word e made (Ok asked) fault is = absurd cc

-- the answer of a word with this value
abbrev pub as_asked : Result ℕ ValueFault → AskResult
as_asked (Err fault) = Err fault
as_asked (Ok v) = Ok (v, [], [])

pub asked_fault : (r : Result ℕ ValueFault) (fault : ValueFault) → IsFault r fault → IsFault (as_asked r) fault
asked_fault r (value.UA name) is = ap as_asked is
asked_fault r value.PF is = ap as_asked is
asked_fault r value.DZ is = ap as_asked is
asked_fault r value.IR is = ap as_asked is
asked_fault r value.II is = ap as_asked is
asked_fault r value.PE is = ap as_asked is
asked_fault r value.ZE is = ap as_asked is
asked_fault r value.RL is = ap as_asked is
asked_fault r value.Memory is = tt

-- a late definition without value
pub value_fails : (e : Entry) (d : Late) (r : Result ℕ ValueFault) (fault : AsmFault) → IsFaultAt e.place (as_asked r) fault → IsJudgedLate (late_fault e d r) (Err fault)
value_fails e d (Err why) (At code place) is = ap (λ r. Some (fault_or (at_place e.place (code_of why)) r)) is
value_fails e d (Ok v) (At code place) is = absurd cc
value_fails e d (Err why) Memory is = tt
value_fails e d (Ok v) Memory is = tt

same_made : (h : Head) (a b : List Step) (made : TapeWords) (r : AskResult) → with_made (entry_of h a) made r ≡ with_made (entry_of h b) made r
same_made h a b made (Err why) = refl
same_made h a b made (Ok (word, asks, punched)) = refl

-- the word of these steps
same_word : (own : Meanings) (h : Head) (a b steps : List Step) (whole : Result TapeWords Fault)
    → with_word_entry own (entry_of h a) steps whole ≡ with_word_entry own (entry_of h b) steps whole
same_word own h a b steps (Err fault) = refl
same_word own h a b steps (Ok made) = same_made h a b made (word_value own (spot_of (entry_of h a)) steps made.asks made.punched)

-- a word was made by the steps that late definitions leave
pub known_made : (own late : Meanings) (h : Head) (steps put : List Step) (whole : Result TapeWords Fault) (pools : PoolTable) (marks : List Bool) (clash : Option Fault)
    (pairs : List (ℕ × ℕ)) (result : Result (Unit {0}) AsmFault) → put ≡ with_values late steps
    → Makes (with_word_entry own (entry_of h put) put whole) result pools marks clash pairs
    → Makes (with_word_entry own (entry_of h steps) (with_values late steps) whole) result pools marks clash pairs
known_made own late h steps put whole pools marks clash pairs result is makes =
    subst (λ r. Makes r result pools marks clash pairs)
    (ap (λ l. with_word_entry own (entry_of h l) l whole) is ∙ same_word own h (with_values late steps) steps (with_values late steps) whole) makes

step_stays : (late : Meanings) → ((n : ℕ) → late n ≡ None) → (s : Step) → s ≡ resolved_step late s
step_stays late none (step.Operation word) = refl
step_stays late none step.Alone = refl
step_stays late none step.Indirect = refl
step_stays late none (step.Name name) = sym (ap (number_or (step.Name name)) (none name))
step_stays late none (step.Permanent name value) = sym (ap (number_or (step.Permanent name value)) (none name))
step_stays late none (step.Number word) = refl
step_stays late none step.Here = refl
step_stays late none (step.Sign op) = refl
step_stays late none (step.Open pool) = refl
step_stays late none step.Close = refl

-- where no name has a value by a late definition, steps stay
pub none_known : (late : Meanings) → ((n : ℕ) → late n ≡ None) → (steps : List Step) → steps ≡ with_values late steps
none_known late none [] = refl
none_known late none (s ∷ others) = ap (λ t. t ∷ others) (step_stays late none s) ∙ ap (λ l. resolved_step late s ∷ l) (none_known late none others)

-- a word that fails
pub word_fails : (last : Meanings) (e : Entry) (steps : List Step) (whole : Result TapeWords Fault) (pools pools' : PoolTable) (marks marks' : List Bool) (clash clash' : Option Fault)
    (pairs pairs' : List (ℕ × ℕ)) (fault : AsmFault) (making : IsMaking whole pools marks clash pairs)
    → GivesAt e.place (word_value last (spot_of e) steps making.made.asks making.made.punched) (Err fault) pools' → Makes (with_word_entry last e steps whole) (Err fault) pools' marks' clash' pairs'
word_fails last e steps whole pools pools' marks marks' clash clash' pairs pairs' (At code place) making gives =
    ap (with_word_entry last e steps) making.is_whole ∙ coded_word e making.made _ _ gives
word_fails last e steps whole pools pools' marks marks' clash clash' pairs pairs' Memory making gives = tt

none_or : (clash : Option Fault) (place : Place) (found lowest : Option ℕ) → (clash ≡ None → found ≡ lowest) → first_of clash (clash_fault place found) ≡ first_of clash (clash_fault place lowest)
none_or None place found lowest is = ap (clash_fault place) (is refl)
none_or (Some fault) place found lowest is = refl

-- no fault of a clash is no clash
pub free_by : (clash : Option Fault) (place : Place) (lowest : Option ℕ) → first_of clash (clash_fault place lowest) ≡ None → lowest ≡ None
free_by None place None is = refl
free_by None place (Some c) is = absurd cc
free_by (Some fault) place lowest is = absurd cc

-- a word that was made, and put at its cell
pub word_goes_on : (last : Meanings) (e : Entry) (steps : List Step) (whole : Result TapeWords Fault) (pools pools' : PoolTable) (marks marks' : List Bool) (clash : Option Fault)
    (pairs pairs' : List (ℕ × ℕ)) (word : ℕ) (found : Option ℕ) (making : IsMaking whole pools marks clash pairs)
    → (asked : IsAsked (word_value last (spot_of e) steps making.made.asks making.made.punched) word pools')
    → pairs' ≡ with_word e.is_punched e.cell word pairs → AreMarks marks' (with_word e.is_punched e.cell word making.made.words)
    → (lowest_clash making.made.asks making.made.words ≡ None → found ≡ lowest_clash asked.asks (with_word e.is_punched e.cell word making.made.words))
    → IsMaking (with_word_entry last e steps whole) pools' marks' (first_of clash (clash_fault e.place found)) pairs'
word_goes_on last e steps whole pools pools' marks marks' clash pairs pairs' word found making asked are marked lowest = record {
  made = record {
    words = with_word e.is_punched e.cell word making.made.words;
    asks = asked.asks;
    punched = asked.punched;
    clash = first_of making.made.clash (clash_fault e.place (lowest_clash asked.asks (with_word e.is_punched e.cell word making.made.words)));
  };
  is_whole = ap (with_word_entry last e steps) making.is_whole ∙ ap (with_made e making.made) asked.is_whole;
  words = are ∙ ap (with_word e.is_punched e.cell word) making.words;
  holds = asked.holds;
  marked = marked;
  clashes =
      ap (λ o. first_of o (clash_fault e.place found)) making.clashes
      ∙ none_or making.made.clash e.place found _ (λ none. lowest (making.free none));
  free = free_by making.made.clash e.place _;
}

-- the asks of a word leave those of far pages
pub others_stay : WordsAskNear → (last : Meanings) (spot : Spot) (steps : List Step) (asks punched : List Ask) (word : ℕ) (pools : PoolTable)
    → (asked : IsAsked (word_value last spot steps asks punched) word pools) → OthersStay spot.field (spot.location / PAGE) asks asked.asks
others_stay law last spot steps asks punched word pools asked = (subst (λ r. GoesNear spot asks r) asked.is_whole (law last spot steps asks punched)).others

-- ## One entry more

pub total_more : (heads : List Head) (h : Head) → total (heads ++ h ∷ []) ≡ total heads + h.count
total_more [] h = omega arith
total_more (x ∷ heads) h = ap (λ n. x.count + n) (total_more heads h) ∙ omega arith

-- a head more, and its own steps after the others
pub cut_more : (heads : List Head) (steps own : List Step) (h : Head) → total heads ≡ length steps → h.count ≡ length own
    → cut (heads ++ h ∷ []) (steps ++ own) ≡ cut heads steps ++ entry_of h own ∷ []
cut_more [] [] own h fits count =
    ap (λ l. entry_of h l ∷ []) (ap (λ n. take n own) count ∙ take-length own)
cut_more [] (s ∷ steps) own h fits count = absurd (omega (arith, fits))
cut_more (x ∷ heads) steps own h fits count =
    let long : x.count ≤ length steps = omega (arith, fits) in
    ap (λ l. entry_of x l ∷ cut (heads ++ h ∷ []) (drop x.count (steps ++ own))) (take-append-le x.count steps own long)
    ∙ ap (λ l. entry x steps ∷ cut (heads ++ h ∷ []) l) (drop-append-le x.count steps own long)
    ∙ ap (λ l. entry x steps ∷ l) (cut_more heads (drop x.count steps) own h (rest_fits x.count (total heads) steps fits) count)
  where
    rest_fits : (n m : ℕ) (steps : List Step) → n + m ≡ length steps → m ≡ length (drop n steps)
    rest_fits n m steps is = omega (arith, is, length-drop n steps)

resolved_length : (kept : Meanings) (steps : List Step) → length (with_values kept steps) ≡ length steps
resolved_length kept [] = refl
resolved_length kept (s ∷ steps) = ap suc (resolved_length kept steps)

module _ (heads heads1 heads2 : List Head) (steps steps1 steps2 own : List Step) (kept : Meanings) (h : Head) (heads_stay : heads1 ≡ heads) (heads_are : heads2 ≡ heads1 ++ h ∷ [])
    (steps_stay : steps1 ≡ steps) (steps_are : steps2 ≡ steps1 ++ with_values kept own) (fits : total heads ≡ length steps) (count : h.count ≡ length own) where
  pub still_fits : total heads2 ≡ length steps2
  still_fits =
      ap total (heads_are ∙ ap (λ l. l ++ h ∷ []) heads_stay) ∙ total_more heads h
      ∙ omega (arith, fits, count, resolved_length kept own, length-append steps (with_values kept own), ap length (steps_are ∙ ap (λ l. l ++ with_values kept own) steps_stay))

  pub one_more : cut heads2 steps2 ≡ cut heads steps ++ entry_of h (with_values kept own) ∷ []
  one_more =
      ap (λ l. cut l steps2) (heads_are ∙ ap (λ l. l ++ h ∷ []) heads_stay)
      ∙ ap (cut (heads ++ h ∷ [])) (steps_are ∙ ap (λ l. l ++ with_values kept own) steps_stay)
      ∙ cut_more heads steps (with_values kept own) h fits (count ∙ sym (resolved_length kept own))

-- the entry of a word's head is that of where it stands
pub same_entry : (late : Option Late) (place : Place) (spot : Spot) (cell here count : ℕ) (steps : List Step) → cell ≡ 4096 * spot.field + spot.location % 0o10000
    → here ≡ spot.here % 0o10000
    → entry_of record { late = late; place = place; cell = cell; here = here; is_punched = spot.is_punched; may_link = spot.may_link; zero_stay = spot.zero_stay; page_stay = spot.page_stay; count = count } steps ≡ entry_with late place spot steps
same_entry late place spot cell here count steps cell_is here_is =
    ap (λ n. entry_of record { late = late; place = place; cell = n; here = here; is_punched = spot.is_punched; may_link = spot.may_link; zero_stay = spot.zero_stay; page_stay = spot.page_stay; count = count } steps) cell_is
    ∙ ap (λ n. entry_of record { late = late; place = place; cell = 4096 * spot.field + spot.location % 0o10000; here = n; is_punched = spot.is_punched; may_link = spot.may_link; zero_stay = spot.zero_stay; page_stay = spot.page_stay; count = count } steps) here_is

-- entries were made, over what names have at last by late definitions
pub made_at_last : (own : Meanings) (is_late : ℕ → Bool) (first found : Meanings) (entries found_in made_of : List Entry) (whole : Result TapeWords Fault) (pools : PoolTable)
    (marks : List Bool) (clash : Option Fault) (pairs : List (ℕ × ℕ)) (result : Result (Unit {0}) AsmFault) → ((n : ℕ) → first n ≡ None)
    → found ≡ late_values own is_late found_in first → found_in ≡ entries → made_of ≡ entries → Makes (with_entries own found made_of whole) result pools marks clash pairs
    → Makes (with_entries own (late_values own is_late entries (λ n. None)) entries whole) result pools marks clash pairs
made_at_last own is_late first found entries found_in made_of whole pools marks clash pairs result none is found_is made_is makes =
    subst (λ r. Makes r result pools marks clash pairs)
    (ap (λ f. with_entries own f made_of whole)
    (is ∙ ap (late_values own is_late found_in) (fun_ext none) ∙ ap (λ l. late_values own is_late l (λ n. None)) found_is)
    ∙ ap (λ l. with_entries own (late_values own is_late entries (λ n. None)) l whole) made_is) makes

-- ## Pools

-- The cells that are left come after those that were put.
pub record IsAdding (asks punched : List Ask) (old pairs left : List (ℕ × ℕ)) : Type 0 where
  pub pool : List (ℕ × ℕ)
  pub is_pool : ArePairs asks punched pool
  pub same : pairs ++ left ≡ old ++ pool

pub adds_none : (asks punched : List Ask) (old left : List (ℕ × ℕ)) → ArePairs asks punched left → IsAdding asks punched old old left
adds_none asks punched old left are = record { pool = left; is_pool = are; same = refl }

pub adds_one : (asks punched : List Ask) (old pairs pairs' left left' : List (ℕ × ℕ)) (pair : ℕ × ℕ) → IsAdding asks punched old pairs left → left ≡ pair ∷ left'
    → pairs' ≡ pairs ++ pair ∷ [] → IsAdding asks punched old pairs' left'
adds_one asks punched old pairs pairs' left left' pair adding is are = record {
  pool = adding.pool;
  is_pool = adding.is_pool;
  same = ap (λ l. l ++ left') are ∙ append_assoc pairs (pair ∷ []) left' ∙ ap (λ l. pairs ++ l) (sym is) ∙ adding.same;
}

pub adds_all : (asks punched : List Ask) (old pairs left : List (ℕ × ℕ)) → IsAdding asks punched old pairs left → left ≡ [] → AddsPool asks punched old pairs
adds_all asks punched old pairs left adding none = record {
  pool = adding.pool;
  are = sym (append-nil pairs) ∙ ap (λ l. pairs ++ l) (sym none) ∙ adding.same;
  is_pool = adding.is_pool;
}
