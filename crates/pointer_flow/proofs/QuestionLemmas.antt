-- What the tables of a flow answer.
use Rattle.std.proofs.Common.{◌≡◌, ◌↔◌, ℕ, ◌<◌, true, false, nat_lt, ◌&&◌, not, List, Option, Some, None, is_some, refl, ap, sym, subst, ◌∙◌}
use Rattle.std.proofs.lemmas.Bool.{and_from, and_parts, false≢true, lt-ltb, ltb-true, not_from_false, not-true}
use Rattle.std.specs.Prelude.{IfSome}
use Rattle.cpu8.specs.State.{place}
use Rattle.cpu8.specs.Decoding.{is_indirect}
use Rattle.flow8.specs.Exits.{referred_cell}
use Rattle.flow8.specs.Flow.{word_in}
use Rattle.pointer_flow.specs.States.{jump_field}
use Rattle.pointer_flow.specs.Programs.{Program, is_auto_index}
use Rattle.pointer_flow.specs.Calls.{call_of}
use Rattle.pointer_flow.specs.Returns.{called_address}
use Rattle.pointer_flow.specs.Flow.{IsKnown, IsLeftOut}
use Rattle.pointer_flow.specs.Questions.{Answers, AnswersCall, HasDataField, HasField, HasJumpField, IsCallIn, IsInstruction, IsJumpPlace, IsStateAt, IsTarget, is_jump}
use Rattle.pointer_flow.specs.Settled.{IsEarliest, IsMarkedAt, IsSettled, refers_through}
use Rattle.pointer_flow.specs.Steps.{settled_field}
use Rattle.pointer_flow.specs.Tables.{FlowTables, GivesPointers, IsFlowOf}
use Rattle.pointer_flow.specs.declared.calls.Call.{Call}
use Rattle.pointer_flow.specs.declared.cell_states.Settled.{Settled}
use Rattle.pointer_flow.specs.declared.cell_states.Settled.TheVariants.{NoState, Field, Several}
use Rattle.pointer_flow.specs.declared.states.State.{State}
use Rattle.pointer_flow.proofs.GrowLemmas.{reached_state}
use Rattle.pointer_flow.proofs.SettledLemmas.{data_field_small, earliest_as, jump_small, settled_as}
use Rattle.pointer_flow.proofs.WalkLemmas.{opens_inside}

-- a state of a cell is marked where it is one of the flow
pub marked_at : (p : Program) (flow : FlowTables) → IsFlowOf p flow → (cell : ℕ) (s : State) → IsMarkedAt flow.reached cell s ↔ IsStateAt p cell s
marked_at p flow is cell s = (
  λ marked. record { at = marked.at; reached = (is.states.states s marked.state).0 marked.marked },
  λ at.
      let state = reached_state p (IsKnown p) (IsLeftOut p) (opens_inside p flow.words is.facts.words_are is.facts.size) s at.reached in
      record { state = state; at = at.at; marked = (is.states.states s state).1 at.reached },
)

pub is_instruction : (p : Program) (flow : FlowTables) → IsFlowOf p flow → (cell : ℕ) → ((s : State) × IsMarkedAt flow.reached cell s) ↔ IsInstruction p cell
is_instruction p flow is cell = (
  λ found. (found.0, (marked_at p flow is cell found.0).0 found.1),
  λ found. (found.0, (marked_at p flow is cell found.0).1 found.1),
)

pub answers_jump : (p : Program) (flow : FlowTables) → IsFlowOf p flow → (cell : ℕ) (settled : Settled)
    → IsSettled (IsMarkedAt flow.reached cell) (λ s. jump_field s.cell s.buffer) settled → Answers (HasJumpField p cell) (settled_field settled)
answers_jump p flow is cell settled has =
    by settled (settled_as (IsMarkedAt flow.reached cell) (IsStateAt p cell) (λ s. jump_field s.cell s.buffer) settled (marked_at p flow is cell) has)
  where
    by : (settled : Settled) → IsSettled (IsStateAt p cell) (λ s. jump_field s.cell s.buffer) settled → Answers (HasJumpField p cell) (settled_field settled)
    by NoState none = λ value field. none field.reached.0 field.reached.1
    by (Field field) all = record { reached = all.0; settled = all.1 }
    by Several never = λ value field. never value field.settled

pub answers_data : (p : Program) (flow : FlowTables) → IsFlowOf p flow → (cell : ℕ) (settled : Settled)
    → IsSettled (IsMarkedAt flow.reached cell) (λ s. s.data_field) settled → Answers (HasDataField p cell) (settled_field settled)
answers_data p flow is cell settled has =
    by settled (settled_as (IsMarkedAt flow.reached cell) (IsStateAt p cell) (λ s. s.data_field) settled (marked_at p flow is cell) has)
  where
    by : (settled : Settled) → IsSettled (IsStateAt p cell) (λ s. s.data_field) settled → Answers (HasDataField p cell) (settled_field settled)
    by NoState none = λ value field. none field.reached.0 field.reached.1
    by (Field field) all = record { reached = all.0; settled = all.1 }
    by Several never = λ value field. never value field.settled

pub jump_range : (bits : List ℕ) (cell : ℕ) (settled : Settled) → IsSettled (IsMarkedAt bits cell) (λ s. jump_field s.cell s.buffer) settled
    → IfSome (settled_field settled) (λ field. field < 8)
jump_range bits cell NoState has = tt
jump_range bits cell (Field field) has = jump_small has.0.0 field has.0.1.state (has.1 has.0.0 has.0.1)
jump_range bits cell Several has = tt

pub data_range : (bits : List ℕ) (cell : ℕ) (settled : Settled) → IsSettled (IsMarkedAt bits cell) (λ s. s.data_field) settled
    → IfSome (settled_field settled) (λ field. field < 8)
data_range bits cell NoState has = tt
data_range bits cell (Field field) has = data_field_small has.0.0 field has.0.1.state (has.1 has.0.0 has.0.1)
data_range bits cell Several has = tt

-- ## Calls

none_some : {X : Type 0} {x : X} → None ≡ Some x → ⊥
none_some is = cc

same_word : {x y : ℕ} → Some x ≡ Some y → x ≡ y
same_word is = cc

pub answers_call : (p : Program) (flow : FlowTables) → IsFlowOf p flow → (cell word : ℕ) (found : Option Call) → p.words cell ≡ Some word
    → IsEarliest (IsMarkedAt flow.reached cell) (λ s. call_of p s word) found → AnswersCall p cell found
answers_call p flow is cell word found given has =
    by found (earliest_as (IsMarkedAt flow.reached cell) (IsStateAt p cell) (λ s. call_of p s word) found (marked_at p flow is cell) has)
  where
    at_word : (call : Call) (in_cell : IsCallIn p cell call) → call_of p in_cell.s word ≡ Some call
    at_word call in_cell = ap (call_of p in_cell.s) (same_word (sym given ∙ in_cell.given)) ∙ in_cell.is

    by : (found : Option Call) → IsEarliest (IsStateAt p cell) (λ s. call_of p s word) found → AnswersCall p cell found
    by None none = λ call in_cell. none_some (sym (none in_cell.s in_cell.state) ∙ at_word call in_cell)
    by (Some call) first = record {
      is = record { s = first.0.0; state = first.0.1; word = word; given = given; is = first.0.2 };
      first = λ other in_cell. first.1 in_cell.s other in_cell.state (at_word other in_cell);
    }

pub no_call : (p : Program) (cell : ℕ) → p.words cell ≡ None → AnswersCall p cell None
no_call p cell none = λ call in_cell. none_some (sym none ∙ in_cell.given)

-- ## Pointers

pub answers_known : (p : Program) (pointers : List (Option ℕ)) (pointer : ℕ) → GivesPointers pointers (IsKnown p) → Answers (IsKnown p pointer) (word_in pointers pointer)
answers_known p pointers pointer gives = by (word_in pointers pointer) refl
  where
    by : (o : Option ℕ) → word_in pointers pointer ≡ o → Answers (IsKnown p pointer) o
    by None is = λ word known. none_some (sym is ∙ (gives.words pointer word).1 known)
    by (Some word) is = (gives.words pointer word).0 is

-- ## Targets

pub no_word_target : (p : Program) (cell : ℕ) → p.words cell ≡ None → Answers (IsTarget p cell) None
no_word_target p cell none = λ target is. none_some (sym none ∙ is.given)

pub no_reference_target : (p : Program) (cell word : ℕ) → p.words cell ≡ Some word → refers_through cell word ≡ false → Answers (IsTarget p cell) None
no_reference_target p cell word given lacks = λ target is.
    let same : is.word ≡ word = same_word (sym is.given ∙ given) in
    let through : refers_through cell is.word ≡ true =
    and_from (nat_lt is.word 0o6000) (is_indirect is.word && not (is_auto_index (referred_cell cell is.word))) (lt-ltb is.word 0o6000 is.is_reference)
    (and_from (is_indirect is.word) (not (is_auto_index (referred_cell cell is.word))) is.indirect
    (not_from_false (is_auto_index (referred_cell cell is.word)) is.no_auto_index)) in
    false≢true (sym lacks ∙ ap (refers_through cell) (sym same) ∙ through)

pub no_known_target : (p : Program) (cell word : ℕ) → p.words cell ≡ Some word → Answers (IsKnown p (referred_cell cell word)) None
    → Answers (IsTarget p cell) None
no_known_target p cell word given none = λ target is.
    none is.address (subst (λ w. IsKnown p (referred_cell cell w) is.address) (same_word (sym is.given ∙ given)) is.known)

pub call_target : (p : Program) (cell : ℕ) (call : Option Call) → AnswersCall p cell call → is_some call ≡ true → Answers (IsTarget p cell) None
call_target p cell None answer some = absurd (false≢true some)
call_target p cell (Some call) answer some = λ target is. is.no_call call answer.is

pub no_field_target : (p : Program) (cell word : ℕ) → p.words cell ≡ Some word → Answers (HasField p cell (nat_lt word 0o4000)) None
    → Answers (IsTarget p cell) None
no_field_target p cell word given none = λ target is.
    none is.field (subst (λ w. HasField p cell (nat_lt w 0o4000) is.field) (same_word (sym is.given ∙ given)) is.settled)

pub target_is : (p : Program) (cell word address field target : ℕ) (call : Option Call) → p.words cell ≡ Some word → refers_through cell word ≡ true
    → IsKnown p (referred_cell cell word) address → AnswersCall p cell call → is_some call ≡ false → HasField p cell (nat_lt word 0o4000) field
    → target ≡ place field address → IsTarget p cell target
target_is p cell word address field target call given through known answer none settled is =
    let parts = and_parts (nat_lt word 0o6000) (is_indirect word && not (is_auto_index (referred_cell cell word))) through in
    let more = and_parts (is_indirect word) (not (is_auto_index (referred_cell cell word))) parts.1 in
    record {
      word = word;
      given = given;
      is_reference = ltb-true word 0o6000 parts.0;
      indirect = more.0;
      no_auto_index = not-true (is_auto_index (referred_cell cell word)) more.1;
      no_call = without call answer none;
      address = address;
      known = known;
      field = field;
      settled = settled;
      is = is;
    }
  where
    without : (call : Option Call) → AnswersCall p cell call → is_some call ≡ false → (other : Call) → IsCallIn p cell other → ⊥
    without None answer none = answer
    without (Some other) answer none = absurd (false≢true (sym none))

-- ## Places of jumps

pub no_word_place : (p : Program) (cell : ℕ) → p.words cell ≡ None → Answers (IsJumpPlace p cell) None
no_word_place p cell none = λ entered is. none_some (sym none ∙ is.given)

pub no_jump_place : (p : Program) (cell word : ℕ) → p.words cell ≡ Some word → is_jump word ≡ false → Answers (IsJumpPlace p cell) None
no_jump_place p cell word given lacks = λ entered is. false≢true (sym lacks ∙ ap is_jump (sym (same_word (sym is.given ∙ given))) ∙ is.jumps)

pub no_address_place : (p : Program) (cell word : ℕ) → p.words cell ≡ Some word → called_address p.words cell word ≡ None
    → Answers (IsJumpPlace p cell) None
no_address_place p cell word given none = λ entered is.
    none_some (sym none ∙ ap (called_address p.words cell) (sym (same_word (sym is.given ∙ given))) ∙ is.called)

pub call_place : (p : Program) (cell : ℕ) (call : Option Call) → AnswersCall p cell call → is_some call ≡ true → Answers (IsJumpPlace p cell) None
call_place p cell None answer some = absurd (false≢true some)
call_place p cell (Some call) answer some = λ entered is. is.no_call call answer.is

pub no_field_place : (p : Program) (cell : ℕ) → Answers (HasJumpField p cell) None → Answers (IsJumpPlace p cell) None
no_field_place p cell none = λ entered is. none is.field is.settled

pub place_is : (p : Program) (cell word address field entered : ℕ) (call : Option Call) → p.words cell ≡ Some word → is_jump word ≡ true
    → called_address p.words cell word ≡ Some address → AnswersCall p cell call → is_some call ≡ false → HasJumpField p cell field
    → entered ≡ place field address → IsJumpPlace p cell entered
place_is p cell word address field entered call given jumps called answer none settled is = record {
  word = word;
  given = given;
  jumps = jumps;
  no_call = without call answer none;
  address = address;
  called = called;
  field = field;
  settled = settled;
  is = is;
}
  where
    without : (call : Option Call) → AnswersCall p cell call → is_some call ≡ false → (other : Call) → IsCallIn p cell other → ⊥
    without None answer none = answer
    without (Some other) answer none = absurd (false≢true (sym none))
