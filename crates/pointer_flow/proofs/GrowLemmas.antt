-- That more pointers reach more and write more.
use Rattle.std.proofs.Common.{◌≡◌, inl, inr, ℕ, ◌+◌, ◌/◌, ◌%◌, ◌<◌, Bool, true, false, nat_eq, ◌||◌, if◌then◌else◌, List, [], ◌∷◌, Option, Some, None, option_to_list, refl, sym, subst, arith}
use Rattle.std.proofs.lemmas.Bool.{false≢true}
use Rattle.word12.specs.declared.sizes.TheConstants.{CORE, FIELD}
use Rattle.cpu8.specs.Decoding.{is_indirect}
use Rattle.flow8.specs.Exits.{cell_after, operate_exits, referred_cell}
use Rattle.flow8.specs.Flow.{IsAmong}
use Rattle.pointer_flow.specs.States.{IsBuffer, IsDataField, IsOneOf, IsState, jump_field}
use Rattle.pointer_flow.specs.Programs.{Program, is_auto_index, is_open, place_in}
use Rattle.pointer_flow.specs.Calls.{call_of, changes_fields, form_at, call_returns}
use Rattle.pointer_flow.specs.Next.{at_exits, cell_state, goes_on, iot_states, is_bsw, is_mq, isz_states, jmp_states, jms_states, jms_states_of, jump_state, jump_through, jump_to, may_iot_skip, may_skip, next_states, operate_states, return_states, with_cell, with_fields, with_fields_unknown, with_state, interrupt_state}
use Rattle.pointer_flow.specs.Returns.{first_cell, returns_to}
use Rattle.pointer_flow.specs.Writes.{counts_up, jms_writes, jms_writes_of, store_writes, stored_cells, written_cells}
use Rattle.pointer_flow.specs.Flow.{IsFollowed, MaySkip, Reaches, start, goes, Writes}
use Rattle.pointer_flow.specs.declared.calls.Call.{Call}
use Rattle.pointer_flow.specs.declared.states.Buffer.TheVariants.{Number}
use Rattle.pointer_flow.specs.declared.states.State.{State}

-- ## Options of which one has what the other has

abbrev pub IsWithin : {A : Type 0} → Option A → Option A → Type 0
IsWithin None other = Unit {0}
IsWithin (Some x) other = other ≡ Some x

within_same : {A : Type 0} (o : Option A) → IsWithin o o
within_same None = tt
within_same (Some x) = refl

-- ## Next states

one_if : (b : Bool) (n : State) (xs ys xs' ys' : List State) → (IsOneOf n xs → IsOneOf n xs') → (IsOneOf n ys → IsOneOf n ys')
    → IsOneOf n (if b then xs else ys) → IsOneOf n (if b then xs' else ys')
one_if true n xs ys xs' ys' first second is = first is
one_if false n xs ys xs' ys' first second is = second is

one_same : (n : State) (xs : List State) → IsOneOf n xs → IsOneOf n xs
one_same n xs is = is

isz_grows : (s n : State) (skips skips' : Bool) → (skips ≡ true → skips' ≡ true) → IsOneOf n (isz_states s skips) → IsOneOf n (isz_states s skips')
isz_grows s n true true within is = is
isz_grows s n true false within is = absurd (false≢true (within refl))
isz_grows s n false false within is = is
isz_grows s n false true within (inl same) = inl same
isz_grows s n false true within (inr never) = absurd never

with_grows : (n : State) (o o' : Option State) (xs : List State) → IsWithin o o' → IsOneOf n (with_state o xs) → IsOneOf n (with_state o' xs)
with_grows n None None xs within is = is
with_grows n None (Some x) xs within is = inr is
with_grows n (Some x) o' xs within is = subst (λ o. IsOneOf n (with_state o xs)) (sym within) is

if_within : (indirect auto : Bool) (x y y' : Option State) → IsWithin y y'
    → IsWithin (if indirect then (if auto then None else y) else x) (if indirect then (if auto then None else y') else x)
if_within true true x y y' within = tt
if_within true false x y y' within = within
if_within false true x y y' within = within_same x
if_within false false x y y' within = within_same x

jump_within : (s : State) (word more : ℕ) (pointer pointer' : Option ℕ) → IsWithin pointer pointer'
    → IsWithin (jump_state s word pointer more) (jump_state s word pointer' more)
jump_within s word more pointer pointer' within =
    if_within (is_indirect word) (is_auto_index (referred_cell s.cell word))
    (jump_to (jump_field s.cell s.buffer) ((referred_cell s.cell word % FIELD + more) % FIELD) s.data_field)
    (jump_through s pointer more) (jump_through s pointer' more) (through pointer within)
  where
    through : (pointer : Option ℕ) → IsWithin pointer pointer' → IsWithin (jump_through s pointer more) (jump_through s pointer' more)
    through None within = tt
    through (Some address) within = subst (λ o. IsWithin (jump_through s (Some address) more) (jump_through s o more)) (sym within)
        (within_same (jump_through s (Some address) more))

jms_grows : (p : Program) (s n : State) (word : ℕ) (pointer pointer' : Option ℕ) (call : Option Call) → IsWithin pointer pointer'
    → IsOneOf n (jms_states_of p s word pointer call) → IsOneOf n (jms_states_of p s word pointer' call)
jms_grows p s n word pointer pointer' None within is =
    with_grows n (jump_state s word pointer 1) (jump_state s word pointer' 1)
    (return_states s.data_field (returns_to p.words s.cell (first_cell p.words s word))) (jump_within s word 1 pointer pointer' within) is
jms_grows p s n word pointer pointer' (Some call) within is = is

pub next_grows : (p : Program) (s n : State) (word : ℕ) (pointer pointer' : Option ℕ) (skips skips' : Bool) → IsWithin pointer pointer'
    → (skips ≡ true → skips' ≡ true) → IsOneOf n (next_states p s word pointer skips) → IsOneOf n (next_states p s word pointer' skips')
next_grows p s n word pointer pointer' skips skips' within skip =
    let rest5 : List State = if nat_eq (word / 0o1000) 6 then iot_states s word else operate_states s word in
    let rest4 : List State = if nat_eq (word / 0o1000) 5 then jmp_states s word pointer else rest5 in
    let rest4' : List State = if nat_eq (word / 0o1000) 5 then jmp_states s word pointer' else rest5 in
    let rest3 : List State = if nat_eq (word / 0o1000) 4 then jms_states p s word pointer else rest4 in
    let rest3' : List State = if nat_eq (word / 0o1000) 4 then jms_states p s word pointer' else rest4' in
    let rest2 : List State = if nat_eq (word / 0o1000) 3 then goes_on s else rest3 in
    let rest2' : List State = if nat_eq (word / 0o1000) 3 then goes_on s else rest3' in
    let rest1 : List State = if nat_eq (word / 0o1000) 2 then isz_states s skips else rest2 in
    let rest1' : List State = if nat_eq (word / 0o1000) 2 then isz_states s skips' else rest2' in
    let rest0 : List State = if nat_eq (word / 0o1000) 1 then goes_on s else rest1 in
    let rest0' : List State = if nat_eq (word / 0o1000) 1 then goes_on s else rest1' in
    one_if (nat_eq (word / 0o1000) 0) n (goes_on s) rest0 (goes_on s) rest0' (one_same n (goes_on s))
    (one_if (nat_eq (word / 0o1000) 1) n (goes_on s) rest1 (goes_on s) rest1' (one_same n (goes_on s))
    (one_if (nat_eq (word / 0o1000) 2) n (isz_states s skips) rest2 (isz_states s skips') rest2' (isz_grows s n skips skips' skip)
    (one_if (nat_eq (word / 0o1000) 3) n (goes_on s) rest3 (goes_on s) rest3' (one_same n (goes_on s))
    (one_if (nat_eq (word / 0o1000) 4) n (jms_states p s word pointer) rest4 (jms_states p s word pointer') rest4'
    (jms_grows p s n word pointer pointer' (call_of p s word) within)
    (one_if (nat_eq (word / 0o1000) 5) n (jmp_states s word pointer) rest5 (jmp_states s word pointer') rest5
    (with_grows n (jump_state s word pointer 0) (jump_state s word pointer' 0) [] (jump_within s word 0 pointer pointer' within))
    (one_same n rest5))))))

-- ## What is written

among_if : (b : Bool) (n : ℕ) (xs ys xs' ys' : List ℕ) → (IsAmong n xs → IsAmong n xs') → (IsAmong n ys → IsAmong n ys')
    → IsAmong n (if b then xs else ys) → IsAmong n (if b then xs' else ys')
among_if true n xs ys xs' ys' first second is = first is
among_if false n xs ys xs' ys' first second is = second is

stored_grows : (n : ℕ) (data_field pointer pointer' : Option ℕ) → IsWithin pointer pointer' → IsAmong n (stored_cells data_field pointer)
    → IsAmong n (stored_cells data_field pointer')
stored_grows n None None pointer' within is = absurd is
stored_grows n (Some field) None pointer' within is = absurd is
stored_grows n data_field (Some address) pointer' within is = subst (λ o. IsAmong n (stored_cells data_field o)) (sym within) is

store_grows : (s : State) (n word : ℕ) (pointer pointer' : Option ℕ) → IsWithin pointer pointer' → IsAmong n (store_writes s word pointer)
    → IsAmong n (store_writes s word pointer')
store_grows s n word pointer pointer' within =
    among_if (is_indirect word) n (stored_cells s.data_field pointer) (referred_cell s.cell word ∷ []) (stored_cells s.data_field pointer')
    (referred_cell s.cell word ∷ []) (stored_grows n s.data_field pointer pointer' within) (λ is. is)

jms_written_grows : (p : Program) (s : State) (n word : ℕ) (pointer pointer' : Option ℕ) (call : Option Call) → IsWithin pointer pointer'
    → IsAmong n (jms_writes_of p s word pointer call) → IsAmong n (jms_writes_of p s word pointer' call)
jms_written_grows p s n word pointer pointer' (Some call) within is = is
jms_written_grows p s n word pointer pointer' None within is = by (is_indirect word) is
  where
    placed : (field address address' : Option ℕ) → IsWithin address address' → IsAmong n (option_to_list (place_in field address))
        → IsAmong n (option_to_list (place_in field address'))
    placed None None address' same among = absurd among
    placed (Some field) None address' same among = absurd among
    placed field (Some address) address' same among = subst (λ o. IsAmong n (option_to_list (place_in field o))) (sym same) among

    by : (b : Bool) → IsAmong n (option_to_list (place_in (jump_field s.cell s.buffer) (if b then pointer else Some (referred_cell s.cell word % FIELD))))
        → IsAmong n (option_to_list (place_in (jump_field s.cell s.buffer) (if b then pointer' else Some (referred_cell s.cell word % FIELD))))
    by true among = placed (jump_field s.cell s.buffer) pointer pointer' within among
    by false among = among

pub written_grows : (p : Program) (s : State) (n word : ℕ) (pointer pointer' : Option ℕ) → IsWithin pointer pointer'
    → IsAmong n (written_cells p s word pointer) → IsAmong n (written_cells p s word pointer')
written_grows p s n word pointer pointer' within =
    let rest3 : List ℕ = if nat_eq word 0o6001 then 0 ∷ [] else [] in
    let rest2 : List ℕ = if nat_eq (word / 0o1000) 4 then jms_writes p s word pointer else rest3 in
    let rest2' : List ℕ = if nat_eq (word / 0o1000) 4 then jms_writes p s word pointer' else rest3 in
    let rest1 : List ℕ = if nat_eq (word / 0o1000) 3 then store_writes s word pointer else rest2 in
    let rest1' : List ℕ = if nat_eq (word / 0o1000) 3 then store_writes s word pointer' else rest2' in
    let rest0 : List ℕ = if nat_eq (word / 0o1000) 2 then store_writes s word pointer else rest1 in
    let rest0' : List ℕ = if nat_eq (word / 0o1000) 2 then store_writes s word pointer' else rest1' in
    among_if (counts_up s word) n (referred_cell s.cell word ∷ []) rest0 (referred_cell s.cell word ∷ []) rest0' (λ is. is)
    (among_if (nat_eq (word / 0o1000) 2) n (store_writes s word pointer) rest1 (store_writes s word pointer') rest1' (store_grows s n word pointer pointer' within)
    (among_if (nat_eq (word / 0o1000) 3) n (store_writes s word pointer) rest2 (store_writes s word pointer') rest2' (store_grows s n word pointer pointer' within)
    (among_if (nat_eq (word / 0o1000) 4) n (jms_writes p s word pointer) rest3 (jms_writes p s word pointer') rest3
    (jms_written_grows p s n word pointer pointer' (call_of p s word) within) (λ is. is))))

-- ## Reach

followed_grows : (Gives Gives' : ℕ → ℕ → Type 0) (pointer : ℕ) (o : Option ℕ) → ((pointer word : ℕ) → Gives pointer word → Gives' pointer word)
    → IsFollowed Gives pointer o → IsFollowed Gives' pointer o
followed_grows Gives Gives' pointer None more is = tt
followed_grows Gives Gives' pointer (Some word) more is = more pointer word is

skip_grows : (IsLeft IsLeft' : ℕ → Type 0) (s : State) (skips : Bool) → ((cell : ℕ) → IsLeft' cell → IsLeft cell) → MaySkip IsLeft s skips
    → MaySkip IsLeft' s skips
skip_grows IsLeft IsLeft' s false less may = tt
skip_grows IsLeft IsLeft' s true less may = λ left. may (less (cell_after 2 s.cell) left)

pub reach_grows : (p : Program) (Gives Gives' : ℕ → ℕ → Type 0) (IsLeft IsLeft' : ℕ → Type 0)
    → ((pointer word : ℕ) → Gives pointer word → Gives' pointer word) → ((cell : ℕ) → IsLeft' cell → IsLeft cell)
    → (s : State) → Reaches p Gives IsLeft s → Reaches p Gives' IsLeft' s
reach_grows p Gives Gives' IsLeft IsLeft' more less _ (start cell among opens) = start cell among opens
reach_grows p Gives Gives' IsLeft IsLeft' more less _ (goes s next word pointer skips before given followed may is opens) =
    goes s next word pointer skips (reach_grows p Gives Gives' IsLeft IsLeft' more less s before) given
    (followed_grows Gives Gives' (referred_cell s.cell word) pointer more followed) (skip_grows IsLeft IsLeft' s skips less may) is opens

pub writes_grow : (p : Program) (Gives Gives' : ℕ → ℕ → Type 0) (s : State) (cell : ℕ)
    → ((pointer word : ℕ) → Gives pointer word → Gives' pointer word) → Writes p Gives s cell → Writes p Gives' s cell
writes_grow p Gives Gives' s cell more writes = record {
  word = writes.word;
  pointer = writes.pointer;
  given = writes.given;
  followed = followed_grows Gives Gives' (referred_cell s.cell writes.word) writes.pointer more writes.followed;
  written = writes.written;
}

-- ## Fields of what is reached

abbrev pub HasFields : State → Type 0
HasFields s = IsBuffer s.buffer × IsDataField s.data_field

abbrev HaveFields : List State → Type 0
HaveFields [] = Unit {0}
HaveFields (s ∷ others) = HasFields s × HaveFields others

have_one : (n : State) (xs : List State) → HaveFields xs → IsOneOf n xs → HasFields n
have_one n [] have is = absurd is
have_one n (x ∷ xs) have (inl same) = subst HasFields (sym same) have.0
have_one n (x ∷ xs) have (inr other) = have_one n xs have.1 other

have_if : (b : Bool) (xs ys : List State) → HaveFields xs → HaveFields ys → HaveFields (if b then xs else ys)
have_if true xs ys first second = first
have_if false xs ys first second = second

abbrev HasSome : Option State → Type 0
HasSome None = Unit {0}
HasSome (Some s) = HasFields s

have_with : (o : Option State) (xs : List State) → HasSome o → HaveFields xs → HaveFields (with_state o xs)
have_with None xs has have = have
have_with (Some s) xs has have = (has, have)

have_returns : (data_field : Option ℕ) (cells : List ℕ) → IsDataField data_field → HaveFields (return_states data_field cells)
have_returns data_field [] is = tt
have_returns data_field (cell ∷ others) is = ((tt, is), have_returns data_field others is)

has_jump : (s : State) (word more : ℕ) (pointer : Option ℕ) → HasFields s → HasSome (jump_state s word pointer more)
has_jump s word more pointer has = by (is_indirect word) (is_auto_index (referred_cell s.cell word))
  where
    to : (field : Option ℕ) (address : ℕ) → HasSome (jump_to field address s.data_field)
    to None address = tt
    to (Some field) address = (tt, has.1)

    through : (pointer : Option ℕ) → HasSome (jump_through s pointer more)
    through None = tt
    through (Some address) = to (jump_field s.cell s.buffer) ((address + more) % FIELD)

    by : (indirect auto : Bool) → HasSome (if indirect then (if auto then None else jump_through s pointer more)
        else jump_to (jump_field s.cell s.buffer) ((referred_cell s.cell word % FIELD + more) % FIELD) s.data_field)
    by true true = tt
    by true false = through pointer
    by false auto = to (jump_field s.cell s.buffer) ((referred_cell s.cell word % FIELD + more) % FIELD)

have_jms : (p : Program) (s : State) (word : ℕ) (pointer : Option ℕ) (call : Option Call) → HasFields s → HaveFields (jms_states_of p s word pointer call)
have_jms p s word pointer None has =
    have_with (jump_state s word pointer 1) (return_states s.data_field (returns_to p.words s.cell (first_cell p.words s word))) (has_jump s word 1 pointer has)
    (have_returns s.data_field (returns_to p.words s.cell (first_cell p.words s word)) has.1)
have_jms p s word pointer (Some call) has = have_returns s.data_field (call_returns s.cell (form_at p.words s.cell call)) has.1

has_new_fields : (s : State) (word : ℕ) → HasFields s → HasFields (with_fields s word)
has_new_fields s word has = (buffer (nat_eq (word / 2 % 2) 1), data_field (nat_eq (word / 1 % 2) 1))
  where
    small : word / 0o10 % 8 < 8
    small = omega arith

    buffer : (b : Bool) → IsBuffer (if b then Number (word / 0o10 % 8) else s.buffer)
    buffer true = small
    buffer false = has.0

    data_field : (b : Bool) → IsDataField (if b then Some (word / 0o10 % 8) else s.data_field)
    data_field true = small
    data_field false = has.1

have_iot : (s : State) (word : ℕ) → HasFields s → HaveFields (iot_states s word)
have_iot s word has =
    let rest3 : List State = if may_iot_skip word then may_skip s else goes_on s in
    let rest2 : List State = if nat_eq word 0o6244 then with_fields_unknown s ∷ [] else rest3 in
    let rest1 : List State = if changes_fields word then with_fields s word ∷ [] else rest2 in
    have_if (nat_eq word 0o6001) (with_cell s (cell_after 1 s.cell) ∷ interrupt_state ∷ []) rest1 (has, ((tt, omega arith), tt))
    (have_if (changes_fields word) (with_fields s word ∷ []) rest2 (has_new_fields s word has, tt)
    (have_if (nat_eq word 0o6244) (with_fields_unknown s ∷ []) rest3 ((tt, tt), tt)
    (have_if (may_iot_skip word) (may_skip s) (goes_on s) (has, (has, tt)) (has, tt))))

have_operate : (s : State) (word : ℕ) → HasFields s → HaveFields (operate_states s word)
have_operate s word has =
    have_if (is_bsw word || is_mq word) (goes_on s) (at_exits s (operate_exits s.cell word)) (has, tt)
    (have_with (cell_state s (operate_exits s.cell word).0) (with_state (cell_state s (operate_exits s.cell word).1) [])
    (at (operate_exits s.cell word).0) (have_with (cell_state s (operate_exits s.cell word).1) [] (at (operate_exits s.cell word).1) tt))
  where
    at : (o : Option ℕ) → HasSome (cell_state s o)
    at None = tt
    at (Some cell) = has

pub next_fields : (p : Program) (s n : State) (word : ℕ) (pointer : Option ℕ) (skips : Bool) → HasFields s → IsOneOf n (next_states p s word pointer skips)
    → HasFields n
next_fields p s n word pointer skips has is =
    let rest6 : List State = if nat_eq (word / 0o1000) 6 then iot_states s word else operate_states s word in
    let rest5 : List State = if nat_eq (word / 0o1000) 5 then jmp_states s word pointer else rest6 in
    let rest4 : List State = if nat_eq (word / 0o1000) 4 then jms_states p s word pointer else rest5 in
    let rest3 : List State = if nat_eq (word / 0o1000) 3 then goes_on s else rest4 in
    let rest2 : List State = if nat_eq (word / 0o1000) 2 then isz_states s skips else rest3 in
    let rest1 : List State = if nat_eq (word / 0o1000) 1 then goes_on s else rest2 in
    have_one n (next_states p s word pointer skips)
    (have_if (nat_eq (word / 0o1000) 0) (goes_on s) rest1 (has, tt)
    (have_if (nat_eq (word / 0o1000) 1) (goes_on s) rest2 (has, tt)
    (have_if (nat_eq (word / 0o1000) 2) (isz_states s skips) rest3 (isz skips)
    (have_if (nat_eq (word / 0o1000) 3) (goes_on s) rest4 (has, tt)
    (have_if (nat_eq (word / 0o1000) 4) (jms_states p s word pointer) rest5 (have_jms p s word pointer (call_of p s word) has)
    (have_if (nat_eq (word / 0o1000) 5) (jmp_states s word pointer) rest6
    (have_with (jump_state s word pointer 0) [] (has_jump s word 0 pointer has) tt)
    (have_if (nat_eq (word / 0o1000) 6) (iot_states s word) (operate_states s word) (have_iot s word has) (have_operate s word has)))))))) is
  where
    isz : (b : Bool) → HaveFields (isz_states s b)
    isz true = (has, (has, tt))
    isz false = (has, tt)

-- what is reached is a state that there is, where instructions stand in core alone
pub reached_state : (p : Program) (Gives : ℕ → ℕ → Type 0) (IsLeft : ℕ → Type 0) → ((cell : ℕ) → is_open p cell ≡ true → cell < CORE)
    → (s : State) → Reaches p Gives IsLeft s → IsState s
reached_state p Gives IsLeft inside _ (start cell among opens) =
    let small : cell < CORE = inside cell opens in
    record { cell = small; buffer = tt; data_field = omega (arith, small) }
reached_state p Gives IsLeft inside _ (goes s next word pointer skips before given followed may is opens) =
    let old = reached_state p Gives IsLeft inside s before in
    let fields = next_fields p s next word pointer skips (old.buffer, old.data_field) is in
    record { cell = inside next.cell opens; buffer = fields.0; data_field = fields.1 }
