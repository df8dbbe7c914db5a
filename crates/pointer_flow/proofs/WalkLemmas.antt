-- That in the end just those states are marked that are reached.
use Rattle.std.proofs.Common.{◌≡◌, ◌⊎◌, inl, inr, ℕ, ◌+◌, ◌*◌, ◌<◌, Bool, true, false, ◌&&◌, not, List, [], ◌∷◌, ◌++◌, length, Option, Some, None, is_some, slice_index_or, refl, ap, sym, subst, ◌∙◌, arith}
use Rattle.std.proofs.lemmas.Bool.{and_parts, cases_lt, false≢true, true≢false}
use Rattle.std.proofs.lemmas.List.{get_or_past, length-append}
use Rattle.word12.specs.declared.sizes.TheConstants.{CORE}
use Rattle.flow8.specs.Exits.{cell_after, referred_cell}
use Rattle.flow8.specs.Flow.{IsAmong, word_in}
use Rattle.pointer_flow.specs.States.{IsOneOf, IsState, start_state}
use Rattle.pointer_flow.specs.Programs.{Program, is_open}
use Rattle.pointer_flow.specs.Next.{next_states}
use Rattle.pointer_flow.specs.Flow.{IsFollowed, MaySkip, Reaches, start, goes}
use Rattle.pointer_flow.specs.Steps.{AreUnmarked, IsFlaggedIn, IsGivenIn, IsWalk, MarksStates, count_of_unmarked, is_open_in, pointer_word, skips_into, start_states, states_after, states_of_word}
use Rattle.pointer_flow.specs.Tables.{IsMarked, IsTable, state_number}
use Rattle.pointer_flow.specs.declared.states.State.{State}
use Rattle.pointer_flow.proofs.GrowLemmas.{IsWithin, next_grows, reached_state}
use Rattle.pointer_flow.proofs.MarkLemmas.{one_left, one_parts, one_right, only_one}

-- ## Where instructions may stand

pub opens_same : (p : Program) (words : List (Option ℕ)) (data_flags : List Bool) → p.words ≡ word_in words
    → ((cell : ℕ) → p.is_data cell ≡ slice_index_or data_flags cell false) → (cell : ℕ) → is_open p cell ≡ is_open_in words data_flags cell
opens_same p words data_flags same data_same cell =
    ap (λ (f : ℕ → Option ℕ). is_some (f cell) && not (p.is_data cell)) same ∙ ap (λ b. is_some (word_in words cell) && not b) (data_same cell)

pub given_inside : (words : List (Option ℕ)) (cell : ℕ) → length words ≡ CORE → is_some (word_in words cell) ≡ true → cell < CORE
given_inside words cell size given = elim (cases_lt cell CORE) [
  | inl small ↦ small
  | inr beyond ↦ absurd (true≢false (sym given ∙ ap (λ (o : Option ℕ). is_some o) (get_or_past words cell None (omega (arith, size, beyond)))))
]

pub opens_inside : (p : Program) (words : List (Option ℕ)) → p.words ≡ word_in words → length words ≡ CORE → (cell : ℕ) → is_open p cell ≡ true → cell < CORE
opens_inside p words same size cell opens =
    given_inside words cell size (sym (ap (λ (f : ℕ → Option ℕ). is_some (f cell)) same) ∙ (and_parts (is_some (p.words cell)) (not (p.is_data cell)) opens).0)

-- ## Starts

among_start : (cell : ℕ) (starts : List ℕ) → IsAmong cell starts → IsOneOf (start_state cell) (start_states starts)
among_start cell [] among = absurd among
among_start cell (first ∷ others) (inl same) = inl (ap start_state same)
among_start cell (first ∷ others) (inr other) = inr (among_start cell others other)

start_among : (s : State) (starts : List ℕ) → IsOneOf s (start_states starts) → (cell : ℕ) × IsAmong cell starts × (s ≡ start_state cell)
start_among s [] is = absurd is
start_among s (first ∷ others) (inl same) = (first, inl refl, same)
start_among s (first ∷ others) (inr other) = let found = start_among s others other in (found.0, inr found.1, found.2)

-- ## Next states

module _ (p : Program) (pointers : List (Option ℕ)) (no_skip_cells : List Bool) where
  followed : (pointer : ℕ) (o : Option ℕ) → word_in pointers pointer ≡ o → IsFollowed (IsGivenIn pointers) pointer o
  followed pointer None is = tt
  followed pointer (Some word) is = is

  within : (pointer : ℕ) (o : Option ℕ) → IsFollowed (IsGivenIn pointers) pointer o → IsWithin o (word_in pointers pointer)
  within pointer None is = tt
  within pointer (Some word) is = is

  may : (s : State) (left : Bool) → slice_index_or no_skip_cells (cell_after 2 s.cell) false ≡ left → MaySkip (IsFlaggedIn no_skip_cells) s (not left)
  may s true is = tt
  may s false is = λ flagged. false≢true (sym is ∙ flagged)

  skips : (s : State) (skip left : Bool) → slice_index_or no_skip_cells (cell_after 2 s.cell) false ≡ left → MaySkip (IsFlaggedIn no_skip_cells) s skip → skip ≡ true
      → not left ≡ true
  skips s true true is may has = absurd (may is)
  skips s true false is may has = refl
  skips s false left is may has = absurd (false≢true has)

  abbrev IsReached : State → Type 0
  IsReached s = Reaches p (IsGivenIn pointers) (IsFlaggedIn no_skip_cells) s

  -- each of the states after one is reached
  pub after_reached : (s next : State) → IsReached s → IsOneOf next (states_after p pointers no_skip_cells s) → is_open p next.cell ≡ true → IsReached next
  after_reached s next reached is opens = by (p.words s.cell) refl is
    where
      by : (o : Option ℕ) → p.words s.cell ≡ o → IsOneOf next (states_of_word p pointers no_skip_cells s o) → IsReached next
      by None given among = absurd among
      by (Some word) given among =
          goes s next word (pointer_word pointers s word) (skips_into no_skip_cells s) reached given
          (followed (referred_cell s.cell word) (pointer_word pointers s word) refl)
          (may s (slice_index_or no_skip_cells (cell_after 2 s.cell) false) refl) among opens

  -- each next state is one of those after
  pub next_after : (s next : State) (word : ℕ) (pointer : Option ℕ) (skip : Bool) → p.words s.cell ≡ Some word
      → IsFollowed (IsGivenIn pointers) (referred_cell s.cell word) pointer → MaySkip (IsFlaggedIn no_skip_cells) s skip
      → IsOneOf next (next_states p s word pointer skip) → IsOneOf next (states_after p pointers no_skip_cells s)
  next_after s next word pointer skip given follows may is =
      subst (λ o. IsOneOf next (states_of_word p pointers no_skip_cells s o)) (sym given)
      (next_grows p s next word pointer (pointer_word pointers s word) skip (skips_into no_skip_cells s)
      (within (referred_cell s.cell word) pointer follows)
      (skips s skip (slice_index_or no_skip_cells (cell_after 2 s.cell) false) refl may) is)

-- ## The walk

-- What is so between two states that wait: what is marked is reached, and each state after one that waits no more is marked.
pub record IsOnTheWay (p : Program) (pointers : List (Option ℕ)) (no_skip_cells : List Bool) (reached : List ℕ) (waiting : List State) : Type 0 where
  pub sound : (s : State) → IsState s → IsMarked reached s → IsReached p pointers no_skip_cells s
  pub starts_are : (cell : ℕ) → IsAmong cell p.starts → is_open p cell ≡ true → IsMarked reached (start_state cell)
  pub marked : (s : State) → IsOneOf s waiting → IsState s × IsMarked reached s
  pub closed : (s : State) → IsState s → IsMarked reached s → IsOneOf s waiting
      ⊎ ((next : State) → IsOneOf next (states_after p pointers no_skip_cells s) → is_open p next.cell ≡ true → IsMarked reached next)

pub begins : (p : Program) (pointers : List (Option ℕ)) (no_skip_cells : List Bool) (is_open_cell : ℕ → Bool) (starts : List ℕ) (none reached : List ℕ)
    (before waiting : List State) → p.starts ≡ starts → ((cell : ℕ) → is_open p cell ≡ is_open_cell cell) → AreUnmarked none → before ≡ []
    → MarksStates is_open_cell none reached before waiting (start_states starts) → IsOnTheWay p pointers no_skip_cells reached waiting
begins p pointers no_skip_cells is_open_cell starts none reached before waiting starts_same opens empty nothing marks = record {
  sound = λ s state has. elim (marks.only s state has) [
    | inl old ↦ absurd (empty (state_number s) old)
    | inr new ↦
        let from = start_among s starts new.0 in
        let at : is_open p from.0 ≡ true = opens from.0 ∙ sym (ap (λ (x : State). is_open_cell x.cell) from.2) ∙ new.1 in
        subst (IsReached p pointers no_skip_cells) (sym from.2) (start from.0 (subst (IsAmong from.0) (sym starts_same) from.1) at)
  ];
  starts_are = λ cell among opened.
      marks.marks (start_state cell) (among_start cell starts (subst (IsAmong cell) starts_same among)) (sym (opens cell) ∙ opened);
  marked = λ s is. elim (marks.waiting_are s is) [
    | inl older ↦ absurd (subst (IsOneOf s) nothing older)
    | inr has ↦ has
  ];
  closed = λ s state has. elim (marks.waits s state has) [
    | inl old ↦ absurd (empty (state_number s) old)
    | inr waits ↦ inl waits
  ];
}

-- one state waits no more
pub goes_on : (p : Program) (pointers : List (Option ℕ)) (no_skip_cells : List Bool) (is_open_cell : ℕ → Bool) (old new : List ℕ)
    (all rest waiting states : List State) (s : State) → ((cell : ℕ) → is_open p cell ≡ is_open_cell cell)
    → IsOnTheWay p pointers no_skip_cells old all → all ≡ rest ++ s ∷ [] → MarksStates is_open_cell old new rest waiting states
    → states ≡ states_after p pointers no_skip_cells s → IsOnTheWay p pointers no_skip_cells new waiting
goes_on p pointers no_skip_cells is_open_cell old new all rest waiting states s opens way is marks are = record {
  sound = λ other state has. elim (marks.only other state has) [
    | inl before ↦ way.sound other state before
    | inr added ↦
        after_reached p pointers no_skip_cells s other (way.sound s here.0 here.1) (subst (IsOneOf other) are added.0) (opens other.cell ∙ added.1)
  ];
  starts_are = λ cell among opened. marks.kept (start_state cell) (way.starts_are cell among opened);
  marked = λ other among. elim (marks.waiting_are other among) [
    | inl older ↦
        let before = way.marked other (subst (IsOneOf other) (sym is) (one_left other rest (s ∷ []) older)) in
        (before.0, marks.kept other before.1)
    | inr now ↦ now
  ];
  closed = λ other state has. elim (marks.waits other state has) [
    | inl before ↦ elim (way.closed other state before) [
      | inl waits ↦ elim (one_parts other rest (s ∷ []) (subst (IsOneOf other) is waits)) [
        | inl still ↦ inl (marks.still_waits other still)
        | inr last ↦ inr (λ next among opened.
            marks.marks next
            (subst (IsOneOf next) (sym are) (subst (λ x. IsOneOf next (states_after p pointers no_skip_cells x)) (only_one last) among))
            (sym (opens next.cell) ∙ opened))
      ]
      | inr done ↦ inr (λ next among opened. marks.kept next (done next among opened))
    ]
    | inr waits ↦ inl waits
  ];
}
  where
    here : IsState s × IsMarked old s
    here = way.marked s (subst (IsOneOf s) (sym is) (one_right s rest (s ∷ []) (inl refl)))

-- none waits any more
pub ends : (p : Program) (pointers : List (Option ℕ)) (no_skip_cells : List Bool) (reached : List ℕ) (waiting : List State)
    → ((cell : ℕ) → is_open p cell ≡ true → cell < CORE) → IsTable reached → waiting ≡ [] → IsOnTheWay p pointers no_skip_cells reached waiting
    → IsWalk p pointers no_skip_cells reached
ends p pointers no_skip_cells reached waiting inside size nothing way = record { size = size; states = λ s state. (way.sound s state, all s) }
  where
    all : (s : State) → IsReached p pointers no_skip_cells s → IsMarked reached s
    all _ (start cell among opens) = way.starts_are cell among opens
    all _ (goes s next word pointer skip before given follows may is opens) =
        elim (way.closed s (reached_state p (IsGivenIn pointers) (IsFlaggedIn no_skip_cells) inside s before) (all s before)) [
          | inl waits ↦ absurd (subst (IsOneOf s) nothing waits)
          | inr done ↦ done next (next_after p pointers no_skip_cells s next word pointer skip given follows may is) opens
        ]

-- fewer states are left to be marked or to wait
pub fewer : (is_open : ℕ → Bool) (old new : List ℕ) (all rest waiting states : List State) (s : State) → all ≡ rest ++ s ∷ []
    → MarksStates is_open old new rest waiting states → 2 * count_of_unmarked new + length waiting < 2 * count_of_unmarked old + length all
fewer is_open old new all rest waiting states s is marks = omega (arith, marks.sum, one_more)
  where
    one_more : length all ≡ length rest + 1
    one_more = ap (λ (l : List State). length l) is ∙ length-append rest (s ∷ [])

pub none_waits : (waiting : List State) → 0 ≡ length waiting → waiting ≡ []
none_waits [] is = refl
none_waits (s ∷ others) is = absurd (omega (arith, is))

-- states that wait are states that there are
pub still_states : (is_open : ℕ → Bool) (old new : List ℕ) (all rest waiting states : List State) (s : State) → all ≡ rest ++ s ∷ []
    → ((other : State) → IsOneOf other all → IsState other) → MarksStates is_open old new rest waiting states
    → (other : State) → IsOneOf other waiting → IsState other
still_states is_open old new all rest waiting states s is are marks other among = elim (marks.waiting_are other among) [
  | inl older ↦ are other (subst (IsOneOf other) (sym is) (one_left other rest (s ∷ []) older))
  | inr has ↦ has.0
]

pub last_state : (all rest : List State) (s : State) → all ≡ rest ++ s ∷ [] → ((other : State) → IsOneOf other all → IsState other) → IsState s
last_state all rest s is are = are s (subst (IsOneOf s) (sym is) (one_right s rest (s ∷ []) (inl refl)))
