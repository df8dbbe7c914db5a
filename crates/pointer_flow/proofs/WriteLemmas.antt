-- Noting who writes a cell.
use Rattle.std.proofs.Common.{◌≡◌, ◌⊎◌, inl, inr, ℕ, zero, suc, ◌+◌, ◌<◌, ◌≤◌, false, List, ◌++◌, drop, length, replicate, take, Option, Some, None, is_some, slice_set, get_or-set_other, get_or-set_same, refl, ap, sym, subst, ◌∙◌, arith}
use Rattle.std.proofs.lemmas.Bool.{cases_eq, cases_lt, true≢false}
use Rattle.std.proofs.lemmas.List.{get_or-replicate, get_or_past, length-replicate, length-set}
use Rattle.word12.specs.declared.sizes.TheConstants.{CORE}
use Rattle.cpu8.specs.State.{place}
use Rattle.flow8.specs.Exits.{cell_after}
use Rattle.flow8.specs.Flow.{IsAmong, word_in}
use Rattle.pointer_flow.specs.States.{IsState}
use Rattle.pointer_flow.specs.Programs.{Program, cells_from}
use Rattle.pointer_flow.specs.Writes.{stored_cells}
use Rattle.pointer_flow.specs.Steps.{AreWriters, IsCellWriter, IsLowestWriter, IsStateWriter, NotesCells, state_at}
use Rattle.pointer_flow.specs.declared.states.State.{State}
use Rattle.pointer_flow.proofs.HandlerLemmas.{whole}
use Rattle.pointer_flow.proofs.StateLemmas.{in_cell_small, is_state_at, number_in_cell}

-- ## Notes

pub notes_none : (old : List (Option ℕ)) (cell : ℕ) (Is : ℕ → Type 0) → ((other : ℕ) → Is other → ⊥) → NotesCells old old cell Is
notes_none old cell Is never = record {
  size = refl;
  noted = λ other small is free. absurd (never other is);
  kept = λ other writer has. has;
  by = λ other writer free has. absurd (none_some (sym free ∙ has));
}
  where
    none_some : {writer : ℕ} → None ≡ Some writer → ⊥
    none_some is = cc

pub notes_as : (old new : List (Option ℕ)) (cell : ℕ) (Is Is' : ℕ → Type 0) → ((other : ℕ) → Is other → Is' other) → ((other : ℕ) → Is' other → Is other)
    → NotesCells old new cell Is → NotesCells old new cell Is'
notes_as old new cell Is Is' to from notes = record {
  size = notes.size;
  noted = λ other small is free. notes.noted other small (from other is) free;
  kept = notes.kept;
  by = λ other writer free has. let found = notes.by other writer free has in (found.0, to other found.1);
}

-- one after the other
pub notes_more : (a b c : List (Option ℕ)) (cell : ℕ) (Is Is' : ℕ → Type 0) → NotesCells a b cell Is → NotesCells b c cell Is'
    → NotesCells a c cell (λ other. Is other ⊎ Is' other)
notes_more a b c cell Is Is' first second = record {
  size = second.size ∙ first.size;
  noted = λ other small is free. elim is [
    | inl one ↦ second.kept other cell (first.noted other small one free)
    | inr two ↦ between (word_in b other) other small two free refl
  ];
  kept = λ other writer has. second.kept other writer (first.kept other writer has);
  by = λ other writer free has. among (word_in b other) other writer free has refl;
}
  where
    between : (o : Option ℕ) (other : ℕ) → other < length a → Is' other → word_in a other ≡ None → word_in b other ≡ o → word_in c other ≡ Some cell
    between None other small two free is = second.noted other (omega (arith, small, first.size)) two is
    between (Some writer) other small two free is =
        second.kept other cell (is ∙ ap Some (first.by other writer free is).0)

    same_writer : {x y : ℕ} → Some x ≡ Some y → y ≡ x
    same_writer is = cc

    among : (o : Option ℕ) (other writer : ℕ) → word_in a other ≡ None → word_in c other ≡ Some writer → word_in b other ≡ o
        → (writer ≡ cell) × (Is other ⊎ Is' other)
    among None other writer free has is = let found = second.by other writer is has in (found.0, inr found.1)
    among (Some middle) other writer free has is =
        let found = first.by other middle free is in
        (same_writer (sym (second.kept other middle is) ∙ has) ∙ found.0, inl found.1)

-- a cell that has no writer gets one
pub notes_one : (old : List (Option ℕ)) (other cell at : ℕ) → at ≡ other → word_in old at ≡ None → at < length old
    → NotesCells old (slice_set old at (Some cell)) cell (λ noted. noted ≡ other)
notes_one old other cell at same free inside = record {
  size = length-set old at (Some cell);
  noted = λ noted small is none.
      ap (λ n. word_in (slice_set old at (Some cell)) n) (is ∙ sym same) ∙ get_or-set_same old at (Some cell) None inside;
  kept = λ noted writer has. elim (cases_eq noted at) [
    | inl here ↦ absurd (none_some (sym free ∙ ap (word_in old) (sym here) ∙ has))
    | inr apart ↦ get_or-set_other old at noted (Some cell) None apart ∙ has
  ];
  by = λ noted writer none has. elim (cases_eq noted at) [
    | inl here ↦
        let now : Some cell ≡ Some writer =
        sym (get_or-set_same old at (Some cell) None inside) ∙ ap (word_in (slice_set old at (Some cell))) (sym here) ∙ has in
        (same_writer now, here ∙ same)
    | inr apart ↦ absurd (none_some (sym none ∙ sym (get_or-set_other old at noted (Some cell) None apart) ∙ has))
  ];
}
  where
    none_some : {writer : ℕ} → None ≡ Some writer → ⊥
    none_some is = cc

    same_writer : {x y : ℕ} → Some x ≡ Some y → y ≡ x
    same_writer is = cc

-- a cell that has a writer keeps it
pub notes_had : (old : List (Option ℕ)) (other cell : ℕ) → (word_in old other ≡ None → ⊥) → NotesCells old old cell (λ noted. noted ≡ other)
notes_had old other cell had = record {
  size = refl;
  noted = λ noted small is free. absurd (had (ap (word_in old) (sym is) ∙ free));
  kept = λ noted writer has. has;
  by = λ noted writer free has. absurd (none_some (sym free ∙ has));
}
  where
    none_some : {writer : ℕ} → None ≡ Some writer → ⊥
    none_some is = cc

pub none_from : {X : Type 0} (o : Option X) → is_some o ≡ false → o ≡ None
none_from None is = refl
none_from (Some x) is = absurd (true≢false is)

-- ## Several cells

-- it is one of the first so many of these
abbrev pub IsFirstOf : (ℕ → ℕ) → ℕ → ℕ → Type 0
IsFirstOf at count other = (k : ℕ) × (k < count) × (other ≡ at k)

pub first_none : (at : ℕ → ℕ) (other : ℕ) → IsFirstOf at 0 other → ⊥
first_none at other is = omega (arith, is.1)

pub first_more : (old middle new : List (Option ℕ)) (cell count here : ℕ) (at : ℕ → ℕ) → here ≡ at count → NotesCells old middle cell (IsFirstOf at count)
    → NotesCells middle new cell (λ noted. noted ≡ here) → NotesCells old new cell (IsFirstOf at (count + 1))
first_more old middle new cell count here at is before now =
    notes_as old new cell (λ other. IsFirstOf at count other ⊎ (other ≡ here)) (IsFirstOf at (count + 1)) to from
    (notes_more old middle new cell (IsFirstOf at count) (λ noted. noted ≡ here) before now)
  where
    to : (other : ℕ) → IsFirstOf at count other ⊎ (other ≡ here) → IsFirstOf at (count + 1) other
    to other (inl first) = (first.0, omega (arith, first.1), first.2)
    to other (inr last) = (count, omega arith, last ∙ is)

    from : (other : ℕ) → IsFirstOf at (count + 1) other → IsFirstOf at count other ⊎ (other ≡ here)
    from other found = elim (cases_eq found.0 count) [
      | inl same ↦ inr (found.2 ∙ ap at same ∙ sym is)
      | inr apart ↦ inl (found.0, omega (arith, found.1, apart), found.2)
    ]

pub among_first : (cell first count other : ℕ) → IsAmong other (cells_from cell first count) → IsFirstOf (λ k. cell_after (first + k) cell) count other
among_first cell first zero other is = absurd is
among_first cell first (suc count) other (inl same) =
    let start : first ≡ first + 0 = omega arith in
    (0, omega arith, same ∙ ap (λ n. cell_after n cell) start)
among_first cell first (suc count) other (inr more) =
    let found = among_first cell (first + 1) count other more in
    let place : first + 1 + found.0 ≡ first + (found.0 + 1) = omega arith in
    (found.0 + 1, omega (arith, found.1), found.2 ∙ ap (λ n. cell_after n cell) place)

at_first : (cell first count k other : ℕ) → k < count → other ≡ cell_after (first + k) cell → IsAmong other (cells_from cell first count)
at_first cell first zero k other small same = absurd (omega (arith, small))
at_first cell first (suc count) zero other small same =
    let start : first + 0 ≡ first = omega arith in
    inl (same ∙ ap (λ n. cell_after n cell) start)
at_first cell first (suc count) (suc k) other small same =
    let place : first + suc k ≡ first + 1 + k = omega arith in
    inr (at_first cell (first + 1) count k other (omega (arith, small)) (same ∙ ap (λ n. cell_after n cell) place))

pub first_among : (cell first count other : ℕ) → IsFirstOf (λ k. cell_after (first + k) cell) count other → IsAmong other (cells_from cell first count)
first_among cell first count other is = at_first cell first count is.0 other is.1 is.2

pub among_fields : (address other : ℕ) → IsAmong other (stored_cells None (Some address)) → IsFirstOf (λ k. place k address) 8 other
among_fields address other (inl a) = (0, omega arith, a)
among_fields address other (inr (inl a)) = (1, omega arith, a)
among_fields address other (inr (inr (inl a))) = (2, omega arith, a)
among_fields address other (inr (inr (inr (inl a)))) = (3, omega arith, a)
among_fields address other (inr (inr (inr (inr (inl a))))) = (4, omega arith, a)
among_fields address other (inr (inr (inr (inr (inr (inl a)))))) = (5, omega arith, a)
among_fields address other (inr (inr (inr (inr (inr (inr (inl a))))))) = (6, omega arith, a)
among_fields address other (inr (inr (inr (inr (inr (inr (inr (inl a)))))))) = (7, omega arith, a)
among_fields address other (inr (inr (inr (inr (inr (inr (inr (inr a)))))))) = absurd a

at_field : (address other k : ℕ) → k < 8 → other ≡ place k address → IsAmong other (stored_cells None (Some address))
at_field address other k small same =
    by (cases_eq k 0) (cases_eq k 1) (cases_eq k 2) (cases_eq k 3) (cases_eq k 4) (cases_eq k 5) (cases_eq k 6) (cases_eq k 7)
  where
    at : (n : ℕ) → k ≡ n → other ≡ place n address
    at n is = same ∙ ap (λ m. place m address) is

    by : (k ≡ 0) ⊎ (k ≡ 0 → ⊥) → (k ≡ 1) ⊎ (k ≡ 1 → ⊥) → (k ≡ 2) ⊎ (k ≡ 2 → ⊥) → (k ≡ 3) ⊎ (k ≡ 3 → ⊥) → (k ≡ 4) ⊎ (k ≡ 4 → ⊥) → (k ≡ 5) ⊎ (k ≡ 5 → ⊥)
        → (k ≡ 6) ⊎ (k ≡ 6 → ⊥) → (k ≡ 7) ⊎ (k ≡ 7 → ⊥) → IsAmong other (stored_cells None (Some address))
    by (inl is) b c d e f g h = inl (at 0 is)
    by (inr a) (inl is) c d e f g h = inr (inl (at 1 is))
    by (inr a) (inr b) (inl is) d e f g h = inr (inr (inl (at 2 is)))
    by (inr a) (inr b) (inr c) (inl is) e f g h = inr (inr (inr (inl (at 3 is))))
    by (inr a) (inr b) (inr c) (inr d) (inl is) f g h = inr (inr (inr (inr (inl (at 4 is)))))
    by (inr a) (inr b) (inr c) (inr d) (inr e) (inl is) g h = inr (inr (inr (inr (inr (inl (at 5 is))))))
    by (inr a) (inr b) (inr c) (inr d) (inr e) (inr f) (inl is) h = inr (inr (inr (inr (inr (inr (inl (at 6 is)))))))
    by (inr a) (inr b) (inr c) (inr d) (inr e) (inr f) (inr g) (inl is) = inr (inr (inr (inr (inr (inr (inr (inl (at 7 is))))))))
    by (inr a) (inr b) (inr c) (inr d) (inr e) (inr f) (inr g) (inr h) = absurd (omega (arith, small, a, b, c, d, e, f, g, h))

pub fields_among : (address other : ℕ) → IsFirstOf (λ k. place k address) 8 other → IsAmong other (stored_cells None (Some address))
fields_among address other is = at_field address other is.0 is.1 is.2

-- ## The states of a cell

-- one of the first so many states of a cell writes another
abbrev pub IsWriterBelow : Program → List (Option ℕ) → List ℕ → ℕ → ℕ → ℕ → ℕ → Type 0
IsWriterBelow p pointers reached cell word count other = (k : ℕ) × (k < count) × IsStateWriter p pointers reached (state_at cell k) word other

pub below_more : (p : Program) (pointers : List (Option ℕ)) (reached : List ℕ) (old middle new : List (Option ℕ)) (cell word count : ℕ) (s : State)
    → s ≡ state_at cell count → NotesCells old middle cell (IsWriterBelow p pointers reached cell word count)
    → NotesCells middle new s.cell (IsStateWriter p pointers reached s word) → NotesCells old new cell (IsWriterBelow p pointers reached cell word (count + 1))
below_more p pointers reached old middle new cell word count s is before now =
    notes_as old new cell (λ other. IsWriterBelow p pointers reached cell word count other ⊎ IsStateWriter p pointers reached (state_at cell count) word other)
    (IsWriterBelow p pointers reached cell word (count + 1)) to from
    (notes_more old middle new cell (IsWriterBelow p pointers reached cell word count) (IsStateWriter p pointers reached (state_at cell count) word) before
    (subst (λ (x : State). NotesCells middle new x.cell (IsStateWriter p pointers reached x word)) is now))
  where
    to : (other : ℕ) → IsWriterBelow p pointers reached cell word count other ⊎ IsStateWriter p pointers reached (state_at cell count) word other
        → IsWriterBelow p pointers reached cell word (count + 1) other
    to other (inl first) = (first.0, omega (arith, first.1), first.2)
    to other (inr last) = (count, omega arith, last)

    from : (other : ℕ) → IsWriterBelow p pointers reached cell word (count + 1) other
        → IsWriterBelow p pointers reached cell word count other ⊎ IsStateWriter p pointers reached (state_at cell count) word other
    from other found = elim (cases_eq found.0 count) [
      | inl same ↦ inr (subst (λ n. IsStateWriter p pointers reached (state_at cell n) word other) same found.2)
      | inr apart ↦ inl (found.0, omega (arith, found.1, apart), found.2)
    ]

-- all states of a cell
pub below_all : (p : Program) (pointers : List (Option ℕ)) (reached : List ℕ) (old new : List (Option ℕ)) (cell word count : ℕ) → count ≡ 90
    → p.words cell ≡ Some word → ((k : ℕ) → k < 90 → IsState (state_at cell k)) → NotesCells old new cell (IsWriterBelow p pointers reached cell word count)
    → NotesCells old new cell (λ other. IsCellWriter p pointers reached other cell)
below_all p pointers reached old new cell word count all given states =
    notes_as old new cell (IsWriterBelow p pointers reached cell word count) (λ other. IsCellWriter p pointers reached other cell) to from
  where
    to : (other : ℕ) → IsWriterBelow p pointers reached cell word count other → IsCellWriter p pointers reached other cell
    to other found = record {
      word = word;
      given = given;
      s = state_at cell found.0;
      state = states found.0 (omega (arith, found.1, all));
      at = refl;
      writer = found.2;
    }

    same_word : {x y : ℕ} → Some x ≡ Some y → x ≡ y
    same_word is = cc

    from : (other : ℕ) → IsCellWriter p pointers reached other cell → IsWriterBelow p pointers reached cell word count other
    from other found = (
      number_in_cell found.s,
      omega (arith, in_cell_small found.s found.state, all),
      subst (λ w. IsStateWriter p pointers reached (state_at cell (number_in_cell found.s)) w other) (same_word (sym found.given ∙ given))
          (subst (λ x. IsStateWriter p pointers reached x found.word other)
          (sym (is_state_at found.s found.state) ∙ ap (λ c. state_at c (number_in_cell found.s)) found.at) found.writer),
    )

-- a cell that has no word writes nothing
pub no_word : (p : Program) (pointers : List (Option ℕ)) (reached : List ℕ) (old : List (Option ℕ)) (cell : ℕ) → p.words cell ≡ None
    → NotesCells old old cell (λ other. IsCellWriter p pointers reached other cell)
no_word p pointers reached old cell none =
    notes_none old cell (λ other. IsCellWriter p pointers reached other cell) (λ other is. none_some (sym none ∙ is.given))
  where
    none_some : {word : ℕ} → None ≡ Some word → ⊥
    none_some is = cc

-- ## All cells

-- a table has the lowest writer of each cell of those below a number
pub record AreWritersBelow (p : Program) (pointers : List (Option ℕ)) (reached : List ℕ) (writers : List (Option ℕ)) (number : ℕ) : Type 0 where
  pub found : (other writer : ℕ) → other < CORE → word_in writers other ≡ Some writer
      → IsLowestWriter p pointers reached other (Some writer) × (writer < number)
  pub none : (other before : ℕ) → other < CORE → word_in writers other ≡ None → before < number → IsCellWriter p pointers reached other before → ⊥

pub writers_none : (p : Program) (pointers : List (Option ℕ)) (reached : List ℕ) (writers : List (Option ℕ)) (count : ℕ) → writers ≡ replicate count None
    → AreWritersBelow p pointers reached writers 0
writers_none p pointers reached writers count nothing = record {
  found = λ other writer small has. absurd (none_some (sym (ap (λ l. word_in l other) nothing ∙ all_none other (cases_lt other count)) ∙ has));
  none = λ other before small free low is. omega (arith, low);
}
  where
    none_some : {writer : ℕ} → None ≡ Some writer → ⊥
    none_some is = cc

    all_none : (other : ℕ) → (other < count) ⊎ (count ≤ other) → word_in (replicate count None) other ≡ None
    all_none other (inl inside) = get_or-replicate count other None None inside
    all_none other (inr beyond) = get_or_past (replicate count None) other None (omega (arith, beyond, length-replicate {A = Option ℕ} count None))

pub writers_more : (p : Program) (pointers : List (Option ℕ)) (reached : List ℕ) (old new : List (Option ℕ)) (number : ℕ) → length old ≡ CORE
    → NotesCells old new number (λ other. IsCellWriter p pointers reached other number) → AreWritersBelow p pointers reached old number
    → AreWritersBelow p pointers reached new (number + 1)
writers_more p pointers reached old new number size notes before = record {
  found = λ other writer small has. by (word_in old other) other writer small has refl;
  none = λ other low small free below is. elim (cases_eq low number) [
    | inl same ↦
        absurd (none_some (sym free ∙ notes.noted other (omega (arith, small, size)) (subst (IsCellWriter p pointers reached other) same is) (was_none (word_in old other) other free refl)))
    | inr apart ↦ before.none other low small (was_none (word_in old other) other free refl) (omega (arith, below, apart)) is
  ];
}
  where
    none_some : {writer : ℕ} → None ≡ Some writer → ⊥
    none_some is = cc

    same_writer : {x y : ℕ} → Some x ≡ Some y → x ≡ y
    same_writer is = cc

    was_none : (o : Option ℕ) (other : ℕ) → word_in new other ≡ None → word_in old other ≡ o → word_in old other ≡ None
    was_none None other free is = is
    was_none (Some writer) other free is = absurd (none_some (sym free ∙ notes.kept other writer is))

    by : (o : Option ℕ) (other writer : ℕ) → other < CORE → word_in new other ≡ Some writer → word_in old other ≡ o
        → IsLowestWriter p pointers reached other (Some writer) × (writer < number + 1)
    by (Some earlier) other writer small has is =
        let old = before.found other earlier small is in
        let same = same_writer (sym (notes.kept other earlier is) ∙ has) in
        (subst (λ w. IsLowestWriter p pointers reached other (Some w)) same old.0, omega (arith, same, old.1))
    by None other writer small has is =
        let now = notes.by other writer is has in (
          (
            subst (IsCellWriter p pointers reached other) (sym now.0) now.1,
            λ low writes. elim (cases_lt low number) [
              | inl below ↦ absurd (before.none other low small is below writes)
              | inr above ↦ omega (arith, above, now.0)
            ],
          ),
          omega (arith, now.0),
        )

pub writers_all : (p : Program) (pointers : List (Option ℕ)) (reached : List ℕ) (writers words : List (Option ℕ)) (number : ℕ) → number ≡ CORE
    → length writers ≡ CORE → p.words ≡ word_in words → length words ≡ CORE → AreWritersBelow p pointers reached writers number
    → AreWriters p pointers reached writers
writers_all p pointers reached writers words number end size same words_size all = record {
  size = size;
  cells = λ other small. by (word_in writers other) other small refl;
}
  where
    none_some : {writer : ℕ} → None ≡ Some writer → ⊥
    none_some is = cc

    inside : (other cell : ℕ) → IsCellWriter p pointers reached other cell → cell < CORE
    inside other cell writes = elim (cases_lt cell CORE) [
      | inl small ↦ small
      | inr beyond ↦
          absurd (none_some (sym (ap (λ (f : ℕ → Option ℕ). f cell) same ∙ get_or_past words cell None (omega (arith, beyond, words_size))) ∙ writes.given))
    ]

    by : (o : Option ℕ) (other : ℕ) → other < CORE → word_in writers other ≡ o → IsLowestWriter p pointers reached other o
    by None other small is = λ cell writes. all.none other cell small is (omega (arith, inside other cell writes, end)) writes
    by (Some writer) other small is = (all.found other writer small is).0

-- one more step of the loop over the cells
pub writers_step : (p : Program) (pointers : List (Option ℕ)) (reached : List ℕ) (old lent new : List (Option ℕ)) (number cell count : ℕ) → cell ≡ number
    → length old ≡ CORE → count ≡ length old → lent ≡ old → NotesCells lent new cell (λ other. IsCellWriter p pointers reached other cell)
    → AreWritersBelow p pointers reached old number → AreWritersBelow p pointers reached (take count (new ++ drop (length new) old)) (number + 1)
writers_step p pointers reached old lent new number cell count here size counted same notes before =
    subst (λ l. AreWritersBelow p pointers reached l (number + 1)) (sym (whole count new old (notes.size ∙ ap (λ (l : List (Option ℕ)). length l) same ∙ sym counted)))
    (writers_more p pointers reached old new number size
    (subst (λ n. NotesCells old new n (λ other. IsCellWriter p pointers reached other n)) here
    (subst (λ l. NotesCells l new cell (λ other. IsCellWriter p pointers reached other cell)) same notes)) before)
