-- The three levels of the flow, as tables have them.
use Rattle.std.proofs.Common.{◌≡◌, ◌≢◌, ◌⊎◌, inl, inr, ◌↔◌, ℕ, ◌+◌, ◌<◌, ◌≤◌, Bool, true, false, nat_eq, ◌&&◌, if◌then◌else◌, List, [], ◌∷◌, ◌++◌, length, replicate, Option, Some, None, is_some, slice_index_or, refl, ap, sym, subst, ◌∙◌, arith}
use Rattle.std.proofs.lemmas.Bool.{cases_eq, cases_lt, false≢true, ne_eqb}
use Rattle.std.proofs.lemmas.Bool.Decides.{eqb_tells}
use Rattle.std.proofs.lemmas.List.{get_or-replicate, get_or_append_left, get_or_past, get_or_push, length-replicate, length_push}
use Rattle.word12.specs.declared.sizes.TheConstants.{CORE}
use Rattle.flow8.specs.Exits.{referred_cell}
use Rattle.flow8.specs.Flow.{word_in}
use Rattle.pointer_flow.specs.States.{IsState}
use Rattle.pointer_flow.specs.Programs.{Program, is_open}
use Rattle.pointer_flow.specs.Flow.{IsCandidate, IsDirect, IsFollowed, IsKnown, IsLeftOut, IsWide, IsWritten, NoCell, NoPointer, Reaches, Writes}
use Rattle.pointer_flow.specs.Questions.{AnswersWriter, IsWriter}
use Rattle.pointer_flow.specs.Steps.{AreWriters, IsCellWriter, IsFlaggedIn, IsGivenIn, IsLowestWriter, is_written_zero, pointer_word, unwritten_word}
use Rattle.pointer_flow.specs.Tables.{GivesPointers, IsSetOf}
use Rattle.pointer_flow.specs.declared.states.State.{State}
use Rattle.pointer_flow.proofs.GrowLemmas.{IsWithin, reach_grows, reached_state, written_grows}
use Rattle.pointer_flow.specs.Levels.{AreWritersBy}
use Rattle.pointer_flow.proofs.WalkLemmas.{given_inside, opens_inside}

some_apart : {X : Type 0} {x : X} → None ≡ Some x → ⊥
some_apart is = cc

same_some : {x y : ℕ} → Some x ≡ Some y → x ≡ y
same_some is = cc

-- ## Walks by lists, and by what the lists mean

-- the same states are reached by the same pointers and skips
pub set_as : (p : Program) (bits : List ℕ) (Gives Gives' : ℕ → ℕ → Type 0) (IsLeft IsLeft' : ℕ → Type 0)
    → ((pointer word : ℕ) → Gives pointer word ↔ Gives' pointer word) → ((cell : ℕ) → IsLeft cell ↔ IsLeft' cell)
    → IsSetOf bits (Reaches p Gives IsLeft) → IsSetOf bits (Reaches p Gives' IsLeft')
set_as p bits Gives Gives' IsLeft IsLeft' gives left sets = record {
  size = sets.size;
  states = λ s state. (
    λ marked. reach_grows p Gives Gives' IsLeft IsLeft' (λ pointer word. (gives pointer word).0) (λ cell. (left cell).1) s ((sets.states s state).0 marked),
    λ reached. (sets.states s state).1 (reach_grows p Gives' Gives IsLeft' IsLeft (λ pointer word. (gives pointer word).1) (λ cell. (left cell).0) s reached),
  );
}

pub none_given : (count : ℕ) (pointers : List (Option ℕ)) → pointers ≡ replicate count None → (pointer word : ℕ) → IsGivenIn pointers pointer word ↔ NoPointer pointer word
none_given count pointers nothing pointer word = (λ is. some_apart (sym (ap (λ l. word_in l pointer) nothing ∙ none (cases_lt pointer count)) ∙ is), λ never. absurd never)
  where
    none : (pointer < count) ⊎ (count ≤ pointer) → word_in (replicate count None) pointer ≡ None
    none (inl inside) = get_or-replicate count pointer None None inside
    none (inr beyond) = get_or_past (replicate count None) pointer None (omega (arith, beyond, length-replicate {A = Option ℕ} count None))

pub none_flagged : (count : ℕ) (flags : List Bool) → flags ≡ replicate count false → (cell : ℕ) → IsFlaggedIn flags cell ↔ NoCell cell
none_flagged count flags nothing cell = (λ is. false≢true (sym (ap (λ l. slice_index_or l cell false) nothing ∙ none (cases_lt cell count)) ∙ is), λ never. absurd never)
  where
    none : (cell < count) ⊎ (count ≤ cell) → slice_index_or (replicate count false) cell false ≡ false
    none (inl inside) = get_or-replicate count cell false false inside
    none (inr beyond) = get_or_past (replicate count false) cell false (omega (arith, beyond, length-replicate count false))

-- ## Who writes

-- a state that is so, at a cell, writes another
pub record IsWriterBy (p : Program) (Gives : ℕ → ℕ → Type 0) (Is : State → Type 0) (other cell : ℕ) : Type 0 where
  pub s : State
  pub at : s.cell ≡ cell
  pub is : Is s
  pub writes : Writes p Gives s other

module _ (p : Program) (pointers : List (Option ℕ)) (reached : List ℕ) (Gives : ℕ → ℕ → Type 0) (Is : State → Type 0)
    (gives : (pointer word : ℕ) → IsGivenIn pointers pointer word ↔ Gives pointer word) (sets : IsSetOf reached Is) where
  pub writer_by : (other cell : ℕ) → IsCellWriter p pointers reached other cell → IsWriterBy p Gives Is other cell
  writer_by other cell found = record {
    s = found.s;
    at = found.at;
    is = (sets.states found.s found.state).0 found.writer.0;
    writes = record {
      word = found.word;
      pointer = pointer_word pointers found.s found.word;
      given = ap p.words found.at ∙ found.given;
      followed = follows (referred_cell found.s.cell found.word) (pointer_word pointers found.s found.word) refl;
      written = found.writer.1;
    };
  }
    where
      follows : (pointer : ℕ) (o : Option ℕ) → word_in pointers pointer ≡ o → IsFollowed Gives pointer o
      follows pointer None is = tt
      follows pointer (Some word) is = (gives pointer word).0 is

  pub by_writer : ((s : State) → Is s → IsState s) → (other cell : ℕ) → IsWriterBy p Gives Is other cell → IsCellWriter p pointers reached other cell
  by_writer states other cell found = record {
    word = found.writes.word;
    given = sym (ap p.words found.at) ∙ found.writes.given;
    s = found.s;
    state = states found.s found.is;
    at = found.at;
    writer = (
      (sets.states found.s (states found.s found.is)).1 found.is,
      written_grows p found.s other found.writes.word found.writes.pointer (pointer_word pointers found.s found.writes.word)
          (within (referred_cell found.s.cell found.writes.word) found.writes.pointer found.writes.followed) found.writes.written,
    );
  }
    where
      within : (pointer : ℕ) (o : Option ℕ) → IsFollowed Gives pointer o → IsWithin o (word_in pointers pointer)
      within pointer None is = tt
      within pointer (Some word) is = (gives pointer word).1 is

-- ## What isn't written

unwritten_is : (word writer : Option ℕ) (value : ℕ) → unwritten_word word writer ≡ Some value → (word ≡ Some value) × ((value ≢ 0) × (writer ≡ None))
unwritten_is None writer value is = absurd (some_apart is)
unwritten_is (Some word) (Some writer) value is = absurd (some_apart is)
unwritten_is (Some word) None value is = elim (eqb_tells word 0) [
  | inl zero ↦ absurd (some_apart (sym (ap (λ b. if b then None else Some word) zero.0) ∙ is))
  | inr apart ↦
      let same : word ≡ value = same_some (sym (ap (λ b. if b then None else Some word) apart.0) ∙ is) in
      (ap Some same, (λ zero. apart.1 (same ∙ zero), refl))
]

is_unwritten : (word writer : Option ℕ) (value : ℕ) → word ≡ Some value → value ≢ 0 → writer ≡ None → unwritten_word word writer ≡ Some value
is_unwritten word writer value given nonzero free =
    ap (λ w. unwritten_word w writer) given ∙ ap (λ o. unwritten_word (Some value) o) free ∙ ap (λ b. if b then None else Some value) (ne_eqb value 0 nonzero)

zero_is : (word writer : Option ℕ) → is_written_zero word writer ≡ true → (word ≡ Some 0) × (is_some writer ≡ true)
zero_is None writer is = absurd (false≢true is)
zero_is (Some word) writer is = elim (eqb_tells word 0) [
  | inl zero ↦ (ap Some zero.1, by (nat_eq word 0) zero.0 is)
  | inr apart ↦ absurd (false≢true (sym (ap (λ b. b && is_some writer) apart.0) ∙ is))
]
  where
    by : (b : Bool) → b ≡ true → (b && is_some writer) ≡ true → is_some writer ≡ true
    by true has both = both
    by false has both = absurd (false≢true has)

-- ## Levels

-- the states of a walk are those of core
states_are : (p : Program) (Gives : ℕ → ℕ → Type 0) (IsLeft : ℕ → Type 0) → ((cell : ℕ) → is_open p cell ≡ true → cell < CORE) → (s : State)
    → Reaches p Gives IsLeft s → IsState s
states_are p Gives IsLeft inside s reached = reached_state p Gives IsLeft inside s reached

-- the pointers that nothing direct writes
pub candidates_are : (p : Program) (words pointers : List (Option ℕ)) (none : List (Option ℕ)) (reached : List ℕ) (writers : List (Option ℕ))
    → ((cell : ℕ) → is_open p cell ≡ true → cell < CORE) → p.words ≡ word_in words → length words ≡ CORE → length pointers ≡ CORE
    → ((pointer word : ℕ) → IsGivenIn none pointer word ↔ NoPointer pointer word) → IsSetOf reached (IsDirect p) → AreWriters p none reached writers
    → ((cell : ℕ) → cell < CORE → word_in pointers cell ≡ unwritten_word (word_in words cell) (word_in writers cell))
    → GivesPointers pointers (IsCandidate p)
candidates_are p words pointers none reached writers inside same words_size size nothing sets all unwritten = record {
  size = size;
  words = λ pointer word. (to pointer word, from pointer word);
}
  where
    to : (pointer word : ℕ) → word_in pointers pointer ≡ Some word → IsCandidate p pointer word
    to pointer word is =
        let small : pointer < CORE = given_inside pointers pointer size (ap (λ (o : Option ℕ). is_some o) is) in
        let parts = unwritten_is (word_in words pointer) (word_in writers pointer) word (sym (unwritten pointer small) ∙ is) in
        record {
          given = ap (λ (f : ℕ → Option ℕ). f pointer) same ∙ parts.0;
          nonzero = parts.1.0;
          unwritten = λ s direct writes.
              subst (IsLowestWriter p none reached pointer) parts.1.1 (all.cells pointer small) s.cell
              (by_writer p none reached NoPointer (IsDirect p) nothing sets (states_are p NoPointer NoCell inside) pointer s.cell
              (record { s = s; at = refl; is = direct; writes = writes }));
        }

    from : (pointer word : ℕ) → IsCandidate p pointer word → word_in pointers pointer ≡ Some word
    from pointer word candidate =
        let given : word_in words pointer ≡ Some word = sym (ap (λ (f : ℕ → Option ℕ). f pointer) same) ∙ candidate.given in
        let small : pointer < CORE = given_inside words pointer words_size (ap (λ (o : Option ℕ). is_some o) given) in
        unwritten pointer small ∙ is_unwritten (word_in words pointer) (word_in writers pointer) word given candidate.nonzero
        (free (word_in writers pointer) (all.cells pointer small) candidate.unwritten)
      where
        free : (o : Option ℕ) → IsLowestWriter p none reached pointer o → ((s : State) → IsDirect p s → Writes p NoPointer s pointer → ⊥) → o ≡ None
        free None lowest never = refl
        free (Some cell) lowest never =
            let found = writer_by p none reached NoPointer (IsDirect p) nothing sets pointer cell lowest.0 in
            absurd (never found.s found.is found.writes)

-- the lowest writers of what is wide
pub wide_writers : (p : Program) (pointers : List (Option ℕ)) (reached : List ℕ) (writers : List (Option ℕ))
    → ((cell : ℕ) → is_open p cell ≡ true → cell < CORE) → GivesPointers pointers (IsCandidate p) → IsSetOf reached (IsWide p)
    → AreWriters p pointers reached writers → (cell : ℕ) → cell < CORE → AnswersWriter p cell (word_in writers cell)
wide_writers p pointers reached writers inside gives sets all cell small = by (word_in writers cell) (all.cells cell small)
  where
    to : (other : ℕ) → IsCellWriter p pointers reached cell other → IsWriter p cell other
    to other found =
        let way = writer_by p pointers reached (IsCandidate p) (IsWide p) gives.words sets cell other found in
        record { s = way.s; at = way.at; wide = way.is; writes = way.writes }

    from : (other : ℕ) → IsWriter p cell other → IsCellWriter p pointers reached cell other
    from other found =
        by_writer p pointers reached (IsCandidate p) (IsWide p) gives.words sets (states_are p (IsCandidate p) NoCell inside) cell other
        (record { s = found.s; at = found.at; is = found.wide; writes = found.writes })

    by : (o : Option ℕ) → IsLowestWriter p pointers reached cell o → AnswersWriter p cell o
    by None lowest = λ other found. lowest other (from other found)
    by (Some first) lowest = record { is = to first lowest.0; first = λ other found. lowest.1 other (from other found) }

-- the pointers that nothing wide writes
pub known_are : (p : Program) (candidates pointers writers : List (Option ℕ)) → length candidates ≡ CORE → length pointers ≡ CORE
    → GivesPointers candidates (IsCandidate p) → ((cell : ℕ) → cell < CORE → AnswersWriter p cell (word_in writers cell))
    → ((cell : ℕ) → cell < CORE → word_in pointers cell ≡ unwritten_word (word_in candidates cell) (word_in writers cell))
    → GivesPointers pointers (IsKnown p)
known_are p candidates pointers writers candidates_size size gives answers unwritten = record {
  size = size;
  words = λ pointer word. (to pointer word, from pointer word);
}
  where
    to : (pointer word : ℕ) → word_in pointers pointer ≡ Some word → IsKnown p pointer word
    to pointer word is =
        let small : pointer < CORE = given_inside pointers pointer size (ap (λ (o : Option ℕ). is_some o) is) in
        let parts = unwritten_is (word_in candidates pointer) (word_in writers pointer) word (sym (unwritten pointer small) ∙ is) in
        record {
          candidate = (gives.words pointer word).0 parts.0;
          unwritten = λ written.
              subst (AnswersWriter p pointer) parts.1.1 (answers pointer small) written.writer.cell
              (record { s = written.writer; at = refl; wide = written.wide; writes = written.writes });
        }

    from : (pointer word : ℕ) → IsKnown p pointer word → word_in pointers pointer ≡ Some word
    from pointer word known =
        let given : word_in candidates pointer ≡ Some word = (gives.words pointer word).1 known.candidate in
        let small : pointer < CORE = given_inside candidates pointer candidates_size (ap (λ (o : Option ℕ). is_some o) given) in
        unwritten pointer small ∙ is_unwritten (word_in candidates pointer) (word_in writers pointer) word given known.candidate.nonzero
        (free (word_in writers pointer) (answers pointer small) known.unwritten)
      where
        free : (o : Option ℕ) → AnswersWriter p pointer o → (IsWritten p pointer → ⊥) → o ≡ None
        free None answer never = refl
        free (Some cell) answer never = absurd (never (record { writer = answer.is.s; wide = answer.is.wide; writes = answer.is.writes }))

-- the cells to which no ISZ skips
pub left_out_are : (p : Program) (words writers : List (Option ℕ)) (flags : List Bool) → p.words ≡ word_in words → length words ≡ CORE → length flags ≡ CORE
    → ((cell : ℕ) → cell < CORE → AnswersWriter p cell (word_in writers cell))
    → ((cell : ℕ) → cell < CORE → slice_index_or flags cell false ≡ is_written_zero (word_in words cell) (word_in writers cell))
    → (cell : ℕ) → IsFlaggedIn flags cell ↔ IsLeftOut p cell
left_out_are p words writers flags same words_size size answers flagged cell = (to, from)
  where
    inside : IsFlaggedIn flags cell → cell < CORE
    inside is = elim (cases_lt cell CORE) [
      | inl small ↦ small
      | inr beyond ↦ absurd (false≢true (sym (get_or_past flags cell false (omega (arith, beyond, size))) ∙ is))
    ]

    written : (o : Option ℕ) → AnswersWriter p cell o → is_some o ≡ true → IsWritten p cell
    written None answer is = absurd (false≢true is)
    written (Some first) answer is = record { writer = answer.is.s; wide = answer.is.wide; writes = answer.is.writes }

    to : IsFlaggedIn flags cell → IsLeftOut p cell
    to is =
        let parts = zero_is (word_in words cell) (word_in writers cell) (sym (flagged cell (inside is)) ∙ is) in
        record { zero = ap (λ (f : ℕ → Option ℕ). f cell) same ∙ parts.0; written = written (word_in writers cell) (answers cell (inside is)) parts.1 }

    some : (o : Option ℕ) → AnswersWriter p cell o → IsWritten p cell → is_some o ≡ true
    some None answer writes = absurd (answer writes.writer.cell (record { s = writes.writer; at = refl; wide = writes.wide; writes = writes.writes }))
    some (Some first) answer writes = refl

    from : IsLeftOut p cell → IsFlaggedIn flags cell
    from left =
        let zero : word_in words cell ≡ Some 0 = sym (ap (λ (f : ℕ → Option ℕ). f cell) same) ∙ left.zero in
        let small : cell < CORE = given_inside words cell words_size (ap (λ (o : Option ℕ). is_some o) zero) in
        flagged cell small ∙ ap (λ o. is_written_zero o (word_in writers cell)) zero ∙ some (word_in writers cell) (answers cell small) left.written

-- one value more of a list by cells
pub pushed : {X : Type 0} (old new : List X) (value none : X) (number : ℕ) (at : ℕ → X) → new ≡ old ++ value ∷ [] → length old ≡ number
    → ((cell : ℕ) → cell < number → slice_index_or old cell none ≡ at cell) → value ≡ at number
    → (length new ≡ number + 1) × ((cell : ℕ) → cell < number + 1 → slice_index_or new cell none ≡ at cell)
pushed old new value none number at made size before is = (
  ap length made ∙ length_push old value ∙ ap (λ n. n + 1) size,
  λ cell small. ap (λ l. slice_index_or l cell none) made ∙ elim (cases_eq cell number) [
    | inl same ↦ get_or_push old value none cell (size ∙ sym same) ∙ is ∙ ap at (sym same)
    | inr apart ↦ get_or_append_left old (value ∷ []) none cell (omega (arith, small, apart, size)) ∙ before cell (omega (arith, small, apart))
  ],
)

-- ## The levels by lists that are lent

pub candidates_by : (p : Program) (words pointers none lent writers lent_writers : List (Option ℕ)) (flags lent_flags : List Bool) (count : ℕ)
    → none ≡ replicate count None → lent ≡ none → flags ≡ replicate count false → lent_flags ≡ flags → lent_writers ≡ writers → p.words ≡ word_in words
    → length words ≡ CORE → length pointers ≡ CORE → AreWritersBy p lent lent_flags writers
    → ((cell : ℕ) → cell < CORE → word_in pointers cell ≡ unwritten_word (word_in words cell) (word_in lent_writers cell))
    → GivesPointers pointers (IsCandidate p)
candidates_by p words pointers none lent writers lent_writers flags lent_flags count nothing lends no_flags lends_flags lends_writers same size pointers_size by unwritten =
    candidates_are p words pointers lent by.reached writers (opens_inside p words same size) same size pointers_size
    (none_given count lent (lends ∙ nothing))
    (set_as p by.reached (IsGivenIn lent) NoPointer (IsFlaggedIn lent_flags) NoCell (none_given count lent (lends ∙ nothing))
    (none_flagged count lent_flags (lends_flags ∙ no_flags)) by.walk)
    by.are (λ cell small. unwritten cell small ∙ ap (λ l. unwritten_word (word_in words cell) (word_in l cell)) lends_writers)

pub wide_by : (p : Program) (words candidates writers : List (Option ℕ)) (flags lent_flags : List Bool) (count : ℕ) → flags ≡ replicate count false
    → lent_flags ≡ flags → p.words ≡ word_in words → length words ≡ CORE → GivesPointers candidates (IsCandidate p) → AreWritersBy p candidates lent_flags writers
    → (cell : ℕ) → cell < CORE → AnswersWriter p cell (word_in writers cell)
wide_by p words candidates writers flags lent_flags count no_flags lends same size gives by =
    wide_writers p candidates by.reached writers (opens_inside p words same size) gives
    (set_as p by.reached (IsGivenIn candidates) (IsCandidate p) (IsFlaggedIn lent_flags) NoCell gives.words (none_flagged count lent_flags (lends ∙ no_flags)) by.walk)
    by.are
