-- Marking cells, and that in the end just those are marked that are reached.
use Rattle.std.proofs.Common.{◌≡◌, ◌⊎◌, inl, inr, ℕ, ◌+◌, ◌*◌, ◌<◌, ◌≤◌, Bool, true, false, true≢false, if◌then◌else◌, List, [], ◌∷◌, ◌++◌, length, Option, Some, None, option_to_list, slice_index_or, slice_set, ap, sym, refl, subst, ◌∙◌, arith, is_some, replicate}
use Rattle.std.proofs.lemmas.List.{get_or-replicate, get_or-set_same, get_or-set_other, length-append, length-replicate, length-set}
use Rattle.std.proofs.lemmas.List.Sums.{sum_by-set}
use Rattle.std.proofs.lemmas.Bool.{cases_eq, cases_lt}
use Rattle.std.proofs.Math.ListN.{get_or-eq_default}
use Rattle.word12.specs.declared.sizes.TheConstants.{CORE}
use Rattle.flow8.specs.Exits.{exits, IsExit}
use Rattle.flow8.specs.Flow.{IsAmong, Reaches, start, goes, IsFlow, word_in}
use Rattle.flow8.specs.FlowSteps.{AreUnmarked, GivesWord, IsMarked, MarksCells, cells_after, exit_list, count_of_unmarked}

-- ## Lists of cells

pub among_left : (cell : ℕ) (xs ys : List ℕ) → IsAmong cell xs → IsAmong cell (xs ++ ys)
among_left cell [] ys is = absurd is
among_left cell (x ∷ xs) ys (inl same) = inl same
among_left cell (x ∷ xs) ys (inr other) = inr (among_left cell xs ys other)

pub among_right : (cell : ℕ) (xs ys : List ℕ) → IsAmong cell ys → IsAmong cell (xs ++ ys)
among_right cell [] ys is = is
among_right cell (x ∷ xs) ys is = inr (among_right cell xs ys is)

pub among_parts : (cell : ℕ) (xs ys : List ℕ) → IsAmong cell (xs ++ ys) → IsAmong cell xs ⊎ IsAmong cell ys
among_parts cell [] ys is = inr is
among_parts cell (x ∷ xs) ys (inl same) = inl (inl same)
among_parts cell (x ∷ xs) ys (inr other) = elim (among_parts cell xs ys other) [ inl left ↦ inl (inr left) | inr right ↦ inr right ]

-- ## MarksCells

pub marks_none : (words : List (Option ℕ)) (old : List Bool) (waiting : List ℕ) → MarksCells words old old waiting waiting []
marks_none words old waiting = record {
  size = refl;
  marks = λ cell word is gives. absurd is;
  kept = λ cell has. has;
  only = λ cell has. inl has;
  waits = λ cell has. inl has;
  still_waits = λ cell is. is;
  waiting_are = λ cell is. inl is;
  sum = omega arith;
}

pub marks_more : (words : List (Option ℕ)) (a b c : List Bool) (u v w : List ℕ) (xs ys : List ℕ) → MarksCells words a b u v xs → MarksCells words b c v w ys
    → MarksCells words a c u w (xs ++ ys)
marks_more words a b c u v w xs ys first second = record {
  size = second.size ∙ first.size;
  marks = λ cell word is gives. elim (among_parts cell xs ys is) [
    | inl left ↦ second.kept cell (first.marks cell word left gives)
    | inr right ↦ second.marks cell word right gives
  ];
  kept = λ cell has. second.kept cell (first.kept cell has);
  only = λ cell has. elim (second.only cell has) [
    | inl before ↦ elim (first.only cell before) [
      | inl older ↦ inl older
      | inr new ↦ inr (among_left cell xs ys new.0, new.1)
    ]
    | inr new ↦ inr (among_right cell xs ys new.0, new.1)
  ];
  waits = λ cell has. elim (second.waits cell has) [
    | inl before ↦ elim (first.waits cell before) [
      | inl older ↦ inl older
      | inr waiting ↦ inr (second.still_waits cell waiting)
    ]
    | inr waiting ↦ inr waiting
  ];
  still_waits = λ cell is. second.still_waits cell (first.still_waits cell is);
  waiting_are = λ cell is. elim (second.waiting_are cell is) [
    | inl between ↦ elim (first.waiting_are cell between) [
      | inl older ↦ inl older
      | inr has ↦ inr (second.kept cell has)
    ]
    | inr has ↦ inr has
  ];
  sum = omega (arith, first.sum, second.sum);
}

-- a cell that is marked, or to which no word is given, stays as it is
pub marks_not : (words : List (Option ℕ)) (old : List Bool) (waiting : List ℕ) (cell : ℕ)
    → IsMarked old cell ⊎ (slice_index_or words cell None ≡ None) → MarksCells words old old waiting waiting (cell ∷ [])
marks_not words old waiting cell done = record {
  size = refl;
  marks = λ other word is gives. elim is [
    | inl same ↦ elim done [
      | inl has ↦ subst (λ c. IsMarked old c) (sym same) has
      | inr none ↦ absurd (none_gives (sym none ∙ ap (λ c. slice_index_or words c None) (sym same) ∙ gives))
    ]
    | inr never ↦ absurd never
  ];
  kept = λ other has. has;
  only = λ other has. inl has;
  waits = λ other has. inl has;
  still_waits = λ other is. is;
  waiting_are = λ other is. inl is;
  sum = omega arith;
}
  where
    none_gives : {word : ℕ} → None ≡ Some word → ⊥
    none_gives same = cc

-- a cell that isn't marked is, and waits
pub marks_new : (words : List (Option ℕ)) (old : List Bool) (waiting : List ℕ) (cell word : ℕ) → cell < length old → GivesWord words cell word
    → slice_index_or old cell false ≡ false → MarksCells words old (slice_set old cell true) waiting (waiting ++ cell ∷ []) (cell ∷ [])
marks_new words old waiting cell word within gives new = record {
  size = length-set old cell true;
  marks = λ other w is given. elim is [
    | inl same ↦ subst (λ c. IsMarked (slice_set old cell true) c) (sym same) here
    | inr never ↦ absurd never
  ];
  kept = λ other has. elim (cases_eq other cell) [
    | inl same ↦ subst (λ c. IsMarked (slice_set old cell true) c) (sym same) here
    | inr apart ↦ get_or-set_other old cell other true false apart ∙ has
  ];
  only = λ other has. elim (cases_eq other cell) [
    | inl same ↦ inr (inl same, (word, subst (λ c. GivesWord words c word) (sym same) gives))
    | inr apart ↦ inl (sym (get_or-set_other old cell other true false apart) ∙ has)
  ];
  waits = λ other has. elim (cases_eq other cell) [
    | inl same ↦ inr (among_right other waiting (cell ∷ []) (inl same))
    | inr apart ↦ inl (sym (get_or-set_other old cell other true false apart) ∙ has)
  ];
  still_waits = λ other is. among_left other waiting (cell ∷ []) is;
  waiting_are = λ other is. elim (among_parts other waiting (cell ∷ []) is) [
    | inl older ↦ inl older
    | inr last ↦ elim last [
      | inl same ↦ inr (subst (λ c. IsMarked (slice_set old cell true) c) (sym same) here)
      | inr never ↦ absurd never
    ]
  ];
  sum = omega (arith, total, one_more);
}
  where
    here : IsMarked (slice_set old cell true) cell
    here = get_or-set_same old cell true false within

    total : count_of_unmarked (slice_set old cell true) + 1 ≡ count_of_unmarked old + 0
    total =
        ap (λ mark. count_of_unmarked (slice_set old cell true) + (if mark then 0 else 1)) (sym new)
        ∙ sum_by-set (λ mark. if mark then 0 else 1) old cell true false within

    one_more : length (waiting ++ cell ∷ []) ≡ length waiting + 1
    one_more = length-append waiting (cell ∷ [])

-- the same of a word that is read in place
pub marks_given : (words : List (Option ℕ)) (old : List Bool) (waiting waiting' : List ℕ) (cell at : ℕ) (given : Option ℕ) → at ≡ cell
    → cell < length old → slice_index_or words cell None ≡ given → is_some given ≡ true → slice_index_or old cell false ≡ false
    → waiting' ≡ waiting ++ cell ∷ [] → MarksCells words old (slice_set old at true) waiting waiting' (cell ∷ [])
marks_given words old waiting waiting' cell at None is within gives some new waits = absurd (false_true some)
  where
    false_true : false ≡ true → ⊥
    false_true same = cc
marks_given words old waiting waiting' cell at (Some word) is within gives some new waits =
    subst (λ w. MarksCells words old (slice_set old at true) waiting w (cell ∷ [])) (sym waits)
    (subst (λ n. MarksCells words old (slice_set old n true) waiting (waiting ++ cell ∷ []) (cell ∷ [])) (sym is)
    (marks_new words old waiting cell word within gives new))

-- ## Exits

pub exits_among : (words : List (Option ℕ)) (cell word next : ℕ) → GivesWord words cell word → IsExit cell word next → IsAmong next (cells_after words cell)
exits_among words cell word next gives exit =
    subst (λ given. IsAmong next (exit_list cell given)) (sym gives) (one_of exit)
  where
    none_some : None ≡ Some next → ⊥
    none_some is = cc

    same_some : {other : ℕ} → Some other ≡ Some next → next ≡ other
    same_some is = cc

    of_option : (exit : Option ℕ) → exit ≡ Some next → IsAmong next (option_to_list exit)
    of_option None is = absurd (none_some is)
    of_option (Some other) is = inl (same_some is)

    one_of : IsExit cell word next → IsAmong next (exit_list cell (Some word))
    one_of (inl first) = among_left next (option_to_list (exits cell word).0) (option_to_list (exits cell word).1) (of_option (exits cell word).0 first)
    one_of (inr second) = among_right next (option_to_list (exits cell word).0) (option_to_list (exits cell word).1) (of_option (exits cell word).1 second)

pub among_exits : (words : List (Option ℕ)) (cell next : ℕ) → IsAmong next (cells_after words cell)
    → (word : ℕ) × GivesWord words cell word × IsExit cell word next
among_exits words cell next is = given (slice_index_or words cell None) refl is
  where
    of_option : (exit : Option ℕ) → IsAmong next (option_to_list exit) → exit ≡ Some next
    of_option None among = absurd among
    of_option (Some other) (inl same) = ap Some (sym same)
    of_option (Some other) (inr never) = absurd never

    one_of : (word : ℕ) → IsAmong next (option_to_list (exits cell word).0) ⊎ IsAmong next (option_to_list (exits cell word).1) → IsExit cell word next
    one_of word (inl first) = inl (of_option (exits cell word).0 first)
    one_of word (inr second) = inr (of_option (exits cell word).1 second)

    given : (o : Option ℕ) → slice_index_or words cell None ≡ o → IsAmong next (exit_list cell o) → (word : ℕ) × GivesWord words cell word × IsExit cell word next
    given None same among = absurd among
    given (Some word) same among =
        (word, same, one_of word (among_parts next (option_to_list (exits cell word).0) (option_to_list (exits cell word).1) among))

-- ## The flow

-- What is so between two cells that wait: what is marked is reached, and each exit of what waits no more is marked.
pub record IsOnTheWay (words : List (Option ℕ)) (starts : List ℕ) (reached : List Bool) (waiting : List ℕ) : Type 0 where
  pub size : length reached ≡ CORE
  pub sound : (cell : ℕ) → IsMarked reached cell → Reaches (word_in words) starts cell
  pub starts_are : (cell word : ℕ) → IsAmong cell starts → GivesWord words cell word → IsMarked reached cell
  pub marked : (cell : ℕ) → IsAmong cell waiting → IsMarked reached cell
  pub closed : (cell : ℕ) → IsMarked reached cell → IsAmong cell waiting
      ⊎ ((next word : ℕ) → IsAmong next (cells_after words cell) → GivesWord words next word → IsMarked reached next)

pub none_marked : (count : ℕ) → AreUnmarked (replicate count false)
none_marked count cell has = true≢false (sym has ∙ unmarked_at (cases_lt cell count))
  where
    unmarked_at : (cell < count) ⊎ (count ≤ cell) → slice_index_or (replicate count false) cell false ≡ false
    unmarked_at (inl within) = get_or-replicate count cell false false within
    unmarked_at (inr beyond) = get_or-eq_default (replicate count false) false (omega (arith, beyond, length-replicate count false))

pub begins : (words : List (Option ℕ)) (starts : List ℕ) (none reached : List Bool) (before waiting : List ℕ) → length none ≡ CORE
    → AreUnmarked none → before ≡ [] → MarksCells words none reached before waiting starts → IsOnTheWay words starts reached waiting
begins words starts none reached before waiting size empty nothing marks = record {
  size = marks.size ∙ size;
  sound = λ cell has. elim (marks.only cell has) [
    | inl before ↦ absurd (empty cell before)
    | inr new ↦ start cell new.1.0 new.0 new.1.1
  ];
  starts_are = marks.marks;
  marked = λ cell is. elim (marks.waiting_are cell is) [
    | inl older ↦ absurd (subst (λ l. IsAmong cell l) nothing older)
    | inr has ↦ has
  ];
  closed = λ cell has. elim (marks.waits cell has) [
    | inl before ↦ absurd (empty cell before)
    | inr waits ↦ inl waits
  ];
}

-- one cell waits no more
pub goes_on : (words : List (Option ℕ)) (starts : List ℕ) (old new : List Bool) (all rest waiting : List ℕ) (cell : ℕ)
    → IsOnTheWay words starts old all → all ≡ rest ++ cell ∷ []
    → MarksCells words old new rest waiting (cells_after words cell) → IsOnTheWay words starts new waiting
goes_on words starts old new all rest waiting cell way is marks = record {
  size = marks.size ∙ way.size;
  sound = λ other marked. elim (marks.only other marked) [
    | inl before ↦ way.sound other before
    | inr added ↦
        let exit = among_exits words cell other added.0 in
        goes cell exit.0 other added.1.0 (way.sound cell has) exit.1 exit.2 added.1.1
  ];
  starts_are = λ other word among gives. marks.kept other (way.starts_are other word among gives);
  marked = λ other among. elim (marks.waiting_are other among) [
    | inl older ↦ marks.kept other (way.marked other (subst (λ l. IsAmong other l) (sym is) (among_left other rest (cell ∷ []) older)))
    | inr now ↦ now
  ];
  closed = λ other marked. elim (marks.waits other marked) [
    | inl before ↦ elim (way.closed other before) [
      | inl waits ↦ elim (among_parts other rest (cell ∷ []) (subst (λ l. IsAmong other l) is waits)) [
        | inl still ↦ inl (marks.still_waits other still)
        | inr last ↦ inr (λ next word among gives. marks.marks next word (subst (λ c. IsAmong next (cells_after words c)) (only_cell last) among) gives)
      ]
      | inr done ↦ inr (λ next word among gives. marks.kept next (done next word among gives))
    ]
    | inr waits ↦ inl waits
  ];
}
  where
    has : IsMarked old cell
    has = way.marked cell (subst (λ l. IsAmong cell l) (sym is) (among_right cell rest (cell ∷ []) (inl refl)))

    only_cell : {other : ℕ} → IsAmong other (cell ∷ []) → other ≡ cell
    only_cell (inl same) = same
    only_cell (inr never) = absurd never

-- none waits any more
pub ends : (words : List (Option ℕ)) (starts : List ℕ) (reached : List Bool) → IsOnTheWay words starts reached [] → IsFlow words starts reached
ends words starts reached way = record { size = way.size; cells = λ cell. (way.sound cell, all cell) }
  where
    all : (cell : ℕ) → Reaches (word_in words) starts cell → IsMarked reached cell
    all cell (start _ word among gives) = way.starts_are cell word among gives
    all cell (goes before word _ other reaches gives exit given) =
        elim (way.closed before (all before reaches)) [
          | inl waits ↦ absurd waits
          | inr done ↦ done cell other (exits_among words before word cell gives exit) given
        ]

-- fewer cells are left to be marked or to wait
pub fewer : (words : List (Option ℕ)) (old new : List Bool) (all rest waiting : List ℕ) (cell : ℕ) → all ≡ rest ++ cell ∷ []
    → MarksCells words old new rest waiting (cells_after words cell) → 2 * count_of_unmarked new + length waiting < 2 * count_of_unmarked old + length all
fewer words old new all rest waiting cell is marks = omega (arith, marks.sum, one_more)
  where
    one_more : length all ≡ length rest + 1
    one_more = ap (λ l. length l) is ∙ length-append rest (cell ∷ [])

-- none waits
pub none_waits : (waiting : List ℕ) → 0 ≡ length waiting → waiting ≡ []
none_waits [] is = refl
none_waits (cell ∷ others) is = absurd (omega (arith, is))
