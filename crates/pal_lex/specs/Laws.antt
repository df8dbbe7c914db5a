-- Laws about the statements of a text.
use Rattle.std.specs.Prelude.{◌≡◌, ℕ, ◌+◌, Bool, true, false, ◌&&◌, ◌||◌, Some, None, is_some, Result, List, [], ◌∷◌, ◌++◌}
use Rattle.pal_lex.specs.Text.{is_over, up_to_end, line_after, text_of}
use Rattle.pal_lex.specs.Statements.{statements, first_fault}
use Rattle.pal_lex.specs.Cutting.{Piece, Run, Mark, is_coded, is_space, sign_of, is_legal, has_illegal, pieces}
use Rattle.pal_lex.specs.Runs.{tokens}
use Rattle.pal_lex.specs.Joins.{pauses, IsClear, join_of}
use Rattle.pal_faults.specs.declared.lexical.LexFault.{LexFault}
use Rattle.pal_faults.specs.declared.lexical.LexFault.TheVariants.{IC, SY, NU, NE, Memory}
use Rattle.pal_lex.specs.declared.pieces.Kind.{Kind}
use Rattle.pal_lex.specs.declared.phrases.Statement.{Statement}
use Rattle.pal_lex.specs.declared.runs.Radix.{Radix}

-- Bytes in their order, with one after them, are a text with that byte as its newest.
abbrev pub TextGrows : Type 0
TextGrows = (bytes : List ℕ) (b : ℕ) → text_of (bytes ++ b ∷ []) ≡ b ∷ text_of bytes

-- The statements of a text stay whatever follows it.
abbrev pub StatementsStay : Type 0
StatementsStay = (text later : List ℕ) → (more : List (Result Statement LexFault)) × (statements (later ++ text) ≡ more ++ statements text)

-- After the `$` that ends the source there is no statement.
abbrev pub EndsSource : Type 0
EndsSource = (text later : List ℕ) → is_over text ≡ true → statements (later ++ text) ≡ statements text

-- The first fault of a text stays whatever follows it.
abbrev pub FaultStays : Type 0
FaultStays = (text later : List ℕ) (fault : LexFault) → first_fault (statements text) ≡ Some fault → first_fault (statements (later ++ text)) ≡ Some fault

-- an illegal character, a bad statement or a bad number
abbrev pub IsOfStatement : LexFault → Type 0
IsOfStatement (IC line) = Unit {0}
IsOfStatement (SY line) = Unit {0}
IsOfStatement (NU line) = Unit {0}
IsOfStatement (NE line) = ⊥
IsOfStatement Memory = ⊥

-- The first fault of a text is that of a statement.
abbrev pub FaultsAreOfStatements : Type 0
FaultsAreOfStatements = (text : List ℕ) (fault : LexFault) → first_fault (statements text) ≡ Some fault → IsOfStatement fault

-- ## Several sources. In each of these laws a source follows a text that ends after a statement, and others follow it.

-- PAUSE is a bad statement of a text that nothing follows.
abbrev pub PauseIsBad : Type 0
PauseIsBad =
    (text : List ℕ) (b : ℕ) → pauses text b ≡ true → first_fault (statements text) ≡ None → first_fault (statements (b ∷ text)) ≡ Some (SY (line_after text))

abbrev pub has_next : List (List ℕ) → Bool
has_next [] = false
has_next (text ∷ others) = true

-- Where a byte ends PAUSE, the join goes on with the next source after the last end before it.
abbrev pub PauseJoins : Type 0
PauseJoins =
    (before here later : List ℕ) (b : ℕ) (next : List ℕ) (others : List (List ℕ)) → IsClear before → first_fault (statements (here ++ before)) ≡ None
    → pauses (here ++ before) b ≡ true → join_of ((later ++ b ∷ here) ∷ next ∷ others) ++ before ≡ join_of (next ∷ others) ++ up_to_end (here ++ before)

-- The statements of a source so far, where none has a fault, are the first of the join.
abbrev pub JoinGoesOn : Type 0
JoinGoesOn =
    (before here later : List ℕ) (others : List (List ℕ)) → IsClear before → first_fault (statements (here ++ before)) ≡ None
    → (more : List (Result Statement LexFault)) × (statements (join_of ((later ++ here) ∷ others) ++ before) ≡ more ++ statements (here ++ before))

-- So are those with one byte more, whether or not this ends a statement with a fault, unless it ends PAUSE.
abbrev pub ByteGoesOn : Type 0
ByteGoesOn =
    (before here later : List ℕ) (b : ℕ) (others : List (List ℕ)) → IsClear before → first_fault (statements (here ++ before)) ≡ None
    → (has_next others && pauses (here ++ before) b) ≡ false
    → (more : List (Result Statement LexFault)) × (statements (join_of ((later ++ b ∷ here) ∷ others) ++ before) ≡ more ++ statements (b ∷ here ++ before))

-- A source with neither PAUSE nor a fault of a statement is the last that counts.
abbrev pub EndsJoin : Type 0
EndsJoin =
    (before here : List ℕ) (others : List (List ℕ)) → IsClear before → first_fault (statements (here ++ before)) ≡ None → join_of (here ∷ others) ≡ here

-- ## Letters and digits of a stretch

-- live bytes that are all letters and digits
abbrev pub all_coded : List (ℕ × ℕ) → Bool
all_coded [] = true
all_coded (live ∷ older) = is_coded live.0 && all_coded older

-- the newest of live bytes is a letter or a digit
abbrev pub ends_coded : List (ℕ × ℕ) → Bool
ends_coded [] = false
ends_coded (live ∷ older) = is_coded live.0

-- live bytes in the order of the source
abbrev pub spelt : List (ℕ × ℕ) → List ℕ
spelt [] = []
spelt (live ∷ older) = spelt older ++ live.0 ∷ []

-- the place of the oldest of live bytes, or this one
abbrev pub first_place : ℕ → List (ℕ × ℕ) → ℕ
first_place place [] = place
first_place place (live ∷ older) = first_place live.1 older

-- Letters and digits that stand together, with none before them, are one piece with all of them, from the place of the first
-- to that after the last.
abbrev pub RunsAreMaximal : Type 0
RunsAreMaximal =
    (b place : ℕ) (run before : List (ℕ × ℕ)) → all_coded ((b, place) ∷ run) ≡ true → ends_coded before ≡ false → has_illegal before ≡ false
    → (first : ℕ) × ((others : List ℕ) × ((pieces ((b, place) ∷ run ++ before) ≡ Run first others (first_place place run) (place + 1) ∷ pieces before)
    × (first ∷ others ≡ spelt ((b, place) ∷ run))))

-- Any other character of the language stands after them as a piece by itself, and changes none.
abbrev pub RunsEnd : Type 0
RunsEnd =
    (b place : ℕ) (live : List (ℕ × ℕ)) (first : ℕ) (others : List ℕ) (start end : ℕ) (before : List Piece) → is_coded b ≡ false → is_legal b ≡ true
    → pieces live ≡ Run first others start end ∷ before
    → (kind : Kind) × (pieces ((b, place) ∷ live) ≡ Mark kind place ∷ Run first others start end ∷ before)

-- ## Blanks of a stretch

-- after these live bytes a blank means nothing: there are none, or the newest is a sign or a blank
abbrev pub ends_idle : List (ℕ × ℕ) → Bool
ends_idle [] = true
ends_idle (live ∷ older) = is_space live.0 || is_some (sign_of live.0)

-- before these live bytes a blank means nothing: there are none, or the oldest is a sign
abbrev pub begins_idle : List (ℕ × ℕ) → Bool
begins_idle [] = true
begins_idle (live ∷ []) = is_some (sign_of live.0)
begins_idle (live ∷ next ∷ older) = begins_idle (next ∷ older)

-- A blank beside a sign, at an end or after a blank leaves the tokens as they are.
abbrev pub BlanksMeanNothing : Type 0
BlanksMeanNothing =
    (radix : Radix) (b place : ℕ) (before later : List (ℕ × ℕ)) → is_space b ≡ true → (ends_idle before || begins_idle later) ≡ true
    → tokens radix (later ++ (b, place) ∷ before) ≡ tokens radix (later ++ before)
