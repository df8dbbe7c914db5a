-- What stands in a source between the places of a token.
use Rattle.std.specs.Prelude.{◌≡◌, ℕ, ◌<◌, ◌≤◌, nat_eq, nat_le, nat_lt, true, ◌&&◌, not, if◌then◌else◌, Option, Some, None, Ok, length, List, [], ◌∷◌, ◌++◌}
use Rattle.pal_lex.specs.Text.{is_ignored, stretch}
use Rattle.pal_lex.specs.Cutting.{is_coded, are_coded, is_space, sign_of, is_blank}
use Rattle.pal_lex.specs.Runs.{base, run_kind}
use Rattle.pal_lex.specs.Statements.{radix_after, statements}
use Rattle.pal_lex.specs.Joins.{pauses, IsClear}
use Rattle.pal_lex.specs.Reading.{tokens_since}
use Rattle.pal_lex.specs.declared.pieces.Token.{Token}
use Rattle.pal_lex.specs.declared.pieces.Term.TheVariants.{Here}
use Rattle.pal_lex.specs.declared.pieces.Kind.{Kind}
use Rattle.pal_lex.specs.declared.pieces.Kind.TheVariants.{Term, Blank}
use Rattle.pal_lex.specs.declared.phrases.Statement.{Statement}

-- the bytes of a text from one place on and before another, in their order, without those that are as if they weren't there
abbrev pub between : List ℕ → ℕ → ℕ → List ℕ
between [] start end = []
between (b ∷ older) start end =
    between older start end ++ (if nat_le start (length older) && nat_lt (length older) end && not (is_ignored b) then b ∷ [] else [])

-- the token of a character that is no letter and no digit
abbrev pub mark_of : ℕ → Option Kind
mark_of c = if is_space c then Some Blank else (if nat_eq c 0o56 then Some (Term Here) else sign_of c)

-- the token that bytes spell, by a base
abbrev pub token_of_bytes : ℕ → List ℕ → Option Kind
token_of_bytes base [] = None
token_of_bytes base (c ∷ []) = if is_coded c then Some (run_kind base c []) else mark_of c
token_of_bytes base (c ∷ d ∷ others) = if are_coded (c ∷ d ∷ others) then Some (run_kind base c (d ∷ others)) else None

-- a token is what stands between its places, where its end is no more than a number of 64 bits holds
abbrev pub Spells : List ℕ → ℕ → Token → Type 0
Spells text base token = token.end < 18446744073709551615 → token_of_bytes base (between text token.start token.end) ≡ Some token.kind

abbrev pub AllSpell : List ℕ → ℕ → List Token → Type 0
AllSpell text base [] = Unit {0}
AllSpell text base (token ∷ others) = Spells text base token × AllSpell text base others

-- The tokens of a statement that a byte ends are what stands between their places, whatever follows.
abbrev pub HasSpans : Type 0
HasSpans =
    (text later : List ℕ) (b : ℕ) (statement : Statement) → statements (b ∷ text) ≡ Ok statement ∷ statements text
    → AllSpell (later ++ b ∷ text) (base (radix_after (statements text))) statement.tokens

-- the live bytes of a stretch in their order, without blanks and tabs
abbrev pub solid : List (ℕ × ℕ) → List ℕ
solid [] = []
solid (live ∷ older) = solid older ++ (if is_space live.0 then [] else live.0 ∷ [])

-- what stands between the places of tokens, one after the other, without blanks
abbrev pub bytes_between : List ℕ → List Token → List ℕ
bytes_between text [] = []
bytes_between text (token ∷ others) = (if is_blank token.kind then [] else between text token.start token.end) ++ bytes_between text others

-- The tokens of a statement that a byte ends leave nothing out but blanks. Joined they are the live bytes after the end
-- before it, where the places are no more than a number of 64 bits holds.
abbrev pub HasAll : Type 0
HasAll =
    (text later : List ℕ) (b : ℕ) (statement : Statement) → length text ≤ 18446744073709551615
    → statements (b ∷ text) ≡ Ok statement ∷ statements text → bytes_between (later ++ b ∷ text) statement.tokens ≡ solid (stretch text)

-- So it is in one of several sources, with the places in that source alone, which stands after the join of those before it.
abbrev pub HasSourceSpans : Type 0
HasSourceSpans =
    (before here later : List ℕ) (b : ℕ) (statement : Statement) → IsClear before → statements (b ∷ here ++ before) ≡ Ok statement ∷ statements (here ++ before)
    → AllSpell (later ++ b ∷ here) (base (radix_after (statements (here ++ before)))) (tokens_since (length before) (here ++ before))

abbrev pub HasAllOfSource : Type 0
HasAllOfSource =
    (before here later : List ℕ) (b : ℕ) (statement : Statement) → IsClear before → length here ≤ 18446744073709551615
    → statements (b ∷ here ++ before) ≡ Ok statement ∷ statements (here ++ before)
    → bytes_between (later ++ b ∷ here) (tokens_since (length before) (here ++ before)) ≡ solid (stretch here)

-- So it is with the tokens of PAUSE, which ends one of several sources.
abbrev pub PauseHasSpans : Type 0
PauseHasSpans =
    (before here later : List ℕ) (b : ℕ) → IsClear before → pauses (here ++ before) b ≡ true
    → AllSpell (later ++ b ∷ here) (base (radix_after (statements (here ++ before)))) (tokens_since (length before) (here ++ before))

abbrev pub PauseHasAll : Type 0
PauseHasAll =
    (before here later : List ℕ) (b : ℕ) → IsClear before → length here ≤ 18446744073709551615 → pauses (here ++ before) b ≡ true
    → bytes_between (later ++ b ∷ here) (tokens_since (length before) (here ++ before)) ≡ solid (stretch here)
