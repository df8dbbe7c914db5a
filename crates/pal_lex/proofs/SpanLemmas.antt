-- The tokens of a statement are what stands between their places.
use Rattle.std.proofs.Common.{◌≡◌, ℕ, ◌+◌, ◌≤◌, ◌<◌, nat_eq, nat_le, nat_lt, Bool, true, false, ◌&&◌, ◌||◌, not, if◌then◌else◌, Option, Some, None, is_some, Result, Ok, Err, suc, length, List, [], ◌∷◌, ◌++◌, refl, ap, sym, subst, ◌∙◌, arith, length-append, append-nil}
use Rattle.std.proofs.lemmas.Bool.Decides.{nat_tests}
use Rattle.pal_lex.specs.Text.{is_ignored, in_comment, is_dead, is_end, ends_statement, stretch, limit, line_after}
use Rattle.pal_lex.specs.Cutting.{Piece, Run, Mark, is_coded, is_space, sign_of, is_legal, has_illegal, is_blank, is_operand, without_end_blank, with_character, with_blank, with_sign, pieces, are_coded}
use Rattle.pal_lex.specs.Runs.{base, run_kind, token, in_order, tokens}
use Rattle.pal_lex.specs.Grammar.{phrase_of_tokens, has_bad_number}
use Rattle.pal_lex.specs.Statements.{statement_or_fault, radix_after, with_stretch, statements}
use Rattle.pal_lex.specs.Spans.{between, mark_of, token_of_bytes, Spells, AllSpell, HasSpans}
use Rattle.pal_faults.specs.declared.lexical.LexFault.{LexFault}
use Rattle.pal_faults.specs.declared.lexical.LexFault.TheVariants.{IC, NU}
use Rattle.pal_lex.specs.declared.pieces.Token.{Token}
use Rattle.pal_lex.specs.declared.pieces.Term.TheVariants.{Here}
use Rattle.pal_lex.specs.declared.pieces.Kind.{Kind}
use Rattle.pal_lex.specs.declared.pieces.Kind.TheVariants.{Term, Blank}
use Rattle.pal_lex.specs.declared.phrases.Said.{Said}
use Rattle.pal_lex.specs.declared.phrases.Statement.{Statement}
use Rattle.pal_lex.specs.declared.runs.Radix.{Radix}

-- ## What stands between two places

within : (b start place end : ℕ) → List ℕ
within b start place end = if nat_le start place && nat_lt place end && not (is_ignored b) then b ∷ [] else []

past : (b start place end : ℕ) → end ≤ place → within b start place end ≡ []
unfolding within
past b start place end e = grind (arith, nat_tests)

before : (b start place end : ℕ) → place < start → within b start place end ≡ []
unfolding within
before b start place end e = grind (arith, nat_tests)

ignored : (b start place end : ℕ) → is_ignored b ≡ true → within b start place end ≡ []
unfolding within
ignored b start place end e = grind (arith, nat_tests)

inside : (b start place end : ℕ) → start ≤ place → place < end → is_ignored b ≡ false → within b start place end ≡ b ∷ []
unfolding within
inside b start place end s e i = grind (arith, nat_tests)

between_step : (b : ℕ) (older : List ℕ) (start end : ℕ) → between (b ∷ older) start end ≡ between older start end ++ within b start (length older) end
unfolding within
between_step b older start end = refl

pub between_past : (b : ℕ) (older : List ℕ) (start end : ℕ) → end ≤ length older → between (b ∷ older) start end ≡ between older start end
between_past b older start end e =
    between_step b older start end ∙ ap (λ l. between older start end ++ l) (past b start (length older) end e) ∙ append-nil (between older start end)

between_ignored : (b : ℕ) (older : List ℕ) (start end : ℕ) → is_ignored b ≡ true → between (b ∷ older) start end ≡ between older start end
between_ignored b older start end e =
    between_step b older start end ∙ ap (λ l. between older start end ++ l) (ignored b start (length older) end e) ∙ append-nil (between older start end)

between_none : (older : List ℕ) (start end : ℕ) → length older ≤ start → between older start end ≡ []
between_none [] start end e = refl
between_none (b ∷ older) start end e =
    between_step b older start end ∙ ap (λ l. l ++ within b start (length older) end) (between_none older start end (omega arith))
    ∙ before b start (length older) end (omega arith)

same_within : (b start place end : ℕ) → suc place ≤ end → within b start place end ≡ within b start place (suc place)
unfolding within
same_within b start place end e = grind (arith, nat_tests)

between_whole : (older : List ℕ) (start end : ℕ) → length older ≤ end → between older start end ≡ between older start (length older)
between_whole [] start end e = refl
between_whole (b ∷ older) start end e =
    between_step b older start end
    ∙ ap (λ l. l ++ within b start (length older) end) (between_whole older start end (omega arith) ∙ sym (between_whole older start (suc (length older)) (omega arith)))
    ∙ ap (λ l. between older start (suc (length older)) ++ l) (same_within b start (length older) end (omega arith))
    ∙ sym (between_step b older start (suc (length older)))

pub between_longer : (later text : List ℕ) (start end : ℕ) → end ≤ length text → between (later ++ text) start end ≡ between text start end
between_longer [] text start end e = refl
between_longer (b ∷ later) text start end e =
    between_past b (later ++ text) start end (omega (arith, length-append later text)) ∙ between_longer later text start end e

-- ## Pieces

-- A piece stands in a text: what is between its places is what it was made of.
abbrev pub Stands : List ℕ → Piece → Type 0
Stands text (Run first others start end) =
    (start ≤ end) × (end ≤ length text) × (are_coded (first ∷ others) ≡ true) × (between text start end ≡ first ∷ others)
Stands text (Mark kind place) = (place + 1 ≤ length text) × ((c : ℕ) × (is_coded c ≡ false) × (mark_of c ≡ Some kind) × (between text place (place + 1) ≡ c ∷ []))

abbrev pub AllStand : List ℕ → List Piece → Type 0
AllStand text [] = Unit {0}
AllStand text (piece ∷ others) = Stands text piece × AllStand text others

-- the newest piece, where letters and digits may go on with it
abbrev pub Goes : List ℕ → List Piece → Type 0
Goes text [] = Unit {0}
Goes text (Run first others start end ∷ others') = between text start (length text) ≡ first ∷ others
Goes text (Mark kind place ∷ others) = Unit {0}

stands_longer : (later text : List ℕ) (piece : Piece) → Stands text piece → Stands (later ++ text) piece
stands_longer later text (Run first others start end) s =
    (s.0, omega (arith, length-append later text, s.1), s.2, between_longer later text start end s.1 ∙ s.3)
stands_longer later text (Mark kind place) s =
    (omega (arith, length-append later text, s.0), (s.1.0, s.1.1, s.1.2, between_longer later text place (place + 1) s.0 ∙ s.1.3))

all_longer : (later text : List ℕ) (before : List Piece) → AllStand text before → AllStand (later ++ text) before
all_longer later text [] a = tt
all_longer later text (piece ∷ before) a = (stands_longer later text piece a.0, all_longer later text before a.1)

trimmed_by : (blank : Bool) (text : List ℕ) (kind : Kind) (place : ℕ) (before : List Piece) → AllStand text (Mark kind place ∷ before)
    → AllStand text (if blank then before else Mark kind place ∷ before)
trimmed_by true text kind place before a = a.1
trimmed_by false text kind place before a = a

pub all_trimmed : (text : List ℕ) (before : List Piece) → AllStand text before → AllStand text (without_end_blank before)
all_trimmed text [] a = tt
all_trimmed text (Run first others start end ∷ before) a = a
all_trimmed text (Mark kind place ∷ before) a = trimmed_by (is_blank kind) text kind place before a

both_left : (a c : Bool) → (a && c) ≡ true → a ≡ true
both_left true c e = refl
both_left false c e = e

both_right : (a c : Bool) → (a && c) ≡ true → c ≡ true
both_right true c e = e
both_right false c e = cc

coded-append : (others : List ℕ) (b : ℕ) → are_coded others ≡ true → is_coded b ≡ true → are_coded (others ++ b ∷ []) ≡ true
coded-append [] b a c = rw c refl
coded-append (x ∷ others) b a c =
    ap (λ t. t && are_coded (others ++ b ∷ [])) (both_left (is_coded x) (are_coded others) a) ∙ coded-append others b (both_right (is_coded x) (are_coded others) a) c

-- one byte that is not ignored, by itself
pub alone : (text : List ℕ) (b : ℕ) → is_ignored b ≡ false → between (b ∷ text) (length text) (length text + 1) ≡ b ∷ []
alone text b i =
    between_step b text (length text) (length text + 1)
    ∙ ap (λ l. l ++ within b (length text) (length text) (length text + 1)) (between_none text (length text) (length text + 1) (omega arith))
    ∙ inside b (length text) (length text) (length text + 1) (omega arith) (omega arith) i

-- ## Texts

-- The pieces of the present stretch stand in the text, and the newest one may go on where no comment is.
pub record Known (text : List ℕ) (before : List Piece) : Type 0 where
  pub stand : AllStand text before
  pub goes : in_comment text ≡ false → Goes text before

or_left : (a c : Bool) → (a || c) ≡ true → c ≡ false → a ≡ true
or_left true c e n = refl
or_left false c e n = sym n ∙ e

pub none_left : (a c : Bool) → (a || c) ≡ false → a ≡ false
none_left true c e = e
none_left false c e = refl

pub none_right : (a c : Bool) → (a || c) ≡ false → c ≡ false
none_right true c e = cc
none_right false c e = e

pub not_not : (a : Bool) → not a ≡ false → a ≡ true
not_not true e = refl
not_not false e = sym e

-- ## A byte that means nothing

ignored_comment : (b : ℕ) (comment : Bool) → is_ignored b ≡ true → (if nat_eq b 13 then false else (if nat_eq b 47 then true else comment)) ≡ comment
ignored_comment b comment e = grind (arith, nat_tests)

goes_on : (b : ℕ) (text : List ℕ) (before : List Piece) → is_ignored b ≡ true → Goes text before → Goes (b ∷ text) before
goes_on b text [] e g = tt
goes_on b text (Mark kind place ∷ before) e g = tt
goes_on b text (Run first others start end ∷ before) e g =
    between_ignored b text start (suc (length text)) e ∙ between_whole text start (suc (length text)) (omega arith) ∙ g

dead_known : (b : ℕ) (text : List ℕ) (before : List Piece) → is_dead text b ≡ true → Known text before → Known (b ∷ text) before
dead_known b text before dead k = record {
  stand = all_longer (b ∷ []) text before k.stand;
  goes = λ quiet.
      let gone : is_ignored b ≡ true = or_left (is_ignored b) (in_comment (b ∷ text)) dead quiet in
      goes_on b text before gone (k.goes (sym (ignored_comment b (in_comment text) gone) ∙ quiet));
}

-- ## A live byte

mark_known : (text : List ℕ) (b : ℕ) (kind : Kind) (before : List Piece) → is_ignored b ≡ false → is_coded b ≡ false → mark_of b ≡ Some kind
    → AllStand text before → Known (b ∷ text) (Mark kind (length text) ∷ before)
mark_known text b kind before i c m a = record {
  stand = ((omega arith, (b, c, m, alone text b i)), all_longer (b ∷ []) text before a);
  goes = λ quiet. tt;
}

same_known : (text : List ℕ) (b : ℕ) (kind : Kind) (place : ℕ) (before : List Piece) → AllStand text (Mark kind place ∷ before)
    → Known (b ∷ text) (Mark kind place ∷ before)
same_known text b kind place before a = record {
  stand = all_longer (b ∷ []) text (Mark kind place ∷ before) a;
  goes = λ quiet. tt;
}

blank_by : (operand : Bool) (text : List ℕ) (b : ℕ) (kind : Kind) (place : ℕ) (before : List Piece) → is_ignored b ≡ false → is_coded b ≡ false
    → mark_of b ≡ Some Blank → AllStand text (Mark kind place ∷ before)
    → Known (b ∷ text) (if operand then Mark Blank (length text) ∷ Mark kind place ∷ before else Mark kind place ∷ before)
blank_by true text b kind place before i c m a = mark_known text b Blank (Mark kind place ∷ before) i c m a
blank_by false text b kind place before i c m a = same_known text b kind place before a

blank_known : (text : List ℕ) (b : ℕ) (before : List Piece) → is_ignored b ≡ false → is_coded b ≡ false → mark_of b ≡ Some Blank
    → AllStand text before → Known (b ∷ text) (with_blank (length text) before)
blank_known text b [] i c m a = record { stand = tt; goes = λ quiet. tt }
blank_known text b (Run first others start end ∷ before) i c m a = mark_known text b Blank (Run first others start end ∷ before) i c m a
blank_known text b (Mark kind place ∷ before) i c m a = blank_by (is_operand kind) text b kind place before i c m a

next : (n : ℕ) → suc n ≡ n + 1
next n = omega arith

begun_known : (text : List ℕ) (b : ℕ) (before : List Piece) → is_ignored b ≡ false → is_coded b ≡ true → AllStand text before
    → Known (b ∷ text) (Run b [] (length text) (length text + 1) ∷ before)
begun_known text b before i c a = record {
  stand = ((omega arith, omega arith, rw c refl, alone text b i), all_longer (b ∷ []) text before a);
  goes = λ quiet. ap (between (b ∷ text) (length text)) (next (length text)) ∙ alone text b i;
}

character_known : (text : List ℕ) (b : ℕ) (before : List Piece) → is_ignored b ≡ false → is_coded b ≡ true → AllStand text before → Goes text before
    → Known (b ∷ text) (with_character b (length text) before)
character_known text b [] i c a g = begun_known text b [] i c a
character_known text b (Mark kind place ∷ before) i c a g = begun_known text b (Mark kind place ∷ before) i c a
character_known text b (Run first others start end ∷ before) i c a g =
    let is : between (b ∷ text) start (length text + 1) ≡ first ∷ others ++ b ∷ [] =
    between_step b text start (length text + 1)
    ∙ ap (λ l. l ++ within b start (length text) (length text + 1)) (between_whole text start (length text + 1) (omega arith) ∙ g)
    ∙ ap (λ l. (first ∷ others) ++ l) (inside b start (length text) (length text + 1) (omega (arith, a.0.0, a.0.1)) (omega arith) i) in
    record {
      stand = ((omega (arith, a.0.0, a.0.1), omega arith, coded-append (first ∷ others) b a.0.2 c, is), all_longer (b ∷ []) text before a.1);
      goes = λ quiet. ap (between (b ∷ text) start) (next (length text)) ∙ is;
    }

byte_known : (text : List ℕ) (b : ℕ) (before : List Piece) (coded space dot : Bool) (sign : Option Kind)
    → is_coded b ≡ coded → is_space b ≡ space → nat_eq b 46 ≡ dot → sign_of b ≡ sign → (coded || space || dot || is_some sign) ≡ true
    → is_ignored b ≡ false → AllStand text before → Goes text before
    → Known (b ∷ text) (if coded then with_character b (length text) before
    else (if space then with_blank (length text) before
    else (if dot then Mark (Term Here) (length text) ∷ before else with_sign sign (length text) before)))
byte_known text b before true space dot sign c s d o legal i a g = character_known text b before i c a g
byte_known text b before false true dot sign c s d o legal i a g = blank_known text b before i c (rw s refl) a
byte_known text b before false false true sign c s d o legal i a g = mark_known text b (Term Here) before i c (rw (s, d) refl) a
byte_known text b before false false false (Some kind) c s d o legal i a g =
    mark_known text b kind (without_end_blank before) i c (rw (s, d) o) (all_trimmed text before a)
byte_known text b before false false false None c s d o legal i a g = cc

live_comment : (b : ℕ) (comment : Bool) → is_end b ≡ false → (if nat_eq b 13 then false else (if nat_eq b 47 then true else comment)) ≡ false → comment ≡ false
live_comment b comment e q = grind (arith, nat_tests)

known_by : (b : ℕ) (text : List ℕ) (dead end : Bool) → is_dead text b ≡ dead → is_end b ≡ end → has_illegal (stretch (b ∷ text)) ≡ false
    → (has_illegal (stretch text) ≡ false → Known text (pieces (stretch text))) → Known (b ∷ text) (pieces (stretch (b ∷ text)))
known_by b text true end dead ends legal older =
    let e : stretch (b ∷ text) ≡ stretch text = rw dead refl in
    subst (λ (live : List (ℕ × ℕ)). Known (b ∷ text) (pieces live)) (sym e)
    (dead_known b text (pieces (stretch text)) dead (older (sym (ap has_illegal e) ∙ legal)))
known_by b text false true dead ends legal older =
    let e : stretch (b ∷ text) ≡ [] = rw (dead, ends) refl in
    subst (λ (live : List (ℕ × ℕ)). Known (b ∷ text) (pieces live)) (sym e) (record { stand = tt; goes = λ quiet. tt })
known_by b text false false dead ends legal older =
    let e : stretch (b ∷ text) ≡ (b, length text) ∷ stretch text = rw (dead, ends) refl in
    let good : (not (is_legal b) || has_illegal (stretch text)) ≡ false = sym (ap has_illegal e) ∙ legal in
    let k : Known text (pieces (stretch text)) = older (none_right (not (is_legal b)) (has_illegal (stretch text)) good) in
    let quiet : in_comment text ≡ false = live_comment b (in_comment text) ends (none_right (is_ignored b) (in_comment (b ∷ text)) dead) in
    subst (λ (live : List (ℕ × ℕ)). Known (b ∷ text) (pieces live)) (sym e)
    (byte_known text b (pieces (stretch text)) (is_coded b) (is_space b) (nat_eq b 46) (sign_of b) refl refl refl refl
    (not_not (is_legal b) (none_left (not (is_legal b)) (has_illegal (stretch text)) good))
    (none_left (is_ignored b) (in_comment (b ∷ text)) dead) k.stand (k.goes quiet))

pub known : (text : List ℕ) → has_illegal (stretch text) ≡ false → Known text (pieces (stretch text))
known [] legal = record { stand = tt; goes = λ quiet. tt }
known (b ∷ text) legal = known_by b text (is_dead text b) (is_end b) refl refl legal (known text)

-- ## Tokens

limited : (n : ℕ) → limit n < 18446744073709551615 → limit n ≡ n
limited n e = omega arith

limited_start : (start end : ℕ) → start ≤ end → limit end < 18446744073709551615 → limit start ≡ start
limited_start start end s e = omega arith

spelled_run : (base first : ℕ) (others : List ℕ) → are_coded (first ∷ others) ≡ true → token_of_bytes base (first ∷ others) ≡ Some (run_kind base first others)
spelled_run base first [] e = rw (both_left (is_coded first) true e) refl
spelled_run base first (d ∷ others) e = rw e refl

spells : (text : List ℕ) (base : ℕ) (piece : Piece) → Stands text piece → Spells text base (token base piece)
spells text base (Run first others start end) s = λ small.
    ap (λ n. token_of_bytes base (between text n (limit end))) (limited_start start end s.0 small)
    ∙ ap (λ n. token_of_bytes base (between text start n)) (limited end small)
    ∙ ap (token_of_bytes base) s.3 ∙ spelled_run base first others s.2
spells text base (Mark kind place) s = λ small.
    ap (λ n. token_of_bytes base (between text n (limit (place + 1)))) (limited_start place (place + 1) (omega arith) small)
    ∙ ap (λ n. token_of_bytes base (between text place n)) (limited (place + 1) small)
    ∙ ap (token_of_bytes base) s.1.3 ∙ rw s.1.1 s.1.2

spell-append : (text : List ℕ) (base : ℕ) (found : List Token) (last : Token) → AllSpell text base found → Spells text base last
    → AllSpell text base (found ++ last ∷ [])
spell-append text base [] last a s = (s, tt)
spell-append text base (t ∷ found) last a s = (a.0, spell-append text base found last a.1 s)

all_spell : (text : List ℕ) (base : ℕ) (before : List Piece) → AllStand text before → AllSpell text base (in_order base before)
all_spell text base [] a = tt
all_spell text base (piece ∷ before) a =
    spell-append text base (in_order base before) (token base piece) (all_spell text base before a.1) (spells text base piece a.0)

-- ## Statements

refused : {fault : LexFault} {statement : Statement} → Err fault ≡ Ok statement → ⊥
refused e = cc

abbrev tokens_in : Result Statement LexFault → List Token
tokens_in (Ok statement) = statement.tokens
tokens_in (Err fault) = []

longer : (x : Result Statement LexFault) (xs : List (Result Statement LexFault)) → x ∷ xs ≡ xs → ⊥
longer x xs e = omega (arith, ap length e)

newest : {x y : Result Statement LexFault} {xs ys : List (Result Statement LexFault)} → x ∷ xs ≡ y ∷ ys → x ≡ y
newest e = cc

good : (illegal bad : Bool) (line : ℕ) (last : Bool) (found : List Token) (s : Option Said) (statement : Statement)
    → (if illegal then Err (IC line) else (if bad then Err (NU line) else statement_or_fault line last found s)) ≡ Ok statement
    → (illegal ≡ false) × (statement.tokens ≡ found)
good true bad line last found s statement e = absurd (refused e)
good false true line last found s statement e = absurd (refused e)
good false false line last found None statement e = absurd (refused e)
good false false line last found (Some s) statement e = (refl, sym (ap tokens_in e))

has_tokens_by : (text : List ℕ) (b : ℕ) (statement : Statement) (ends : Bool) → ends_statement text b ≡ ends
    → statements (b ∷ text) ≡ Ok statement ∷ statements text
    → (has_illegal (stretch text) ≡ false) × (statement.tokens ≡ tokens (radix_after (statements text)) (stretch text))
unfolding statements
has_tokens_by text b statement false ends e =
    let same : statements (b ∷ text) ≡ statements text = rw ends refl in
    absurd (longer (Ok statement) (statements text) (sym e ∙ same))
has_tokens_by text b statement true ends e =
    let one : statements (b ∷ text) ≡ with_stretch (line_after text) (nat_eq b 36) (stretch text) (statements text) = rw ends refl in
    let radix = radix_after (statements text) in
    good (has_illegal (stretch text)) (has_bad_number (tokens radix (stretch text))) (line_after text) (nat_eq b 36) (tokens radix (stretch text))
    (phrase_of_tokens (tokens radix (stretch text))) statement (newest (sym one ∙ e))

-- the tokens of a statement that a byte ends are those of the stretch before it, in which no byte is illegal
pub has_tokens : (text : List ℕ) (b : ℕ) (statement : Statement) → statements (b ∷ text) ≡ Ok statement ∷ statements text
    → (has_illegal (stretch text) ≡ false) × (statement.tokens ≡ tokens (radix_after (statements text)) (stretch text))
has_tokens text b statement e = has_tokens_by text b statement (ends_statement text b) refl e

-- tokens of a stretch stand in the text whatever follows it
pub spells_in : (radix : Radix) (text later : List ℕ) (b : ℕ) → has_illegal (stretch text) ≡ false → AllSpell (later ++ b ∷ text) (base radix) (tokens radix (stretch text))
spells_in radix text later b legal =
    let k = known text legal in
    all_spell (later ++ b ∷ text) (base radix) (without_end_blank (pieces (stretch text)))
    (all_longer later (b ∷ text) (without_end_blank (pieces (stretch text)))
    (all_longer (b ∷ []) text (without_end_blank (pieces (stretch text))) (all_trimmed text (pieces (stretch text)) k.stand)))

pub spans : HasSpans
spans text later b statement e =
    let radix = radix_after (statements text) in
    let g = has_tokens text b statement e in
    subst (λ (found : List Token). AllSpell (later ++ b ∷ text) (base radix) found) (sym g.1) (spells_in radix text later b g.0)
