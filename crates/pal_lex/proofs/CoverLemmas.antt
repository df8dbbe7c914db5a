-- The tokens of a statement leave nothing out but blanks.
use Rattle.std.proofs.Common.{◌≡◌, ℕ, ◌+◌, ◌≤◌, nat_eq, Bool, true, false, ◌||◌, not, if◌then◌else◌, Option, Some, None, is_some, length, List, [], ◌∷◌, ◌++◌, refl, ap, sym, subst, ◌∙◌, arith, append-nil, append_assoc}
use Rattle.std.proofs.lemmas.Bool.Decides.{nat_tests}
use Rattle.pal_lex.specs.Text.{is_ignored, in_comment, is_dead, is_end, stretch, limit}
use Rattle.pal_lex.specs.Cutting.{Piece, Run, Mark, is_coded, is_space, sign_of, is_legal, has_illegal, is_blank, is_operand, without_end_blank, with_character, with_blank, with_sign, pieces}
use Rattle.pal_lex.specs.Runs.{base, run_kind, token, in_order, tokens}
use Rattle.pal_lex.specs.Statements.{radix_after, statements}
use Rattle.pal_lex.specs.Spans.{between, solid, bytes_between, HasAll}
use Rattle.pal_lex.specs.declared.pieces.Token.{Token}
use Rattle.pal_lex.specs.declared.pieces.Term.TheVariants.{Here}
use Rattle.pal_lex.specs.declared.pieces.Kind.{Kind}
use Rattle.pal_lex.specs.declared.pieces.Kind.TheVariants.{Term, Blank, Plus, Minus, Equals, Comma, Star}
use Rattle.pal_lex.specs.declared.runs.Radix.{Radix}
use Rattle.pal_lex.proofs.SpanLemmas.{between_past, between_longer, Stands, AllStand, alone, all_trimmed, none_left, none_right, not_not, known, has_tokens}

-- what a piece is made of, but for a blank
abbrev piece_text : List ℕ → Piece → List ℕ
piece_text text (Run first others start end) = first ∷ others
piece_text text (Mark kind place) = if is_blank kind then [] else between text place (place + 1)

abbrev joined_pieces : List ℕ → List Piece → List ℕ
joined_pieces text [] = []
joined_pieces text (piece ∷ before) = joined_pieces text before ++ piece_text text piece

same_text : (b : ℕ) (text : List ℕ) (piece : Piece) → Stands text piece → piece_text (b ∷ text) piece ≡ piece_text text piece
same_text b text (Run first others start end) s = refl
same_text b text (Mark kind place) s = ap (λ l. if is_blank kind then [] else l) (between_past b text place (place + 1) s.0)

same_joined : (b : ℕ) (text : List ℕ) (before : List Piece) → AllStand text before → joined_pieces (b ∷ text) before ≡ joined_pieces text before
same_joined b text [] a = refl
same_joined b text (piece ∷ before) a =
    ap (λ l. l ++ piece_text (b ∷ text) piece) (same_joined b text before a.1) ∙ ap (λ l. joined_pieces text before ++ l) (same_text b text piece a.0)

trimmed_by : (blank : Bool) (text : List ℕ) (kind : Kind) (place : ℕ) (before : List Piece) → is_blank kind ≡ blank
    → joined_pieces text (if blank then before else Mark kind place ∷ before) ≡ joined_pieces text (Mark kind place ∷ before)
trimmed_by true text kind place before e = sym (ap (λ (t : Bool). joined_pieces text before ++ (if t then [] else between text place (place + 1))) e ∙ append-nil (joined_pieces text before))
trimmed_by false text kind place before e = refl

trimmed_joined : (text : List ℕ) (before : List Piece) → joined_pieces text (without_end_blank before) ≡ joined_pieces text before
trimmed_joined text [] = refl
trimmed_joined text (Run first others start end ∷ before) = refl
trimmed_joined text (Mark kind place ∷ before) = trimmed_by (is_blank kind) text kind place before refl

-- ## One byte more

with_mark : (b : ℕ) (text : List ℕ) (kind : Kind) (before : List Piece) → is_ignored b ≡ false → is_blank kind ≡ false → AllStand text before
    → joined_pieces (b ∷ text) (Mark kind (length text) ∷ before) ≡ joined_pieces text before ++ b ∷ []
with_mark b text kind before i plain a =
    ap (λ l. l ++ piece_text (b ∷ text) (Mark kind (length text))) (same_joined b text before a)
    ∙ ap (λ (t : Bool). joined_pieces text before ++ (if t then [] else between (b ∷ text) (length text) (length text + 1))) plain
    ∙ ap (λ l. joined_pieces text before ++ l) (alone text b i)

with_run : (b : ℕ) (text : List ℕ) (before : List Piece) → AllStand text before
    → joined_pieces (b ∷ text) (with_character b (length text) before) ≡ joined_pieces text before ++ b ∷ []
with_run b text [] a = refl
with_run b text (Mark kind place ∷ before) a = ap (λ l. l ++ b ∷ []) (same_joined b text (Mark kind place ∷ before) a)
with_run b text (Run first others start end ∷ before) a =
    ap (λ l. l ++ (first ∷ others ++ b ∷ [])) (same_joined b text before a.1) ∙ sym (append_assoc (joined_pieces text before) (first ∷ others) (b ∷ []))

blank_by : (operand : Bool) (b : ℕ) (text : List ℕ) (kind : Kind) (place : ℕ) (before : List Piece)
    → joined_pieces (b ∷ text) (if operand then Mark Blank (length text) ∷ Mark kind place ∷ before else Mark kind place ∷ before)
    ≡ joined_pieces (b ∷ text) (Mark kind place ∷ before)
blank_by true b text kind place before = append-nil (joined_pieces (b ∷ text) (Mark kind place ∷ before))
blank_by false b text kind place before = refl

with_space : (b : ℕ) (text : List ℕ) (before : List Piece) → AllStand text before
    → joined_pieces (b ∷ text) (with_blank (length text) before) ≡ joined_pieces text before ++ []
with_space b text [] a = refl
with_space b text (Run first others start end ∷ before) a = ap (λ l. l ++ []) (same_joined b text (Run first others start end ∷ before) a)
with_space b text (Mark kind place ∷ before) a =
    blank_by (is_operand kind) b text kind place before ∙ same_joined b text (Mark kind place ∷ before) a
    ∙ sym (append-nil (joined_pieces text (Mark kind place ∷ before)))

no_space : (b : ℕ) → is_coded b ≡ true → is_space b ≡ false
no_space b e = grind (arith, nat_tests)

abbrev blank_in : Option Kind → Bool
blank_in None = false
blank_in (Some kind) = is_blank kind

plain_by : (plus minus equals comma star : Bool) (kind : Kind)
    → (if plus then Some Plus else (if minus then Some Minus else (if equals then Some Equals else (if comma then Some Comma else (if star then Some Star else None))))) ≡ Some kind
    → is_blank kind ≡ false
plain_by true minus equals comma star kind e = ap blank_in (sym e)
plain_by false true equals comma star kind e = ap blank_in (sym e)
plain_by false false true comma star kind e = ap blank_in (sym e)
plain_by false false false true star kind e = ap blank_in (sym e)
plain_by false false false false true kind e = ap blank_in (sym e)
plain_by false false false false false kind e = cc

sign_is_plain : (b : ℕ) (kind : Kind) → sign_of b ≡ Some kind → is_blank kind ≡ false
sign_is_plain b kind e = plain_by (nat_eq b 43) (nat_eq b 45) (nat_eq b 61) (nat_eq b 44) (nat_eq b 42) kind e

byte_joined : (b : ℕ) (text : List ℕ) (before : List Piece) (coded space dot : Bool) (sign : Option Kind)
    → is_coded b ≡ coded → is_space b ≡ space → sign_of b ≡ sign → (coded || space || dot || is_some sign) ≡ true
    → is_ignored b ≡ false → AllStand text before
    → joined_pieces (b ∷ text) (if coded then with_character b (length text) before
    else (if space then with_blank (length text) before
    else (if dot then Mark (Term Here) (length text) ∷ before else with_sign sign (length text) before)))
    ≡ joined_pieces text before ++ (if is_space b then [] else b ∷ [])
byte_joined b text before true space dot sign c s o legal i a = rw (no_space b c) (with_run b text before a)
byte_joined b text before false true dot sign c s o legal i a = rw s (with_space b text before a)
byte_joined b text before false false true sign c s o legal i a = rw s (with_mark b text (Term Here) before i refl a)
byte_joined b text before false false false (Some kind) c s o legal i a =
    rw s (with_mark b text kind (without_end_blank before) i (sign_is_plain b kind o) (all_trimmed text before a)
    ∙ ap (λ l. l ++ b ∷ []) (trimmed_joined text before))
byte_joined b text before false false false None c s o legal i a = cc

cover_by : (b : ℕ) (text : List ℕ) (dead end : Bool) → is_dead text b ≡ dead → is_end b ≡ end → has_illegal (stretch (b ∷ text)) ≡ false
    → (has_illegal (stretch text) ≡ false → joined_pieces text (pieces (stretch text)) ≡ solid (stretch text))
    → joined_pieces (b ∷ text) (pieces (stretch (b ∷ text))) ≡ solid (stretch (b ∷ text))
cover_by b text true end dead ends legal older =
    let e : stretch (b ∷ text) ≡ stretch text = rw dead refl in
    let fine : has_illegal (stretch text) ≡ false = sym (ap has_illegal e) ∙ legal in
    subst (λ (live : List (ℕ × ℕ)). joined_pieces (b ∷ text) (pieces live) ≡ solid live) (sym e)
    (same_joined b text (pieces (stretch text)) (known text fine).stand ∙ older fine)
cover_by b text false true dead ends legal older =
    let e : stretch (b ∷ text) ≡ [] = rw (dead, ends) refl in
    subst (λ (live : List (ℕ × ℕ)). joined_pieces (b ∷ text) (pieces live) ≡ solid live) (sym e) refl
cover_by b text false false dead ends legal older =
    let e : stretch (b ∷ text) ≡ (b, length text) ∷ stretch text = rw (dead, ends) refl in
    let good : (not (is_legal b) || has_illegal (stretch text)) ≡ false = sym (ap has_illegal e) ∙ legal in
    let fine : has_illegal (stretch text) ≡ false = none_right (not (is_legal b)) (has_illegal (stretch text)) good in
    subst (λ (live : List (ℕ × ℕ)). joined_pieces (b ∷ text) (pieces live) ≡ solid live) (sym e)
    (byte_joined b text (pieces (stretch text)) (is_coded b) (is_space b) (nat_eq b 46) (sign_of b) refl refl refl
    (not_not (is_legal b) (none_left (not (is_legal b)) (has_illegal (stretch text)) good))
    (none_left (is_ignored b) (in_comment (b ∷ text)) dead) (known text fine).stand
    ∙ ap (λ l. l ++ (if is_space b then [] else b ∷ [])) (older fine))

cover : (text : List ℕ) → has_illegal (stretch text) ≡ false → joined_pieces text (pieces (stretch text)) ≡ solid (stretch text)
cover [] legal = refl
cover (b ∷ text) legal = cover_by b text (is_dead text b) (is_end b) refl refl legal (cover text)

-- ## Tokens

run_is_plain : (base first : ℕ) (others : List ℕ) → is_blank (run_kind base first others) ≡ false
run_is_plain base first others = grind (arith, nat_tests)

limited : (n most : ℕ) → n ≤ most → most ≤ 18446744073709551615 → limit n ≡ n
limited n most e m = omega arith

piece_joined : (later text : List ℕ) (base : ℕ) (piece : Piece) → Stands text piece → length text ≤ 18446744073709551615
    → (if is_blank (token base piece).kind then [] else between (later ++ text) (token base piece).start (token base piece).end) ≡ piece_text text piece
piece_joined later text base (Run first others start end) s small =
    ap (λ (t : Bool). if t then [] else between (later ++ text) (limit start) (limit end)) (run_is_plain base first others)
    ∙ ap (λ n. between (later ++ text) n (limit end)) (limited start (length text) (omega (arith, s.0, s.1)) small)
    ∙ ap (λ n. between (later ++ text) start n) (limited end (length text) s.1 small)
    ∙ between_longer later text start end s.1 ∙ s.3
piece_joined later text base (Mark kind place) s small =
    ap (λ l. if is_blank kind then [] else l)
    (ap (λ n. between (later ++ text) n (limit (place + 1))) (limited place (length text) (omega (arith, s.0)) small)
    ∙ ap (λ n. between (later ++ text) place n) (limited (place + 1) (length text) s.0 small)
    ∙ between_longer later text place (place + 1) s.0)

joined-append : (text : List ℕ) (found : List Token) (last : Token)
    → bytes_between text (found ++ last ∷ []) ≡ bytes_between text found ++ (if is_blank last.kind then [] else between text last.start last.end)
joined-append text [] last = append-nil (if is_blank last.kind then [] else between text last.start last.end)
joined-append text (t ∷ found) last =
    ap (λ l. (if is_blank t.kind then [] else between text t.start t.end) ++ l) (joined-append text found last)
    ∙ sym (append_assoc (if is_blank t.kind then [] else between text t.start t.end) (bytes_between text found) (if is_blank last.kind then [] else between text last.start last.end))

joined_tokens : (later text : List ℕ) (base : ℕ) (before : List Piece) → AllStand text before → length text ≤ 18446744073709551615
    → bytes_between (later ++ text) (in_order base before) ≡ joined_pieces text before
joined_tokens later text base [] a small = refl
joined_tokens later text base (piece ∷ before) a small =
    joined-append (later ++ text) (in_order base before) (token base piece)
    ∙ ap (λ l. l ++ (if is_blank (token base piece).kind then [] else between (later ++ text) (token base piece).start (token base piece).end)) (joined_tokens later text base before a.1 small)
    ∙ ap (λ l. joined_pieces text before ++ l) (piece_joined later text base piece a.0 small)

following : (later : List ℕ) (b : ℕ) (text : List ℕ) → later ++ b ∷ text ≡ (later ++ b ∷ []) ++ text
following later b text = sym (append_assoc later (b ∷ []) text)

-- tokens of a stretch leave nothing of it out but blanks, whatever follows the text
pub covers_in : (radix : Radix) (text later : List ℕ) (b : ℕ) → length text ≤ 18446744073709551615 → has_illegal (stretch text) ≡ false
    → bytes_between (later ++ b ∷ text) (tokens radix (stretch text)) ≡ solid (stretch text)
covers_in radix text later b small legal =
    let k = known text legal in
    ap (λ t. bytes_between t (tokens radix (stretch text))) (following later b text)
    ∙ joined_tokens (later ++ b ∷ []) text (base radix) (without_end_blank (pieces (stretch text))) (all_trimmed text (pieces (stretch text)) k.stand) small
    ∙ trimmed_joined text (pieces (stretch text)) ∙ cover text legal

pub has_all : HasAll
has_all text later b statement small e =
    let g = has_tokens text b statement e in
    ap (bytes_between (later ++ b ∷ text)) g.1 ∙ covers_in (radix_after (statements text)) text later b small g.0
