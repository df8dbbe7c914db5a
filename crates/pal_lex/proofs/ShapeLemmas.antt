-- What the grammar makes of a stretch depends on its bytes alone, and not on their places.
use Rattle.std.proofs.Common.{◌≡◌, ℕ, nat_eq, nat_lt, Bool, true, false, ◌&&◌, ◌||◌, not, if◌then◌else◌, Option, Some, None, List, [], ◌∷◌, ◌++◌, refl, ap, sym, ◌∙◌}
use Rattle.std.specs.Prelude.{codes}
use Rattle.word12.specs.Sixbit.{is_letter}
use Rattle.pal_lex.specs.Text.{since}
use Rattle.pal_lex.specs.Cutting.{Piece, Run, Mark, is_coded, is_space, sign_of, is_legal, has_illegal, is_blank, is_operand, without_end_blank, with_character, with_blank, with_sign, with_byte, pieces}
use Rattle.pal_lex.specs.Runs.{base, run_kind, number_kind, are_digits, number, token, in_order, tokens, name_number}
use Rattle.pal_lex.specs.Language.{is_named, free_name, operation_in}
use Rattle.pal_lex.specs.Grammar.{joint_of, term_of, part_of, with_part, parts, terms, is_sign, expression, map_body, is_star, is_equals, is_comma, reference, definition, field_number, spaced_body, operation_body, lone_body, longer_body, without_tags, with_tag, phrase_of_tokens, is_bad, has_bad_number}
use Rattle.pal_lex.specs.Joins.{is_lone_pause, is_pause}
use Rattle.pal_lex.specs.declared.pieces.Term.TheVariants.{Name, Number, Here}
use Rattle.pal_lex.specs.declared.pieces.Kind.{Kind}
use Rattle.pal_lex.specs.declared.pieces.Kind.TheVariants.{Term, BadNumber, Blank}
use Rattle.pal_lex.specs.declared.pieces.Token.{Token}
use Rattle.pal_lex.specs.declared.phrases.Body.TheVariants.{Origin, Field, Reference, Word}
use Rattle.pal_lex.specs.declared.phrases.Joint.TheVariants.{Add}
use Rattle.pal_lex.specs.declared.phrases.Operation.{Operation}
use Rattle.pal_lex.specs.declared.runs.Radix.{Radix}
use Rattle.pal_lex.specs.declared.runs.Radix.TheVariants.{Octal}

-- ## Pieces without their places

abbrev forget : Piece → Piece
forget (Run first others start end) = Run first others 0 0
forget (Mark kind place) = Mark kind 0

abbrev forgotten : List Piece → List Piece
forgotten [] = []
forgotten (piece ∷ before) = forget piece ∷ forgotten before

twice : (before : List Piece) → forgotten before ≡ forgotten (forgotten before)
twice [] = refl
twice (Run first others start end ∷ before) = ap (λ l. Run first others 0 0 ∷ l) (twice before)
twice (Mark kind place ∷ before) = ap (λ l. Mark kind 0 ∷ l) (twice before)

character : (b place : ℕ) (before : List Piece) → forgotten (with_character b place before) ≡ forgotten (with_character b 0 (forgotten before))
character b place [] = refl
character b place (Run first others start end ∷ before) = ap (λ l. Run first (others ++ b ∷ []) 0 0 ∷ l) (twice before)
character b place (Mark kind at ∷ before) = ap (λ l. Run b [] 0 0 ∷ Mark kind 0 ∷ l) (twice before)

blank_by : (operand : Bool) (place at : ℕ) (kind : Kind) (before : List Piece)
    → forgotten (if operand then Mark Blank place ∷ Mark kind at ∷ before else Mark kind at ∷ before)
    ≡ forgotten (if operand then Mark Blank 0 ∷ Mark kind 0 ∷ forgotten before else Mark kind 0 ∷ forgotten before)
blank_by true place at kind before = ap (λ l. Mark Blank 0 ∷ Mark kind 0 ∷ l) (twice before)
blank_by false place at kind before = ap (λ l. Mark kind 0 ∷ l) (twice before)

blank : (place : ℕ) (before : List Piece) → forgotten (with_blank place before) ≡ forgotten (with_blank 0 (forgotten before))
blank place [] = refl
blank place (Run first others start end ∷ before) = ap (λ l. Mark Blank 0 ∷ Run first others 0 0 ∷ l) (twice before)
blank place (Mark kind at ∷ before) = blank_by (is_operand kind) place at kind before

trim_by : (is_blank : Bool) (at : ℕ) (kind : Kind) (before : List Piece)
    → forgotten (if is_blank then before else Mark kind at ∷ before) ≡ forgotten (if is_blank then forgotten before else Mark kind 0 ∷ forgotten before)
trim_by true at kind before = twice before
trim_by false at kind before = ap (λ l. Mark kind 0 ∷ l) (twice before)

trim : (before : List Piece) → forgotten (without_end_blank before) ≡ forgotten (without_end_blank (forgotten before))
trim [] = refl
trim (Run first others start end ∷ before) = ap (λ l. Run first others 0 0 ∷ l) (twice before)
trim (Mark kind at ∷ before) = trim_by (is_blank kind) at kind before

sign : (s : Option Kind) (place : ℕ) (before : List Piece) → forgotten (with_sign s place before) ≡ forgotten (with_sign s 0 (forgotten before))
sign None place before = twice before
sign (Some kind) place before = ap (λ l. Mark kind 0 ∷ l) (trim before)

byte_by : (coded space dot : Bool) (s : Option Kind) (b place : ℕ) (before : List Piece)
    → forgotten (if coded then with_character b place before else (if space then with_blank place before else (if dot then Mark (Term Here) place ∷ before else with_sign s place before)))
    ≡ forgotten (if coded then with_character b 0 (forgotten before)
    else (if space then with_blank 0 (forgotten before) else (if dot then Mark (Term Here) 0 ∷ forgotten before else with_sign s 0 (forgotten before))))
byte_by true space dot s b place before = character b place before
byte_by false true dot s b place before = blank place before
byte_by false false true s b place before = ap (λ l. Mark (Term Here) 0 ∷ l) (twice before)
byte_by false false false s b place before = sign s place before

one_byte : (b place : ℕ) (before : List Piece) → forgotten (with_byte b place before) ≡ forgotten (with_byte b 0 (forgotten before))
one_byte b place before = byte_by (is_coded b) (is_space b) (nat_eq b 46) (sign_of b) b place before

-- the live bytes without their places
abbrev pub bare_bytes : List (ℕ × ℕ) → List ℕ
bare_bytes [] = []
bare_bytes (live ∷ older) = live.0 ∷ bare_bytes older

abbrev shapes : List ℕ → List Piece
shapes [] = []
shapes (b ∷ older) = forgotten (with_byte b 0 (shapes older))

shaped : (live : List (ℕ × ℕ)) → forgotten (pieces live) ≡ shapes (bare_bytes live)
shaped [] = refl
shaped (live ∷ older) = one_byte live.0 live.1 (pieces older) ∙ ap (λ l. forgotten (with_byte live.0 0 l)) (shaped older)

same_pieces : (a b : List (ℕ × ℕ)) → bare_bytes a ≡ bare_bytes b → forgotten (pieces a) ≡ forgotten (pieces b)
same_pieces a b e = shaped a ∙ ap shapes e ∙ sym (shaped b)

pub bytes_since : (seam : ℕ) (live : List (ℕ × ℕ)) → bare_bytes (since seam live) ≡ bare_bytes live
bytes_since seam [] = refl
bytes_since seam (live ∷ older) = ap (λ l. live.0 ∷ l) (bytes_since seam older)

-- ## Tokens without their places

abbrev bare : Token → Token
bare t = record { kind = t.kind; start = 0; end = 0 }

abbrev all_bare : List Token → List Token
all_bare [] = []
all_bare (t ∷ others) = bare t ∷ all_bare others

bare-append : (others : List Token) (t : Token) → all_bare (others ++ t ∷ []) ≡ all_bare others ++ bare t ∷ []
bare-append [] t = refl
bare-append (u ∷ others) t = ap (λ l. bare u ∷ l) (bare-append others t)

bare_token : (base : ℕ) (piece : Piece) → bare (token base piece) ≡ bare (token base (forget piece))
bare_token base (Run first others start end) = refl
bare_token base (Mark kind place) = refl

bare_order : (base : ℕ) (before : List Piece) → all_bare (in_order base before) ≡ all_bare (in_order base (forgotten before))
bare_order base [] = refl
bare_order base (piece ∷ before) =
    bare-append (in_order base before) (token base piece) ∙ ap (λ l. l ++ bare (token base piece) ∷ []) (bare_order base before)
    ∙ ap (λ t. all_bare (in_order base (forgotten before)) ++ t ∷ []) (bare_token base piece)
    ∙ sym (bare-append (in_order base (forgotten before)) (token base (forget piece)))

same_trimmed : (a b : List (ℕ × ℕ)) → bare_bytes a ≡ bare_bytes b → forgotten (without_end_blank (pieces a)) ≡ forgotten (without_end_blank (pieces b))
same_trimmed a b e = trim (pieces a) ∙ ap (λ l. forgotten (without_end_blank l)) (same_pieces a b e) ∙ sym (trim (pieces b))

same_tokens : (radix : Radix) (a b : List (ℕ × ℕ)) → bare_bytes a ≡ bare_bytes b → all_bare (tokens radix a) ≡ all_bare (tokens radix b)
same_tokens radix a b e =
    bare_order (base radix) (without_end_blank (pieces a)) ∙ ap (λ l. all_bare (in_order (base radix) l)) (same_trimmed a b e) ∙ sym (bare_order (base radix) (without_end_blank (pieces b)))

-- ## The grammar

both_ways : {A : Type 0} (test : Bool) (a b c d : A) → a ≡ b → c ≡ d → (if test then a else c) ≡ (if test then b else d)
both_ways true a b c d e f = e
both_ways false a b c d e f = f

bare_parts : (blanks : Bool) (l : List Token) → parts blanks (all_bare l) ≡ parts blanks l
bare_parts blanks [] = refl
bare_parts blanks (j ∷ []) = refl
bare_parts blanks (j ∷ t ∷ others) = ap (with_part (part_of (joint_of blanks j.kind) (term_of t.kind))) (bare_parts blanks others)

bare_terms : (blanks : Bool) (l : List Token) → terms blanks (all_bare l) ≡ terms blanks l
bare_terms blanks [] = refl
bare_terms blanks (t ∷ others) = ap (with_part (part_of (Some Add) (term_of t.kind))) (bare_parts blanks others)

bare_expression : (l : List Token) → expression (all_bare l) ≡ expression l
bare_expression [] = refl
bare_expression (t ∷ others) = both_ways (is_sign t.kind) _ _ _ _ (bare_parts true (t ∷ others)) (bare_terms true (t ∷ others))

bare_reference : (op : Operation) (indirect : Bool) (l : List Token) → reference op indirect (all_bare l) ≡ reference op indirect l
bare_reference op indirect [] = refl
bare_reference op indirect (t ∷ []) = refl
bare_reference op indirect (t ∷ u ∷ others) =
    both_ways (is_blank t.kind) _ _ _ _
    (both_ways (is_named (name_number (codes "I")) u.kind) _ _ _ _ (bare_reference op true others)
    (both_ways (is_named (name_number (codes "Z")) u.kind) _ _ _ _ (bare_reference op indirect others)
    (ap (map_body (λ e. Reference op indirect (Some e))) (bare_terms false (u ∷ others))))) refl

bare_field : (u : Token) (others : List Token) → field_number (bare u) (all_bare others) ≡ field_number u others
bare_field u others =
    both_ways (is_blank u.kind) _ _ _ _ (bare_expression others) (both_ways (is_sign u.kind) _ _ _ _ (bare_expression (u ∷ others)) refl)

bare_spaced : (op : Option Operation) (whole following : List Token) → spaced_body op (all_bare whole) (all_bare following) ≡ spaced_body op whole following
bare_spaced None whole following = ap (map_body Word) (bare_expression whole)
bare_spaced (Some op) whole following = bare_reference op false following

bare_operation : (op : Option Operation) (t : Token) → operation_body op (bare t) ≡ operation_body op t
bare_operation None t = ap (map_body Word) (bare_expression (t ∷ []))
bare_operation (Some op) t = refl

bare_lone : (t : Token) → lone_body (bare t) ≡ lone_body t
bare_lone t =
    both_ways (is_named (name_number (codes "DECIMA")) t.kind) _ _ _ _ refl
    (both_ways (is_named (name_number (codes "OCTAL")) t.kind) _ _ _ _ refl (bare_operation (operation_in t.kind) t))

bare_longer : (t u : Token) (others : List Token) → longer_body (bare t) (bare u) (all_bare others) ≡ longer_body t u others
bare_longer t u others =
    both_ways (is_star t.kind) _ _ _ _ (ap (map_body Origin) (bare_expression (u ∷ others)))
    (both_ways (is_equals u.kind) _ _ _ _ (ap (definition (free_name t.kind)) (bare_expression others))
    (both_ways (is_named (name_number (codes "FIELD")) t.kind) _ _ _ _ (ap (map_body Field) (bare_field u others))
    (both_ways (is_blank u.kind) _ _ _ _ (bare_spaced (operation_in t.kind) (t ∷ u ∷ others) (u ∷ others)) (ap (map_body Word) (bare_expression (t ∷ u ∷ others))))))

bare_said : (l : List Token) → phrase_of_tokens (all_bare l) ≡ phrase_of_tokens l
bare_said [] = refl
bare_said (t ∷ []) = ap without_tags (bare_lone t)
bare_said (t ∷ u ∷ others) =
    both_ways (is_comma u.kind) _ _ _ _ (ap (with_tag (free_name t.kind)) (bare_said others)) (ap without_tags (bare_longer t u others))

bare_bad : (l : List Token) → has_bad_number (all_bare l) ≡ has_bad_number l
bare_bad [] = refl
bare_bad (t ∷ others) = ap (λ (b : Bool). is_bad t.kind || b) (bare_bad others)

bare_pause : (l : List Token) → is_lone_pause (all_bare l) ≡ is_lone_pause l
bare_pause [] = refl
bare_pause (t ∷ []) = refl
bare_pause (t ∷ u ∷ others) = refl

-- ## Stretches of the same bytes

pub same_said : (radix : Radix) (a b : List (ℕ × ℕ)) → bare_bytes a ≡ bare_bytes b → phrase_of_tokens (tokens radix a) ≡ phrase_of_tokens (tokens radix b)
same_said radix a b e = sym (bare_said (tokens radix a)) ∙ ap phrase_of_tokens (same_tokens radix a b e) ∙ bare_said (tokens radix b)

pub same_bad : (radix : Radix) (a b : List (ℕ × ℕ)) → bare_bytes a ≡ bare_bytes b → has_bad_number (tokens radix a) ≡ has_bad_number (tokens radix b)
same_bad radix a b e = sym (bare_bad (tokens radix a)) ∙ ap has_bad_number (same_tokens radix a b e) ∙ bare_bad (tokens radix b)

abbrev illegal_among : List ℕ → Bool
illegal_among [] = false
illegal_among (b ∷ older) = not (is_legal b) || illegal_among older

illegal_bytes : (live : List (ℕ × ℕ)) → has_illegal live ≡ illegal_among (bare_bytes live)
illegal_bytes [] = refl
illegal_bytes (live ∷ older) = ap (λ (t : Bool). not (is_legal live.0) || t) (illegal_bytes older)

pub same_illegal : (a b : List (ℕ × ℕ)) → bare_bytes a ≡ bare_bytes b → has_illegal a ≡ has_illegal b
same_illegal a b e = illegal_bytes a ∙ ap illegal_among e ∙ sym (illegal_bytes b)

no_name : (wanted base : ℕ) (digits : List ℕ) → is_named wanted (number_kind base digits) ≡ false
no_name wanted base digits = by_test (are_digits base digits && nat_lt (number base digits) 4096)
  where
    by_test : (test : Bool) → is_named wanted (if test then Term (Number (number base digits)) else BadNumber) ≡ false
    by_test true = refl
    by_test false = refl

run_name : (wanted one other first : ℕ) (others : List ℕ) → is_named wanted (run_kind one first others) ≡ is_named wanted (run_kind other first others)
run_name wanted one other first others = by_test (is_letter first)
  where
    by_test : (test : Bool)
        → is_named wanted (if test then Term (Name (name_number (first ∷ others))) else number_kind one (first ∷ others))
        ≡ is_named wanted (if test then Term (Name (name_number (first ∷ others))) else number_kind other (first ∷ others))
    by_test true = refl
    by_test false = no_name wanted one (first ∷ others) ∙ sym (no_name wanted other (first ∷ others))

two_tokens : (l : List Token) (t u : Token) → is_lone_pause ((l ++ t ∷ []) ++ u ∷ []) ≡ false
two_tokens [] t u = refl
two_tokens (v ∷ []) t u = refl
two_tokens (v ∷ w ∷ l) t u = refl

pause_by_any : (one other : ℕ) (before : List Piece) → is_lone_pause (in_order one before) ≡ is_lone_pause (in_order other before)
pause_by_any one other [] = refl
pause_by_any one other (Run first others start end ∷ []) = run_name (name_number (codes "PAUSE")) one other first others
pause_by_any one other (Mark kind place ∷ []) = refl
pause_by_any one other (piece ∷ next ∷ before) =
    two_tokens (in_order one before) (token one next) (token one piece) ∙ sym (two_tokens (in_order other before) (token other next) (token other piece))

pub same_lone_pause : (one other : Radix) (a b : List (ℕ × ℕ)) → bare_bytes a ≡ bare_bytes b → is_lone_pause (tokens one a) ≡ is_lone_pause (tokens other b)
same_lone_pause one other a b e =
    sym (bare_pause (tokens one a)) ∙ ap is_lone_pause (same_tokens one a b e) ∙ bare_pause (tokens one b)
    ∙ pause_by_any (base one) (base other) (without_end_blank (pieces b))

pub same_pause : (a b : List (ℕ × ℕ)) → bare_bytes a ≡ bare_bytes b → is_pause a ≡ is_pause b
same_pause a b e =
    ap (λ (t : Bool). not t && is_lone_pause (tokens Octal a)) (same_illegal a b e) ∙ ap (λ (t : Bool). not (has_illegal b) && t) (same_lone_pause Octal Octal a b e)
