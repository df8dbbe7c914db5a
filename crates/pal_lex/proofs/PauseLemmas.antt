-- The grammar has no PAUSE.
use Rattle.std.proofs.Common.{◌≡◌, ℕ, nat_eq, Bool, true, false, not, if◌then◌else◌, Option, Some, None, List, [], ◌∷◌, refl, ap, sym, ◌∙◌, arith}
use Rattle.std.proofs.lemmas.Bool.Decides.{nat_tests}
use Rattle.std.specs.Prelude.{codes}
use Rattle.pal_lex.specs.Cutting.{is_blank}
use Rattle.pal_lex.specs.Runs.{name_number}
use Rattle.pal_lex.specs.Language.{is_named, free_name, operation_in}
use Rattle.pal_lex.specs.Grammar.{sum, expression, map_body, is_star, is_equals, is_comma, reference, definition, field_number, spaced_body, operation_body, body, without_tags, with_tag, phrase_of_tokens, has_bad_number}
use Rattle.pal_lex.specs.Joins.{is_lone_pause}
use Rattle.pal_lex.specs.Reading.{is_pause_body}
use Rattle.pal_lex.specs.declared.pieces.Term.TheVariants.{Name, Number, Here}
use Rattle.pal_lex.specs.declared.pieces.Kind.{Kind}
use Rattle.pal_lex.specs.declared.pieces.Kind.TheVariants.{Term, BadNumber, Blank, Plus, Minus, Equals, Comma, Star}
use Rattle.pal_lex.specs.declared.pieces.Token.{Token}
use Rattle.pal_lex.specs.declared.phrases.Body.{Body}
use Rattle.pal_lex.specs.declared.phrases.Body.TheVariants.{Define, Origin, Field, Reference, Word}
use Rattle.pal_lex.specs.declared.phrases.Operation.{Operation}
use Rattle.pal_lex.specs.declared.phrases.Part.{Part}
use Rattle.pal_lex.specs.declared.phrases.Said.{Said}

-- ## A statement that the grammar accepts is no PAUSE

abbrev calm : Option Body → Bool
calm None = true
calm (Some b) = not (is_pause_body b)

one_of : (test : Bool) (a b : Option Body) → calm a ≡ true → calm b ≡ true → calm (if test then a else b) ≡ true
one_of true a b e f = e
one_of false a b e f = f

calm_map : (make : List Part → Body) → ((e : List Part) → is_pause_body (make e) ≡ false) → (e : Option (List Part)) → calm (map_body make e) ≡ true
calm_map make h None = refl
calm_map make h (Some e) = ap not (h e)

calm_reference : (op : Operation) (indirect : Bool) (l : List Token) → calm (reference op indirect l) ≡ true
calm_reference op indirect [] = refl
calm_reference op indirect (t ∷ []) = refl
calm_reference op indirect (t ∷ u ∷ others) =
    one_of (is_blank t.kind) _ _
    (one_of (is_named (name_number (codes "I")) u.kind) _ _ (calm_reference op true others)
    (one_of (is_named (name_number (codes "Z")) u.kind) _ _ (calm_reference op indirect others)
    (calm_map (λ e. Reference op indirect (Some e)) (λ e. refl) (sum (u ∷ others))))) refl

calm_definition : (name : Option ℕ) (e : Option (List Part)) → calm (definition name e) ≡ true
calm_definition None e = refl
calm_definition (Some name) e = calm_map (Define name) (λ v. refl) e

calm_spaced : (op : Option Operation) (whole following : List Token) → calm (spaced_body op whole following) ≡ true
calm_spaced None whole following = calm_map Word (λ e. refl) (expression whole)
calm_spaced (Some op) whole following = calm_reference op false following

calm_operation : (op : Option Operation) (t : Token) → calm (operation_body op t) ≡ true
calm_operation None t = calm_map Word (λ e. refl) (expression (t ∷ []))
calm_operation (Some op) t = refl

calm_body : (l : List Token) → calm (body l) ≡ true
calm_body [] = refl
calm_body (t ∷ []) =
    one_of (is_named (name_number (codes "DECIMA")) t.kind) _ _ refl
    (one_of (is_named (name_number (codes "OCTAL")) t.kind) _ _ refl (calm_operation (operation_in t.kind) t))
calm_body (t ∷ u ∷ others) =
    one_of (is_star t.kind) _ _ (calm_map Origin (λ e. refl) (expression (u ∷ others)))
    (one_of (is_equals u.kind) _ _ (calm_definition (free_name t.kind) (expression others))
    (one_of (is_named (name_number (codes "FIELD")) t.kind) _ _ (calm_map Field (λ e. refl) (field_number u others))
    (one_of (is_blank u.kind) _ _ (calm_spaced (operation_in t.kind) (t ∷ u ∷ others) (u ∷ others)) (calm_map Word (λ e. refl) (expression (t ∷ u ∷ others))))))

abbrev calm_said : Option Said → Bool
calm_said None = true
calm_said (Some s) = not (is_pause_body s.body)

calm_untagged : (b : Option Body) → calm b ≡ true → calm_said (without_tags b) ≡ true
calm_untagged None e = refl
calm_untagged (Some b) e = e

calm_tag : (name : Option ℕ) (s : Option Said) → calm_said s ≡ true → calm_said (with_tag name s) ≡ true
calm_tag None s e = refl
calm_tag (Some name) None e = refl
calm_tag (Some name) (Some s) e = e

said_by : (test : Bool) (a b : Option Said) → calm_said a ≡ true → calm_said b ≡ true → calm_said (if test then a else b) ≡ true
said_by true a b e f = e
said_by false a b e f = f

all_calm : (l : List Token) → calm_said (phrase_of_tokens l) ≡ true
all_calm [] = refl
all_calm (t ∷ []) = calm_untagged (body (t ∷ [])) (calm_body (t ∷ []))
all_calm (t ∷ u ∷ others) =
    said_by (is_comma u.kind) _ _ (calm_tag (free_name t.kind) (phrase_of_tokens others) (all_calm others)) (calm_untagged (body (t ∷ u ∷ others)) (calm_body (t ∷ u ∷ others)))

not_true : (b : Bool) → not b ≡ true → b ≡ false
not_true true e = sym e
not_true false e = refl

pub said_no_pause : (l : List Token) (s : Said) → phrase_of_tokens l ≡ Some s → is_pause_body s.body ≡ false
said_no_pause l s e = not_true (is_pause_body s.body) (sym (ap calm_said e) ∙ all_calm l)

-- ## PAUSE alone is no statement of the grammar

is_this_name : (n wanted : ℕ) → nat_eq n wanted ≡ true → n ≡ wanted
is_this_name n wanted e = grind (arith, nat_tests)

pause_kind : (kind : Kind) → is_named (name_number (codes "PAUSE")) kind ≡ true → kind ≡ Term (Name (name_number (codes "PAUSE")))
pause_kind (Term (Name n)) e = ap (λ m. Term (Name m)) (is_this_name n (name_number (codes "PAUSE")) e)
pause_kind (Term (Number w)) e = cc
pause_kind (Term Here) e = cc
pause_kind BadNumber e = cc
pause_kind Blank e = cc
pause_kind Plus e = cc
pause_kind Minus e = cc
pause_kind Equals e = cc
pause_kind Comma e = cc
pause_kind Star e = cc

pub pause_is_bad : (l : List Token) → is_lone_pause l ≡ true → phrase_of_tokens l ≡ None
pause_is_bad [] e = cc
pause_is_bad (t ∷ []) e = by_kind t.kind t.start t.end (pause_kind t.kind e)
  where
    by_kind : (kind : Kind) (start end : ℕ) → kind ≡ Term (Name (name_number (codes "PAUSE"))) → phrase_of_tokens (record { kind = kind; start = start; end = end } ∷ []) ≡ None
    by_kind kind start end is = rw is refl
pause_is_bad (t ∷ u ∷ others) e = cc

pub pause_is_no_number : (l : List Token) → is_lone_pause l ≡ true → has_bad_number l ≡ false
pause_is_no_number [] e = cc
pause_is_no_number (t ∷ []) e = rw (pause_kind t.kind e) refl
pause_is_no_number (t ∷ u ∷ others) e = cc
