-- What statements of a few pieces say.
use Rattle.std.proofs.Common.{◌≡◌, ℕ, ◌+◌, ◌/◌, ◌<◌, nat_lt, Bool, true, false, ◌&&◌, ◌||◌, if◌then◌else◌, Some, None, List, [], ◌∷◌, refl, ap, ◌∙◌, arith}
use Rattle.std.specs.Prelude.{codes}
use Rattle.std.proofs.lemmas.Bool.Decides.{nat_tests}
use Rattle.word12.specs.Octal.{octal_digit, octal4}
use Rattle.word12.specs.Sixbit.{is_letter, is_digit, name_number}
use Rattle.pal_lex.specs.Runs.{number_kind, number, are_digits}
use Rattle.pal_lex.specs.Text.{limit}
use Rattle.pal_lex.specs.Grammar.{phrase_of_tokens, has_bad_number, with_tag}
use Rattle.pal_lex.specs.declared.pieces.Term as term
use Rattle.pal_lex.specs.declared.pieces.Term.TheVariants.{Name, Number}
use Rattle.pal_lex.specs.declared.pieces.Kind.{Kind}
use Rattle.pal_lex.specs.declared.pieces.Kind.TheVariants.{Term, BadNumber, Comma, Star}
use Rattle.pal_lex.specs.declared.pieces.Token.{Token}
use Rattle.pal_lex.specs.declared.phrases.Joint.TheVariants.{Add}
use Rattle.pal_lex.specs.declared.phrases.Part.{Part}
use Rattle.pal_lex.specs.declared.phrases.Body.{Body}
use Rattle.pal_lex.specs.declared.phrases.Body.TheVariants.{Origin, Field, Word}
use Rattle.pal_lex.specs.Cutting.{are_coded}
use Rattle.pal_lex.specs.Language.{is_reserved}
use Rattle.tape_source.specs.Looks.{is_name}
use Rattle.tape_source.proofs.ByteLemmas.{both, octal}
use Rattle.tape_source.proofs.PieceLemmas.{kind_of, is_run, run_token, blank_token, tokens_at}

-- ## Octal numbers

digits_value : (w : ℕ) → w < 4096 → number 8 (octal4 w) ≡ w
digits_value w small = omega arith

digit_value : (n : ℕ) → n < 8 → number 8 (octal_digit n ∷ []) ≡ n
digit_value n small = omega arith

four : (a b c d e f g h : Bool) → a ≡ true → b ≡ true → c ≡ true → d ≡ true → e ≡ true → f ≡ true → g ≡ true → h ≡ true
    → (a && b && (c && d && (e && f && (g && h && true)))) ≡ true
four a b c d e f g h p q r s t u v w = rw (p, q, r, s, t, u, v, w) refl

number_is : (digits : List ℕ) (w : ℕ) → are_digits 8 digits ≡ true → number 8 digits ≡ w → w < 4096 → number_kind 8 digits ≡ Term (Number w)
number_is digits w are value small =
    ap (λ (b : Bool). if b && nat_lt (number 8 digits) 4096 then Term (Number (number 8 digits)) else BadNumber) are
    ∙ ap (λ n. if nat_lt n 4096 then Term (Number n) else BadNumber) value
    ∙ ap (λ (b : Bool). if b then Term (Number w) else BadNumber) (below w small)
  where
    below : (w : ℕ) → w < 4096 → nat_lt w 4096 ≡ true
    below w small = grind (arith, nat_tests)

pub octal_kind : (w : ℕ) → w < 4096 → kind_of (octal4 w) ≡ Term (Number w)
octal_kind w small =
    let a = octal (w / 512) in
    let b = octal (w / 64) in
    let c = octal (w / 8) in
    let d = octal w in
    ap (λ (l : Bool). if l then Term (Name (name_number (octal4 w))) else number_kind 8 (octal4 w)) a.letter
    ∙ number_is (octal4 w) w (four _ _ _ _ _ _ _ _ a.least a.below b.least b.below c.least c.below d.least d.below) (digits_value w small) small

pub digit_kind : (n : ℕ) → n < 8 → kind_of (octal_digit n ∷ []) ≡ Term (Number n)
digit_kind n small =
    let a = octal n in
    ap (λ (l : Bool). if l then Term (Name (name_number (octal_digit n ∷ []))) else number_kind 8 (octal_digit n ∷ [])) a.letter
    ∙ number_is (octal_digit n ∷ []) n (one _ _ a.least a.below) (digit_value n small) (omega (arith, small))
  where
    one : (a b : Bool) → a ≡ true → b ≡ true → (a && b && true) ≡ true
    one a b p q = rw (p, q) refl

-- ## Names

pub name_run : (bytes : List ℕ) → is_name bytes ≡ true → is_run bytes ≡ true
name_run [] e = absurd (cc e)
name_run (first ∷ others) e =
    let parts = both (is_letter first) (are_coded others) e in
    rw (letter (is_letter first) (is_digit first) parts.0, parts.1) refl
  where
    letter : (a b : Bool) → a ≡ true → (a || b) ≡ true
    letter true b e = refl
    letter false b e = absurd (cc e)

pub name_kind : (bytes : List ℕ) → is_name bytes ≡ true → kind_of bytes ≡ Term (Name (name_number bytes))
name_kind [] e = absurd (cc e)
name_kind (first ∷ others) e =
    ap (λ (l : Bool). if l then Term (Name (name_number (first ∷ others))) else number_kind 8 (first ∷ others)) (both (is_letter first) (are_coded others) e).0

-- ## Statements

-- tokens say a body after tags
pub record Say (tokens : List Token) (tags : List ℕ) (body : Body) : Type 0 where
  pub fine : has_bad_number tokens ≡ false
  pub said_is : phrase_of_tokens tokens ≡ Some record { tags = tags; body = body }

-- an expression of one term
abbrev pub term_parts : term.Term → List Part
term_parts t = record { joint = Add; term = t } ∷ []

abbrev pub number_parts : ℕ → List Part
number_parts w = term_parts (Number w)

-- a token with another kind
abbrev pub with_kind : Token → Kind → Token
with_kind t kind = record { kind = kind; start = t.start; end = t.end }

pub number_says : (w at : ℕ) → w < 4096 → Say (tokens_at at (octal4 w ∷ [])) [] (Word (number_parts w))
number_says w at small =
    let t = run_token at (octal4 w) in
    let kind = octal_kind w small in
    record {
      fine = ap (λ k. has_bad_number (with_kind t k ∷ [])) kind;
      said_is = ap (λ k. phrase_of_tokens (with_kind t k ∷ [])) kind;
    }

pub origin_says : (w at : ℕ) (star : Token) → w < 4096 → star.kind ≡ Star → Say (star ∷ tokens_at at (octal4 w ∷ [])) [] (Origin (number_parts w))
origin_says w at star small is =
    let t = run_token at (octal4 w) in
    let kind = octal_kind w small in
    record {
      fine = ap (λ k. has_bad_number (star ∷ with_kind t k ∷ [])) kind ∙ ap (λ k. has_bad_number (with_kind star k ∷ with_kind t (Term (Number w)) ∷ [])) is;
      said_is = ap (λ k. phrase_of_tokens (star ∷ with_kind t k ∷ [])) kind ∙ ap (λ k. phrase_of_tokens (with_kind star k ∷ with_kind t (Term (Number w)) ∷ [])) is;
    }

pub field_says : (n at : ℕ) → n < 8 → Say (tokens_at at (codes "FIELD" ∷ (octal_digit n ∷ []) ∷ [])) [] (Field (number_parts n))
field_says n at small =
    let name = run_token at (codes "FIELD") in
    let blank = blank_token (at + 5) in
    let t = run_token (at + 5 + 1) (octal_digit n ∷ []) in
    let kind = digit_kind n small in
    record {
      fine = ap (λ k. has_bad_number (name ∷ blank ∷ with_kind t k ∷ [])) kind;
      said_is = ap (λ k. phrase_of_tokens (name ∷ blank ∷ with_kind t k ∷ [])) kind;
    }

abbrev pub comma_token : ℕ → Token
comma_token at = record { kind = Comma; start = limit at; end = limit (at + 1) }

-- a name with a comma before a statement
pub tagged_says : (name : List ℕ) (at place : ℕ) (tokens : List Token) (body : Body) → is_name name ≡ true → is_reserved (name_number name) ≡ false → Say tokens [] body
    → Say (run_token at name ∷ comma_token place ∷ tokens) (name_number name ∷ []) body
tagged_says name at place tokens body is free say =
    let t = run_token at name in
    let n = name_number name in
    let kind = name_kind name is in
    record {
      fine = ap (λ k. has_bad_number (with_kind t k ∷ comma_token place ∷ tokens)) kind ∙ say.fine;
      said_is =
          ap (λ k. phrase_of_tokens (with_kind t k ∷ comma_token place ∷ tokens)) kind
          ∙ ap (λ (b : Bool). with_tag (if b then None else Some n) (phrase_of_tokens tokens)) free
          ∙ ap (with_tag (Some n)) say.said_is;
    }
