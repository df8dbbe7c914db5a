-- Blanks that mean nothing.
use Rattle.std.proofs.Common.{◌≡◌, ℕ, nat_eq, Bool, true, false, ◌||◌, if◌then◌else◌, Option, Some, None, is_some, List, [], ◌∷◌, ◌++◌, refl, ap, sym, ◌∙◌, arith}
use Rattle.std.proofs.lemmas.Bool.Decides.{nat_tests}
use Rattle.pal_lex.specs.Cutting.{Piece, Run, Mark, is_coded, is_space, sign_of, is_operand, without_end_blank, with_character, with_blank, with_sign, with_byte, pieces}
use Rattle.pal_lex.specs.Runs.{base, in_order, tokens}
use Rattle.pal_lex.specs.Laws.{ends_idle, begins_idle, BlanksMeanNothing}
use Rattle.pal_lex.specs.declared.pieces.Term.TheVariants.{Here}
use Rattle.pal_lex.specs.declared.pieces.Kind.{Kind}
use Rattle.pal_lex.specs.declared.pieces.Kind.TheVariants.{Term, BadNumber, Blank, Plus, Minus, Equals, Comma, Star}
use Rattle.pal_lex.specs.declared.runs.Radix.{Radix}

-- ## A blank and a sign as bytes

no_code : (b : ℕ) → is_space b ≡ true → is_coded b ≡ false
no_code b e = grind (arith, nat_tests)

blank_byte : (b place : ℕ) (before : List Piece) → is_space b ≡ true → with_byte b place before ≡ with_blank place before
blank_byte b place before e = rw (no_code b e, e) refl

-- a character is no other: by its number
is_this : (b n : ℕ) → nat_eq b n ≡ true → b ≡ n
is_this b n e = grind (arith, nat_tests)

record IsSign (b : ℕ) : Type 0 where
  no_letter : is_coded b ≡ false
  no_space : is_space b ≡ false
  no_dot : nat_eq b 46 ≡ false

sign_here : (b n : ℕ) → IsSign n → nat_eq b n ≡ true → IsSign b
sign_here b n is e = rw (is_this b n e) is

signs : (plus minus equals comma star : Bool) → Bool
signs plus minus equals comma star =
    is_some (if plus then Some Plus else (if minus then Some Minus else (if equals then Some Equals else (if comma then Some Comma else (if star then Some Star else None)))))

sign_by : (b : ℕ) (plus minus equals comma star : Bool) → nat_eq b 43 ≡ plus → nat_eq b 45 ≡ minus → nat_eq b 61 ≡ equals → nat_eq b 44 ≡ comma → nat_eq b 42 ≡ star
    → signs plus minus equals comma star ≡ true → IsSign b
unfolding signs
sign_by b true minus equals comma star p m q c s e = sign_here b 43 (record { no_letter = refl; no_space = refl; no_dot = refl }) p
sign_by b false true equals comma star p m q c s e = sign_here b 45 (record { no_letter = refl; no_space = refl; no_dot = refl }) m
sign_by b false false true comma star p m q c s e = sign_here b 61 (record { no_letter = refl; no_space = refl; no_dot = refl }) q
sign_by b false false false true star p m q c s e = sign_here b 44 (record { no_letter = refl; no_space = refl; no_dot = refl }) c
sign_by b false false false false true p m q c s e = sign_here b 42 (record { no_letter = refl; no_space = refl; no_dot = refl }) s
sign_by b false false false false false p m q c s e = absurd cc

is_sign : (b : ℕ) → is_some (sign_of b) ≡ true → IsSign b
unfolding signs
is_sign b e = sign_by b (nat_eq b 43) (nat_eq b 45) (nat_eq b 61) (nat_eq b 44) (nat_eq b 42) refl refl refl refl refl e

sign_byte : (b place : ℕ) (before : List Piece) → is_some (sign_of b) ≡ true → with_byte b place before ≡ with_sign (sign_of b) place before
sign_byte b place before e =
    let is = is_sign b e in
    ap (λ (t : Bool). if t then with_character b place before else (if is_space b then with_blank place before else (if nat_eq b 46 then Mark (Term Here) place ∷ before else with_sign (sign_of b) place before))) is.no_letter
    ∙ ap (λ (t : Bool). if t then with_blank place before else (if nat_eq b 46 then Mark (Term Here) place ∷ before else with_sign (sign_of b) place before)) is.no_space
    ∙ ap (λ (t : Bool). if t then Mark (Term Here) place ∷ before else with_sign (sign_of b) place before) is.no_dot

-- ## A blank after a blank or a sign

abbrev operand_in : Option Kind → Bool
operand_in None = false
operand_in (Some kind) = is_operand kind

no_operand_by : (plus minus equals comma star : Bool)
    → operand_in (if plus then Some Plus else (if minus then Some Minus else (if equals then Some Equals else (if comma then Some Comma else (if star then Some Star else None))))) ≡ false
no_operand_by true minus equals comma star = refl
no_operand_by false true equals comma star = refl
no_operand_by false false true comma star = refl
no_operand_by false false false true star = refl
no_operand_by false false false false true = refl
no_operand_by false false false false false = refl

no_operand : (b : ℕ) → operand_in (sign_of b) ≡ false
no_operand b = no_operand_by (nat_eq b 43) (nat_eq b 45) (nat_eq b 61) (nat_eq b 44) (nat_eq b 42)

after_sign : (s : Option Kind) (place at : ℕ) (before : List Piece) → is_some s ≡ true → operand_in s ≡ false
    → with_blank place (with_sign s at before) ≡ with_sign s at before
after_sign None place at before some e = absurd cc
after_sign (Some kind) place at before some e = ap (λ (t : Bool). if t then Mark Blank place ∷ Mark kind at ∷ without_end_blank before else Mark kind at ∷ without_end_blank before) e

following_by : (operand : Bool) (place at here : ℕ) (kind : Kind) (before : List Piece) → is_operand kind ≡ operand
    → with_blank place (if operand then Mark Blank at ∷ Mark kind here ∷ before else Mark kind here ∷ before)
    ≡ (if operand then Mark Blank at ∷ Mark kind here ∷ before else Mark kind here ∷ before)
following_by true place at here kind before e = refl
following_by false place at here kind before e = ap (λ (t : Bool). if t then Mark Blank place ∷ Mark kind here ∷ before else Mark kind here ∷ before) e

following_blank : (place at : ℕ) (before : List Piece) → with_blank place (with_blank at before) ≡ with_blank at before
following_blank place at [] = refl
following_blank place at (Run first others start end ∷ before) = refl
following_blank place at (Mark kind here ∷ before) = following_by (is_operand kind) place at here kind before refl

idle_by : (space sign : Bool) (place : ℕ) (live : ℕ × ℕ) (older : List (ℕ × ℕ)) → is_space live.0 ≡ space → is_some (sign_of live.0) ≡ sign → (space || sign) ≡ true
    → with_blank place (pieces (live ∷ older)) ≡ pieces (live ∷ older)
idle_by true sign place live older s g e =
    ap (with_blank place) (blank_byte live.0 live.1 (pieces older) s) ∙ following_blank place live.1 (pieces older) ∙ sym (blank_byte live.0 live.1 (pieces older) s)
idle_by false true place live older s g e =
    ap (with_blank place) (sign_byte live.0 live.1 (pieces older) g) ∙ after_sign (sign_of live.0) place live.1 (pieces older) g (no_operand live.0)
    ∙ sym (sign_byte live.0 live.1 (pieces older) g)
idle_by false false place live older s g e = absurd cc

after_idle : (place : ℕ) (before : List (ℕ × ℕ)) → ends_idle before ≡ true → with_blank place (pieces before) ≡ pieces before
after_idle place [] e = refl
after_idle place (live ∷ older) e = idle_by (is_space live.0) (is_some (sign_of live.0)) place live older refl refl e

-- ## A blank before a sign, or at the end

trimmed_by : (operand : Bool) (place at : ℕ) (kind : Kind) (before : List Piece) → is_operand kind ≡ operand
    → without_end_blank (if operand then Mark Blank place ∷ Mark kind at ∷ before else Mark kind at ∷ before) ≡ without_end_blank (Mark kind at ∷ before)
trimmed_by true place at (Term t) before e = refl
trimmed_by true place at BadNumber before e = refl
trimmed_by true place at Blank before e = absurd cc
trimmed_by true place at Plus before e = absurd cc
trimmed_by true place at Minus before e = absurd cc
trimmed_by true place at Equals before e = absurd cc
trimmed_by true place at Comma before e = absurd cc
trimmed_by true place at Star before e = absurd cc
trimmed_by false place at kind before e = refl

trimmed_blank : (place : ℕ) (before : List Piece) → without_end_blank (with_blank place before) ≡ without_end_blank before
trimmed_blank place [] = refl
trimmed_blank place (Run first others start end ∷ before) = refl
trimmed_blank place (Mark kind at ∷ before) = trimmed_by (is_operand kind) place at kind before refl

before_sign : (s : Option Kind) (place at : ℕ) (before : List Piece) → is_some s ≡ true → with_sign s at (with_blank place before) ≡ with_sign s at before
before_sign None place at before e = absurd cc
before_sign (Some kind) place at before e = ap (λ l. Mark kind at ∷ l) (trimmed_blank place before)

-- what follows pieces that are the same
pieces_after : (later a b : List (ℕ × ℕ)) → pieces a ≡ pieces b → pieces (later ++ a) ≡ pieces (later ++ b)
pieces_after [] a b e = e
pieces_after (live ∷ later) a b e = ap (with_byte live.0 live.1) (pieces_after later a b e)

before_idle : (b place : ℕ) (live : ℕ × ℕ) (later before : List (ℕ × ℕ)) → is_space b ≡ true → begins_idle (live ∷ later) ≡ true
    → pieces (live ∷ later ++ (b, place) ∷ before) ≡ pieces (live ∷ later ++ before)
before_idle b place live [] before space e =
    ap (with_byte live.0 live.1) (blank_byte b place (pieces before) space) ∙ sign_byte live.0 live.1 (with_blank place (pieces before)) e
    ∙ before_sign (sign_of live.0) place live.1 (pieces before) e ∙ sym (sign_byte live.0 live.1 (pieces before) e)
before_idle b place live (next ∷ later) before space e = ap (with_byte live.0 live.1) (before_idle b place next later before space e)

-- ## Tokens

by_before : (radix : Radix) (b place : ℕ) (before later : List (ℕ × ℕ)) → is_space b ≡ true → ends_idle before ≡ true
    → tokens radix (later ++ (b, place) ∷ before) ≡ tokens radix (later ++ before)
by_before radix b place before later space e =
    ap (λ l. in_order (base radix) (without_end_blank l))
    (pieces_after later ((b, place) ∷ before) before (blank_byte b place (pieces before) space ∙ after_idle place before e))

by_later : (radix : Radix) (b place : ℕ) (before later : List (ℕ × ℕ)) → is_space b ≡ true → begins_idle later ≡ true
    → tokens radix (later ++ (b, place) ∷ before) ≡ tokens radix (later ++ before)
by_later radix b place before [] space e =
    ap (in_order (base radix)) (ap without_end_blank (blank_byte b place (pieces before) space) ∙ trimmed_blank place (pieces before))
by_later radix b place before (live ∷ later) space e =
    ap (λ l. in_order (base radix) (without_end_blank l)) (before_idle b place live later before space e)

by_either : (following ahead : Bool) (radix : Radix) (b place : ℕ) (before later : List (ℕ × ℕ)) → is_space b ≡ true
    → ends_idle before ≡ following → begins_idle later ≡ ahead → (following || ahead) ≡ true
    → tokens radix (later ++ (b, place) ∷ before) ≡ tokens radix (later ++ before)
by_either true ahead radix b place before later space i j e = by_before radix b place before later space i
by_either false true radix b place before later space i j e = by_later radix b place before later space j
by_either false false radix b place before later space i j e = absurd cc

pub blanks_mean_nothing : BlanksMeanNothing
blanks_mean_nothing radix b place before later space e =
    by_either (ends_idle before) (begins_idle later) radix b place before later space refl refl e
