-- The grammar, a token or two at a time.
use Rattle.std.proofs.Common.{◌≡◌, ℕ, ◌-◌, ◌≤◌, Bool, true, false, Option, Some, None, length, get_or, take, drop, List, [], ◌∷◌, ◌++◌, refl, ap, sym, ◌∙◌, append_assoc, arith}
use Rattle.std.proofs.lemmas.List.{take_all}
use Rattle.pal_lex.specs.Cutting.{is_blank}
use Rattle.pal_lex.specs.Language.{is_named, free_name}
use Rattle.pal_lex.specs.Runs.{name_number}
use Rattle.std.specs.Prelude.{codes}
use Rattle.pal_lex.specs.Grammar.{joint_of, term_of, parts, with_part, terms, reference, is_comma, with_tag, phrase_of_tokens}
use Rattle.pal_lex.specs.AfterSteps.{parts_after, with_tags_before}
use Rattle.pal_lex.specs.declared.pieces.Token.{Token}
use Rattle.pal_lex.specs.declared.pieces.Term.{Term}
use Rattle.pal_lex.specs.declared.phrases.Joint.{Joint}
use Rattle.pal_lex.specs.declared.phrases.Joint.TheVariants.{Add}
use Rattle.pal_lex.specs.declared.phrases.Part.{Part}
use Rattle.pal_lex.specs.declared.phrases.Operation.{Operation}
use Rattle.pal_lex.specs.declared.phrases.Said.{Said}

-- what stands after the first two of a list
abbrev pub following_two : {A : Type 0} → List A → List A
following_two l = take (length l - 2) (drop 2 l)

-- what stands after the first of a list
abbrev pub following_one : {A : Type 0} → List A → List A
following_one l = take (length l - 1) (drop 1 l)

pub first_two : {A : Type 0} (l : List A) (a b : A) → 2 ≤ length l → a ≡ get_or l 0 a → b ≡ get_or l 1 b → l ≡ a ∷ b ∷ following_two l
first_two [] a b long first second = absurd (omega arith)
first_two (x ∷ []) a b long first second = absurd (omega arith)
first_two (x ∷ y ∷ others) a b long first second =
    ap (λ v. v ∷ y ∷ others) (sym first) ∙ ap (λ v. a ∷ v ∷ others) (sym second)
    ∙ ap (λ v. a ∷ b ∷ v) (sym (take_all (length (x ∷ y ∷ others) - 2) others (omega arith)))

pub first_one : {A : Type 0} (l : List A) (a : A) → 1 ≤ length l → a ≡ get_or l 0 a → l ≡ a ∷ following_one l
first_one [] a long first = absurd (omega arith)
first_one (x ∷ others) a long first = ap (λ v. v ∷ others) (sym first) ∙ ap (λ v. a ∷ v) (sym (take_all (length (x ∷ others) - 1) others (omega arith)))

-- ## Terms

pub after_more : (before : List Part) (part : Part) (o : Option (List Part)) → parts_after (before ++ part ∷ []) o ≡ parts_after before (with_part (Some part) o)
after_more before part None = refl
after_more before part (Some found) = ap Some (append_assoc before (part ∷ []) found)

pub following_first : (part : Part) (o : Option (List Part)) → parts_after (part ∷ []) o ≡ with_part (Some part) o
following_first part None = refl
following_first part (Some found) = refl

pub parts_more : (blanks : Bool) (rest : List Token) (j t : Token) (joint : Joint) (term : Term) (before after : List Part)
    → 2 ≤ length rest → j ≡ get_or rest 0 j → t ≡ get_or rest 1 t → Some joint ≡ joint_of blanks j.kind → Some term ≡ term_of t.kind
    → after ≡ before ++ record { joint = joint; term = term } ∷ []
    → parts_after after (parts blanks (following_two rest)) ≡ parts_after before (parts blanks rest)
parts_more blanks rest j t joint term before after long first second is_joint is_term e =
    rw e (after_more before (record { joint = joint; term = term }) (parts blanks (following_two rest))
    ∙ ap (parts_after before) (sym (ap (parts blanks) (first_two rest j t long first second) ∙ rw (← is_joint, ← is_term) refl)))

pub terms_first : (blanks : Bool) (tokens : List Token) (t : Token) (term : Term) (before items : List Part)
    → 1 ≤ length tokens → t ≡ get_or tokens 0 t → Some term ≡ term_of t.kind → before ≡ [] → items ≡ before ++ record { joint = Add; term = term } ∷ []
    → parts_after items (parts blanks (following_one tokens)) ≡ terms blanks tokens
terms_first blanks tokens t term before items long first is_term none e =
    ap (λ l. parts_after l (parts blanks (following_one tokens))) (e ∙ ap (λ l. l ++ record { joint = Add; term = term } ∷ []) none)
    ∙ following_first (record { joint = Add; term = term }) (parts blanks (following_one tokens))
    ∙ sym (ap (terms blanks) (first_one tokens t long first) ∙ rw (← is_term) refl)

-- ## Memory references

pub reference_indirect : (op : Operation) (indirect : Bool) (rest : List Token) (t u : Token)
    → 2 ≤ length rest → t ≡ get_or rest 0 t → u ≡ get_or rest 1 u → true ≡ is_blank t.kind → true ≡ is_named (name_number (codes "I")) u.kind
    → reference op true (following_two rest) ≡ reference op indirect rest
reference_indirect op indirect rest t u long first second blank named = sym (ap (reference op indirect) (first_two rest t u long first second) ∙ rw (← blank, ← named) refl)

pub reference_zero_page : (op : Operation) (indirect : Bool) (rest : List Token) (t u : Token)
    → 2 ≤ length rest → t ≡ get_or rest 0 t → u ≡ get_or rest 1 u → true ≡ is_blank t.kind → false ≡ is_named (name_number (codes "I")) u.kind
    → true ≡ is_named (name_number (codes "Z")) u.kind → reference op indirect (following_two rest) ≡ reference op indirect rest
reference_zero_page op indirect rest t u long first second blank other named = sym (ap (reference op indirect) (first_two rest t u long first second) ∙ rw (← blank, ← other, ← named) refl)

-- ## Tags

pub tagged_more : (names : List ℕ) (name : ℕ) (o : Option Said) → with_tags_before (names ++ name ∷ []) o ≡ with_tags_before names (with_tag (Some name) o)
tagged_more names name None = refl
tagged_more names name (Some s) = ap (λ tags. Some record { tags = tags; body = s.body }) (append_assoc names (name ∷ []) s.tags)

pub said_more : (rest : List Token) (t u : Token) (name : ℕ) (names after : List ℕ)
    → 2 ≤ length rest → t ≡ get_or rest 0 t → u ≡ get_or rest 1 u → true ≡ is_comma u.kind → Some name ≡ free_name t.kind
    → after ≡ names ++ name ∷ [] → with_tags_before after (phrase_of_tokens (following_two rest)) ≡ with_tags_before names (phrase_of_tokens rest)
said_more rest t u name names after long first second comma free e = rw e (tagged_more names name (phrase_of_tokens (following_two rest))
    ∙ ap (with_tags_before names) (sym (ap phrase_of_tokens (first_two rest t u long first second) ∙ rw (← comma, ← free) refl)))
