-- In a source with no fault of the first order a permanent name or a tag keeps its value, and each name that stands for
-- something at a statement stands for something in the whole.
use Rattle.std.proofs.Common.{◌≡◌, ℕ, ◌+◌, ◌*◌, ◌%◌, nat_eq, nat_lt, Bool, true, false, ◌||◌, if◌then◌else◌, Option, Some, None, is_some, unwrap_or, Ok, Err, List, [], ◌∷◌, ◌++◌, refl, ap, sym, ◌∙◌, arith}
use Rattle.std.proofs.lemmas.Bool.{eqb-true}
use Rattle.std.proofs.lemmas.Bool.Decides.{nat_tests}
use Rattle.pal_sym.specs.Permanent.{permanent}
use Rattle.pal_lex.specs.declared.pieces.Term.{Term}
use Rattle.pal_lex.specs.declared.pieces.Term.TheVariants.{Name, Number, Here}
use Rattle.pal_lex.specs.declared.phrases.Part.{Part}
use Rattle.pal_lex.specs.declared.phrases.Body.{Body}
use Rattle.pal_lex.specs.declared.phrases.Body.TheVariants.{Nothing, Origin, Define, Decimal, Octal, Pause, Field, Reference, Word}
use Rattle.pal_lex.specs.declared.phrases.Statement.{Statement}
use Rattle.pal_faults.specs.declared.assembling.Code.{Code}
use Rattle.pal_faults.specs.declared.assembling.Code.TheVariants.{DT, RD, PF}
use Rattle.pal_asm.specs.declared.spots.Spot.{Spot}
use Rattle.pal_asm.specs.Expressions.{Meanings, term_value, join_values, joined_values, value_after, value_of}
use Rattle.pal_asm.specs.Places.{Source, with_tags, with_body, is_among, is_fixed, is_fixed_at, values, place_at, values_at, field_by}
use Rattle.pal_asm.specs.Words.{body_word, with_pair}
use Rattle.pal_asm.specs.Faults.{first_of, past, fault_of_name, defined_otherwise, term_fault, terms_fault, tags_fault, definition_fault, body_fault, statement_fault, at_line, first_order}
use Rattle.pal_asm.specs.PassSteps.{place_by, spot_fault, pair_at}
use Rattle.pal_asm.specs.Passes.{with_handed}

-- each name keeps its value
abbrev pub Grows : Meanings → Meanings → Type 0
Grows old new = (n v : ℕ) → old n ≡ Some v → new n ≡ Some v

pub first_none : {A : Type 0} (a b : Option A) → first_of a b ≡ None → a ≡ None
first_none None b e = refl
first_none (Some a) b e = e

pub second_none : {A : Type 0} (a b : Option A) → first_of a b ≡ None → b ≡ None
second_none None b e = e
second_none (Some a) b e = cc

pub some_none : {A B : Type 0} {a : A} → Some a ≡ None → B
some_none e = absurd cc

-- ## Values

same_term : (old new : Meanings) (place : ℕ) (term : Term) → Grows old new → term_fault old place term ≡ None → term_value new place term ≡ term_value old place term
same_term old new place (Name n) grows none = by_value (old n) refl none
  where
    by_value : (value : Option ℕ) → old n ≡ value → fault_of_name value ≡ None → new n ≡ old n
    by_value None is none = some_none none
    by_value (Some v) is none = grows n v is ∙ sym is
same_term old new place (Number n) grows none = refl
same_term old new place Here grows none = refl

same_after : (old new : Meanings) (place : ℕ) (parts : List Part) (before : Option ℕ) → Grows old new → terms_fault old place parts ≡ None
    → value_after new place before parts ≡ value_after old place before parts
same_after old new place [] before grows none = refl
same_after old new place (part ∷ others) before grows none =
    ap (λ v. value_after new place (joined_values part.joint before v) others) (same_term old new place part.term grows (first_none _ _ none))
    ∙ same_after old new place others (joined_values part.joint before (term_value old place part.term)) grows (second_none _ _ none)

pub same_value : (old new : Meanings) (place : ℕ) (parts : List Part) → Grows old new → terms_fault old place parts ≡ None
    → value_of new place parts ≡ value_of old place parts
same_value old new place parts grows none = same_after old new place parts (Some 0) grows none

known_term : (old new : Meanings) (place : ℕ) (term : Term) → Grows old new → term_fault old place term ≡ None → term_fault new place term ≡ None
known_term old new place (Name n) grows none = by_value (old n) refl none
  where
    by_value : (value : Option ℕ) → old n ≡ value → fault_of_name value ≡ None → fault_of_name (new n) ≡ None
    by_value None is none = some_none none
    by_value (Some v) is none = ap fault_of_name (grows n v is)
known_term old new place (Number n) grows none = refl
known_term old new place Here grows none = none

pub known_terms : (old new : Meanings) (place : ℕ) (parts : List Part) → Grows old new → terms_fault old place parts ≡ None → terms_fault new place parts ≡ None
known_terms old new place [] grows none = refl
known_terms old new place (part ∷ others) grows none =
    rw (known_term old new place part.term grows (first_none _ _ none)) (known_terms old new place others grows (second_none _ _ none))

-- an expression whose terms have no fault has a value
valued_after : (known : Meanings) (place : ℕ) (parts : List Part) (before : ℕ) → terms_fault known place parts ≡ None
    → (v : ℕ) × (value_after known place (Some before) parts ≡ Some v)
valued_after known place [] before none = (before, refl)
valued_after known place (part ∷ others) before none =
    by_term part.term (term_value known place part.term) refl (first_none _ _ none) (λ b. valued_after known place others b (second_none _ _ none))
  where
    by_term : (term : Term) (value : Option ℕ) → term_value known place term ≡ value → term_fault known place term ≡ None
        → ((b : ℕ) → (v : ℕ) × (value_after known place (Some b) others ≡ Some v))
        → (v : ℕ) × (value_after known place (joined_values part.joint (Some before) (term_value known place term)) others ≡ Some v)
    by_term term (Some value) is fine rest = rw is (rest (join_values part.joint before value))
    by_term (Name n) None is fine rest = some_none (sym (ap fault_of_name is) ∙ fine)
    by_term (Number n) None is fine rest = some_none is
    by_term Here None is fine rest = some_none is

pub valued : (known : Meanings) (place : ℕ) (parts : List Part) → terms_fault known place parts ≡ None → (v : ℕ) × (value_of known place parts ≡ Some v)
valued known place parts none = valued_after known place parts 0 none

-- ## Names

pub same_number : (code : Code) (value v : ℕ) → defined_otherwise code value (Some v) ≡ None → v ≡ value
same_number code value v none = by_test (nat_eq v value) refl none
  where
    by_test : (test : Bool) → nat_eq v value ≡ test → (if test then None else Some code) ≡ None → v ≡ value
    by_test true e fine = eqb-true v value e
    by_test false e fine = some_none fine

pub tags_keep : (tags : List ℕ) (place : ℕ) (known : Meanings) → tags_fault known place tags ≡ None → Grows known (with_tags tags place known)
tags_keep [] place known none n v is = is
tags_keep (tag ∷ tags) place known none n v is = by_test (nat_eq tag n) refl (tags_keep tags place known (second_none _ _ none) n v is)
  where
    by_test : (test : Bool) → nat_eq tag n ≡ test → with_tags tags place known n ≡ Some v → (if test then Some place else with_tags tags place known n) ≡ Some v
    by_test true e others = ap Some (sym (same_number DT place v
        (ap (defined_otherwise DT place) (sym (ap known (eqb-true tag n e) ∙ is)) ∙ second_none (past place) _ (first_none _ _ none))))
    by_test false e others = others

-- what no redefinition says of a fixed name
pub kept_value : (fixed : ℕ → Bool) (known : Meanings) (place name : ℕ) (e : List Part) (value v : ℕ) → fixed name ≡ true → known name ≡ Some v → value_of known place e ≡ Some value
    → definition_fault (fixed name) (value_of known place e) (known name) ≡ None → defined_otherwise RD value (Some v) ≡ None
kept_value fixed known place name e value v kept is gives none =
    ap (definition_fault true (Some value)) (sym is) ∙ ap (λ b. definition_fault b (Some value) (known name)) (sym kept)
    ∙ ap (λ o. definition_fault (fixed name) o (known name)) (sym gives) ∙ none

-- a permanent name or a tag keeps its value
body_keeps : (fixed : ℕ → Bool) (known : Meanings) (place : ℕ) (body : Body) (n v : ℕ) → body_fault fixed known place body ≡ None → fixed n ≡ true → known n ≡ Some v
    → with_body known place body n ≡ Some v
body_keeps fixed known place Nothing n v none kept is = is
body_keeps fixed known place (Origin e) n v none kept is = is
body_keeps fixed known place (Define name e) n v none kept is = by_test (nat_eq name n) refl
  where
    value : (w : ℕ) × (value_of known place e ≡ Some w)
    value = valued known place e (first_none _ _ none)

    by_test : (test : Bool) → nat_eq name n ≡ test → (if test then value_of known place e else known n) ≡ Some v
    by_test true same = value.1 ∙ ap Some (sym (same_number RD value.0 v (kept_value fixed known place name e value.0 v
        (ap fixed (eqb-true name n same) ∙ kept) (ap known (eqb-true name n same) ∙ is) value.1 (second_none _ _ none))))
    by_test false other = is
body_keeps fixed known place Decimal n v none kept is = is
body_keeps fixed known place Pause n v none kept is = is
body_keeps fixed known place Octal n v none kept is = is
body_keeps fixed known place (Field e) n v none kept is = is
body_keeps fixed known place (Reference operation indirect address) n v none kept is = is
body_keeps fixed known place (Word e) n v none kept is = is

at_line_none : (line : ℕ) (code : Option Code) → at_line line code ≡ None → code ≡ None
at_line_none line None e = refl
at_line_none line (Some code) e = some_none e

-- a statement of a source with no fault has none
pub no_fault_at : (s : Statement) (older : Source) → first_order (Ok s ∷ older) ≡ None → statement_fault s older ≡ None
no_fault_at s older none = at_line_none s.line _ (second_none _ _ none)

pub or_right : (a b : Bool) → b ≡ true → (a || b) ≡ true
or_right true b e = refl
or_right false b e = e

-- after a statement a permanent name or a tag stands for what it stood for
statement_keeps : (s : Statement) (older : Source) (n v : ℕ) → first_order (Ok s ∷ older) ≡ None → is_fixed older n ≡ true → values older n ≡ Some v → values (Ok s ∷ older) n ≡ Some v
statement_keeps s older n v none kept is =
    body_keeps (is_fixed_at s.tags older) (values_at s.tags older) (place_at older) s.body n v (second_none _ _ (no_fault_at s older none)) (or_right (is_among s.tags n) (is_fixed older n) kept)
    (tags_keep s.tags (place_at older) (values older) (first_none _ _ (no_fault_at s older none)) n v is)

-- a source with no fault has none in its beginning
pub no_fault_before : (later older : Source) → first_order (later ++ older) ≡ None → first_order older ≡ None
no_fault_before [] older none = none
no_fault_before (Ok s ∷ later) older none = no_fault_before later older (first_none _ _ none)
no_fault_before (Err fault ∷ later) older none = no_fault_before later older (first_none _ _ none)

still_fixed : (later older : Source) (n : ℕ) → is_fixed older n ≡ true → is_fixed (later ++ older) n ≡ true
still_fixed [] older n kept = kept
still_fixed (Ok s ∷ later) older n kept = or_right (is_among s.tags n) (is_fixed (later ++ older) n) (still_fixed later older n kept)
still_fixed (Err fault ∷ later) older n kept = still_fixed later older n kept

pub fixed_keep : (later older : Source) (n v : ℕ) → first_order (later ++ older) ≡ None → is_fixed older n ≡ true → values older n ≡ Some v → values (later ++ older) n ≡ Some v
fixed_keep [] older n v none kept is = is
fixed_keep (Ok s ∷ later) older n v none kept is =
    statement_keeps s (later ++ older) n v none (still_fixed later older n kept) (fixed_keep later older n v (first_none _ _ none) kept is)
fixed_keep (Err fault ∷ later) older n v none kept is = fixed_keep later older n v (first_none _ _ none) kept is

-- a permanent name is fixed, and stands for its value
pub permanent_kept : (source : Source) (n v : ℕ) → first_order source ≡ None → permanent n ≡ Some v → (is_fixed source n ≡ true) × (values source n ≡ Some v)
permanent_kept [] n v none is = (ap is_some is, is)
permanent_kept (Ok s ∷ older) n v none is =
    let before = permanent_kept older n v (first_none _ _ none) is in
    (or_right (is_among s.tags n) (is_fixed older n) before.0, statement_keeps s older n v none before.0 before.1)
permanent_kept (Err fault ∷ older) n v none is = permanent_kept older n v (first_none _ _ none) is

-- ## Names that stand for something

abbrev pub IsKnown : Meanings → ℕ → Type 0
IsKnown known n = (v : ℕ) × (known n ≡ Some v)

tags_known : (tags : List ℕ) (place : ℕ) (known : Meanings) (n : ℕ) → IsKnown known n → IsKnown (with_tags tags place known) n
tags_known [] place known n is = is
tags_known (tag ∷ tags) place known n is = by_test (nat_eq tag n) (tags_known tags place known n is)
  where
    by_test : (test : Bool) → IsKnown (with_tags tags place known) n → (v : ℕ) × ((if test then Some place else with_tags tags place known n) ≡ Some v)
    by_test true others = (place, refl)
    by_test false others = others

-- tags stand for something
own_known : (tags : List ℕ) (place : ℕ) (known : Meanings) (n : ℕ) → is_among tags n ≡ true → IsKnown (with_tags tags place known) n
own_known [] place known n among = absurd cc
own_known (tag ∷ tags) place known n among = by_test (nat_eq tag n) (own_known tags place known n) among
  where
    by_test : (test : Bool) → (is_among tags n ≡ true → IsKnown (with_tags tags place known) n) → (test || is_among tags n) ≡ true
        → (v : ℕ) × ((if test then Some place else with_tags tags place known n) ≡ Some v)
    by_test true others e = (place, refl)
    by_test false others e = others e

body_known : (fixed : ℕ → Bool) (known : Meanings) (place : ℕ) (body : Body) (n : ℕ) → body_fault fixed known place body ≡ None → IsKnown known n → IsKnown (with_body known place body) n
body_known fixed known place Nothing n none is = is
body_known fixed known place (Origin e) n none is = is
body_known fixed known place (Define name e) n none is = by_test (nat_eq name n)
  where
    by_test : (test : Bool) → (v : ℕ) × ((if test then value_of known place e else known n) ≡ Some v)
    by_test true = valued known place e (first_none _ _ none)
    by_test false = is
body_known fixed known place Decimal n none is = is
body_known fixed known place Pause n none is = is
body_known fixed known place Octal n none is = is
body_known fixed known place (Field e) n none is = is
body_known fixed known place (Reference operation indirect address) n none is = is
body_known fixed known place (Word e) n none is = is

statement_known : (s : Statement) (older : Source) (n : ℕ) → first_order (Ok s ∷ older) ≡ None → IsKnown (values_at s.tags older) n → IsKnown (values (Ok s ∷ older)) n
statement_known s older n none is =
    body_known (is_fixed_at s.tags older) (values_at s.tags older) (place_at older) s.body n (second_none _ _ (no_fault_at s older none)) is

-- a name that stands for something stands for something after further statements
known_stays : (later older : Source) (n : ℕ) → first_order (later ++ older) ≡ None → IsKnown (values older) n → IsKnown (values (later ++ older)) n
known_stays [] older n none is = is
known_stays (Ok s ∷ later) older n none is =
    statement_known s (later ++ older) n none (tags_known s.tags (place_at (later ++ older)) (values (later ++ older)) n (known_stays later older n (first_none _ _ none) is))
known_stays (Err fault ∷ later) older n none is = known_stays later older n (first_none _ _ none) is

-- the tags of a statement stand for something in the whole source
pub tag_to_whole : (later : Source) (s : Statement) (older : Source) (n : ℕ) → first_order (later ++ Ok s ∷ older) ≡ None → is_among s.tags n ≡ true → IsKnown (values (later ++ Ok s ∷ older)) n
tag_to_whole later s older n none among =
    known_stays later (Ok s ∷ older) n none (statement_known s older n (no_fault_before later (Ok s ∷ older) none) (own_known s.tags (place_at older) (values older) n among))

-- what stands for something at a body does so in the whole source
pub body_to_whole : (later : Source) (s : Statement) (older : Source) (n : ℕ) → first_order (later ++ Ok s ∷ older) ≡ None → IsKnown (values (Ok s ∷ older)) n → IsKnown (values (later ++ Ok s ∷ older)) n
body_to_whole later s older n none is = known_stays later (Ok s ∷ older) n none is

-- ## A body by what names stand for in the second pass

pub same_place : (fixed : ℕ → Bool) (old new : Meanings) (place : ℕ) (body : Body) → Grows old new → body_fault fixed old place body ≡ None → place_by new place body ≡ place_by old place body
same_place fixed old new place Nothing grows none = refl
same_place fixed old new place (Origin e) grows none = ap (λ v. unwrap_or v 0) (same_value old new place e grows none)
same_place fixed old new place (Define name e) grows none = refl
same_place fixed old new place Decimal grows none = refl
same_place fixed old new place Pause grows none = refl
same_place fixed old new place Octal grows none = refl
same_place fixed old new place (Field e) grows none = refl
same_place fixed old new place (Reference operation indirect address) grows none = refl
same_place fixed old new place (Word e) grows none = refl

pub same_field : (fixed : ℕ → Bool) (old new : Meanings) (place : ℕ) (body : Body) (field : ℕ) → Grows old new → body_fault fixed old place body ≡ None → field_by new place body field ≡ field_by old place body field
same_field fixed old new place Nothing field grows none = refl
same_field fixed old new place (Origin e) field grows none = refl
same_field fixed old new place (Define name e) field grows none = refl
same_field fixed old new place Decimal field grows none = refl
same_field fixed old new place Pause field grows none = refl
same_field fixed old new place Octal field grows none = refl
same_field fixed old new place (Field e) field grows none = ap (λ v. unwrap_or v 0) (same_value old new place e grows (first_none _ _ none))
same_field fixed old new place (Reference operation indirect address) field grows none = refl
same_field fixed old new place (Word e) field grows none = refl

pub goes_on : (fixed : ℕ → Bool) (old new : Meanings) (place : ℕ) (body : Body) → Grows old new → body_fault fixed old place body ≡ None → spot_fault new place body ≡ None
goes_on fixed old new place Nothing grows none = refl
goes_on fixed old new place (Origin e) grows none = known_terms old new place e grows none
goes_on fixed old new place (Define name e) grows none = known_terms old new place e grows (first_none _ _ none)
goes_on fixed old new place Decimal grows none = refl
goes_on fixed old new place Pause grows none = refl
goes_on fixed old new place Octal grows none = refl
goes_on fixed old new place (Field e) grows none =
    rw (known_terms old new place e grows (first_none _ _ none), same_value old new place e grows (first_none _ _ none)) (second_none _ _ none)
goes_on fixed old new place (Reference operation indirect address) grows none = none
goes_on fixed old new place (Word e) grows none = none

-- ## The pair of a word

pub in_core : (place : ℕ) → past place ≡ None → place % 4096 ≡ place
in_core place none = by_test (nat_lt 4095 place) refl none
  where
    by_test : (test : Bool) → nat_lt 4095 place ≡ test → (if test then Some PF else None) ≡ None → place % 4096 ≡ place
    by_test true e fine = some_none fine
    by_test false e fine = grind (arith, nat_tests)

put_at : (pairs : List (ℕ × ℕ)) (spot : Spot) (word : Option ℕ) → past spot.location ≡ None
    → with_pair pairs (4096 * spot.field + spot.location) word ≡ with_handed pairs (pair_at spot word)
put_at pairs spot None none = refl
put_at pairs spot (Some word) none = ap (λ a. pairs ++ (4096 * spot.field + a, word) ∷ []) (sym (in_core spot.location none))

pub same_pair : (known : Meanings) (pairs : List (ℕ × ℕ)) (spot : Spot) (body : Body) → spot_fault known spot.location body ≡ None
    → with_pair pairs (4096 * spot.field + spot.location) (body_word known spot.location body) ≡ with_handed pairs (pair_at spot (body_word known spot.location body))
same_pair known pairs spot Nothing none = refl
same_pair known pairs spot (Origin e) none = refl
same_pair known pairs spot (Define name e) none = refl
same_pair known pairs spot Decimal none = refl
same_pair known pairs spot Pause none = refl
same_pair known pairs spot Octal none = refl
same_pair known pairs spot (Field e) none = refl
same_pair known pairs spot (Reference operation indirect address) none = put_at pairs spot _ none
same_pair known pairs spot (Word e) none = put_at pairs spot _ none
