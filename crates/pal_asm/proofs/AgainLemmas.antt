-- Names that are set again in the second pass stand for their last definition.
use Rattle.std.proofs.Common.{◌≡◌, ℕ, ◌%◌, ◌≤◌, nat_eq, Bool, true, false, if◌then◌else◌, ◌⊎◌, inl, inr, Option, Some, None, length, get_or, List, [], ◌∷◌, refl, ap, sym, subst, ◌∙◌, arith}
use Rattle.std.proofs.Math.Path.{fun_ext}
use Rattle.std.proofs.lemmas.Bool.Decides.{nat_tests}
use Rattle.pal_sym.specs.Permanent.{permanent}
use Rattle.pal_sym.specs.SymbolTable.{SymbolTable}
use Rattle.pal_sym.specs.Values.{symbol_value, if_none, set_again, IsSetAgain}
use Rattle.pal_lex.specs.declared.phrases.Part.{Part}
use Rattle.pal_lex.specs.declared.phrases.Body.{Body}
use Rattle.pal_lex.specs.declared.phrases.Body.TheVariants.{Nothing, Origin, Define, Decimal, Octal, Pause, Field, Reference, Word}
use Rattle.pal_faults.specs.declared.assembling.Code.TheVariants.{DT, RD}
use Rattle.pal_asm.specs.Expressions.{Meanings, value_of}
use Rattle.pal_asm.specs.Places.{with_tags, with_body, is_among}
use Rattle.pal_asm.specs.Faults.{past, defined_otherwise, tags_fault, body_fault}
use Rattle.pal_asm.specs.PassSteps.{with_again, with_tags_again, with_body_again}
use Rattle.pal_asm.proofs.NameLemmas.{following_one, first_one, with_tag_more}
use Rattle.pal_asm.proofs.WholeLemmas.{Grows, IsKnown, first_none, second_none, some_none, or_right, same_value, valued, same_number, kept_value, in_core}

-- a name takes the value that it is set to: it isn't permanent and stands for something, or it stands for that value already
abbrev pub Takes : Meanings → ℕ → ℕ → Type 0
Takes known name value = ((permanent name ≡ None) × IsKnown known name) ⊎ (known name ≡ Some value)

set_one : (fixed known : Option ℕ) (value : ℕ) → ((fixed ≡ None) × ((v : ℕ) × (known ≡ Some v))) ⊎ (known ≡ Some value) → set_again fixed known value ≡ Some value
set_one None (Some v) value takes = refl
set_one None None value (inl there) = some_none (sym there.1.1)
set_one None None value (inr is) = some_none (sym is)
set_one (Some f) known value (inl there) = some_none there.0
set_one (Some f) known value (inr is) = is

again_sets : (known : Meanings) (name value n : ℕ) → Takes known name value → with_again name (Some value) known n ≡ (if nat_eq name n then Some value else known n)
again_sets known name value n takes = ap (λ o. if nat_eq name n then o else known n) (set_one (permanent name) (known name) value takes)

-- ## Tags

abbrev AllTake : Meanings → List ℕ → ℕ → Type 0
AllTake known [] place = Unit {0}
AllTake known (tag ∷ tags) place = Takes known tag place × AllTake known tags place

-- a name that was set leaves the others to be set
still_takes : (old new : Meanings) (tag other place : ℕ) → ((n : ℕ) → new n ≡ (if nat_eq tag n then Some place else old n)) → Takes old other place → Takes new other place
still_takes old new tag other place sets takes = by_test (nat_eq tag other) (sets other) takes
  where
    by_test : (test : Bool) → new other ≡ (if test then Some place else old other) → Takes old other place → Takes new other place
    by_test true e takes = inr e
    by_test false e (inl there) = inl (there.0, (there.1.0, e ∙ there.1.1))
    by_test false e (inr is) = inr (e ∙ is)

all_still : (tags : List ℕ) (old new : Meanings) (tag place : ℕ) → ((n : ℕ) → new n ≡ (if nat_eq tag n then Some place else old n)) → AllTake old tags place → AllTake new tags place
all_still [] old new tag place sets take = tt
all_still (other ∷ tags) old new tag place sets take = (still_takes old new tag other place sets take.0, all_still tags old new tag place sets take.1)

tags_again : (tags : List ℕ) (place : ℕ) (known : Meanings) → AllTake known tags place → (n : ℕ) → with_tags_again tags place known n ≡ with_tags tags place known n
tags_again [] place known take n = refl
tags_again (tag ∷ tags) place known take n =
    let sets : (m : ℕ) → with_again tag (Some place) known m ≡ (if nat_eq tag m then Some place else known m) = λ m. again_sets known tag place m take.0 in
    tags_again tags place (with_again tag (Some place) known) (all_still tags known (with_again tag (Some place) known) tag place sets take.1) n
    ∙ with_tag_more tags tag place known (with_again tag (Some place) known) sets n

-- a tag was set again, and the others are left
pub set_left : (rest : List ℕ) (tag name place : ℕ) (old new : SymbolTable) → 1 ≤ length rest → tag ≡ get_or rest 0 tag → name ≡ tag → IsSetAgain name place old new
    → (n : ℕ) → with_tags_again (following_one rest) place (symbol_value new) n ≡ with_tags_again rest place (symbol_value old) n
set_left rest tag name place old new long first named set n =
    ap (λ k. with_tags_again (following_one rest) place k n) (fun_ext (subst (λ t. IsSetAgain t place old new) named set).values)
    ∙ ap (λ tags. with_tags_again tags place (symbol_value old) n) (sym (first_one rest tag long first))

-- what names stand for, and where they stand for nothing, what they stand for at last
abbrev pub over : Meanings → Meanings → Meanings
over known last n = if_none (known n) (last n)

known_over : (known last : Meanings) (n : ℕ) → IsKnown last n → IsKnown (over known last) n
known_over known last n is = by_value (known n) refl
  where
    by_value : (value : Option ℕ) → known n ≡ value → (v : ℕ) × (if_none (known n) (last n) ≡ Some v)
    by_value None e = (is.0, ap (λ o. if_none o (last n)) e ∙ is.1)
    by_value (Some v) e = (v, ap (λ o. if_none o (last n)) e)

tags_over : (tags : List ℕ) (place : ℕ) (known last : Meanings) (n : ℕ) → with_tags tags place (over known last) n ≡ if_none (with_tags tags place known n) (last n)
tags_over [] place known last n = refl
tags_over (tag ∷ tags) place known last n = by_test (nat_eq tag n) (tags_over tags place known last n)
  where
    by_test : (test : Bool) → with_tags tags place (over known last) n ≡ if_none (with_tags tags place known n) (last n)
        → (if test then Some place else with_tags tags place (over known last) n) ≡ if_none (if test then Some place else with_tags tags place known n) (last n)
    by_test true others = refl
    by_test false others = others

-- a permanent name keeps its value, and so it stands for the value that it is set to
permanent_takes : (known last : Meanings) (name value p : ℕ) → known name ≡ Some p → p ≡ value → Takes (over known last) name value
permanent_takes known last name value p is same = inr (ap (λ o. if_none o (last name)) is ∙ ap Some same)

-- a tag with no fault takes its place
tag_takes : (known last : Meanings) (tag place : ℕ) → defined_otherwise DT place (known tag) ≡ None → IsKnown last tag → ((v : ℕ) → permanent tag ≡ Some v → known tag ≡ Some v)
    → Takes (over known last) tag place
tag_takes known last tag place none defined kept = by_permanent (permanent tag) refl
  where
    by_permanent : (fixed : Option ℕ) → permanent tag ≡ fixed → Takes (over known last) tag place
    by_permanent None e = inl (e, known_over known last tag defined)
    by_permanent (Some p) e =
        permanent_takes known last tag place p (kept p e) (same_number DT place p (ap (defined_otherwise DT place) (sym (kept p e)) ∙ none))

among_first : (tag : ℕ) (tags : List ℕ) → is_among (tag ∷ tags) tag ≡ true
among_first tag tags = grind (arith, nat_tests)

tags_take : (tags : List ℕ) (place : ℕ) (known last : Meanings) → tags_fault known place tags ≡ None → ((n : ℕ) → is_among tags n ≡ true → IsKnown last n)
    → ((n v : ℕ) → permanent n ≡ Some v → known n ≡ Some v) → AllTake (over known last) tags place
tags_take [] place known last none defined kept = tt
tags_take (tag ∷ tags) place known last none defined kept = (
  tag_takes known last tag place (second_none (past place) _ (first_none _ _ none)) (defined tag (among_first tag tags)) (kept tag),
  tags_take tags place known last (second_none _ _ none) (λ n among. defined n (or_right (nat_eq tag n) (is_among tags n) among)) kept,
)

tags_in_core : (tags : List ℕ) (place : ℕ) (known values : Meanings) (n : ℕ) → tags_fault known place tags ≡ None → with_tags_again tags (place % 4096) values n ≡ with_tags_again tags place values n
tags_in_core [] place known values n none = refl
tags_in_core (tag ∷ tags) place known values n none = ap (λ p. with_tags_again (tag ∷ tags) p values n) (in_core place (first_none _ _ (first_none _ _ none)))

-- tags with no fault that are set again to a place
pub tags_set : (tags : List ℕ) (place : ℕ) (known last : Meanings) → tags_fault known place tags ≡ None → ((n : ℕ) → is_among tags n ≡ true → IsKnown last n)
    → ((n v : ℕ) → permanent n ≡ Some v → known n ≡ Some v) → (n : ℕ) → with_tags_again tags (place % 4096) (over known last) n ≡ if_none (with_tags tags place known n) (last n)
tags_set tags place known last none defined kept n =
    tags_in_core tags place known (over known last) n none ∙ tags_again tags place (over known last) (tags_take tags place known last none defined kept) n
    ∙ tags_over tags place known last n

-- ## Bodies

pub grows_over : (known last : Meanings) → Grows known (over known last)
grows_over known last n v is = ap (λ o. if_none o (last n)) is

defined_itself : (name : ℕ) (a b : Option ℕ) → (if nat_eq name name then a else b) ≡ a
defined_itself name a b = grind (arith, nat_tests)

-- a name that `=` defines takes its value
value_takes : (fixed : ℕ → Bool) (known last : Meanings) (place name : ℕ) (e : List Part) (w : ℕ) → body_fault fixed known place (Define name e) ≡ None → value_of known place e ≡ Some w
    → IsKnown last name → ((v : ℕ) → permanent name ≡ Some v → (fixed name ≡ true) × (known name ≡ Some v)) → Takes (over known last) name w
value_takes fixed known last place name e w none gives defined kept = by_permanent (permanent name) refl
  where
    by_permanent : (value : Option ℕ) → permanent name ≡ value → Takes (over known last) name w
    by_permanent None is = inl (is, known_over known last name defined)
    by_permanent (Some p) is =
        permanent_takes known last name w p (kept p is).1
        (same_number RD w p (kept_value fixed known place name e w p (kept p is).0 (kept p is).1 gives (second_none _ _ none)))

chosen_over : (test : Bool) (w : ℕ) (known last : Option ℕ) → (if test then Some w else if_none known last) ≡ if_none (if test then Some w else known) last
chosen_over true w known last = refl
chosen_over false w known last = refl

-- a body with no fault that is passed again
pub body_set : (fixed : ℕ → Bool) (known last : Meanings) (place : ℕ) (body : Body) → body_fault fixed known place body ≡ None
    → ((m : ℕ) → IsKnown (with_body known place body) m → IsKnown last m) → ((m v : ℕ) → permanent m ≡ Some v → (fixed m ≡ true) × (known m ≡ Some v))
    → (n : ℕ) → with_body_again (over known last) place body n ≡ if_none (with_body known place body n) (last n)
body_set fixed known last place Nothing none defined kept n = refl
body_set fixed known last place (Origin e) none defined kept n = refl
body_set fixed known last place (Define name e) none defined kept n =
    let value = valued known place e (first_none _ _ none) in
    let gives : value_of (over known last) place e ≡ Some value.0 = same_value known (over known last) place e (grows_over known last) (first_none _ _ none) ∙ value.1 in
    let there = defined name (value.0, defined_itself name (value_of known place e) (known name) ∙ value.1) in
    ap (λ o. with_again name o (over known last) n) gives
    ∙ again_sets (over known last) name value.0 n (value_takes fixed known last place name e value.0 none value.1 there (kept name))
    ∙ chosen_over (nat_eq name n) value.0 (known n) (last n) ∙ ap (λ o. if_none (if nat_eq name n then o else known n) (last n)) (sym value.1)
body_set fixed known last place Decimal none defined kept n = refl
body_set fixed known last place Pause none defined kept n = refl
body_set fixed known last place Octal none defined kept n = refl
body_set fixed known last place (Field e) none defined kept n = refl
body_set fixed known last place (Reference operation indirect address) none defined kept n = refl
body_set fixed known last place (Word e) none defined kept n = refl
