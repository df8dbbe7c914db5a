-- What names stand for, one statement at a time.
use Rattle.std.proofs.Common.{◌≡◌, ℕ, ◌+◌, ◌-◌, ◌≤◌, min, cond, nat_eq, nat_lt, Bool, true, false, if◌then◌else◌, Option, Some, None, Ok, length, get_or, take, drop, List, [], ◌∷◌, refl, ap, sym, ◌∙◌, suc, arith}
use Rattle.std.proofs.lemmas.List.{take_all}
use Rattle.std.proofs.lemmas.Bool.Decides.{nat_tests}
use Rattle.std.proofs.lemmas.Grind.{common_steps}
use Rattle.std.proofs.Math.Path.{fun_ext}
use Rattle.std.specs.Ordering.{nat_cmp, is_eq}
use Rattle.std.specs.BTreeMap.{BTreeMap, Updates}
use Rattle.pal_sym.specs.Permanent.{permanent}
use Rattle.pal_sym.specs.Values.{if_none}
use Rattle.pal_lex.specs.declared.pieces.Term.{Term}
use Rattle.pal_lex.specs.declared.pieces.Term.TheVariants.{Name, Number, Here}
use Rattle.pal_lex.specs.declared.phrases.Part.{Part}
use Rattle.pal_lex.specs.declared.phrases.Body.{Body}
use Rattle.pal_lex.specs.declared.phrases.Body.TheVariants.{Nothing, Origin, Define, Decimal, Octal, Pause, Field, Reference, Word}
use Rattle.pal_lex.specs.declared.phrases.Statement.{Statement}
use Rattle.pal_faults.specs.declared.assembling.Code.{Code}
use Rattle.pal_faults.specs.declared.assembling.Code.TheVariants.{PF}
use Rattle.pal_asm.specs.Expressions.{Meanings, term_value, join_values, joined_values, value_after, value_of}
use Rattle.pal_asm.specs.Places.{Source, set_by, sets_location, is_word, with_tags as tag_values, with_body as body_values, place_at, last_setting, words_since, values, values_at, is_fixed_at}
use Rattle.pal_asm.specs.Faults.{first_of, past, fault_of_name, term_fault, terms_fault, body_fault, tags_fault, statement_fault, at_line, first_order}
use Rattle.pal_asm.proofs.NameLemmas.{swapped}
use Rattle.host_sources.specs.Symbols.{with_tags, with_body, symbols_of, meaning_in, Follows}
use Rattle.host_sources.specs.NameSteps.{values_by, place_by}
use Rattle.host_sources.proofs.PauseLemmas.{none_some}

-- what stands after the first of a list
abbrev pub following_one : {A : Type 0} → List A → List A
following_one l = take (length l - 1) (drop 1 l)

less_one : (n : ℕ) → suc n - 1 ≡ n
less_one n = omega arith

pub first_of_rest : {A : Type 0} (rest : List A) (none : A) → 1 ≤ length rest → rest ≡ get_or rest 0 none ∷ following_one rest
first_of_rest [] none long = absurd (omega (arith, long))
first_of_rest (x ∷ others) none long = ap (λ l. x ∷ l) (sym (ap (λ n. take n others) (less_one (length others)) ∙ take_all (length others) others (omega arith)))

pub first_one : {A : Type 0} (l : List A) (a : A) → 1 ≤ length l → a ≡ get_or l 0 a → l ≡ a ∷ following_one l
first_one l a long first = first_of_rest l a long ∙ ap (λ x. x ∷ following_one l) (sym first)

-- ## Expressions

none_stays : (names : Meanings) (place : ℕ) (parts : List Part) → value_after names place None parts ≡ None
none_stays names place [] = refl
none_stays names place (part ∷ others) = none_stays names place others

pub value_none : (names : Meanings) (place value : ℕ) (rest : List Part) (part : Part) → 1 ≤ length rest → part ≡ get_or rest 0 part → None ≡ term_value names place part.term
    → None ≡ value_after names place (Some value) rest
value_none names place value [] part long is none = absurd (omega arith)
value_none names place value (p ∷ others) part long is none =
    sym
    (ap (λ t. value_after names place (joined_values p.joint (Some value) t) others) (ap (λ (q : Part). term_value names place q.term) (sym is) ∙ sym none)
    ∙ none_stays names place others)

-- ## Tags

-- a name stands for a place, the others for what they stood for
abbrev pub Adds : ℕ → ℕ → Meanings → Meanings → Type 0
Adds tag place old new = (n : ℕ) → new n ≡ (if nat_eq tag n then Some place else old n)

pub with_tag_more : (tags : List ℕ) (tag place : ℕ) (old new : Meanings) → Adds tag place old new → (n : ℕ) → tag_values tags place new n ≡ tag_values (tag ∷ tags) place old n
with_tag_more [] tag place old new adds n = adds n
with_tag_more (t ∷ tags) tag place old new adds n =
    ap (λ v. if nat_eq t n then Some place else v) (with_tag_more tags tag place old new adds n)
    ∙ swapped (nat_eq tag n) (nat_eq t n) (Some place) (tag_values tags place old n)

same_test : (a b : ℕ) → is_eq (nat_cmp a b) ≡ nat_eq a b
same_test a b = grind (arith, common_steps, nat_tests)

by_test : (test same : Bool) (place : ℕ) (before fixed : Option ℕ) → test ≡ same
    → if_none (cond test (Some place) before) fixed ≡ (if same then Some place else if_none before fixed)
by_test true true place before fixed e = refl
by_test false false place before fixed e = refl
by_test true false place before fixed e = cc
by_test false true place before fixed e = cc

pub added : (tag place : ℕ) (old new : BTreeMap ℕ ℕ) → Updates nat_cmp old new tag (Some place) → Adds tag place (meaning_in old) (meaning_in new)
added tag place old new updates n = ap (λ o. if_none o (permanent n)) (updates.0 n) ∙ by_test (is_eq (nat_cmp tag n)) (nat_eq tag n) place _ (permanent n) (same_test tag n)

-- ## A statement with no fault

pub first_none : {A : Type 0} (a b : Option A) → first_of a b ≡ None → (a ≡ None) × (b ≡ None)
first_none None b e = (refl, e)
first_none (Some x) b e = cc

pub line_none : (line : ℕ) (code : Option Code) → at_line line code ≡ None → code ≡ None
line_none line None e = refl
line_none line (Some code) e = cc

pub fine_body : (s : Statement) (older : Source) → first_order (Ok s ∷ older) ≡ None
    → body_fault (is_fixed_at s.tags older) (values_at s.tags older) (place_at older) s.body ≡ None
fine_body s older none =
    let fault = line_none s.line (statement_fault s older) (first_none (first_order older) (at_line s.line (statement_fault s older)) none).1 in
    (first_none (tags_fault (values older) (place_at older) s.tags) (body_fault (is_fixed_at s.tags older) (values_at s.tags older) (place_at older) s.body) fault).1

term_some : (names : Meanings) (place : ℕ) (term : Term) → term_fault names place term ≡ None → (v : ℕ) × (term_value names place term ≡ Some v)
term_some names place (Name n) e = by_value (names n) refl e
  where
    by_value : (value : Option ℕ) → names n ≡ value → term_fault names place (Name n) ≡ None → (v : ℕ) × (names n ≡ Some v)
    by_value (Some v) is e = (v, is)
    by_value None is e = none_some (sym e ∙ ap fault_of_name is)
term_some names place (Number n) e = (n, refl)
term_some names place Here e = (place, refl)

pub value_some : (names : Meanings) (place before : ℕ) (parts : List Part) → terms_fault names place parts ≡ None → (v : ℕ) × (value_after names place (Some before) parts ≡ Some v)
value_some names place before [] e = (before, refl)
value_some names place before (part ∷ others) e =
    let faults = first_none (term_fault names place part.term) (terms_fault names place others) e in
    let term = term_some names place part.term faults.0 in
    let later = value_some names place (join_values part.joint before term.0) others faults.1 in
    (later.0, ap (λ t. value_after names place (joined_values part.joint (Some before) t) others) term.1 ∙ later.1)

chosen : (test : Bool) (v : ℕ) (value before : Option ℕ) → value ≡ Some v → (if test then if_none value before else before) ≡ (if test then value else before)
chosen true v value before e = ap (λ o. if_none o before) e ∙ sym e
chosen false v value before e = refl

pub same_values : (fixed : ℕ → Bool) (names : Meanings) (place : ℕ) (body : Body) (n : ℕ) → body_fault fixed names place body ≡ None → values_by names place body n ≡ body_values names place body n
same_values fixed names place Nothing n e = refl
same_values fixed names place (Origin x) n e = refl
same_values fixed names place (Define name x) n e =
    let some = value_some names place 0 x (first_none (terms_fault names place x) _ e).0 in
    chosen (nat_eq name n) some.0 (value_of names place x) (names n) some.1
same_values fixed names place Decimal n e = refl
same_values fixed names place Octal n e = refl
same_values fixed names place Pause n e = refl
same_values fixed names place (Field x) n e = refl
same_values fixed names place (Reference operation indirect address) n e = refl
same_values fixed names place (Word x) n e = refl

below_past : (place : ℕ) → past place ≡ None → place ≤ 4095
below_past place e = by_lt (nat_lt 4095 place) refl e
  where
    by_lt : (test : Bool) → nat_lt 4095 place ≡ test → past place ≡ None → place ≤ 4095
    by_lt false is e = grind (arith, nat_tests)
    by_lt true is e = none_some (sym e ∙ ap (λ (t : Bool). if t then Some PF else None) is)

next_place : (setting words : ℕ) → past (setting + words) ≡ None → min (setting + words + 1) 65535 ≡ setting + (1 + words)
next_place setting words e = let bound = below_past (setting + words) e in omega (arith, bound)

same_place : (s : Statement) (older : Source) (body : Body) → body_fault (is_fixed_at s.tags older) (values_at s.tags older) (place_at older) body ≡ None
    → place_by (values_at s.tags older) (place_at older) body
    ≡ set_by (values_at s.tags older) (place_at older) body (last_setting older) + (if sets_location body then 0 else ((if is_word body then 1 else 0) + words_since older))
same_place s older Nothing e = omega arith
same_place s older (Origin x) e = omega arith
same_place s older (Define name x) e = omega arith
same_place s older Decimal e = omega arith
same_place s older Octal e = omega arith
same_place s older Pause e = omega arith
same_place s older (Field x) e = omega arith
same_place s older (Reference operation indirect address) e = next_place (last_setting older) (words_since older) e
same_place s older (Word x) e = next_place (last_setting older) (words_since older) e

-- what names stand for at the body of a statement with these tags
pub tagged_names : (tags : List ℕ) (older : Source) (old middle : BTreeMap ℕ ℕ) (place : ℕ) → Follows old place older → ((n : ℕ) → meaning_in middle n ≡ tag_values tags place (meaning_in old) n)
    → meaning_in middle ≡ values_at tags older
tagged_names tags older old middle place follows tagged =
    fun_ext (λ n. tagged n ∙ ap (λ k. tag_values tags place k n) (fun_ext follows.values) ∙ ap (λ p. tag_values tags p (values older) n) follows.at)

pub follows_on : (s : Statement) (older : Source) (old middle new : BTreeMap ℕ ℕ) (place next : ℕ) → Follows old place older → first_order (Ok s ∷ older) ≡ None
    → ((n : ℕ) → meaning_in middle n ≡ tag_values s.tags place (meaning_in old) n) → middle.entries ≡ with_tags old.entries s.tags place
    → ((n : ℕ) → meaning_in new n ≡ values_by (meaning_in middle) place s.body n) → new.entries ≡ with_body middle.entries (meaning_in middle) place s.body
    → next ≡ place_by (meaning_in middle) place s.body → Follows new next (Ok s ∷ older)
follows_on s older old middle new place next follows fine tagged tag_entries valued value_entries goes =
    let names = tagged_names s.tags older old middle place follows tagged in
    let body = fine_body s older fine in
    record {
      values = λ n. valued n ∙ ap (λ k. values_by k place s.body n) names ∙ ap (λ p. values_by (values_at s.tags older) p s.body n) follows.at
          ∙ same_values (is_fixed_at s.tags older) (values_at s.tags older) (place_at older) s.body n body;
      entries = value_entries ∙ ap (λ k. with_body middle.entries k place s.body) names ∙ ap (λ p. with_body middle.entries (values_at s.tags older) p s.body) follows.at
          ∙ ap (λ l. with_body l (values_at s.tags older) (place_at older) s.body)
          (tag_entries ∙ ap (λ l. with_tags l s.tags place) follows.entries ∙ ap (λ p. with_tags (symbols_of older) s.tags p) follows.at);
      at = goes ∙ ap (λ k. place_by k place s.body) names ∙ ap (λ p. place_by (values_at s.tags older) p s.body) follows.at ∙ same_place s older s.body body;
    }
