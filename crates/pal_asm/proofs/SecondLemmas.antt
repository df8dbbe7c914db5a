-- A statement more in the second pass.
use Rattle.std.proofs.Common.{Bool, ◌≡◌, ℕ, ◌+◌, ◌*◌, ◌%◌, true, false, if◌then◌else◌, Option, Some, None, Ok, Err, List, [], ◌∷◌, ◌++◌, refl, ap, sym, subst, ◌∙◌}
use Rattle.std.proofs.Math.Path.{fun_ext}
use Rattle.pal_sym.specs.Permanent.{permanent}
use Rattle.pal_sym.specs.SymbolTable.{SymbolTable}
use Rattle.pal_sym.specs.Values.{symbol_value, if_none}
use Rattle.pal_lex.specs.declared.phrases.Statement.{Statement}
use Rattle.pal_faults.specs.declared.assembling.Code.{Code}
use Rattle.pal_faults.specs.declared.assembling.Code.TheVariants.{NW}
use Rattle.pal_faults.specs.declared.assembling.AsmFault.{AsmFault}
use Rattle.pal_faults.specs.declared.assembling.AsmFault.TheVariants.{At}
use Rattle.pal_asm.specs.declared.spots.Spot.{Spot}
use Rattle.pal_asm.specs.Places.{Source, is_among, is_fixed_at, values, place_at, values_at, field_by, field_at}
use Rattle.pal_asm.specs.Words.{word_values, body_word, with_pair, pairs_by}
use Rattle.pal_asm.specs.Faults.{first_of, tags_fault, body_fault, at_line, first_order, last_line, word_fault}
use Rattle.pal_asm.specs.Progress.{Progress}
use Rattle.pal_asm.specs.PassSteps.{place_by, spot_fault, with_tags_again, with_body_again, IsMade}
use Rattle.pal_asm.specs.Passes.{second_values, with_handed, IsFirst, IsSecond, AnswersSecond}
use Rattle.pal_asm.proofs.PassLemmas.{progress, place_passed}
use Rattle.pal_asm.proofs.WholeLemmas.{IsKnown, first_none, second_none, or_right, tags_keep, no_fault_at, no_fault_before, permanent_kept, tag_to_whole, body_to_whole, same_place, same_field, goes_on, same_pair}
use Rattle.pal_asm.proofs.AgainLemmas.{grows_over, tags_set, body_set}

-- ## From the first pass to the second

-- before the first statement names stand for what they stand for at last
pub all_last : (whole : Source) → first_order whole ≡ None → values whole ≡ second_values whole []
all_last whole none = fun_ext (λ n. by_permanent n (permanent n) refl)
  where
    by_permanent : (n : ℕ) (fixed : Option ℕ) → permanent n ≡ fixed → values whole n ≡ if_none (permanent n) (values whole n)
    by_permanent n None e = ap (λ o. if_none o (values whole n)) (sym e)
    by_permanent n (Some v) e = (permanent_kept whole n v none e).1 ∙ ap (λ o. if_none o (values whole n)) (sym e)

pub turned : (whole : Source) (old : Progress) (again : Bool) (symbols : SymbolTable) (spot first : Spot) (line : ℕ) (failed : Option AsmFault)
    → progress again symbols spot line failed ≡ old → spot.word ≡ true → first ≡ record { location = 128; field = 0; word = false } → IsFirst old whole
    → IsSecond (progress true symbols first line failed) whole []
turned whole old again symbols spot first line failed is word begins passed = record {
  symbols = ap (λ p. symbol_value p.symbols) is ∙ passed.symbols ∙ all_last whole passed.no_fault;
  location = ap (λ (p : Spot). p.location) begins;
  field = ap (λ (p : Spot). p.field) begins;
  no_fault = passed.no_fault;
  has_word = ap (λ b. if b then None else Some (At NW (last_line whole))) (sym passed.word ∙ ap (λ (p : Progress). p.spot.word) (sym is) ∙ word);
  words = refl;
  pass = refl;
  goes_on = ap (λ (p : Progress). p.fault) is ∙ passed.goes_on;
}

-- ## A statement of a whole source with no fault of the first order

module _ (whole later older : Source) (s : Statement) (split : whole ≡ later ++ Ok s ∷ older) (none : first_order whole ≡ None) where
  here : first_order (later ++ Ok s ∷ older) ≡ None
  here = ap first_order (sym split) ∙ none

  fine : first_order (Ok s ∷ older) ≡ None
  fine = no_fault_before later (Ok s ∷ older) here

  tags_fine : tags_fault (values older) (place_at older) s.tags ≡ None
  tags_fine = first_none _ _ (no_fault_at s older fine)

  pub body_fine : body_fault (is_fixed_at s.tags older) (values_at s.tags older) (place_at older) s.body ≡ None
  body_fine = second_none _ _ (no_fault_at s older fine)

  -- a permanent name stands for its value
  kept : (n v : ℕ) → permanent n ≡ Some v → values older n ≡ Some v
  kept n v is = (permanent_kept older n v (first_none _ _ fine) is).1

  kept_at_body : (n v : ℕ) → permanent n ≡ Some v → (is_fixed_at s.tags older n ≡ true) × (values_at s.tags older n ≡ Some v)
  kept_at_body n v is =
      let before = permanent_kept older n v (first_none _ _ fine) is in
      (or_right (is_among s.tags n) _ before.0, tags_keep s.tags (place_at older) (values older) tags_fine n v before.1)

  -- the tags set again
  pub tags_passed : (n : ℕ) → with_tags_again s.tags (place_at older % 4096) (second_values whole older) n ≡ word_values (values whole) s.tags older n
  tags_passed =
      tags_set s.tags (place_at older) (values older) (values whole) tags_fine (λ n among. subst (λ w. IsKnown (values w) n) (sym split) (tag_to_whole later s older n here among)) kept

  -- the body passed again
  pub body_passed : (n : ℕ) → with_body_again (word_values (values whole) s.tags older) (place_at older) s.body n ≡ second_values whole (Ok s ∷ older) n
  body_passed =
      body_set (is_fixed_at s.tags older) (values_at s.tags older) (values whole) (place_at older) s.body body_fine
      (λ n is. subst (λ w. IsKnown (values w) n) (sym split) (body_to_whole later s older n here is)) kept_at_body

-- what names stand for at a body
at_body : (whole later older : Source) (s : Statement) (old : Progress) (again : Bool) (symbols middle : SymbolTable) (spot : Spot) (line : ℕ) (failed : Option AsmFault) (tags : List ℕ)
    → progress again symbols spot line failed ≡ old → tags ≡ s.tags → ((n : ℕ) → symbol_value middle n ≡ with_tags_again tags (spot.location % 4096) (symbol_value symbols) n)
    → whole ≡ later ++ Ok s ∷ older → IsSecond old whole older → symbol_value middle ≡ word_values (values whole) s.tags older
at_body whole later older s old again symbols middle spot line failed tags is same set split second =
    let names : symbol_value symbols ≡ second_values whole older = ap (λ p. symbol_value p.symbols) is ∙ second.symbols in
    let there : spot.location ≡ place_at older = ap (λ (p : Progress). p.spot.location) is ∙ second.location in
    fun_ext (λ n. set n ∙ ap (λ t. with_tags_again t (spot.location % 4096) (symbol_value symbols) n) same
    ∙ ap (λ k. with_tags_again s.tags (spot.location % 4096) k n) names ∙ ap (λ p. with_tags_again s.tags (p % 4096) (second_values whole older) n) there
    ∙ tags_passed whole later older s split second.no_fault n)

pub second_more : (whole later older : Source) (s : Statement) (old : Progress) (again : Bool) (symbols middle new : SymbolTable) (spot next : Spot) (line : ℕ) (failed : Option AsmFault) (tags : List ℕ) (pair : Option (ℕ × ℕ))
    → progress again symbols spot line failed ≡ old → tags ≡ s.tags → ((n : ℕ) → symbol_value middle n ≡ with_tags_again tags (spot.location % 4096) (symbol_value symbols) n)
    → IsMade (symbol_value middle) new spot next s.body pair → whole ≡ later ++ Ok s ∷ older → IsSecond old whole older
    → (pairs_by (values whole) (Ok s ∷ older) ≡ with_handed (pairs_by (values whole) older) pair) × IsSecond (progress again new next line failed) whole (Ok s ∷ older)
second_more whole later older s old again symbols middle new spot next line failed tags pair is same set made split second =
    let names : symbol_value middle ≡ word_values (values whole) s.tags older = at_body whole later older s old again symbols middle spot line failed tags is same set split second in
    let there : spot.location ≡ place_at older = ap (λ (p : Progress). p.spot.location) is ∙ second.location in
    let in_field : spot.field ≡ field_at older = ap (λ (p : Progress). p.spot.field) is ∙ second.field in
    let fine = body_fine whole later older s split second.no_fault in
    let grows = grows_over (values_at s.tags older) (values whole) in
    let known = word_values (values whole) s.tags older in
    let before = pairs_by (values whole) older in (
      ap (λ p. with_pair before (4096 * field_at older + p) (body_word known p s.body)) (sym there)
          ∙ ap (λ f. with_pair before (4096 * f + spot.location) (body_word known spot.location s.body)) (sym in_field)
          ∙ ap (λ k. with_pair before (4096 * spot.field + spot.location) (body_word k spot.location s.body)) (sym names)
          ∙ same_pair (symbol_value middle) before spot s.body made.no_spot_fault
          ∙ ap (with_handed before) (sym made.handed),
      record {
        symbols = fun_ext (λ n. made.values n ∙ ap (λ k. with_body_again k spot.location s.body n) names ∙ ap (λ p. with_body_again known p s.body n) there
            ∙ body_passed whole later older s split second.no_fault n);
        location = ap (λ (p : Spot). p.location) made.moved ∙ ap (λ k. place_by k spot.location s.body) names ∙ ap (λ p. place_by known p s.body) there
            ∙ same_place (is_fixed_at s.tags older) (values_at s.tags older) known (place_at older) s.body grows fine ∙ sym (place_passed s older);
        field = ap (λ (p : Spot). p.field) made.moved ∙ ap (λ k. field_by k spot.location s.body spot.field) names
            ∙ ap (λ p. field_by known p s.body spot.field) there ∙ ap (field_by known (place_at older) s.body) in_field
            ∙ same_field (is_fixed_at s.tags older) (values_at s.tags older) known (place_at older) s.body (field_at older) grows fine;
        no_fault = second.no_fault;
        has_word = second.has_word;
        words = ap (λ f. first_of f (at_line s.line (word_fault known (place_at older) s.body))) second.words
            ∙ ap (at_line s.line) (ap (λ p. word_fault known p s.body) (sym there) ∙ ap (λ k. word_fault k spot.location s.body) (sym names) ∙ made.no_word_fault);
        pass = ap (λ (p : Progress). p.is_second) is ∙ second.pass;
        goes_on = ap (λ (p : Progress). p.fault) is ∙ second.goes_on;
      },
    )

without_second : (a b : Option Code) (code : Code) → b ≡ None → first_of a b ≡ Some code → a ≡ Some code
without_second None b code none e = sym none ∙ e
without_second (Some a) b code none e = e

pub second_fault_more : (whole later older : Source) (s : Statement) (old after : Progress) (again : Bool) (symbols middle : SymbolTable) (spot : Spot) (line : ℕ) (failed : Option AsmFault) (tags : List ℕ) (code : Code) (fault : AsmFault)
    → progress again symbols spot line failed ≡ old → tags ≡ s.tags → ((n : ℕ) → symbol_value middle n ≡ with_tags_again tags (spot.location % 4096) (symbol_value symbols) n)
    → first_of (word_fault (symbol_value middle) spot.location s.body) (spot_fault (symbol_value middle) spot.location s.body) ≡ Some code
    → fault ≡ At code s.line → after.fault ≡ Some (At code s.line) → whole ≡ later ++ Ok s ∷ older → IsSecond old whole older
    → AnswersSecond whole older s (Err fault) old after
second_fault_more whole later older s old after again symbols middle spot line failed tags code fault is same set told named kept split second =
    let names : symbol_value middle ≡ word_values (values whole) s.tags older = at_body whole later older s old again symbols middle spot line failed tags is same set split second in
    let there : spot.location ≡ place_at older = ap (λ (p : Progress). p.spot.location) is ∙ second.location in
    let fine = body_fine whole later older s split second.no_fault in
    let grows = grows_over (values_at s.tags older) (values whole) in
    let known = word_values (values whole) s.tags older in
    let on : spot_fault (symbol_value middle) spot.location s.body ≡ None =
    ap (λ k. spot_fault k spot.location s.body) names ∙ ap (λ p. spot_fault known p s.body) there
    ∙ goes_on (is_fixed_at s.tags older) (values_at s.tags older) known (place_at older) s.body grows fine in
    subst (λ f. AnswersSecond whole older s (Err f) old after) (sym named) (
      ap (λ f. first_of f (at_line s.line (word_fault known (place_at older) s.body))) second.words
          ∙ ap (at_line s.line) (ap (λ p. word_fault known p s.body) (sym there) ∙ ap (λ k. word_fault k spot.location s.body) (sym names)
          ∙ without_second _ _ code on told),
      kept,
    )
