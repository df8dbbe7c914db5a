-- A statement more in the first pass.
use Rattle.std.proofs.Common.{◌≡◌, ℕ, ◌+◌, Bool, true, ◌||◌, if◌then◌else◌, Option, Some, None, Result, Ok, Err, List, ◌∷◌, refl, ap, sym, subst, ◌∙◌, arith}
use Rattle.std.proofs.Math.Path.{fun_ext}
use Rattle.pal_sym.specs.SymbolTable.{SymbolTable}
use Rattle.pal_sym.specs.Values.{symbol_value, is_fixed as fixed_in, HasRoom}
use Rattle.pal_lex.specs.declared.phrases.Body.{Body}
use Rattle.pal_lex.specs.declared.phrases.Body.TheVariants.{Nothing, Origin, Define, Decimal, Octal, Pause, Field, Reference, Word}
use Rattle.pal_lex.specs.declared.phrases.Statement.{Statement}
use Rattle.pal_faults.specs.declared.assembling.Code.{Code}
use Rattle.pal_faults.specs.declared.assembling.AsmFault.{AsmFault}
use Rattle.pal_faults.specs.declared.assembling.AsmFault.TheVariants.{At}
use Rattle.pal_asm.specs.declared.spots.Spot.{Spot}
use Rattle.pal_asm.specs.Expressions.{Meanings}
use Rattle.pal_asm.specs.Places.{Source, is_word, sets_location, words_since, set_by, with_tags, with_body, is_among, is_fixed, is_fixed_at, last_setting, values, place_at, values_at, field_by}
use Rattle.pal_asm.specs.Faults.{first_of, tags_fault, body_fault, statement_fault, at_line}
use Rattle.pal_asm.specs.Progress.{Progress}
use Rattle.pal_asm.specs.PassSteps.{place_by, spot_by, AreDefined, PassesBody, IsRead, ReadsStatement, fault_by_table, meanings_at_body, is_fixed_at_body}
use Rattle.pal_asm.specs.Passes.{IsFirst, AnswersFirst}

place_step : (known : Meanings) (body : Body) (setting words : ℕ)
    → set_by known (setting + words) body setting + (if sets_location body then 0 else ((if is_word body then 1 else 0) + words))
    ≡ place_by known (setting + words) body
place_step known Nothing setting words = omega arith
place_step known (Origin e) setting words = omega arith
place_step known (Define name e) setting words = omega arith
place_step known Decimal setting words = omega arith
place_step known Pause setting words = omega arith
place_step known Octal setting words = omega arith
place_step known (Field e) setting words = omega arith
place_step known (Reference operation indirect address) setting words = omega arith
place_step known (Word e) setting words = omega arith

-- the place after a statement
pub place_passed : (s : Statement) (older : Source) → place_at (Ok s ∷ older) ≡ place_by (values_at s.tags older) (place_at older) s.body
place_passed s older = place_step (values_at s.tags older) s.body (last_setting older) (words_since older)

-- the fault of tags and a body that has none before the body
body_left : (tags : List ℕ) (body : Body) (spot : Spot) (old middle : SymbolTable) → AreDefined tags spot.location old middle
    → fault_by_table tags body spot.location old ≡ body_fault (fixed_in middle) (symbol_value middle) spot.location body
body_left tags body spot old middle defined =
    ap (λ f. first_of f (body_fault (is_fixed_at_body tags old) (meanings_at_body tags spot.location old) spot.location body)) defined.no_fault
    ∙ ap (λ f. body_fault f (meanings_at_body tags spot.location old) spot.location body) (sym (fun_ext defined.fixed))
    ∙ ap (λ k. body_fault (fixed_in middle) k spot.location body) (sym (fun_ext defined.values))

-- the tags and then the body
pub tags_then_body : (tags : List ℕ) (body : Body) (spot : Spot) (old middle new : SymbolTable) (result : Result Spot Code)
    → AreDefined tags spot.location old middle → PassesBody body spot middle new result → ReadsStatement tags body spot old new result
tags_then_body tags body spot old middle new (Ok next) defined passed =
    let same : symbol_value middle ≡ meanings_at_body tags spot.location old = fun_ext defined.values in
    record {
      no_fault = body_left tags body spot old middle defined ∙ passed.no_fault;
      values = λ n. passed.values n ∙ ap (λ k. with_body k spot.location body n) same;
      fixed = λ n. passed.fixed n ∙ defined.fixed n;
      moved = passed.moved ∙ ap (λ k. spot_by k body spot) same;
    }
tags_then_body tags body spot old middle new (Err code) defined passed = body_left tags body spot old middle defined ∙ passed

-- the fault of a statement, by a table that stands for the names before it
pub same_fault : (s : Statement) (older : Source) (place : ℕ) (old : SymbolTable) → symbol_value old ≡ values older → fixed_in old ≡ is_fixed older → place ≡ place_at older
    → statement_fault s older ≡ fault_by_table s.tags s.body place old
same_fault s older place old names fixed there =
    ap (λ k. first_of (tags_fault k (place_at older) s.tags) (body_fault (is_fixed_at s.tags older) (with_tags s.tags (place_at older) k) (place_at older) s.body)) (sym names)
    ∙ ap (λ (f : ℕ → Bool). first_of (tags_fault (symbol_value old) (place_at older) s.tags)
    (body_fault (λ n. is_among s.tags n || f n) (with_tags s.tags (place_at older) (symbol_value old)) (place_at older) s.body)) (sym fixed)
    ∙ ap (λ p. fault_by_table s.tags s.body p old) (sym there)

-- an assembler of these parts
abbrev pub progress : Bool → SymbolTable → Spot → ℕ → Option AsmFault → Progress
progress again symbols spot line failed = record { symbols = symbols; spot = spot; is_second = again; line = line; fault = failed }

-- a statement more, which has no fault
pub first_more : (s : Statement) (older : Source) (old : Progress) (n line : ℕ) (again : Bool) (symbols roomed new : SymbolTable) (spot next : Spot) (failed : Option AsmFault) (tags : List ℕ)
    → progress again symbols spot line failed ≡ old → tags ≡ s.tags → HasRoom n symbols roomed → IsRead tags s.body spot roomed new next → IsFirst old older
    → IsFirst (progress again new next s.line failed) (Ok s ∷ older)
first_more s older old n line again symbols roomed new spot next failed tags is same room read first =
    let names : symbol_value roomed ≡ values older = fun_ext room.values ∙ ap (λ p. symbol_value p.symbols) is ∙ first.symbols in
    let fixed : fixed_in roomed ≡ is_fixed older = fun_ext room.fixed ∙ ap (λ p. fixed_in p.symbols) is ∙ first.fixed in
    let there : spot.location ≡ place_at older = ap (λ (p : Progress). p.spot.location) is ∙ first.location in
    let known : meanings_at_body tags spot.location roomed ≡ values_at s.tags older =
    ap (λ t. meanings_at_body t spot.location roomed) same ∙ ap (λ k. with_tags s.tags spot.location k) names ∙ ap (λ p. with_tags s.tags p (values older)) there in
    record {
      symbols = fun_ext (λ n. read.values n ∙ ap (λ k. with_body k spot.location s.body n) known ∙ ap (λ p. with_body (values_at s.tags older) p s.body n) there);
      fixed = fun_ext (λ n. read.fixed n ∙ ap (λ t. is_fixed_at_body t roomed n) same ∙ ap (λ (f : ℕ → Bool). is_among s.tags n || f n) fixed);
      location = ap (λ (p : Spot). p.location) read.moved ∙ ap (λ k. place_by k spot.location s.body) known
          ∙ ap (λ p. place_by (values_at s.tags older) p s.body) there ∙ sym (place_passed s older);
      field = ap (λ (p : Spot). p.field) read.moved ∙ ap (λ k. field_by k spot.location s.body spot.field) known
          ∙ ap (λ p. field_by (values_at s.tags older) p s.body spot.field) there
          ∙ ap (field_by (values_at s.tags older) (place_at older) s.body) (ap (λ (p : Progress). p.spot.field) is ∙ first.field);
      word = ap (λ (p : Spot). p.word) read.moved ∙ ap (λ w. if is_word s.body then true else w) (ap (λ (p : Progress). p.spot.word) is ∙ first.word);
      line = refl;
      no_fault = ap (λ f. first_of f (at_line s.line (statement_fault s older))) first.no_fault
          ∙ ap (at_line s.line) (same_fault s older spot.location roomed names fixed there ∙ ap (λ t. fault_by_table t s.body spot.location roomed) (sym same) ∙ read.no_fault);
      pass = ap (λ (p : Progress). p.is_second) is ∙ first.pass;
      goes_on = ap (λ (p : Progress). p.fault) is ∙ first.goes_on;
    }

-- tags that have no fault by a table that stands for the names before them
pub tags_judged : (s : Statement) (older : Source) (old : Progress) (line : ℕ) (again : Bool) (symbols : SymbolTable) (spot : Spot) (failed : Option AsmFault) (tags : List ℕ)
    → progress again symbols spot line failed ≡ old → tags ≡ s.tags → tags_fault (symbol_value symbols) spot.location tags ≡ None → IsFirst old older
    → tags_fault (values older) (place_at older) s.tags ≡ None
tags_judged s older old line again symbols spot failed tags is same none first =
    ap (tags_fault (values older) (place_at older)) (sym same)
    ∙ ap (λ k. tags_fault k (place_at older) tags) (sym (ap (λ p. symbol_value p.symbols) is ∙ first.symbols))
    ∙ ap (λ p. tags_fault (symbol_value symbols) p tags) (sym (ap (λ (p : Progress). p.spot.location) is ∙ first.location)) ∙ none

-- the table as it stands
pub same_room : (symbols : SymbolTable) → HasRoom 0 symbols symbols
same_room symbols = record { values = λ n. refl; fixed = λ n. refl; enough = omega arith; kept = omega arith }

-- a statement more, which has a fault
pub first_fault_more : (s : Statement) (older : Source) (old after : Progress) (n line : ℕ) (again : Bool) (symbols roomed : SymbolTable) (spot : Spot) (failed : Option AsmFault) (tags : List ℕ) (code : Code) (fault : AsmFault)
    → progress again symbols spot line failed ≡ old → tags ≡ s.tags → HasRoom n symbols roomed → fault_by_table tags s.body spot.location roomed ≡ Some code
    → fault ≡ At code s.line → after.fault ≡ Some (At code s.line) → IsFirst old older → AnswersFirst older s (Err fault) old after
first_fault_more s older old after n line again symbols roomed spot failed tags code fault is same room told named kept first =
    let names : symbol_value roomed ≡ values older = fun_ext room.values ∙ ap (λ p. symbol_value p.symbols) is ∙ first.symbols in
    let fixed : fixed_in roomed ≡ is_fixed older = fun_ext room.fixed ∙ ap (λ p. fixed_in p.symbols) is ∙ first.fixed in
    let there : spot.location ≡ place_at older = ap (λ (p : Progress). p.spot.location) is ∙ first.location in
    subst (λ f. AnswersFirst older s (Err f) old after) (sym named) (
      ap (λ f. first_of f (at_line s.line (statement_fault s older))) first.no_fault
          ∙ ap (at_line s.line) (same_fault s older spot.location roomed names fixed there ∙ ap (λ t. fault_by_table t s.body spot.location roomed) (sym same) ∙ told),
      kept,
    )
