-- The values of symbols.
use Rattle.std.proofs.Common.{◌≡◌, ℕ, nat_eq, Bool, true, false, cond, if◌then◌else◌, Option, Some, None, Ok, Err, List, [], ◌∷◌, refl, ap, sym, ◌∙◌, arith}
use Rattle.std.proofs.lemmas.Bool.Decides.{nat_tests}
use Rattle.std.proofs.lemmas.Grind.{common_steps}
use Rattle.std.proofs.Math.Path.{fun_ext}
use Rattle.std.specs.declared.cmp.Ordering.{Ordering}
use Rattle.std.specs.declared.cmp.Ordering.TheVariants.{Less, Equal, Greater}
use Rattle.std.specs.Ordering.{nat_cmp, is_eq, match_ordering}
use Rattle.std.specs.Map.{lookup}
use Rattle.std.specs.BTreeMap.{is_at, insert_entry}
use Rattle.pal_sym.specs.Permanent.{permanent}
use Rattle.pal_sym.specs.Values.{if_none}
use Rattle.pal_lex.specs.Statements.{statements}
use Rattle.pal_lex.specs.declared.phrases.Body.{Body}
use Rattle.pal_lex.specs.declared.phrases.Body.TheVariants.{Nothing, Origin, Define, Decimal, Octal, Pause, Field, Reference, Word}
use Rattle.pal_asm.specs.Expressions.{value_of}
use Rattle.pal_asm.specs.Places.{Source, with_tags as tag_values, place_at, values, values_at, is_fixed_at}
use Rattle.pal_asm.specs.Faults.{first_of, at_line, statement_fault, first_order, words_fault, no_end, no_word}
use Rattle.pal_faults.specs.Faults.{lexical}
use Rattle.host_sources.specs.Sources.{newest_first}
use Rattle.host_sources.specs.Symbols.{Entries, with_value, with_tags, with_body, symbols_of}
use Rattle.host_sources.specs.NameSteps.{values_by}
use Rattle.host_sources.specs.Laws.{value_by, SymbolsHaveLastValues}
use Rattle.host_sources.proofs.PauseLemmas.{none_some}
use Rattle.host_sources.proofs.NameLemmas.{with_tag_more, same_values, fine_body, first_none}

-- ## One more entry

same_at : (q k : ℕ) → is_eq (nat_cmp q k) ≡ nat_eq k q
same_at q k = grind (arith, common_steps, nat_tests)

equal_is : (a b : ℕ) → nat_cmp a b ≡ Equal → a ≡ b
equal_is a b e = grind (arith, common_steps, nat_tests)

apart : (k e q : ℕ) → nat_cmp k e ≡ Greater → is_eq (nat_cmp q e) ≡ true → nat_eq k q ≡ true → ⊥
apart k e q above at same = grind (arith, common_steps, nat_tests)

at_new : (t u : Bool) (v : ℕ) (o : Option ℕ) → t ≡ u → cond t (Some v) o ≡ (if u then Some v else o)
at_new true true v o e = refl
at_new false false v o e = refl
at_new true false v o e = cc
at_new false true v o e = cc

at_equal : (t u : Bool) (v w : ℕ) (o : Option ℕ) → t ≡ u → cond t (Some v) o ≡ (if u then Some v else cond t (Some w) o)
at_equal true true v w o e = refl
at_equal false false v w o e = refl
at_equal true false v w o e = cc
at_equal false true v w o e = cc

at_greater : (t u : Bool) (v w : ℕ) (o : Option ℕ) → (t ≡ true → u ≡ true → ⊥) → cond t (Some w) (if u then Some v else o) ≡ (if u then Some v else cond t (Some w) o)
at_greater true true v w o e = absurd (e refl refl)
at_greater false true v w o e = refl
at_greater true false v w o e = refl
at_greater false false v w o e = refl

lookup-insert : (es : Entries) (k v q : ℕ) → lookup (is_at (nat_cmp q)) (insert_entry nat_cmp es k v) ≡ (if nat_eq k q then Some v else lookup (is_at (nat_cmp q)) es)
lookup-insert [] k v q = at_new (is_eq (nat_cmp q k)) (nat_eq k q) v None (same_at q k)
lookup-insert (e ∷ es) k v q = by_order (nat_cmp k e.0) refl (lookup-insert es k v q)
  where
    by_order : (r : Ordering) → nat_cmp k e.0 ≡ r → lookup (is_at (nat_cmp q)) (insert_entry nat_cmp es k v) ≡ (if nat_eq k q then Some v else lookup (is_at (nat_cmp q)) es)
        → lookup (is_at (nat_cmp q)) (match_ordering r ((k, v) ∷ e ∷ es) ((e.0, v) ∷ es) (e ∷ insert_entry nat_cmp es k v))
        ≡ (if nat_eq k q then Some v else cond (is_eq (nat_cmp q e.0)) (Some e.1) (lookup (is_at (nat_cmp q)) es))
    by_order Less is before = at_new (is_eq (nat_cmp q k)) (nat_eq k q) v (cond (is_eq (nat_cmp q e.0)) (Some e.1) (lookup (is_at (nat_cmp q)) es)) (same_at q k)
    by_order Equal is before =
        at_equal (is_eq (nat_cmp q e.0)) (nat_eq k q) v e.1 (lookup (is_at (nat_cmp q)) es) (same_at q e.0 ∙ ap (λ n. nat_eq n q) (sym (equal_is k e.0 is)))
    by_order Greater is before =
        ap (λ o. cond (is_eq (nat_cmp q e.0)) (Some e.1) o) before
        ∙ at_greater (is_eq (nat_cmp q e.0)) (nat_eq k q) v e.1 (lookup (is_at (nat_cmp q)) es) (λ at same. apart k e.0 q is at same)

through : (test : Bool) (v : ℕ) (o fixed : Option ℕ) → if_none (if test then Some v else o) fixed ≡ (if test then Some v else if_none o fixed)
through true v o fixed = refl
through false v o fixed = refl

one_more : (es : Entries) (k v n : ℕ) → value_by (insert_entry nat_cmp es k v) n ≡ (if nat_eq k n then Some v else value_by es n)
one_more es k v n = ap (λ o. if_none o (permanent n)) (lookup-insert es k v n) ∙ through (nat_eq k n) v (lookup (is_at (nat_cmp n)) es) (permanent n)

-- ## One statement

tagged : (es : Entries) (tags : List ℕ) (place n : ℕ) → value_by (with_tags es tags place) n ≡ tag_values tags place (value_by es) n
tagged es [] place n = refl
tagged es (tag ∷ tags) place n =
    tagged (insert_entry nat_cmp es tag place) tags place n
    ∙ with_tag_more tags tag place (value_by es) (value_by (insert_entry nat_cmp es tag place)) (λ m. one_more es tag place m) n

same_either : (test : Bool) (o : Option ℕ) → o ≡ (if test then o else o)
same_either true o = refl
same_either false o = refl

valued_by : (es : Entries) (name : ℕ) (value : Option ℕ) (n : ℕ)
    → value_by (with_value es name value) n ≡ (if nat_eq name n then if_none value (value_by es n) else value_by es n)
valued_by es name None n = same_either (nat_eq name n) (value_by es n)
valued_by es name (Some v) n = one_more es name v n

valued : (es : Entries) (place : ℕ) (body : Body) (n : ℕ) → value_by (with_body es (value_by es) place body) n ≡ values_by (value_by es) place body n
valued es place Nothing n = refl
valued es place (Origin x) n = refl
valued es place (Define name x) n = valued_by es name (value_of (value_by es) place x) n
valued es place Decimal n = refl
valued es place Octal n = refl
valued es place Pause n = refl
valued es place (Field x) n = refl
valued es place (Reference operation indirect address) n = refl
valued es place (Word x) n = refl

-- ## All of them

last_values : (source : Source) → first_order source ≡ None → (n : ℕ) → value_by (symbols_of source) n ≡ values source n
last_values [] none n = refl
last_values (Err fault ∷ older) none n = none_some (sym (first_none (first_order older) (Some (lexical fault)) none).1)
last_values (Ok s ∷ older) none n =
    let fine = (first_none (first_order older) (at_line s.line (statement_fault s older)) none).0 in
    let place = place_at older in
    let tags = with_tags (symbols_of older) s.tags place in
    let names : value_by tags ≡ values_at s.tags older =
    fun_ext (λ m. tagged (symbols_of older) s.tags place m ∙ ap (λ k. tag_values s.tags place k m) (fun_ext (λ l. last_values older fine l))) in
    ap (λ k. value_by (with_body tags k place s.body) n) (sym names) ∙ valued tags place s.body n ∙ ap (λ k. values_by k place s.body n) names
    ∙ same_values (is_fixed_at s.tags older) (values_at s.tags older) place s.body n (fine_body s older none)

pub symbols_stand : SymbolsHaveLastValues
symbols_stand sources none name =
    let source = statements (newest_first sources) in
    let later = first_of (no_end (newest_first sources)) (first_of (words_fault (values source) source) (no_word source)) in
    last_values source (first_none (first_order source) later none).0 name
