-- What the names of a table stand for, by its entries.
use Rattle.std.proofs.Common.{◌≡◌, ◌≢◌, ℕ, ◌+◌, ◌≤◌, nat_eq, if◌then◌else◌, Bool, true, false, not, ◌||◌, inl, inr, Option, Some, None, is_some, Result, Ok, Err, [], refl, sym, ap, subst, ◌∙◌, arith}
use Rattle.std.proofs.lemmas.Bool.{eqb-true}
use Rattle.std.proofs.lemmas.Bool.Decides.{nat_tests}
use Rattle.std.proofs.lemmas.Cmp.{nat_cmp_total}
use Rattle.std.specs.Ordering.{nat_cmp}
use Rattle.std.specs.FinMap.{find, from_entries, get-from_entries}
use Rattle.pal_sym.specs.Entries.{Entries}
use Rattle.pal_sym.specs.Steps.{PutsSymbol, IsRefused}
use Rattle.pal_sym.specs.Permanent.{permanent}
use Rattle.pal_sym.specs.SymbolTable.{SymbolTable}
use Rattle.pal_sym.specs.Values.{symbol_value, is_fixed, if_none, defined_value, is_tag, set_again, IsOther, StandsFor, DefinesTag, DefinesValue, IsSetAgain, HasRoom}
use Rattle.pal_sym.specs.declared.symbols.Symbol.{Symbol}
use Rattle.pal_sym.specs.declared.faults.SymFault.{SymFault}
use Rattle.pal_sym.specs.declared.faults.SymFault.TheVariants.{DT, RD, Memory}

some_none : {A B : Type 0} {a : A} → Some a ≡ None → B
some_none e = absurd cc

-- the table of these entries, with this room
abbrev pub table_of : Entries → ℕ → SymbolTable
table_of entries room = record { defined = from_entries entries; room = room }

pub value_listed : (entries : Entries) (room name : ℕ) → symbol_value (table_of entries room) name ≡ if_none (permanent name) (defined_value (find nat_cmp name entries))
unfolding symbol_value
value_listed entries room name = ap (λ o. if_none (permanent name) (defined_value o)) (get-from_entries nat_cmp_total entries name)

pub fixed_listed : (entries : Entries) (room name : ℕ) → is_fixed (table_of entries room) name ≡ (is_some (permanent name) || is_tag (find nat_cmp name entries))
unfolding is_fixed
fixed_listed entries room name = ap (λ o. is_some (permanent name) || is_tag o) (get-from_entries nat_cmp_total entries name)

pub differ : (a b : ℕ) → true ≡ not (nat_eq a b) → a ≢ b
differ a b e same = grind (arith, nat_tests)

pub agree : (a b : ℕ) → false ≡ not (nat_eq a b) → a ≡ b
agree a b e = grind (arith, nat_tests)

-- ## No definition

or_nothing : (value : Option ℕ) → if_none value None ≡ value
or_nothing None = refl
or_nothing (Some value) = refl

or_false : (test : Bool) → (test || false) ≡ test
or_false true = refl
or_false false = refl

pub nothing_defined : (entries : Entries) (room : ℕ) → entries ≡ [] → (name : ℕ) → symbol_value (table_of entries room) name ≡ permanent name
nothing_defined entries room e name = value_listed entries room name ∙ (rw e (or_nothing (permanent name)))

pub nothing_fixed : (entries : Entries) (room : ℕ) → entries ≡ [] → (name : ℕ) → is_fixed (table_of entries room) name ≡ is_some (permanent name)
nothing_fixed entries room e name = fixed_listed entries room name ∙ (rw e (or_false (is_some (permanent name))))

-- ## A permanent name

pub permanent_stands : (table : SymbolTable) (name value : ℕ) → Some value ≡ permanent name → symbol_value table name ≡ Some value
unfolding symbol_value
permanent_stands table name value is = rw (← is) refl

pub permanent_fixed : (table : SymbolTable) (name value : ℕ) → Some value ≡ permanent name → is_fixed table name ≡ true
unfolding is_fixed
permanent_fixed table name value is = rw (← is) refl

-- ## Nothing changes

by_test : {A : Type 0} (f : ℕ → A) (name n : ℕ) (value : A) → f name ≡ value → (test : Bool) → nat_eq name n ≡ test → f n ≡ (if test then value else f n)
by_test f name n value is true e = ap f (sym (eqb-true name n e)) ∙ is
by_test f name n value is false e = refl

pub stands_already : (name value : ℕ) (table : SymbolTable) → symbol_value table name ≡ Some value → StandsFor name value table table
stands_already name value table is = record {
  values = λ n. by_test (symbol_value table) name n (Some value) is (nat_eq name n) refl;
  room = omega arith;
  known = λ v there. refl;
}

pub fixed_already : (name : ℕ) (table : SymbolTable) → is_fixed table name ≡ true → (n : ℕ) → is_fixed table n ≡ (if nat_eq name n then true else is_fixed table n)
fixed_already name table is n = by_test (is_fixed table) name n true is (nat_eq name n) refl

-- ## A name is put

chosen_value : (test : Bool) (symbol : Symbol) (found : Option Symbol) → defined_value (if test then Some symbol else found) ≡ (if test then Some symbol.value else defined_value found)
chosen_value true symbol found = refl
chosen_value false symbol found = refl

under_permanent : (test : Bool) (fixed value found : Option ℕ) → (test ≡ true → fixed ≡ None) → if_none fixed (if test then value else found) ≡ (if test then value else if_none fixed found)
under_permanent true fixed value found none = rw (none refl) refl
under_permanent false fixed value found none = refl

pub values_put : (name : ℕ) (symbol : Symbol) (old new : Entries) (room less : ℕ) → permanent name ≡ None → PutsSymbol name symbol old new
    → (n : ℕ) → symbol_value (table_of new less) n ≡ (if nat_eq name n then Some symbol.value else symbol_value (table_of old room) n)
values_put name symbol old new room less none put n =
    value_listed new less n ∙ ap (λ o. if_none (permanent n) (defined_value o)) (put.found n)
    ∙ ap (if_none (permanent n)) (chosen_value (nat_eq name n) symbol (find nat_cmp n old))
    ∙ under_permanent (nat_eq name n) (permanent n) (Some symbol.value) (defined_value (find nat_cmp n old)) (λ t. ap permanent (sym (eqb-true name n t)) ∙ none)
    ∙ ap (λ v. if nat_eq name n then Some symbol.value else v) (sym (value_listed old room n))

chosen_tag : (test : Bool) (symbol : Symbol) (found : Option Symbol) → is_tag (if test then Some symbol else found) ≡ (if test then symbol.is_tag else is_tag found)
chosen_tag true symbol found = refl
chosen_tag false symbol found = refl

beside_permanent : (test fixed value found : Bool) → (test ≡ true → fixed ≡ false) → (fixed || (if test then value else found)) ≡ (if test then value else (fixed || found))
beside_permanent true fixed value found none = rw (none refl) refl
beside_permanent false fixed value found none = refl

pub fixed_put : (name : ℕ) (symbol : Symbol) (old new : Entries) (room less : ℕ) → permanent name ≡ None → PutsSymbol name symbol old new
    → (n : ℕ) → is_fixed (table_of new less) n ≡ (if nat_eq name n then symbol.is_tag else is_fixed (table_of old room) n)
fixed_put name symbol old new room less none put n =
    fixed_listed new less n ∙ ap (λ o. is_some (permanent n) || is_tag o) (put.found n)
    ∙ ap (λ b. is_some (permanent n) || b) (chosen_tag (nat_eq name n) symbol (find nat_cmp n old))
    ∙ beside_permanent (nat_eq name n) (is_some (permanent n)) symbol.is_tag (is_tag (find nat_cmp n old)) (λ t. ap is_some (ap permanent (sym (eqb-true name n t)) ∙ none))
    ∙ ap (λ b. if nat_eq name n then symbol.is_tag else b) (sym (fixed_listed old room n))

-- a test that chooses what stands there already
chosen_same : {A : Type 0} (f g : ℕ → A) (name : ℕ) (value : A) → ((n : ℕ) → f n ≡ (if nat_eq name n then value else g n)) → g name ≡ value → (n : ℕ) → f n ≡ g n
chosen_same f g name value is same n = is n ∙ sym (by_test g name n value same (nat_eq name n) refl)

-- ## What the public calls answer, for a table of these entries and a name that isn't permanent

module _ (entries : Entries) (room name : ℕ) (table : SymbolTable) (is : table_of entries room ≡ table) (none : None ≡ permanent name) where
  pub listed_value : symbol_value table name ≡ defined_value (find nat_cmp name entries)
  listed_value = ap (λ t. symbol_value t name) (sym is) ∙ value_listed entries room name ∙ ap (λ p. if_none p (defined_value (find nat_cmp name entries))) (sym none)

  listed_fixed : is_fixed table name ≡ is_tag (find nat_cmp name entries)
  listed_fixed = ap (λ t. is_fixed t name) (sym is) ∙ fixed_listed entries room name ∙ ap (λ p. is_some p || is_tag (find nat_cmp name entries)) (sym none)

  absent : find nat_cmp name entries ≡ None → symbol_value table name ≡ None
  absent found = listed_value ∙ ap defined_value found

  put_values : (symbol : Symbol) (new : Entries) (less : ℕ) → PutsSymbol name symbol entries new → (n : ℕ) → symbol_value (table_of new less) n ≡ (if nat_eq name n then Some symbol.value else symbol_value table n)
  put_values symbol new less put n = values_put name symbol entries new room less (sym none) put n ∙ ap (λ t. if nat_eq name n then Some symbol.value else symbol_value t n) is

  put_fixed : (symbol : Symbol) (new : Entries) (less : ℕ) → PutsSymbol name symbol entries new → (n : ℕ) → is_fixed (table_of new less) n ≡ (if nat_eq name n then symbol.is_tag else is_fixed table n)
  put_fixed symbol new less put n = fixed_put name symbol entries new room less (sym none) put n ∙ ap (λ t. if nat_eq name n then symbol.is_tag else is_fixed t n) is

  same_room : (less : ℕ) → less ≡ room → less ≡ table.room
  same_room less e = e ∙ ap (λ t. t.room) is

  module _ (value : ℕ) (new : Entries) (less : ℕ) where
    pub tag_over : (symbol found : Symbol) → find nat_cmp name entries ≡ Some found → found.value ≡ value → symbol.value ≡ value → symbol.is_tag ≡ true → less ≡ room → PutsSymbol name symbol entries new
        → DefinesTag name value table (table_of new less) (Ok tt)
    tag_over symbol found there same sets tags e put = (
      inr (listed_value ∙ ap defined_value there ∙ ap Some same),
      record {
        values = λ n. put_values symbol new less put n ∙ ap (λ v. if nat_eq name n then Some v else symbol_value table n) sets;
        room = omega (arith, same_room less e);
        known = λ v is. same_room less e;
      },
      λ n. put_fixed symbol new less put n ∙ ap (λ b. if nat_eq name n then b else is_fixed table n) tags,
    )

    pub tag_added : (symbol : Symbol) → find nat_cmp name entries ≡ None → symbol.value ≡ value → symbol.is_tag ≡ true → room ≤ less + 1 → PutsSymbol name symbol entries new
        → DefinesTag name value table (table_of new less) (Ok tt)
    tag_added symbol missing sets tags enough put = (
      inl (absent missing),
      record {
        values = λ n. put_values symbol new less put n ∙ ap (λ v. if nat_eq name n then Some v else symbol_value table n) sets;
        room = omega (arith, enough, ap (λ t. t.room) is);
        known = λ v there. some_none (sym there ∙ absent missing);
      },
      λ n. put_fixed symbol new less put n ∙ ap (λ b. if nat_eq name n then b else is_fixed table n) tags,
    )

    pub value_over : (symbol found : Symbol) → find nat_cmp name entries ≡ Some found → found.is_tag ≡ false → symbol.value ≡ value → symbol.is_tag ≡ false → less ≡ room → PutsSymbol name symbol entries new
        → DefinesValue name value table (table_of new less) (Ok tt)
    value_over symbol found there free sets tags e put = (
      inl (listed_fixed ∙ ap is_tag there ∙ free),
      record {
        values = λ n. put_values symbol new less put n ∙ ap (λ v. if nat_eq name n then Some v else symbol_value table n) sets;
        room = omega (arith, same_room less e);
        known = λ v is. same_room less e;
      },
      chosen_same (is_fixed (table_of new less)) (is_fixed table) name symbol.is_tag (put_fixed symbol new less put) (listed_fixed ∙ ap is_tag there ∙ free ∙ sym tags),
    )

    pub value_added : (symbol : Symbol) → find nat_cmp name entries ≡ None → symbol.value ≡ value → symbol.is_tag ≡ false → room ≤ less + 1 → PutsSymbol name symbol entries new
        → DefinesValue name value table (table_of new less) (Ok tt)
    value_added symbol missing sets tags enough put = (
      inl (listed_fixed ∙ ap is_tag missing),
      record {
        values = λ n. put_values symbol new less put n ∙ ap (λ v. if nat_eq name n then Some v else symbol_value table n) sets;
        room = omega (arith, enough, ap (λ t. t.room) is);
        known = λ v there. some_none (sym there ∙ absent missing);
      },
      chosen_same (is_fixed (table_of new less)) (is_fixed table) name symbol.is_tag (put_fixed symbol new less put) (listed_fixed ∙ ap is_tag missing ∙ sym tags),
    )

    pub set_over : (symbol found : Symbol) → find nat_cmp name entries ≡ Some found → symbol.value ≡ value → symbol.is_tag ≡ found.is_tag → less ≡ room → PutsSymbol name symbol entries new
        → IsSetAgain name value table (table_of new less)
    set_over symbol found there sets tags e put = record {
      values = λ n. put_values symbol new less put n
          ∙ ap (λ v. if nat_eq name n then v else symbol_value table n) (ap Some sets ∙ ap (λ p. set_again p (Some found.value) value) none ∙ ap (λ o. set_again (permanent name) o value) (sym (listed_value ∙ ap defined_value there)));
      fixed = chosen_same (is_fixed (table_of new less)) (is_fixed table) name symbol.is_tag (put_fixed symbol new less put) (listed_fixed ∙ ap is_tag there ∙ sym tags);
      room = same_room less e;
    }

  -- a name that stands for another value
  pub other_value : (found : Symbol) (value : ℕ) → find nat_cmp name entries ≡ Some found → found.value ≢ value → IsOther (symbol_value table name) value
  other_value found value there other = rw (listed_value, there) other

  -- a tag that stands for this value
  tag_same : (found : Symbol) (value : ℕ) → find nat_cmp name entries ≡ Some found → found.value ≡ value → DefinesValue name value table table (Ok tt)
  tag_same found value there same =
      let stands = listed_value ∙ ap defined_value there ∙ ap Some same in
      (inr stands, stands_already name value table stands, λ n. refl)

  tag_other : (found : Symbol) (value : ℕ) → find nat_cmp name entries ≡ Some found → found.is_tag ≡ true → found.value ≢ value → DefinesValue name value table table (Err RD)
  tag_other found value there tag other = (refl, listed_fixed ∙ ap is_tag there ∙ tag, other_value found value there other)

  pub tag_kept : (found : Symbol) (value : ℕ) (result : Result (Unit {0}) SymFault) → find nat_cmp name entries ≡ Some found → found.is_tag ≡ true → IsRefused RD found.value value result
      → DefinesValue name value table table result
  tag_kept found value (Ok done) there tag same = tag_same found value there same
  tag_kept found value (Err fault) there tag told = subst (λ f. DefinesValue name value table table (Err f)) (sym told.0) (tag_other found value there tag told.1)

  full : (new : Entries) (less : ℕ) → new ≡ entries → room ≡ 0 → less ≡ 0 → table_of new less ≡ table
  full new less kept none_before none_after = ap (λ e. table_of e less) kept ∙ ap (table_of entries) (none_after ∙ sym none_before) ∙ is

  -- a name that no memory was there for
  pub not_added : (new : Entries) (less : ℕ) → find nat_cmp name entries ≡ None → (new ≡ entries) × (room ≡ 0) × (less ≡ 0)
      → (table_of new less ≡ table) × (symbol_value table name ≡ None) × (table.room ≡ 0)
  not_added new less missing kept = (full new less kept.0 kept.1 kept.2, absent missing, sym (ap (λ t. t.room) is) ∙ kept.1)

  pub set_missing : (value : ℕ) → find nat_cmp name entries ≡ None → IsSetAgain name value table table
  set_missing value missing = record {
    values = λ n. by_test (symbol_value table) name n (set_again (permanent name) (symbol_value table name) value)
        (absent missing ∙ sym (ap (λ o. set_again (permanent name) o value) (absent missing) ∙ ap (λ p. set_again p None value) (sym none))) (nat_eq name n) refl;
    fixed = λ n. refl;
    room = refl;
  }

-- ## A permanent name

module _ (name known : ℕ) (table : SymbolTable) (is : Some known ≡ permanent name) where
  tag_permanent : (value : ℕ) → known ≡ value → DefinesTag name value table table (Ok tt)
  tag_permanent value same =
      let stands = permanent_stands table name known is ∙ ap Some same in
      (inr stands, stands_already name value table stands, fixed_already name table (permanent_fixed table name known is))

  value_permanent : (value : ℕ) → known ≡ value → DefinesValue name value table table (Ok tt)
  value_permanent value same =
      let stands = permanent_stands table name known is ∙ ap Some same in
      (inr stands, stands_already name value table stands, λ n. refl)

  other_permanent : (value : ℕ) → known ≢ value → IsOther (symbol_value table name) value
  other_permanent value other = rw (permanent_stands table name known is) other

  tag_refused : (value : ℕ) → known ≢ value → DefinesTag name value table table (Err DT)
  tag_refused value other = (refl, other_permanent value other)

  value_refused : (value : ℕ) → known ≢ value → DefinesValue name value table table (Err RD)
  value_refused value other = (refl, permanent_fixed table name known is, other_permanent value other)

  pub tag_answered : (value : ℕ) (result : Result (Unit {0}) SymFault) → IsRefused DT known value result → DefinesTag name value table table result
  tag_answered value (Ok done) same = tag_permanent value same
  tag_answered value (Err fault) told = subst (λ f. DefinesTag name value table table (Err f)) (sym told.0) (tag_refused value told.1)

  pub value_answered : (value : ℕ) (result : Result (Unit {0}) SymFault) → IsRefused RD known value result → DefinesValue name value table table result
  value_answered value (Ok done) same = value_permanent value same
  value_answered value (Err fault) told = subst (λ f. DefinesValue name value table table (Err f)) (sym told.0) (value_refused value told.1)

  pub set_permanent : (value : ℕ) → IsSetAgain name value table table
  set_permanent value = record {
    values = λ n. by_test (symbol_value table) name n (set_again (permanent name) (symbol_value table name) value) (ap (λ p. set_again p (symbol_value table name) value) is) (nat_eq name n) refl;
    fixed = λ n. refl;
    room = refl;
  }

-- ## Room

pub roomed : (entries : Entries) (names room more : ℕ) (table : SymbolTable) → table_of entries room ≡ table → names ≤ more → room ≤ more → HasRoom names table (table_of entries more)
unfolding symbol_value is_fixed
roomed entries names room more table is enough kept = record {
  values = λ n. ap (λ t. symbol_value t n) is;
  fixed = λ n. ap (λ t. is_fixed t n) is;
  enough = enough;
  kept = omega (arith, kept, ap (λ t. t.room) is);
}
