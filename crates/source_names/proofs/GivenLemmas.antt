-- A cell is given a name that is new.
use Rattle.std.proofs.Common.{◌≡◌, ℕ, ◌<◌, nat_eq, Bool, ◌||◌, if◌then◌else◌, inl, inr, Option, Some, None, Result, Ok, Err, List, ◌∷◌, length, slice_index_or, slice_set, get_or-set_other, refl, ap, sym, subst, ◌∙◌, arith}
use Rattle.std.proofs.lemmas.Bool.Decides.{eqb_tells}
use Rattle.std.proofs.lemmas.Grind.{get_or-set_at}
use Rattle.std.proofs.lemmas.List.{length-set}
use Rattle.word12.specs.declared.sizes.TheConstants.{CORE}
use Rattle.pal_sym.specs.Names.{name_number}
use Rattle.pal_sym.specs.Permanent.{permanent}
use Rattle.pal_sym.specs.SymbolTable.{SymbolTable}
use Rattle.pal_sym.specs.Values.{if_none, symbol_value, DefinesTag, HasRoom, IsOther, StandsFor}
use Rattle.pal_sym.specs.declared.faults.SymFault.{SymFault}
use Rattle.pal_sym.specs.declared.faults.SymFault.TheVariants.{DT, RD, Memory}
use Rattle.source_names.specs.Names.{Entry, name_at, names_number, six_places}
use Rattle.source_names.specs.Steps.{Holds}

-- the table with one name more
table_at : (table : List (Option (List ℕ))) (index cell other : ℕ) (six name : List ℕ) (entries : List Entry) → index ≡ cell → index < length table
    → six ≡ six_places name
    → slice_index_or table other None ≡ name_at entries other
    → slice_index_or (slice_set table index (Some six)) other None ≡ (if nat_eq cell other then Some (six_places name) else name_at entries other)
table_at table index cell other six name entries is inside six_is before =
    elim (eqb_tells cell other) [
      | inl same ↦
          get_or-set_at table index other (Some six) None (sym (is ∙ same.1)) inside
          ∙ ap (λ s. Some s) six_is
          ∙ sym (ap (λ (b : Bool). if b then Some (six_places name) else name_at entries other) same.0)
      | inr apart ↦
          get_or-set_other table index other (Some six) None (λ e. apart.1 (sym is ∙ sym e))
          ∙ before
          ∙ sym (ap (λ (b : Bool). if b then Some (six_places name) else name_at entries other) apart.0)
    ]

-- a name that stands for nothing is no permanent one
no_permanent : (value other : Option ℕ) → None ≡ if_none value other → value ≡ None
no_permanent None other is = refl
no_permanent (Some value) other is = absurd cc

set_with : (given between given' : SymbolTable) (entries : List Entry) (number n : ℕ) → permanent number ≡ None → HasRoom 1 given between
    → StandsFor number 0 between given' → symbol_value given n ≡ if_none (permanent n) (if names_number entries n then Some 0 else None)
    → symbol_value given' n ≡ if_none (permanent n) (if nat_eq number n || names_number entries n then Some 0 else None)
set_with given between given' entries number n free room stands before =
    elim (eqb_tells number n) [
      | inl same ↦
          let none = ap permanent (sym same.1) ∙ free in
          stands.values n
          ∙ ap (λ (b : Bool). if b then Some 0 else symbol_value between n) same.0
          ∙ sym (ap (λ (b : Bool). if_none (permanent n) (if b || names_number entries n then Some 0 else None)) same.0 ∙ ap
          (λ o. if_none o (Some 0)) none)
      | inr apart ↦
          stands.values n
          ∙ ap (λ (b : Bool). if b then Some 0 else symbol_value between n) apart.0
          ∙ room.values n
          ∙ before
          ∙ sym (ap (λ (b : Bool). if_none (permanent n) (if b || names_number entries n then Some 0 else None)) apart.0)
    ]

pub one_more : (table : List (Option (List ℕ))) (given between given' : SymbolTable) (entries : List Entry) (index cell number : ℕ)
    (name six : List ℕ)
    (result : Result (Unit {0}) SymFault) → index ≡ cell → index < CORE → six ≡ six_places name → HasRoom 1 given between
    → DefinesTag number 0 between given' result
    → Holds table given entries → number ≡ name_number name → symbol_value given number ≡ None
    → Holds (slice_set table index (Some six)) given' (record { cell = cell; name = name } ∷ entries)
one_more table given between given' entries index cell number name six (Ok done) is inside six_is room defines holds same new = record {
  size = length-set table index (Some six) ∙ holds.size;
  names = λ other. table_at table index cell other six name entries is (omega (arith, inside, holds.size)) six_is (holds.names other);
  numbers = λ n.
      set_with given between given' entries number n (no_permanent (permanent number) _ (sym new ∙ holds.numbers number)) room defines.1
      (holds.numbers n)
      ∙ ap (λ m. if_none (permanent n) (if nat_eq m n || names_number entries n then Some 0 else None)) same;
}
one_more table given between given' entries index cell number name six (Err DT) is inside six_is room defines holds same new =
    absurd (subst (λ o. IsOther o 0) (room.values number ∙ new) defines.1)
one_more table given between given' entries index cell number name six (Err RD) is inside six_is room defines holds same new = absurd defines
one_more table given between given' entries index cell number name six (Err Memory) is inside six_is room defines holds same new =
    absurd (omega (arith, room.enough, defines.2))
