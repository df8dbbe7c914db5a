-- What contracts see of the symbols of a source.
use Rattle.std.specs.Prelude.{ℕ, Bool, refl}
use Rattle.std.specs.Coded.{Coded, code_by, coded×, coded_ℕ, coded_bool}
use Rattle.std.specs.Ordering.{nat_cmp}
use Rattle.std.specs.FinMap.{FinMap, code}
use Rattle.pal_sym.specs.declared.symbols.Symbol.{Symbol}

pub record SymbolTable : Type 0 where
  -- what the names were defined as
  pub defined : FinMap nat_cmp Symbol
  -- how many new names can be defined without taking memory
  pub room : ℕ

-- a definition is stored as the pair of its fields
abbrev pub symbol_code : Coded Symbol
symbol_code = code_by (ℕ × Bool) (coded× coded_ℕ coded_bool) (λ s. (s.value, s.is_tag)) (λ p. record { value = p.0; is_tag = p.1 }) (λ _. refl)

-- and so is a table
abbrev pub table_code : Coded SymbolTable
table_code =
    code_by (FinMap nat_cmp Symbol × ℕ) (coded× (code coded_ℕ symbol_code) coded_ℕ) (λ t. (t.defined, t.room)) (λ p. record { defined = p.0; room = p.1 }) (λ _. refl)
