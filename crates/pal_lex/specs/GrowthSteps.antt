-- What one more character makes of a token, for private clauses.
use Rattle.std.specs.Prelude.{◌≡◌, ℕ, ◌+◌, ◌-◌, ◌*◌, ◌≤◌, nat_lt, nat_le, true, ◌||◌, if◌then◌else◌, unwrap_or, suc, take, length, List}
use Rattle.word12.specs.Sixbit.{is_letter, sixbit_code}
use Rattle.pal_lex.specs.Text.{limit}
use Rattle.pal_lex.specs.Cutting.{are_coded}
use Rattle.pal_lex.specs.Runs.{run_kind}
use Rattle.pal_lex.specs.Drafting.{weight_after}
use Rattle.pal_lex.specs.declared.growing.Grown.{Grown}
use Rattle.pal_lex.specs.declared.pieces.Term as term
use Rattle.pal_lex.specs.declared.pieces.Term.TheVariants.{Name, Number, Here}
use Rattle.pal_lex.specs.declared.pieces.Kind.{Kind}
use Rattle.pal_lex.specs.declared.pieces.Kind.TheVariants.{Term, BadNumber, Blank, Plus, Minus, Equals, Comma, Star}

-- a name, where the character counts by its weight
abbrev pub longer_name : ℕ → ℕ → ℕ → ℕ
longer_name name weight c = limit (name + weight * unwrap_or (sixbit_code c) 0)

abbrev pub longer_number : ℕ → ℕ → ℕ → Kind
longer_number base n c =
    if nat_lt c 0o60 || nat_le (0o60 + base) c then BadNumber
    else (if nat_lt (base * n + (c - 0o60)) 0o10000 then Term (Number (base * n + (c - 0o60))) else BadNumber)

abbrev pub grown_term : ℕ → ℕ → ℕ → term.Term → Kind
grown_term base weight c (Name n) = Term (Name (longer_name n weight c))
grown_term base weight c (Number n) = longer_number base n c
grown_term base weight c Here = Term Here

abbrev pub grown : ℕ → ℕ → ℕ → Kind → Kind
grown base weight c (Term t) = grown_term base weight c t
grown base weight c BadNumber = BadNumber
grown base weight c Blank = Blank
grown base weight c Plus = Plus
grown base weight c Minus = Minus
grown base weight c Equals = Equals
grown base weight c Comma = Comma
grown base weight c Star = Star

-- A run was begun by a character at a place and went on with so many of the bytes after it.
pub record IsRun (base first : ℕ) (others : List ℕ) (at : ℕ) (run : Grown) : Type 0 where
  pub range : run.more ≤ length others
  pub coded : are_coded (take run.more others) ≡ true
  pub token : run.token ≡ record { kind = run_kind base first (take run.more others); start = limit at; end = limit (at + 1 + run.more) }
  pub weight : run.weight ≡ weight_after (suc run.more)

-- what a first character makes
abbrev pub first_kind : ℕ → ℕ → Kind
first_kind base c = if is_letter c then Term (Name (longer_name 0 0o10000000000 c)) else longer_number base 0 c
