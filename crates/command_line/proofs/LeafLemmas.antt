-- The subcommands as clap builds them: words in which it finds no fault give each argument that must be there.
use Rattle.command_table.proofs.Names.{or_parts, ◌≡◌, ◌∙◌, ◌&&◌, ◌≤◌, ℕ, Bool, cond, if◌then◌else◌, true, false, not, refl, sym, ap, arith, subst, true≢false, List, [], ◌∷◌, Option, Some, None, is_some, ◌==◌, find, nat_lt, option_and_then, option_map, slice_get, list_any, bytes_eq, nat_tests, accepts-Accepts, parser_of_value, unwrap_or_range, read_as, reading_of, refused_kind, accepts, Row, Rule, Text, action_of, arg_by_id, most_values, nothing_held, one_of, reading_by, row_text, rows_after, Shape, built_leaf, inherited, marked_built, is_given, Accepts, IsUnsignedIn, Kinds, range_kinds, value_kinds, level_fault, values_fault}
use Rattle.clap.specs.declared.builder.action.ArgAction.TheVariants.{Set}
use Rattle.clap.specs.declared.builder.value_parser.ValueParser.{ValueParser}
use Rattle.clap.specs.declared.builder.value_parser.ValueParser.TheVariants.{Unsigned}
use Rattle.clap.specs.declared.error.kind.ErrorKind.TheVariants.{InvalidValue, TooFewValues, TooManyValues, WrongNumberOfValues}
use Rattle.command_table.specs.Tables.{bare_app}
use Rattle.command_table.specs.Values.{Has}
use Rattle.command_line.proofs.WalkLemmas.{AllRules, Fits, TakesSome, given_row, leaf_given, leaf_good, no_values, not_none, or_first, row_good}
use Rattle.command_table.proofs.OptionLemmas.{some_eq}

-- the program above its subcommands
abbrev pub above : Shape
above = record bare_app.top { is_leaf = false }

-- a subcommand as clap builds it, below the program
abbrev pub below : Shape → Shape
below s = built_leaf (inherited (marked_built above) s)

-- ## What words with no fault give

wanted : (id : Text) (a : Rule) (rows : List Row) (list : List Rule) → arg_by_id list id ≡ Some a → a.required ≡ true
    → list_any (λ r. r.required && not (is_given r.id rows)) list ≡ false → is_given a.id rows ≡ true
wanted id a rows [] is needed none = absurd (cc)
wanted id a rows (x ∷ xs) is needed none =
    let parts = or_parts (x.required && not (is_given x.id rows)) _ none in
    go (λ found. wanted id a rows xs found needed parts.1) (bytes_eq x.id id) is parts.0
  where
    here : (required given : Bool) → required ≡ true → (required && not given) ≡ false → given ≡ true
    here true true needed none = refl
    here true false needed none = absurd (true≢false none)
    here false given needed none = absurd (true≢false (sym needed))

    go : (arg_by_id xs id ≡ Some a → is_given a.id rows ≡ true) → (b : Bool) → cond b (Some x) (arg_by_id xs id) ≡ Some a
        → (x.required && not (is_given x.id rows)) ≡ false → is_given a.id rows ≡ true
    go later true is one =
        let same = some_eq x a is in
        here a.required (is_given a.id rows) needed (subst (λ (r : Rule). (r.required && not (is_given r.id rows)) ≡ false) same one)
    go later false is one = later is

-- a subcommand as clap builds it
pub record IsLeaf (s : Shape) : Type 0 where
  pub rules : AllRules s.rules s.rules
  pub negates : s.subcommand_negates_reqs ≡ false
  pub once : s.args_override_self ≡ false

abbrev pub Faultless : Shape → List Text → Type 0
Faultless s words = level_fault s [] nothing_held words false [] ≡ []

-- the values of an argument are fit where it has some, and it has some where it must
abbrev Given : Rule → List Row → Type 0
Given a rows = (r : Row) × (find (λ x. bytes_eq x.id a.id) rows ≡ Some r) × Fits a r.values × (r.reading ≡ reading_by a)

pub fit : (s : Shape) → IsLeaf s → (a : Rule) → arg_by_id s.rules a.id ≡ Some a → action_of a ≡ Set → (words : List Text) → Faultless s words
    → (r : Row) → find (λ x. bytes_eq x.id a.id) (rows_after s.rules [] words) ≡ Some r → Fits a r.values × (r.reading ≡ reading_by a)
fit s leaf a own set words none r is =
    let good = leaf_good s leaf.once leaf.rules [] nothing_held words false [] tt none in
    row_good s.rules a (rows_after s.rules [] words) r own set good is

given : (s : Shape) → IsLeaf s → (a : Rule) → arg_by_id s.rules a.id ≡ Some a → a.required ≡ true → action_of a ≡ Set → (words : List Text)
    → Faultless s words → Given a (rows_after s.rules [] words)
given s leaf a own needed set words none =
    let rows = rows_after s.rules [] words in
    let row = given_row a.id rows (wanted a.id a rows s.rules own needed (leaf_given s [] nothing_held words false [] leaf.negates none)) in
    let fits = fit s leaf a own set words none row.0 row.1 in
    (row.0, row.1, fits.0, fits.1)

-- the first of the values, which are some
first_value : (a : Rule) (values : List Text) → nat_lt 0 (unwrap_or_range a.range).start_inclusive ≡ true → Fits a values
    → (v : Text) × (slice_get values 0 ≡ Some v) × (value_kinds a.ignore_case (parser_of_value a.parser) v ≡ [])
first_value a [] some fits = absurd (no_values (unwrap_or_range a.range).start_inclusive (most_values a) some fits.0)
first_value a (v ∷ vs) some fits = (v, refl, or_first (value_kinds a.ignore_case (parser_of_value a.parser) v) (values_fault a vs) fits.1)

-- a word that must be given has a value
pub has_word : (s : Shape) → IsLeaf s → (a : Rule) → arg_by_id s.rules a.id ≡ Some a → a.required ≡ true → TakesSome a → (words : List Text)
    → Faultless s words → Has a.id (rows_after s.rules [] words)
has_word s leaf a own needed some words none =
    let found = given s leaf a own needed some.0 words none in
    let first = first_value a found.0.values some.1 found.2 in
    ap (λ o. is_some (option_and_then (λ (r : Row). slice_get r.values 0) o)) found.1 ∙ ap is_some first.1

-- a value that a number's parser took
passed : (parser : ValueParser) (text : Text) → value_kinds false parser text ≡ [] → Accepts false parser text
passed parser text none = accepts-Accepts false parser text (taken (accepts false parser text) none)
  where
    taken : (b : Bool) → cond b [] (refused_kind parser ∷ []) ≡ [] → b ≡ true
    taken true none = refl
    taken false none = absurd (not_none (refused_kind parser) [] none)

-- a number that is given is within the limits of its argument
pub has_number : (s : Shape) → IsLeaf s → (a : Rule) → arg_by_id s.rules a.id ≡ Some a → action_of a ≡ Set
    → nat_lt 0 (unwrap_or_range a.range).start_inclusive ≡ true → (low high : ℕ) → a.ignore_case ≡ false
    → parser_of_value a.parser ≡ Unsigned low high → (words : List Text) → Faultless s words → (text : Text)
    → one_of a.id (rows_after s.rules [] words) ≡ Some text → IsUnsignedIn low high text
has_number s leaf a own set some low high cased parser words none text is =
    go (find (λ x. bytes_eq x.id a.id) (rows_after s.rules [] words)) refl is
  where
    go : (o : Option Row) → find (λ x. bytes_eq x.id a.id) (rows_after s.rules [] words) ≡ o → option_and_then row_text o ≡ Some text
        → IsUnsignedIn low high text
    go None found is = absurd (cc)
    go (Some r) found is =
        let fits = fit s leaf a own set words none r found in
        let first = first_value a r.values some fits.0 in
        let read : Some text ≡ Some first.0 =
        sym is ∙ (ap (option_map (read_as r.reading)) first.1 ∙ (ap (λ how. Some (read_as how first.0)) fits.1
        ∙ ap (λ p. Some (read_as (reading_of p) first.0)) parser)) in
        let took : value_kinds false (Unsigned low high) first.0 ≡ [] =
        subst (λ b. value_kinds b (Unsigned low high) first.0 ≡ []) cased (subst (λ p. value_kinds a.ignore_case p first.0 ≡ []) parser first.2) in
        subst (λ (t : Text). IsUnsignedIn low high t) (sym (some_eq text first.0 read)) (passed (Unsigned low high) first.0 took)

pub one_up_to : (most n : ℕ) → range_kinds 1 most n ≡ [] → (1 ≤ n) × (n ≤ most)
one_up_to most n none = go (n == 0) (1 == most) (1 == n) (nat_lt n 1) (nat_lt most n) refl refl refl refl none
  where
    go : (empty fixed one few many : Bool) → (1 == most) ≡ fixed → (1 == n) ≡ one → nat_lt n 1 ≡ few → nat_lt most n ≡ many
        → if◌then◌else◌ {A = Kinds} empty (InvalidValue ∷ [])
        (if◌then◌else◌ {A = Kinds} fixed (if◌then◌else◌ {A = Kinds} one [] (WrongNumberOfValues ∷ []))
        (if◌then◌else◌ {A = Kinds} few (TooFewValues ∷ []) (if◌then◌else◌ {A = Kinds} many (TooManyValues ∷ []) []))) ≡ []
        → (1 ≤ n) × (n ≤ most)
    go true fixed one few many is same low high none = absurd (not_none InvalidValue [] none)
    go false true true few many is same low high none = (grind (arith, nat_tests), grind (arith, nat_tests))
    go false true false few many is same low high none = absurd (not_none WrongNumberOfValues [] none)
    go false false one true many is same low high none = absurd (not_none TooFewValues [] none)
    go false false one false true is same low high none = absurd (not_none TooManyValues [] none)
    go false false one false false is same low high none = (grind (arith, nat_tests), grind (arith, nat_tests))
