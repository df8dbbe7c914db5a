-- What the walk of `clap` over the words leaves where it meets no fault.
use Rattle.command_table.proofs.Names.{◌≡◌, ◌∙◌, ◌⊎◌, inl, inr, codes, if◌then◌else◌, ◌&&◌, ◌+◌, min, ℕ, Bool, cond, true, false, not, zero, suc, refl, sym, ap, subst, true≢false, List, [], ◌∷◌, ◌++◌, length, drop, Option, Some, None, is_some, ⊤, ◌==◌, ◌||◌, encode_utf8, find, fold, nat_lt, slice_get, list_any, option_map_or, bytes_eq, chars, bytes_eq-Decides, long_of, short_of, explicit_source, unwrap_or_range, Held, Names, Outcome, Row, Rule, Step, Text, Waiting, Walk, idle, option, positional, next, trailing, subcommand, value, done, waits, plain, refused, action_of, attached_value, after_flag, after_step, arg_by_id, arg_by_index, arg_by_long, arg_by_short, at_row, bundle, bundle_met, bundle_step, count_of, counted, has_long, has_short, new_count, default_rows, nothing_held, finished, flag_met, has_row, long_met, most_values, option_met, takes_values, is_pending, long_or_other, more_values, option_word, plain_word, pushed, reacted, reading_by, settled, settled_rows, short_met, short_or_plain, subcommand_met, subcommand_or_other, takes_several, to_positional, used, used_as, used_by_id, values_or_missing, walk, walk_from, walked, walked_from, with_default, with_values, without, word_met, Shape, is_given, Kinds, check_kinds, or_else, range_kinds, action_fault, bundle_fault, bundle_step_fault, check_fault, defaults_fault, flag_word_fault, flags_fault, level_fault, long_fault, option_fault, other_fault, react_fault, positional_fault, repeat_fault, set_fault, settle_fault, short_fault, step_fault, stray_fault, turn_fault, use_fault, values_fault, walk_fault, word_fault}
use Rattle.clap.specs.declared.builder.action.ArgAction.{ArgAction}
use Rattle.clap.specs.declared.builder.action.ArgAction.TheVariants.{Append, Count, Help, HelpLong, HelpShort, Set, SetFalse, SetTrue, Version}
use Rattle.clap.specs.declared.parser.matches.ValueSource.{ValueSource}
use Rattle.clap.specs.declared.parser.matches.ValueSource.TheVariants.{CommandLine, DefaultValue}
use Rattle.clap.specs.declared.error.kind.ErrorKind.{ErrorKind}
use Rattle.clap.specs.declared.error.kind.ErrorKind.TheVariants.{ArgumentConflict, DisplayHelp, InvalidSubcommand, InvalidValue, TooFewValues, TooManyValues, WrongNumberOfValues}
use Rattle.command_table.proofs.OptionLemmas.{some_eq}

-- ## Kinds of fault

pub or_first : (a b : Kinds) → or_else a b ≡ [] → a ≡ []
or_first [] b none = refl
or_first (k ∷ ks) b none = none

pub or_second : (a b : Kinds) → or_else a b ≡ [] → b ≡ []
or_second [] b none = none
or_second (k ∷ ks) b none = absurd (cc)

pub not_none : (k : ErrorKind) (ks : Kinds) → k ∷ ks ≡ [] → ⊥
not_none k ks none = cc

-- ## Rows

-- the values may stand in the row of an argument with a value
abbrev pub Fits : Rule → List Text → Type 0
Fits a values = (range_kinds (unwrap_or_range a.range).start_inclusive (most_values a) (length values) ≡ []) × (values_fault a values ≡ [])

-- the row of an argument with a value has values that its argument takes, and is read as its argument says
abbrev pub Good : List Rule → Row → Type 0
Good c r = (a : Rule) → arg_by_id c r.id ≡ Some a → action_of a ≡ Set → Fits a r.values × (r.reading ≡ reading_by a)

abbrev pub AllGood : List Rule → List Row → Type 0
AllGood c [] = ⊤
AllGood c (r ∷ rs) = Good c r × AllGood c rs

all_append : (c : List Rule) (xs ys : List Row) → AllGood c xs → AllGood c ys → AllGood c (xs ++ ys)
all_append c [] ys one other = other
all_append c (x ∷ xs) ys one other = (one.0, all_append c xs ys one.1 other)

-- the row of an argument changes, or it gets a first one
at_row_good : (c : List Rule) (id : Text) (change : Row → List Row) (missing rows : List Row)
    → ((has_row id rows ≡ false) ⊎ ((r : Row) → bytes_eq r.id id ≡ true → AllGood c (change r))) → AllGood c missing → AllGood c rows
    → AllGood c (at_row id change missing rows)
at_row_good c id change missing [] how new all = new
at_row_good c id change missing (r ∷ rs) how new all = go (λ how. at_row_good c id change missing rs how new all.1) (bytes_eq r.id id) refl how
  where
    go : (((has_row id rs ≡ false) ⊎ ((r : Row) → bytes_eq r.id id ≡ true → AllGood c (change r))) → AllGood c (at_row id change missing rs))
        → (b : Bool) → bytes_eq r.id id ≡ b → (((b || has_row id rs) ≡ false) ⊎ ((r : Row) → bytes_eq r.id id ≡ true → AllGood c (change r)))
        → AllGood c (cond b (change r ++ rs) (r ∷ at_row id change missing rs))
    go later true same (inl none) = absurd (true≢false none)
    go later true same (inr changed) = all_append c (change r) rs (changed r same) all.1
    go later false same (inl none) = (all.0, later (inl none))
    go later false same (inr changed) = (all.0, later (inr changed))

without_none : (id : Text) (rows : List Row) → has_row id rows ≡ false → without id rows ≡ rows
without_none id [] none = refl
without_none id (r ∷ rs) none = go (λ later. without_none id rs later) (bytes_eq r.id id) none
  where
    go : (has_row id rs ≡ false → without id rs ≡ rs) → (b : Bool) → (b || has_row id rs) ≡ false → cond b ([] ++ rs) (r ∷ without id rs) ≡ r ∷ rs
    go later true none = absurd (true≢false none)
    go later false none = ap (λ (xs : List Row). r ∷ xs) (later none)

-- ## Arguments

-- one with a value takes one at least, and has no default
abbrev pub TakesSome : Rule → Type 0
TakesSome a = (action_of a ≡ Set) × (nat_lt 0 (unwrap_or_range a.range).start_inclusive ≡ true) × (a.defaults ≡ [])

-- the argument is the one of its name, and takes some values or none that are read
pub record IsRule (c : List Rule) (a : Rule) : Type 0 where
  pub own : arg_by_id c a.id ≡ Some a
  pub takes : TakesSome a ⊎ (action_of a ≡ Set → ⊥)

abbrev pub AllRules : List Rule → List Rule → Type 0
AllRules c [] = ⊤
AllRules c (a ∷ rest) = IsRule c a × AllRules c rest

rule_found : (c : List Rule) (p : Rule → Bool) (list : List Rule) (a : Rule) → AllRules c list → find p list ≡ Some a → IsRule c a
rule_found c p [] a all is = absurd (cc)
rule_found c p (x ∷ xs) a all is = go (λ later. rule_found c p xs a all.1 later) (p x) is
  where
    go : (find p xs ≡ Some a → IsRule c a) → (b : Bool) → cond b (Some x) (find p xs) ≡ Some a → IsRule c a
    go later true is = subst (IsRule c) (some_eq x a is) all.0
    go later false is = later is

not_repeated : (again has : Bool) → again ≡ false → (if has && not again then ArgumentConflict ∷ [] else []) ≡ [] → has ≡ false
not_repeated true has once none = absurd (true≢false once)
not_repeated false true once none = absurd (cc)
not_repeated false false once none = refl

pub no_values : (least most : ℕ) → nat_lt 0 least ≡ true → range_kinds least most 0 ≡ [] → ⊥
no_values least most some none = not_none InvalidValue [] (subst (λ (b : Bool).
    (if b && true then InvalidValue ∷ []
    else (if least == most then (if least == 0 then [] else WrongNumberOfValues ∷ [])
    else (if nat_lt 0 least then TooFewValues ∷ [] else (if nat_lt most 0 then TooManyValues ∷ [] else [])))) ≡ []) some none)

-- a new row of an argument
fresh_row : (c : List Rule) (a : Rule) (source : ValueSource) (values : List Text) → arg_by_id c a.id ≡ Some a → (action_of a ≡ Set → Fits a values)
    → AllGood c (record { id = a.id; values = values; count = None; source = Some source; reading = reading_by a } ∷ [])
fresh_row c a source values own fits = (good, tt)
  where
    good : (b : Rule) → arg_by_id c a.id ≡ Some b → action_of b ≡ Set → Fits b values × (reading_by a ≡ reading_by b)
    good b is set =
        let same : a ≡ b = some_eq a b (sym own ∙ is) in
        let had = fits (subst (λ (x : Rule). action_of x ≡ Set) (sym same) set) in
        (subst (λ (x : Rule). Fits x values) same had, ap reading_by same)

-- a row of an argument whose values are not read
unread : (c : List Rule) (a : Rule) → arg_by_id c a.id ≡ Some a → (action_of a ≡ Set → ⊥) → (id : Text) → bytes_eq id a.id ≡ true → (b : Rule)
    → arg_by_id c id ≡ Some b → action_of b ≡ Set → ⊥
unread c a own free id same b is set =
    let met : arg_by_id c a.id ≡ Some b = ap (arg_by_id c) (sym ((bytes_eq-Decides id a.id).0 same)) ∙ is in
    free (subst (λ (x : Rule). action_of x ≡ Set) (sym (some_eq a b (sym own ∙ met))) set)

-- ## A subcommand

-- what is held between two words
abbrev pub HeldGood : List Rule → Held → Type 0
HeldGood c h = AllGood c h.rows

-- the words name no `help`
abbrev pub IsNoHelp : Option (Text × List Text) → Type 0
IsNoHelp None = ⊤
IsNoHelp (Some p) = bytes_eq p.0 (codes "help") ≡ false

-- what is met of a word: good rows, and no `help` where that is a subcommand
abbrev MetGood : Bool → List Rule → Held × Step → Type 0
MetGood off c (h, next waiting) = HeldGood c h
MetGood off c (h, trailing position) = HeldGood c h
MetGood off c (h, subcommand name) = HeldGood c h × (off ≡ false → bytes_eq name (codes "help") ≡ false)
MetGood off c (h, value) = HeldGood c h

-- a walk with good rows, which stopped at no `help` where that is a subcommand
abbrev WalkGood : Bool → List Rule → Walk → Type 0
WalkGood off c w = HeldGood c w.held × (off ≡ false → IsNoHelp w.stopped)

plain_good : (off : Bool) (c : List Rule) (waiting : Waiting) (word : Text) (h : Held) → HeldGood c h → MetGood off c (plain_word c waiting word h)
plain_good off c idle word h good = good
plain_good off c positional word h good = good
plain_good off c (option id) word h good = elim (arg_by_id c id) as (λ o. HeldGood c (option_word o id word h).0) [ None ↦ good | Some a ↦ good ]

after_good : (off : Bool) (c : List Rule) (waiting : Waiting) (word : Text) (h : Held) (out : Outcome) → HeldGood c h → MetGood off c (after_flag c waiting word h out)
after_good off c waiting word h done good = good
after_good off c waiting word h (waits id) good = good
after_good off c waiting word h plain good = plain_good off c waiting word h good
after_good off c waiting word h refused good = plain_good off c waiting word h good

abbrev pub met_of : Shape → Names → Walk → Text → Held × Step
met_of s names w word = word_met s.rules names w.is_trailing w.waiting w.position word w.held

module _ (s : Shape) (once : s.args_override_self ≡ false) (rules : AllRules s.rules s.rules) where
  rule_is : (p : Rule → Bool) (a : Rule) → find p s.rules ≡ Some a → IsRule s.rules a
  rule_is p a is = rule_found s.rules p s.rules a rules is

  -- a use with no fault leaves the rows good
  set_good : (a : Rule) (vs : List Text) (rows : List Row) → IsRule s.rules a → action_of a ≡ Set → use_fault s.args_override_self a vs rows ≡ []
      → AllGood s.rules rows → AllGood s.rules (with_values a.id (reading_by a) CommandLine (values_or_missing a vs) (without a.id rows))
  set_good a vs rows rule set none all = by_kind rule.takes
    where
      by_values : (vs : List Text) → TakesSome a → use_fault s.args_override_self a vs rows ≡ []
          → AllGood s.rules (with_values a.id (reading_by a) CommandLine (values_or_missing a vs) (without a.id rows))
      by_values [] some none =
          absurd (no_values (unwrap_or_range a.range).start_inclusive (most_values a) some.1 (or_first _ (action_fault (action_of a) s.args_override_self a (values_or_missing a []) rows) none))
      by_values (v ∷ vs) some none =
          let range = or_first _ (action_fault (action_of a) s.args_override_self a (v ∷ vs) rows) none in
          let acted : action_fault (action_of a) s.args_override_self a (v ∷ vs) rows ≡ [] =
          or_second (range_kinds (unwrap_or_range a.range).start_inclusive (most_values a) (length (v ∷ vs))) _ none in
          let as_set : set_fault s.args_override_self a (v ∷ vs) rows ≡ [] = subst (λ x. action_fault x s.args_override_self a (v ∷ vs) rows ≡ []) some.0 acted in
          let fresh = not_repeated s.args_override_self (has_row a.id rows) once (or_first (repeat_fault s.args_override_self a.id rows) (values_fault a (v ∷ vs)) as_set) in
          subst (λ (rs : List Row). AllGood s.rules (with_values a.id (reading_by a) CommandLine (v ∷ vs) rs)) (sym (without_none a.id rows fresh))
          (at_row_good s.rules a.id (more_values CommandLine (v ∷ vs)) _ rows (inl fresh) (fresh_row s.rules a CommandLine (v ∷ vs) rule.own
          (λ set. (range, or_second (repeat_fault s.args_override_self a.id rows) (values_fault a (v ∷ vs)) as_set))) all)

      by_kind : TakesSome a ⊎ (action_of a ≡ Set → ⊥) → AllGood s.rules (with_values a.id (reading_by a) CommandLine (values_or_missing a vs) (without a.id rows))
      by_kind (inl some) = by_values vs some none
      by_kind (inr free) = absurd (free set)

  used_good : (a : Rule) (vs : List Text) (rows : List Row) → IsRule s.rules a → use_fault s.args_override_self a vs rows ≡ [] → AllGood s.rules rows
      → AllGood s.rules (used a vs rows)
  used_good a vs rows rule none all = go (action_of a) refl
    where
      values : List Text
      values = values_or_missing a vs

      rest : AllGood s.rules (without a.id rows)
      rest = at_row_good s.rules a.id (λ r. []) [] rows (inr (λ r same. tt)) tt all

      same_id : bytes_eq a.id a.id ≡ true
      same_id = (bytes_eq-Decides a.id a.id).1 refl

      no_row : (action_of a ≡ Set → ⊥) → (id : Text) → bytes_eq id a.id ≡ true → (b : Rule) → arg_by_id s.rules id ≡ Some b → action_of b ≡ Set → ⊥
      no_row free = unread s.rules a rule.own free

      valued : (action_of a ≡ Set → ⊥) → (values : List Text) (rows : List Row) → AllGood s.rules rows
          → AllGood s.rules (with_values a.id (reading_by a) CommandLine values rows)
      valued free values rows all =
          at_row_good s.rules a.id (more_values CommandLine values) _ rows (inr (λ r same. ((λ b is set. absurd (no_row free r.id same b is set)), tt)))
          ((λ b is set. absurd (no_row free a.id same_id b is set)), tt) all

      count : (action_of a ≡ Set → ⊥) → (vs : List Text) → AllGood s.rules (counted a.id (reading_by a) vs rows)
      count free [] =
          at_row_good s.rules a.id (new_count CommandLine (min (count_of a.id rows + 1) 255)) _ (without a.id rows)
          (inr (λ r same. ((λ b is set. absurd (no_row free r.id same b is set)), tt))) ((λ b is set. absurd (no_row free a.id same_id b is set)), tt) rest
      count free (v ∷ vs) = valued free (v ∷ vs) (without a.id rows) rest

      go : (x : ArgAction) → action_of a ≡ x → AllGood s.rules (used_as x a.id (reading_by a) values rows)
      go Set is = set_good a vs rows rule is none all
      go SetTrue is = valued (λ set. cc) values (without a.id rows) rest
      go SetFalse is = valued (λ set. cc) values (without a.id rows) rest
      go Append is = valued (λ set. cc) values rows all
      go Count is = count (λ set. cc) values
      go Help is = all
      go HelpShort is = all
      go HelpLong is = all
      go Version is = all

  settled_good : (h : Held) → settle_fault s.rules s.args_override_self h ≡ [] → HeldGood s.rules h → HeldGood s.rules (settled s.rules h)
  settled_good h none good = go h.pending none
    where
      by_id : (p : Text × List Text) (found : Option Rule) → arg_by_id s.rules p.0 ≡ found
          → option_map_or (λ a. use_fault s.args_override_self a p.1 h.rows) found [] ≡ [] → AllGood s.rules (used_by_id found p.1 h.rows)
      by_id p None is none = good
      by_id p (Some a) is none = used_good a p.1 h.rows (rule_is (λ r. bytes_eq r.id p.0) a is) none good

      go : (o : Option (Text × List Text))
          → option_map_or (λ p. option_map_or (λ a. use_fault s.args_override_self a p.1 h.rows) (arg_by_id s.rules p.0) []) o [] ≡ []
          → AllGood s.rules (settled_rows s.rules o h.rows)
      go None none = good
      go (Some p) none = by_id p (arg_by_id s.rules p.0) refl none

  reacted_good : (a : Rule) (vs : List Text) (h : Held) → IsRule s.rules a → react_fault s.rules s.args_override_self a vs h ≡ [] → HeldGood s.rules h
      → HeldGood s.rules (reacted s.rules a vs h)
  reacted_good a vs h rule none good =
      used_good a vs (settled s.rules h).rows rule (or_second (settle_fault s.rules s.args_override_self h) _ none)
      (settled_good h (or_first (settle_fault s.rules s.args_override_self h) _ none) good)

  option_met_good : (a : Rule) (v : Option Text) (h : Held) → IsRule s.rules a → option_fault s.rules s.args_override_self a v h ≡ [] → HeldGood s.rules h
      → HeldGood s.rules (option_met s.rules a v h).0
  option_met_good a None h rule none good = settled_good h none good
  option_met_good a (Some text) h rule none good = reacted_good a (text ∷ []) h rule none good

  flag_met_good : (a : Rule) (v : Option Text) (h : Held) → IsRule s.rules a → (if is_some v then TooManyValues ∷ [] else react_fault s.rules s.args_override_self a [] h) ≡ []
      → HeldGood s.rules h → HeldGood s.rules (flag_met s.rules a v h).0
  flag_met_good a None h rule none good = reacted_good a [] h rule none good
  flag_met_good a (Some text) h rule none good = good

  long_good : (name : Text) (v : Option Text) (h : Held) → long_fault s.rules s.args_override_self (arg_by_long s.rules name) v h ≡ [] → HeldGood s.rules h
      → HeldGood s.rules (long_met s.rules (arg_by_long s.rules name) v h).0
  long_good name v h none good = go (arg_by_long s.rules name) refl none
    where
      by_kind : (a : Rule) → IsRule s.rules a → (b : Bool)
          → (if b then option_fault s.rules s.args_override_self a v h else (if is_some v then TooManyValues ∷ [] else react_fault s.rules s.args_override_self a [] h)) ≡ []
          → HeldGood s.rules (if b then option_met s.rules a v h else flag_met s.rules a v h).0
      by_kind a rule true none = option_met_good a v h rule none good
      by_kind a rule false none = flag_met_good a v h rule none good

      go : (o : Option Rule) → arg_by_long s.rules name ≡ o → long_fault s.rules s.args_override_self o v h ≡ [] → HeldGood s.rules (long_met s.rules o v h).0
      go None is none = good
      go (Some a) is none = by_kind a (rule_is (λ r. not (is_some r.index) && has_long r name) a is) (takes_values a) none

  short_good : (x : ℕ) (rest : Text) (h : Held) (following : Held → Kinds) (later : Held → Held × Outcome)
      → short_fault s.rules s.args_override_self (arg_by_short s.rules x) rest h following ≡ []
      → ((k : Held) → following k ≡ [] → HeldGood s.rules k → HeldGood s.rules (later k).0) → HeldGood s.rules h
      → HeldGood s.rules (short_met s.rules (arg_by_short s.rules x) rest h later).0
  short_good x rest h following later none goes good = go (arg_by_short s.rules x) refl none
    where
      by_kind : (a : Rule) → IsRule s.rules a → (b : Bool)
          → (if b then option_fault s.rules s.args_override_self a (attached_value rest) h
          else or_else (react_fault s.rules s.args_override_self a [] h) (following (reacted s.rules a [] h))) ≡ []
          → HeldGood s.rules (if b then option_met s.rules a (attached_value rest) h else later (reacted s.rules a [] h)).0
      by_kind a rule true none = option_met_good a (attached_value rest) h rule none good
      by_kind a rule false none =
          goes (reacted s.rules a [] h) (or_second (react_fault s.rules s.args_override_self a [] h) _ none)
          (reacted_good a [] h rule (or_first (react_fault s.rules s.args_override_self a [] h) _ none) good)

      go : (o : Option Rule) → arg_by_short s.rules x ≡ o → short_fault s.rules s.args_override_self o rest h following ≡ []
          → HeldGood s.rules (short_met s.rules o rest h later).0
      go None is none = good
      go (Some a) is none = by_kind a (rule_is (λ r. not (is_some r.index) && has_short r x) a is) (takes_values a) none

  bundle_good : (k : ℕ) (flags : Text) (skip : ℕ) (so_far : Outcome) (h : Held)
      → flags_fault s.rules s.args_override_self k flags skip h ≡ [] → HeldGood s.rules h → HeldGood s.rules (bundle_met s.rules k flags skip so_far h).0
  unfolding flags_fault bundle_met
  bundle_good zero flags skip so_far h none good = good
  bundle_good (suc k) flags skip so_far h none good =
      go (λ left skipped so_far h none good. bundle_good k left skipped so_far h none good) (slice_get (chars flags) 0) skip none
    where
      go : ((left : Text) (skipped : ℕ) (so_far : Outcome) (h : Held) → flags_fault s.rules s.args_override_self k left skipped h ≡ [] → HeldGood s.rules h
          → HeldGood s.rules (bundle_met s.rules k left skipped so_far h).0) → (o : Option ℕ) (skip : ℕ)
          → bundle_step_fault s.rules s.args_override_self o flags skip h (flags_fault s.rules s.args_override_self k) ≡ []
          → HeldGood s.rules (bundle_step s.rules o flags skip so_far h (bundle_met s.rules k)).0
      go later None skip none = good
      go later (Some x) zero none =
          let left = drop (length (encode_utf8 x)) flags in
          short_good x left h (flags_fault s.rules s.args_override_self k left 0) (bundle_met s.rules k left 0 done) none (λ h none good. later left 0 done h none good) good
      go later (Some x) (suc skip) none = later (drop (length (encode_utf8 x)) flags) skip so_far h none good

  -- a word that the walk meets with no fault, before it goes to a positional
  met_good : (names : Names) (is_trailing : Bool) (waiting : Waiting) (position : ℕ) (word : Text) (h : Held)
      → word_fault s names is_trailing waiting word h ≡ [] → HeldGood s.rules h
      → MetGood s.disable_help_subcommand s.rules (word_met s.rules names is_trailing waiting position word h)
  met_good names true waiting position word h none good = good
  met_good names false waiting position word h none good = go (subcommand_met names waiting word) none
    where
      short : (o : Option Text) → option_map_or (λ flags. bundle_fault s.rules s.args_override_self flags h) o [] ≡ []
          → MetGood s.disable_help_subcommand s.rules (short_or_plain s.rules waiting word o h)
      short None none = plain_good _ s.rules waiting word h good
      short (Some flags) none = after_good _ s.rules waiting word _ (bundle s.rules flags h).1
          (bundle_good (length flags) flags h.skip plain (record h { skip = 0 }) none good)

      long : (o : Option (Text × Option Text)) → flag_word_fault s.rules s.args_override_self o word h ≡ []
          → MetGood s.disable_help_subcommand s.rules (long_or_other s.rules waiting word o h)
      long None none = short (short_of word) none
      long (Some p) none = after_good _ s.rules waiting word _ (long_met s.rules (arg_by_long s.rules p.0) p.1 h).1 (long_good p.0 p.1 h none good)

      dashes : (b : Bool) → cond b [] (flag_word_fault s.rules s.args_override_self (long_of word) word h) ≡ []
          → MetGood s.disable_help_subcommand s.rules (cond b (h, trailing position) (long_or_other s.rules waiting word (long_of word) h))
      dashes true none = good
      dashes false none = long (long_of word) none

      named : (b d : Bool) → d ≡ false → cond (b && not d) (DisplayHelp ∷ InvalidSubcommand ∷ []) [] ≡ [] → b ≡ false
      named false d is none = refl
      named true true is none = absurd (true≢false is)
      named true false is none = absurd (cc)

      go : (o : Option Text) → other_fault s o word h ≡ [] → MetGood s.disable_help_subcommand s.rules (subcommand_or_other s.rules o waiting position word h)
      go (Some name) none = (good, λ on. named (bytes_eq name (codes "help")) s.disable_help_subcommand on none)
      go None none = dashes (bytes_eq word (45 ∷ 45 ∷ [])) none

  step_good : (word : Text) (w : Walk) (h : Held) (step : Step) → step_fault s w.position h step ≡ [] → (s.disable_help_subcommand ≡ false → IsNoHelp w.stopped) → MetGood s.disable_help_subcommand s.rules (h, step)
      → WalkGood s.disable_help_subcommand s.rules (after_step s.rules word w h step)
  step_good word w h (next waiting) none past good = (good, past)
  step_good word w h (trailing position) none past good = (good, past)
  step_good word w h (subcommand name) none past good = good
  step_good word w h value none past good = go (arg_by_index s.rules w.position) none
    where
      placed : (a : Rule) (b : Bool) → cond b [] (settle_fault s.rules s.args_override_self h) ≡ []
          → HeldGood s.rules (pushed a.id word (cond b h (settled s.rules h)))
      placed a true none = good
      placed a false none = settled_good h none good

      go : (o : Option Rule) → option_map_or (λ a. positional_fault s.rules s.args_override_self a h) o (stray_fault s) ≡ []
          → WalkGood s.disable_help_subcommand s.rules (to_positional s.rules o word w h)
      go None none = (good, past)
      go (Some a) none = (placed a (is_pending a h.pending && takes_several a) none, λ on. tt)

  turn_good : (names : Names) (w : Walk) (word : Text) → turn_fault s names w word ≡ [] → WalkGood s.disable_help_subcommand s.rules w → WalkGood s.disable_help_subcommand s.rules (walked_from s.rules names w.stopped w word)
  turn_good names w word none good = go w.stopped none good.1
    where
      go : (o : Option (Text × List Text))
          → cond (is_some o) [] (or_else (word_fault s names w.is_trailing w.waiting word w.held) (step_fault s w.position (met_of s names w word).0 (met_of s names w word).1)) ≡ []
          → (s.disable_help_subcommand ≡ false → IsNoHelp o) → WalkGood s.disable_help_subcommand s.rules (walked_from s.rules names o w word)
      go (Some p) none past = (good.0, past)
      go None none past = step_good word w (met_of s names w word).0 (met_of s names w word).1 (or_second _ _ none) good.1
          (met_good names w.is_trailing w.waiting w.position word w.held (or_first _ _ none) good.0)

  walk_good : (names : Names) (w : Walk) (words : List Text) → walk_fault s names w words ≡ [] → WalkGood s.disable_help_subcommand s.rules w → WalkGood s.disable_help_subcommand s.rules (fold (walked s.rules names) w words)
  unfolding walk_fault walked
  walk_good names w [] none good = good
  walk_good names w (word ∷ rest) none good =
      walk_good names (walked s.rules names w word) rest (or_second _ _ none) (turn_good names w word (or_first _ _ none) good)

  -- an argument that was not used gets its default
  default_good : (a : Rule) (rows : List Row) → IsRule s.rules a → AllGood s.rules rows → AllGood s.rules (with_default rows a)
  default_good a rows rule all = go (has_row a.id rows) refl
    where
      bare : (v : Text) (vs : List Text) → a.defaults ≡ v ∷ vs → TakesSome a ⊎ (action_of a ≡ Set → ⊥) → action_of a ≡ Set → ⊥
      bare v vs is (inl some) set = not_bare (sym is ∙ some.2)
        where
          not_bare : v ∷ vs ≡ [] → ⊥
          not_bare same = cc
      bare v vs is (inr free) set = free set

      by_values : (values : List Text) → a.defaults ≡ values → has_row a.id rows ≡ false → AllGood s.rules (default_rows a.id (reading_by a) values rows)
      by_values [] is fresh = all
      by_values (v ∷ vs) is fresh =
          at_row_good s.rules a.id (more_values DefaultValue (v ∷ vs)) _ rows (inl fresh)
          (fresh_row s.rules a DefaultValue (v ∷ vs) rule.own (λ set. absurd (bare v vs is rule.takes set))) all

      go : (b : Bool) → has_row a.id rows ≡ b → AllGood s.rules (cond b rows (default_rows a.id (reading_by a) a.defaults rows))
      go true has = all
      go false fresh = by_values a.defaults refl fresh

  defaults_good : (list : List Rule) (rows : List Row) → AllRules s.rules list → AllGood s.rules rows → AllGood s.rules (fold with_default rows list)
  defaults_good [] rows are all = all
  defaults_good (a ∷ rest) rows are all = defaults_good rest (with_default rows a) are.1 (default_good a rows are.0 all)

-- ## Values that must be there

-- the row of an argument with a value, where it has one
pub row_good : (c : List Rule) (a : Rule) (rows : List Row) (r : Row) → arg_by_id c a.id ≡ Some a → action_of a ≡ Set → AllGood c rows
    → find (λ x. bytes_eq x.id a.id) rows ≡ Some r → Fits a r.values × (r.reading ≡ reading_by a)
row_good c a [] r own set all is = absurd (cc)
row_good c a (x ∷ xs) r own set all is = go (λ later. row_good c a xs r own set all.1 later) (bytes_eq x.id a.id) refl is
  where
    go : (find (λ y. bytes_eq y.id a.id) xs ≡ Some r → Fits a r.values × (r.reading ≡ reading_by a)) → (b : Bool) → bytes_eq x.id a.id ≡ b
        → cond b (Some x) (find (λ y. bytes_eq y.id a.id) xs) ≡ Some r → Fits a r.values × (r.reading ≡ reading_by a)
    go later true same is =
        subst (λ (y : Row). Fits a y.values × (y.reading ≡ reading_by a)) (some_eq x r is)
        (all.0 a (ap (arg_by_id c) ((bytes_eq-Decides x.id a.id).0 same) ∙ own) set)
    go later false same is = later is

-- an argument that was given has a row
pub given_row : (id : Text) (rows : List Row) → is_given id rows ≡ true → (r : Row) × (find (λ x. bytes_eq x.id id) rows ≡ Some r)
given_row id rows given = go (find (λ x. bytes_eq x.id id) rows) given
  where
    go : (o : Option Row) → option_map_or (λ (x : Row). explicit_source x.source) o false ≡ true → (r : Row) × (o ≡ Some r)
    go None given = absurd (true≢false (sym given))
    go (Some r) given = (r, refl)

-- the parts of a level with no fault
record IsFaultless (s : Shape) (names : Names) (h : Held) (words : List Text) (has : Bool) (below : Kinds) : Type 0 where
  walks : walk_fault s names (walk_from h) words ≡ []
  under : below ≡ []
  settles : settle_fault s.rules s.args_override_self (walk s.rules names h words).held ≡ []
  checks : check_fault s (finished s.rules (walk s.rules names h words).held) has ≡ []

faultless : (s : Shape) (names : Names) (h : Held) (words : List Text) (has : Bool) (below : Kinds) → level_fault s names h words has below ≡ []
    → IsFaultless s names h words has below
faultless s names h words has below none =
    let end = (walk s.rules names h words).held in
    let walking = walk_fault s names (walk_from h) words in
    let settling = settle_fault s.rules s.args_override_self end in
    let filling = defaults_fault (settled s.rules end).rows s.rules in
    let checking = check_fault s (finished s.rules end) has in
    let one = or_second walking (or_else below (or_else settling (or_else filling checking))) none in
    let two = or_second below (or_else settling (or_else filling checking)) one in
    let three = or_second settling (or_else filling checking) two in
    record {
      walks = or_first walking (or_else below (or_else settling (or_else filling checking))) none;
      under = or_first below (or_else settling (or_else filling checking)) one;
      settles = or_first settling (or_else filling checking) two;
      checks = or_second filling checking three;
    }

-- the rows of a subcommand with no fault are good
pub leaf_good : (s : Shape) → s.args_override_self ≡ false → AllRules s.rules s.rules → (names : Names) (h : Held) (words : List Text) (has : Bool) (below : Kinds)
    → HeldGood s.rules h → level_fault s names h words has below ≡ [] → AllGood s.rules (finished s.rules (walk s.rules names h words).held)
leaf_good s once rules names h words has below good none =
    let parts = faultless s names h words has below none in
    let end = (walk s.rules names h words).held in
    defaults_good s once rules s.rules (settled s.rules end).rows rules
    (settled_good s once rules end parts.settles (walk_good s once rules names (walk_from h) words parts.walks (good, λ on. tt)).0)

last_test : (a b c : Bool) → check_kinds a b c ≡ [] → (b ≡ false) × (c ≡ false)
last_test true b c none = absurd (cc)
last_test false true c none = absurd (cc)
last_test false false true none = absurd (cc)
last_test false false false none = (refl, refl)

-- and those of its arguments that must be there are given
pub leaf_given : (s : Shape) (names : Names) (h : Held) (words : List Text) (has : Bool) (below : Kinds) → s.subcommand_negates_reqs ≡ false
    → level_fault s names h words has below ≡ []
    → list_any (λ a. a.required && not (is_given a.id (finished s.rules (walk s.rules names h words).held))) s.rules ≡ false
leaf_given s names h words has below negates none =
    let rows = finished s.rules (walk s.rules names h words).held in
    let parts = faultless s names h words has below none in
    asked s.subcommand_negates_reqs has (list_any (λ a. a.required && not (is_given a.id rows)) s.rules) negates
    (last_test (not has && (s.arg_required_else_help && not (list_any (λ r. explicit_source r.source) rows))) (not has && s.subcommand_required)
    (not (s.subcommand_negates_reqs && has) && list_any (λ a. a.required && not (is_given a.id rows)) s.rules) parts.checks).1
  where
    asked : (b has x : Bool) → b ≡ false → (not (b && has) && x) ≡ false → x ≡ false
    asked false has x is tested = tested
    asked true has x is tested = absurd (true≢false is)

-- a walk with no fault stops at no `help`, and stops where a subcommand is required
pub level_stops : (s : Shape) → s.args_override_self ≡ false → s.disable_help_subcommand ≡ false → s.subcommand_required ≡ true → AllRules s.rules s.rules
    → (names : Names) (words : List Text) (has : Bool) (below : Kinds) → level_fault s names nothing_held words has below ≡ []
    → IsNoHelp (walk s.rules names nothing_held words).stopped × (has ≡ true) × (below ≡ [])
level_stops s once helps required rules names words has below none =
    let rows = finished s.rules (walk s.rules names nothing_held words).held in
    let parts = faultless s names nothing_held words has below none in
    let tests = last_test (not has && (s.arg_required_else_help && not (list_any (λ r. explicit_source r.source) rows))) (not has && s.subcommand_required)
    (not (s.subcommand_negates_reqs && has) && list_any (λ a. a.required && not (is_given a.id rows)) s.rules) parts.checks in
    ((walk_good s once rules names (walk_from nothing_held) words parts.walks (tt, λ on. tt)).1 helps, met has tests.0, parts.under)
  where
    met : (b : Bool) → (not b && s.subcommand_required) ≡ false → b ≡ true
    met true is = refl
    met false is = absurd (true≢false (sym required ∙ is))
