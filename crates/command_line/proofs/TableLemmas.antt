-- Each subcommand of a sound table, as clap builds it: words in which it finds no fault give each argument what the table says of it.
use Rattle.command_table.proofs.Names.{or_parts, is_false, ◌≡◌, ◌∙◌, ◌||◌, ◌≤◌, ◌⊎◌, ℕ, Bool, cond, codes, true, false, not, refl, sym, ap, arith, subst, true≢false, inl, inr, List, [], ◌∷◌, ◌++◌, map, Option, Some, None, length, ⊤, ◌==◌, find, option_map, unwrap_or, list_all, list_any, bytes_eq, nat_tests, bytes_eq-Decides, both, usize_max, Row, Rule, Text, action_of, arg_by_id, rows_after, Shape, filled, filled_from, help_rule, index_after, with_index}
use Rattle.clap.specs.declared.builder.action.ArgAction.TheVariants.{Append, Set, SetTrue}
use Rattle.command_table.specs.declared.table.Kind.{Kind}
use Rattle.command_table.specs.declared.table.Kind.TheVariants.{Word, Value, Words, Size, Flag, One, Many, Count}
use Rattle.command_table.specs.Tables.{Argument, Entry, are_distinct, kind_rule, leaf_shape, rule_with_letter, most_steps, rows_for, rule_for, rules_for}
use Rattle.command_table.specs.Steps.{can_be_required, fits, ids_of, is_fit, is_sound}
use Rattle.command_table.specs.Values.{IsTaken}
use Rattle.command_line.specs.Steps.{AllHold, HasSomeWhere, HasWhere}
use Rattle.command_line.proofs.LeafLemmas.{Faultless, IsLeaf, below, fit, has_number, has_word, one_up_to}
use Rattle.command_line.proofs.RefusalLemmas.{some_values}
use Rattle.command_line.proofs.WalkLemmas.{AllRules, Fits, TakesSome}
use Rattle.word12.specs.declared.sizes.TheConstants.{MOST_BLOCKS}

-- ## Names that stand once

abbrev AllOwn : List Rule → List Rule → Type 0
AllOwn c [] = ⊤
AllOwn c (a ∷ rest) = (arg_by_id c a.id ≡ Some a) × AllOwn c rest

pub same_text : (text : Text) → bytes_eq text text ≡ true
same_text text = (bytes_eq-Decides text text).1 refl

-- a rule in front of others, of which it has the name of none
own_after : (x : Rule) (c rest : List Rule) → list_any (λ other. bytes_eq other x.id) (map (λ r. r.id) rest) ≡ false → AllOwn c rest → AllOwn (x ∷ c) rest
own_after x c [] none all = tt
own_after x c (a ∷ rest) none all = (here (bytes_eq x.id a.id) refl, own_after x c rest (or_parts _ _ none).1 all.1)
  where
    here : (b : Bool) → bytes_eq x.id a.id ≡ b → cond b (Some x) (arg_by_id c a.id) ≡ Some a
    here false other = all.0
    here true same =
        let named : x.id ≡ a.id = (bytes_eq-Decides x.id a.id).0 same in
        absurd (true≢false (sym (subst (λ (t : Text). bytes_eq a.id t ≡ true) (sym named) (same_text a.id)) ∙ (or_parts _ _ none).0))

all_own : (c : List Rule) → are_distinct (map (λ r. r.id) c) ≡ true → AllOwn c c
all_own [] distinct = tt
all_own (x ∷ xs) distinct =
    let parts = both _ _ distinct in
    (ap (λ b. cond b (Some x) (arg_by_id xs x.id)) (same_text x.id), own_after x xs xs (is_false _ parts.0) (all_own xs parts.1))

ids_filled : (i : ℕ) (rules : List Rule) → map (λ (r : Rule). r.id) (filled_from i rules) ≡ map (λ (r : Rule). r.id) rules
ids_filled i [] = refl
ids_filled i (a ∷ rest) = ap (λ (ids : List Text). a.id ∷ ids) (ids_filled (index_after i a) rest)

ids_rules : (rows : List Argument) → map (λ (r : Rule). r.id) (rules_for rows ++ help_rule ∷ []) ≡ ids_of rows ++ codes "help" ∷ []
ids_rules [] = refl
ids_rules (row ∷ rows) = ap (λ (ids : List Text). row.id ∷ ids) (ids_rules rows)

-- ## The kinds of argument

abbrev built_rule : ℕ → Text → Option ℕ → Kind → Bool → Rule
built_rule i id letter kind required = with_index i (filled (rule_with_letter letter (record (kind_rule id kind) { required = required })))

some_not_all : (most : ℕ) → fits (Words most) ≡ true → (most == usize_max) ≡ false
some_not_all most fits = grind (arith, nat_tests)

abbrev ActsAs : Kind → Rule → Type 0
ActsAs Flag a = action_of a ≡ SetTrue
ActsAs (Many form) a = action_of a ≡ Append
ActsAs kind a = TakesSome a

acts_as : (i : ℕ) (id : Text) (letter : Option ℕ) (required : Bool) (kind : Kind) → is_fit kind letter ≡ true
    → ActsAs kind (built_rule i id letter kind required)
acts_as i id None required Word fits = (refl, refl, refl)
acts_as i id None required (Value form) fits = (refl, refl, refl)
acts_as i id None required (Words most) fits = (rw (some_not_all most fits) refl, refl, rw (some_not_all most fits) refl)
acts_as i id None required Size fits = (refl, refl, refl)
acts_as i id (Some letter) required Word fits = absurd (true≢false (sym fits))
acts_as i id (Some letter) required (Value form) fits = absurd (true≢false (sym fits))
acts_as i id (Some letter) required (Words most) fits = absurd (true≢false (sym (both _ _ fits).1))
acts_as i id (Some letter) required Size fits = absurd (true≢false (sym fits))
acts_as i id letter required Flag fits = refl
acts_as i id letter required (One form) fits = (refl, refl, refl)
acts_as i id letter required Count fits = (refl, refl, refl)
acts_as i id letter required (Many form) fits = refl

takes_or_not : (kind : Kind) (a : Rule) → ActsAs kind a → TakesSome a ⊎ (action_of a ≡ Set → ⊥)
takes_or_not Flag a acts = inr (λ set. cc)
takes_or_not (Many form) a acts = inr (λ set. cc)
takes_or_not kind a acts = inl acts

-- what may be required takes a value at least
takes_some : (kind : Kind) (a : Rule) → can_be_required kind ≡ true → ActsAs kind a → TakesSome a
takes_some Flag a can acts = absurd (true≢false (sym can))
takes_some (Many form) a can acts = absurd (true≢false (sym can))
takes_some kind a can acts = acts

help_free : action_of (filled help_rule) ≡ Set → ⊥
help_free set = cc

all_rules : (c : List Rule) (i : ℕ) (rows : List Argument) → list_all (λ row. is_fit row.kind row.letter) rows ≡ true
    → AllOwn c (filled_from i (rules_for rows ++ help_rule ∷ [])) → AllRules c (filled_from i (rules_for rows ++ help_rule ∷ []))
all_rules c i [] fits own = (record { own = own.0; takes = inr help_free }, tt)
all_rules c i (row ∷ rows) fits own =
    let parts = both _ _ fits in (
      record {
        own = own.0;
        takes = takes_or_not row.kind (built_rule i row.id row.letter row.kind row.is_required) (acts_as i row.id row.letter row.is_required row.kind parts.0);
      },
      all_rules c (index_after i (rule_for row)) rows parts.1 own.1,
    )

record IsSound (entry : Entry) : Type 0 where
  fits : list_all (λ row. is_fit row.kind row.letter) (rows_for entry.verb) ≡ true
  requires : list_all (λ row. not row.is_required || can_be_required row.kind) (rows_for entry.verb) ≡ true
  distinct : are_distinct (ids_of (rows_for entry.verb) ++ codes "help" ∷ []) ≡ true

sound_parts : (entry : Entry) → is_sound entry ≡ true → IsSound entry
sound_parts entry sound =
    let one = both _ _ sound in
    let two = both _ _ one.1 in
    record { fits = one.0; requires = two.0; distinct = two.1 }

entry_own : (entry : Entry) → is_sound entry ≡ true → AllOwn (below (leaf_shape entry)).rules (below (leaf_shape entry)).rules
entry_own entry sound =
    all_own (below (leaf_shape entry)).rules
    (ap are_distinct (ids_filled 1 (rules_for (rows_for entry.verb) ++ help_rule ∷ []) ∙ ids_rules (rows_for entry.verb)) ∙ (sound_parts entry sound).distinct)

pub entry_leaf : (entry : Entry) → is_sound entry ≡ true → IsLeaf (below (leaf_shape entry))
entry_leaf entry sound = record {
  rules = all_rules (below (leaf_shape entry)).rules 1 (rows_for entry.verb) (sound_parts entry sound).fits (entry_own entry sound);
  negates = refl;
  once = refl;
}

-- ## What words with no fault give

row_holds : (s : Shape) → IsLeaf s → (i : ℕ) (id : Text) (letter : Option ℕ) (required : Bool) (kind : Kind) → is_fit kind letter ≡ true
    → (not required || can_be_required kind) ≡ true → arg_by_id s.rules id ≡ Some (built_rule i id letter kind required) → (words : List Text) → Faultless s words
    → HasWhere required id (rows_after s.rules [] words) × HasSomeWhere required id (rows_after s.rules [] words) × IsTaken kind id (rows_after s.rules [] words)
row_holds s leaf i id letter required kind fits can own words none =
    let has = where_required required can own in
    (has, some_where required has, taken kind letter fits own)
  where
    where_required : (required : Bool) → (not required || can_be_required kind) ≡ true → arg_by_id s.rules id ≡ Some (built_rule i id letter kind required)
        → HasWhere required id (rows_after s.rules [] words)
    where_required false can own = tt
    where_required true can own =
        has_word s leaf (built_rule i id letter kind true) own refl (takes_some kind (built_rule i id letter kind true) can (acts_as i id letter true kind fits)) words none

    some_where : (required : Bool) → HasWhere required id (rows_after s.rules [] words) → HasSomeWhere required id (rows_after s.rules [] words)
    some_where true has = some_values id (rows_after s.rules [] words) has
    some_where false has = tt

    up_to : (most : ℕ) (o : Option Row) → ((r : Row) → o ≡ Some r → Fits (built_rule i id None (Words most) required) r.values)
        → length (unwrap_or (option_map (λ (r : Row). r.values) o) []) ≤ most
    up_to most None given = omega arith
    up_to most (Some r) given = (one_up_to most (length r.values) (given r refl).0).1

    taken : (kind : Kind) (letter : Option ℕ) → is_fit kind letter ≡ true → arg_by_id s.rules id ≡ Some (built_rule i id letter kind required)
        → IsTaken kind id (rows_after s.rules [] words)
    taken Word letter fits own = tt
    taken (Value form) letter fits own = tt
    taken (Words most) None fits own =
        up_to most (find (λ x. bytes_eq x.id id) (rows_after s.rules [] words))
        (λ r is. (fit s leaf (built_rule i id None (Words most) required) own (rw (some_not_all most fits) refl) words none r is).0)
    taken (Words most) (Some letter) fits own = absurd (true≢false (sym (both _ _ fits).1))
    taken Flag letter fits own = tt
    taken (One form) letter fits own = tt
    taken (Many form) letter fits own = tt
    taken Size None fits own = has_number s leaf (built_rule i id None Size required) own refl refl 8 MOST_BLOCKS refl refl words none
    taken Size (Some letter) fits own = absurd (true≢false (sym fits))
    taken Count letter fits own = has_number s leaf (built_rule i id letter Count required) own refl refl 1 most_steps refl refl words none

rows_hold : (s : Shape) → IsLeaf s → (i : ℕ) (rows : List Argument) → list_all (λ row. is_fit row.kind row.letter) rows ≡ true
    → list_all (λ row. not row.is_required || can_be_required row.kind) rows ≡ true → AllOwn s.rules (filled_from i (rules_for rows ++ help_rule ∷ []))
    → (words : List Text) → Faultless s words → AllHold rows (rows_after s.rules [] words)
rows_hold s leaf i [] fits can own words none = tt
rows_hold s leaf i (row ∷ rows) fits can own words none =
    let fit = both _ _ fits in
    let may = both _ _ can in
    (row_holds s leaf i row.id row.letter row.is_required row.kind fit.0 may.0 own.0 words none, rows_hold s leaf (index_after i (rule_for row)) rows fit.1 may.1 own.1 words none)

-- a subcommand of a sound table, entered with no fault, has what the table says
pub entry_holds : (entry : Entry) → is_sound entry ≡ true → (words : List Text) → Faultless (below (leaf_shape entry)) words
    → AllHold (rows_for entry.verb) (rows_after (below (leaf_shape entry)).rules [] words)
entry_holds entry sound words none =
    let parts = sound_parts entry sound in
    rows_hold (below (leaf_shape entry)) (entry_leaf entry sound) 1 (rows_for entry.verb) parts.fits parts.requires (entry_own entry sound) words none
