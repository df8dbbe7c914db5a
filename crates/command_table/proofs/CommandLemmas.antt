-- An argument with one setting more, and a command with one part more.
use Rattle.command_table.proofs.Names.{not_empty, ◌≡◌, ◌∙◌, ◌||◌, ◌<◌, ℕ, List, Bool, ap, ap₂, refl, subst, true, false, Rule, rule_of, App, with_rule, with_subcommand, AddsArg, AddsSubcommand, ◌+◌, ◌≤◌, ◌++◌, ◌∷◌, [], length, map, take, sym, list_all, slice_index_or, true≢false, list_all-map, list_all_at, both, Bor, map_more, take_all, map-map, Text}
use Rattle.clap.specs.declared.builder.arg.Arg.{Arg}
use Rattle.clap.specs.declared.builder.command.Command.{Command}
use Rattle.command_table.specs.declared.table.ArgumentOf.{ArgumentOf}
use Rattle.command_table.specs.declared.table.EntryOf.{EntryOf}
use Rattle.command_table.specs.Tables.{app_of_table, app_with, rows_for, leaf_app, leaf_shape, leaf_with, rule_for, rules_for, entry_of, row_of, IsCommand}
use Rattle.command_table.specs.Steps.{is_fit, is_sound, IsArgument, with_leaf}

-- ## Arguments

-- the same argument to `clap`, but for what a setting changes
changed : (old new after : Arg) (f : Rule → Rule) (rule : Rule) → new ≡ after → rule_of after ≡ f (rule_of old) → after.global ≡ old.global
    → IsArgument old rule → IsArgument new (f rule)
unfolding IsArgument
changed old new after f rule is of local old_is = (ap rule_of is ∙ (of ∙ ap f old_is.0), ap (λ (a : Arg). a.global) is ∙ (local ∙ old_is.1))

pub helped_too : (old new : Arg) (rule : Rule) (help : _) → new ≡ record old { help = help } → IsArgument old rule → IsArgument new rule
helped_too old new rule help is = changed old new (record old { help = help }) (λ r. r) rule is refl refl

pub required_as : (old new : Arg) (rule : Rule) (flag : Bool) → new ≡ record old { required = flag } → IsArgument old rule → IsArgument new (record rule { required = flag })
required_as old new rule flag is = changed old new (record old { required = flag }) (λ r. record r { required = flag }) rule is refl refl

pub hidden_as : (old new : Arg) (rule : Rule) (flag : Bool) → new ≡ record old { hide = flag } → IsArgument old rule → IsArgument new rule
hidden_as old new rule flag is = changed old new (record old { hide = flag }) (λ r. r) rule is refl refl

-- ## Commands

adds_argument : (old new : Command) (argument : Arg) (app : App) (rule : Rule) → AddsArg old argument new → IsArgument argument rule → IsCommand old app
    → IsCommand new (with_rule app rule)
unfolding IsArgument IsCommand
adds_argument old new argument app rule adds of is =
    (adds.shape of.1 ∙ ap₂ with_rule is.0 of.0, adds.globals ∙ ap₂ (λ (a b : Bool). a || b) is.1 of.1)

adds_leaf : (old new leaf : Command) (app sub : App) → AddsSubcommand old leaf new → IsCommand old app → IsCommand leaf sub
    → IsCommand new (with_leaf app sub)
unfolding IsCommand
adds_leaf old new leaf app sub adds is given =
    (adds.shape given.1 ∙ ap₂ with_subcommand is.0 (ap (λ (a : App). a.top) given.0), adds.globals ∙ ap₂ (λ (a b : Bool). a || b) is.1 given.1)

-- ## The loops over the table

-- one row more
pub row_more : (old new : Command) (argument : Arg) (word : Text) (rows : List (ArgumentOf (Bor Text))) (i : ℕ) (d : ArgumentOf (Bor Text)) → i < length rows
    → IsCommand old (leaf_with word (map (λ row. rule_for (row_of row)) (take i rows))) → AddsArg old argument new
    → IsArgument argument (rule_for (row_of (slice_index_or rows i d))) → IsCommand new (leaf_with word (map (λ row. rule_for (row_of row)) (take (i + 1) rows)))
row_more old new argument word rows i d here is adds of =
    subst (λ rules. IsCommand new (leaf_with word rules)) (sym (map_more (λ row. rule_for (row_of row)) rows i d here))
    (adds_argument old new argument (leaf_with word (map (λ row. rule_for (row_of row)) (take i rows))) (rule_for (row_of (slice_index_or rows i d))) adds of is)

-- and all of them
pub rows_all : (command : Command) (word : Text) (rows : List (ArgumentOf (Bor Text))) (i : ℕ) → length rows ≤ i
    → IsCommand command (leaf_with word (map (λ row. rule_for (row_of row)) (take i rows))) → IsCommand command (leaf_with word (rules_for (map row_of rows)))
rows_all command word rows i past is =
    subst (λ rules. IsCommand command (leaf_with word rules)) (ap (map (λ row. rule_for (row_of row))) (take_all i rows past) ∙ sym (map-map rule_for row_of rows)) is

abbrev DeclaredEntry : Type 0
DeclaredEntry = EntryOf (Bor Text)

-- one entry more
pub entry_more : (old new leaf : Command) (entries : List DeclaredEntry) (i : ℕ) (d : DeclaredEntry) → i < length entries
    → IsCommand old (app_with (map (λ entry. leaf_shape (entry_of entry)) (take i entries))) → AddsSubcommand old leaf new → IsCommand leaf (leaf_app (entry_of (slice_index_or entries i d)))
    → IsCommand new (app_with (map (λ entry. leaf_shape (entry_of entry)) (take (i + 1) entries)))
entry_more old new leaf entries i d here is adds of =
    let subs = map (λ entry. leaf_shape (entry_of entry)) (take i entries) in
    let entry = entry_of (slice_index_or entries i d) in
    let added : IsCommand new (with_leaf (app_with subs) (leaf_app entry)) = adds_leaf old new leaf (app_with subs) (leaf_app entry) adds is of in
    let now_some : with_leaf (app_with subs) (leaf_app entry) ≡ app_with (subs ++ leaf_shape entry ∷ []) =
    ap (λ b. let app : App = record (app_with (subs ++ leaf_shape entry ∷ [])) { top = record (app_with subs).top { is_leaf = b } } in app) (sym (not_empty subs (leaf_shape entry))) in
    subst (λ app. IsCommand new app) (now_some ∙ ap app_with (sym (map_more (λ entry. leaf_shape (entry_of entry)) entries i d here))) added

-- and all of them
pub entries_all : (command : Command) (entries : List DeclaredEntry) (i : ℕ) → length entries ≤ i
    → IsCommand command (app_with (map (λ entry. leaf_shape (entry_of entry)) (take i entries))) → IsCommand command (app_of_table (map entry_of entries))
entries_all command entries i past is =
    subst (λ subs. IsCommand command (app_with subs)) (ap (map (λ entry. leaf_shape (entry_of entry))) (take_all i entries past) ∙ sym (map-map leaf_shape entry_of entries)) is

-- a test of all of a list, at one place of it
all_at : {X Y : Type 0} (p : Y → Bool) (f : X → Y) (xs : List X) (i : ℕ) (d : X) → i < length xs → list_all p (map f xs) ≡ true → p (f (slice_index_or xs i d)) ≡ true
all_at p f xs i d here all = go (p (f (slice_index_or xs i d))) refl
  where
    go : (b : Bool) → p (f (slice_index_or xs i d)) ≡ b → p (f (slice_index_or xs i d)) ≡ true
    go true is = is
    go false is = absurd (true≢false (sym all ∙ (list_all-map p f xs ∙ list_all_at (λ x. p (f x)) xs i d here is)))

pub row_fits : (entry : DeclaredEntry) (rows : List (ArgumentOf (Bor Text))) → map row_of rows ≡ rows_for entry.verb → (i : ℕ) (d : ArgumentOf (Bor Text)) → i < length rows
    → is_sound (entry_of entry) ≡ true → is_fit (slice_index_or rows i d).kind (slice_index_or rows i d).letter ≡ true
row_fits entry rows are i d here sound =
    all_at (λ row. is_fit row.kind row.letter) row_of rows i d here (ap (list_all (λ row. is_fit row.kind row.letter)) are ∙ (both _ _ sound).0)

pub entry_fits : (entries : List DeclaredEntry) (i : ℕ) (d : DeclaredEntry) → i < length entries → list_all is_sound (map entry_of entries) ≡ true
    → is_sound (entry_of (slice_index_or entries i d)) ≡ true
entry_fits entries i d here sound = all_at is_sound entry_of entries i d here sound
