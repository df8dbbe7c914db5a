-- Plain words and long options, as a subcommand takes them one after the other.
use Rattle.command_table.proofs.Names.{is_false, ◌≡◌, ◌∙◌, ◌&&◌, ◌||◌, if◌then◌else◌, ℕ, Bool, cond, true, false, not, refl, ap, sym, List, [], ◌∷◌, Option, Some, None, is_some, true≢false, ⊤, fold, nat_lt, option_and_then, ◌==◌, list_all, option_map_or, bytes_eq, ne_eqb, bytes_eq-Decides, both, long_of, long_of_rest, short_of, short_of_rest, strip_byte, Held, Row, Rule, Step, Text, Waiting, Walk, idle, option, positional, next, trailing, value, after_flag, after_step, arg_by_id, arg_by_index, arg_by_long, finished, flag_met, is_multiple, long_met, long_or_other, most_values, next_position, nothing_held, option_met, option_word, pending_count, plain_word, positional_held, pushed, reacted, rows_after, settled, short_or_plain, subcommand_met, subcommand_or_other, takes_values, to_positional, walked, word_met, Shape, bundle_passes, default_passes, flag_word_passes, is_valid, level_passes, long_passes, option_passes, other_passes, positional_passes, react_passes, settle_passes, step_passes, walk_passes, word_passes}
use Rattle.command_line.specs.Plain.{ArePlain, IsPlain, Use, alone, in_place, with_value, words_of}
use Rattle.command_line.proofs.EnterLemmas.{both_true}
use Rattle.command_table.proofs.NumberLemmas.{none_some}
use Rattle.command_table.proofs.OptionLemmas.{some_eq}

-- the word is no option and no `--`
record IsNoOption (word : Text) : Type 0 where
  pub no_long : long_of word ≡ None
  pub no_short : short_of word ≡ None
  pub no_dashes : bytes_eq word (45 ∷ 45 ∷ []) ≡ false

no_option : (word : Text) → IsPlain word → IsNoOption word
no_option [] plain = record { no_long = refl; no_short = refl; no_dashes = refl }
no_option (b ∷ []) plain = record { no_long = one (b == 45); no_short = short (b == 45); no_dashes = last (b == 45) }
  where
    one : (is : Bool) → option_and_then long_of_rest (option_and_then (strip_byte 45) (if is then Some [] else None)) ≡ None
    one true = refl
    one false = refl

    short : (is : Bool) → option_and_then short_of_rest (if is then Some [] else None) ≡ None
    short true = refl
    short false = refl

    last : (is : Bool) → (is && false) ≡ false
    last true = refl
    last false = refl
no_option (b ∷ other ∷ rest) plain = record {
  no_long = rw (ne_eqb b 45 plain) refl;
  no_short = rw (ne_eqb b 45 plain) refl;
  no_dashes = rw (ne_eqb b 45 plain) refl;
}

-- ## What stands in the words

-- an option waits for its value, and gets it
abbrev waiting_held : List Rule → Rule → Held → Held
waiting_held c a h = record (settled c h) { pending = Some (a.id, []) }

abbrev option_held : List Rule → Rule → Text → Held → Held
option_held c a word h = pushed a.id word (waiting_held c a h)

-- the name is read as it is
abbrev reads_name : Text → Bool
reads_name name = option_map_or (λ p. bytes_eq p.0 name && not (is_some p.1)) (long_of (45 ∷ 45 ∷ name)) false

-- the option has all its values
abbrev is_full : Shape → Rule → Text → Held → Bool
is_full s a word h = option_map_or (λ b. not (nat_lt (pending_count b (option_held s.rules a word h).pending) (most_values b))) (arg_by_id s.rules a.id) false

-- what is held after them, where each passes in its place
abbrev pub comes : Shape → Held → ℕ → List Use → Option Held
comes s h position [] = Some h
comes s h position (in_place id word ∷ rest) = option_and_then (λ a. if positional_passes s.rules s.args_override_self a h && not a.trailing_var_arg
    then comes s (positional_held s.rules a word h) (next_position a position) rest else None) (arg_by_index s.rules position)
comes s h position (alone id ∷ rest) = option_and_then (λ a. if reads_name id && (not (takes_values a) && react_passes s.rules s.args_override_self a [] h)
    then comes s (reacted s.rules a [] h) position rest else None) (arg_by_long s.rules id)
comes s h position (with_value id word ∷ rest) = option_and_then (λ a. if reads_name id && (takes_values a && (settle_passes s.rules s.args_override_self h && is_full s a word h))
    then comes s (option_held s.rules a word h) position rest else None) (arg_by_long s.rules id)

-- ## One word

abbrev stands : Held → Waiting → ℕ → Walk
stands h waiting position = record { held = h; waiting = waiting; position = position; is_trailing = false; stopped = None }

no_subcommand : (waiting : Waiting) (word : Text) → subcommand_met [] waiting word ≡ None
no_subcommand idle word = refl
no_subcommand (option id) word = refl
no_subcommand positional word = refl

word_read : (c : List Rule) (waiting : Waiting) (position : ℕ) (word : Text) (h : Held) → IsNoOption word
    → word_met c [] false waiting position word h ≡ plain_word c waiting word h
word_read c waiting position word h plain =
    ap (λ o. subcommand_or_other c o waiting position word h) (no_subcommand waiting word)
    ∙ (ap (λ b. cond b (h, trailing position) (long_or_other c waiting word (long_of word) h)) plain.no_dashes
    ∙ (ap (λ o. long_or_other c waiting word o h) plain.no_long ∙ ap (λ o. short_or_plain c waiting word o h) plain.no_short))

word_goes : (s : Shape) (waiting : Waiting) (word : Text) (h : Held) → IsNoOption word → word_passes s [] false waiting word h ≡ true
word_goes s waiting word h plain =
    ap (λ o. other_passes s o word h) (no_subcommand waiting word)
    ∙ (ap (λ b. b || flag_word_passes s.rules s.args_override_self (long_of word) word h) plain.no_dashes
    ∙ (ap (λ o. flag_word_passes s.rules s.args_override_self o word h) plain.no_long
    ∙ ap (λ o. option_map_or (λ flags. bundle_passes s.rules s.args_override_self flags h) o true) plain.no_short))

not_dashes : (name : Text) → long_of (45 ∷ 45 ∷ name) ≡ Some (name, None) → bytes_eq (45 ∷ 45 ∷ name) (45 ∷ 45 ∷ []) ≡ false
not_dashes [] read = absurd (cc)
not_dashes (x ∷ xs) read = refl

-- the name is that of this option
record IsNamed (s : Shape) (a : Rule) (name : Text) (takes : Bool) : Type 0 where
  pub read : long_of (45 ∷ 45 ∷ name) ≡ Some (name, None)
  pub found : arg_by_long s.rules name ≡ Some a
  pub takes_value : takes_values a ≡ takes

named_as : (s : Shape) (a : Rule) (name : Text) (takes : Bool) → reads_name name ≡ true → arg_by_long s.rules name ≡ Some a → takes_values a ≡ takes
    → IsNamed s a name takes
named_as s a name takes reads found takes_value = record { read = go (long_of (45 ∷ 45 ∷ name)) reads; found = found; takes_value = takes_value }
  where
    go : (o : Option (Text × Option Text)) → option_map_or (λ p. bytes_eq p.0 name && not (is_some p.1)) o false ≡ true → o ≡ Some (name, None)
    go None is = absurd (true≢false (sym is))
    go (Some (read, None)) is = ap (λ (n : Text). let p : Text × Option Text = (n, None) in Some p) ((bytes_eq-Decides read name).0 (both _ _ is).0)
    go (Some (read, Some given)) is = absurd (true≢false (sym (both _ _ is).1))

name_read : (s : Shape) (a : Rule) (name : Text) (takes : Bool) (waiting : Waiting) (position : ℕ) (h : Held) → IsNamed s a name takes
    → word_met s.rules [] false waiting position (45 ∷ 45 ∷ name) h
    ≡ (let met : Held × _ = if takes then option_met s.rules a None h else flag_met s.rules a None h in after_flag s.rules waiting (45 ∷ 45 ∷ name) met.0 met.1)
name_read s a name takes waiting position h named =
    ap (λ o. subcommand_or_other s.rules o waiting position (45 ∷ 45 ∷ name) h) (no_subcommand waiting (45 ∷ 45 ∷ name))
    ∙ (ap (λ b. cond b (h, trailing position) (long_or_other s.rules waiting (45 ∷ 45 ∷ name) (long_of (45 ∷ 45 ∷ name)) h)) (not_dashes name named.read)
    ∙ (ap (λ o. long_or_other s.rules waiting (45 ∷ 45 ∷ name) o h) named.read
    ∙ (ap (λ o. after_flag s.rules waiting (45 ∷ 45 ∷ name) (long_met s.rules o None h).0 (long_met s.rules o None h).1) named.found
    ∙ ap (λ b. after_flag s.rules waiting (45 ∷ 45 ∷ name) (if b then option_met s.rules a None h else flag_met s.rules a None h).0 (if b then option_met s.rules a None h else flag_met s.rules a None h).1) named.takes_value)))

name_goes : (s : Shape) (a : Rule) (name : Text) (takes : Bool) (waiting : Waiting) (h : Held) → IsNamed s a name takes
    → (if takes then option_passes s.rules s.args_override_self a None h else react_passes s.rules s.args_override_self a [] h) ≡ true
    → word_passes s [] false waiting (45 ∷ 45 ∷ name) h ≡ true
name_goes s a name takes waiting h named passes =
    ap (λ o. other_passes s o (45 ∷ 45 ∷ name) h) (no_subcommand waiting (45 ∷ 45 ∷ name))
    ∙ (ap (λ b. b || flag_word_passes s.rules s.args_override_self (long_of (45 ∷ 45 ∷ name)) (45 ∷ 45 ∷ name) h) (not_dashes name named.read)
    ∙ (ap (λ o. flag_word_passes s.rules s.args_override_self o (45 ∷ 45 ∷ name) h) named.read
    ∙ (ap (λ o. long_passes s.rules s.args_override_self o None h) named.found
    ∙ (ap (λ b. if b then option_passes s.rules s.args_override_self a None h else react_passes s.rules s.args_override_self a [] h) named.takes_value ∙ passes))))

-- ## The words

-- the walk takes the words from here, and comes to this
pub record Goes (s : Shape) (h : Held) (waiting : Waiting) (position : ℕ) (words : List Text) (last : Held) : Type 0 where
  pub passes : walk_passes s [] (stands h waiting position) words ≡ true
  pub ends : (fold (walked s.rules []) (stands h waiting position) words).held ≡ last

goes_on : (s : Shape) (h : Held) (waiting : Waiting) (position : ℕ) (word : Text) (rest : List Text) (last new_h : Held) (new_waiting : Waiting) (new_position : ℕ) (met : Held × Step)
    → word_met s.rules [] false waiting position word h ≡ met → word_passes s [] false waiting word h ≡ true → step_passes s position met.0 met.1 ≡ true
    → after_step s.rules word (stands h waiting position) met.0 met.1 ≡ stands new_h new_waiting new_position
    → Goes s new_h new_waiting new_position rest last → Goes s h waiting position (word ∷ rest) last
unfolding walk_passes walked
goes_on s h waiting position word rest last new_h new_waiting new_position met read word_is step_is is goes =
    let came = ap (λ (m : Held × Step). after_step s.rules word (stands h waiting position) m.0 m.1) read ∙ is in
    let turn = both_true _ _ word_is (ap (λ (m : Held × Step). step_passes s position m.0 m.1) read ∙ step_is) in
    record {
      passes = both_true _ _ turn (ap (λ (w : Walk). walk_passes s [] w rest) came ∙ goes.passes);
      ends = ap (λ (w : Walk). (fold (walked s.rules []) w rest).held) came ∙ goes.ends;
    }

-- nothing waits for the value of an option
abbrev IsFree : Waiting → Type 0
IsFree idle = ⊤
IsFree (option id) = ⊥
IsFree positional = ⊤

plain_value : (c : List Rule) (waiting : Waiting) (word : Text) (h : Held) → IsFree waiting → plain_word c waiting word h ≡ (h, value)
plain_value c idle word h free = refl
plain_value c (option id) word h free = absurd free
plain_value c positional word h free = refl

place_goes : (s : Shape) (a : Rule) (word : Text) (rest : List Text) (h : Held) (waiting : Waiting) (position : ℕ) (last : Held) → IsFree waiting → IsNoOption word
    → arg_by_index s.rules position ≡ Some a → positional_passes s.rules s.args_override_self a h ≡ true → a.trailing_var_arg ≡ false
    → Goes s (positional_held s.rules a word h) (if is_multiple a then positional else idle) (next_position a position) rest last
    → Goes s h waiting position (word ∷ rest) last
place_goes s a word rest h waiting position last free plain found passes no_end goes =
    goes_on s h waiting position word rest last (positional_held s.rules a word h) (if is_multiple a then positional else idle) (next_position a position) (h, value)
    (word_read s.rules waiting position word h plain ∙ plain_value s.rules waiting word h free) (word_goes s waiting word h plain)
    (ap (λ o. option_map_or (λ x. positional_passes s.rules s.args_override_self x h) o false) found ∙ passes)
    (ap (λ o. to_positional s.rules o word (stands h waiting position) h) found
    ∙ ap (λ (b : Bool). let w : Walk = record (stands (positional_held s.rules a word h) (if is_multiple a then positional else idle) (next_position a position)) { is_trailing = b } in w) no_end)
    goes

flag_goes : (s : Shape) (a : Rule) (name : Text) (rest : List Text) (h : Held) (waiting : Waiting) (position : ℕ) (last : Held) → IsNamed s a name false
    → react_passes s.rules s.args_override_self a [] h ≡ true → Goes s (reacted s.rules a [] h) idle position rest last
    → Goes s h waiting position ((45 ∷ 45 ∷ name) ∷ rest) last
flag_goes s a name rest h waiting position last named passes goes =
    goes_on s h waiting position (45 ∷ 45 ∷ name) rest last (reacted s.rules a [] h) idle position (reacted s.rules a [] h, next idle)
    (name_read s a name false waiting position h named) (name_goes s a name false waiting h named passes) refl refl goes

abbrev then_waits : Held → Waiting → Held × Step
then_waits h waiting = (h, next waiting)

option_goes : (s : Shape) (a : Rule) (name word : Text) (rest : List Text) (h : Held) (waiting : Waiting) (position : ℕ) (last : Held) → IsNoOption word
    → IsNamed s a name true → settle_passes s.rules s.args_override_self h ≡ true → is_full s a word h ≡ true
    → Goes s (option_held s.rules a word h) idle position rest last → Goes s h waiting position ((45 ∷ 45 ∷ name) ∷ word ∷ rest) last
option_goes s a name word rest h waiting position last plain named passes full goes =
    goes_on s h waiting position (45 ∷ 45 ∷ name) (word ∷ rest) last (waiting_held s.rules a h) (option a.id) position (waiting_held s.rules a h, next (option a.id))
    (name_read s a name true waiting position h named) (name_goes s a name true waiting h named passes) refl refl
    (goes_on s (waiting_held s.rules a h) (option a.id) position word rest last (option_held s.rules a word h) idle position (option_held s.rules a word h, next idle)
    (word_read s.rules (option a.id) position word (waiting_held s.rules a h) plain ∙ met (arg_by_id s.rules a.id) full)
    (word_goes s (option a.id) word (waiting_held s.rules a h) plain) refl refl goes)
  where
    met : (o : Option Rule) → option_map_or (λ b. not (nat_lt (pending_count b (option_held s.rules a word h).pending) (most_values b))) o false ≡ true
        → then_waits (option_word o a.id word (waiting_held s.rules a h)).0 (option_word o a.id word (waiting_held s.rules a h)).1 ≡ then_waits (option_held s.rules a word h) idle
    met None is = absurd (true≢false (sym is))
    met (Some b) is = go (nat_lt (pending_count b (option_held s.rules a word h).pending) (most_values b)) is
      where
        go : (more : Bool) → not more ≡ true
            → then_waits (option_held s.rules a word h) (if more then option a.id else idle) ≡ then_waits (option_held s.rules a word h) idle
        go true is = absurd (true≢false (sym is))
        go false is = refl

free_either : (b : Bool) → IsFree (if b then positional else idle)
free_either true = tt
free_either false = tt

if_some : {X : Type 0} (b : Bool) (o : Option X) (x : X) → (if b then o else None) ≡ Some x → (b ≡ true) × (o ≡ Some x)
if_some true o x is = (refl, is)
if_some false o x is = absurd (none_some x is)

all_go : (s : Shape) (uses : List Use) (h : Held) (waiting : Waiting) (position : ℕ) (last : Held) → IsFree waiting → ArePlain uses
    → comes s h position uses ≡ Some last → Goes s h waiting position (words_of uses) last
unfolding walk_passes
all_go s [] h waiting position last free plain is = record { passes = refl; ends = some_eq h last is }
all_go s (in_place id word ∷ rest) h waiting position last free plain is =
    go (λ a. all_go s rest (positional_held s.rules a word h) (if is_multiple a then positional else idle) (next_position a position) last (free_either (is_multiple a)) plain.1)
    (arg_by_index s.rules position) refl is
  where
    go : ((a : Rule) → comes s (positional_held s.rules a word h) (next_position a position) rest ≡ Some last
        → Goes s (positional_held s.rules a word h) (if is_multiple a then positional else idle) (next_position a position) (words_of rest) last)
        → (o : Option Rule) → arg_by_index s.rules position ≡ o
        → option_and_then (λ a. if positional_passes s.rules s.args_override_self a h && not a.trailing_var_arg
        then comes s (positional_held s.rules a word h) (next_position a position) rest else None) o ≡ Some last
        → Goes s h waiting position (word ∷ words_of rest) last
    go later None found is = absurd (none_some last is)
    go later (Some a) found is =
        let had = if_some _ _ last is in
        let tests = both _ _ had.0 in
        place_goes s a word (words_of rest) h waiting position last free (no_option word plain.0) found tests.0 (is_false a.trailing_var_arg tests.1) (later a had.1)
all_go s (alone id ∷ rest) h waiting position last free plain is =
    go (λ a. all_go s rest (reacted s.rules a [] h) idle position last tt plain) (arg_by_long s.rules id) refl is
  where
    go : ((a : Rule) → comes s (reacted s.rules a [] h) position rest ≡ Some last → Goes s (reacted s.rules a [] h) idle position (words_of rest) last)
        → (o : Option Rule) → arg_by_long s.rules id ≡ o
        → option_and_then (λ a. if reads_name id && (not (takes_values a) && react_passes s.rules s.args_override_self a [] h)
        then comes s (reacted s.rules a [] h) position rest else None) o ≡ Some last
        → Goes s h waiting position ((45 ∷ 45 ∷ id) ∷ words_of rest) last
    go later None found is = absurd (none_some last is)
    go later (Some a) found is =
        let had = if_some _ _ last is in
        let reads = both _ _ had.0 in
        let tests = both _ _ reads.1 in
        flag_goes s a id (words_of rest) h waiting position last (named_as s a id false reads.0 found (is_false (takes_values a) tests.0)) tests.1 (later a had.1)
all_go s (with_value id word ∷ rest) h waiting position last free plain is =
    go (λ a. all_go s rest (option_held s.rules a word h) idle position last tt plain.1) (arg_by_long s.rules id) refl is
  where
    go : ((a : Rule) → comes s (option_held s.rules a word h) position rest ≡ Some last → Goes s (option_held s.rules a word h) idle position (words_of rest) last)
        → (o : Option Rule) → arg_by_long s.rules id ≡ o
        → option_and_then (λ a. if reads_name id && (takes_values a && (settle_passes s.rules s.args_override_self h && is_full s a word h))
        then comes s (option_held s.rules a word h) position rest else None) o ≡ Some last
        → Goes s h waiting position ((45 ∷ 45 ∷ id) ∷ word ∷ words_of rest) last
    go later None found is = absurd (none_some last is)
    go later (Some a) found is =
        let had = if_some _ _ last is in
        let reads = both _ _ had.0 in
        let takes = both _ _ reads.1 in
        let tests = both _ _ takes.1 in
        option_goes s a id word (words_of rest) h waiting position last (no_option word plain.0) (named_as s a id true reads.0 found takes.0) tests.0 tests.1 (later a had.1)

-- ## The subcommand

abbrev pub ends : Shape → Held → Bool
ends s h = settle_passes s.rules s.args_override_self h && (list_all default_passes s.rules && is_valid s (finished s.rules h) false)

-- what the subcommand finds in the words, where it takes them
abbrev pub rows_taken : Shape → List Use → Option (List Row)
rows_taken s uses = option_and_then (λ h. if ends s h then Some (finished s.rules h) else None) (comes s nothing_held 1 uses)

pub level_taken : (s : Shape) (uses : List Use) (rows : List Row) → ArePlain uses → rows_taken s uses ≡ Some rows
    → (level_passes s [] nothing_held (words_of uses) false ≡ true) × (rows_after s.rules [] (words_of uses) ≡ rows)
level_taken s uses rows plain is = go (comes s nothing_held 1 uses) refl is
  where
    go : (o : Option Held) → comes s nothing_held 1 uses ≡ o → option_and_then (λ h. if ends s h then Some (finished s.rules h) else None) o ≡ Some rows
        → (level_passes s [] nothing_held (words_of uses) false ≡ true) × (rows_after s.rules [] (words_of uses) ≡ rows)
    go None come is = absurd (none_some rows is)
    go (Some last) come is =
        let goes = all_go s uses nothing_held idle 1 last tt plain come in
        let had = if_some _ _ rows is in
        (both_true _ _ goes.passes (ap (ends s) goes.ends ∙ had.0), ap (finished s.rules) goes.ends ∙ some_eq (finished s.rules last) rows had.1)
