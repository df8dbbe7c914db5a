-- Words in which clap finds no fault name a subcommand of the table, with what its arguments say.
use Rattle.command_table.proofs.Names.{or-false, ◌≡◌, ◌≢◌, Result, Ok, Err, IfErr, ◌∙◌, Bool, cond, codes, true, false, refl, sym, ap, subst, inl, inr, true≢false, List, [], ◌∷◌, ◌++◌, map, Option, Some, None, is_some, find, option_map, list_all, option_map_or, bytes_eq, map-append, map-map, bytes_eq-Decides, both, Row, Text, answers_to, nothing_held, walk, App, Shape, argument_words, built, built_leaf, entered, help_shape, inherited, label_of, marked_built, names_of, rows_at, subcommand_of, HasKind, IsAmong, entered_fault, fault_of, level_fault, HasMatchesOf, is_simple, is_simple_and_free, kind_of, subcommand_rows_of, app_of, takes}
use Rattle.clap.specs.declared.builder.command.Command.{Command}
use Rattle.clap.specs.declared.parser.matches.ArgMatches.{ArgMatches}
use Rattle.clap.specs.declared.error.Error.{Error}
use Rattle.clap.specs.declared.error.kind.ErrorKind.TheVariants.{OutOfMemory}
use Rattle.program_tasks.specs.declared.tasks.Task.{Task}
use Rattle.command_table.specs.Tables.{IsCommand, Entry, entry_named, leaf_shape, pdp8, table}
use Rattle.command_table.specs.Steps.{is_sound}
use Rattle.command_line.specs.Steps.{GivesMet, HasMet, IsWhole}
use Rattle.command_refusals.specs.declared.faults.TaskFault.{TaskFault}
use Rattle.command_refusals.specs.declared.faults.TaskFault.TheVariants.{Words, Memory, Refused}
use Rattle.command_line.specs.Tasks.{Answers, Asks, IsPastClap, Refuses}
use Rattle.command_refusals.specs.Faults.{IsFaultOf}
use Rattle.command_line.proofs.LeafLemmas.{above, below}
use Rattle.command_line.proofs.TableLemmas.{entry_holds}
use Rattle.command_line.proofs.WalkLemmas.{AllRules, IsNoHelp, level_stops}
use Rattle.command_table.proofs.OptionLemmas.{some_eq}

-- ## The table

pub sound : list_all is_sound table ≡ true
sound = refl

-- ## The whole command

abbrev leaves : List Shape
leaves = map leaf_shape table

-- the program with these subcommands, of which there are some
abbrev app_on : List Shape → App
app_on subs = record { top = above; subs = subs }

is_on : pdp8 ≡ app_on leaves
is_on = refl

built_subs : (subs : List Shape) → (built (app_on subs)).subs ≡ map below subs ++ below help_shape ∷ []
built_subs subs =
    map-append built_leaf (map (inherited (marked_built above)) subs) (help_shape ∷ [])
    ∙ ap (λ (s : List Shape). s ++ below help_shape ∷ []) (map-map built_leaf (inherited (marked_built above)) subs)

pub pdp8_subs : (built pdp8).subs ≡ map below leaves ++ below help_shape ∷ []
pdp8_subs = ap (λ (a : App). (built a).subs) is_on ∙ built_subs leaves

same_way : (a b : Text) → bytes_eq a b ≡ bytes_eq b a
same_way a b = go (bytes_eq a b) (bytes_eq b a) refl refl
  where
    go : (x y : Bool) → bytes_eq a b ≡ x → bytes_eq b a ≡ y → x ≡ y
    go true true one other = refl
    go false false one other = refl
    go true false one other = absurd (true≢false (sym ((bytes_eq-Decides b a).1 (sym ((bytes_eq-Decides a b).0 one))) ∙ other))
    go false true one other = absurd (true≢false (sym ((bytes_eq-Decides a b).1 (sym ((bytes_eq-Decides b a).0 other))) ∙ one))

-- a word but `help` names the subcommand of its entry
pub subs_found : (word : Text) (entries : List Entry) → bytes_eq word (codes "help") ≡ false
    → find (λ s. answers_to word (label_of s)) (map below (map leaf_shape entries) ++ below help_shape ∷ [])
    ≡ option_map (λ entry. below (leaf_shape entry)) (find (λ entry. bytes_eq word entry.word) entries)
subs_found word [] no_help =
    ap (λ b. cond b (Some (below help_shape)) None) (or-false (bytes_eq (codes "help") word) ∙ (same_way (codes "help") word ∙ no_help))
subs_found word (x ∷ xs) no_help =
    ap (λ b. cond b (Some (below (leaf_shape x))) (find (λ s. answers_to word (label_of s)) (map below (map leaf_shape xs) ++ below help_shape ∷ [])))
    (or-false (bytes_eq x.word word) ∙ same_way x.word word) ∙ go (bytes_eq word x.word) (subs_found word xs no_help)
  where
    go : (b : Bool) → find (λ s. answers_to word (label_of s)) (map below (map leaf_shape xs) ++ below help_shape ∷ [])
        ≡ option_map (λ entry. below (leaf_shape entry)) (find (λ entry. bytes_eq word entry.word) xs)
        → cond b (Some (below (leaf_shape x))) (find (λ s. answers_to word (label_of s)) (map below (map leaf_shape xs) ++ below help_shape ∷ []))
        ≡ option_map (λ entry. below (leaf_shape entry)) (cond b (Some x) (find (λ entry. bytes_eq word entry.word) xs))
    go true later = refl
    go false later = later

-- the entry that is found has the name, and is sound where all are
pub found_entry : (word : Text) (entries : List Entry) (entry : Entry) → list_all is_sound entries ≡ true → find (λ e. bytes_eq word e.word) entries ≡ Some entry
    → (entry.word ≡ word) × (is_sound entry ≡ true)
found_entry word [] entry sound is = absurd (cc)
found_entry word (x ∷ xs) entry sound is = go (λ later. found_entry word xs entry (both _ _ sound).1 later) (bytes_eq word x.word) refl is
  where
    go : (find (λ e. bytes_eq word e.word) xs ≡ Some entry → (entry.word ≡ word) × (is_sound entry ≡ true)) → (b : Bool) → bytes_eq word x.word ≡ b
        → cond b (Some x) (find (λ e. bytes_eq word e.word) xs) ≡ Some entry → (entry.word ≡ word) × (is_sound entry ≡ true)
    go later true same is =
        let here = some_eq x entry is in
        (ap (λ (e : Entry). e.word) (sym here) ∙ sym ((bytes_eq-Decides word x.word).0 same), ap is_sound (sym here) ∙ (both _ _ sound).0)
    go later false other is = later is

entered_whole : (stop : Option (Text × List Text)) → IsNoHelp stop → is_some (entered (built pdp8) stop) ≡ true → entered_fault (built pdp8) stop ≡ []
    → HasMet (entered (built pdp8) stop)
entered_whole None past met none = absurd (true≢false (sym met))
entered_whole (Some p) past met none = subst Fits (sym found) (go (find (λ entry. bytes_eq p.0 entry.word) table) refl) met none
  where
    Fits : Option Shape → Type 0
    Fits o = is_some (option_map (λ s. rows_at s p.1) o) ≡ true → option_map_or (λ s. level_fault s [] nothing_held p.1 false []) o [] ≡ []
        → HasMet (option_map (λ s. rows_at s p.1) o)

    found : find (λ s. answers_to p.0 (label_of s)) (built pdp8).subs
        ≡ option_map (λ entry. below (leaf_shape entry)) (find (λ entry. bytes_eq p.0 entry.word) table)
    found = ap (find (λ s. answers_to p.0 (label_of s))) pdp8_subs ∙ subs_found p.0 table past

    go : (o : Option Entry) → find (λ entry. bytes_eq p.0 entry.word) table ≡ o → Fits (option_map (λ entry. below (leaf_shape entry)) o)
    go None is = λ met none. absurd (true≢false (sym met))
    go (Some entry) is = λ met none.
        let had = found_entry p.0 table entry sound is in
        (entry, subst (λ (word : Text). entry_named word ≡ Some entry) (sym had.0) is, entry_holds entry had.1 p.1 none)

-- the program's own arguments take no value
top_rules : AllRules (built pdp8).top.rules (built pdp8).top.rules
top_rules = (record { own = refl; takes = inr (λ set. cc) }, (record { own = refl; takes = inr (λ set. cc) }, tt))

-- words with no fault ask for a subcommand that has what it needs
pub task_whole : (words : List Text) → fault_of pdp8 words ≡ [] → HasMet (subcommand_of pdp8 words)
task_whole words none =
    let top = (built pdp8).top in
    let names = names_of (built pdp8) in
    let stop = (walk top.rules names nothing_held (argument_words pdp8 words)).stopped in
    let stops = level_stops top refl refl refl top_rules names (argument_words pdp8 words) (is_some (entered (built pdp8) stop)) (entered_fault (built pdp8) stop) none in
    entered_whole stop stops.0 stops.1 stops.2

-- ## What a parse says of the words

pub is_pdp8 : (command : Command) → IsCommand command pdp8 → app_of command ≡ pdp8
unfolding IsCommand
is_pdp8 command is = is.0

is_free : is_simple_and_free pdp8 ≡ true
is_free = refl

pub is_plain : is_simple pdp8 ≡ true
is_plain = refl

pub no_fault : (app : App) (words : List Text) → app ≡ pdp8 → (is_simple_and_free app ≡ true → fault_of app words ≡ []) → fault_of pdp8 words ≡ []
no_fault app words same faults = ap (λ (a : App). fault_of a words) (sym same) ∙ faults (ap is_simple_and_free same ∙ is_free)

pub met_rows : (app : App) (words : List Text) (matches : ArgMatches) → app ≡ pdp8 → HasMatchesOf app words matches
    → subcommand_rows_of matches ≡ subcommand_of pdp8 words
met_rows app words matches same has = (has (ap is_simple same ∙ is_plain)).1 ∙ ap (λ (a : App). subcommand_of a words) same

memory_fault : (error : Error) (fault : TaskFault) → IsFaultOf error fault → kind_of error ≡ OutOfMemory → fault ≡ Memory
memory_fault error (Words same) is memory = absurd (is.1 memory)
memory_fault error Memory is memory = refl
memory_fault error (Refused line refusal) is memory = absurd is

-- the subcommand that was met, with its name and what was found for it, has what it needs
pub met_whole : {S : Type 0} (met : Option S) (name_of : S → Text) (found_for : S → List Row) (name : Text) (rows : List Row) → Some name ≡ option_map name_of met
    → Some rows ≡ option_map (λ (p : Text × List Row). p.1) (option_map (λ s. (name_of s, found_for s)) met) → HasMet (option_map (λ s. (name_of s, found_for s)) met)
    → IsWhole name rows
met_whole None name_of found_for name rows named found has = absurd has
met_whole (Some s) name_of found_for name rows named found has =
    subst (λ (n : Text). IsWhole n rows) (some_eq (name_of s) name (sym named))
    (subst (λ (r : List Row). IsWhole (name_of s) r) (some_eq (found_for s) rows (sym found)) has)

-- what is asked for is answered, or why it is refused
pub asked_answer : (words : List Text) (met : Option (Text × List Row)) (asked : Result Task TaskFault) → subcommand_of pdp8 words ≡ met
    → fault_of pdp8 words ≡ [] → GivesMet met asked → Answers words asked
asked_answer words met (Ok task) same none gives = (none, subst (λ (m : Option (Text × List Row)). Asks m task) (sym same) gives.0, gives.1)
asked_answer words met (Err (Words error)) same none gives = absurd gives
asked_answer words met (Err Memory) same none gives = tt
asked_answer words met (Err (Refused line refusal)) same none gives = (none, subst (λ (m : Option (Text × List Row)). Refuses m line.now refusal) (sym same) gives)

pub asked_kind : (met : Option (Text × List Row)) (asked : Result Task TaskFault) → GivesMet met asked → IfErr asked IsPastClap
asked_kind met (Ok task) gives = tt
asked_kind met (Err (Words error)) gives = gives
asked_kind met (Err Memory) gives = tt
asked_kind met (Err (Refused line refusal)) gives = tt

-- an error at words that the command takes is want of memory
pub taken_fault : (app : App) (words : List Text) (error : Error) (fault : TaskFault) → app ≡ pdp8
    → (takes app words ≡ true → kind_of error ≡ OutOfMemory) → IsFaultOf error fault → takes pdp8 words ≡ true → IsPastClap fault
taken_fault app words error fault same passes is takes_them =
    subst IsPastClap (sym (memory_fault error fault is (passes (ap (λ (a : App). takes a words) same ∙ takes_them)))) tt

-- an error is of a kind that the words meet, or want of memory
pub fault_answer : (app : App) (words : List Text) (error : Error) (fault : TaskFault) → app ≡ pdp8
    → (is_simple_and_free app ≡ true → HasKind (fault_of app words) error) → IsFaultOf error fault → Answers words (Err fault)
fault_answer app words error Memory same kinds is = tt
fault_answer app words error (Refused line refusal) same kinds is = absurd is
fault_answer app words error (Words other) same kinds is =
    met (subst (λ (a : App). HasKind (fault_of a words) error) same (kinds (ap is_simple_and_free same ∙ is_free)))
  where
    met : HasKind (fault_of pdp8 words) error → Answers words (Err (Words other))
    met (inr among) = (subst (λ (e : Error). IsAmong (kind_of e) (fault_of pdp8 words)) (sym is.0) among, subst (λ (e : Error). kind_of e ≢ OutOfMemory) (sym is.0) is.1)
    met (inl memory) = absurd (is.1 memory)
