-- Where the words name a subcommand, the words following it are that subcommand's own.
use Rattle.command_table.proofs.Names.{◌≡◌, ◌∙◌, ◌&&◌, Bool, codes, true, false, refl, sym, ap, ap₂, List, [], ◌∷◌, ◌++◌, append-nil, append_assoc, Option, Some, is_some, find, fold, option_map, list_all, option_map_or, bytes_eq, Names, Rule, Text, Walk, after_step, answers_to, finished, idle, nothing_held, subcommand_met, subcommand_or_other, walk, walk_from, walked, App, Shape, entered, label_of, names_of, rows_at, built_takes, default_passes, entered_passes, is_valid, level_passes, settle_passes, walk_passes, find-map}

-- the word names this subcommand
pub record Finds (a : App) (word : Text) (s : Shape) : Type 0 where
  pub found : find (λ x. answers_to word (label_of x)) a.subs ≡ Some s
  pub name : s.name ≡ word
  pub no_help : bytes_eq word (codes "help") ≡ false

met : (a : App) (word : Text) (s : Shape) → Finds a word s → subcommand_met (names_of a) idle word ≡ Some word
met a word s finds =
    ap (option_map (λ x. x.0)) (sym (find-map (answers_to word) label_of a.subs) ∙ ap (option_map label_of) finds.found) ∙ ap Some finds.name

-- where the walk stands once it has met the subcommand
abbrev stopped_at : Text → List Text → Walk
stopped_at word rest = record (walk_from nothing_held) { stopped = Some (word, rest) }

kept : (c : List Rule) (names : Names) (word : Text) (prefix rest : List Text)
    → fold (walked c names) (stopped_at word prefix) rest ≡ stopped_at word (prefix ++ rest)
unfolding walked
kept c names word prefix [] = ap (stopped_at word) (sym (append-nil prefix))
kept c names word prefix (next ∷ rest) = kept c names word (prefix ++ next ∷ []) rest ∙ ap (stopped_at word) (append_assoc prefix (next ∷ []) rest)

first_step : (a : App) (word : Text) → subcommand_met (names_of a) idle word ≡ Some word
    → walked a.top.rules (names_of a) (walk_from nothing_held) word ≡ stopped_at word []
unfolding walked
first_step a word is =
    ap (λ o. after_step a.top.rules word (walk_from nothing_held) (subcommand_or_other a.top.rules o idle 1 word nothing_held).0 (subcommand_or_other a.top.rules o idle 1 word nothing_held).1) is

walk_stops : (a : App) (word : Text) (rest : List Text) → subcommand_met (names_of a) idle word ≡ Some word
    → walk a.top.rules (names_of a) nothing_held (word ∷ rest) ≡ stopped_at word rest
walk_stops a word rest is =
    ap (λ w. fold (walked a.top.rules (names_of a)) w rest) (first_step a word is) ∙ kept a.top.rules (names_of a) word [] rest

passes_on : (s : Shape) (names : Names) (word : Text) (prefix rest : List Text) → walk_passes s names (stopped_at word prefix) rest ≡ true
unfolding walk_passes walked
passes_on s names word prefix [] = refl
passes_on s names word prefix (next ∷ rest) = passes_on s names word (prefix ++ next ∷ []) rest

walk_goes : (a : App) (word : Text) (rest : List Text) → subcommand_met (names_of a) idle word ≡ Some word → bytes_eq word (codes "help") ≡ false
    → walk_passes a.top (names_of a) (walk_from nothing_held) (word ∷ rest) ≡ true
unfolding walk_passes
walk_goes a word rest is no_help =
    rw (is, no_help) (ap (λ w. walk_passes a.top (names_of a) w rest) (first_step a word is) ∙ passes_on a.top (names_of a) word [] rest)

pub both_true : (x y : Bool) → x ≡ true → y ≡ true → (x && y) ≡ true
both_true x y one two = ap₂ (λ (a b : Bool). a && b) one two

-- the command asks for nothing but a subcommand
abbrev pub asks_no_more : App → Bool
asks_no_more a = list_all default_passes a.top.rules && is_valid a.top (finished a.top.rules nothing_held) true

level_goes : (a : App) (word : Text) (s : Shape) (rest : List Text) → Finds a word s → asks_no_more a ≡ true
    → level_passes a.top (names_of a) nothing_held (word ∷ rest) (is_some (entered a (Some (word, rest)))) ≡ true
level_goes a word s rest finds no_more =
    both_true _ _ (walk_goes a word rest (met a word s finds) finds.no_help)
    (ap (λ (w : Walk). settle_passes a.top.rules a.top.args_override_self w.held
    && (list_all default_passes a.top.rules && is_valid a.top (finished a.top.rules w.held) (is_some (entered a (Some (word, rest)))))) (walk_stops a word rest (met a word s finds))
    ∙ (ap (λ (o : Option Shape). list_all default_passes a.top.rules && is_valid a.top (finished a.top.rules nothing_held) (is_some (option_map (λ s. rows_at s rest) o))) finds.found
    ∙ no_more))

-- the words are taken where the subcommand takes those following it
pub enter_takes : (a : App) (word : Text) (s : Shape) (rest : List Text) → Finds a word s → asks_no_more a ≡ true
    → level_passes s [] nothing_held rest false ≡ true → built_takes a nothing_held (word ∷ rest) ≡ true
enter_takes a word s rest finds no_more takes =
    ap (λ (w : Walk). entered_passes a w.stopped && level_passes a.top (names_of a) nothing_held (word ∷ rest) (is_some (entered a w.stopped))) (walk_stops a word rest (met a word s finds))
    ∙ both_true _ _ (ap (λ (o : Option Shape). option_map_or (λ s. level_passes s [] nothing_held rest false) o true) finds.found ∙ takes) (level_goes a word s rest finds no_more)

-- and the subcommand has its own matches
pub enter_met : (a : App) (word : Text) (s : Shape) (rest : List Text) → Finds a word s
    → entered a (walk a.top.rules (names_of a) nothing_held (word ∷ rest)).stopped ≡ Some (rows_at s rest)
enter_met a word s rest finds =
    ap (λ (w : Walk). entered a w.stopped) (walk_stops a word rest (met a word s finds)) ∙ ap (option_map (λ s. rows_at s rest)) finds.found
