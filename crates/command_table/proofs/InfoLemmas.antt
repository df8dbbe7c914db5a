-- The information words that are given, by a date or themselves.
use Rattle.command_table.proofs.Names.{◌≡◌, ◌∙◌, ℕ, ap, map, option_map, sym, List, [], ◌∷◌, Option, Some, None, Text}
use Rattle.command_table.specs.Found.{date_word, info_or}
use Rattle.command_table.proofs.OptionLemmas.{some_eq}

pub info-dated : (given : Option Text) (words : Option (List (Option ℕ))) (word : ℕ) (items : List ℕ) → option_map date_word given ≡ Some (Some word)
    → items ≡ word ∷ [] → info_or given words ≡ Some (map (λ word. Some word) items)
info-dated None words word items is made = absurd (cc)
info-dated (Some date) words word items is made =
    ap (λ w. Some (w ∷ [])) (some_eq (date_word date) (Some word) is) ∙ ap (λ l. Some (map (λ word. Some word) l)) (sym made)

pub info-given : (given : Option Text) (words info : Option (List (Option ℕ))) → option_map date_word given ≡ None → words ≡ info → info_or given words ≡ info
info-given None words info is same = same
info-given (Some date) words info is same = absurd (cc)
