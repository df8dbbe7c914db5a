-- The words of a command.
use Rattle.std.proofs.Common.{◌≡◌, ◌∙◌, ◌<◌, ℕ, List, Global, Some, String, ap, length, map, option_map, slice_get, slice_index_or, sym}
use Rattle.std.proofs.lemmas.Option.{slice_get-get_or, slice_get-map}

-- the bytes of the word at a place
pub word-at : (words : List (String Global)) (place : ℕ) (word : String Global) → place < length words → word ≡ slice_index_or words place word → slice_get (map (λ (w : String Global). w.bytes.items) words) place ≡ Some word.bytes.items
word-at words place word some is =
    slice_get-map (λ (w : String Global). w.bytes.items) words place ∙ ap (option_map (λ (w : String Global). w.bytes.items)) (slice_get-get_or words place word some)
    ∙ ap (λ (w : String Global). Some w.bytes.items) (sym is)
