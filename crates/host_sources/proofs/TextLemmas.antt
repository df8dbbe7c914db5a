-- The first bytes of a text.
use Rattle.std.proofs.Common.{◌≡◌, ℕ, ◌+◌, ◌≤◌, ◌<◌, Bool, length, take, get_or, List, [], ap, sym, ◌∙◌, arith}
use Rattle.std.proofs.lemmas.List.{length-take-le, take_all}
use Rattle.pal_lex.specs.Text.{in_comment, text_of}
use Rattle.source_places.proofs.PlaceLemmas.{next_byte, length_from}
use Rattle.host_sources.specs.StartSteps.{comment_by}

pub length_taken : (bytes : List ℕ) (n : ℕ) → n ≤ length bytes → length (text_of (take n bytes)) ≡ n
length_taken bytes n inside = length_from (take n bytes) [] ∙ ap (λ k. k + 0) (length-take-le n bytes inside) ∙ omega arith

pub comment_more : (bytes : List ℕ) (n b : ℕ) (comment : Bool) → n < length bytes → b ≡ get_or bytes n 0 → comment ≡ in_comment (text_of (take n bytes))
    → comment_by b comment ≡ in_comment (text_of (take (n + 1) bytes))
comment_more bytes n b comment inside is same = ap (comment_by b) same ∙ sym (ap in_comment (next_byte bytes n b inside is))

pub length_whole : (bytes : List ℕ) → length (text_of bytes) ≡ length bytes
length_whole bytes = length_from bytes [] ∙ omega arith

-- all bytes are taken
pub all_taken : (bytes : List ℕ) (taken : ℕ) → length bytes ≤ taken → text_of (take taken bytes) ≡ text_of bytes
all_taken bytes taken all = ap text_of (take_all taken bytes all)
