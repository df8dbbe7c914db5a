-- Where a statement begins.
use Rattle.std.proofs.Common.{◌≡◌, ℕ, ◌+◌, ◌≤◌, ◌<◌, Bool, true, false, ◌||◌, if◌then◌else◌, Option, Some, None, unwrap_or, length, take, get_or, List, [], ◌∷◌, refl, ap, sym, ◌∙◌, arith}
use Rattle.std.proofs.lemmas.List.{length-take-le, take_all}
use Rattle.std.specs.Option.{option_or}
use Rattle.pal_lex.specs.Text.{is_ignored, in_comment, is_dead, is_end, stretch, text_of}
use Rattle.pal_lex.specs.Cutting.{is_space}
use Rattle.source_places.proofs.PlaceLemmas.{next_byte, length_from}
use Rattle.host_sources.specs.Starts.{first_solid, start_of}
use Rattle.host_sources.specs.StartSteps.{comment_by}
use Rattle.host_sources.specs.StartSteps.{start_by}

pub length_taken : (bytes : List ℕ) (n : ℕ) → n ≤ length bytes → length (text_of (take n bytes)) ≡ n
length_taken bytes n inside = length_from (take n bytes) [] ∙ ap (λ k. k + 0) (length-take-le n bytes inside) ∙ omega arith

solid_by : (dead end : Bool) (b place : ℕ) (live : List (ℕ × ℕ))
    → first_solid (if dead then live else (if end then [] else (b, place) ∷ live))
    ≡ (if dead then first_solid live else (if end then None else option_or (first_solid live) (if is_space b then None else Some place)))
solid_by true end b place live = refl
solid_by false true b place live = refl
solid_by false false b place live = refl

pub comment_more : (bytes : List ℕ) (n b : ℕ) (comment : Bool) → n < length bytes → b ≡ get_or bytes n 0 → comment ≡ in_comment (text_of (take n bytes))
    → comment_by b comment ≡ in_comment (text_of (take (n + 1) bytes))
comment_more bytes n b comment inside is same = ap (comment_by b) same ∙ sym (ap in_comment (next_byte bytes n b inside is))

pub start_more : (bytes : List ℕ) (n b : ℕ) (start : Option ℕ) (comment : Bool) → n < length bytes → b ≡ get_or bytes n 0
    → comment ≡ in_comment (text_of (take (n + 1) bytes)) → start ≡ first_solid (stretch (text_of (take n bytes)))
    → start_by start (is_ignored b || comment) b n ≡ first_solid (stretch (text_of (take (n + 1) bytes)))
start_more bytes n b start comment inside is quiet same =
    let older = text_of (take n bytes) in
    let next = next_byte bytes n b inside is in
    ap (λ (c : Bool). start_by start (is_ignored b || c) b n) (quiet ∙ ap in_comment next)
    ∙ ap (λ s. start_by s (is_dead older b) b n) same
    ∙ ap (start_by (first_solid (stretch older)) (is_dead older b) b) (sym (length_taken bytes n (omega (arith, inside))))
    ∙ sym (solid_by (is_dead older b) (is_end b) b (length older) (stretch older))
    ∙ sym (ap (λ t. first_solid (stretch t)) next)

pub length_whole : (bytes : List ℕ) → length (text_of bytes) ≡ length bytes
length_whole bytes = length_from bytes [] ∙ omega arith

-- all bytes are taken
pub all_taken : (bytes : List ℕ) (taken : ℕ) → length bytes ≤ taken → text_of (take taken bytes) ≡ text_of bytes
all_taken bytes taken all = ap text_of (take_all taken bytes all)

pub start_found : (bytes : List ℕ) (taken : ℕ) (start : Option ℕ) → length bytes ≤ taken → start ≡ first_solid (stretch (text_of (take taken bytes)))
    → unwrap_or start (length bytes) ≡ start_of (text_of bytes)
start_found bytes taken start all is =
    ap (λ s. unwrap_or s (length bytes)) (is ∙ ap (λ t. first_solid (stretch t)) (all_taken bytes taken all))
    ∙ ap (unwrap_or (first_solid (stretch (text_of bytes)))) (sym (length_whole bytes))
