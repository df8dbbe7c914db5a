-- The text whose statement with the fault is made harmless.
use Rattle.std.proofs.Common.{◌≡◌, ℕ, ◌+◌, ◌-◌, ◌<◌, nat_eq, Bool, true, false, ◌&&◌, ◌||◌, not, if◌then◌else◌, Option, Some, None, is_some, option_map, length, take, get_or, suc, List, [], ◌∷◌, ◌++◌, refl, ap, sym, ◌∙◌, arith}
use Rattle.std.specs.Option.{option_or}
use Rattle.pal_asm.specs.Faults.{fault_of}
use Rattle.pal_lex.specs.Text.{is_ignored, in_comment, is_dead, is_end, text_of}
use Rattle.source_places.specs.declared.places.Place.{Place}
use Rattle.source_places.proofs.PlaceLemmas.{next_byte, grown}
use Rattle.host_sources.specs.Places.{shortest, is_refused}
use Rattle.host_sources.specs.Mending.{up_to_comma, body_place, end_place, with_erasure, turns, harmless}
use Rattle.host_sources.specs.MendSteps.{comma_by, erased_byte, Mends, GoesOn, Advances}
use Rattle.host_sources.specs.Marks.{at_mark, fault_mark}
use Rattle.pal_faults.specs.declared.assembling.Code.{Code}
use Rattle.std.specs.Global.{Vec}
use Rattle.host_sources.specs.Lexical.{lexical_code, lexical_by, lexical_fault, lexical_further, lexical_with}
use Rattle.host_sources.specs.Steps.{IsMetAt}
use Rattle.host_sources.specs.declared.faults.Fault.{Fault}
use Rattle.host_sources.specs.declared.locating.Passed.TheVariants as passed
use Rattle.host_sources.proofs.TextLemmas.{length_taken}
use Rattle.host_sources.proofs.LocateLemmas.{shortest_is, refused_stays}

-- the text up to the byte that ends the statement with the fault
pub refused_short : (bytes : List ℕ) (end : ℕ) → IsMetAt bytes (passed.Refused end)
    → shortest is_refused (text_of bytes) ≡ get_or bytes end 0 ∷ text_of (take end bytes)
refused_short bytes end p =
    shortest_is is_refused refused_stays bytes end p.0 p.1 p.2 ∙ next_byte bytes end (get_or bytes end 0) p.0 refl

pub made_harmless : (bytes : List ℕ) (end from : ℕ) → IsMetAt bytes (passed.Refused end)
    → from ≡ body_place (get_or bytes end 0 ∷ text_of (take end bytes))
    → with_erasure from end (text_of bytes) ≡ harmless (text_of bytes)
made_harmless bytes end from p is =
    let short = refused_short bytes end p in
    ap (λ n. with_erasure n end (text_of bytes)) (is ∙ ap body_place (sym short))
    ∙ ap (λ n. with_erasure (body_place (shortest is_refused (text_of bytes))) n (text_of bytes))
    (sym (length_taken bytes end (omega (arith, p.0))) ∙ ap end_place (sym short))

-- ## A byte after a text

pub text_more : (bytes : List ℕ) (b : ℕ) → text_of (bytes ++ b ∷ []) ≡ b ∷ text_of bytes
text_more bytes b = grown [] bytes b

-- a tag by itself is refused or not
pub tag_refused : (tag alone text : List ℕ) (t u : Bool) → alone ≡ tag ++ 0o73 ∷ [] → text ≡ alone → t ≡ is_refused (text_of text) → t ≡ u
    → is_refused (0o73 ∷ text_of tag) ≡ u
tag_refused tag alone text t u ended same told is =
    ap is_refused (sym (text_more tag 0o73) ∙ ap text_of (sym (same ∙ ended))) ∙ sym told ∙ is

-- ## The first `,`

abbrev pub first_part : List ℕ → Option ℕ → Option (List ℕ)
first_part bytes comma = option_map (λ count. text_of (take count bytes)) comma

comma_tests : (bytes : List ℕ) (comma : Option ℕ) (dead end is_comma : Bool) (n : ℕ) (b : ℕ) (older : List ℕ) (before : Option (List ℕ))
    → first_part bytes comma ≡ before → text_of (take n bytes) ≡ b ∷ older
    → first_part bytes (comma_by comma dead end is_comma n)
    ≡ (if dead then before else (if end then None else option_or before (if is_comma then Some (b ∷ older) else None)))
comma_tests bytes comma true end is_comma n b older before same next = same
comma_tests bytes comma false true is_comma n b older before same next = refl
comma_tests bytes (Some count) false false is_comma n b older before same next =
    ap (λ o. option_or o (if is_comma then Some (b ∷ older) else None)) same
comma_tests bytes None false false true n b older before same next =
    ap (λ t. Some t) next ∙ ap (λ o. option_or o (Some (b ∷ older))) same
comma_tests bytes None false false false n b older before same next = ap (λ (o : Option (List ℕ)). option_or o None) same

pub comma_more : (bytes : List ℕ) (n b : ℕ) (comma : Option ℕ) (comment : Bool) → n < length bytes → b ≡ get_or bytes n 0
    → comment ≡ in_comment (text_of (take (n + 1) bytes)) → first_part bytes comma ≡ up_to_comma (text_of (take n bytes))
    → first_part bytes (comma_by comma (is_ignored b || comment) (is_end b) (nat_eq b 0o54) (n + 1)) ≡ up_to_comma (text_of (take (n + 1) bytes))
comma_more bytes n b comma comment inside is quiet same =
    let older = text_of (take n bytes) in
    let next = next_byte bytes n b inside is in
    ap (λ (c : Bool). first_part bytes (comma_by comma (is_ignored b || c) (is_end b) (nat_eq b 0o54) (n + 1))) (quiet ∙ ap in_comment next)
    ∙ comma_tests bytes comma (is_dead older b) (is_end b) (nat_eq b 0o54) (n + 1) b older (up_to_comma older) same next
    ∙ ap up_to_comma (sym next)

-- ## Erased bytes

pub erased_more : (bytes new : List ℕ) (n from end b : ℕ) → n < length bytes → b ≡ get_or bytes n 0 → text_of new ≡ with_erasure from end (text_of (take n bytes))
    → text_of (new ++ erased_byte from end n b ∷ []) ≡ with_erasure from end (text_of (take (n + 1) bytes))
erased_more bytes new n from end b inside is same =
    text_more new (erased_byte from end n b)
    ∙ ap (λ l. erased_byte from end n b ∷ l) same
    ∙ ap (λ k. erased_byte from end k b ∷ with_erasure from end (text_of (take n bytes))) (sym (length_taken bytes n (omega (arith, inside))))
    ∙ ap (with_erasure from end) (sym (next_byte bytes n b inside is))

-- ## Faults after others

pub by_refused : (text : List ℕ) → is_refused text ≡ true → (lexical_by (fault_of text)) ≡ lexical_code text
by_refused text now = rw now refl

pub goes_mended : (text : List ℕ) (next : Option (Vec ℕ)) → is_some (lexical_code text) ≡ true → Mends text next → GoesOn text next
goes_mended text None found mends =
    ap (λ (t : Bool). t && not (turns (shortest is_refused text))) found ∙ ap (λ (t : Bool). true && not t) mends
goes_mended text (Some next) found mends =
    (ap (λ (t : Bool). t && not (turns (shortest is_refused text))) found ∙ ap (λ (t : Bool). true && not t) mends.0, mends.1)

-- a fault of the lexer with its place
pub lexical_found : (place : ℕ → Place) (text : List ℕ) (found : Option (Code × ℕ)) (code : Code) (line : ℕ) (fault : Fault) → is_refused text ≡ true
    → found ≡ lexical_by (fault_of text) → found ≡ Some (code, line) → fault ≡ at_mark place code line (fault_mark code None text)
    → Some fault ≡ lexical_fault place text
lexical_found place text found code line fault now is some made =
    ap (λ f. Some f) made ∙ sym (ap (lexical_with place text) (sym (by_refused text now) ∙ sym is ∙ some))

pub advance_on : (place : ℕ → Place) (text new_text : List ℕ) (faults new : List Fault) (goes : Bool) (left : ℕ) → 0 < left → goes ≡ true
    → Advances place text new_text faults new goes → new ++ lexical_further place (left - 1) new_text ≡ faults ++ lexical_further place left text
advance_on place text new_text faults new true left more is step =
    let same : suc (left - 1) ≡ left = omega (arith, more) in
    step (left - 1) ∙ ap (λ n. faults ++ lexical_further place n text) same
advance_on place text new_text faults new false left more is step = absurd cc

pub advance_end : (place : ℕ → Place) (text new_text : List ℕ) (faults new : List Fault) (goes : Bool) (left : ℕ) → 0 < left → goes ≡ false
    → Advances place text new_text faults new goes → new ≡ faults ++ lexical_further place left text
advance_end place text new_text faults new true left more is step = absurd cc
advance_end place text new_text faults new false left more is step =
    let same : suc (left - 1) ≡ left = omega (arith, more) in
    step (left - 1) ∙ ap (λ n. faults ++ lexical_further place n text) same
