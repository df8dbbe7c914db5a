-- A stored text reads back.
use Rattle.std.proofs.Common.{◌≡◌, ◌≢◌, ℕ, ◌+◌, ◌-◌, ◌*◌, ◌%◌, ◌<◌, List, [], ◌∷◌, ◌++◌, length, map, replicate, true, false, not, nat_lt, nat_eq, if◌then◌else◌, refl, ap, sym, ◌∙◌, arith}
use Rattle.std.proofs.lemmas.List.{append_assoc, length-append, length-map}
use Rattle.std.proofs.lemmas.Bool.{and_parts, ltb-true, eqb-false, not-true, ne_eqb, eq-eqb}
use Rattle.char_pack.specs.Packing.{block_frames, block_count, packed_blocks}
use Rattle.char_pack.specs.Texts.{characters, is_ended, text, line_ends, host_text, may_stand, is_storable, text_frames, words_of_text}
use Rattle.char_pack.proofs.PackLemmas.{Bytes, is_block_packing}

-- each may stand in a text
abbrev pub Stands : List ℕ → Type 0
Stands [] = Unit {0}
Stands (byte ∷ host) = (byte < 128) × (byte ≢ 26) × Stands host

pub Stands-from : (host : List ℕ) → is_storable host ≡ true → Stands host
Stands-from [] storable = tt
Stands-from (byte ∷ host) storable =
    let parts = and_parts (may_stand byte) (is_storable host) storable in
    let halves = and_parts (nat_lt byte 128) (not (nat_eq byte 26)) parts.0 in
    (ltb-true byte 128 halves.0, eqb-false byte 26 (not-true (nat_eq byte 26) halves.1), Stands-from host parts.1)

Stands-host_text-append : (byte : ℕ) (others : List ℕ) → byte < 128 → byte ≢ 26 → Stands others → Stands (line_ends byte ++ others)
Stands-host_text-append byte others small apart stand =
    elim (nat_eq byte 13) as (λ cr. Stands ((if cr then [] else (if nat_eq byte 10 then 13 ∷ 10 ∷ [] else byte ∷ [])) ++ others)) [
      | true ↦ stand
      | false ↦ elim (nat_eq byte 10) as (λ lf. Stands ((if lf then 13 ∷ 10 ∷ [] else byte ∷ []) ++ others)) [
        | true ↦ (omega arith, omega arith, (omega arith, omega arith, stand))
        | false ↦ (small, apart, stand)
      ]
    ]

pub Stands-host_text : (host : List ℕ) → Stands host → Stands (host_text host)
Stands-host_text [] stand = tt
Stands-host_text (byte ∷ host) stand =
    Stands-host_text-append byte (host_text host) stand.0 stand.1 (Stands-host_text host stand.2)

-- control Z ends a text
pub characters-end : (frame : ℕ) (others : List ℕ) → frame % 128 ≡ 26 → characters (frame ∷ others) ≡ []
characters-end frame others same =
    let test : nat_eq (frame % 128) 26 ≡ true = eq-eqb (frame % 128) 26 same in
    rw test

-- another frame is a character
pub characters-next : (frame c : ℕ) (others : List ℕ) → frame % 128 ≡ c → c ≢ 26 → characters (frame ∷ others) ≡ c ∷ characters others
characters-next frame c others same apart =
    let test : nat_eq (frame % 128) 26 ≡ false = ne_eqb (frame % 128) 26 (λ e. apart (sym same ∙ e)) in
    rw test (ap (λ x. x ∷ characters others) same)

-- the characters of stored characters, after which control Z stands
pub characters-stored : (chars others : List ℕ) → Stands chars
    → characters (map (λ character. 128 + character) chars ++ (128 + 26) ∷ others) ≡ chars
characters-stored [] others stand = refl
characters-stored (c ∷ chars) others stand =
    characters-next (128 + c) c (map (λ character. 128 + character) chars ++ (128 + 26) ∷ others) (let small : c < 128 = stand.0 in omega arith) stand.1
    ∙ ap (λ x. c ∷ x) (characters-stored chars others stand.2)

Bytes-marked : (chars others : List ℕ) → Stands chars → Bytes others → Bytes (map (λ character. 128 + character) chars ++ others)
Bytes-marked [] others stand fit = fit
Bytes-marked (c ∷ chars) others stand fit = ((let small : c < 128 = stand.0 in omega arith), Bytes-marked chars others stand.2 fit)

pub Bytes-text_frames : (chars : List ℕ) → Stands chars → Bytes (text_frames chars)
Bytes-text_frames chars stand = Bytes-marked chars ((128 + 26) ∷ []) stand (omega arith, tt)

text-packed : (chars : List ℕ) → Stands chars → text (packed_blocks (text_frames chars)) ≡ chars
text-packed chars stand =
    let bytes = text_frames chars in
    let zeros = replicate (block_frames * block_count (length bytes) - length bytes) 0 in
    ap characters ((is_block_packing bytes (Bytes-text_frames chars stand)).reads_back
    ∙ append_assoc (map (λ character. 128 + character) chars) ((128 + 26) ∷ []) zeros)
    ∙ characters-stored chars zeros stand

pub text-stored : (host : List ℕ) → is_storable host ≡ true → text (words_of_text host) ≡ host_text host
text-stored host storable = text-packed (host_text host) (Stands-host_text host (Stands-from host storable))

pub text-chars : (chars : List ℕ) → is_storable chars ≡ true → text (packed_blocks (text_frames chars)) ≡ chars
text-chars chars storable = text-packed chars (Stands-from chars storable)

pub characters-append : (frames others : List ℕ)
    → characters (frames ++ others) ≡ characters frames ++ (if is_ended frames then [] else characters others)
characters-append [] others = refl
characters-append (frame ∷ frames) others =
    elim (nat_eq (frame % 128) 26) as (λ b. (if b then [] else (frame % 128) ∷ characters (frames ++ others))
    ≡ (if b then [] else (frame % 128) ∷ characters frames) ++ (if (if b then true else is_ended frames) then [] else characters others)) [
      | true ↦ refl
      | false ↦ ap (λ cs. (frame % 128) ∷ cs) (characters-append frames others)
    ]

pub is_ended-append : (frames others : List ℕ)
    → is_ended (frames ++ others) ≡ (if is_ended frames then true else is_ended others)
is_ended-append [] others = refl
is_ended-append (frame ∷ frames) others =
    elim (nat_eq (frame % 128) 26) as (λ b. (if b then true else is_ended (frames ++ others))
    ≡ (if (if b then true else is_ended frames) then true else is_ended others)) [
      | true ↦ refl
      | false ↦ is_ended-append frames others
    ]

pub length-text_frames : (chars : List ℕ) → length (text_frames chars) ≡ length chars + 1
length-text_frames chars = omega (arith, length-append (map (λ character. 128 + character) chars) ((128 + 26) ∷ []), length-map chars (λ character. 128 + character))
