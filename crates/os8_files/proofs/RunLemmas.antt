-- What blocks hold where a run of blocks is written to them.
use Rattle.std.proofs.Common.{◌≡◌, ◌≢◌, ℕ, suc, ◌+◌, ◌<◌, ◌≤◌, ◌==◌, if◌then◌else◌, Bool, true, false, eqb, List, [], ◌∷◌, ◌++◌, length, take, drop, get_or, slice_set, Option, Some, refl, ap, sym, ◌∙◌, arith, inl, inr, append_assoc, get_or-set_other}
use Rattle.std.specs.Prelude.{◌⊎◌}
use Rattle.std.proofs.Math.ListN.{length-set}
use Rattle.std.proofs.Math.Seq.{take-append_seam, drop-append_seam, sets}
use Rattle.std.proofs.lemmas.List.Edits.{sets-eq}
use Rattle.std.proofs.lemmas.List.{length-take-le, take_more}
use Rattle.std.proofs.lemmas.Bool.{true≢false}
use Rattle.std.proofs.lemmas.Bool.Decides.{eqb_tells}
use Rattle.std.proofs.lemmas.Grind.{take-set_at}
use Rattle.volume_image.specs.Volume.{next_count}
use Rattle.os8_dir.specs.Reading.{block}
use Rattle.os8_dir.specs.Found.{FilePlace, AreApart, find}
use Rattle.os8_dir.specs.Files.{join_blocks, run}
use Rattle.os8_files.specs.Calls.{counted_more}
use Rattle.os8_files.specs.WriteSteps.{with_run, HasBrokenOff}
use Rattle.os8_files.proofs.RoomLemmas.{run-other}
use Rattle.os8_files.proofs.CallLemmas.{find-from}

pub with_run-more : (blocks : List (List ℕ)) (place : ℕ) (ws : List (List ℕ)) (w : List ℕ) → with_run blocks place (ws ++ w ∷ []) ≡ slice_set (with_run blocks place ws) (place + length ws) w
with_run-more blocks place [] w = let e : place ≡ place + 0 = omega arith in ap (λ p. slice_set blocks p w) e
with_run-more blocks place (x ∷ ws) w =
    let e : suc place + length ws ≡ place + length (x ∷ ws) = omega arith in
    with_run-more (slice_set blocks place x) (suc place) ws w ∙ ap (λ p. slice_set (with_run (slice_set blocks place x) (suc place) ws) p w) e

pub length-with_run : (blocks : List (List ℕ)) (place : ℕ) (ws : List (List ℕ)) → length (with_run blocks place ws) ≡ length blocks
length-with_run blocks place [] = refl
length-with_run blocks place (x ∷ ws) = length-with_run (slice_set blocks place x) (suc place) ws ∙ length-set blocks place x

pub block-with_run : (blocks : List (List ℕ)) (place : ℕ) (ws : List (List ℕ)) (k : ℕ) → k < place → block (with_run blocks place ws) k ≡ block blocks k
block-with_run blocks place [] k low = refl
block-with_run blocks place (x ∷ ws) k low = block-with_run (slice_set blocks place x) (suc place) ws k (omega (arith, low)) ∙ get_or-set_other blocks place k x [] (omega (arith, low))

pub run-beside : (blocks : List (List ℕ)) (place : ℕ) (ws : List (List ℕ)) (from size : ℕ) → (from + size ≤ place) ⊎ (place + length ws ≤ from) → run (with_run blocks place ws) from size ≡ run blocks from size
run-beside blocks place [] from size apart = refl
run-beside blocks place (x ∷ ws) from size apart =
    elim apart [
      | inl low ↦ run-beside (slice_set blocks place x) (suc place) ws from size (inl (omega (arith, low))) ∙ run-other blocks place from size x (inl low)
      | inr up ↦ let following : suc place + length ws ≤ from = omega (arith, up) in run-beside (slice_set blocks place x) (suc place) ws from size (inr following) ∙ run-other blocks place from size x (inr (omega (arith, following)))
    ]

with_run-sets : (blocks : List (List ℕ)) (place : ℕ) (ws : List (List ℕ)) → with_run blocks place ws ≡ sets blocks place ws
with_run-sets blocks place [] = refl
with_run-sets blocks place (x ∷ ws) = with_run-sets (slice_set blocks place x) (suc place) ws

seam : {A : Type 0} (n : ℕ) (prefix ws rest : List A) → length prefix ≡ n → take (length ws) (drop n (prefix ++ ws ++ rest)) ≡ ws
seam n prefix ws rest long =
    ap (λ j. take (length ws) (drop j (prefix ++ ws ++ rest))) (sym long)
    ∙ ap (λ xs. take (length ws) (drop (length prefix) xs)) (append_assoc prefix ws rest)
    ∙ ap (take (length ws)) (drop-append_seam prefix (ws ++ rest))
    ∙ take-append_seam ws rest

pub run-written : (blocks : List (List ℕ)) (place : ℕ) (ws : List (List ℕ)) → place + length ws ≤ length blocks → run (with_run blocks place ws) place (length ws) ≡ join_blocks ws
run-written blocks place ws inside =
    ap (λ bs. join_blocks (take (length ws) (drop place bs))) (with_run-sets blocks place ws ∙ sets-eq ws blocks place inside)
    ∙ ap join_blocks (seam place (take place blocks) ws (drop (place + length ws) blocks) (length-take-le place blocks (omega (arith, inside))))

-- Files that lie apart.
pub find-some : (name from bound : ℕ) (files : List FilePlace) (f : FilePlace) → AreApart from bound files → find name files ≡ Some f → 0 < f.size
find-some name from bound [] f apart found = cc
find-some name from bound (g ∷ gs) f apart found =
    (elim (g.name == name) as (λ b. (if b then Some g else find name gs) ≡ Some f → 0 < f.size) [
      | true ↦ λ here. let same : g ≡ f = cc in omega (arith, apart.1, ap (λ (p : FilePlace). p.size) same)
      | false ↦ λ following. find-some name (g.place + g.size) bound gs f apart.2 following
    ]) found

head-found : (b : Bool) (h : FilePlace) (rest : Option FilePlace) (f : FilePlace) → b ≡ true → (if b then Some h else rest) ≡ Some f → h ≡ f
head-found true h rest f e found = cc
head-found false h rest f e found = absurd (true≢false (sym e))

tail-found : (b : Bool) (h : FilePlace) (rest : Option FilePlace) (f : FilePlace) → b ≡ false → (if b then Some h else rest) ≡ Some f → rest ≡ Some f
tail-found true h rest f e found = absurd (true≢false e)
tail-found false h rest f e found = found

pub two-apart : (one two from bound : ℕ) (files : List FilePlace) (f g : FilePlace) → one ≢ two → AreApart from bound files → find one files ≡ Some f → find two files ≡ Some g → (g.place + g.size ≤ f.place) ⊎ (f.place + f.size ≤ g.place)
two-apart one two from bound [] f g differ apart first second = cc
two-apart one two from bound (h ∷ hs) f g differ apart first second =
    (elim (eqb_tells h.name one) [
      | inl here ↦ elim (eqb_tells h.name two) [
        | inl also ↦ absurd (differ (sym here.1 ∙ also.1))
        | inr apart' ↦
            let f-is : h ≡ f = head-found (eqb h.name one) h (find one hs) f here.0 first in
            let following = find-from two (h.place + h.size) bound hs g apart.2 (tail-found (eqb h.name two) h (find two hs) g apart'.0 second) in
            inr (omega (arith, following, ap (λ (p : FilePlace). p.place + p.size) f-is))
      ]
      | inr other ↦ elim (eqb_tells h.name two) [
        | inl here ↦
            let g-is : h ≡ g = head-found (eqb h.name two) h (find two hs) g here.0 second in
            let following = find-from one (h.place + h.size) bound hs f apart.2 (tail-found (eqb h.name one) h (find one hs) f other.0 first) in
            inl (omega (arith, following, ap (λ (p : FilePlace). p.place + p.size) g-is))
        | inr apart' ↦ two-apart one two (h.place + h.size) bound hs f g differ apart.2 (tail-found (eqb h.name one) h (find one hs) f other.0 first) (tail-found (eqb h.name two) h (find two hs) g apart'.0 second)
      ]
    ])

-- One block more of a run.
pub read-more : (xs ys : List (List ℕ)) (k : ℕ) (w : List ℕ) → k < length xs → k < length ys → take k xs ≡ take k ys → get_or ys k [] ≡ w → take (k + 1) (slice_set xs k w) ≡ take (k + 1) ys
read-more xs ys k w inside within same at =
    take-set_at xs k (k + 1) w refl inside
    ∙ ap (λ zs. zs ++ w ∷ []) same
    ∙ ap (λ v. take k ys ++ v ∷ []) (sym at)
    ∙ sym (take_more ys k [] within)

pub write-more : (blocks : List (List ℕ)) (place k : ℕ) (ws : List (List ℕ)) → k < length ws → with_run blocks place (take (k + 1) ws) ≡ slice_set (with_run blocks place (take k ws)) (place + k) (get_or ws k [])
write-more blocks place k ws inside =
    ap (with_run blocks place) (take_more ws k [] inside)
    ∙ with_run-more blocks place (take k ws) (get_or ws k [])
    ∙ ap (λ n. slice_set (with_run blocks place (take k ws)) (place + n) (get_or ws k [])) (length-take-le k ws (omega (arith, inside)))

-- Some blocks of a run are written, and one that comes next has any words.
pub broken-off : (old mid new : List (List ℕ)) (place k before after : ℕ) (ws : List (List ℕ)) (w : List ℕ) → k < length ws → mid ≡ with_run old place (take k ws) → new ≡ slice_set mid (place + k) w → after ≡ next_count (counted_more k before) → HasBrokenOff old place (length ws) new before after
broken-off old mid new place k before after ws w inside at is risen =
    let long : length (take k ws) ≡ k = length-take-le k ws (omega (arith, inside)) in
    let longer : length (take k ws ++ w ∷ []) ≡ suc k = omega (arith, long, length-more (take k ws) w) in
    record {
      run = take k ws ++ w ∷ [];
      some = omega (arith, longer);
      writes = risen ∙ ap (λ n. counted_more n before) (sym longer);
      short = omega (arith, inside, long, length-more (take k ws) w);
      blocks = is
          ∙ ap (λ bs. slice_set bs (place + k) w) at
          ∙ ap (λ n. slice_set (with_run old place (take k ws)) (place + n) w) (sym long)
          ∙ sym (with_run-more old place (take k ws) w);
    }
  where
    length-more : (xs : List (List ℕ)) (x : List ℕ) → length (xs ++ x ∷ []) ≡ length xs + 1
    length-more [] x = refl
    length-more (y ∷ ys) x = omega (arith, length-more ys x)
