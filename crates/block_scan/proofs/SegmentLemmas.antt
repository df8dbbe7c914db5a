-- The segments of a directory among blocks.
use Rattle.std.proofs.Common.{◌≡◌, ◌∙◌, ℕ, zero, suc, ◌+◌, ◌<◌, ◌≤◌, true, false, Bool, Option, None, Some, Result, Ok, Err, List, [], ◌∷◌, ◌++◌, length, take, slice_get, slice_set, append_assoc, append-nil, length-append, if◌then◌else◌, inl, inr, refl, sym, ap, subst, arith}
use Rattle.std.specs.Prelude.{is_ok, IfOk, MatchOption}
use Rattle.std.specs.declared.alloc.AllocError.{AllocError}
use Rattle.std.proofs.Math.Seq.{take-suc}
use Rattle.std.proofs.lemmas.List.{length-take-le}
use Rattle.std.proofs.lemmas.Option.{get_or_from_slice_get}
use Rattle.os8_dir.specs.declared.faults.DirFault.{DirFault}
use Rattle.os8_dir.specs.Entries.{DirectoryState}
use Rattle.os8_dir.specs.Reading.{◌>>=◌, directory_of, head_of, with_segment, with_links, word, block}
use Rattle.block_scan.specs.SegmentSteps.{IsNone, without_link}
use Rattle.block_scan.specs.Segments.{first_file, may_be_segment, named_segment, segment_alone, segment_at, segments_among, segments_from, sound_segment}
use Rattle.block_scan.specs.Laws.{AreSegments, HasSegment, IsSegment}
use Rattle.block_scan.specs.declared.segments.Segment.{Segment}

-- ## A segment alone

-- no later segment comes where the link is 0

done-links : (left : ℕ) (d : DirectoryState) (blocks : List (List ℕ)) (read : List ℕ) (from : ℕ) → with_links left d blocks read from 0 ≡ Ok d
unfolding with_links
done-links zero d blocks read from = refl
done-links (suc left) d blocks read from = refl

-- what comes after is answered as it is
ends-so : (one : Result DirectoryState DirFault) (more : DirectoryState → Result DirectoryState DirFault) → ((d : DirectoryState) → more d ≡ Ok d) → (one >>= more) ≡ one
ends-so (Ok d) more each = each d
ends-so (Err fault) more each = refl

head-then : (head : Result DirectoryState DirFault) (next : DirectoryState → Result DirectoryState DirFault) (more : DirectoryState → Result DirectoryState DirFault)
    → ((d : DirectoryState) → more d ≡ Ok d) → (head >>= (λ h. next h >>= more)) ≡ (head >>= next)
head-then (Ok h) next more each = ends-so (next h) more each
head-then (Err fault) next more each = refl

-- the words but the link
same-head : (volume : ℕ) (words : List ℕ) → 5 ≤ length words → segment_alone volume (without_link words) ≡ segment_alone volume words
unfolding head_of with_segment
same-head volume [] long = absurd (omega (arith, long))
same-head volume (a ∷ []) long = absurd (omega (arith, long))
same-head volume (a ∷ b ∷ []) long = absurd (omega (arith, long))
same-head volume (a ∷ b ∷ c ∷ []) long = absurd (omega (arith, long))
same-head volume (a ∷ b ∷ c ∷ d ∷ []) long = absurd (omega (arith, long))
same-head volume (a ∷ b ∷ c ∷ d ∷ e ∷ words) long = refl

no-link : (words : List ℕ) → 5 ≤ length words → word (without_link words) 2 ≡ 0
no-link [] long = absurd (omega (arith, long))
no-link (a ∷ []) long = absurd (omega (arith, long))
no-link (a ∷ b ∷ []) long = absurd (omega (arith, long))
no-link (a ∷ b ∷ c ∷ []) long = absurd (omega (arith, long))
no-link (a ∷ b ∷ c ∷ d ∷ []) long = absurd (omega (arith, long))
no-link (a ∷ b ∷ c ∷ d ∷ e ∷ words) long = refl

of-block : (blocks : List (List ℕ)) (words : List ℕ) → block blocks 1 ≡ words → word words 2 ≡ 0 → directory_of blocks ≡ segment_alone (length blocks) words
unfolding directory_of
of-block blocks words is none =
    rw (is, none)
    (head-then (head_of (length blocks) words) (λ head. with_segment (length blocks) head 1 words) (λ one. with_links 5 one blocks (1 ∷ []) 1 0)
    (λ d. done-links 5 d blocks (1 ∷ []) 1))

written : (blocks : List (List ℕ)) (words : List ℕ) → 2 ≤ length blocks → block (slice_set blocks 1 words) 1 ≡ words
written [] words some = absurd (omega (arith, some))
written (a ∷ []) words some = absurd (omega (arith, some))
written (a ∷ b ∷ blocks) words some = refl

same-count : (blocks : List (List ℕ)) (words : List ℕ) → 2 ≤ length blocks → length (slice_set blocks 1 words) ≡ length blocks
same-count [] words some = absurd (omega (arith, some))
same-count (a ∷ []) words some = absurd (omega (arith, some))
same-count (a ∷ b ∷ blocks) words some = refl

-- what is read of a volume in whose block 1 the words are written, without their link
pub read-alone : (blocks new : List (List ℕ)) (words : List ℕ) → 2 ≤ length blocks → 5 ≤ length words → new ≡ slice_set blocks 1 (without_link words)
    → directory_of new ≡ segment_alone (length blocks) words
read-alone blocks new words some long is =
    of-block new (without_link words) (ap (λ b. block b 1) is ∙ written blocks (without_link words) some) (no-link words long)
    ∙ ap (λ n. segment_alone n (without_link words)) (ap length is ∙ same-count blocks (without_link words) some)
    ∙ same-head (length blocks) words long

-- ## Block after block

from-more : (volume place : ℕ) (blocks : List (List ℕ)) (words : List ℕ) → segments_from volume place (blocks ++ words ∷ []) ≡ segments_from volume place blocks ++ segment_at volume (place + length blocks) words
from-more volume place [] words =
    let same : place + 0 ≡ place = omega arith in
    append-nil (segment_at volume place words) ∙ ap (λ n. segment_at volume n words) (sym same)
from-more volume place (first ∷ blocks) words =
    let same : suc place + length blocks ≡ place + suc (length blocks) = omega arith in
    ap (λ l. segment_at volume place first ++ l) (from-more volume (suc place) blocks words ∙ ap (λ n. segments_from volume (suc place) blocks ++ segment_at volume n words) same)
    ∙ sym (append_assoc (segment_at volume place first) (segments_from volume (suc place) blocks) (segment_at volume (place + suc (length blocks)) words))

-- one block more
pub one-more : (count place : ℕ) (blocks : List (List ℕ)) (words : List ℕ) (old new : List Segment) → place < length blocks → slice_get blocks place ≡ Some words → old ≡ segments_from count 0 (take place blocks)
    → new ≡ old ++ segment_at count place words → new ≡ segments_from count 0 (take (place + 1) blocks)
one-more count place blocks words old new inside here are more =
    let size : 0 + length (take place blocks) ≡ place = omega (arith, length-take-le place blocks (omega (arith, inside))) in
    let next : place + 1 ≡ suc place = omega arith in
    let with-it : take (place + 1) blocks ≡ take place blocks ++ words ∷ [] =
    ap (λ n. take n blocks) next ∙ take-suc blocks place [] inside ∙ ap (λ w. take place blocks ++ w ∷ []) (get_or_from_slice_get blocks place words [] here) in
    more
    ∙ ap (λ l. l ++ segment_at count place words) are
    ∙ ap (λ n. segments_from count 0 (take place blocks) ++ segment_at count n words) (sym size)
    ∙ sym (from-more count 0 (take place blocks) words)
    ∙ ap (segments_from count 0) (sym with-it)

-- what is known of a block that was not read as a segment
pub none-or-not : (found : Result (Option DirectoryState) AllocError) (read : Result DirectoryState DirFault) → IsNone found read
    → IfOk found (λ it. MatchOption it (is_ok read ≡ false) (λ directory. read ≡ Ok directory))
none-or-not (Ok (Some directory)) read is = absurd is
none-or-not (Ok None) read is = is
none-or-not (Err fault) read is = tt

-- ## What is found can be read

at-seam : (before rest : List (List ℕ)) (words : List ℕ) → slice_get (before ++ words ∷ rest) (length before) ≡ Some words
at-seam [] rest words = refl
at-seam (first ∷ before) rest words = at-seam before rest words

both-are : (all : List (List ℕ)) (l m : List Segment) → AreSegments all l → AreSegments all m → AreSegments all (l ++ m)
both-are all [] m one more = more
both-are all (segment ∷ l) m one more = (one.0, both-are all l m one.1 more)

one-is : (all : List (List ℕ)) (place : ℕ) (words : List ℕ) → slice_get all place ≡ Some words → AreSegments all (segment_at (length all) place words)
one-is all place words here = may (may_be_segment place words) refl
  where
    named : (directory : DirectoryState) → segment_alone (length all) words ≡ Ok directory → may_be_segment place words ≡ true → (name : Option ℕ) → first_file directory.entries ≡ name
        → AreSegments all (named_segment place name)
    named directory read is None first = tt
    named directory read is (Some name) first = (record { words = words; there = here; may_be = is; directory = directory; read = read; named = first }, tt)

    sound : may_be_segment place words ≡ true → (read : Result DirectoryState DirFault) → segment_alone (length all) words ≡ read → AreSegments all (sound_segment place read)
    sound is (Err fault) read = tt
    sound is (Ok directory) read = named directory read is (first_file directory.entries) refl

    may : (can : Bool) → may_be_segment place words ≡ can → AreSegments all (if can then sound_segment place (segment_alone (length all) words) else [])
    may false is = tt
    may true is = sound is (segment_alone (length all) words) refl

from-block : (before rest : List (List ℕ)) → AreSegments (before ++ rest) (segments_from (length (before ++ rest)) (length before) rest)
from-block before [] = tt
from-block before (words ∷ rest) =
    let all : List (List ℕ) = before ++ words ∷ rest in
    let same : (before ++ words ∷ []) ++ rest ≡ all = append_assoc before (words ∷ []) rest in
    let count : length (before ++ words ∷ []) ≡ suc (length before) = length-append before (words ∷ []) ∙ omega arith in
    both-are all (segment_at (length all) (length before) words) (segments_from (length all) (suc (length before)) rest)
    (one-is all (length before) words (at-seam before rest words))
    (subst (λ n. AreSegments all (segments_from (length all) n rest)) count
    (subst (λ l. AreSegments l (segments_from (length l) (length (before ++ words ∷ [])) rest)) same (from-block (before ++ words ∷ []) rest)))

pub each-is-one : (blocks : List (List ℕ)) → AreSegments blocks (segments_among blocks)
each-is-one blocks = from-block [] blocks

-- ## What can be read is found

on-right : (l m : List Segment) (segment : Segment) → HasSegment m segment → HasSegment (l ++ m) segment
on-right [] m segment has = has
on-right (first ∷ l) m segment has = inr (on-right l m segment has)

some-is : (one other : List ℕ) → Some one ≡ Some other → one ≡ other
some-is one other same = cc

found-from : (count : ℕ) (segment : Segment) (blocks : List (List ℕ)) (place k : ℕ) (words : List ℕ) → slice_get blocks k ≡ Some words
    → segment_at count (place + k) words ≡ segment ∷ [] → HasSegment (segments_from count place blocks) segment
found-from count segment [] place k words there is = absurd (cc)
found-from count segment (first ∷ blocks) place zero words there is =
    let same : place + 0 ≡ place = omega arith in
    let one : segment_at count place first ≡ segment ∷ [] = ap (λ w. segment_at count place w) (some-is first words there) ∙ ap (λ n. segment_at count n words) (sym same) ∙ is in
    subst (λ l. HasSegment (l ++ segments_from count (suc place) blocks) segment) (sym one) (inl refl)
found-from count segment (first ∷ blocks) place (suc k) words there is =
    let same : place + suc k ≡ suc place + k = omega arith in
    on-right (segment_at count place first) (segments_from count (suc place) blocks) segment
    (found-from count segment blocks (suc place) k words there (ap (λ n. segment_at count n words) (sym same) ∙ is))

segment-as : (count place : ℕ) (words : List ℕ) (directory : DirectoryState) (name : ℕ) → may_be_segment place words ≡ true → segment_alone count words ≡ Ok directory
    → first_file directory.entries ≡ Some name → segment_at count place words ≡ record { place = place; name = name } ∷ []
segment-as count place words directory name may read named =
    ap (λ can. if can then sound_segment place (segment_alone count words) else []) may
    ∙ ap (sound_segment place) read
    ∙ ap (named_segment place) named

pub each-is-found : (blocks : List (List ℕ)) (segment : Segment) → IsSegment blocks segment → HasSegment (segments_among blocks) segment
each-is-found blocks segment s =
    let same : 0 + segment.place ≡ segment.place = omega arith in
    found-from (length blocks) segment blocks 0 segment.place s.words s.there
    (ap (λ n. segment_at (length blocks) n s.words) same ∙ segment-as (length blocks) segment.place s.words s.directory segment.name s.may_be s.read s.named)
