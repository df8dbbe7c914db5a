-- The fault of words as a function of them, segment by segment: so a reading, and a fault, is one only.
use Rattle.std.proofs.Common.{◌≡◌, ℕ, zero, suc, ◌+◌, ◌-◌, ◌*◌, ◌/◌, ◌%◌, ◌<◌, ◌≤◌, inl, inr, nat_eq, nat_lt, nat_le, Bool, true, false, ◌&&◌, if◌then◌else◌, ◌∙◌, ap, refl, sym, arith, length, slice_index, eq-eqb, List, [], ◌∷◌}
use Rattle.std.proofs.lemmas.Bool.Decides.{nat_tests}
use Rattle.core_image.specs.Segments.{AreSegments, IsFirst, IsControl, blocks_in, blocks_of, pages_of, pairs_in}
use Rattle.core_image.specs.Image.{HasHead, IsStart, IsImage, count_of}
use Rattle.core_image.specs.Fault.{IsBadHead, HasMore, IsBadSegment, EndsEarly, IsFault}
use Rattle.core_image.specs.declared.faults.CoreFault.{CoreFault}
use Rattle.core_image.specs.declared.faults.CoreFault.TheVariants.{BadWord, TooShort, Memory}

-- the two words of a segment, by its number
abbrev first : List ℕ → ℕ → ℕ
first words number = slice_index words (4 + 2 * number)

abbrev second : List ℕ → ℕ → ℕ
second words number = slice_index words (5 + 2 * number)

abbrev is_control : ℕ → ℕ → Bool
is_control f control = nat_lt control 2048 && nat_eq (control % 8) 0 && nat_le (f + 128 * pages_of control) 4096

-- the fault of one more segment, or of what comes after it
abbrev judged : List ℕ → List (ℕ × ℕ) → CoreFault → CoreFault
judged words older following =
    if nat_eq (first words (length older) % 256) 0 then
    (if is_control (first words (length older)) (second words (length older)) then
    (if nat_lt (length words) (256 * (1 + blocks_in older + blocks_of (second words (length older)))) then TooShort else following)
    else BadWord (5 + 2 * length older) (second words (length older)))
    else BadWord (4 + 2 * length older) (first words (length older))

-- the fault of so many more segments, which is want of memory where they are as they should be
rest_fault : List ℕ → ℕ → List (ℕ × ℕ) → CoreFault
rest_fault words zero older = Memory
rest_fault words (suc left) older = judged words older (rest_fault words left ((first words (length older), second words (length older)) ∷ older))

abbrev the_fault : List ℕ → CoreFault
the_fault words =
    if nat_lt (length words) 256 then TooShort
    else (if nat_lt (slice_index words 0) 3970 then BadWord 0 (slice_index words 0)
    else (if nat_eq (slice_index words 1 / 64) 50 && nat_eq (slice_index words 1 % 8) 3 then rest_fault words (count_of words) []
    else BadWord 1 (slice_index words 1)))

-- ## Segments that are as they should be

fits : (f control size need : ℕ) (following a b : CoreFault) → IsFirst f → IsControl f control
    → (if nat_eq (f % 256) 0 then (if is_control f control then (if nat_lt size need then TooShort else following) else a) else b) ≡ (if nat_lt size need then TooShort else following)
fits f control size need following a b is_first control_is = grind (arith, nat_tests)

long : (size need : ℕ) (following : CoreFault) → need ≤ size → (if nat_lt size need then TooShort else following) ≡ following
long size need following enough = grind (arith, nat_tests)

short : (size need : ℕ) (following : CoreFault) → size < need → (if nat_lt size need then TooShort else following) ≡ TooShort
short size need following few = grind (arith, nat_tests)

good : (words : List ℕ) (older : List (ℕ × ℕ)) (segment : ℕ × ℕ) (following : CoreFault) → AreSegments words (segment ∷ older) → judged words older following ≡ following
good words older segment following are =
    rw (are.0, are.1) (fits segment.0 segment.1 (length words) _ following _ _ are.2 are.3 ∙ long (length words) _ following are.4)

same_at : (words : List ℕ) (m n : ℕ) (older : List (ℕ × ℕ)) → m ≡ n → rest_fault words m older ≡ rest_fault words n older
same_at words m n older e = cc

goes_on : (words : List ℕ) (left : ℕ) (older : List (ℕ × ℕ)) → AreSegments words older → rest_fault words (length older + left) [] ≡ rest_fault words left older
unfolding rest_fault
goes_on words left [] are = same_at words (0 + left) left [] (omega arith)
goes_on words left (segment ∷ older) are =
    same_at words (suc (length older) + left) (length older + suc left) [] (omega arith)
    ∙ goes_on words (suc left) older are.5
    ∙ good words older segment _ are
    ∙ ap (λ n. rest_fault words left ((n, second words (length older)) ∷ older)) are.0
    ∙ ap (λ n. rest_fault words left ((segment.0, n) ∷ older)) are.1

head_goes : (words : List ℕ) → HasHead words → the_fault words ≡ rest_fault words (count_of words) []
head_goes words head = grind (arith, nat_tests, head.whole, head.count, head.start)

-- ## The fault

more_goes : (words : List ℕ) (older : List (ℕ × ℕ)) → HasMore words older
    → (following : CoreFault) × (the_fault words ≡ judged words older following)
unfolding rest_fault
more_goes words older has =
    let left : length older + suc (count_of words - length older - 1) ≡ count_of words = omega (arith, has.more) in
    (_, head_goes words has.head ∙ same_at words (count_of words) _ [] (sym left) ∙ goes_on words (suc (count_of words - length older - 1)) older has.are)

by_test : (b : Bool) → (b ≡ true → ⊥) → b ≡ false
by_test true none = absurd (none refl)
by_test false none = refl

control_told : (f control : ℕ) → is_control f control ≡ true → IsControl f control
control_told f control is = grind (arith, nat_tests)

start_told : (word : ℕ) → (nat_eq (word / 64) 50 && nat_eq (word % 8) 3) ≡ true → IsStart word
start_told word is = grind (arith, nat_tests)

head_bad : (words : List ℕ) (place : ℕ) → IsBadHead words place → the_fault words ≡ BadWord place (slice_index words place)
head_bad words place bad = elim bad.1 [
  | inl one ↦ rw one.0 (grind (arith, nat_tests, bad.0, one.1))
  | inr two ↦ rw (
    two.0,
    by_test (nat_eq (slice_index words 1 / 64) 50 && nat_eq (slice_index words 1 % 8) 3) (λ e. two.2 (start_told (slice_index words 1) e)),
  ) (grind (arith, nat_tests, bad.0, two.1))
]

segment_bad : (words : List ℕ) (place : ℕ) → IsBadSegment words place → the_fault words ≡ BadWord place (slice_index words place)
segment_bad words place bad =
    let more = more_goes words bad.older bad.has_more in
    let n = length bad.older in
    more.1 ∙ elim bad.bad [
      | inl one ↦ rw one.0 (rw (by_test (nat_eq (first words n % 256) 0) (λ e. one.1 (rw one.0 (grind (arith, nat_tests))))) refl)
      | inr two ↦ rw two.0
          (rw (eq-eqb (first words n % 256) 0 two.1, by_test (is_control (first words n) (second words n)) (λ e. two.2 (rw two.0 (control_told (first words n) (second words n) e)))) refl)
    ]

ends_early : (words : List ℕ) → EndsEarly words → the_fault words ≡ TooShort
ends_early words early =
    let more = more_goes words early.older early.has_more in
    let n = length early.older in
    more.1 ∙ fits (first words n) (second words n) (length words) _ more.0 _ _ early.first early.control ∙ short (length words) _ more.0 early.short

image_has_none : (words : List ℕ) (pairs : List (ℕ × ℕ)) (start status : ℕ) → IsImage words pairs start status → the_fault words ≡ Memory
unfolding rest_fault
image_has_none words pairs start status image =
    head_goes words image.head ∙ same_at words (count_of words) (length image.segments + 0) [] (omega (arith, image.all)) ∙ goes_on words 0 image.segments image.are

fault_told : (words : List ℕ) (fault : CoreFault) → IsFault words fault → the_fault words ≡ fault
fault_told words (BadWord place word) h =
    elim h.1 [ inl head ↦ head_bad words place head | inr segment ↦ segment_bad words place segment ] ∙ ap (BadWord place) (sym h.0)
fault_told words TooShort h = elim h [ inl few ↦ grind (arith, nat_tests) | inr early ↦ ends_early words early ]
fault_told words Memory h = image_has_none words h.pairs h.start h.status h.is_image

-- ## The laws

reading_pairs : (words : List ℕ) (a b : List (ℕ × ℕ)) → length a ≡ length b → AreSegments words a → AreSegments words b → a ≡ b
reading_pairs words [] [] e f g = refl
reading_pairs words [] (t ∷ b) e f g = absurd (omega (arith, e))
reading_pairs words (s ∷ a) [] e f g = absurd (omega (arith, e))
reading_pairs words (s ∷ a) (t ∷ b) e f g =
    let size : length a ≡ length b = omega (arith, e) in
    ap (λ x. (x, s.1) ∷ a) (sym f.0 ∙ ap (first words) size ∙ g.0)
    ∙ ap (λ y. (t.0, y) ∷ a) (sym f.1 ∙ ap (second words) size ∙ g.1)
    ∙ ap (λ l. t ∷ l) (reading_pairs words a b size f.5 g.5)

pub reading_is_one : (words : List ℕ) (a b : List (ℕ × ℕ)) (start again status other : ℕ) → IsImage words a start status → IsImage words b again other
    → (a ≡ b) × (start ≡ again) × (status ≡ other)
reading_is_one words a b start again status other x y = (
  x.pairs_are ∙ ap (pairs_in words) (reading_pairs words x.segments y.segments (x.all ∙ sym y.all) x.are y.are) ∙ sym y.pairs_are,
  x.start_is ∙ sym y.start_is,
  x.status_is ∙ sym y.status_is,
)

pub fault_is_one : (words : List ℕ) (a b : CoreFault) → IsFault words a → IsFault words b → a ≡ b
fault_is_one words a b s t = sym (fault_told words a s) ∙ fault_told words b t
