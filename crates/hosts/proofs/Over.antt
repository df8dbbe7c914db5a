-- A file that is written in its place, in two pieces.
use Rattle.std.proofs.Common.{◌≡◌, ◌≤◌, ℕ, zero, suc, true, List, [], ◌∷◌, ◌++◌, length, take, drop, Some, refl, ap, sym, append_assoc}
use Rattle.std.proofs.lemmas.List.{take-append-drop, take_all as take_long, drop_all}
use Rattle.hosts.specs.Event.{FinishOver}
use Rattle.hosts.specs.Place.{Step, Remainder, Just, replay, with_bytes_over, remainder_with_bytes_over, cut_left}
use Rattle.hosts.specs.Saving.{IsWrittenOver, over_step, with_rest}

take_all : (xs ys : List ℕ) → take (length xs) (xs ++ ys) ≡ xs
take_all [] ys = refl
take_all (x ∷ xs) ys = ap (λ rest. x ∷ rest) (take_all xs ys)

-- what stands from a byte on, after bytes were written there
tail_of : (at : ℕ) (new old : List ℕ) → (rest : List ℕ) × (drop at (with_bytes_over at new old) ≡ new ++ rest)
tail_of zero new old = (drop (length new) old, refl)
tail_of (suc at) new [] = tail_of at new []
tail_of (suc at) new (byte ∷ old) = tail_of at new old

pub over_head : (head was : List ℕ) → take (length head) (with_bytes_over 0 head was) ≡ head
over_head head was = take_all head (drop (length head) was)

pub over_both : (head rest was : List ℕ) → take (length (head ++ rest)) (with_bytes_over 0 head (with_bytes_over (length head) rest was)) ≡ head ++ rest
over_both head rest was =
    let following = tail_of (length head) rest was in
    rw following.1 (rw (← append_assoc head rest following.0) (take_all (head ++ rest) following.0))

over_left : (bytes head rest was : List ℕ) (seen : Remainder) → seen ≡ Just (Some was) → bytes ≡ head ++ rest → cut_left (length bytes) (remainder_with_bytes_over 0 head (remainder_with_bytes_over (length head) rest seen)) ≡ Just (Some bytes)
over_left bytes head rest was seen is parts = rw is (rw parts (ap (λ found. Just (Some found)) (over_both head rest was)))

head_left : (bytes was : List ℕ) (seen : Remainder) → seen ≡ Just (Some was) → cut_left (length bytes) (remainder_with_bytes_over 0 bytes seen) ≡ Just (Some bytes)
head_left bytes was seen is = rw is (ap (λ found. Just (Some found)) (over_head bytes was))

abbrev pub finish_step : ℕ → Step
finish_step size = record { change = FinishOver; ok = true; number = size; bytes = [] }

pub written_both : (bytes head rest : List ℕ) (old : List Step) → bytes ≡ head ++ rest → IsWrittenOver bytes old (finish_step (length bytes) ∷ over_step 0 head ∷ over_step (length head) rest ∷ old)
written_both bytes head rest old parts start was is =
    let seen = over_left bytes head rest was (replay start old).seen is parts in
    record { seen = seen; on_disk = seen; earlier = refl }

pub written_head : (bytes : List ℕ) (old : List Step) → IsWrittenOver bytes old (finish_step (length bytes) ∷ over_step 0 bytes ∷ old)
written_head bytes old start was is =
    let seen = head_left bytes was (replay start old).seen is in
    record { seen = seen; on_disk = seen; earlier = refl }

pub both_parts : (bytes head rest : List ℕ) (n : ℕ) → head ≡ take n bytes → rest ≡ drop n bytes → bytes ≡ head ++ rest
both_parts bytes head rest n front back = rw (front, back) (sym (take-append-drop n bytes))

-- where no byte stands after the head, all bytes are one write
pub head_alone : (first : ℕ) (bytes : List ℕ) (old : List Step) → length bytes ≤ first → over_step 0 bytes ∷ old ≡ over_step 0 (take first bytes) ∷ with_rest first (drop first bytes) old
head_alone first bytes old most = rw (take_long first bytes most, drop_all first bytes most) refl
