-- The tape that frames begin with.
use Rattle.std.proofs.Common.{◌≡◌, ◌∙◌, ◌⊎◌, ℕ, ◌+◌, suc, Bool, true, false, nat_eq, if◌then◌else◌, List, [], ◌∷◌, ◌++◌, length, take, drop, refl, ap, arith, inl, inr}
use Rattle.std.proofs.Math.Seq.{take-append-add, drop-append-add}
use Rattle.bin_tape.specs.Items.{Item}
use Rattle.bin_tape.specs.Tape.{IsTape}
use Rattle.bin_tape.specs.Fault.{IsFault, RefusesFrame}
use Rattle.bin_tape.specs.Reading.{IsGoing, IsWhole}
use Rattle.bin_tape.specs.declared.faults.TapeFault.{TapeFault}
use Rattle.bin_tape.specs.declared.faults.TapeFault.TheVariants.{BadFrame, NoOrigin, CheckSum, NoTrailer, Memory}
use Rattle.archive_files.specs.Getting.{trailer, IsTapeOf}
use Rattle.archive_files.specs.Steps.{IsFirstTape}

-- what may go on as a tape is none
pub going_none : ((frames : List ℕ) (items : List Item) (fault : TapeFault) → IsTape frames items → IsFault frames fault → ⊥)
    → (frames : List ℕ) (out : List (ℕ × ℕ)) → IsGoing frames out → (others : List Item) → IsTape frames others → ⊥
going_none no_fault frames out going others is = no_fault frames others NoTrailer is (going.items, going.part, going.is_open)

-- a frame that brings nothing leaves what may go on
pub going_on : ((frames : List ℕ) (items : List Item) (fault : TapeFault) → IsTape frames items → IsFault frames fault → ⊥)
    → (frames more : List ℕ) (out : List (ℕ × ℕ)) → IsGoing frames out → IsWhole frames out ⊎ IsGoing more out → IsGoing more out
going_on no_fault frames more out going (inl whole) = absurd (going_none no_fault frames out going whole.items whole.is_tape)
going_on no_fault frames more out going (inr on) = on

pub refused_fault : (frames : List ℕ) (fault : TapeFault) → RefusesFrame frames fault → IsFault frames fault
refused_fault frames (BadFrame at) is = is
refused_fault frames NoOrigin is = is
refused_fault frames (CheckSum found computed) is = is
refused_fault frames NoTrailer is = absurd is.refused
refused_fault frames Memory is = absurd is.refused

-- the trailer frames that frames begin with
take-trailer : (frames : List ℕ) → take (length (trailer frames)) frames ≡ trailer frames
take-trailer [] = refl
take-trailer (frame ∷ others) = go (nat_eq frame 128) (take-trailer others)
  where
    go : (b : Bool) → take (length (trailer others)) others ≡ trailer others
        → take (length (if b then frame ∷ trailer others else [])) (frame ∷ others) ≡ (if b then frame ∷ trailer others else [])
    go true rest = ap (λ l. frame ∷ l) rest
    go false rest = refl

count-more : (n : ℕ) (m : ℕ) → (n + 1) + m ≡ n + suc m
count-more n m = omega arith

-- the first frames that are a tape, and the trailer frames after them
pub first_tape : (file tape : List ℕ) (count more : ℕ) → IsFirstTape file count → more ≡ length (trailer (drop count file)) → tape ≡ take (count + more) file
    → IsTapeOf file tape
first_tape file tape count more first is cut = record {
  before = first.before;
  first = first.frame;
  following = first.following;
  items = first.items;
  file_is = first.file_is;
  is_tape = first.is_tape;
  none_before = first.none_before;
  tape_is = cut ∙ rw (size, first.count_is, first.file_is, count-more (length first.before) (length (trailer first.following)))
      (take-append-add first.before (first.frame ∷ first.following) (suc (length (trailer first.following))) ∙ ap (λ l. first.before ++ first.frame ∷ l) (take-trailer first.following));
}
  where
    following : drop count file ≡ first.following
    following = rw (first.count_is, first.file_is) (drop-append-add first.before (first.frame ∷ first.following) 1)

    size : more ≡ length (trailer first.following)
    size = is ∙ ap (λ l. length (trailer l)) following
