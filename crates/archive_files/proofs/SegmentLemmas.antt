-- The segments that a check tells are those that were read.
use Rattle.std.proofs.Common.{◌≡◌, ◌∙◌, ℕ, zero, suc, ◌<◌, ◌==◌, Bool, true, false, true≢false, not, nat_lt, if◌then◌else◌, Result, Ok, Err, List, [], ◌∷◌, ◌++◌, length, refl, ap, arith}
use Rattle.std.proofs.lemmas.Bool.{and_parts, ltb-true, not-true}
use Rattle.std.proofs.lemmas.Bool.Decides.{nat_tests}
use Rattle.os8_dir.specs.Entries.{DirectoryState, AreDistinct, contains}
use Rattle.os8_dir.specs.Reading.{◌>>=◌, needs, block, word, is_unread, with_segment, with_links, head_of, directory_of}
use Rattle.os8_dir.specs.declared.faults.DirFault.{DirFault}
use Rattle.os8_dir.specs.declared.faults.DirFault.TheVariants.{BadLink}
use Rattle.archive_files.specs.Checking.{segment_line, segment_lines}
use Rattle.archive_files.specs.Laws.{AreLinked, read_on, lines_of_segments}
use Rattle.archive_files.proofs.CheckLemmas.{segment_step}

-- ## Results that are read one after the other

bound : {A B : Type 0} (r : Result A DirFault) (f : A → Result B DirFault) (y : B) → (r >>= f) ≡ Ok y → (x : A) × (r ≡ Ok x) × (f x ≡ Ok y)
bound (Ok x) f y is = (x, refl, is)
bound (Err fault) f y is = absurd (cc)

needed : {B : Type 0} (b : Bool) (fault : DirFault) (f : Unit {0} → Result B DirFault) (y : B) → (needs b fault >>= f) ≡ Ok y
    → (b ≡ true) × (f tt ≡ Ok y)
needed true fault f y is = (refl, is)
needed false fault f y is = absurd (cc)

-- ## No segment is there twice

-- none of these was read
abbrev AreUnread : List ℕ → List ℕ → Type 0
AreUnread read [] = Unit {0}
AreUnread read (number ∷ numbers) = (contains read number ≡ false) × AreUnread read numbers

apart : (number : ℕ) (read numbers : List ℕ) → AreUnread (number ∷ read) numbers → (contains numbers number ≡ false) × AreUnread read numbers
apart number read [] are = (refl, tt)
apart number read (next ∷ others) are = go (number == next) refl (next == number) refl are.0 (apart number read others are.1)
  where
    go : (a : Bool) → (number == next) ≡ a → (b : Bool) → (next == number) ≡ b → (if a then true else contains read next) ≡ false
        → (contains others number ≡ false) × AreUnread read others
        → ((if b then true else contains others number) ≡ false) × AreUnread read (next ∷ others)
    go true is b also none rest = absurd (true≢false none)
    go false is true also none rest = absurd (grind (arith, nat_tests, is, also))
    go false is false also none rest = (rest.0, (none, rest.1))

-- ## The walk along the links

-- what was read from a link on, and what is told of it
pub record Walk (left : ℕ) (blocks : List (List ℕ)) (d last : DirectoryState) (read : List ℕ) (link : ℕ) : Type 0 where
  pub numbers : List ℕ
  pub linked : AreLinked blocks link numbers
  pub distinct : AreDistinct numbers
  pub unread : AreUnread read numbers
  pub read_on_is : read_on blocks d numbers ≡ Ok last
  pub lines : segment_lines left blocks link ≡ lines_of_segments blocks numbers

-- one segment before others
onward : (left number : ℕ) (blocks : List (List ℕ)) (d more last : DirectoryState) (read : List ℕ) → 0 < number → number < 7 → contains read number ≡ false
    → with_segment (length blocks) d number (block blocks number) ≡ Ok more
    → Walk left blocks more last (number ∷ read) (word (block blocks number) 2) → Walk (suc left) blocks d last read number
onward left number blocks d more last read some most new one rest =
    let other = apart number read rest.numbers rest.unread in
    record {
      numbers = number ∷ rest.numbers;
      linked = (refl, some, most, rest.linked);
      distinct = (other.0, rest.distinct);
      unread = (new, other.1);
      read_on_is = ap (λ r. r >>= (λ next. read_on blocks next rest.numbers)) one ∙ rest.read_on_is;
      lines = segment_step (suc left) left number blocks refl some most
          ∙ ap (λ l. segment_line number (word (block blocks number) 0) ++ l) rest.lines;
    }

pub walk : (left : ℕ) (blocks : List (List ℕ)) (d last : DirectoryState) (read : List ℕ) (from link : ℕ)
    → with_links left d blocks read from link ≡ Ok last → Walk left blocks d last read link
unfolding with_links
walk zero blocks d last read from zero is = record {
  numbers = [];
  linked = refl;
  distinct = tt;
  unread = tt;
  read_on_is = is;
  lines = refl;
}
walk (suc left) blocks d last read from zero is = record {
  numbers = [];
  linked = refl;
  distinct = tt;
  unread = tt;
  read_on_is = is;
  lines = refl;
}
walk zero blocks d last read from (suc n) is = absurd (cc)
walk (suc left) blocks d last read from (suc n) is =
    let unread = needed (is_unread read (suc n)) (BadLink from)
    (λ unread. with_segment (length blocks) d (suc n) (block blocks (suc n)) >>= (λ more. with_links left more blocks (suc n ∷ read) (suc n) (word (block blocks (suc n)) 2)))
    last is in
    let one = bound (with_segment (length blocks) d (suc n) (block blocks (suc n)))
    (λ more. with_links left more blocks (suc n ∷ read) (suc n) (word (block blocks (suc n)) 2)) last unread.1 in
    let parts = and_parts (nat_lt (suc n) 7) (not (contains read (suc n))) unread.0 in
    onward left (suc n) blocks d one.0 last read (omega arith) (ltb-true (suc n) 7 parts.0) (not-true (contains read (suc n)) parts.1) one.1
    (walk left blocks one.0 last (suc n ∷ read) (suc n) (word (block blocks (suc n)) 2) one.2)

-- the whole directory
pub record Whole (blocks : List (List ℕ)) (last : DirectoryState) : Type 0 where
  pub head : DirectoryState
  pub begun : head_of (length blocks) (block blocks 1) ≡ Ok head
  pub segments : Walk 6 blocks head last [] 1

pub whole : (blocks : List (List ℕ)) (last : DirectoryState) → directory_of blocks ≡ Ok last → Whole blocks last
unfolding directory_of
whole blocks last is =
    let head = bound (head_of (length blocks) (block blocks 1))
    (λ head. with_segment (length blocks) head 1 (block blocks 1) >>= (λ one. with_links 5 one blocks (1 ∷ []) 1 (word (block blocks 1) 2))) last is in
    let one = bound (with_segment (length blocks) head.0 1 (block blocks 1)) (λ one. with_links 5 one blocks (1 ∷ []) 1 (word (block blocks 1) 2)) last head.2 in
    record {
      head = head.0;
      begun = head.1;
      segments = onward 5 1 blocks head.0 one.0 last [] (omega arith) (omega arith) refl one.1
          (walk 5 blocks one.0 last (1 ∷ []) 1 (word (block blocks 1) 2) one.2);
    }
