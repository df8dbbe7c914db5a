-- What is chosen among empties and files.
use Rattle.std.proofs.Common.{◌≡◌, ℕ, zero, suc, ◌+◌, ◌<◌, ◌≤◌, if◌then◌else◌, List, [], ◌∷◌, ◌++◌, length, Option, Some, None, refl, ap, sym, subst, arith, inl, inr}
use Rattle.std.specs.Prelude.{◌⊎◌}
use Rattle.std.proofs.lemmas.Bool.Decides.{eqb_tells, leb_tells}
use Rattle.os8_dir.specs.declared.entries.DirEntry.{DirEntry}
use Rattle.os8_dir.specs.declared.entries.DirEntry.TheVariants.{File, Empty}
use Rattle.os8_dir.specs.Entries.{IsTidy}
use Rattle.os8_dir.specs.Found.{FilePlace, files_at, largest, larger, above}
use Rattle.os8_dir.specs.Changes.{fitting, smaller, smallest, lowest_above}
use Rattle.os8_dir.specs.Chosen.{EachRoom, IsFirstLargest, IsFirstSmallest, IsLowestAbove, IsFreeBlock, EachHas, NoneHas, IsCountAbove}
use Rattle.os8_dir.proofs.CountLemmas.{length-files}

abbrev pair_or : Option (ℕ × ℕ) → ℕ × ℕ → ℕ × ℕ
pair_or None pair = pair
pair_or (Some pair) other = pair

some-is : (one two : ℕ × ℕ) → Some one ≡ Some two → one ≡ two
some-is one two is = ap (λ o. pair_or o one) is

some-none : (room : ℕ × ℕ) → Some room ≡ None → ⊥
some-none room is = cc

-- Rooms that are all so.
each-append : (So : ℕ → Type 0) (xs ys : List (ℕ × ℕ)) → EachRoom So xs → EachRoom So ys → EachRoom So (xs ++ ys)
each-append So [] ys one two = two
each-append So (x ∷ xs) ys one two = (one.0, each-append So xs ys one.1 two)

each-more : (So More : ℕ → Type 0) → ((n : ℕ) → So n → More n) → (xs : List (ℕ × ℕ)) → EachRoom So xs → EachRoom More xs
each-more So More more [] each = tt
each-more So More more (x ∷ xs) each = (more x.1 each.0, each-more So More more xs each.1)

-- The largest.
no-room : (rooms : List (ℕ × ℕ)) → largest rooms ≡ None → rooms ≡ []
no-room [] is = refl
no-room (room ∷ rooms) is = cc

all-largest : (rooms : List (ℕ × ℕ)) (room : ℕ × ℕ) (most : ℕ) → IsFirstLargest rooms room → room.1 ≤ most → EachRoom (λ size. size ≤ most) rooms
all-largest rooms room most first less =
    subst (EachRoom (λ size. size ≤ most)) (sym first.list)
    (each-append (λ size. size ≤ most) first.prefix (room ∷ first.following)
    (each-more (λ size. size < room.1) (λ size. size ≤ most) (λ n under. omega (arith, under, less)) first.prefix first.before)
    (less, each-more (λ size. size ≤ room.1) (λ size. size ≤ most) (λ n under. omega (arith, under, less)) first.following first.after))

larger-first : (room : ℕ × ℕ) (rooms : List (ℕ × ℕ)) (o : Option (ℕ × ℕ)) → largest rooms ≡ o → ((other : ℕ × ℕ) → o ≡ Some other → IsFirstLargest rooms other) → IsFirstLargest (room ∷ rooms) (larger room o)
larger-first room rooms None is first = record { prefix = []; following = rooms; list = refl; before = tt; after = subst (EachRoom (λ size. size ≤ room.1)) (sym (no-room rooms is)) tt }
larger-first room rooms (Some other) is first = elim (leb_tells (suc room.1) other.1) [
  | inl less ↦ let h = first other refl in subst (λ b. IsFirstLargest (room ∷ rooms) (if b then other else room)) (sym less.0)
      (record { prefix = room ∷ h.prefix; following = h.following; list = ap (λ l. room ∷ l) h.list; before = (omega (arith, less.1), h.before); after = h.after })
  | inr more ↦ subst (λ b. IsFirstLargest (room ∷ rooms) (if b then other else room)) (sym more.0)
      (record { prefix = []; following = rooms; list = refl; before = tt; after = all-largest rooms other room.1 (first other refl) (omega (arith, more.1)) })
]

pub largest-first : (rooms : List (ℕ × ℕ)) (room : ℕ × ℕ) → largest rooms ≡ Some room → IsFirstLargest rooms room
largest-first [] room is = cc
largest-first (other ∷ rooms) room is = subst (IsFirstLargest (other ∷ rooms)) (some-is _ room is) (larger-first other rooms (largest rooms) refl (λ x found. largest-first rooms x found))

-- The smallest that has so many blocks.
abbrev or_smaller : ℕ → ℕ × ℕ → List (ℕ × ℕ) → Option (ℕ × ℕ)
or_smaller wish room rooms = Some (smaller room (smallest wish rooms))

none-long : (wish : ℕ) (rooms : List (ℕ × ℕ)) → smallest wish rooms ≡ None → EachRoom (λ size. size < wish) rooms
none-long wish [] is = tt
none-long wish (room ∷ rooms) is = elim (leb_tells (suc room.1) wish) [
  | inl short ↦ (omega (arith, short.1), none-long wish rooms (subst (λ b. (if b then smallest wish rooms else or_smaller wish room rooms) ≡ None) short.0 is))
  | inr long ↦ absurd (some-none _ (subst (λ b. (if b then smallest wish rooms else or_smaller wish room rooms) ≡ None) long.0 is))
]

all-smallest : (wish : ℕ) (rooms : List (ℕ × ℕ)) (room : ℕ × ℕ) (least : ℕ) → IsFirstSmallest wish rooms room → least ≤ room.1 → EachRoom (λ size. (size < wish) ⊎ (least ≤ size)) rooms
all-smallest wish rooms room least first less =
    subst (EachRoom (λ size. (size < wish) ⊎ (least ≤ size))) (sym first.list)
    (each-append (λ size. (size < wish) ⊎ (least ≤ size)) first.prefix (room ∷ first.following)
    (each-more (λ size. (size < wish) ⊎ (room.1 < size)) (λ size. (size < wish) ⊎ (least ≤ size)) (λ n so. elim so [ inl short ↦ inl short | inr over ↦ inr (omega (arith, over, less)) ]) first.prefix first.before)
    (inr less, each-more (λ size. (size < wish) ⊎ (room.1 ≤ size)) (λ size. (size < wish) ⊎ (least ≤ size)) (λ n so. elim so [ inl short ↦ inl short | inr over ↦ inr (omega (arith, over, less)) ]) first.following first.after))

smaller-first : (wish : ℕ) (room : ℕ × ℕ) (rooms : List (ℕ × ℕ)) (o : Option (ℕ × ℕ)) → wish ≤ room.1 → smallest wish rooms ≡ o → ((other : ℕ × ℕ) → o ≡ Some other → IsFirstSmallest wish rooms other) → IsFirstSmallest wish (room ∷ rooms) (smaller room o)
smaller-first wish room rooms None long is first = record {
  prefix = [];
  following = rooms;
  list = refl;
  long = long;
  before = tt;
  after = each-more (λ size. size < wish) (λ size. (size < wish) ⊎ (room.1 ≤ size)) (λ n short. inl short) rooms (none-long wish rooms is);
}
smaller-first wish room rooms (Some other) long is first = elim (leb_tells (suc other.1) room.1) [
  | inl less ↦ let h = first other refl in subst (λ b. IsFirstSmallest wish (room ∷ rooms) (if b then other else room)) (sym less.0)
      (record { prefix = room ∷ h.prefix; following = h.following; list = ap (λ l. room ∷ l) h.list; long = h.long; before = (inr (omega (arith, less.1)), h.before); after = h.after })
  | inr more ↦ subst (λ b. IsFirstSmallest wish (room ∷ rooms) (if b then other else room)) (sym more.0)
      (record { prefix = []; following = rooms; list = refl; long = long; before = tt; after = all-smallest wish rooms other room.1 (first other refl) (omega (arith, more.1)) })
]

smallest-first : (wish : ℕ) (rooms : List (ℕ × ℕ)) (room : ℕ × ℕ) → smallest wish rooms ≡ Some room → IsFirstSmallest wish rooms room
smallest-first wish [] room is = cc
smallest-first wish (other ∷ rooms) room is = elim (leb_tells (suc other.1) wish) [
  | inl short ↦ let h = smallest-first wish rooms room (subst (λ b. (if b then smallest wish rooms else or_smaller wish other rooms) ≡ Some room) short.0 is) in
      record { prefix = other ∷ h.prefix; following = h.following; list = ap (λ l. other ∷ l) h.list; long = h.long; before = (inl (omega (arith, short.1)), h.before); after = h.after }
  | inr long ↦ subst (IsFirstSmallest wish (other ∷ rooms)) (some-is _ room (subst (λ b. (if b then smallest wish rooms else or_smaller wish other rooms) ≡ Some room) long.0 is))
      (smaller-first wish other rooms (smallest wish rooms) (omega (arith, long.1)) refl (λ x found. smallest-first wish rooms x found))
]

pub fitting-smallest : (wish : ℕ) (rooms : List (ℕ × ℕ)) (room : ℕ × ℕ) → 0 < wish → fitting wish rooms ≡ Some room → IsFirstSmallest wish rooms room
fitting-smallest wish rooms room some is = elim (eqb_tells wish 0) [
  | inl none ↦ absurd (omega (arith, some, none.1))
  | inr more ↦ smallest-first wish rooms room (subst (λ b. (if b then largest rooms else smallest wish rooms) ≡ Some room) more.0 is)
]

pub fitting-largest : (rooms : List (ℕ × ℕ)) (room : ℕ × ℕ) → fitting 0 rooms ≡ Some room → IsFirstLargest rooms room
fitting-largest rooms room is = largest-first rooms room is

-- The lowest file with an empty directly below it.
pub lowest-first : (es : List DirEntry) (name gap : ℕ) → IsTidy es → lowest_above es ≡ Some (name, gap) → IsLowestAbove es name gap
lowest-first [] name gap neat is = cc
lowest-first (File other info size ∷ es) name gap neat is =
    let h = lowest-first es name gap neat.2 is in
    record { prefix = File other info size ∷ h.prefix; info = h.info; size = h.size; following = h.following; list = ap (λ l. File other info size ∷ l) h.list; files = h.files }
lowest-first (Empty size ∷ []) name gap neat is = cc
lowest-first (Empty size ∷ Empty more ∷ es) name gap neat is = absurd neat.1
lowest-first (Empty size ∷ File other info more ∷ es) name gap neat is =
    subst (λ (p : ℕ × ℕ). IsLowestAbove (Empty size ∷ File other info more ∷ es) p.0 p.1) (some-is (other, size) (name, gap) is)
    (record { prefix = []; info = info; size = more; following = es; list = refl; files = tt })

-- The files with a free block below them.
free-below : (block place : ℕ) (es : List DirEntry) → block < place → IsFreeBlock block (files_at place es)
free-below block place [] low = tt
free-below block place (File name info zero ∷ es) low = free-below block place es low
free-below block place (File name info (suc size) ∷ es) low = (inl low, free-below block (place + suc size) es (omega (arith, low)))
free-below block place (Empty size ∷ es) low = free-below block (place + size) es (omega (arith, low))

each-has : (first : ℕ) (all : List FilePlace) (block : ℕ) → first ≤ block → IsFreeBlock block all → (place : ℕ) (es : List DirEntry) → block < place → EachHas first all (files_at place es)
each-has first all block covered free place [] low = tt
each-has first all block covered free place (File name info zero ∷ es) low = each-has first all block covered free place es low
each-has first all block covered free place (File name info (suc size) ∷ es) low = (record { block = block; covered = covered; below = low; free = free }, each-has first all block covered free (place + suc size) es (omega (arith, low)))
each-has first all block covered free place (Empty size ∷ es) low = each-has first all block covered free (place + size) es (omega (arith, low))

-- the files from a place on, where each block before it is one of a file
record Splits (first place : ℕ) (all : List FilePlace) (es : List DirEntry) : Type 0 where
  low : List FilePlace
  high : List FilePlace
  files : files_at place es ≡ low ++ high
  none : NoneHas first all low
  each : EachHas first all high
  count : length high ≡ above es

splits : (first place : ℕ) (all : List FilePlace) (es : List DirEntry) → IsTidy es → first ≤ place
    → ((block : ℕ) → first ≤ block → block < place → IsFreeBlock block all → ⊥)
    → ((block : ℕ) → place ≤ block → IsFreeBlock block (files_at place es) → IsFreeBlock block all)
    → ((block : ℕ) → IsFreeBlock block all → IsFreeBlock block (files_at place es)) → Splits first place all es
splits first place all [] neat from taken frees holds = record { low = []; high = []; files = refl; none = tt; each = tt; count = refl }
splits first place all (File name info zero ∷ es) neat from taken frees holds = absurd (omega (arith, neat.0))
splits first place all (File name info (suc size) ∷ es) neat from taken frees holds =
    let f : FilePlace = record { name = name; info = info; place = place; size = suc size } in
    let h = splits first (place + suc size) all es neat.2 (omega (arith, from))
    (λ block covered low free. elim (leb_tells (suc block) place) [
      | inl under ↦ taken block covered (omega (arith, under.1)) free
      | inr over ↦ elim (holds block free).0 [ inl below ↦ omega (arith, below, over.1) | inr above ↦ omega (arith, above, low) ]
    ])
    (λ block high free. frees block (omega (arith, high)) (inr high, free))
    (λ block free. (holds block free).1) in
    record {
      low = f ∷ h.low;
      high = h.high;
      files = ap (λ fs. f ∷ fs) h.files;
      none = ((λ has. taken has.block has.covered has.below has.free), h.none);
      each = h.each;
      count = h.count;
    }
splits first place all (Empty size ∷ es) neat from taken frees holds =
    record {
      low = [];
      high = files_at (place + size) es;
      files = refl;
      none = tt;
      each = each-has first all place from (frees place (omega arith) (free-below place (place + size) es (omega (arith, neat.0)))) (place + size) es (omega (arith, neat.0));
      count = length-files (place + size) es neat.2;
    }

pub count-above : (first : ℕ) (es : List DirEntry) → IsTidy es → IsCountAbove first es (above es)
count-above first es neat =
    let h = splits first first (files_at first es) es neat (omega arith) (λ block covered low free. omega (arith, covered, low)) (λ block high free. free) (λ block free. free) in
    record { low = h.low; high = h.high; files = h.files; none = h.none; each = h.each; count = h.count }
