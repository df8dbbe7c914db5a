-- How many entries, files and empties lists have.
use Rattle.std.proofs.Common.{◌≡◌, ℕ, zero, suc, ◌+◌, ◌-◌, ◌*◌, ◌<◌, ◌≤◌, Bool, true, false, cond, eqb, ltb, List, [], ◌∷◌, length, Option, Some, None, refl, ap, sym, subst, ◌∙◌, arith, add-zero, inl, inr, eq-eqb}
use Rattle.std.specs.Prelude.{◌⊎◌, ◌↔◌, IfSome}
use Rattle.std.proofs.lemmas.Bool.{lt-ltb, le-ltb}
use Rattle.std.proofs.lemmas.Bool.Decides.{eqb_tells, leb_tells}
use Rattle.os8_dir.specs.declared.entries.DirEntry.{DirEntry}
use Rattle.os8_dir.specs.declared.entries.DirEntry.TheVariants.{File, Empty}
use Rattle.os8_dir.specs.Entries.{is_zero, contains, size_of, total, names_of, before, tidy, IsTidy}
use Rattle.os8_dir.specs.Found.{FilePlace, files_at, find, rooms_at, largest, larger, size_or_zero, free_blocks, count_files, count_empties, above, IsTight}
use Rattle.os8_dir.specs.Changes.{entries_without, without_file, put, with_new_file, LieIn, IsRoom, gap_below, with_file_lower, moved_down, fitting, smaller, smallest, lowest_above}
use Rattle.os8_dir.proofs.FoundLemmas.{largest_size, largest-rooms}
use Rattle.os8_dir.proofs.TidyLemmas.{tidy-same}
use Rattle.os8_dir.proofs.ChangeLemmas.{before-none, lie-inside}
use Rattle.os8_dir.proofs.FileLemmas.{put-past, lie-from, is-within, not-within_past, head-named, rest-none}

-- Entries of a list.
pub length-counts : (es : List DirEntry) → length es ≡ count_files es + count_empties es
length-counts [] = refl
length-counts (File name info size ∷ es) = omega (arith, length-counts es)
length-counts (Empty size ∷ es) = omega (arith, length-counts es)

pub few-empties : (es : List DirEntry) → IsTidy es → count_empties es ≤ count_files es + 1
few-empties [] neat = omega arith
few-empties (File name info size ∷ es) neat = omega (arith, few-empties es neat.2)
few-empties (Empty size ∷ []) neat = omega arith
few-empties (Empty size ∷ Empty more ∷ es) neat = absurd neat.1
few-empties (Empty size ∷ File name info more ∷ es) neat = omega (arith, few-empties es neat.2.2)

pub tight-empties : (es : List DirEntry) → IsTidy es → IsTight es → count_empties es ≤ 1
tight-empties [] neat tight = omega arith
tight-empties (File name info size ∷ es) neat tight = tight-empties es neat.2 tight
tight-empties (Empty size ∷ []) neat tight = omega arith
tight-empties (Empty size ∷ Empty more ∷ es) neat tight = absurd neat.1
tight-empties (Empty size ∷ File name info more ∷ es) neat tight = absurd (omega arith)

-- Free blocks.
tight-size : (es : List DirEntry) → IsTidy es → IsTight es → free_blocks es ≡ largest_size es
tight-size [] neat tight = refl
tight-size (File name info size ∷ es) neat tight = omega (arith, tight-size es neat.2 tight)
tight-size (Empty size ∷ []) neat tight = omega arith
tight-size (Empty size ∷ Empty more ∷ es) neat tight = absurd neat.1
tight-size (Empty size ∷ File name info more ∷ es) neat tight = absurd (omega arith)

pub tight-free : (place : ℕ) (es : List DirEntry) → IsTidy es → IsTight es → size_or_zero (largest (rooms_at place es)) ≡ free_blocks es
tight-free place es neat tight = largest-rooms place es ∙ sym (tight-size es neat tight)

size-least : (es : List DirEntry) → largest_size es ≤ free_blocks es
size-least [] = omega arith
size-least (e ∷ es) = omega (arith, size-least es)

pub largest-least : (place : ℕ) (es : List DirEntry) → size_or_zero (largest (rooms_at place es)) ≤ free_blocks es
largest-least place es = rw (largest-rooms place es) (size-least es)

free-within : (most : ℕ) (es : List DirEntry) → largest_size es ≤ most → free_blocks es ≤ most * count_empties es
free-within most [] bound = omega arith
free-within most (File name info size ∷ es) bound = omega (arith, free-within most es (omega arith))
free-within most (Empty size ∷ es) bound = omega (arith, free-within most es (omega arith))

more-times : (most few many : ℕ) → few ≤ many → most * few ≤ most * many
more-times most few many less = grind arith

pub largest-most : (place : ℕ) (es : List DirEntry) → IsTidy es → free_blocks es ≤ size_or_zero (largest (rooms_at place es)) * (count_files es + 1)
largest-most place es neat = rw (largest-rooms place es) (omega (arith, free-within (largest_size es) es (omega arith), more-times (largest_size es) (count_empties es) (count_files es + 1) (few-empties es neat)))

-- Entries of changed lists.
length-before : (e : DirEntry) (es : List DirEntry) → length (before e es) ≤ suc (length es)
length-before (File name info zero) es = omega arith
length-before (File name info (suc size)) es = omega arith
length-before (Empty zero) [] = omega arith
length-before (Empty (suc size)) [] = omega arith
length-before (Empty size) (Empty more ∷ es) = omega arith
length-before (Empty zero) (File name info more ∷ es) = omega arith
length-before (Empty (suc size)) (File name info more ∷ es) = omega arith

length-tidy : (es : List DirEntry) → length (tidy es) ≤ length es
length-tidy [] = omega arith
length-tidy (e ∷ es) = omega (arith, length-before e (tidy es), length-tidy es)

length-emptied : (name : ℕ) (es : List DirEntry) → length (entries_without name es) ≡ length es
length-emptied name [] = refl
length-emptied name (e ∷ es) = ap suc (length-emptied name es)

pub length-removed : (name : ℕ) (es : List DirEntry) → length (without_file name es) ≤ length es
length-removed name es = omega (arith, length-tidy (entries_without name es), length-emptied name es)

length-swapped_if : (b : Bool) (e f : DirEntry) (es rest : List DirEntry) → length rest ≡ length es → length (cond b (f ∷ e ∷ es) (e ∷ f ∷ rest)) ≡ suc (suc (length es))
length-swapped_if true e f es rest same = refl
length-swapped_if false e f es rest same = ap (λ n. suc (suc n)) same

length-swapped : (name : ℕ) (es : List DirEntry) → length (with_file_lower name es) ≡ length es
length-swapped name [] = refl
length-swapped name (File own info size ∷ es) = ap suc (length-swapped name es)
length-swapped name (Empty gap ∷ []) = refl
length-swapped name (Empty gap ∷ Empty size ∷ es) = ap suc (length-swapped name (Empty size ∷ es))
length-swapped name (Empty gap ∷ File own info size ∷ es) = length-swapped_if (eqb own name) (Empty gap) (File own info size) es (with_file_lower name es) (length-swapped name es)

pub length-moved : (name : ℕ) (es : List DirEntry) → length (moved_down name es) ≤ length es
length-moved name es = omega (arith, length-tidy (with_file_lower name es), length-swapped name es)

-- how many entries have blocks
abbrev count_some : List DirEntry → ℕ
count_some [] = 0
count_some (e ∷ es) = (cond (is_zero (size_of e)) 0 1) + count_some es

some-before : (e : DirEntry) (es : List DirEntry) → length (before e es) ≤ cond (is_zero (size_of e)) 0 1 + length es
some-before (File name info zero) es = omega arith
some-before (File name info (suc size)) es = omega arith
some-before (Empty zero) [] = omega arith
some-before (Empty (suc size)) [] = omega arith
some-before (Empty zero) (Empty more ∷ es) = omega arith
some-before (Empty (suc size)) (Empty more ∷ es) = omega arith
some-before (Empty zero) (File name info more ∷ es) = omega arith
some-before (Empty (suc size)) (File name info more ∷ es) = omega arith

some-tidy : (es : List DirEntry) → length (tidy es) ≤ count_some es
some-tidy [] = omega arith
some-tidy (e ∷ es) = omega (arith, some-before e (tidy es), some-tidy es)

some-one : (n : ℕ) → cond (is_zero n) 0 1 ≤ 1
some-one zero = omega arith
some-one (suc n) = omega arith

some-length : (es : List DirEntry) → count_some es ≤ length es
some-length [] = omega arith
some-length (e ∷ es) = omega (arith, some-one (size_of e), some-length es)

-- Rooms.
pub blocks-lie : (place size from count : ℕ) (rooms : List (ℕ × ℕ)) → IsRoom place size rooms → place ≤ from → from + count ≤ place + size → LieIn from count rooms
blocks-lie place size from count [] is low high = is
blocks-lie place size from count (room ∷ rooms) is low high = elim is [
  | inl here ↦ inl (omega (arith, here.0), omega (arith, here.0, here.1))
  | inr there ↦ inr (blocks-lie place size from count rooms there low high)
]

room-lies : (from size count : ℕ) (rooms : List (ℕ × ℕ)) → count ≤ size → IsRoom from size rooms → LieIn from count rooms
room-lies from size count rooms less is = blocks-lie from size from count rooms is (omega arith) (omega arith)

pub emptied-room : (name place from size : ℕ) (es : List DirEntry) → IsRoom from size (rooms_at place es) → IsRoom from size (rooms_at place (entries_without name es))
emptied-room name place from size [] is = is
emptied-room name place from size (File own info length ∷ es) is = elim (eqb_tells own name) [
  | inl here ↦ rw here.0 (inr (emptied-room name (place + length) from size es is))
  | inr there ↦ rw there.0 (emptied-room name (place + length) from size es is)
]
emptied-room name place from size (Empty length ∷ es) is = elim is [ inl here ↦ inl here | inr there ↦ inr (emptied-room name (place + length) from size es there) ]

put-some : (place from size : ℕ) (file : DirEntry) (es : List DirEntry) → 0 < size_of file → size_of file ≤ size → IsRoom from size (rooms_at place es) → count_some (put place from file es) ≤ length es + 1
put-some place from size file [] some fits is = absurd is
put-some place from size file (File own info length ∷ es) some fits is = omega (arith, some-one length, put-some (place + length) from size file es some fits is)
put-some place from size file (Empty length ∷ es) some fits is = elim is [
  | inl here ↦
      let low : place ≤ from = omega (arith, here.0) in
      let high : from + size_of file ≤ place + length = omega (arith, here.0, here.1) in
      let none : from - place ≡ 0 = omega (arith, here.0) in
      rw (is-within place length from (size_of file) low high, none, put-past (place + length) from file es (omega arith)) (omega (arith, some-one (size_of file), some-one ((place + length) - (from + size_of file)), some-length es))
  | inr there ↦
      rw (not-within_past place length from (size_of file) some (lie-from (place + length) from (size_of file) es (room-lies from size (size_of file) (rooms_at (place + length) es) fits there))) (omega (arith, some-one length, put-some (place + length) from size file es some fits there))
]

pub length-placed : (first size : ℕ) (f : FilePlace) (es : List DirEntry) → 0 < f.size → f.size ≤ size → IsRoom f.place size (rooms_at first es) → length (with_new_file first f es) ≤ length es + 1
length-placed first size f es some fits is =
    let file = File f.name f.info f.size in
    omega (arith, some-tidy (put first f.place file (entries_without f.name es)), put-some first f.place size file (entries_without f.name es) some fits (emptied-room f.name first f.place size es is), length-emptied f.name es)

-- A new file in the only empty of a list.
above-file : (name size : ℕ) (info : List ℕ) (es : List DirEntry) → above (before (File name info size) es) ≡ above es
above-file name zero info es = refl
above-file name (suc size) info es = refl

above-room : (size : ℕ) → above (before (Empty size) []) ≡ 0
above-room zero = refl
above-room (suc size) = refl

put-tight : (place from size name count : ℕ) (info : List ℕ) (es : List DirEntry) → IsTidy es → IsTight es → 0 < count → count ≤ size → IsRoom from size (rooms_at place es) → IsTight (tidy (put place from (File name info count) es))
put-tight place from size name count info [] neat tight some fits is = absurd is
put-tight place from size name count info (File own words length ∷ es) neat tight some fits is =
    above-file own length words (tidy (put (place + length) from (File name info count) es)) ∙ put-tight (place + length) from size name count info es neat.2 tight some fits is
put-tight place from size name count info (Empty length ∷ Empty more ∷ es) neat tight some fits is = absurd neat.1
put-tight place from size name count info (Empty length ∷ File own words more ∷ es) neat tight some fits is = absurd (omega arith)
put-tight place from size name count info (Empty length ∷ []) neat tight some fits is = elim is [
  | inl here ↦
      let low : place ≤ from = omega (arith, here.0) in
      let high : from + count ≤ place + length = omega (arith, here.0, here.1) in
      let none : from - place ≡ 0 = omega (arith, here.0) in
      let rest = before (Empty ((place + length) - (from + count))) [] in
      rw (is-within place length from count low high, none, before-none (before (File name info count) rest)) (above-file name count info rest ∙ above-room ((place + length) - (from + count)))
  | inr there ↦ absurd there
]

emptied-same : (name : ℕ) (es : List DirEntry) → IsTidy es → contains (names_of es) name ≡ false → entries_without name es ≡ es
emptied-same name [] neat new = refl
emptied-same name (File own info zero ∷ es) neat new = absurd (omega (arith, neat.0))
emptied-same name (File own info (suc size) ∷ es) neat new =
    let other : eqb own name ≡ false = head-named name own (suc size) info es new in
    rw other (ap (λ xs. File own info (suc size) ∷ xs) (emptied-same name es neat.2 (rest-none (File own info (suc size)) es name new)))
emptied-same name (Empty size ∷ es) neat new = ap (λ xs. Empty size ∷ xs) (emptied-same name es neat.2 new)

some-none : {A : Type 0} {x : A} → Some x ≡ None → ⊥
some-none e = cc

find-none : (name place : ℕ) (es : List DirEntry) → IsTidy es → find name (files_at place es) ≡ None → contains (names_of es) name ≡ false
find-none name place [] neat none = refl
find-none name place (File own info zero ∷ es) neat none = absurd (omega (arith, neat.0))
find-none name place (File own info (suc size) ∷ es) neat none = elim (eqb_tells own name) [
  | inl here ↦ absurd (some-none (rw here.0 at none))
  | inr there ↦ rw there.0 (find-none name (place + suc size) es neat.2 (rw there.0 at none))
]
find-none name place (Empty size ∷ es) neat none = find-none name (place + size) es neat.2 none

pub placed-tight : (first size : ℕ) (f : FilePlace) (es : List DirEntry) → IsTidy es → IsTight es → find f.name (files_at first es) ≡ None → 0 < f.size → f.size ≤ size → IsRoom f.place size (rooms_at first es) → IsTight (with_new_file first f es)
placed-tight first size f es neat tight new some fits is = rw (emptied-same f.name es neat (find-none f.name first es neat new)) (put-tight first f.place size f.name f.size f.info es neat tight some fits is)

-- The lowest file with an empty below it.
abbrev name_or : Option (ℕ × ℕ) → ℕ
name_or None = 0
name_or (Some p) = p.0

abbrev gap_or : Option (ℕ × ℕ) → ℕ
gap_or None = 0
gap_or (Some p) = p.1

above-empty : (gap : ℕ) (es : List DirEntry) → 0 < gap → above (before (Empty gap) es) ≡ count_files es
above-empty zero es some = absurd (omega arith)
above-empty (suc gap) [] some = refl
above-empty (suc gap) (File name info size ∷ es) some = refl
above-empty (suc gap) (Empty more ∷ es) some = refl

pub lowest-gap : (es : List DirEntry) (name gap : ℕ) → IsTidy es → lowest_above es ≡ Some (name, gap) → (0 < gap) × (gap_below name es ≡ gap)
lowest-gap [] name gap neat is = cc
lowest-gap (File own info size ∷ es) name gap neat is = lowest-gap es name gap neat.2 is
lowest-gap (Empty size ∷ []) name gap neat is = cc
lowest-gap (Empty size ∷ Empty more ∷ es) name gap neat is = absurd neat.1
lowest-gap (Empty size ∷ File own info more ∷ es) name gap neat is =
    let same : own ≡ name = ap name_or is in
    let gap_is : size ≡ gap = ap gap_or is in
    (omega (arith, neat.0), rw (eq-eqb own name same) gap_is)

pub lowest-moved : (es : List DirEntry) (name gap : ℕ) → IsTidy es → lowest_above es ≡ Some (name, gap) → above (moved_down name es) + 1 ≡ above es
lowest-moved [] name gap neat is = cc
lowest-moved (File own info size ∷ es) name gap neat is = rw (above-file own size info (tidy (with_file_lower name es))) (lowest-moved es name gap neat.2 is)
lowest-moved (Empty size ∷ []) name gap neat is = cc
lowest-moved (Empty size ∷ Empty more ∷ es) name gap neat is = absurd neat.1
lowest-moved (Empty size ∷ File own info more ∷ es) name gap neat is =
    let same : own ≡ name = ap name_or is in
    rw (eq-eqb own name same, tidy-same es neat.2.2, above-file own more info (before (Empty size) es), above-empty size es neat.0) (omega arith)

pub lowest-none : (es : List DirEntry) → IsTidy es → (lowest_above es ≡ None) ↔ IsTight es
lowest-none [] neat = (λ e. refl, λ e. refl)
lowest-none (File own info size ∷ es) neat = lowest-none es neat.2
lowest-none (Empty size ∷ []) neat = (λ e. refl, λ e. refl)
lowest-none (Empty size ∷ Empty more ∷ es) neat = absurd neat.1
lowest-none (Empty size ∷ File own info more ∷ es) neat = (λ e. cc, λ e. absurd (omega arith))

-- The choice of a room.
abbrev IsChosen : ℕ → Option (ℕ × ℕ) → List (ℕ × ℕ) → Type 0
IsChosen wish None rooms = (from size : ℕ) → IsRoom from size rooms → wish ≤ size → ⊥
IsChosen wish (Some room) rooms = IsRoom room.0 room.1 rooms × (wish ≤ room.1)

larger-chosen : (room : ℕ × ℕ) (rooms : List (ℕ × ℕ)) (rest : Option (ℕ × ℕ)) → IsChosen 0 rest rooms → IsChosen 0 (Some (larger room rest)) (room ∷ rooms)
larger-chosen room rooms None chosen = (inl (refl, refl), omega arith)
larger-chosen room rooms (Some other) chosen = elim (ltb room.1 other.1) as (λ b. IsChosen 0 (Some (cond b other room)) (room ∷ rooms)) [
  | true ↦ (inr chosen.0, omega arith)
  | false ↦ (inl (refl, refl), omega arith)
]

smaller-chosen : (wish : ℕ) (room : ℕ × ℕ) (rooms : List (ℕ × ℕ)) (rest : Option (ℕ × ℕ)) → wish ≤ room.1 → IsChosen wish rest rooms → IsChosen wish (Some (smaller room rest)) (room ∷ rooms)
smaller-chosen wish room rooms None fits chosen = (inl (refl, refl), fits)
smaller-chosen wish room rooms (Some other) fits chosen = elim (ltb other.1 room.1) as (λ b. IsChosen wish (Some (cond b other room)) (room ∷ rooms)) [
  | true ↦ (inr chosen.0, chosen.1)
  | false ↦ (inl (refl, refl), fits)
]

skip-chosen : (wish : ℕ) (room : ℕ × ℕ) (rooms : List (ℕ × ℕ)) (r : Option (ℕ × ℕ)) → room.1 < wish → IsChosen wish r rooms → IsChosen wish r (room ∷ rooms)
skip-chosen wish room rooms None short chosen = λ from size is fits. elim is [ inl here ↦ omega (arith, here.1) | inr there ↦ chosen from size there fits ]
skip-chosen wish room rooms (Some other) short chosen = (inr chosen.0, chosen.1)

smallest-chosen : (wish : ℕ) (rooms : List (ℕ × ℕ)) → IsChosen wish (smallest wish rooms) rooms
smallest-chosen wish [] = λ from size is fits. is
smallest-chosen wish (room ∷ rooms) = elim (leb_tells (suc room.1) wish) [
  | inl short ↦ rw (lt-ltb room.1 wish short.1) (skip-chosen wish room rooms (smallest wish rooms) short.1 (smallest-chosen wish rooms))
  | inr long ↦ rw (le-ltb room.1 wish (omega (arith, long.1))) (smaller-chosen wish room rooms (smallest wish rooms) (omega (arith, long.1)) (smallest-chosen wish rooms))
]

largest-chosen : (rooms : List (ℕ × ℕ)) → IsChosen 0 (largest rooms) rooms
largest-chosen [] = λ from size is fits. is
largest-chosen (room ∷ rooms) = larger-chosen room rooms (largest rooms) (largest-chosen rooms)

fitting-chosen : (wish : ℕ) (rooms : List (ℕ × ℕ)) → IsChosen wish (fitting wish rooms) rooms
fitting-chosen wish rooms = elim (eqb_tells wish 0) [
  | inl here ↦ rw (here.0, here.1) (largest-chosen rooms)
  | inr there ↦ rw there.0 (smallest-chosen wish rooms)
]

pub fitting-room : (wish from size : ℕ) (rooms : List (ℕ × ℕ)) → fitting wish rooms ≡ Some (from, size) → IsRoom from size rooms × (wish ≤ size)
fitting-room wish from size rooms is = subst (λ (r : Option (ℕ × ℕ)). IsChosen wish r rooms) is (fitting-chosen wish rooms)

pub fitting-none : (wish : ℕ) (rooms : List (ℕ × ℕ)) → fitting wish rooms ≡ None → (from size : ℕ) → IsRoom from size rooms → wish ≤ size → ⊥
fitting-none wish rooms is = subst (λ (r : Option (ℕ × ℕ)). IsChosen wish r rooms) is (fitting-chosen wish rooms)

largest-none : (wish : ℕ) (rooms : List (ℕ × ℕ)) (r : Option (ℕ × ℕ)) → IsChosen 0 r rooms → 0 < wish → ((from size : ℕ) → IsRoom from size rooms → wish ≤ size → ⊥) → size_or_zero r < wish
largest-none wish rooms None chosen some none = some
largest-none wish rooms (Some room) chosen some none = elim (leb_tells wish room.1) [
  | inl met ↦ absurd (none room.0 room.1 chosen.0 met.1)
  | inr missed ↦ omega (arith, missed.1)
]

-- where no room serves a wish, the largest has fewer blocks
pub fitting-short : (wish : ℕ) (rooms : List (ℕ × ℕ)) → 0 < wish → fitting wish rooms ≡ None → size_or_zero (largest rooms) < wish
fitting-short wish rooms some is = largest-none wish rooms (largest rooms) (largest-chosen rooms) some (fitting-none wish rooms is)

-- Rooms and files.
abbrev AreClear : ℕ → ℕ → List FilePlace → Type 0
AreClear from count [] = Unit {0}
AreClear from count (f ∷ fs) = ((f.place + f.size ≤ from) ⊎ (from + count ≤ f.place)) × AreClear from count fs

clear-above : (from count place : ℕ) (es : List DirEntry) → from + count ≤ place → AreClear from count (files_at place es)
clear-above from count place [] above = tt
clear-above from count place (File name info zero ∷ es) above = clear-above from count place es above
clear-above from count place (File name info (suc size) ∷ es) above = (inr above, clear-above from count (place + suc size) es (omega arith))
clear-above from count place (Empty size ∷ es) above = clear-above from count (place + size) es (omega arith)

room-clear : (from count place : ℕ) (es : List DirEntry) → LieIn from count (rooms_at place es) → AreClear from count (files_at place es)
room-clear from count place [] lies = absurd lies
room-clear from count place (File name info zero ∷ es) lies = rw add-zero at (room-clear from count (place + 0) es lies)
room-clear from count place (File name info (suc size) ∷ es) lies = (inl (lie-from (place + suc size) from count es lies), room-clear from count (place + suc size) es lies)
room-clear from count place (Empty size ∷ es) lies = elim lies [
  | inl here ↦ clear-above from count (place + size) es here.1
  | inr there ↦ room-clear from count (place + size) es there
]

some-is : (g f : FilePlace) → Some g ≡ Some f → g ≡ f
some-is g f e = cc

find-clear : (from count name : ℕ) (fs : List FilePlace) (f : FilePlace) → AreClear from count fs → find name fs ≡ Some f → (f.place + f.size ≤ from) ⊎ (from + count ≤ f.place)
find-clear from count name [] f clear is = cc
find-clear from count name (g ∷ fs) f clear is = elim (eqb_tells g.name name) [
  | inl here ↦ rw (← some-is g f (rw here.0 at is)) clear.0
  | inr there ↦ find-clear from count name fs f clear.1 (rw there.0 at is)
]

pub room-outside : (from count name place : ℕ) (es : List DirEntry) (f : FilePlace) → LieIn from count (rooms_at place es) → find name (files_at place es) ≡ Some f → (f.place + f.size ≤ from) ⊎ (from + count ≤ f.place)
room-outside from count name place es f lies is = find-clear from count name (files_at place es) f (room-clear from count place es lies) is

-- The files of a list, as many as are counted.
pub length-files : (place : ℕ) (es : List DirEntry) → IsTidy es → length (files_at place es) ≡ count_files es
length-files place [] neat = refl
length-files place (File name info zero ∷ es) neat = absurd (omega (arith, neat.0))
length-files place (File name info (suc size) ∷ es) neat = ap suc (length-files (place + suc size) es neat.2)
length-files place (Empty size ∷ es) neat = length-files (place + size) es neat.2

-- A room that was chosen lies in the list.
chosen-inside : (wish first : ℕ) (es : List DirEntry) (r : Option (ℕ × ℕ)) → IsChosen wish r (rooms_at first es) → IfSome r (λ room. (first ≤ room.0) × (room.0 + room.1 ≤ first + total es))
chosen-inside wish first es None chosen = tt
chosen-inside wish first es (Some room) chosen =
    let lies : LieIn room.0 room.1 (rooms_at first es) = room-lies room.0 room.1 room.1 (rooms_at first es) (omega arith) chosen.0 in
    (lie-from first room.0 room.1 es lies, lie-inside first room.0 room.1 es lies)

pub fitting-inside : (wish first : ℕ) (es : List DirEntry) → IfSome (fitting wish (rooms_at first es)) (λ room. (first ≤ room.0) × (room.0 + room.1 ≤ first + total es))
fitting-inside wish first es = chosen-inside wish first es (fitting wish (rooms_at first es)) (fitting-chosen wish (rooms_at first es))

pub if_some-map : {A : Type 0} (r : Option A) (P Q : A → Type 0) → IfSome r P → ((x : A) → P x → Q x) → IfSome r Q
if_some-map None P Q holds then = tt
if_some-map (Some x) P Q holds then = then x holds
