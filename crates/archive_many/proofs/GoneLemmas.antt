-- A volume without the files that words choose.
use Rattle.std.proofs.Common.{◌≡◌, ◌≢◌, ◌∙◌, ◌⊎◌, ◌<◌, ◌≤◌, ◌+◌, ◌||◌, ◌&&◌, ℕ, Bool, true, false, true≢false, if◌then◌else◌, nat_eq, eqb, Option, Some, None, Result, Ok, Err, is_ok, List, [], ◌∷◌, ◌++◌, length, map, refl, sym, ap, subst, arith, inl, inr}
use Rattle.std.specs.FinMap.{get, remove, get-remove}
use Rattle.std.proofs.lemmas.Cmp.{nat_cmp_total}
use Rattle.std.proofs.lemmas.List.{append-nil}
use Rattle.std.proofs.lemmas.Bool.Decides.{nat_tests, eqb_tells}
use Rattle.volume_image.specs.Image.{IsImageOf, WrittenIsReadBack}
use Rattle.os8_dir.specs.Entries.{AreDistinct, DirectoryState, contains}
use Rattle.os8_dir.specs.Found.{AreApart, FilePlace, files_at, find}
use Rattle.os8_dir.specs.Files.{FileData, Files, files_of, data_if_there}
use Rattle.os8_dir.specs.Reading.{directory_of}
use Rattle.os8_dir.specs.declared.faults.DirFault.{DirFault}
use Rattle.name_spelling.specs.Patterns.{is_choice, is_like_one, matches}
use Rattle.archive_files.specs.Opening.{IsOpened}
use Rattle.archive_files.specs.Asking.{AtBlock, AreAsked, asked_name, name_at, name_beginning}
use Rattle.archive_files.specs.Deleting.{DeletesFiles, without}
use Rattle.archive_files.specs.declared.deleting.DeletedImage.{DeletedImage}
use Rattle.archive_files.proofs.LawLemmas.{one_volume, some_eq, tied}
use Rattle.archive_many.proofs.WishLemmas.{or-assoc}
use Rattle.archive_many.specs.Choosing.{files_like}
use Rattle.archive_many.specs.Opened.{file_at, files_in, files_on, files_or}
use Rattle.archive_many.specs.Wishing.{asked_by_words, by_place, first_unfound, found_files, has_place, once, wishes_of, wishes_for, wishes_of_word, with_wish}
use Rattle.archive_many.specs.declared.opened.VolumeFile.{VolumeFile}
use Rattle.archive_many.specs.declared.wishes.Wish.{Wish}
use Rattle.archive_many.specs.declared.wishes.Wish.TheVariants as wish
use Rattle.archive_many.proofs.FileLemmas.{FoundSo, SoundSo}
use Rattle.archive_many.proofs.VolumeLemmas.{names, names-at}

-- ## Tests

equal : (a b : ℕ) → eqb a b ≡ true → a ≡ b
equal a b is = elim (eqb_tells a b) [ inl p ↦ p.1 | inr p ↦ absurd (true≢false (sym is ∙ p.0)) ]

differ : (a b : ℕ) → eqb a b ≡ false → a ≢ b
differ a b is = elim (eqb_tells a b) [ inl p ↦ absurd (true≢false (sym p.0 ∙ is)) | inr p ↦ p.1 ]

unequal : (a b : ℕ) → a ≢ b → eqb a b ≡ false
unequal a b is = elim (eqb_tells a b) [ inl p ↦ absurd (is p.1) | inr p ↦ p.0 ]

same : (a b : ℕ) → a ≡ b → nat_eq a b ≡ true
same a b is = grind (arith, nat_tests)

other : (a b : ℕ) → a ≢ b → nat_eq a b ≡ false
other a b is = grind (arith, nat_tests)

or-test : (b c : Bool) → (if b then true else c) ≡ (b || c)
or-test true c = refl
or-test false c = refl

-- ## A list of files that lie apart

begun : (b : Bool) (f n : ℕ) (o : Option ℕ) → (if b then Some f else o) ≡ Some n → ((b ≡ true) × (f ≡ n)) ⊎ ((b ≡ false) × (o ≡ Some n))
begun true f n o is = inl (refl, some_eq f n is)
begun false f n o is = inr (refl, is)

found : (b : Bool) (f g : FilePlace) (o : Option FilePlace) → (if b then Some f else o) ≡ Some g → ((b ≡ true) × (f ≡ g)) ⊎ ((b ≡ false) × (o ≡ Some g))
found true f g o is = inl (refl, some_eq f g is)
found false f g o is = inr (refl, is)

begun-in : (fs : List FilePlace) (x n : ℕ) → name_beginning x fs ≡ Some n → contains (names fs) n ≡ true
begun-in [] x n is = absurd (cc)
begun-in (f ∷ fs) x n is = elim (begun (eqb f.place x) f.name n (name_beginning x fs) is) [
  | inl here ↦ elim (eqb_tells f.name n) [ inl p ↦ ap (λ b. if b then true else contains (names fs) n) p.0 | inr p ↦ absurd (p.1 here.1) ]
  | inr there ↦ or-test (eqb f.name n) (contains (names fs) n) ∙ ap (λ b. eqb f.name n || b) (begun-in fs x n there.1) ∙ or-true (eqb f.name n)
]
  where
    or-true : (b : Bool) → (b || true) ≡ true
    or-true true = refl
    or-true false = refl

found-after : (from bound : ℕ) (fs : List FilePlace) (q : ℕ) (g : FilePlace) → AreApart from bound fs → find q fs ≡ Some g → from ≤ g.place
found-after from bound [] q g apart is = absurd (cc)
found-after from bound (f ∷ fs) q g apart is = elim (found (eqb f.name q) f g (find q fs) is) [
  | inl here ↦ let place : f.place ≡ g.place = ap (λ (h : FilePlace). h.place) here.1 in omega (arith, place, apart.0)
  | inr there ↦ let rest = found-after (f.place + f.size) bound fs q g apart.2 there.1 in omega (arith, rest, apart.0)
]

-- a file has a name just where it begins at the block of the file of that name
one-place : (from bound : ℕ) (fs : List FilePlace) (x n q : ℕ) (g : FilePlace) → AreApart from bound fs → AreDistinct (names fs) → name_beginning x fs ≡ Some n → find q fs ≡ Some g → eqb n q ≡ nat_eq x g.place
one-place from bound [] x n q g apart distinct begins finds = absurd (cc)
one-place from bound (f ∷ fs) x n q g apart distinct begins finds = elim (begun (eqb f.place x) f.name n (name_beginning x fs) begins) [
  | inl here ↦ elim (found (eqb f.name q) f g (find q fs) finds) [
    | inl also ↦
        let place : f.place ≡ g.place = ap (λ (h : FilePlace). h.place) also.1 in
        ap (λ m. eqb m q) (sym here.1) ∙ also.0 ∙ sym (same x g.place (sym (equal f.place x here.0) ∙ place))
    | inr later ↦
        let at = equal f.place x here.0 in
        let follows = found-after (f.place + f.size) bound fs q g apart.2 later.1 in
        ap (λ m. eqb m q) (sym here.1) ∙ later.0 ∙ sym (other x g.place (λ e. omega (arith, at, e, follows, apart.1)))
  ]
  | inr there ↦ elim (found (eqb f.name q) f g (find q fs) finds) [
    | inl also ↦
        let place : f.place ≡ g.place = ap (λ (h : FilePlace). h.place) also.1 in
        unequal n q (λ e. true≢false (sym (begun-in fs x n there.1) ∙ ap (contains (names fs)) (e ∙ sym (equal f.name q also.0)) ∙ distinct.0))
        ∙ sym (other x g.place (λ e. differ f.place x there.0 (place ∙ sym e)))
    | inr later ↦ one-place (f.place + f.size) bound fs x n q g apart.2 distinct.1 there.1 later.1
  ]
]

-- ## The files that a word chooses

place-if : (b : Bool) (file : VolumeFile) (files : List VolumeFile) (p : ℕ) → has_place p (map wish.File (if b then file ∷ files else files)) ≡ ((b && nat_eq file.place p) || has_place p (map wish.File files))
place-if true file files p = refl
place-if false file files p = refl

neither : (a b c : Bool) → b ≡ false → ((a && b) || c) ≡ c
neither true b c is = ap (λ x. x || c) is
neither false b c is = refl

just : (a b c : Bool) → b ≡ true → c ≡ false → ((a && b) || c) ≡ a
just true b c is none = ap (λ x. x || c) is
just false b c is none = none

none-below : (from bound p : ℕ) (fs : List FilePlace) (word : List ℕ) → AreApart from bound fs → p < from → has_place p (map wish.File (files_like word (map file_at fs))) ≡ false
none-below from bound p [] word apart low = refl
none-below from bound p (f ∷ fs) word apart low =
    place-if (matches word f.name) (file_at f) (files_like word (map file_at fs)) p
    ∙ neither (matches word f.name) (nat_eq f.place p) (has_place p (map wish.File (files_like word (map file_at fs)))) (other f.place p (λ e. omega (arith, e, low, apart.0)))
    ∙ none-below (f.place + f.size) bound p fs word apart.2 (omega (arith, low, apart.0))

-- a word chooses a file that is there just where its name is like the word
chosen : (from bound : ℕ) (fs : List FilePlace) (word : List ℕ) (q : ℕ) (g : FilePlace) → AreApart from bound fs → find q fs ≡ Some g → has_place g.place (map wish.File (files_like word (map file_at fs))) ≡ matches word q
chosen from bound [] word q g apart is = absurd (cc)
chosen from bound (f ∷ fs) word q g apart is = elim (found (eqb f.name q) f g (find q fs) is) [
  | inl here ↦
      let place : f.place ≡ g.place = ap (λ (h : FilePlace). h.place) here.1 in
      place-if (matches word f.name) (file_at f) (files_like word (map file_at fs)) g.place
      ∙ just (matches word f.name) (nat_eq f.place g.place) (has_place g.place (map wish.File (files_like word (map file_at fs)))) (same f.place g.place place)
      (none-below (f.place + f.size) bound g.place fs word apart.2 (omega (arith, place, apart.1)))
      ∙ ap (matches word) (equal f.name q here.0)
  | inr there ↦
      let follows = found-after (f.place + f.size) bound fs q g apart.2 there.1 in
      place-if (matches word f.name) (file_at f) (files_like word (map file_at fs)) g.place
      ∙ neither (matches word f.name) (nat_eq f.place g.place) (has_place g.place (map wish.File (files_like word (map file_at fs)))) (other f.place g.place (λ e. omega (arith, e, follows, apart.1)))
      ∙ chosen (f.place + f.size) bound fs word q g apart.2 there.1
]

-- ## What words ask for

place-more : (wishes others : List Wish) (q : ℕ) → has_place q (wishes ++ others) ≡ (has_place q wishes || has_place q others)
place-more [] others q = refl
place-more (wish.File file ∷ wishes) others q = ap (λ b. nat_eq file.place q || b) (place-more wishes others q) ∙ or-assoc (nat_eq file.place q) (has_place q wishes) (has_place q others)
place-more (wish.BadWord place ∷ wishes) others q = place-more wishes others q
place-more (wish.NotFound place ∷ wishes) others q = place-more wishes others q
place-more (wish.Block block ∷ wishes) others q = place-more wishes others q

unfound-more : (wishes others : List Wish) → first_unfound (wishes ++ others) ≡ None → (first_unfound wishes ≡ None) × (first_unfound others ≡ None)
unfound-more [] others is = (refl, is)
unfound-more (wish.File file ∷ wishes) others is = unfound-more wishes others is
unfound-more (wish.BadWord place ∷ wishes) others is = absurd (cc)
unfound-more (wish.NotFound place ∷ wishes) others is = absurd (cc)
unfound-more (wish.Block block ∷ wishes) others is = absurd (cc)

place-for : (k p : ℕ) (files : List VolumeFile) → has_place p (wishes_for k files) ≡ has_place p (map wish.File files)
place-for k p [] = refl
place-for k p (file ∷ files) = refl

is-good : (b : Bool) (k : ℕ) (wishes : List Wish) → first_unfound (if b then wishes else wish.BadWord k ∷ []) ≡ None → b ≡ true
is-good true k wishes is = refl
is-good false k wishes is = absurd (cc)

by-words : (from bound : ℕ) (fs : List FilePlace) (q : ℕ) (g : FilePlace) (k : ℕ) (words : List (List ℕ)) → AreApart from bound fs → find q fs ≡ Some g → first_unfound (asked_by_words (map file_at fs) k words) ≡ None
    → has_place g.place (asked_by_words (map file_at fs) k words) ≡ is_like_one words q
by-words from bound fs q g k [] apart is none = refl
by-words from bound fs q g k (word ∷ words) apart is none =
    let files = map file_at fs in
    let both = unfound-more (wishes_of_word files k word) (asked_by_words files (k + 1) words) none in
    let good = is-good (is_choice word) k (wishes_for k (files_like word files)) both.0 in
    place-more (wishes_of_word files k word) (asked_by_words files (k + 1) words) g.place
    ∙ ap (λ b. has_place g.place (if b then wishes_for k (files_like word files) else wish.BadWord k ∷ []) || has_place g.place (asked_by_words files (k + 1) words)) good
    ∙ ap (λ b. b || has_place g.place (asked_by_words files (k + 1) words)) (place-for k g.place (files_like word files) ∙ chosen from bound fs word q g apart is)
    ∙ ap (λ b. matches word q || b) (by-words from bound fs q g (k + 1) words apart is both.1)

-- ## Each once

known : (b is_it : Bool) → (is_it ≡ true → b ≡ true) → b ≡ (b || is_it)
known true is_it f = refl
known false true f = f refl
known false false f = refl

or-false : (b : Bool) → b ≡ (b || false)
or-false true = refl
or-false false = refl

equal-place : (a b : ℕ) → nat_eq a b ≡ true → a ≡ b
equal-place a b is = grind (arith, nat_tests)

with-if : (b : Bool) (before : List Wish) (file : VolumeFile) (q : ℕ) → has_place file.place before ≡ b
    → has_place q (if b then before else before ++ wish.File file ∷ []) ≡ (has_place q before || nat_eq file.place q)
with-if true before file q is = known (has_place q before) (nat_eq file.place q) (λ e. ap (λ p. has_place p before) (sym (equal-place file.place q e)) ∙ is)
with-if false before file q is = place-more before (wish.File file ∷ []) q ∙ ap (λ b. has_place q before || b) (sym (or-false (nat_eq file.place q)))

with-place : (before : List Wish) (one : Wish) (q : ℕ) → has_place q (with_wish before one) ≡ (has_place q before || has_place q (one ∷ []))
with-place before (wish.File file) q = with-if (has_place file.place before) before file q refl ∙ ap (λ b. has_place q before || b) (or-false (nat_eq file.place q))
with-place before (wish.BadWord place) q = place-more before (wish.BadWord place ∷ []) q
with-place before (wish.NotFound place) q = place-more before (wish.NotFound place ∷ []) q
with-place before (wish.Block block) q = place-more before (wish.Block block ∷ []) q

once-place : (before wishes : List Wish) (q : ℕ) → has_place q (once before wishes) ≡ (has_place q before || has_place q wishes)
once-place before [] q = or-false (has_place q before)
once-place before (one ∷ wishes) q =
    once-place (with_wish before one) wishes q ∙ ap (λ b. b || has_place q wishes) (with-place before one q)
    ∙ sym (or-assoc (has_place q before) (has_place q (one ∷ [])) (has_place q wishes)) ∙ ap (λ b. has_place q before || b) (sym (place-more (one ∷ []) wishes q))

unfound-if : (b : Bool) (before : List Wish) (file : VolumeFile) → first_unfound (if b then before else before ++ wish.File file ∷ []) ≡ None → first_unfound before ≡ None
unfound-if true before file is = is
unfound-if false before file is = (unfound-more before (wish.File file ∷ []) is).0

unfound-with : (before wishes : List Wish) (one : Wish) → first_unfound (with_wish before one) ≡ None → first_unfound wishes ≡ None → (first_unfound before ≡ None) × (first_unfound (one ∷ wishes) ≡ None)
unfound-with before wishes (wish.File file) is none = (unfound-if (has_place file.place before) before file is, none)
unfound-with before wishes (wish.BadWord place) is none = absurd (never (wish.BadWord place) ((unfound-more before (wish.BadWord place ∷ []) is).1))
  where
    never : (one : Wish) → Some one ≡ None → ⊥
    never one e = cc
unfound-with before wishes (wish.NotFound place) is none = absurd (never (wish.NotFound place) ((unfound-more before (wish.NotFound place ∷ []) is).1))
  where
    never : (one : Wish) → Some one ≡ None → ⊥
    never one e = cc
unfound-with before wishes (wish.Block block) is none = absurd (never (wish.Block block) ((unfound-more before (wish.Block block ∷ []) is).1))
  where
    never : (one : Wish) → Some one ≡ None → ⊥
    never one e = cc

unfound-once : (before wishes : List Wish) → first_unfound (once before wishes) ≡ None → (first_unfound before ≡ None) × (first_unfound wishes ≡ None)
unfound-once before [] is = (is, refl)
unfound-once before (one ∷ wishes) is = let rest = unfound-once (with_wish before one) wishes is in unfound-with before wishes one rest.0 rest.1

-- ## The names

-- what the files are named that are asked for
abbrev NamedBy : List (List ℕ) → List FilePlace → Type 0
NamedBy blocks fs = (x n : ℕ) → asked_name blocks (AtBlock x) ≡ Some n → name_beginning x fs ≡ Some n

named : (from bound : ℕ) (fs : List FilePlace) (q : ℕ) (g : FilePlace) (blocks : List (List ℕ)) (wishes : List Wish) (numbers : List ℕ) → AreApart from bound fs → AreDistinct (names fs) → find q fs ≡ Some g → NamedBy blocks fs
    → AreAsked blocks (map by_place (found_files wishes)) numbers → contains numbers q ≡ has_place g.place wishes
named from bound fs q g blocks [] [] apart distinct is by asked = refl
named from bound fs q g blocks [] (n ∷ numbers) apart distinct is by asked = absurd asked
named from bound fs q g blocks (wish.File file ∷ wishes) [] apart distinct is by asked = absurd asked
named from bound fs q g blocks (wish.File file ∷ wishes) (n ∷ numbers) apart distinct is by asked =
    or-test (eqb n q) (contains numbers q) ∙ ap (λ b. b || contains numbers q) (one-place from bound fs file.place n q g apart distinct (by file.place n asked.0) is)
    ∙ ap (λ b. nat_eq file.place g.place || b) (named from bound fs q g blocks wishes numbers apart distinct is by asked.1)
named from bound fs q g blocks (wish.BadWord place ∷ wishes) numbers apart distinct is by asked = named from bound fs q g blocks wishes numbers apart distinct is by asked
named from bound fs q g blocks (wish.NotFound place ∷ wishes) numbers apart distinct is by asked = named from bound fs q g blocks wishes numbers apart distinct is by asked
named from bound fs q g blocks (wish.Block block ∷ wishes) numbers apart distinct is by asked = named from bound fs q g blocks wishes numbers apart distinct is by asked

-- ## The files that are left

get-removed : (m : Files) (name q : ℕ) → get (remove m name) q ≡ (if eqb name q then None else get m q)
get-removed m name q = get-remove nat_cmp_total m name q ∙ ap (λ b. if b then None else get m q) (tied name q)

over : (b c : Bool) (o : Option FileData) → (if c then None else (if b then None else o)) ≡ (if b || c then None else o)
over true true o = refl
over true false o = refl
over false c o = refl

get-without : (names : List ℕ) (m : Files) (q : ℕ) → get (without m names) q ≡ (if contains names q then None else get m q)
get-without [] m q = refl
get-without (name ∷ names) m q =
    get-without names (remove m name) q ∙ ap (λ o. if contains names q then None else o) (get-removed m name q) ∙ over (eqb name q) (contains names q) (get m q)
    ∙ ap (λ b. if b then None else get m q) (sym (or-test (eqb name q) (contains names q)))

if-none : (b c : Bool) (o : Option FileData) → o ≡ None → (if b then None else o) ≡ (if c then None else o)
if-none true true o none = refl
if-none true false o none = sym none
if-none false true o none = none
if-none false false o none = refl

pub read-so : (read : Result DirectoryState DirFault) → is_ok read ≡ true → (d : DirectoryState) × (read ≡ Ok d)
read-so (Ok d) is = (d, refl)
read-so (Err fault) is = absurd (true≢false (sym is))

pub none-there : (blocks : List (List ℕ)) (info : ℕ) (o : Option FilePlace) → o ≡ None → data_if_there blocks info o ≡ None
none-there blocks info o is = ap (data_if_there blocks info) is

-- a file that is there is asked for just where its name is like a word
pub chosen-there : SoundSo → (old : List (List ℕ)) (d : DirectoryState) (words : List (List ℕ)) (numbers : List ℕ) (q : ℕ) (g : FilePlace) → directory_of old ≡ Ok d → find q (files_at d.first d.entries) ≡ Some g
    → first_unfound (once [] (asked_by_words (files_in d) 0 words)) ≡ None
    → AreAsked old (map by_place (found_files (once [] (asked_by_words (files_in d) 0 words)))) numbers → contains numbers q ≡ is_like_one words q
chosen-there sound old d words numbers q g read is none asked =
    let directory = sound old d read in
    let fs = files_at d.first d.entries in
    let single = subst AreDistinct (sym (names-at d.first d.entries)) directory.single in
    let wishes = asked_by_words (map file_at fs) 0 words in
    let good = (unfound-once [] wishes none).1 in
    named d.first (length old) fs q g old (once [] wishes) numbers directory.apart single is (λ x n named. sym (ap (name_at x) read) ∙ named) asked
    ∙ once-place [] wishes g.place ∙ by-words d.first (length old) fs q g 0 words directory.apart is good

-- of a volume that is read as a directory
left : FoundSo → SoundSo → (old : List (List ℕ)) (d : DirectoryState) (words : List (List ℕ)) (numbers : List ℕ) (q : ℕ) (o : Option FilePlace) → directory_of old ≡ Ok d → find q (files_at d.first d.entries) ≡ o
    → first_unfound (once [] (asked_by_words (files_in d) 0 words)) ≡ None
    → AreAsked old (map by_place (found_files (once [] (asked_by_words (files_in d) 0 words)))) numbers
    → (if contains numbers q then None else get (files_of old) q) ≡ (if is_like_one words q then None else get (files_of old) q)
left law sound old d words numbers q None read is none asked =
    if-none (contains numbers q) (is_like_one words q) (get (files_of old) q) (law old d q read ∙ none-there old d.info (find q (files_at d.first d.entries)) is)
left law sound old d words numbers q (Some g) read is none asked =
    ap (λ b. if b then None else get (files_of old) q) (chosen-there sound old d words numbers q g read is none asked)

pub like-are-gone : WrittenIsReadBack → FoundSo → SoundSo → (image : List ℕ) (old : List (List ℕ)) (words : List (List ℕ)) (new : DeletedImage) → IsOpened image old → first_unfound (wishes_of (files_on old) false words []) ≡ None
    → DeletesFiles image (map by_place (found_files (wishes_of (files_on old) false words []))) (Ok new)
    → (blocks : List (List ℕ)) × IsImageOf new.bytes.items blocks × ((name : ℕ) → get (files_of blocks) name ≡ (if is_like_one words name then None else get (files_of old) name))
like-are-gone law found sound image old words new opened none gone =
    let d = read-so (directory_of old) opened.sound in
    let volume = one_volume law image gone.before.blocks old gone.mounted.opened.is_image opened.is_image in
    let wishes = ap (λ (files : List VolumeFile). wishes_of files false words []) (ap files_or d.1) ∙ ap (once []) (append-nil (asked_by_words (files_in d.0) 0 words)) in
    let asked = subst (λ (l : List Wish). AreAsked old (map by_place (found_files l)) new.names.items) wishes
    (subst (λ (blocks : List (List ℕ)). AreAsked blocks (map by_place (found_files (wishes_of (files_on old) false words []))) new.names.items) (sym volume) gone.named) in (
      gone.after.blocks,
      gone.is_image,
      λ q. ap (λ (m : Files). get m q) gone.files ∙ get-without new.names.items (files_of gone.before.blocks) q
          ∙ ap (λ (blocks : List (List ℕ)). if contains new.names.items q then None else get (files_of blocks) q) (sym volume)
          ∙ left found sound old d.0 words new.names.items q (find q (files_at d.0.first d.0.entries)) d.1 refl (subst (λ (l : List Wish). first_unfound l ≡ None) wishes none) asked,
    )
