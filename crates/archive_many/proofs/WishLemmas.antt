-- What is asked for, each file once.
use Rattle.std.proofs.Common.{◌≡◌, ◌∙◌, ◌<◌, ◌||◌, ◌++◌, ◌∷◌, ℕ, Bool, true, false, not, nat_eq, List, [], ap, arith, if◌then◌else◌, length, map, refl, subst, sym}
use Rattle.std.proofs.lemmas.Bool.Decides.{nat_tests}
use Rattle.std.specs.BTreeSet.{BTreeSet}
use Rattle.name_spelling.specs.Patterns.{is_choice}
use Rattle.archive_many.specs.Choosing.{files_like}
use Rattle.archive_many.specs.declared.opened.VolumeFile.{VolumeFile}
use Rattle.archive_many.specs.WishSteps.{KnowsPlaces, has_key}
use Rattle.archive_many.specs.Wishing.{wishes_of_word, wishes_for, has_place, with_wish}
use Rattle.archive_many.specs.declared.wishes.Wish.{Wish}
use Rattle.archive_many.specs.declared.wishes.Wish.TheVariants as wish

pub or-assoc : (a b c : Bool) → (a || (b || c)) ≡ ((a || b) || c)
or-assoc true b c = refl
or-assoc false b c = refl

or-false : (a : Bool) → (a || false) ≡ a
or-false true = refl
or-false false = refl

-- ## What a word asks for

pub found-some : (place : ℕ) (files : List VolumeFile) → 0 < length files → wishes_for place files ≡ map wish.File files
found-some place [] some = absurd (omega (arith, some))
found-some place (file ∷ files) some = refl

pub asked-some : (files : List VolumeFile) (place : ℕ) (word : List ℕ) (chosen : List VolumeFile) → is_choice word ≡ true → chosen ≡ files_like word files → 0 < length chosen → wishes_of_word files place word ≡ map wish.File chosen
asked-some files place word chosen choice are some =
    ap (λ b. if b then wishes_for place (files_like word files) else wish.BadWord place ∷ []) choice
    ∙ ap (wishes_for place) (sym are) ∙ found-some place chosen some

pub asked-none : (files : List VolumeFile) (place : ℕ) (word : List ℕ) → is_choice word ≡ true → files_like word files ≡ [] → wishes_of_word files place word ≡ wish.NotFound place ∷ []
asked-none files place word choice none =
    ap (λ b. if b then wishes_for place (files_like word files) else wish.BadWord place ∷ []) choice
    ∙ ap (wishes_for place) none

pub asked-bad : (files : List VolumeFile) (place : ℕ) (word : List ℕ) → is_choice word ≡ false → wishes_of_word files place word ≡ wish.BadWord place ∷ []
asked-bad files place word choice = ap (λ b. if b then wishes_for place (files_like word files) else wish.BadWord place ∷ []) choice

-- ## Each file once

place-more : (wishes : List Wish) (one : Wish) (q : ℕ) → has_place q (wishes ++ one ∷ []) ≡ (has_place q wishes || has_place q (one ∷ []))
place-more [] one q = refl
place-more (wish.File file ∷ wishes) one q = ap (λ b. nat_eq file.place q || b) (place-more wishes one q) ∙ or-assoc (nat_eq file.place q) (has_place q wishes) (has_place q (one ∷ []))
place-more (wish.BadWord place ∷ wishes) one q = place-more wishes one q
place-more (wish.NotFound place ∷ wishes) one q = place-more wishes one q
place-more (wish.Block block ∷ wishes) one q = place-more wishes one q

pub knows-bad : (places : BTreeSet ℕ) (wishes : List Wish) (place : ℕ) → KnowsPlaces places wishes → KnowsPlaces places (wishes ++ wish.BadWord place ∷ [])
knows-bad places wishes place knows = λ q. knows q ∙ sym (place-more wishes (wish.BadWord place) q ∙ or-false (has_place q wishes))

pub knows-none : (places : BTreeSet ℕ) (wishes : List Wish) (place : ℕ) → KnowsPlaces places wishes → KnowsPlaces places (wishes ++ wish.NotFound place ∷ [])
knows-none places wishes place knows = λ q. knows q ∙ sym (place-more wishes (wish.NotFound place) q ∙ or-false (has_place q wishes))

pub knows-block : (places : BTreeSet ℕ) (wishes : List Wish) (block : ℕ) → KnowsPlaces places wishes → KnowsPlaces places (wishes ++ wish.Block block ∷ [])
knows-block places wishes block knows = λ q. knows q ∙ sym (place-more wishes (wish.Block block) q ∙ or-false (has_place q wishes))

pub knows-file : (old new : BTreeSet ℕ) (wishes : List Wish) (file : VolumeFile) → ((q : ℕ) → has_key new q ≡ (has_key old q || nat_eq file.place q)) → KnowsPlaces old wishes → KnowsPlaces new (wishes ++ wish.File file ∷ [])
knows-file old new wishes file more knows =
    λ q. more q ∙ ap (λ b. b || nat_eq file.place q) (knows q) ∙ sym (place-more wishes (wish.File file) q ∙ ap (λ b. has_place q wishes || b) (or-false (nat_eq file.place q)))

equal : (a b : ℕ) → nat_eq a b ≡ true → a ≡ b
equal a b is = grind (arith, nat_tests)

keep : (b is : Bool) → (is ≡ true → b ≡ true) → (b || is) ≡ b
keep true is f = refl
keep false true f = sym (f refl)
keep false false f = refl

-- a set that had a block already is as it was
pub knows-same : (old new : BTreeSet ℕ) (wishes : List Wish) (place : ℕ) → ((q : ℕ) → has_key new q ≡ (has_key old q || nat_eq place q)) → has_key old place ≡ true → KnowsPlaces old wishes → KnowsPlaces new wishes
knows-same old new wishes place more had knows = λ q. more q ∙ keep (has_key old q) (nat_eq place q) (λ is. subst (λ p. has_key old p ≡ true) (equal place q is) had) ∙ knows q

pub had : (b is_new : Bool) → is_new ≡ not b → is_new ≡ false → b ≡ true
had true is_new is old = refl
had false is_new is old = absurd (never (sym is ∙ old))
  where
    never : true ≡ false → ⊥
    never e = cc

pub had-not : (b is_new : Bool) → is_new ≡ not b → is_new ≡ true → b ≡ false
had-not false is_new is new = refl
had-not true is_new is new = absurd (never (sym is ∙ new))
  where
    never : false ≡ true → ⊥
    never e = cc

pub with-known : (wishes : List Wish) (file : VolumeFile) → has_place file.place wishes ≡ true → with_wish wishes (wish.File file) ≡ wishes
with-known wishes file is = ap (λ b. if b then wishes else wishes ++ wish.File file ∷ []) is

pub with-new : (wishes : List Wish) (file : VolumeFile) → has_place file.place wishes ≡ false → with_wish wishes (wish.File file) ≡ wishes ++ wish.File file ∷ []
with-new wishes file is = ap (λ b. if b then wishes else wishes ++ wish.File file ∷ []) is
