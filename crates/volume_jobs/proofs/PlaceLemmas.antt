-- Files that are held at places.
use Rattle.std.proofs.Common.{◌≡◌, ◌∙◌, ℕ, zero, suc, ◌+◌, ◌<◌, ◌≤◌, Option, Some, None, List, [], ◌∷◌, length, take, get_or, slice_set, refl, ap, sym, add-one, arith}
use Rattle.std.specs.FinMap.{get}
use Rattle.os8_dir.specs.Files.{Files}
use Rattle.os8_files.specs.Holds.{times, with_hold, without_hold}
use Rattle.os8_files.specs.Mounted.{MountState}
use Rattle.volume_jobs.specs.Sources.{names_of, AreFirst}
use Rattle.volume_jobs.specs.Steps.{without_holds, HasHeld}
use Rattle.volume_jobs.specs.State.{words_or, words_in, AreIn}
use Rattle.volume_jobs.proofs.TimesLemmas.{self_once}

-- a hold that is released takes one away from its name
abbrev pub ReleasedLaw : Type 0
ReleasedLaw = (name hold : ℕ) (holds : List ℕ) → 1 ≤ times hold holds → times name (hold ∷ []) + times name (without_hold hold holds) ≡ times name holds

-- a hold that is taken adds one to its name
abbrev pub TakenLaw : Type 0
TakenLaw = (name hold : ℕ) (holds : List ℕ) → times name (with_hold hold holds) ≡ times name (hold ∷ []) + times name holds

-- ## Counts

-- what places let go is taken away from their names
pub times_without : ReleasedLaw → (places : List (Option ℕ)) (holds : List ℕ) (name : ℕ) → ((other : ℕ) → times other (names_of places) ≤ times other holds) → times name (without_holds places holds) + times name (names_of places) ≡ times name holds
times_without law [] holds name enough = omega arith
times_without law (None ∷ places) holds name enough = times_without law places holds name enough
times_without law (Some hold ∷ places) holds name enough = omega (arith, law name hold holds some, times_without law places (without_hold hold holds) name less)
  where
    some : 1 ≤ times hold holds
    some = omega (arith, enough hold, self_once hold)

    less : (other : ℕ) → times other (names_of places) ≤ times other (without_hold hold holds)
    less other = omega (arith, enough other, law other hold holds some)

-- ## The files of names

-- the files of these names are the same
first_of_names : (name : ℕ) (names : List ℕ) → 1 ≤ times name (name ∷ names)
first_of_names name names = omega (arith, self_once name)

later_name : (other name : ℕ) (names : List ℕ) → 1 ≤ times other names → 1 ≤ times other (name ∷ names)
later_name other name names some = omega (arith, some)

pub same_words : (old new : Files) (names : List ℕ) → ((name : ℕ) → 1 ≤ times name names → get new name ≡ get old name) → words_in new names ≡ words_in old names
same_words old new [] same = refl
same_words old new (name ∷ names) same =
    ap (λ o. words_or o ∷ words_in new names) (same name (first_of_names name names))
    ∙ ap (λ l. words_or (get old name) ∷ l) (same_words old new names (λ other some. same other (later_name other name names some)))

pub same_there : (old new : Files) (names : List ℕ) → ((name : ℕ) → 1 ≤ times name names → get new name ≡ get old name) → AreIn old names → AreIn new names
same_there old new [] same there = tt
same_there old new (name ∷ names) same there = ((there.0.0, same name (first_of_names name names) ∙ there.0.1), same_there old new names (λ other some. same other (later_name other name names some)) there.1)

-- ## Places

-- the file at a place
pub hold_at : (places : List (Option ℕ)) (place : ℕ) → AreFirst places → place < length (names_of places) → get_or places place None ≡ Some (get_or (names_of places) place 0)
hold_at [] place first inside = absurd (omega (arith, inside))
hold_at (None ∷ places) place first inside = absurd (omega (arith, inside, ap (λ (l : List ℕ). length l) first.0))
hold_at (Some name ∷ places) zero first inside = refl
hold_at (Some name ∷ places) (suc place) first inside = hold_at places place first (omega (arith, inside))

pub few_names : (places : List (Option ℕ)) → length (names_of places) ≤ length places
few_names [] = omega arith
few_names (None ∷ places) = omega (arith, few_names places)
few_names (Some name ∷ places) = omega (arith, few_names places)

-- one place more lets go
pub without_next : (old : List (Option ℕ)) (place : ℕ) (holds : List ℕ) → place < length old → without_holds (get_or old place None ∷ []) (without_holds (take place old) holds) ≡ without_holds (take (place + 1) old) holds
without_next old place holds short = more old place holds short ∙ ap (λ n. without_holds (take n old) holds) (sym (add-one place))
  where
    more : (old : List (Option ℕ)) (place : ℕ) (holds : List ℕ) → place < length old → without_holds (get_or old place None ∷ []) (without_holds (take place old) holds) ≡ without_holds (take (suc place) old) holds
    more [] place holds short = absurd (nothing place short)
      where
        nothing : (n : ℕ) → n < 0 → ⊥
        nothing n h = omega (arith, h)
    more (None ∷ old) zero holds short = refl
    more (Some name ∷ old) zero holds short = refl
    more (None ∷ old) (suc place) holds short = more old place holds (omega (arith, short))
    more (Some name ∷ old) (suc place) holds short = more old place (without_hold name holds) (omega (arith, short))

-- ## What stands at a place

same_inside : {A : Type 0} (xs : List A) (k : ℕ) (a b : A) → k < length xs → get_or xs k a ≡ get_or xs k b
same_inside [] k a b inside = absurd (omega (arith, inside))
same_inside (x ∷ xs) zero a b inside = refl
same_inside (x ∷ xs) (suc k) a b inside = same_inside xs k a b (omega (arith, inside))

is_there : (places : List (Option ℕ)) (place : ℕ) (it : Option ℕ) → AreFirst places → place < length (names_of places) → it ≡ get_or places place it → it ≡ Some (get_or (names_of places) place 0)
is_there places place it first inside is = is ∙ same_inside places place it None (omega (arith, inside, few_names places)) ∙ hold_at places place first inside

pub not_there : (places : List (Option ℕ)) (place : ℕ) (it : Option ℕ) → AreFirst places → place < length (names_of places) → it ≡ get_or places place it → it ≡ None → ⊥
not_there places place it first inside is none = never (sym (is_there places place it first inside is) ∙ none)
  where
    never : {n : ℕ} → Some n ≡ None → ⊥
    never e = cc

pub there_is : (places : List (Option ℕ)) (place : ℕ) (it : Option ℕ) (hold : ℕ) → AreFirst places → place < length (names_of places) → it ≡ get_or places place it → it ≡ Some hold → hold ≡ get_or (names_of places) place 0
there_is places place it hold first inside is some = same (sym some ∙ is_there places place it first inside is)
  where
    same : {n : ℕ} → Some hold ≡ Some n → hold ≡ n
    same e = cc

-- ## One hold more

times_set : (places : List (Option ℕ)) (place hold name : ℕ) → place < length places → get_or places place None ≡ None → times name (names_of (slice_set places place (Some hold))) ≡ times name (hold ∷ []) + times name (names_of places)
times_set [] place hold name inside free = absurd (omega (arith, inside))
times_set (None ∷ places) zero hold name inside free = omega arith
times_set (Some other ∷ places) zero hold name inside free = absurd (never free)
  where
    never : Some other ≡ None → ⊥
    never e = cc
times_set (None ∷ places) (suc place) hold name inside free = times_set places place hold name (omega (arith, inside)) free
times_set (Some other ∷ places) (suc place) hold name inside free = omega (arith, times_set places place hold name (omega (arith, inside)) free)

pub taken_more : TakenLaw → (first old new : MountState) (places : List (Option ℕ)) (place name hold : ℕ) → place < length places → get_or places place None ≡ None → hold ≡ name → new ≡ record old { holds = with_hold name old.holds } → HasHeld first places old → HasHeld first (slice_set places place (Some hold)) new
taken_more law first old new places place name hold inside free named is held = record {
  taken = λ other. omega (arith, ap (λ (m : MountState). times other m.holds) is, law other name old.holds, held.taken other, times_set places place hold other inside free, ap (λ n. times other (n ∷ [])) named);
  others = is ∙ ap (λ (m : MountState). record m { holds = with_hold name old.holds }) held.others ∙ ap (λ (m : MountState). record first { holds = m.holds }) (sym is);
}
