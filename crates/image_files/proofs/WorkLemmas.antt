-- A step that ends a command, by what `?` hands on; and the first items of lists.
use Rattle.std.proofs.Common.{◌≡◌, ◌∙◌, ◌≤◌, ◌<◌, ◌-◌, ◌+◌, ℕ, Bool, true, refl, sym, subst, ap, arith, length, get_or, take, drop, Result, Ok, Err, IsErrAnd, List, [], ◌∷◌}
use Rattle.std.proofs.lemmas.List.{take_all}
use Rattle.std.specs.Result.{IsErr}
use Rattle.hosts.specs.Event.{Event}
use Rattle.outcome.specs.declared.endings.Ending.{Ending}
use Rattle.outcome.specs.declared.endings.Ending.TheVariants.{Line, Fault, Failure, Busy, NotWritten, FullOutput, Unreported, NoReader, Misuse}
use Rattle.image_files.specs.Work.{After, Ends, ending_after, result_after}

pub ends_with : {A B : Type 0} (first : List Event → Result A Ending → List Event → Type 0) (old new : List Event) (result : Result B Ending) (ending : Ending)
    → first old (Err ending) new → IsErr result × IsErrAnd result (λ it. it ≡ ending) → Ends first old result new
ends_with first old new (Ok it) ending done is = is.1
ends_with first old new (Err it) ending done is = subst (λ e. first old (Err e) new) (sym is.1) done

-- a part that gave this, after others
pub part_after : {A : Type 0} (are_sound : Bool) (part : List Event → Result A Ending → List Event → Type 0) (old new : List Event) (given result : Result A Ending)
    → part old given new → result ≡ result_after are_sound given → After are_sound part old result new
part_after are_sound part old new (Ok it) result done is = subst (λ r. After are_sound part old r new) (sym is) done
part_after are_sound part old new (Err ending) result done is = subst (λ r. After are_sound part old r new) (sym is) (ending, done, refl)

same_ending : (ending : Ending) → ending ≡ ending_after true ending
same_ending (Line line) = refl
same_ending (Fault fault) = refl
same_ending Failure = refl
same_ending (Busy content) = refl
same_ending (NotWritten content left) = refl
same_ending FullOutput = refl
same_ending Unreported = refl
same_ending NoReader = refl
same_ending Misuse = refl

-- a part with none before it that is refused
pub part_alone : {A : Type 0} (part : List Event → Result A Ending → List Event → Type 0) (old new : List Event) (result : Result A Ending) → part old result new → After true part old result new
part_alone part old new (Ok it) done = done
part_alone part old new (Err ending) done = (ending, done, same_ending ending)

-- a list of one item
pub one_item : {X : Type 0} (xs : List X) (x : X) → 1 ≤ length xs → length xs < 2 → x ≡ get_or xs 0 x → xs ≡ x ∷ []
one_item [] x some few is = absurd (omega (arith, some))
one_item (y ∷ []) x some few is = ap (λ z. z ∷ []) (sym is)
one_item (y ∷ z ∷ xs) x some few is = absurd (omega (arith, few))

-- the first item and the others
pub first-and-others : {X : Type 0} (xs : List X) (x : X) → 1 ≤ length xs → x ≡ get_or xs 0 x → xs ≡ x ∷ take (length xs - 1) (drop 1 xs)
first-and-others [] x some is = absurd (omega (arith, some))
first-and-others (y ∷ xs) x some is = ap (λ z. z ∷ xs) (sym is) ∙ ap (λ l. x ∷ l) (sym (take_all (length (y ∷ xs) - 1) xs (omega arith)))

-- a list of no item
pub no_item : {X : Type 0} (xs : List X) → length xs < 1 → xs ≡ []
no_item [] few = refl
no_item (x ∷ xs) few = absurd (omega (arith, few))

-- how many items of all are done, with one more
pub count-more : {X : Type 0} (rest : List X) (item : X) (done all : ℕ) → rest ≡ item ∷ take (length rest - 1) (drop 1 rest) → done + length rest ≡ all → (done + 1) + length (take (length rest - 1) (drop 1 rest)) ≡ all
count-more rest item done all is count = omega (arith, ap length is, count)
