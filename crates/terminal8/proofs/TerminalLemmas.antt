-- A run at a terminal, step by step.
use Rattle.std.proofs.Common.{◌≡◌, ℕ, ◌+◌, ◌%◌, Bool, true, false, nat_eq, if◌then◌else◌, List, [], ◌∷◌, ◌++◌, None, add-one, refl, ap, ◌∙◌}
use Rattle.cpu8.specs.Go.{character_of}
use Rattle.cpu8.specs.declared.outcomes.Stepped.TheVariants.{Stopped, Ran}
use Rattle.terminal8.specs.Terminal.{Terminal, after_step, next, later, last_did, characters_of, visible_characters}

pub later-none : (t : Terminal) → later 0 t ≡ t
unfolding later
later-none t = refl

pub later-next : (k : ℕ) (t : Terminal) → later (k + 1) t ≡ next (later k t)
unfolding later
later-next k t = rw add-one refl

pub did-none : (t : Terminal) → last_did 0 t ≡ (if t.machine.running then Ran None else Stopped)
unfolding last_did
did-none t = refl

pub did-next : (k : ℕ) (t : Terminal) → last_did (k + 1) t ≡ (after_step (later k t)).1
unfolding last_did
did-next k t = rw add-one refl

pub printed-none : (t : Terminal) → characters_of 0 t ≡ []
unfolding characters_of
printed-none t = refl

pub printed-next : (k : ℕ) (t : Terminal) → characters_of (k + 1) t ≡ characters_of k t ++ character_of (after_step (later k t)).1
unfolding characters_of
printed-next k t = rw add-one refl

-- what is shown of characters after others
shown-if : (b : Bool) (c : ℕ) (xs ys : List ℕ) → (if b then xs ++ ys else c ∷ (xs ++ ys)) ≡ (if b then xs else c ∷ xs) ++ ys
shown-if true c xs ys = refl
shown-if false c xs ys = refl

pub shown-more : (xs ys : List ℕ) → visible_characters (xs ++ ys) ≡ visible_characters xs ++ visible_characters ys
shown-more [] ys = refl
shown-more (x ∷ xs) ys =
    ap (λ rest. if nat_eq (x % 128) 0 then rest else x % 128 ∷ rest) (shown-more xs ys)
    ∙ shown-if (nat_eq (x % 128) 0) (x % 128) (visible_characters xs) (visible_characters ys)
