use Rattle.std.proofs.Common.{◌≡◌, ℕ, nat_eq, Bool, true, false, if◌then◌else◌, List, [], ◌∷◌, length, take, refl, ap, ◌∙◌}
use Rattle.source_names.specs.Laws.{visible_name}
use Rattle.source_names.proofs.lines.visible_name.Goals as goal

first_shown : (six : List ℕ) → take (length (visible_name six)) six ≡ visible_name six
first_shown [] = refl
first_shown (byte ∷ others) = split (nat_eq byte 0) (first_shown others)
  where
    split : (b : Bool) → take (length (visible_name others)) others ≡ visible_name others
        → take (length (if b then [] else byte ∷ visible_name others)) (byte ∷ others) ≡ (if b then [] else byte ∷ visible_name others)
    split true rest = refl
    split false rest = ap (λ l. byte ∷ l) rest

pub returns : goal.returns
returns c =
    c.split_at.ensures.front ∙ ap (λ n. take n c.args.six.now) c.shown_length.ensures.value ∙ first_shown c.args.six.now
