use Rattle.std.proofs.Common.{◌≡◌, ℕ, List, ◌++◌, ap, ◌∙◌, append_assoc}
use Rattle.tape_source.proofs.lines.put_cell.Goals as goal

more : (o a b x y : List ℕ) → x ≡ o ++ a → y ≡ x ++ b → y ≡ o ++ (a ++ b)
more o a b x y e f = f ∙ ap (λ l. l ++ b) e ∙ append_assoc o a b

joined : (o a b n w g v x y z u : List ℕ) → v ≡ o ++ a → x ≡ v ++ b → y ≡ x ++ n → z ≡ y ++ w → u ≡ z ++ g → u ≡ o ++ ((((a ++ b) ++ n) ++ w) ++ g)
joined o a b n w g v x y z u e f h i j =
    more o (((a ++ b) ++ n) ++ w) g z u (more o ((a ++ b) ++ n) w y z (more o (a ++ b) n x y (more o a b v x e f) h) i) j

pub returns : goal.returns
returns c =
    joined c.args.text.now.items _ _ _ _ _ _ _ _ _ _ c.in_ok-put_field.ensures c.in_ok-put_origin.ensures c.in_ok-put_above.ensures c.in_ok-put_word.ensures
    c.in_ok-put_gap.ensures
