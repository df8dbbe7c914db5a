use Rattle.std.proofs.Common.{◌≡◌, ℕ, List, ◌++◌, ap, ◌∙◌, append_assoc}
use Rattle.pal8_source.proofs.plain.put_lines.Goals as goal

joined : (o a b d x y z : List ℕ) → x ≡ o ++ a → y ≡ x ++ b → z ≡ y ++ d → z ≡ o ++ (a ++ (b ++ d))
joined o a b d x y z e f g =
    g ∙ ap (λ l. l ++ d) f ∙ append_assoc x b d ∙ ap (λ l. l ++ (b ++ d)) e ∙ append_assoc o a (b ++ d)

pub returns : goal.returns
returns c = joined c.args.text.now.items _ _ _ _ _ _ c.in_ok-put_field.ensures c.in_ok-put_origin.ensures c.in_ok-put_word.ensures
