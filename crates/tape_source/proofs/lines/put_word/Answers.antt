use Rattle.std.proofs.Common.{◌≡◌, ℕ, List, ◌++◌, ◌∷◌, ap, ◌∙◌, append_assoc}
use Rattle.tape_source.specs.Lines.{with_lead, comment, line_end, tag_part}
use Rattle.tape_source.specs.Statements.{statement}
use Rattle.tape_source.specs.Steps.{look_with, remark_of}
use Rattle.tape_source.specs.Tags.{is_flagged}
use Rattle.tape_source.proofs.lines.put_word.Goals as goal

more : (o a b x y : List ℕ) → x ≡ o ++ a → y ≡ x ++ b → y ≡ o ++ (a ++ b)
more o a b x y e f = f ∙ ap (λ l. l ++ b) e ∙ append_assoc o a b

joined : (o t s c r e u v x y z : List ℕ) → u ≡ o ++ t → v ≡ u ++ s → x ≡ v ++ c → y ≡ x ++ r → z ≡ y ++ e → z ≡ o ++ ((((t ++ s) ++ c) ++ r) ++ e)
joined o t s c r e u v x y z f g h i j =
    more o (((t ++ s) ++ c) ++ r) e y z (more o ((t ++ s) ++ c) r x y (more o (t ++ s) c v x (more o t s u v f g) h) i) j

pub returns : goal.returns
returns c =
    let look = look_with c.args.tags.now.names.now c.args.notes.now (is_flagged c.args.code.now) in
    let tagged = is_flagged c.args.tags.now.flags.now in
    let cell = c.args.cell in
    let word = c.args.word in
    joined c.args.text.now.items (tag_part look.name tagged cell) (with_lead 9 (statement look tagged cell word)) (9 ∷ comment cell word) (remark_of c.args.notes.now cell) line_end
    c.put_tag.new.text.items c.put_statement.new.text.items c.put_comment.new.text.items c.put_remark.new.text.items c.extend_from_slice.new.self.items
    c.in_ok-put_tag.ensures c.in_ok-put_statement.ensures c.in_ok-put_comment.ensures c.in_ok-put_remark.ensures c.in_ok-extend_from_slice.ensures.items
