use Rattle.std.proofs.Common.{◌≡◌, ◌+◌, ◌∷◌, [], length, ap, sym, ◌∙◌, arith, drop}
use Rattle.std.proofs.lemmas.List.{drop_more, drop_all}
use Rattle.char_pack.specs.Packing.{frames}
use Rattle.char_pack.specs.Reading.{frames_left}
use Rattle.char_pack.proofs.reading.FramesIterator.next.Goals as goal

pub returns-then-self-frame_count-clause-steps : goal.returns-then-self-frame_count-clause-steps
unfolding frames_left
returns-then-self-frame_count-clause-steps c =
    let it = c.args.self.now in
    let none : drop it.index (frames it.words.now) ≡ [] = drop_all it.index (frames it.words.now) (omega arith) in
    (none, none)

pub returns-clause-steps : goal.returns-clause-steps
unfolding frames_left
returns-clause-steps c =
    let it = c.args.self.now in
    drop_more (frames it.words.now) it.index 0 (omega arith)
    ∙ ap (λ x. x ∷ drop (it.index + 1) (frames it.words.now)) (sym c.frame_at-frame.ensures)

pub returns-clause-goes : goal.returns-clause-goes
returns-clause-goes c =
    record { on = λ _. (tt, tt, omega (arith, ap length (returns-clause-steps c))); keeps = tt; rests = λ _. tt }
