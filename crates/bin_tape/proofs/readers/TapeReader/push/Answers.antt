use Rattle.std.proofs.Common.{ℕ, List, [], ◌∷◌, ◌++◌, ap, sym, ◌∙◌}
use Rattle.bin_tape.specs.Progress.{Progress}
use Rattle.bin_tape.specs.Reading.{HasRead, Answers, words_in}
use Rattle.bin_tape.proofs.ReaderLemmas.{read_on}
use Rattle.bin_tape.proofs.readers.TapeReader.push.Goals as goal

both : (c : goal.After-take) (frames : List ℕ) (out : List (ℕ × ℕ)) → HasRead c.args.self.now frames out
    → HasRead c.take.new.self (frames ++ c.args.frame ∷ []) (out ++ words_in c.take.result) × Answers frames out c.args.frame c.take.result
both c frames out read =
    read_on c.args.self.now c.count-kept.new.self c.take.new.self c.in-Reading.prefix c.args.frame c.self.inside.place c.take.result frames out
    (sym c.count-kept.ensures.same ∙ sym (ap (λ (p : Progress). p.state) c.self-2.view_is) ∙ c.in-Reading.is)
    (ap (λ (p : Progress). p.place) c.self.view_is)
    c.take.ensures.same
    c.if-kept.ensures.is_kept.0
    (c.if-kept.ensures.is_kept.1 frames read.counts)
    (c.if-kept.ensures.kept frames read.counts)
    (c.count-kept.ensures.counts frames read.counts)
    c.take.ensures.comes
    read

pub returns-then-kept-clause-read : goal.returns-then-kept-clause-read
returns-then-kept-clause-read c = λ frames out read. (both c frames out read).0

pub returns-then-kept-clause-answer : goal.returns-then-kept-clause-answer
returns-then-kept-clause-answer c = λ frames out read. (both c frames out read).1
