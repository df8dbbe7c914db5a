use Rattle.std.proofs.Common.{ap, sym, ◌∙◌, ◌+◌, ◌-◌, min, length, refl}
use Rattle.bin_tape.specs.Progress.{Progress}
use Rattle.bin_tape.proofs.MapLemmas.{begins_run, ends_run}
use Rattle.bin_tape.proofs.readers.TapeReader.take_pairs.Goals as goal

pub returns-else-not-is_between_pairs-clause-read : goal.returns-else-not-is_between_pairs-clause-read
returns-else-not-is_between_pairs-clause-read c = λ whole r.
    ends_run whole c.args.frames.now c.take_pairs-rest.result.now c.args.self.now _ c.args.words.now c.take_pairs-rest.new.words c.take_pairs-rest.new.self
    refl c.if-self.false c.take_pairs-rest.ensures.left
    (c.saturating_add-self-inside.ensures
    ∙ ap (λ (p : Progress). min (p.place + (length c.args.frames.now - length c.take_pairs-rest.result.now)) 18446744073709551615) c.self.view_is)
    r
    (c.take_pairs-rest.ensures.reads whole
    (begins_run whole c.args.frames.now c.args.self.now c.args.words.now c.in-Reading.prefix
    (sym (ap (λ (p : Progress). p.state) c.self.view_is) ∙ c.in-Reading.is)
    (sym (ap (λ (p : Progress). p.ignoring) c.self.view_is) ∙ c.if-self.false)
    (c.is_between_pairs.ensures.first c.if-not-is_between_pairs.false)
    (c.is_between_pairs.ensures.origin c.if-not-is_between_pairs.false)
    r))
