use Rattle.std.proofs.Common.{◌∙◌, sym}
use Rattle.std.proofs.lemmas.Result.{err_from_is_err_and}
use Rattle.volume_jobs.proofs.LoadLemmas.{block_taken, went_on, ended_at, not_taken}
use Rattle.volume_jobs.proofs.loading.Loading.take_block.Goals as goal

pub returns-then-last-clause-block : goal.returns-then-last-clause-block
returns-then-last-clause-block c = λ words left is this more last.
    let taken = block_taken words left c.args.self.now c.args.block.now c.take_frames.new.loader c.take_frames.new.offset is more this c.in_ok-take_frames.ensures.takes in
    ended_at c.no_fault.ensures c.one_fault.ensures words left c.args.self.now c.take_frames.new.loader c.end.result (sym c.if-last.true ∙ last) is taken (c.end.ensures.ends _ taken)

pub returns-clause-block : goal.returns-clause-block
returns-clause-block c = λ words left is this more last.
    went_on c.no_fault.ensures c.one_fault.ensures words left c.args.self.now c.take_frames.new.loader is more (sym c.if-last.false ∙ last)
    (block_taken words left c.args.self.now c.args.block.now c.take_frames.new.loader c.take_frames.new.offset is more this c.in_ok-take_frames.ensures.takes)

pub returns-in_err-take_frames-clause-block : goal.returns-in_err-take_frames-clause-block
returns-in_err-take_frames-clause-block c = λ words left is this more last.
    let e = err_from_is_err_and c.from_residual.result c.from_residual.ensures.1 in
    rw (e.1, e.2)
    (not_taken c.no_fault.ensures c.one_fault.ensures words left c.args.self.now c.args.block.now c.take_frames.new.loader c.take_frames.new.offset c.in_err-take_frames.field-0.0 is more this c.in_err-take_frames.ensures.takes)

pub returns-then-last-clause-memory : goal.returns-then-last-clause-memory
returns-then-last-clause-memory c memory = absurd (c.end.ensures.other memory)
