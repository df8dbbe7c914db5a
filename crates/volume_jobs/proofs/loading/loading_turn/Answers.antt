use Rattle.std.proofs.Common.{◌∙◌, Err, ap, sym}
use Rattle.volume_jobs.proofs.StepLemmas.{laid_turn, working_turn, memory_turn, refused_turn}
use Rattle.volume_jobs.proofs.loading.loading_turn.Goals as goal

pub returns-then-left-lt2 : goal.returns-then-left-lt2
returns-then-left-lt2 g c =
    let running = sym c.is_stopped.ensures.value ∙ c.if-is_stopped.false in
    let has = c.requires.there running in
    laid_turn has.0 c.args.files.now c.lay.new.files c.args.core.now c.lay.new.core c.args.job c.args.left c.name-name.result has.1 has.2 c.if-left-lt2.true running c.name-name.ensures (c.lay.ensures.core has.0) c.lay.ensures.files

pub returns-then-is_memory : goal.returns-then-is_memory
returns-then-is_memory g c =
    let has = c.requires.there (sym c.is_stopped.ensures.value ∙ c.if-is_stopped.false) in
    memory_turn has.0 c.args.files.now c.read_turn.new.files c.args.core.now c.args.job c.read_turn.new.self c.args.left c.in-Err.fault (sym c.is_memory.ensures ∙ c.if-is_memory.true) has.1 c.requires.fits (λ is. c.in-Err.ensures.memory (ap (λ f. Err f) is)) (c.in-Err.ensures.turn has.0 has.1 has.2)

pub returns-in-Ok : goal.returns-in-Ok
returns-in-Ok g c =
    let has = c.requires.there (sym c.is_stopped.ensures.value ∙ c.if-is_stopped.false) in
    working_turn has.0 c.args.files.now c.read_turn.new.files c.args.core.now c.args.job c.read_turn.new.self c.args.left has.1 has.2 c.requires.fits c.if-left-lt2.false c.in-Ok.ensures.done (c.in-Ok.ensures.turn has.0 has.1 has.2)

pub returns-else-is_memory : goal.returns-else-is_memory
returns-else-is_memory g c =
    let has = c.requires.there (sym c.is_stopped.ensures.value ∙ c.if-is_stopped.false) in
    refused_turn has.0 c.args.files.now c.read_turn.new.files c.let_go-in-Err.new.files c.args.core.now c.args.job c.read_turn.new.self c.args.left c.in-Err.fault (sym c.is_memory.ensures ∙ c.if-is_memory.false) has.1 has.2 c.if-left-lt2.false c.in-Err.ensures.same.0 (c.in-Err.ensures.turn has.0 has.1 has.2) c.let_go-in-Err.ensures
