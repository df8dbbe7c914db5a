use Rattle.std.proofs.Common.{◌∙◌, Err, ap, sym, subst}
use Rattle.volume_jobs.specs.Steps.{TurnsJob, without_holds}
use Rattle.volume_jobs.proofs.AssembleLemmas.{the_assembly, working_on, memory_on, refused_on, stopped_at}
use Rattle.volume_jobs.proofs.assembling.assembling_turn.Goals as goal

pub returns-then-is_stopped : goal.returns-then-is_stopped
returns-then-is_stopped g c = λ core. stopped_at c.counted_holds.ensures.released c.args.files.now c.let_go.new.files core c.args.job c.args.left (sym c.is_stopped.ensures.value ∙ c.if-is_stopped.true) c.requires.none c.requires.fits.more c.requires.held c.let_go.ensures

pub returns-in-Ok : goal.returns-in-Ok
returns-in-Ok g c = λ core.
    let is = c.requires.stands (sym c.is_stopped.ensures.value ∙ c.if-is_stopped.false) in
    subst (λ o. TurnsJob c.args.files.now core (the_assembly c.args.job c.args.left) _ o c.read.new.files core) (sym c.assembles_on.ensures)
    (working_on c.args.files.now c.read.new.files core c.args.job c.read.new.self c.args.left c.requires.none c.requires.fits is c.if-left-lt2.false c.in-Ok.ensures.same.0 c.in-Ok.ensures.same.1 c.in-Ok.ensures.turn)

pub returns-then-is_memory : goal.returns-then-is_memory
returns-then-is_memory g c = λ core.
    let is = c.requires.stands (sym c.is_stopped.ensures.value ∙ c.if-is_stopped.false) in
    subst (λ o. TurnsJob c.args.files.now core (the_assembly c.args.job c.args.left) (Err c.in-Err.fault) o c.read.new.files core) (sym c.assembles_on-then-is_memory.ensures)
    (memory_on c.args.files.now c.read.new.files core c.args.job c.read.new.self c.args.left c.in-Err.fault (sym c.is_memory.ensures ∙ c.if-is_memory.true) c.requires.none c.requires.fits is c.in-Err.ensures.same.0 c.in-Err.ensures.same.1 c.in-Err.ensures.turn)

pub returns-else-is_memory : goal.returns-else-is_memory
returns-else-is_memory g c = λ core.
    refused_on c.counted_holds.ensures.released c.args.files.now c.read.new.files c.let_go-in-Err.new.files core c.args.job c.read.new.self c.args.left c.in-Err.fault (sym c.is_memory.ensures ∙ c.if-is_memory.false) c.requires.none c.if-left-lt2.false c.requires.held c.in-Err.ensures.turn
    (c.let_go-in-Err.ensures ∙ ap (λ h. record c.read.new.files { holds = without_holds h c.read.new.files.holds }) c.in-Err.ensures.same.1)
