use Rattle.std.proofs.Common.{◌∙◌, ◌+◌, Ok, sym, subst}
use Rattle.std.proofs.lemmas.Result.{err_from_is_err_and}
use Rattle.volume_jobs.specs.Calls.{StartsAssembling}
use Rattle.volume_jobs.proofs.PlainLemmas.{free_at}
use Rattle.volume_jobs.proofs.StartLemmas.{too_many_assemblies, refused_assembly, started_assembly}
use Rattle.volume_jobs.proofs.table.Jobs.assemble.Goals as goal

pub put-requires-clause-free : goal.put-requires-clause-free
put-requires-clause-free g c = free_at c.args.self.now c.in-Some.place (sym c.free_place.ensures.place ∙ c.in-Some.is)

pub returns-in-None : goal.returns-in-None
returns-in-None g c = too_many_assemblies c.args.files.now c.args.self.now c.args.to c.args.from.now c.requires.settled (sym c.is_stopped.ensures.value ∙ c.if-is_stopped.false) (sym c.free_place.ensures.place ∙ c.in-None.is)

pub returns-in_err-assembly-in-Some : goal.returns-in_err-assembly-in-Some
returns-in_err-assembly-in-Some g c =
    let e = err_from_is_err_and c.from_residual.result c.from_residual.ensures.1 in
    rw (e.1, e.2) (refused_assembly c.counted_holds.ensures.held c.args.files.now c.begin.new.files c.args.self.now c.args.to c.args.from.now c.in-Some.place c.in_err-assembly-in-Some.field-0.0 c.requires.settled (sym c.is_stopped.ensures.value ∙ c.if-is_stopped.false)
    (sym c.free_place.ensures.place ∙ c.in-Some.is) c.in_err-assembly-in-Some.ensures)

pub returns-in_ok-assembly-in-Some : goal.returns-in_ok-assembly-in-Some
returns-in_ok-assembly-in-Some g c =
    subst (λ l. StartsAssembling c.args.files.now c.args.self.now c.args.to c.args.from.now (Ok (c.in-Some.place + 1)) c.begin.new.files l) (sym c.put.ensures)
    (started_assembly c.counted_holds.ensures.held c.args.files.now c.begin.new.files c.args.self.now c.args.to c.args.from.now c.in-Some.place c.in_ok-assembly-in-Some.assembly c.in_ok-assembly-in-Some.left c.requires.settled (sym c.is_stopped.ensures.value ∙ c.if-is_stopped.false)
    (sym c.free_place.ensures.place ∙ c.in-Some.is) c.in-Some.ensures.range c.in_ok-assembly-in-Some.ensures)
