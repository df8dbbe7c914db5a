use Rattle.std.proofs.Common.{◌∙◌, ◌+◌, Ok, sym, subst}
use Rattle.std.proofs.lemmas.Result.{err_from_is_err_and}
use Rattle.volume_jobs.specs.Calls.{StartsLoading}
use Rattle.volume_jobs.proofs.PlainLemmas.{free_at}
use Rattle.volume_jobs.proofs.StartLemmas.{too_many_loads, refused_load, begun_load}
use Rattle.volume_jobs.proofs.table.Jobs.load.Goals as goal

pub put-requires-clause-free : goal.put-requires-clause-free
put-requires-clause-free g c = free_at c.args.self.now c.in-Some.place (sym c.free_place.ensures.place ∙ c.in-Some.is)

pub returns-in-None : goal.returns-in-None
returns-in-None g c = too_many_loads c.args.files.now c.args.self.now c.args.name c.requires (sym c.is_stopped.ensures.value ∙ c.if-is_stopped.false) (sym c.free_place.ensures.place ∙ c.in-None.is)

pub returns-in_err-loading-in-Some : goal.returns-in_err-loading-in-Some
returns-in_err-loading-in-Some g c =
    let e = err_from_is_err_and c.from_residual.result c.from_residual.ensures.1 in
    rw e.1 (refused_load c.args.files.now c.begin.new.files c.args.self.now c.args.name c.in-Some.place c.in_err-loading-in-Some.field-0.0 e.0 c.requires (sym c.is_stopped.ensures.value ∙ c.if-is_stopped.false)
    (sym c.free_place.ensures.place ∙ c.in-Some.is) e.2 c.in_err-loading-in-Some.ensures)

pub returns-in_ok-loading-in-Some : goal.returns-in_ok-loading-in-Some
returns-in_ok-loading-in-Some g c =
    subst (λ l. StartsLoading c.args.files.now c.args.self.now c.args.name (Ok (c.in-Some.place + 1)) c.begin.new.files l) (sym c.put.ensures)
    (begun_load c.counted_holds.ensures.taken c.args.files.now c.begin.new.files c.args.self.now c.args.name c.in-Some.place c.in_ok-loading-in-Some.loading c.in_ok-loading-in-Some.left c.requires
    (sym c.free_place.ensures.place ∙ c.in-Some.is) c.in-Some.ensures.range c.in_ok-loading-in-Some.ensures)
