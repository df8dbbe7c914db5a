use Rattle.std.proofs.Common.{Ok, List, inl, inr, refl, subst, sym}
use Rattle.archive_many.specs.declared.putting.NewFile.{NewFile}
use Rattle.image_files.specs.Years.{TellsDate, TellsFiles}
use Rattle.image_files.proofs.WorkLemmas.{ends_with, first-and-others, no_item}
use Rattle.image_files.proofs.years.tell_files.Goals as goal

pub returns-in_err-tell_date : goal.returns-in_err-tell_date
returns-in_err-tell_date g c =
    c.loop-rest.invariant c.from_residual.result (g.H.Host.history c.tell_date.new.host)
    (subst (λ (files : List NewFile). TellsFiles c.args.last files (g.H.Host.history c.loop-rest.host) c.from_residual.result (g.H.Host.history c.tell_date.new.host))
    (sym (first-and-others c.loop-rest.rest.now c.file-item.result c.in-len1-up.len_at_least c.file-item.is))
    (inl (ends_with (TellsDate c.args.last c.file-item.result.date c.file-item.result.year) _ _ _ _ c.in_err-tell_date.ensures c.from_residual.ensures)))

pub loop-rest-preserved : goal.loop-rest-preserved
loop-rest-preserved g c = λ result new is.
    c.loop-rest.invariant result new
    (subst (λ (files : List NewFile). TellsFiles c.args.last files (g.H.Host.history c.loop-rest.host) result new)
    (sym (first-and-others c.loop-rest.rest.now c.file-item.result c.in-len1-up.len_at_least c.file-item.is))
    (inr (record { given = tt; between = g.H.Host.history c.tell_date.new.host; done = c.in_ok-tell_date.ensures; after = is })))

pub returns : goal.returns
returns g c = c.loop-rest.invariant (Ok tt) (g.H.Host.history c.loop-rest.host)
    (subst (λ (files : List NewFile). TellsFiles c.args.last files (g.H.Host.history c.loop-rest.host) (Ok tt) (g.H.Host.history c.loop-rest.host))
    (sym (no_item c.loop-rest.rest.now c.in_default.len_below)) (tt, refl))
