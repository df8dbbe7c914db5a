use Rattle.std.proofs.Common.{Ok, inl, inr, map, option_copied, refl, subst, sym}
use Rattle.refusals.specs.declared.faults.SessionFault.TheVariants.{Memory}
use Rattle.outcome.specs.declared.endings.Ending.TheVariants.{Fault}
use Rattle.assemble_commands.specs.Sources.{ReadsEach, ReadsSource}
use Rattle.assemble_commands.proofs.SourceLemmas.{unkept}
use Rattle.image_files.proofs.WorkLemmas.{ends_with, first-and-others, no_item}
use Rattle.assemble_commands.proofs.sources.read_sources.Goals as goal

pub returns-in_err-text : goal.returns-in_err-text
returns-in_err-text g c =
    c.loop-rest.invariant c.from_residual.result (g.H.Host.history c.read_source.new.host)
    (subst (λ names. ReadsEach (option_copied c.args.volume) c.loop-rest.texts.items (map (λ name. name.bytes.items) names) (g.H.Host.history c.loop-rest.host) c.from_residual.result (g.H.Host.history c.read_source.new.host))
    (sym (first-and-others c.loop-rest.rest.now c.name-item.result c.in-len1-up.len_at_least c.name-item.is))
    (inl (ends_with (ReadsSource (option_copied c.args.volume) c.name-item.result.bytes.items) _ _ _ _
    (rw c.as_str.ensures.value at c.in_err-text.ensures) c.from_residual.ensures)))

pub returns-in_err-add : goal.returns-in_err-add
returns-in_err-add g c =
    c.loop-rest.invariant c.from_residual-in_err-add.result (g.H.Host.history c.read_source.new.host)
    (subst (λ names. ReadsEach (option_copied c.args.volume) c.loop-rest.texts.items (map (λ name. name.bytes.items) names) (g.H.Host.history c.loop-rest.host) c.from_residual-in_err-add.result (g.H.Host.history c.read_source.new.host))
    (sym (first-and-others c.loop-rest.rest.now c.name-item.result c.in-len1-up.len_at_least c.name-item.is))
    (inl (ends_with (ReadsSource (option_copied c.args.volume) c.name-item.result.bytes.items) _ _ _ (Fault Memory)
    (unkept (option_copied c.args.volume) c.name-item.result.bytes.items _ c.in_ok-text.text _ (rw c.as_str.ensures.value at c.in_ok-text.ensures)) c.from_residual-in_err-add.ensures)))

pub loop-rest-preserved : goal.loop-rest-preserved
loop-rest-preserved g c = λ result new is.
    c.loop-rest.invariant result new
    (subst (λ names. ReadsEach (option_copied c.args.volume) c.loop-rest.texts.items (map (λ name. name.bytes.items) names) (g.H.Host.history c.loop-rest.host) result new)
    (sym (first-and-others c.loop-rest.rest.now c.name-item.result c.in-len1-up.len_at_least c.name-item.is))
    (inr (record { given = c.in_ok-text.text; between = g.H.Host.history c.read_source.new.host; done = rw c.as_str.ensures.value at c.in_ok-text.ensures; after = rw c.in_ok-add.ensures at is })))

pub returns : goal.returns
returns g c = c.loop-rest.invariant (Ok c.loop-rest.texts) (g.H.Host.history c.loop-rest.host)
    (subst (λ names. ReadsEach (option_copied c.args.volume) c.loop-rest.texts.items (map (λ name. name.bytes.items) names) (g.H.Host.history c.loop-rest.host) (Ok c.loop-rest.texts) (g.H.Host.history c.loop-rest.host))
    (sym (no_item c.loop-rest.rest.now c.in_default.len_below)) (refl, refl))
