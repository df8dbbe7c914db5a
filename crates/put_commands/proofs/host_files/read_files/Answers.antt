use Rattle.std.proofs.Common.{Ok, inl, inr, map, refl, subst, sym}
use Rattle.refusals.specs.declared.faults.SessionFault.TheVariants.{Memory}
use Rattle.outcome.specs.declared.endings.Ending.TheVariants.{Fault}
use Rattle.put_commands.specs.Putting.{ReadsEach, ReadsNext}
use Rattle.put_commands.proofs.NameLemmas.{knows-more, unkept}
use Rattle.image_files.proofs.WorkLemmas.{ends_with, first-and-others, no_item}
use Rattle.put_commands.proofs.host_files.read_files.Goals as goal

pub returns-in_err-file : goal.returns-in_err-file
returns-in_err-file g c =
    c.loop-rest.invariant.goes_on c.from_residual.result (g.H.Host.history c.read_next.new.host)
    (subst (λ paths. ReadsEach c.args.form.now c.loop-rest.files.items (map (λ path. path.bytes.items) paths) (g.H.Host.history c.loop-rest.host) c.from_residual.result (g.H.Host.history c.read_next.new.host))
    (sym (first-and-others c.loop-rest.rest.now c.path-item.result c.in-len1-up.len_at_least c.path-item.is))
    (inl (ends_with (ReadsNext c.args.form.now c.loop-rest.files.items c.path-item.result.bytes.items) _ _ _ _
    (rw c.as_str.ensures.value at (c.in_err-file.ensures.reads c.loop-rest.files.items c.loop-rest.invariant.known)) c.from_residual.ensures)))

pub returns-in_err-add : goal.returns-in_err-add
returns-in_err-add g c =
    c.loop-rest.invariant.goes_on c.from_residual-in_err-add.result (g.H.Host.history c.read_next.new.host)
    (subst (λ paths. ReadsEach c.args.form.now c.loop-rest.files.items (map (λ path. path.bytes.items) paths) (g.H.Host.history c.loop-rest.host) c.from_residual-in_err-add.result (g.H.Host.history c.read_next.new.host))
    (sym (first-and-others c.loop-rest.rest.now c.path-item.result c.in-len1-up.len_at_least c.path-item.is))
    (inl (ends_with (ReadsNext c.args.form.now c.loop-rest.files.items c.path-item.result.bytes.items) _ _ _ (Fault Memory)
    (unkept c.args.form.now c.loop-rest.files.items c.path-item.result.bytes.items c.in_ok-file.file _ _ (rw c.as_str.ensures.value at (c.in_ok-file.ensures.reads c.loop-rest.files.items c.loop-rest.invariant.known))) c.from_residual-in_err-add.ensures)))

pub loop-rest-preserved : goal.loop-rest-preserved
loop-rest-preserved g c = record {
  known = rw c.in_ok-add.ensures (knows-more c.loop-rest.names c.read_next.new.names c.loop-rest.files.items c.in_ok-file.file c.in_ok-file.ensures.names c.loop-rest.invariant.known);
  goes_on = λ result new is.
      c.loop-rest.invariant.goes_on result new
      (subst (λ paths. ReadsEach c.args.form.now c.loop-rest.files.items (map (λ path. path.bytes.items) paths) (g.H.Host.history c.loop-rest.host) result new)
      (sym (first-and-others c.loop-rest.rest.now c.path-item.result c.in-len1-up.len_at_least c.path-item.is))
      (inr (record { given = c.in_ok-file.file; between = g.H.Host.history c.read_next.new.host; done = rw c.as_str.ensures.value at (c.in_ok-file.ensures.reads c.loop-rest.files.items c.loop-rest.invariant.known); after = rw c.in_ok-add.ensures at is })));
}

pub returns : goal.returns
returns g c = c.loop-rest.invariant.goes_on (Ok c.loop-rest.files) (g.H.Host.history c.loop-rest.host)
    (subst (λ paths. ReadsEach c.args.form.now c.loop-rest.files.items (map (λ path. path.bytes.items) paths) (g.H.Host.history c.loop-rest.host) (Ok c.loop-rest.files) (g.H.Host.history c.loop-rest.host))
    (sym (no_item c.loop-rest.rest.now c.in_default.len_below)) (refl, refl))
