use Rattle.std.proofs.Common.{◌∙◌, inl, inr, length, map, nat_eq, refl, subst, sym, Ok}
use Rattle.show_commands.specs.Checking.{ChecksEach, ChecksNext}
use Rattle.show_commands.proofs.CountLemmas.{few-more}
use Rattle.image_files.specs.Work.{After}
use Rattle.image_files.proofs.WorkLemmas.{count-more, ends_with, first-and-others, no_item, part_after}
use Rattle.show_commands.proofs.checks.check_each.Goals as goal

pub returns-in_err-is_sound-clause-checks : goal.returns-in_err-is_sound-clause-checks
returns-in_err-is_sound-clause-checks g c =
    c.loop-rest.invariant.goes_on c.from_residual.result (g.H.Host.history c.check_next-next.new.host)
    (subst (λ files. ChecksEach c.args.form.now c.loop-rest.progress.is_told c.loop-rest.done c.loop-rest.progress.all c.loop-rest.refused (map (λ file. file.bytes.items) files) (g.H.Host.history c.loop-rest.host) c.from_residual.result (g.H.Host.history c.check_next-next.new.host))
    (sym (first-and-others c.loop-rest.rest.now c.file-item.result c.in-len1-up.len_at_least c.file-item.is))
    (inl (ends_with (After (nat_eq c.loop-rest.refused 0) (ChecksNext c.args.form.now c.loop-rest.progress.is_told c.loop-rest.done c.loop-rest.progress.all c.file-item.result.bytes.items)) _ _ _ _
    (part_after (nat_eq c.loop-rest.refused 0) (ChecksNext c.args.form.now c.loop-rest.progress.is_told c.loop-rest.done c.loop-rest.progress.all c.file-item.result.bytes.items) _ _ _ _
    (rw c.as_str.ensures.value at c.check_next-next.ensures.checks) c.in_err-is_sound.ensures) c.from_residual.ensures)))

pub loop-rest-preserved : goal.loop-rest-preserved
loop-rest-preserved g c = record {
  told = c.check_next-next.ensures.told ∙ c.loop-rest.invariant.told;
  all = c.check_next-next.ensures.all ∙ c.loop-rest.invariant.all;
  few = few-more c.in_ok-is_sound.is_sound c.loop-rest.refused c.loop-rest.done c.with_refusal-refused.result c.with_refusal-refused.ensures c.loop-rest.invariant.few;
  count = count-more c.loop-rest.rest.now c.file-item.result c.loop-rest.done (length c.args.files.now) (first-and-others c.loop-rest.rest.now c.file-item.result c.in-len1-up.len_at_least c.file-item.is) c.loop-rest.invariant.count;
  goes_on = λ result new is.
      c.loop-rest.invariant.goes_on result new
      (subst (λ files. ChecksEach c.args.form.now c.loop-rest.progress.is_told c.loop-rest.done c.loop-rest.progress.all c.loop-rest.refused (map (λ file. file.bytes.items) files) (g.H.Host.history c.loop-rest.host) result new)
      (sym (first-and-others c.loop-rest.rest.now c.file-item.result c.in-len1-up.len_at_least c.file-item.is))
      (inr (record { given = c.in_ok-is_sound.is_sound; between = g.H.Host.history c.check_next-next.new.host; done = part_after (nat_eq c.loop-rest.refused 0) (ChecksNext c.args.form.now c.loop-rest.progress.is_told c.loop-rest.done c.loop-rest.progress.all c.file-item.result.bytes.items) _ _ _ _ (rw c.as_str.ensures.value at c.check_next-next.ensures.checks) c.in_ok-is_sound.ensures; after = rw (c.check_next-next.ensures.told, c.check_next-next.ensures.all, c.with_refusal-refused.ensures) at is })));
}

pub returns-clause-checks : goal.returns-clause-checks
returns-clause-checks g c = c.loop-rest.invariant.goes_on (Ok c.loop-rest.refused) (g.H.Host.history c.loop-rest.host)
    (subst (λ files. ChecksEach c.args.form.now c.loop-rest.progress.is_told c.loop-rest.done c.loop-rest.progress.all c.loop-rest.refused (map (λ file. file.bytes.items) files) (g.H.Host.history c.loop-rest.host) (Ok c.loop-rest.refused) (g.H.Host.history c.loop-rest.host))
    (sym (no_item c.loop-rest.rest.now c.in_default.len_below)) (refl, refl))
