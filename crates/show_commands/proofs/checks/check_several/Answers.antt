use Rattle.std.proofs.Common.{inl, inr, length, map, sym, subst, Err, Ok}
use Rattle.std.proofs.lemmas.List.{length-map}
use Rattle.show_commands.specs.Checking.{ChecksEach, PrintsCount}
use Rattle.host_progress.specs.Progressing.{WithProgress}
use Rattle.image_files.proofs.WorkLemmas.{ends_with}
use Rattle.show_commands.proofs.checks.check_several.Goals as goal

pub returns-in_err-refused : goal.returns-in_err-refused
returns-in_err-refused g c =
    inl (ends_with (WithProgress (λ is_told. ChecksEach c.args.form.now is_told 0 (length (map (λ file. file.bytes.items) c.args.files.now)) 0 (map (λ file. file.bytes.items) c.args.files.now))) _ _ _ _
    (subst (λ n. WithProgress (λ is_told. ChecksEach c.args.form.now is_told 0 n 0 (map (λ file. file.bytes.items) c.args.files.now)) (g.H.Host.history c.args.host.now) (Err c.in_err-refused.field-0.0) (g.H.Host.history c.count_refused.new.host))
    (sym (length-map c.args.files.now (λ file. file.bytes.items))) c.in_err-refused.ensures)
    c.from_residual.ensures)

pub returns : goal.returns
returns g c = inr (record {
  given = c.in_ok-refused.refused;
  between = g.H.Host.history c.count_refused.new.host;
  done = subst (λ n. WithProgress (λ is_told. ChecksEach c.args.form.now is_told 0 n 0 (map (λ file. file.bytes.items) c.args.files.now)) (g.H.Host.history c.args.host.now) (Ok c.in_ok-refused.refused) (g.H.Host.history c.count_refused.new.host))
      (sym (length-map c.args.files.now (λ file. file.bytes.items))) c.in_ok-refused.ensures;
  after = subst (λ n. PrintsCount n c.in_ok-refused.refused (g.H.Host.history c.count_refused.new.host) c.print_count.result (g.H.Host.history c.print_count.new.host))
      (sym (length-map c.args.files.now (λ file. file.bytes.items))) c.print_count.ensures;
})
