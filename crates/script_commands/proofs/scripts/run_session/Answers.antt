use Rattle.std.proofs.Common.{◌∙◌, ◌++◌, [], Some, refl, rules}
use Rattle.hosts.specs.Streams.{output_text}
use Rattle.script_commands.proofs.InputLemmas.{given_none, taken_more, taken_within}
use Rattle.script_commands.proofs.SessionLemmas.{begun, begun_at, cause_at, cut_at, image_at, quiet, saving_at, session_ran, shows_at, told_at, typed_at}
use Rattle.script_commands.proofs.scripts.run_session.Goals as goal

pub tell_if_cut-requires : goal.tell_if_cut-requires
tell_if_cut-requires g c =
    let is-first = c.new-run.ensures.progress ∙ c.new-progress.ensures in
    let kept = c.run_watched-answer.ensures.kept c.new-run.result (refl, refl, refl, refl) in
    kept.3 ∙ cut_at c.args.image c.args.form.saving c.is_some.result c.args.rooms.lines c.new-run.result.progress is-first

pub returns : goal.returns
returns g c =
    let is-first = c.new-run.ensures.progress ∙ c.new-progress.ensures in
    let kept = c.run_watched-answer.ensures.kept c.new-run.result (refl, refl, refl, refl) in
    let name = kept.0 in
    let none-failed = quiet c.args.session c.run_watched-answer.new.self c.requires c.into_store-store.ensures.counts.1 c.into_store-store.ensures.counts.2 c.run_watched-answer.ensures.later in
    let shown = c.run_watched-answer.ensures.shown c.new-run.result [] none-failed (begun c.args.image c.args.form.saving c.is_some.result c.args.rooms.lines _ _ c.args.rooms.empty is-first) in
    let followed = c.run_watched-answer.ensures.reader c.new-input.result (refl, λ start given. given) in
    let lent = followed.0 in
    let given = followed.1 (g.I.ByteReader.remaining c.args.input.now) (rw (c.new-input.ensures.from, c.new-input.ensures.count) (given_none _ _ refl)) in
    let ran = session_ran c.args.form _ c.args.image c.args.session c.run_watched-answer.new.self (g.I.ByteReader.remaining c.args.input.now) (g.I.ByteReader.remaining c.run_watched-answer.new.reader.from.now) c.run_watched-answer.result c.end_script.result
    (g.I.ByteReader.has_failed c.run_watched-answer.new.reader.from.now) (g.H.Host.history c.args.host.now) (g.H.Host.history c.run_watched-answer.new.watcher.host.now) (g.H.Host.history c.tell_if_cut.new.host) (g.H.Host.history c.save_last.new.host) (g.H.Host.history c.print_last.new.host)
    c.run_watched-answer.new.watcher.progress c.tell_if_cut.new.progress c.save_last.new.progress c.print_last.new.progress c.into_store-store.result.blocks c.is_too_long.result shown.0
    (begun_at c.args.image c.new-run.result.progress.image (g.H.Host.history c.args.host.now) (g.H.Host.history c.new-run.result.host.now) (g.H.Host.history c.run_watched-answer.new.watcher.host.now) shown.0 c.run_watched-answer.new.watcher.progress shown.2 (image_at c.args.image c.args.form.saving c.is_some.result c.args.rooms.lines c.new-run.result.progress is-first) (rw c.new-run.ensures.host refl))
    (kept.1 ∙ saving_at c.args.image c.args.form.saving c.is_some.result c.args.rooms.lines c.new-run.result.progress is-first)
    (kept.2 ∙ (typed_at c.args.image c.args.form.saving c.is_some.result c.args.rooms.lines c.new-run.result.progress is-first ∙ c.is_some.ensures))
    (told_at _ _ (g.I.ByteReader.remaining c.args.input.now) (g.I.ByteReader.remaining c.new-input.result.from.now) _ _ _ (g.H.Host.history c.args.host.now) (g.H.Host.history c.new-run.result.host.now) c.new-run.result.progress (c.run_watched-answer.ensures.told none-failed) (rw c.new-input.ensures.from refl) (rw c.new-run.ensures.host refl) (rw is-first c.args.rooms.empty))
    (shows_at _ _ shown.0 (g.I.ByteReader.remaining c.args.input.now) (g.I.ByteReader.remaining c.new-input.result.from.now) (g.I.ByteReader.remaining c.run_watched-answer.new.reader.from.now) (Some (output_text (g.H.Host.history c.run_watched-answer.new.watcher.host.now) ++ c.run_watched-answer.new.watcher.progress.lines.items)) c.run_watched-answer.result (g.H.Host.history c.args.host.now) (g.H.Host.history c.new-run.result.host.now) c.new-run.result.progress shown.1 (rw c.new-input.ensures.from refl) (rw c.new-run.ensures.host refl) (rw is-first c.args.rooms.empty))
    (cause_at c.run_watched-answer.result _ (g.I.ByteReader.remaining c.args.input.now) (g.I.ByteReader.remaining c.new-input.result.from.now) (g.I.ByteReader.remaining c.run_watched-answer.new.reader.from.now) c.run_watched-answer.ensures.cause (rw c.new-input.ensures.from refl)) c.run_watched-answer.ensures.stopped
    (λ long. taken_more _ _ _ given (c.is_too_long.ensures.long long)) (λ short. taken_within _ _ _ given (c.is_too_long.ensures.short short))
    c.tell_if_cut.ensures.done c.tell_if_cut.ensures.output c.tell_if_cut.ensures.progress c.tell_if_cut.ensures.cut
    c.save_last.ensures.done c.save_last.ensures.image c.into_store-store.ensures.blocks c.save_last.ensures.earlier c.save_last.ensures.fault c.save_last.ensures.output c.save_last.ensures.lines c.save_last.ensures.saving c.save_last.ensures.typed c.save_last.ensures.cut
    c.print_last.ensures.done c.print_last.ensures.image c.print_last.ensures.saving c.print_last.ensures.typed c.print_last.ensures.save_ending c.print_last.ensures.cut c.print_last.ensures.text c.print_last.ensures.waiting c.print_last.ensures.fault
    c.end_script.ensures in
    search (rules, ran)
