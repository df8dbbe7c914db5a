use Rattle.std.proofs.Common.{◌≡◌, ◌∙◌, ap, option_copied}
use Rattle.std.proofs.lemmas.Result.{err_from_is_err_and}
use Rattle.script8.specs.Replies.{answer_lines}
use Rattle.system_session.specs.RunSteps.{watch}
use Rattle.system_session.specs.Session.{SessionView}
use Rattle.system_session.proofs.ShownLemmas.{answer_shown, answer_told, session_shows}
use Rattle.system_session.proofs.ToldLemmas.{tells_none}
use Rattle.system_session.proofs.sessions.Session.tell.Goals as goal

pub returns-in_err-put_lines-clause-told : goal.returns-in_err-put_lines-clause-told
returns-in_err-put_lines-clause-told g c first =
    let p = err_from_is_err_and c.from_residual.result c.from_residual.ensures.1 in
    (_, session_shows (option_copied c.args.entry) c.args.answer.now c.args.self.now, rw (p.1, p.2, c.in_err-put_lines.ensures.err.0) (tells_none _, c.in_err-put_lines.ensures.err.1))

pub returns-in_err-print_answer-clause-told : goal.returns-in_err-print_answer-clause-told
returns-in_err-print_answer-clause-told g c first =
    let p = err_from_is_err_and c.from_residual-in_err-print_answer.result c.from_residual-in_err-print_answer.ensures.1 in
    let blocks : g.S.BlockStore.contents c.store.result.now ≡ c.args.self.now.volume.blocks = c.store.ensures.blocks ∙ ap (λ (s : SessionView). s.volume.blocks) c.self.view_is in
    let lines : c.deref.result.now ≡ answer_lines (option_copied c.args.entry) c.args.answer.now = c.deref.ensures.value ∙ c.in_ok-put_lines.ensures.ok in (
      _,
      session_shows (option_copied c.args.entry) c.args.answer.now c.args.self.now,
      rw (p.1, p.2)
          (answer_shown (watch g.K.Watcher.contents g.K.Watcher.was_shown first c.args.watcher.now) (watch g.K.Watcher.contents g.K.Watcher.was_shown first c.print_answer.new.self) _ _ _ _ blocks
          (λ before. c.in_err-print_answer.ensures.shown first before (option_copied c.args.entry) lines)),
    )

pub returns-clause-told : goal.returns-clause-told
returns-clause-told g c first =
    let blocks : g.S.BlockStore.contents c.store.result.now ≡ c.args.self.now.volume.blocks = c.store.ensures.blocks ∙ ap (λ (s : SessionView). s.volume.blocks) c.self.view_is in
    let lines : c.deref.result.now ≡ answer_lines (option_copied c.args.entry) c.args.answer.now = c.deref.ensures.value ∙ c.in_ok-put_lines.ensures.ok in (
      _,
      session_shows (option_copied c.args.entry) c.args.answer.now c.args.self.now,
      answer_told (watch g.K.Watcher.contents g.K.Watcher.was_shown first c.args.watcher.now) (watch g.K.Watcher.contents g.K.Watcher.was_shown first c.print_answer.new.self) _ _ _ _ _ blocks lines c.in_ok-print_answer.ensures.printed
          (λ before. c.in_ok-print_answer.ensures.shown first before (option_copied c.args.entry) lines),
    )
