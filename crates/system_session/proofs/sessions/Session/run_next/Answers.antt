use Rattle.std.proofs.Common.{◌∷◌, [], refl, subst, Ok}
use Rattle.script8.specs.Items.{BeginsWith}
use Rattle.script8.specs.declared.items.Next.{Next}
use Rattle.std.proofs.lemmas.Result.{err_from_is_err_and}
use Rattle.system_session.specs.RunSteps.{watch}
use Rattle.system_session.proofs.TextLemmas.{item_ran, item_stopped, nothing_begun}
use Rattle.system_session.proofs.ToldLemmas.{part_none}
use Rattle.system_session.proofs.sessions.Session.run_next.Goals as goal

pub returns-in_err-run_item-in-Item-clause-told : goal.returns-in_err-run_item-in-Item-clause-told
returns-in_err-run_item-in-Item-clause-told g c first quiet =
    let p = err_from_is_err_and c.from_residual-in_err-run_item-in-Item.result c.from_residual-in_err-run_item-in-Item.ensures.1 in
    rw (p.1, p.2)
    (item_stopped _ _ c.in-Item.item c.in-Item.bytes _ _ (watch g.K.Watcher.contents g.K.Watcher.was_shown first c.args.watcher.now) (watch g.K.Watcher.contents g.K.Watcher.was_shown first c.begins.new.self) (watch g.K.Watcher.contents g.K.Watcher.was_shown first c.run_item.new.watcher) c.in_err-run_item-in-Item.field-0.0 (nothing_begun _ _ c.begins.ensures.contents (c.begins.ensures.shown first))
    (subst (λ (n : Next). BeginsWith c.args.text.now c.args.is_end (Ok n)) c.in-Item.is c.in_ok-lines.ensures) (c.in_err-run_item-in-Item.ensures.told first quiet))

pub returns-in_err-lines-clause-told : goal.returns-in_err-lines-clause-told
returns-in_err-lines-clause-told g c first quiet =
    let p = err_from_is_err_and c.from_residual.result c.from_residual.ensures.1 in
    rw (p.1, p.2.1 c.in_err-lines.ensures.0) (part_none _ _ _ _ refl)

pub returns-in_ok-run_item-in-Item-clause-told : goal.returns-in_ok-run_item-in-Item-clause-told
returns-in_ok-run_item-in-Item-clause-told g c first quiet = (
  c.in-Item.item ∷ [],
  subst (λ (n : Next). BeginsWith c.args.text.now c.args.is_end (Ok n)) c.in-Item.is c.in_ok-lines.ensures,
  item_ran c.in-Item.item _ _ (watch g.K.Watcher.contents g.K.Watcher.was_shown first c.args.watcher.now) (watch g.K.Watcher.contents g.K.Watcher.was_shown first c.begins.new.self) (watch g.K.Watcher.contents g.K.Watcher.was_shown first c.run_item.new.watcher)
      (nothing_begun _ _ c.begins.ensures.contents (c.begins.ensures.shown first)) (c.in_ok-run_item-in-Item.ensures.told first quiet),
)
