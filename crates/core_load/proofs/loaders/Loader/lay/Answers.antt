use Rattle.std.proofs.Common.{ℕ, List, ap, subst, sym, ◌∙◌}
use Rattle.core_load.specs.Loading.{Loading}
use Rattle.core_load.specs.Load.{IsOverlaid}
use Rattle.core_load.specs.Steps.{core_with}
use Rattle.core_load.proofs.LaidLemmas.{is_overlaid}
use Rattle.core_load.proofs.loaders.Loader.lay.Goals as goal

pub returns : goal.returns
returns c = λ frames items fed is_tape.
    let words = c.handed_words.ensures.of_tape _ frames _ items fed is_tape in
    subst (λ (core : List ℕ). IsOverlaid items c.args.core.now core)
    (sym (c.lay_words.ensures
    ∙ ap (λ ws. core_with ws c.args.core.now) (c.deref.ensures.value ∙ ap (λ (l : Loading). l.words) c.self.view_is ∙ words)))
    (is_overlaid items c.args.core.now)
