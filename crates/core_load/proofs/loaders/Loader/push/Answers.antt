use Rattle.std.proofs.Common.{ℕ, List, [], ◌∷◌, ◌++◌, option_to_list, append-nil, ap, subst, sym, ◌∙◌}
use Rattle.std.proofs.lemmas.Result.{err_from_is_err_and}
use Rattle.bin_tape.specs.Reading.{HasRead, IsGoing}
use Rattle.core_load.specs.Loading.{Loading}
use Rattle.core_load.proofs.FedLemmas.{fine, handed, told}
use Rattle.core_load.proofs.loaders.Loader.push.Goals as goal
use Rattle.bin_tape.specs.Progress.{Progress}

abbrev the_loading : Progress → List (ℕ × ℕ) → Loading
the_loading reader words = record { reader = reader; words = words }

pub returns-in-None : goal.returns-in-None
returns-in-None c = λ frames fed.
    let before = subst (λ (l : Loading). HasRead l.reader frames l.words) (sym c.self.view_is) fed in (
      subst (λ (words : List (ℕ × ℕ)). HasRead c.push.new.self (frames ++ c.args.frame ∷ []) words)
          (ap (λ o. c.self.inside.words.items ++ option_to_list o) (sym c.word.ensures ∙ c.in-None.is) ∙ append-nil c.self.inside.words.items)
          (c.in_ok-tape.ensures.read frames _ before),
      fine c.longer_tape.ensures frames _ _ _ (c.in_ok-tape.ensures.answer frames _ before),
    )

pub returns-in-Ok : goal.returns-in-Ok
returns-in-Ok c = λ frames fed.
    let before = subst (λ (l : Loading). HasRead l.reader frames l.words) (sym c.self.view_is) fed in (
      subst (λ (words : List (ℕ × ℕ)). HasRead c.push.new.self (frames ++ c.args.frame ∷ []) words)
          (ap (λ o. c.self.inside.words.items ++ option_to_list o) (sym c.word.ensures ∙ c.in-Some.is)
          ∙ ap (λ l. l ++ c.in-Some.word ∷ []) (sym c.in-Ok.ensures.items)
          ∙ sym c.push_reserved.ensures.items)
          (c.in_ok-tape.ensures.read frames _ before),
      fine c.longer_tape.ensures frames _ _ _ (c.in_ok-tape.ensures.answer frames _ before),
    )

pub returns-in-Err : goal.returns-in-Err
returns-in-Err c = λ frames fed.
    let before = subst (λ (l : Loading). HasRead l.reader frames l.words) (sym c.self.view_is) fed in
    rw c.from.ensures (
      (
        c.in-Some.word,
        subst (λ (l : Loading). IsGoing (frames ++ c.args.frame ∷ []) (l.words ++ c.in-Some.word ∷ [])) c.self.view_is
            (handed frames _ _ _ _ (c.in_ok-tape.ensures.answer frames _ before) (sym c.word.ensures ∙ c.in-Some.is)),
      ),
      ap (λ (words : List (ℕ × ℕ)). the_loading c.self.inside.reader words) c.in-Err.ensures.items ∙ c.self.view_is,
    )

pub returns-in_err-tape : goal.returns-in_err-tape
returns-in_err-tape c = λ frames fed.
    let before = subst (λ (l : Loading). HasRead l.reader frames l.words) (sym c.self.view_is) fed in
    let p = err_from_is_err_and c.from_residual.result c.from_residual.ensures.1 in rw (p.1, p.2)
    (told _ _ frames _ _
    (subst (λ (words : List (ℕ × ℕ)). HasRead c.push.new.self (frames ++ c.args.frame ∷ []) words)
    (append-nil c.self.inside.words.items)
    (c.in_err-tape.ensures.read frames _ before))
    (c.in_err-tape.ensures.answer frames _ before))
