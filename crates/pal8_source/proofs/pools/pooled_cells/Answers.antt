use Rattle.std.proofs.Common.{◌≡◌, ℕ, ◌<◌, List, if◌then◌else◌, ap, subst, sym, ◌∙◌}
use Rattle.pal8_source.specs.Pools.{is_in_pool, is_page_zero, size_by}
use Rattle.pal8_source.specs.Steps.{size_in}
use Rattle.pal8_source.proofs.PoolLemmas.{pooled_is, upper_same}
use Rattle.pal8_source.proofs.pools.pooled_cells.Goals as goal

pub returns-clause-flags : goal.returns-clause-flags
returns-clause-flags c = λ cell small.
    let p = c.args.program.now in
    let upper = c.in_ok-upper.upper.items in
    let sizes = c.in_ok-sizes.sizes.items in
    let same = upper_same p upper (sym c.in_ok-upper.upper.ok.0 ∙ c.in_ok-upper.ensures.size) c.in_ok-upper.ensures.sizes in
    let all = subst (λ (u : List ℕ). (page : ℕ) → page < 256 → size_in sizes page ≡ (if is_page_zero page then size_by p (size_in u) page else size_in u page)) c.deref.ensures.value c.in_ok-sizes.ensures.sizes in
    c.in_ok-pooled.ensures.flags cell small ∙ ap (λ (l : List ℕ). is_in_pool (size_in l) cell) c.deref-2.ensures.value
    ∙ pooled_is p upper sizes cell small same all
