use Rattle.std.proofs.Common.{◌≡◌, get_or, ap, sym, subst, ◌∙◌}
use Rattle.pal_asm.specs.Places.{with_tags as tag_values}
use Rattle.host_sources.specs.Symbols.{with_tags, meaning_in}
use Rattle.host_sources.proofs.NameLemmas.{following_one, first_one, with_tag_more, added}
use Rattle.host_sources.proofs.names.set_tags.Goals as goal

pub loop-rest-preserved : goal.loop-rest-preserved
loop-rest-preserved c =
    let rest = c.loop-rest.rest.now in
    let tag = c.number.result in
    let place = c.args.place in
    let old = c.loop-rest.symbols in
    let first = first_one rest tag c.in-len1-up.len_at_least (subst (λ t. t ≡ get_or rest 0 t) (sym c.number.ensures) c.tag-item.is) in
    record {
      values = λ n. with_tag_more (following_one rest) tag place (meaning_in old) (meaning_in c.insert.new.self) (added tag place old c.insert.new.self c.in_ok-insert.ensures.updates) n
          ∙ ap (λ l. tag_values l place (meaning_in old) n) (sym first) ∙ c.loop-rest.invariant.values n;
      entries = ap (λ e. with_tags e (following_one rest) place) c.in_ok-insert.ensures.entries ∙ ap (λ l. with_tags old.entries l place) (sym first) ∙ c.loop-rest.invariant.entries;
    }
