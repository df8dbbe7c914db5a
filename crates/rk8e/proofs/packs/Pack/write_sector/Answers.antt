use Rattle.std.proofs.Common.{◌≡◌, ◌+◌, min, max, ap, ◌∙◌}
use Rattle.rk8e.specs.Command.{sector_of}
use Rattle.rk8e.proofs.MoveLemmas.{lent_back, written_is_pack}
use Rattle.rk8e.proofs.packs.Pack.write_sector.Goals as goal

pub invariant_of-self : goal.invariant_of-self
invariant_of-self c =
    let most : c.min-self-inside.result ≡ min (max c.self.inside.sectors (sector_of c.args.control.now + 1)) 6496 =
    c.min-self-inside.ensures
    ∙ ap (λ n. min n 6496) (c.max.ensures ∙ ap (λ n. max c.self.inside.sectors (n + 1)) c.sector-end.ensures.value) in
    written_is_pack c.args.control.now c.args.core.now c.self.inside.words.items _ c.self.inside.sectors c.min-self-inside.result
    c.self.invariant
    (lent_back c.write_words.new.words c.deref_mut.result.now c.self.inside.words.items c.self.inside.words.len c.args.control.now
    c.args.core.now c.write_words.ensures c.deref_mut.ensures.value c.deref_mut.ensures.len)
    most
