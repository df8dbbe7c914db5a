use Rattle.std.proofs.Common.{◌≡◌, ◌+◌, ◌∷◌, ◌++◌, [], take, sym, ◌∙◌, arith, append_assoc, refl}
use Rattle.std.proofs.lemmas.List.{take_all}
use Rattle.os8_dir.proofs.TidyLemmas.{total-append, append-nil, tidy-same}
use Rattle.os8_dir.proofs.ChangeLemmas.{take-item, total-item, tidied-neat, tidied-total, tidy-more}
use Rattle.os8_dir.proofs.appending.append_all.Goals as goal

pub loop-entry-init : goal.loop-entry-init
loop-entry-init c = rw (append-nil c.args.entries.now.items) (sym (tidy-same c.args.entries.now.items c.requires.neat))

pub append-requires : goal.append-requires
append-requires c =
    let old = c.args.entries.now.items in
    let k = c.loop-entry.entry-index in
    let done = old ++ take k c.args.more.now in
    record {
      neat = tidied-neat c.loop-entry.entries.items done c.loop-entry.invariant;
      fits = omega (arith, tidied-total c.loop-entry.entries.items done c.loop-entry.invariant, total-append old (take k c.args.more.now), total-item k c.args.more.now c.entry-item.result c.loop-entry-test.true c.entry-item.is, c.requires.fits);
    }

pub loop-entry-preserved : goal.loop-entry-preserved
loop-entry-preserved c =
    let old = c.args.entries.now.items in
    let k = c.loop-entry.entry-index in
    let next : (old ++ take k c.args.more.now) ++ c.entry-item.result ∷ [] ≡ old ++ take (k + 1) c.args.more.now = rw (take-item k c.args.more.now c.entry-item.result c.loop-entry-test.true c.entry-item.is, append_assoc) refl in
    c.in_ok-append.ensures ∙ tidy-more c.loop-entry.entries.items (old ++ take k c.args.more.now) (c.entry-item.result ∷ []) (old ++ take (k + 1) c.args.more.now) c.loop-entry.invariant next

pub returns : goal.returns
returns c = c.loop-entry.invariant ∙ rw (take_all c.loop-entry.entry-index c.args.more.now c.loop-entry-test.false) refl
