use Rattle.std.proofs.Common.{◌≡◌, ◌+◌, ◌-◌, ◌<◌, true, slice_index_or, slice_set, refl, sym, subst, ◌∙◌, arith}
use Rattle.cpu8.specs.State.{with_core}
use Rattle.cpu8.specs.Go.{after}
use Rattle.cpu8.specs.Fetches.{AddsFetches}
use Rattle.cpu8.specs.Unasked.{AreUnasked}
use Rattle.cpu8.proofs.FetchLemmas.{adds-none, adds-next, adds-room}
use Rattle.cpu8.proofs.GoLemmas.{after-none}
use Rattle.cpu8.proofs.LeftLemmas.{none-made, one-more}
use Rattle.cpu8.proofs.QuietLemmas.{after-quiet, stays-quiet}
use Rattle.cpu8.proofs.UnaskedLemmas.{none-unasked, unasked-next}
use Rattle.cpu8.proofs.processors.Processor.count_fetches.Goals as goal

pub loop-left-init : goal.loop-left-init
loop-left-init c =
    let s = with_core c.args.self.now c.args.core.now in
    let none = none-made c.args.n in record {
      state = subst (λ k. s ≡ after true k s) none (sym (after-none true s));
      quiet = c.requires.quiet;
      unasked = subst (λ k. AreUnasked s k) none (none-unasked s);
      interrupts = refl;
      adds = subst (λ k. AddsFetches k s c.args.counts.now c.args.counts.now) none (adds-none s c.args.counts.now);
      within = omega arith;
    }

pub overflow_add-counts : goal.overflow_add-counts
overflow_add-counts c =
    let s = with_core c.args.self.now c.args.core.now in
    let some = c.loop-left-test.true in
    let within = c.loop-left.invariant.within in
    let less : c.args.n - c.loop-left.left < c.args.n = omega (arith, some, within) in
    let room =
    adds-room (c.args.n - c.loop-left.left) c.args.n s c.args.counts.now c.loop-left.counts c.index.result c.loop-left.invariant.adds
    c.requires.room less c.index.ensures.range in
    omega (arith, room)

pub loop-left-preserved : goal.loop-left-preserved
loop-left-preserved c =
    let s = with_core c.args.self.now c.args.core.now in
    let old = with_core c.loop-left.self c.loop-left.core in
    let new = with_core c.step_quietly.new.self c.step_quietly.new.core in
    let made = c.args.n - c.loop-left.left in
    let i = c.loop-left.invariant in
    let within = i.within in
    let more = one-more c.args.n c.loop-left.left c.loop-left-test.true within in
    let does = c.if-not-step_quietly.ensures.does in
    let counts = slice_set c.loop-left.counts c.index.result (slice_index_or c.loop-left.counts c.index.result 0 + 1) in
    let adds =
    adds-next made s old new c.index.result c.args.counts.now c.loop-left.counts c.requires.size i.adds i.state i.quiet does
    (c.index.ensures.value ∙ c.next_cell.ensures.value) c.index.ensures.range in record {
      state = subst (λ k. new ≡ after true k s) more (after-quiet true made s old new i.state i.quiet does);
      quiet = stays-quiet true old new i.quiet does.stays;
      unasked = subst (λ k. AreUnasked s k) more
          (unasked-next made s old new i.state i.quiet (c.if-not-step_quietly.ensures.asks refl refl) (c.if-not-step_quietly.ensures.there refl refl) i.interrupts does i.unasked);
      interrupts = does.stays.interrupts_on ∙ i.interrupts;
      adds = subst (λ k. AddsFetches k s c.args.counts.now counts) more adds;
      within = omega (arith, within);
    }
