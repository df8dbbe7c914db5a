use Rattle.std.proofs.Common.{◌≡◌, ◌≤◌, unwrap_or, arith, sym, subst, ◌∙◌}
use Rattle.rk8e.specs.Time.{least_time}
use Rattle.pdp8e.specs.State.{Pdp8e}
use Rattle.pdp8e.specs.Lasting.{Lasts}
use Rattle.pdp8e.proofs.LastLemmas.{quiet_lasts, disk_lasts, least_lasts}
use Rattle.pdp8e.proofs.machines.Machine.time_left.Goals as goal

pub returns-then-self : goal.returns-then-self
returns-then-self c = λ count is.
    let i = c.self.inside in
    subst (λ (m : Pdp8e). Lasts m count) c.self.view_is
    (quiet_lasts (record { processor = i.processor; disk = i.disk; devices = i.devices }) count (sym c.self.invariant.1 ∙ c.if-self.true))

pub returns-in-Some : goal.returns-in-Some
returns-in-Some c = λ count is.
    let i = c.self.inside in
    let range = c.in-Some.ensures.range count is in
    let least : c.least_time.result ≡ least_time i.disk = c.least_time.ensures in
    let most : c.unwrap_or-most.result ≡ unwrap_or c.least_time.result 4294967295 = c.unwrap_or-most.ensures in
    let le : count ≤ unwrap_or (least_time i.disk) 4294967295 =
    subst (λ x. count ≤ unwrap_or x 4294967295) least (omega (arith, range, c.from.ensures, most)) in
    subst (λ (m : Pdp8e). Lasts m count) c.self.view_is (record {
      disk = disk_lasts i.disk count (least_lasts (least_time i.disk) 4294967295 count le);
      devices = c.in-Some.ensures.lasts count is;
    })
