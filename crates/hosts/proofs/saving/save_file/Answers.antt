use Rattle.std.proofs.Common.{◌≡◌, rules, false}
use Rattle.hosts.specs.Place.{about}
use Rattle.hosts.specs.Saving.{StaysAsItWas}
use Rattle.hosts.specs.Streams.{before_told, may_replace}
use Rattle.hosts.proofs.After.{file_after, noted_after}
use Rattle.hosts.proofs.saving.save_file.Goals as goal

pub returns-in-Mount-clause-saves : goal.returns-in-Mount-clause-saves
returns-in-Mount-clause-saves g c =
    let path = c.args.path.now in
    let history = g.H.Host.history in
    let before = about path (history c.args.host.now) in
    let between = about path (history c.save.new.host) in
    let unchanged : about path (history c.is_alone.new.self) ≡ before = search rules in
    let same : StaysAsItWas before between = rw unchanged at c.in-Err-save.ensures.saves in
    let no_more : may_replace (history c.save_over-in-Mount.new.host) ≡ false = search rules in
    rw no_more (file_after c.save_over-in-Mount.result c.args.bytes.now before between (about path (history c.save_over-in-Mount.new.host)) same c.save_over-in-Mount.ensures.saves)

pub returns-in-Mount-clause-noted_first : goal.returns-in-Mount-clause-noted_first
returns-in-Mount-clause-noted_first g c =
    let path = c.args.path.now in
    let history = g.H.Host.history in
    let before = about path (history c.args.host.now) in
    let between = about path (history c.save.new.host) in
    let unchanged : about path (history c.is_alone.new.self) ≡ before = search rules in
    let same : StaysAsItWas before between = rw unchanged at c.in-Err-save.ensures.saves in
    let no_more : may_replace (history c.save_over-in-Mount.new.host) ≡ false = search rules in
    rw no_more (noted_after c.args.note.now before between (about path (before_told (history c.save_over-in-Mount.new.host))) same c.save_over-in-Mount.ensures.noted_first)
