use Rattle.std.proofs.Common.{ℕ, ◌+◌, ◌≤◌, arith}
use Rattle.std.specs.Prelude.{IfSome}
use Rattle.os8_dir.specs.Entries.{total}
use Rattle.os8_dir.proofs.CountLemmas.{fitting-inside, if_some-map}
use Rattle.os8_dir.proofs.directory.Directory.fitting.Goals as goal

pub returns-clause-low : goal.returns-clause-low
returns-clause-low c =
    let d = c.self.inside in
    let es = d.entries.items in
    let within = λ (room : ℕ × ℕ). (d.first ≤ room.0) × (room.0 + room.1 ≤ d.first + total es) in
    let inside : IfSome c.fitting.result within = rw (c.fitting.ensures, c.as_slice.ensures.value) (fitting-inside c.args.wish d.first es) in
    rw (← c.self.view_is) (if_some-map c.fitting.result within (λ room. d.first ≤ room.0) inside (λ room holds. holds.0))

pub returns-clause-high : goal.returns-clause-high
returns-clause-high c =
    let d = c.self.inside in
    let es = d.entries.items in
    let within = λ (room : ℕ × ℕ). (d.first ≤ room.0) × (room.0 + room.1 ≤ d.first + total es) in
    let inside : IfSome c.fitting.result within = rw (c.fitting.ensures, c.as_slice.ensures.value) (fitting-inside c.args.wish d.first es) in
    if_some-map c.fitting.result within (λ room. room.0 + room.1 ≤ 4095) inside (λ room holds. omega (arith, holds.1, c.self.invariant.ends, c.self.invariant.most))
