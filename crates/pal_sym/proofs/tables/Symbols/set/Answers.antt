use Rattle.std.proofs.Common.{refl}
use Rattle.pal_sym.proofs.PlaceLemmas.{found_there, found_in_gap, put_over}
use Rattle.pal_sym.proofs.TableLemmas.{set_over, set_missing}
use Rattle.pal_sym.proofs.tables.Symbols.set.Goals as goal

pub returns-in-Ok : goal.returns-in-Ok
returns-in-Ok c =
    set_over c.self.inside.entries.items _ c.args.name c.args.self.now c.self.view_is c.requires c.args.value _ _ _ c.index.result.now.1
    (found_there c.self.inside.entries.items c.self.invariant c.args.name c.in-Ok.place (rw c.deref.ensures.value at c.in-Ok.ensures.found) c.index.result.now c.index.ensures) refl refl refl (put_over c.self.inside.entries.items c.self.invariant c.args.name c.in-Ok.place (rw c.deref.ensures.value at c.in-Ok.ensures.found) _)

pub returns-in-Err : goal.returns-in-Err
returns-in-Err c = set_missing c.self.inside.entries.items _ c.args.name c.args.self.now c.self.view_is c.requires c.args.value (found_in_gap c.self.inside.entries.items c.args.name _ (rw c.deref.ensures.value at c.in-Err.ensures.absent))
