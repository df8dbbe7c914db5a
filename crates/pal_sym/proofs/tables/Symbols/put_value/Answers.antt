use Rattle.std.proofs.Common.{refl}
use Rattle.std.proofs.lemmas.Result.{err_from_is_err_and}
use Rattle.pal_sym.proofs.PlaceLemmas.{found_there, found_in_gap, put_over}
use Rattle.pal_sym.proofs.TableLemmas.{tag_kept, value_over, value_added, not_added}
use Rattle.pal_sym.proofs.tables.Symbols.put_value.Goals as goal

pub returns-then-known : goal.returns-then-known
returns-then-known c =
    tag_kept c.self.inside.entries.items _ c.args.name c.args.self.now c.self.view_is c.requires c.index.result.now.1 c.args.value c.unless_other.result
    (found_there c.self.inside.entries.items c.self.invariant c.args.name c.in-Ok.place (rw c.deref.ensures.value at c.in-Ok.ensures.found) c.index.result.now c.index.ensures) c.if-known.true c.unless_other.ensures

pub returns-else-known : goal.returns-else-known
returns-else-known c =
    value_over c.self.inside.entries.items _ c.args.name c.args.self.now c.self.view_is c.requires c.args.value _ _ _ c.index.result.now.1
    (found_there c.self.inside.entries.items c.self.invariant c.args.name c.in-Ok.place (rw c.deref.ensures.value at c.in-Ok.ensures.found) c.index.result.now c.index.ensures) c.if-known.false refl refl refl (put_over c.self.inside.entries.items c.self.invariant c.args.name c.in-Ok.place (rw c.deref.ensures.value at c.in-Ok.ensures.found) _)

pub returns-in_ok-insert-in-Err : goal.returns-in_ok-insert-in-Err
returns-in_ok-insert-in-Err c =
    value_added c.self.inside.entries.items _ c.args.name c.args.self.now c.self.view_is c.requires c.args.value c.insert.new.entries.items _ _
    (found_in_gap c.self.inside.entries.items c.args.name c.in-Err.place (rw c.deref.ensures.value at c.in-Err.ensures.absent)) refl refl c.in_ok-insert-in-Err.ensures.1 c.in_ok-insert-in-Err.ensures.0

pub returns-in_err-insert-in-Err : goal.returns-in_err-insert-in-Err
returns-in_err-insert-in-Err c =
    let p = err_from_is_err_and c.from_residual.result c.from_residual.ensures.1 in
    rw (p.1, p.2) (not_added c.self.inside.entries.items _ c.args.name c.args.self.now c.self.view_is c.requires c.insert.new.entries.items _
    (found_in_gap c.self.inside.entries.items c.args.name c.in-Err.place (rw c.deref.ensures.value at c.in-Err.ensures.absent)) c.in_err-insert-in-Err.ensures)
