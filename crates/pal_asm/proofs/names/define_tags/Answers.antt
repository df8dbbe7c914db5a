use Rattle.std.proofs.Common.{◌≡◌, ◌∙◌, ℕ, true, is_ok, Result, Ok, Err, arith}
use Rattle.pal_sym.specs.SymbolTable.{SymbolTable}
use Rattle.pal_sym.specs.Values.{DefinesTag}
use Rattle.pal_sym.specs.declared.faults.SymFault.{SymFault}
use Rattle.pal_asm.proofs.NameLemmas.{tags_left}
use Rattle.pal_asm.proofs.names.define_tags.Goals as goal

defined : (name value : ℕ) (old new : SymbolTable) (r : Result (Unit {0}) SymFault) → true ≡ is_ok r → DefinesTag name value old new r → DefinesTag name value old new (Ok tt)
defined name value old new (Ok nothing) is defines = defines
defined name value old new (Err fault) is defines = cc

pub loop-rest-preserved : goal.loop-rest-preserved
loop-rest-preserved c =
    let left = tags_left c.loop-rest.rest.now c.tag-item.result c.from_number.result c.args.location c.in_ok-place.place c.loop-rest.symbols c.define_tag.new.self
    c.in-len1-up.len_at_least c.tag-item.is (c.from_number.ensures ∙ c.number.ensures) c.in_ok-place.ensures.value
    (defined _ _ _ _ c.define_tag.result c.in_ok-map_err.ensures.variant c.define_tag.ensures) in
    record {
      values = λ n. left.values n ∙ c.loop-rest.invariant.values n;
      fixed = λ n. left.fixed n ∙ c.loop-rest.invariant.fixed n;
      fault = left.fault ∙ c.loop-rest.invariant.fault;
      enough = omega (arith, left.less, left.room, c.loop-rest.invariant.enough);
      room = omega (arith, left.less, left.room, c.loop-rest.invariant.room);
    }
