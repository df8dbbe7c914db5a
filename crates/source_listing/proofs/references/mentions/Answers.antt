use Rattle.std.proofs.Common.{ℕ, take, get_or, ap, sym, subst, ◌∙◌}
use Rattle.pal_lex.specs.Text.{text_of}
use Rattle.pal_lex.specs.Statements.{statements}
use Rattle.pal_lex.specs.Reading.{HasRead}
use Rattle.pal_asm.specs.Faults.{first_order}
use Rattle.source_listing.specs.References as spec
use Rattle.source_listing.specs.SpotSteps.{no_spot}
use Rattle.source_listing.specs.declared.spots.Spot.{Spot}
use Rattle.source_listing.proofs.ReferenceLemmas.{named_more}
use Rattle.source_listing.proofs.references.mentions.Goals as goal

pub loop-taken-preserved : goal.loop-taken-preserved
loop-taken-preserved c =
    let text = c.args.text.now in
    let taken = c.loop-taken.taken in
    let spots : ℕ → Spot = λ at. get_or c.args.spots.now at no_spot in
    let stands = c.loop-taken.invariant in
    let grows = c.fine_by_bytes.ensures text taken c.loop-taken-test.true in
    let took = c.in_ok-take_byte.ensures.takes (text_of (take taken text)) stands.read stands.may (sym (ap (λ t. first_order (statements t)) grows.0) ∙ grows.1 c.requires) in
    record {
      names = named_more spots text taken c.spot_at-spot.result c.loop-taken.found.items c.take_byte.new.found.items c.loop-taken-test.true c.spot_at-spot.ensures took.0 stands.names
          ∙ sym (ap (spec.mentions spots) grows.0);
      read = subst (HasRead c.take_byte.new.lexer 0) (sym grows.0) took.1;
      may = c.take_byte.ensures.setting ∙ stands.may;
    }
