use Rattle.std.proofs.Common.{refl}
use Rattle.source_listing.proofs.RowLemmas.{word_put}
use Rattle.source_listing.proofs.rows.put_word.Goals as goal

pub returns : goal.returns
returns c =
    word_put c.args.text.now.items c.push.new.self.items c.extend_from_slice.new.self.items c.extend_from_slice-2.new.self.items c.extend_from_slice-3.new.self.items
    _ c.octal4.result _ c.octal4-2.result c.field.result c.address.result c.args.cell c.args.word c.in_ok-push.ensures.items c.in_ok-extend_from_slice.ensures.items
    c.in_ok-extend_from_slice-2.ensures.items c.in_ok-extend_from_slice-3.ensures.items refl c.field.ensures.value c.octal4.ensures.digits c.address.ensures.value refl
    c.octal4-2.ensures.digits
