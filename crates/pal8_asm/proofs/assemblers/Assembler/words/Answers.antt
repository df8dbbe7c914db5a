use Rattle.std.proofs.Common.{◌≡◌, Ok, Err, subst}
use Rattle.pal8_grammar.specs.SourceNames.{own_value}
use Rattle.pal8_asm.specs.Sources.{at_place}
use Rattle.pal8_asm.specs.Assembling.{IsMade, MakesWords}
use Rattle.pal8_places.specs.Passing.{is_late}
use Rattle.pal8_asm.specs.Tapes.{without_clash, words_of_entries, nothing_made}
use Rattle.pal8_asm.proofs.SourceLemmas.{words_clash, words_clear, words_fail}
use Rattle.pal8_asm.proofs.assemblers.Assembler.words.Goals as goal

pub returns-in-Err : goal.returns-in-Err
returns-in-Err c =
    subst (λ a. MakesWords (without_clash (words_of_entries (own_value a.names.table) (is_late a.names) a.entries)) (Err c.in-Err.fault)) c.self.view_is
    (words_fail _ c.in-Err.fault c.make.new.made (c.in-Err.ensures {u = tt} (Ok nothing_made) (c.in_ok-made.ensures {u = tt})))

pub returns-in-Some : goal.returns-in-Some
returns-in-Some c =
    subst (λ a. without_clash (words_of_entries (own_value a.names.table) (is_late a.names) a.entries) ≡ Err (at_place c.in-Some.fault.place c.in-Some.fault.code)) c.self.view_is
    (words_clash _ c.make.new.made c.in-Some.fault (c.in-Ok.ensures {u = tt} (Ok nothing_made) (c.in_ok-made.ensures {u = tt})) c.in-Some.is)

pub returns-in-None : goal.returns-in-None
returns-in-None c =
    subst (λ a. IsMade (without_clash (words_of_entries (own_value a.names.table) (is_late a.names) a.entries)) c.make.new.made.pools c.make.new.made.pairs.items) c.self.view_is
    (words_clear _ c.make.new.made (c.in-Ok.ensures {u = tt} (Ok nothing_made) (c.in_ok-made.ensures {u = tt})) c.in-None.is)
