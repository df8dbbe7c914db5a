use Rattle.std.proofs.Common.{◌≡◌, ◌+◌, ◌++◌, ◌∷◌, ◌∙◌, [], ap, sym, subst, take, drop, get_or, slice_set, take-append-drop, add-one, None, Some, arith}
use Rattle.std.proofs.lemmas.List.{take_more_set}
use Rattle.std.proofs.Math.Seq.{take-suc, drop-cons}
use Rattle.std.proofs.Math.ListN.{length-set}
use Rattle.os8_dir.specs.Names.{parsed_name}
use Rattle.system_session.specs.Files.{parsed_names}
use Rattle.system_session.proofs.JobLemmas.{parsed_more, parsed_not}
use Rattle.system_session.proofs.sessions.turns.parse_names.Goals as goal

pub returns-in-None-clause-none : goal.returns-in-None-clause-none
returns-in-None-clause-none c _ =
    let from = c.args.from.now in
    let place = c.loop-place.place in
    let bytes = c.index-from-place.result in
    let parts : take place from ++ get_or from place bytes ∷ drop (place + 1) from ≡ from = ap (λ l. take place from ++ l) (ap (λ n. get_or from place bytes ∷ drop n from) (add-one place) ∙ sym (drop-cons from place bytes c.loop-place-test.true)) ∙ take-append-drop place from in
    subst (λ l. parsed_names l ≡ None) parts (parsed_not (take place from) (get_or from place bytes) (drop (place + 1) from) (ap parsed_name (sym (c.as_slice.ensures ∙ c.index-from-place.is)) ∙ sym c.parse.ensures.name ∙ c.in-None.is))

pub loop-place-preserved : goal.loop-place-preserved
loop-place-preserved c =
    let from = c.args.from.now in
    let place = c.loop-place.place in
    let bytes = c.index-from-place.result in
    let more : take place from ++ get_or from place bytes ∷ [] ≡ take (place + 1) from = sym (take-suc from place bytes c.loop-place-test.true) ∙ ap (λ n. take n from) (sym (add-one place)) in
    record {
      size = length-set c.loop-place.names place c.in-Some.name ∙ c.loop-place.invariant.size;
      names = subst (λ l. parsed_names l ≡ Some (take (place + 1) (slice_set c.loop-place.names place c.in-Some.name))) more
          (parsed_more (take place from) (take place c.loop-place.names) (get_or from place bytes) c.in-Some.name c.loop-place.invariant.names (ap parsed_name (sym (c.as_slice.ensures ∙ c.index-from-place.is)) ∙ sym c.parse.ensures.name ∙ c.in-Some.is)
          ∙ ap Some (sym (take_more_set c.loop-place.names place c.in-Some.name (omega (arith, c.loop-place-test.true, c.requires, c.loop-place.invariant.size)))));
    }
