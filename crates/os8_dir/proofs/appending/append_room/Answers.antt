use Rattle.std.proofs.Common.{◌≡◌, ◌<◌, ◌∙◌, length, ap, sym, arith, vec_len}
use Rattle.std.proofs.lemmas.Result.{on_ok_weaker}
use Rattle.os8_dir.specs.Steps.{last_room}
use Rattle.os8_dir.specs.declared.entries.DirEntry.TheVariants.{Empty}
use Rattle.os8_dir.proofs.TidyLemmas.{tidy-none, last_room-total, tidy-append-room, tidy-append-file}
use Rattle.os8_dir.proofs.appending.append_room.Goals as goal

pub returns-then-length-eq0 : goal.returns-then-length-eq0
returns-then-length-eq0 c = sym (tidy-none _ (Empty c.args.length) c.if-length-eq0.true c.requires.neat)

pub overflow_add-joined : goal.overflow_add-joined
overflow_add-joined c =
    let room : c.last_room-before.result ≡ last_room c.args.entries.now.items = c.last_room-before.ensures ∙ ap last_room c.as_slice.ensures.value in
    omega (arith, room, last_room-total c.args.entries.now.items)

pub returns-then-before-gt0 : goal.returns-then-before-gt0
returns-then-before-gt0 c =
    let es = c.args.entries.now.items in
    let room : c.last_room-before.result ≡ last_room es = c.last_room-before.ensures ∙ ap last_room c.as_slice.ensures.value in
    let some : 0 < last_room es = omega arith in
    let len : vec_len c.args.entries.now ≡ length es = sym c.as_slice.ensures.len ∙ ap length c.as_slice.ensures.value in
    on_ok_weaker c.push_item.result (λ is. is ∙ rw (c.drop_last.ensures, len, room) (sym (tidy-append-room es c.args.length (omega arith) c.requires.neat some))) c.push_item.ensures

pub returns : goal.returns
returns c =
    let es = c.args.entries.now.items in
    let room : c.last_room-before.result ≡ last_room es = c.last_room-before.ensures ∙ ap last_room c.as_slice.ensures.value in
    let none : last_room es ≡ 0 = omega arith in
    on_ok_weaker c.push_item-2.result (λ is. is ∙ sym (tidy-append-file es c.args.length (omega arith) c.requires.neat none)) c.push_item-2.ensures
