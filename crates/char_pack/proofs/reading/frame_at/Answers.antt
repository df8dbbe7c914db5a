use Rattle.std.proofs.Common.{◌≡◌, ◌+◌, ◌*◌, ◌/◌, ◌%◌, get_or, ap, sym, ◌∙◌, arith}
use Rattle.std.proofs.lemmas.List.{get_or_read}
use Rattle.char_pack.proofs.FrameLemmas.{frame_of_pair}
use Rattle.char_pack.proofs.reading.frame_at.Goals as goal

pub returns-in-0 : goal.returns-in-0
returns-in-0 c =
    let words = c.args.words.now in
    let k = c.args.index / 3 in
    let first : c.get-first.result ≡ get_or words (2 * k) 0 =
    c.get-first.ensures.value ∙ get_or_read words (2 * k) _ (omega arith) c.index-words-pair.is 0 in
    ap (λ n. n % 256) first ∙ sym (frame_of_pair words c.args.index 0 (omega arith) c.requires)

pub returns-in-1 : goal.returns-in-1
returns-in-1 c =
    let words = c.args.words.now in
    let k = c.args.index / 3 in
    let second : c.get-second.result ≡ get_or words (2 * k + 1) 0 =
    c.get-second.ensures.value ∙ get_or_read words (2 * k + 1) _ (omega arith) c.index-words-pair-2.is 0 in
    ap (λ n. n % 256) second ∙ sym (frame_of_pair words c.args.index 1 (omega arith) c.requires)

pub returns-in_default : goal.returns-in_default
returns-in_default c =
    let words = c.args.words.now in
    let k = c.args.index / 3 in
    let first : c.get-first.result ≡ get_or words (2 * k) 0 =
    c.get-first.ensures.value ∙ get_or_read words (2 * k) _ (omega arith) c.index-words-pair.is 0 in
    let second : c.get-second.result ≡ get_or words (2 * k + 1) 0 =
    c.get-second.ensures.value ∙ get_or_read words (2 * k + 1) _ (omega arith) c.index-words-pair-2.is 0 in
    ap (λ n. 16 * (n / 256) + c.get-second.result / 256) first
    ∙ ap (λ n. 16 * (get_or words (2 * k) 0 / 256) + n / 256) second
    ∙ sym (frame_of_pair words c.args.index 2 (omega arith) c.requires)
