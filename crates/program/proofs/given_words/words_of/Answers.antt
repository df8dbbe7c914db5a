use Rattle.std.proofs.Common.{◌≡◌, ◌+◌, ℕ, List, [], ◌∷◌, arith, length, map, String}
use Rattle.std.proofs.lemmas.List.{length-map, map-append}
use Rattle.std.proofs.lemmas.Result.{err_from_is_err_and}
use Rattle.std.specs.Global.{Global}
use Rattle.program.proofs.WordLemmas.{one_more}
use Rattle.program.proofs.given_words.words_of.Goals as goal

pub returns-in_err-word : goal.returns-in_err-word
returns-in_err-word g c =
    let p = err_from_is_err_and c.from_residual.result c.from_residual.ensures.1 in
    let count : c.len.result ≡ length (map (λ (word : String Global). word.bytes.items) c.loop-words.words.items) =
    omega (arith, c.len.ensures, length-map c.loop-words.words.items (λ (word : String Global). word.bytes.items))
    in
    rw (p.1, p.2) (map (λ (word : String Global). word.bytes.items) c.loop-words.words.items, g.H.Host.history c.loop-words.host, c.loop-words.invariant, rw count at c.in_err-word.ensures)

pub loop-words-preserved : goal.loop-words-preserved
loop-words-preserved g c =
    let count : c.len.result ≡ 0 + length (map (λ (word : String Global). word.bytes.items) c.loop-words.words.items) =
    omega (arith, c.len.ensures, length-map c.loop-words.words.items (λ (word : String Global). word.bytes.items))
    in
    rw (c.in_ok-add_word.ensures, map-append (λ (word : String Global). word.bytes.items) c.loop-words.words.items (c.in-Some.word ∷ []))
    (one_more 0 (map (λ (word : String Global). word.bytes.items) c.loop-words.words.items) c.in-Some.word.bytes.items c.len.result (g.H.Host.history c.args.host.now)
    (g.H.Host.history c.loop-words.host) (g.H.Host.history c.next_word.new.host) count c.loop-words.invariant (rw c.in-Some.is at c.in_ok-word.ensures))
