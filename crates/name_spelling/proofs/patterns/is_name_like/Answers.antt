use Rattle.std.proofs.Common.{ap, get_or, List, ℕ, [], ◌∷◌}
use Rattle.name_spelling.proofs.PatternLemmas.{names-differ, names-match}
use Rattle.name_spelling.proofs.patterns.is_name_like.Goals as goal

pub returns-then-is_stem_like : goal.returns-then-is_stem_like
returns-then-is_stem_like c =
    names-match c.args.pattern.now c.split_at.result.0.now c.split_at.result.1.now c.args.name c.dot_in.result
    (get_or c.words.result 0 c.index-words-0.result) (get_or c.words.result 1 c.index-words-1.result) (get_or c.words.result 2 c.index-words-2.result) (get_or c.words.result 3 c.index-words-3.result)
    c.is_stem_like.result c.is_extension_like.result c.dot_in.ensures.place c.split_at.ensures.front c.split_at.ensures.back
    (ap (λ (l : List ℕ). get_or l 0 c.index-words-0.result ∷ get_or l 1 c.index-words-1.result ∷ get_or l 2 c.index-words-2.result ∷ get_or l 3 c.index-words-3.result ∷ []) c.words.ensures.words)
    c.is_stem_like.ensures c.if-is_stem_like.true c.is_extension_like.ensures

pub returns-else-is_stem_like : goal.returns-else-is_stem_like
returns-else-is_stem_like c =
    names-differ c.args.pattern.now c.split_at.result.0.now c.split_at.result.1.now c.args.name c.dot_in.result
    (get_or c.words.result 0 c.index-words-0.result) (get_or c.words.result 1 c.index-words-1.result) (get_or c.words.result 2 c.index-words-2.result) (get_or c.words.result 3 c.index-words-3.result)
    c.is_stem_like.result c.dot_in.ensures.place c.split_at.ensures.front c.split_at.ensures.back
    (ap (λ (l : List ℕ). get_or l 0 c.index-words-0.result ∷ get_or l 1 c.index-words-1.result ∷ get_or l 2 c.index-words-2.result ∷ get_or l 3 c.index-words-3.result ∷ []) c.words.ensures.words)
    c.is_stem_like.ensures c.if-is_stem_like.false
