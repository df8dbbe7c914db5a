-- What one more item does to what is kept of the items.
use Rattle.std.proofs.Common.{◌≡◌, ℕ, ◌+◌, ◌%◌, ◌<◌, refl, arith, Some, None, List, [], ◌∷◌, ◌++◌}
use Rattle.bin_tape.specs.Items.{Item, Leader, Field, Origin, Word, IsPrefix, address_after, words_of, words_but_last}
use Rattle.bin_tape.specs.Prefix.{IsLast}
use Rattle.bin_tape.specs.declared.prefixes.LastWord.{LastWord}

pub address_low : (items : List Item) → IsPrefix items → address_after items < 4096
address_low [] h = omega arith
address_low (Leader f ∷ older) h = address_low older h.2
address_low (Field n ∷ older) h = address_low older h.1
address_low (Origin high low ∷ older) h = omega (arith, h.0, h.1)
address_low (Word high low ∷ older) h = omega arith

-- a sum modulo 4096 of what is modulo 4096
pub sum_low : (a b : ℕ) → (a % 4096 + b % 4096) % 4096 ≡ (a + b) % 4096
sum_low a b = omega arith

-- with no last word there is none
pub words_none : (items : List Item) → IsLast None items → words_of items ≡ words_but_last items
words_none [] h = refl
words_none (Leader f ∷ older) h = words_none older h
words_none (Field n ∷ older) h = words_none older h
words_none (Origin high low ∷ older) h = words_none older h
words_none (Word high low ∷ older) h = absurd h

-- the words are those without the last word, and the last word
pub words_some : (items : List Item) (last : LastWord) → IsLast (Some last) items → words_of items ≡ words_but_last items ++ (last.cell, last.word) ∷ []
words_some [] last h = absurd h
words_some (Leader f ∷ older) last h = words_some older last h
words_some (Field n ∷ older) last h = words_some older last h
words_some (Origin high low ∷ older) last h = words_some older last h
words_some (Word high low ∷ older) last h = cc
