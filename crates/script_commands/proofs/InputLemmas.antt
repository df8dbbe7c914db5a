-- How many bytes a reader gave.
use Rattle.std.proofs.Common.{◌≡◌, ◌∙◌, ◌<◌, ◌≤◌, ◌+◌, ◌-◌, ◌^◌, ◌++◌, ℕ, min, Option, None, Some, List, [], length, take, refl, ap, sym, arith}
use Rattle.std.proofs.Math.Nat.{min-eq_left}
use Rattle.std.proofs.lemmas.List.{append_assoc, length-append, length-take}
use Rattle.refusals.specs.declared.faults.TheConstants.{MOST}
use Rattle.std.specs.Io.KnownBytes.{Consumes, Keeps}
use Rattle.std.proofs.KnownBytes.{Consumes-kept}
use Rattle.script8.specs.Reading.{TakesBytes}
use Rattle.script_commands.specs.InputSteps.{HasGiven}

pub given_none : (start now : Option (List ℕ)) → now ≡ start → HasGiven start now 0
given_none None now is = record { bytes = []; taken = tt; counted = refl }
given_none (Some xs) now is = record { bytes = []; taken = rw is refl; counted = refl }

joined_bytes : (start mid new : Option (List ℕ)) (xs ys : List ℕ) → Consumes start mid xs → Consumes mid new ys → Consumes start new (xs ++ ys)
joined_bytes None mid new xs ys a b = tt
joined_bytes (Some s) None new xs ys a b = absurd a
joined_bytes (Some s) (Some m) None xs ys a b = absurd b
joined_bytes (Some s) (Some m) (Some n) xs ys a b = a ∙ (ap (λ (t : List ℕ). xs ++ t) b ∙ sym (append_assoc xs ys n))

least : (l m n : ℕ) → min (min l m + n) m ≡ min (l + n) m
least l m n = omega arith

-- a read gives more
pub given_more : (start old new : Option (List ℕ)) (count n : ℕ) (buf : List ℕ) (sum : ℕ) → HasGiven start old count → n ≤ length buf → Consumes old new (take n buf) → sum ≡ min (count + n) (2 ^ 64 - 1) → HasGiven start new sum
given_more start old new count n buf sum g bound taken is = record { bytes = g.bytes ++ take n buf; taken = joined_bytes start old new g.bytes (take n buf) g.taken taken; counted = is ∙ counted } where
  size : length (g.bytes ++ take n buf) ≡ length g.bytes + n
  size = length-append g.bytes (take n buf) ∙ ap (λ (k : ℕ). length g.bytes + k) (length-take n buf ∙ min-eq_left bound)

  counted : min (count + n) (2 ^ 64 - 1) ≡ min (length (g.bytes ++ take n buf)) (2 ^ 64 - 1)
  counted = rw (size, g.counted) (least (length g.bytes) (2 ^ 64 - 1) n)

-- a read that fails gives none
pub given_kept : (start old new : Option (List ℕ)) (count : ℕ) → HasGiven start old count → Keeps old new → HasGiven start new count
given_kept start old new count g kept = record { bytes = g.bytes; taken = Consumes-kept start old new g.bytes g.taken kept; counted = g.counted }

-- a count that is too large is one of as many bytes
pub taken_more : (start now : Option (List ℕ)) (count : ℕ) → HasGiven start now count → MOST < count → (n : ℕ) × TakesBytes start now n × (MOST < n)
taken_more start now count g more = (length g.bytes, record { bytes = g.bytes; taken = g.taken; count_is = refl }, within) where
  most : MOST < min (length g.bytes) (2 ^ 64 - 1)
  most = rw (sym g.counted) more

  within : MOST < length g.bytes
  within = omega (arith, most)

-- one that isn't is one of no more
pub taken_within : (start now : Option (List ℕ)) (count : ℕ) → HasGiven start now count → count ≤ MOST → (n : ℕ) × TakesBytes start now n × (n ≤ MOST)
taken_within start now count g few = (length g.bytes, record { bytes = g.bytes; taken = g.taken; count_is = refl }, within) where
  fewer : min (length g.bytes) (2 ^ 64 - 1) ≤ 16777216
  fewer = rw (sym g.counted) few

  within : length g.bytes ≤ 16777216
  within = omega (arith, fewer)
