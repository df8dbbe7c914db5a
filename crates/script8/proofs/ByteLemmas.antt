-- Known bytes that are taken in parts.
use Rattle.std.proofs.Common.{ℕ, Option, Some, None, ◌∙◌, ap, sym, refl, append_assoc, List, [], ◌++◌}
use Rattle.std.specs.Io.KnownBytes.{Consumes, Appends}

pub consumes_more : (old mid new : Option (List ℕ)) (xs ys : List ℕ) → Consumes old mid xs → Consumes mid new ys → Consumes old new (xs ++ ys)
consumes_more None mid new xs ys a b = tt
consumes_more (Some o) None new xs ys a b = absurd a
consumes_more (Some o) (Some m) None xs ys a b = absurd b
consumes_more (Some o) (Some m) (Some n) xs ys a b = a ∙ ap (λ l. xs ++ l) b ∙ sym (append_assoc xs ys n)

pub consumes_none : (known : Option (List ℕ)) → Consumes known known []
consumes_none None = tt
consumes_none (Some bytes) = refl

pub appends_more : (old mid new : Option (List ℕ)) (xs ys : List ℕ) → Appends old mid xs → Appends mid new ys → Appends old new (xs ++ ys)
appends_more None mid new xs ys a b = tt
appends_more (Some o) None new xs ys a b = absurd a
appends_more (Some o) (Some m) None xs ys a b = absurd b
appends_more (Some o) (Some m) (Some n) xs ys a b = b ∙ ap (λ l. l ++ ys) a ∙ append_assoc o xs ys
