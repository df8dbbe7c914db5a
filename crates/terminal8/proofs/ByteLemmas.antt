-- Known bytes that are taken, or written, in parts, some of them ahead, or on paper.
use Rattle.std.proofs.Common.{◌≡◌, ℕ, Option, Some, None, Ok, Err, List, [], ◌∷◌, ◌++◌, ◌∙◌, ap, sym, refl, subst, append_assoc, append-nil}
use Rattle.std.specs.Io.KnownBytes.{Consumes, Appends, IsAtEnd}
use Rattle.terminal8.specs.KeyReads.{Strikes}
use Rattle.terminal8.specs.Papers.{Passes, Holds}
use Rattle.terminal8.specs.RunSteps.{GivesByte, ReadsByte}
use Rattle.terminal8.specs.declared.outcomes.TerminalFault.{TerminalFault}
use Rattle.terminal8.specs.declared.outcomes.TerminalFault.TheVariants.{Reader, Writer}

pub consumes_more : (old mid new : Option (List ℕ)) (xs ys : List ℕ) → Consumes old mid xs → Consumes mid new ys → Consumes old new (xs ++ ys)
consumes_more None mid new xs ys a b = tt
consumes_more (Some o) None new xs ys a b = absurd a
consumes_more (Some o) (Some m) None xs ys a b = absurd b
consumes_more (Some o) (Some m) (Some n) xs ys a b = a ∙ ap (λ l. xs ++ l) b ∙ sym (append_assoc xs ys n)

pub consumes_none : (known : Option (List ℕ)) → Consumes known known []
consumes_none None = tt
consumes_none (Some bytes) = refl

pub appends_more : (old mid new : Option (List ℕ)) (xs ys : List ℕ) → Appends old mid xs → Appends mid new ys → Appends old new (xs ++ ys)
appends_more None mid new xs ys a b = tt
appends_more (Some o) None new xs ys a b = absurd a
appends_more (Some o) (Some m) None xs ys a b = absurd b
appends_more (Some o) (Some m) (Some n) xs ys a b = b ∙ ap (λ l. l ++ ys) a ∙ append_assoc o xs ys

pub appends_none : (known : Option (List ℕ)) → Appends known known []
appends_none None = tt
appends_none (Some bytes) = sym (append-nil bytes)

-- ## Paper

pub passes-none : (w : Option (List ℕ)) (p : List ℕ) → Passes w w p p []
passes-none w p = record { handed = []; written = appends_none w; in_order = sym (append-nil p) }

pub passes-more : (w w' w'' : Option (List ℕ)) (p p' p'' xs ys : List ℕ) → Passes w w' p p' xs → Passes w' w'' p' p'' ys → Passes w w'' p p'' (xs ++ ys)
passes-more w w' w'' p p' p'' xs ys a b = record {
  handed = a.handed ++ b.handed;
  written = appends_more w w' w'' a.handed b.handed a.written b.written;
  in_order =
      append_assoc a.handed b.handed p''
      ∙ ap (λ l. a.handed ++ l) b.in_order
      ∙ sym (append_assoc a.handed p' ys)
      ∙ ap (λ l. l ++ ys) a.in_order
      ∙ append_assoc p xs ys;
}

-- all that was on the paper is handed on
pub passes-all : (w w' w'' : Option (List ℕ)) (p p' : List ℕ) → Appends w w' p → p' ≡ [] → Appends w' w'' [] → Passes w w'' p p' []
passes-all w w' w'' p p' all is none = record {
  handed = p;
  written = subst (λ l. Appends w w'' l) (append-nil p) (appends_more w w' w'' p [] all none);
  in_order = ap (λ l. p ++ l) is;
}

pub passed : (w w' : Option (List ℕ)) (p' printed : List ℕ) → Passes w w' [] p' printed → p' ≡ [] → Appends w w' printed
passed w w' p' printed a is =
    subst (λ l. Appends w w' l) (sym (append-nil a.handed) ∙ ap (λ l. a.handed ++ l) (sym is) ∙ a.in_order) a.written

pub holds-err : (A B : Type 0) (w w' w'' : Option (List ℕ)) (p p' p'' : List ℕ) (fault : TerminalFault) → Passes w w' p p' []
    → Holds {A = A} w' w'' p' p'' (Err fault) → Holds {A = B} w w'' p p'' (Err fault)
holds-err A B w w' w'' p p' p'' Reader a b = passes-more w w' w'' p p' p'' [] [] a b
holds-err A B w w' w'' p p' p'' Writer a b = tt

-- ## Bytes ahead

pub strikes-none : (ahead : List ℕ) (r : Option (List ℕ)) → Strikes ahead ahead r r []
strikes-none ahead r = record { read = []; taken = consumes_none r; in_order = append-nil ahead }

pub strikes-more : (a a' a'' : List ℕ) (r r' r'' : Option (List ℕ)) (xs ys : List ℕ) → Strikes a a' r r' xs → Strikes a' a'' r' r'' ys
    → Strikes a a'' r r'' (xs ++ ys)
strikes-more a a' a'' r r' r'' xs ys s t = record {
  read = s.read ++ t.read;
  taken = consumes_more r r' r'' s.read t.read s.taken t.taken;
  in_order =
      sym (append_assoc a s.read t.read)
      ∙ ap (λ l. l ++ t.read) s.in_order
      ∙ append_assoc xs a' t.read
      ∙ ap (λ l. xs ++ l) t.in_order
      ∙ sym (append_assoc xs ys a'');
}

-- the next of the bytes ahead
pub gives-ahead : (ahead ahead' : List ℕ) (r : Option (List ℕ)) (byte : ℕ) → ahead ≡ byte ∷ ahead' → Strikes ahead ahead' r r (byte ∷ [])
gives-ahead ahead ahead' r byte is = record { read = []; taken = consumes_none r; in_order = append-nil ahead ∙ is }

-- the next of bytes that were read just now
pub gives-read : (ahead read ahead' : List ℕ) (r r' : Option (List ℕ)) (o : Option ℕ) → ahead ≡ [] → Consumes r r' read → (read ≡ [] → IsAtEnd r')
    → GivesByte read ahead' o → ReadsByte ahead ahead' r r' (Ok o)
gives-read ahead read ahead' r r' (Some byte) none taken end is =
    record { read = read; taken = taken; in_order = ap (λ l. l ++ read) none ∙ is }
gives-read ahead read ahead' r r' None none taken end is =
    (record { read = read; taken = taken; in_order = ap (λ l. l ++ read) none ∙ is.0 ∙ sym is.1 }, (is.1, end is.0))

-- a read that failed
pub gives-none : (ahead ahead' : List ℕ) (r r' : Option (List ℕ)) → ahead ≡ [] → ahead' ≡ [] → Consumes r r' [] → Strikes ahead ahead' r r' []
gives-none ahead ahead' r r' none same taken = record { read = []; taken = taken; in_order = append-nil ahead ∙ none ∙ sym same }
