-- A directory is read of blocks 1 to 6 alone.
use Rattle.std.proofs.Common.{◌≡◌, ℕ, zero, suc, ◌<◌, Bool, true, false, ◌&&◌, nat_lt, List, [], ◌∷◌, length, Result, Ok, Err, refl, ap, ◌∙◌, arith}
use Rattle.std.proofs.lemmas.Bool.Decides.{nat_tests}
use Rattle.os8_dir.specs.Entries.{DirectoryState}
use Rattle.os8_dir.specs.declared.faults.DirFault.{DirFault}
use Rattle.os8_dir.specs.declared.faults.DirFault.TheVariants.{BadLink}
use Rattle.os8_dir.specs.Reading.{◌>>=◌, needs, word, block, is_unread, with_segment, with_links, head_of, directory_of}

low-block : (n : ℕ) (b : Bool) → (nat_lt n 7 && b) ≡ true → n < 7
low-block n b is = grind (arith, nat_tests)

bound : {A B : Type 0} (r : Result A DirFault) (f g : A → Result B DirFault) → ((x : A) → f x ≡ g x) → (r >>= f) ≡ (r >>= g)
bound (Ok x) f g same = same x
bound (Err fault) f g same = refl

same-links : (left : ℕ) (d : DirectoryState) (old new : List (List ℕ)) (read : List ℕ) (from n : ℕ) → length new ≡ length old → ((k : ℕ) → k < 7 → block new k ≡ block old k) → with_links left d new read from n ≡ with_links left d old read from n
unfolding with_links
same-links left d old new read from zero size same = refl
same-links zero d old new read from (suc n) size same = refl
same-links (suc left) d old new read from (suc n) size same =
    (elim (is_unread read (suc n)) as (λ u. is_unread read (suc n) ≡ u → (needs u (BadLink from) >>= (λ unread. with_segment (length new) d (suc n) (block new (suc n)) >>= (λ more. with_links left more new (suc n ∷ read) (suc n) (word (block new (suc n)) 2)))) ≡ (needs u (BadLink from) >>= (λ unread. with_segment (length old) d (suc n) (block old (suc n)) >>= (λ more. with_links left more old (suc n ∷ read) (suc n) (word (block old (suc n)) 2))))) [
      | true ↦ λ is.
          let low = same (suc n) (low-block (suc n) _ is) in
          ap (λ w. with_segment (length new) d (suc n) w >>= (λ more. with_links left more new (suc n ∷ read) (suc n) (word w 2))) low
          ∙ ap (λ s. with_segment s d (suc n) (block old (suc n)) >>= (λ more. with_links left more new (suc n ∷ read) (suc n) (word (block old (suc n)) 2))) size
          ∙ bound (with_segment (length old) d (suc n) (block old (suc n))) _ _ (λ more. same-links left more old new (suc n ∷ read) (suc n) (word (block old (suc n)) 2) size same)
      | false ↦ λ is. refl
    ]) refl

pub same-directory : (old new : List (List ℕ)) → length new ≡ length old → ((k : ℕ) → k < 7 → block new k ≡ block old k) → directory_of new ≡ directory_of old
unfolding directory_of
same-directory old new size same =
    let one = same 1 (omega arith) in
    ap (λ w. head_of (length new) w >>= (λ head. with_segment (length new) head 1 w >>= (λ one. with_links 5 one new (1 ∷ []) 1 (word w 2)))) one
    ∙ ap (λ s. head_of s (block old 1) >>= (λ head. with_segment s head 1 (block old 1) >>= (λ one. with_links 5 one new (1 ∷ []) 1 (word (block old 1) 2)))) size
    ∙ bound (head_of (length old) (block old 1)) _ _ (λ head. bound (with_segment (length old) head 1 (block old 1)) _ _ (λ one. same-links 5 one old new (1 ∷ []) 1 (word (block old 1) 2) size same))
