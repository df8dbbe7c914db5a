-- What is found of a file, and what its blocks hold.
use Rattle.std.proofs.Common.{◌≡◌, ℕ, ◌+◌, ◌*◌, ◌/◌, ◌≤◌, ◌==◌, All, true, false, Option, Some, None, if◌then◌else◌, ◌∙◌, ap, sym, refl, arith, length, List, [], ◌∷◌}
use Rattle.volume_image.specs.Volume.{IsBlock}
use Rattle.os8_dir.specs.Found.{FilePlace, find, extent_of, AreApart}
use Rattle.os8_dir.specs.Files.{data_if_there, run}
use Rattle.os8_files.specs.Service.{blocks_of}
use Rattle.os8_files.proofs.LengthLemmas.{length-run}

-- files that lie apart lie below the bound
pub apart_within : (from bound : ℕ) (files : List FilePlace) → AreApart from bound files → from ≤ bound
apart_within from bound [] h = h
apart_within from bound (f ∷ fs) h = omega (arith, h.0, apart_within (f.place + f.size) bound fs h.2)

pub find_within : (name from bound : ℕ) (files : List FilePlace) (f : FilePlace) → AreApart from bound files → find name files ≡ Some f → f.place + f.size ≤ bound
find_within name from bound [] f apart found = cc
find_within name from bound (g ∷ gs) f apart found =
    (elim (g.name == name) as (λ b. (if b then Some g else find name gs) ≡ Some f → f.place + f.size ≤ bound) [
      | true ↦ λ here. let same : g ≡ f = cc in let within = apart_within (g.place + g.size) bound gs apart.2 in
          omega (arith, within, ap (λ (p : FilePlace). p.place + p.size) same)
      | false ↦ λ following. find_within name (g.place + g.size) bound gs f apart.2 following
    ]) found

-- the length that is told of a file that may be there
abbrev pub told : Option (ℕ × ℕ) → Option ℕ
told None = None
told (Some extent) = Some extent.1

pub size_again : (size : ℕ) → 256 * size / 256 ≡ size
size_again size = omega arith

pub blocks_found : (blocks : List (List ℕ)) (info name from : ℕ) (files : List FilePlace) → All IsBlock blocks → AreApart from (length blocks) files
    → (f : Option FilePlace) → find name files ≡ f → told (extent_of f) ≡ blocks_of (data_if_there blocks info f)
blocks_found blocks info name from files each apart None found = refl
blocks_found blocks info name from files each apart (Some f) found =
    ap Some (sym (ap (λ n. n / 256) (length-run blocks f.place f.size each (find_within name from (length blocks) files f apart found)) ∙ size_again f.size))

-- The words of a file are those of whole blocks.
pub blocks-run : (blocks : List (List ℕ)) (f : FilePlace) → All IsBlock blocks → f.place + f.size ≤ length blocks → length (run blocks f.place f.size) / 256 ≡ f.size
blocks-run blocks f each inside = ap (λ n. n / 256) (length-run blocks f.place f.size each inside) ∙ size_again f.size

pub whole-run : (blocks : List (List ℕ)) (f : FilePlace) → All IsBlock blocks → f.place + f.size ≤ length blocks → 256 * (length (run blocks f.place f.size) / 256) ≡ length (run blocks f.place f.size)
whole-run blocks f each inside = omega (arith, blocks-run blocks f each inside, length-run blocks f.place f.size each inside)
