-- Piece after piece.
use Rattle.std.proofs.Common.{◌≡◌, ℕ, ◌-◌, ◌≤◌, ◌∙◌, Result, Ok, Err, IsErrAnd, List, [], ◌∷◌, take, drop, length, get_or, sym, ap, subst, arith, inl, inr}
use Rattle.std.specs.Result.{IsErr}
use Rattle.std.proofs.lemmas.List.{take_all}
use Rattle.hosts.specs.Event.{Event}
use Rattle.outcome.specs.declared.endings.Ending.{Ending}
use Rattle.volume_salvage.specs.declared.pieces.Piece.{Piece}
use Rattle.volume_salvage.specs.declared.scans.Scan.{Scan}
use Rattle.salvage_commands.specs.ScanningBlocks.{WritesEach, WritesPiece}

first-one : {A : Type 0} (l : List A) (a d : A) → 1 ≤ length l → a ≡ get_or l 0 d → l ≡ a ∷ take (length l - 1) (drop 1 l)
first-one [] a d long first = absurd (omega (arith, long))
first-one (x ∷ xs) a d long first = ap (λ l. x ∷ l) (sym (take_all (length (x ∷ xs) - 1) xs (omega arith))) ∙ ap (λ y. y ∷ take (length (x ∷ xs) - 1) xs) (sym first)

-- a piece is written, and the others are
pub go-on : (folder image : List ℕ) (scan : Scan) (rest : List Piece) (piece other : Piece) (old between new : List Event) (result : Result (Unit {0}) Ending)
    → 1 ≤ length rest → piece ≡ get_or rest 0 other → WritesPiece folder image scan piece old (Ok tt) between
    → WritesEach folder image scan (take (length rest - 1) (drop 1 rest)) between result new → WritesEach folder image scan rest old result new
go-on folder image scan rest piece other old between new result long first done later =
    subst (λ l. WritesEach folder image scan l old result new) (sym (first-one rest piece other long first)) (inr (record { given = tt; between = between; done = done; after = later }))

-- a piece ends the command
pub stop : (folder image : List ℕ) (scan : Scan) (rest : List Piece) (piece other : Piece) (old new : List Event) (result : Result (Unit {0}) Ending) (ending : Ending)
    → 1 ≤ length rest → piece ≡ get_or rest 0 other → WritesPiece folder image scan piece old (Err ending) new → IsErr result × IsErrAnd result (λ it. it ≡ ending)
    → WritesEach folder image scan rest old result new
stop folder image scan rest piece other old new (Ok it) ending long first done is = absurd is.1
stop folder image scan rest piece other old new (Err it) ending long first done is =
    subst (λ l. WritesEach folder image scan l old (Err it) new) (sym (first-one rest piece other long first))
    (inl (subst (λ e. WritesPiece folder image scan piece old (Err e) new) (sym is.1) done))
