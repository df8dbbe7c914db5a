-- Words of a command line, one after another.
use Rattle.std.proofs.Common.{◌≡◌, ◌∙◌, ◌+◌, ◌++◌, ℕ, suc, Option, Some, None, Result, Ok, Err, List, [], ◌∷◌, ap, arith, inr, length, refl, sym}
use Rattle.std.specs.Prelude.{String}
use Rattle.std.specs.Global.{Global, Vec}
use Rattle.clap.specs.Words.{Text}
use Rattle.hosts.specs.Event.{Event, word_call}
use Rattle.outcome.specs.declared.endings.Ending.{Ending}
use Rattle.program.specs.Steps.{GetsWord, TakesWord}
use Rattle.program.specs.GivenWords.{AreAsked, IsAsked}

-- a word that was asked for is taken, or not
pub taken : (place : ℕ) (bytes : Vec ℕ) (old between : List Event) (result : Result (Option (String Global)) Ending) (new : List Event)
    → between ≡ word_call place (Some bytes) ∷ old → TakesWord place bytes.items between result new → GetsWord place old result new
taken place bytes old between (Ok (Some word)) new is (same, quiet) = record { bytes = bytes; is = sym same; asked = quiet ∙ is }
taken place bytes old between (Ok None) new is it = absurd it
taken place bytes old between (Err ending) new is it = inr (bytes.items, between, record { bytes = bytes; is = refl; asked = is }, it)

-- a word after others
pub one_more : (place : ℕ) (words : List Text) (word : Text) (number : ℕ) (old mid new : List Event) → number ≡ place + length words
    → AreAsked place words old mid → IsAsked number word mid new → AreAsked place (words ++ word ∷ []) old new
one_more place [] word number old mid new at same it =
    let here : number ≡ place = omega (arith, at) in
    (new, record { bytes = it.bytes; is = it.is; asked = rw (← same, ← here) it.asked }, refl)
one_more place (first ∷ words) word number old mid new at (next, asked, rest) it =
    (next, asked, one_more (suc place) words word number next mid new (omega (arith, at)) rest it)
