use Rattle.std.proofs.Common.{◌≡◌, ◌++◌, ℕ, Bool, List, Option, Ok, subst, refl, inl, inr, arith, length, length-append}
use Rattle.std.specs.Io.KnownBytes.{Consumes}
use Rattle.script8.specs.Reading.{IsReaderEnd, TakesBytes}
use Rattle.script8.specs.ReadSteps.{ReadsWithin}
use Rattle.script8.proofs.ByteLemmas.{consumes_more}
use Rattle.script8.proofs.readings.read_whole.Goals as goal

-- one byte more was taken than may be read
one_more : (old mid new : Option (List ℕ)) (bytes : List ℕ) → Consumes old mid bytes × (length bytes ≡ 16777216) → TakesBytes mid new 1 → TakesBytes old new 16777217
one_more old mid new bytes all more = record {
  bytes = bytes ++ more.bytes;
  taken = consumes_more old mid new bytes more.bytes all.0 more.taken;
  count_is = omega (arith, length-append bytes more.bytes, all.1, more.count_is);
}

pub returns-clause-read : goal.returns-clause-read
returns-clause-read g c =
    let all = subst (λ (b : Bool). ReadsWithin 16777216 (g.R.ByteReader.remaining c.args.reader.now) (g.R.ByteReader.remaining c.read_within.new.reader) c.read_within.new.bytes.items (Ok b)) c.if-at_end.false c.in_ok-at_end.ensures.read in
    let more = subst (λ (b : Bool). IsReaderEnd (g.R.ByteReader.remaining c.read_within.new.reader) (g.R.ByteReader.remaining c.ends.new.reader) (Ok b)) c.if-at_end-2.false c.in_ok-at_end-2.ensures.end in record {
      count = 16777217;
      takes = one_more _ (g.R.ByteReader.remaining c.read_within.new.reader) _ c.read_within.new.bytes.items all more;
      within = omega arith;
      last = λ is. refl;
      kind = inl refl;
    }

pub returns-clause-cause : goal.returns-clause-cause
returns-clause-cause g c is =
    let all = subst (λ (b : Bool). ReadsWithin 16777216 (g.R.ByteReader.remaining c.args.reader.now) (g.R.ByteReader.remaining c.read_within.new.reader) c.read_within.new.bytes.items (Ok b)) c.if-at_end.false c.in_ok-at_end.ensures.read in
    let more = subst (λ (b : Bool). IsReaderEnd (g.R.ByteReader.remaining c.read_within.new.reader) (g.R.ByteReader.remaining c.ends.new.reader) (Ok b)) c.if-at_end-2.false c.in_ok-at_end-2.ensures.end in
    inr (one_more _ (g.R.ByteReader.remaining c.read_within.new.reader) _ c.read_within.new.bytes.items all more)
