-- One more read fills the next bytes of the buffer, and a failed read leaves those before
-- unchanged.
use Rattle.std.proofs.Common.{ℕ, List, ◌≡◌, ◌≤◌, ◌++◌, ◌+◌, ◌-◌, ◌<◌, length, take, ◌∙◌, rules, arith, length-take-le}
use Rattle.std.proofs.lemmas.Grind.{common_steps}
use Rattle.std.proofs.KnownBytes.{Consumes-kept, Consumes-trans}
use borrow.Rule.Slice.PartMut.{put_mid, post_of}
use lib.Seq.{take-append-le, take-append-add}
use Rattle.v_frame_planar.proofs.reading.read_until_full.Goals as goal

-- If a part of a buffer was filled, the bytes up to the filled ones are those in front of it and
-- those at its front.
taken_from_part : (at long n : ℕ) (old part : List ℕ) → at ≤ length old → n ≤ length part
    → take (at + n) (put_mid at long old part) ≡ take at old ++ take n part
taken_from_part at long n old part within fits =
    let behind = post_of at long old in
    rw (length-take-le at old within, take-append-le n part behind fits) at
    (take-append-add (take at old) (part ++ behind) n)

pub loop-found-preserved : goal.loop-found-preserved
loop-found-preserved g c =
    let buf = c.loop-found.buf in
    let found = c.loop-found.found in
    let before = c.loop-found.invariant in
    let given = c.in-Ok.ensures in
    let all = taken_from_part found (length buf - found) c.in-Ok.count buf c.read.new.buf before.within given.bound.0 in
    record {
      within = search rules;
      size = search rules;
      got = rw all (Consumes-trans _ _ _ _ _ before.got given.bytes.0);
      failures = given.ok ∙ before.failures;
      last_failure = given.told ∙ before.last_failure;
    }

pub returns-in-Err-clause-error : goal.returns-in-Err-clause-error
returns-in-Err-clause-error g c =
    let buf = c.loop-found.buf in
    let found = c.loop-found.found in
    let before = c.loop-found.invariant in
    let got = Consumes-kept _ _ _ _ before.got c.in-Err.ensures.bytes in
    let less = rw before.size at c.loop-found-test.true in (
      (found, less, (take found buf, got, length-take-le found buf before.within)),
      rw before.failures at
          c.in-Err.ensures.err,
    )

pub returns-in-Ok-eq0-clause-at_end : goal.returns-in-Ok-eq0-clause-at_end
returns-in-Ok-eq0-clause-at_end g c =
    let some : 0 < length c.read.new.buf = search rules in
    λ less. c.in-Ok-eq0.ensures.bytes.1 c.in-Ok-eq0.field-0-test some

pub returns-in-Ok-eq0-clause-bytes : goal.returns-in-Ok-eq0-clause-bytes
returns-in-Ok-eq0-clause-bytes g c = grind (arith, common_steps)
