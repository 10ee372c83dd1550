-- One more byte follows those that were read.
use Rattle.std.proofs.Common.{ℕ, ◌≡◌, ◌≢◌, ◌<◌, ◌+◌, List, [], ◌∷◌, ◌++◌, length, take, sym, subst, rules, arith}
use Rattle.std.proofs.Common.{length-append, length-take}
use Rattle.std.proofs.lemmas.Grind.{common_steps}
use Rattle.std.specs.Prelude.{All}
use Rattle.std.proofs.lemmas.List.{append-nil, take_more_set}
use Rattle.std.proofs.lemmas.List.Elements.{All-push}
use Rattle.std.specs.Io.KnownBytes.{Consumes}
use Rattle.std.proofs.KnownBytes.{Consumes-nil, Consumes-trans}
use Rattle.v_frame_y4m.proofs.lines.read_line.Goals as goal

pub returns-in-Some-clause-error : goal.returns-in-Some-clause-error
returns-in-Some-clause-error g c =
    let before = c.loop-byte.invariant in
    let line = c.loop-byte.line in
    let at = c.loop-byte.at in
    let old = g.R.Read.remaining c.args.reader.now.inner in
    let mid = g.R.Read.remaining c.loop-byte.reader.inner in
    let new = g.R.Read.remaining c.read_byte.new.reader.inner in
    let one : Consumes mid new (c.in-Some.field-0 ∷ []) = search rules in
    let other : c.in-Some.field-0 ≢ 10 = search rules in
    let got = Consumes-trans old mid new (take at line) (c.in-Some.field-0 ∷ []) before.got one in
    let long : length (take at line ++ c.in-Some.field-0 ∷ []) ≡ length c.args.line.now + 1 = omega (
      arith,
      length-append (take at line) (c.in-Some.field-0 ∷ []),
      length-take at line,
      before.size,
      before.within,
      c.if-at-line.true,
    ) in (
      (
        take at line ++ c.in-Some.field-0 ∷ [],
        got,
        All-push (λ b. b ≢ 10) (take at line) c.in-Some.field-0 before.ended
            other,
        long,
      ),
      search rules,
    )

pub loop-byte-preserved : goal.loop-byte-preserved
loop-byte-preserved g c =
    let before = c.loop-byte.invariant in
    let line = c.loop-byte.line in
    let at = c.loop-byte.at in
    let byte = c.in-Some.field-0 in
    let old = g.R.Read.remaining c.args.reader.now.inner in
    let mid = g.R.Read.remaining c.loop-byte.reader.inner in
    let new = g.R.Read.remaining c.read_byte.new.reader.inner in
    let one : Consumes mid new (byte ∷ []) = search rules in
    let other : byte ≢ 10 = search rules in
    let got = Consumes-trans old mid new (take at line) (byte ∷ []) before.got one in
    let room : at < length line = search (rules, arith) in
    let more = take_more_set line at byte room in
    record {
      within = search rules;
      size = search rules;
      got = subst (Consumes old new) (sym more) got;
      ended = subst (λ (bytes : List ℕ). All (λ b. b ≢ 10) bytes) (sym more)
          (All-push (λ b. b ≢ 10) (take at line) byte before.ended other);
      failures = search rules;
      last_failure = search rules;
    }

pub loop-byte-init : goal.loop-byte-init
loop-byte-init g c = record {
  within = omega arith;
  size = search rules;
  got = Consumes-nil (g.R.Read.remaining c.args.reader.now.inner);
  ended = search rules;
  failures = search rules;
  last_failure = search rules;
}

pub returns-in-Some-eq10-clause-read : goal.returns-in-Some-eq10-clause-read
returns-in-Some-eq10-clause-read g c =
    let old = g.R.Read.remaining c.args.reader.now.inner in
    let mid = g.R.Read.remaining c.loop-byte.reader.inner in
    let new = g.R.Read.remaining c.read_byte.new.reader.inner in
    let one : Consumes mid new (10 ∷ []) = search rules in
    Consumes-trans old mid new (take c.loop-byte.at c.loop-byte.line) (10 ∷ []) c.loop-byte.invariant.got one

pub returns-in-None-clause-read : goal.returns-in-None-clause-read
returns-in-None-clause-read g c =
    let old = g.R.Read.remaining c.args.reader.now.inner in
    let mid = g.R.Read.remaining c.loop-byte.reader.inner in
    let new = g.R.Read.remaining c.read_byte.new.reader.inner in
    let at = c.loop-byte.at in
    let line = c.loop-byte.line in
    let none : Consumes mid new [] = search rules in
    let start : at ≡ 0 = search rules in
    let got = Consumes-trans old mid new (take at line) [] c.loop-byte.invariant.got none in
    (subst (λ (n : ℕ). Consumes old new (take n line ++ [])) start got, search rules)

pub returns-in-None-2-clause-error : goal.returns-in-None-2-clause-error
returns-in-None-2-clause-error g c =
    let before = c.loop-byte.invariant in
    let old = g.R.Read.remaining c.args.reader.now.inner in
    let mid = g.R.Read.remaining c.loop-byte.reader.inner in
    let new = g.R.Read.remaining c.read_byte.new.reader.inner in
    let at = c.loop-byte.at in
    let line = c.loop-byte.line in
    let none : Consumes mid new [] = search rules in
    let begun : at ≢ 0 = search rules in
    let got = Consumes-trans old mid new (take at line) [] before.got none in
    let long = length-take at line in (
      (
        take at line,
        subst (Consumes old new) (append-nil (take at line)) got,
        before.ended,
        omega (arith, long, before.within, begun),
        omega (arith, long, before.within, before.size),
      ),
      search rules,
      search rules,
    )

pub returns-in-Some-eq10-clause-bound : goal.returns-in-Some-eq10-clause-bound
returns-in-Some-eq10-clause-bound g c = grind (arith, common_steps)

pub returns-in-Some-eq10-clause-ended : goal.returns-in-Some-eq10-clause-ended
returns-in-Some-eq10-clause-ended g c = grind (arith, common_steps)

pub bounds-line-at : goal.bounds-line-at
bounds-line-at g c = grind (arith, common_steps)

pub overflow_add-at : goal.overflow_add-at
overflow_add-at g c = grind (arith, common_steps)

pub loop-byte-smaller : goal.loop-byte-smaller
loop-byte-smaller g c = grind (arith, common_steps)
