-- If no header was written, nothing was read. Otherwise the skipped frames were read.
use Rattle.std.proofs.Common.{[], arith, inl, inr, refl}
use Rattle.std.proofs.lemmas.Result.{err_from_is_err_and}
use Rattle.v_frame_streams.specs.Sources.{bytes_left}
use Rattle.v_frame_streams.proofs.Reading.{none_read}
use Rattle.v_frame_streams.proofs.copy.begin_copy.Goals as goal

pub returns-in_err-write_header-clause-broken : goal.returns-in_err-write_header-clause-broken
returns-in_err-write_header-clause-broken g c =
    let left = bytes_left g.R.Read.remaining c.args.source.now in
    let p = err_from_is_err_and c.from_residual.result c.from_residual.ensures.1 in
    rw (p.1) record {
      frames = [];
      mid = left;
      read = none_read c.args.source.now.container c.args.source.now.frame_len left;
      bound = omega arith;
      counted = inr (refl, refl);
      written = 0;
      also_counted = inr (refl, c.write_header.ensures.frames);
      behind = inl (omega arith);
    }

pub returns-in_err-skipped-clause-broken : goal.returns-in_err-skipped-clause-broken
returns-in_err-skipped-clause-broken g c =
    let stops = c.in_err-skipped.ensures.problem in
    let p = err_from_is_err_and c.from_residual-in_err-skipped.result c.from_residual-in_err-skipped.ensures.1 in
    rw (p.1) record {
      frames = stops.frames;
      mid = stops.mid.bytes;
      read = stops.read;
      bound = omega (arith, stops.fewer);
      counted = inl stops.counted;
      written = 0;
      also_counted = inr (refl, c.write_header.ensures.frames);
      behind = inl (omega (arith, stops.fewer));
    }
