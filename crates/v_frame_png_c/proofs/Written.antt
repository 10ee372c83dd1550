-- The effect of a call if the picture is rejected, if there is not enough memory, and if a file is
-- created.
use Rattle.std.proofs.Common.{ℕ, ◌≡◌, ◌<◌, ◌⊎◌, inl, inr, List, refl, arith}
use Rattle.v_frame_png.specs.Prelude.{IsFile}
use Rattle.v_frame_png.specs.declared.header.Header.{Header}
use Rattle.v_frame_png_c.specs.Status.{out_of_memory}
use Rattle.v_frame_png_c.specs.Written.{IsPutInFront, IsWritten}

module _ (h : Header) (rows : List (List ℕ)) (old : List ℕ) (needed fault : ℕ) where
  pub refused_for : (status : ℕ) → status ≡ fault → 0 < status → status < out_of_memory
      → IsWritten h rows fault old old needed needed status
  refused_for status is some known = record {
    refused = λ bad. is;
    accepted = λ none. absurd (omega (arith, is, none));
    written = λ ok. absurd (omega (arith, ok));
    short = λ long. absurd (omega (arith, long));
    kept = λ bad. refl;
    untold = λ bad long. refl;
  }

  pub without_memory : fault ≡ 0 → IsWritten h rows fault old old needed needed out_of_memory
  without_memory none = record {
    refused = λ bad. absurd (bad none);
    accepted = λ is. inr (inl refl);
    written = λ ok. absurd (omega (arith, ok));
    short = λ long. absurd (omega (arith, long));
    kept = λ bad. refl;
    untold = λ bad long. refl;
  }

  pub with_file : (new bytes : List ℕ) (new_needed status : ℕ) → fault ≡ 0 → IsFile h rows bytes
      → IsPutInFront bytes old new new_needed status → IsWritten h rows fault old new needed new_needed status
  with_file new bytes new_needed status none file put = record {
    refused = λ bad. absurd (bad none);
    accepted = λ is. elim put.answer [ inl ok ↦ inl ok | inr short ↦ inr (inr short) ];
    written = λ ok. (bytes, file, put.room ok, put.put ok, put.count);
    short = λ is. (bytes, file, put.short is, put.count);
    kept = put.kept;
    untold = λ bad long. elim put.answer [ inl ok ↦ absurd (bad ok) | inr short ↦ absurd (long short) ];
  }
