-- The extensions are those of the other header.
use Rattle.std.proofs.Common.{List, ℕ, subst, sym}
use Rattle.std.specs.Prelude.{All}
use Rattle.v_frame_y4m.specs.Header.{IsPiece}
use Rattle.v_frame_y4m.proofs.laws.changed_headers_are_writable.Goals as goal

pub returns : goal.returns
returns c = λ h k writable same wide high. record {
  width = wide;
  height = high;
  extensions = subst (λ (xs : List (List ℕ)). All IsPiece xs) (sym same) writable.extensions;
}
