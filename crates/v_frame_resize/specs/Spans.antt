-- The part of a line that one target pixel covers.
use Rattle.std.specs.Prelude.{ℕ, ◌≡◌, ◌+◌, ◌-◌, ◌*◌, ◌<◌, ◌≤◌}
use Rattle.v_frame_resize.specs.Resize.{overlap}
use Rattle.v_frame_resize.specs.declared.span.Span.{Span}

-- The source pixel in which target pixel `x` begins.
pub record IsFirst (source target x first : ℕ) : Type 0 where
  pub before : first * target ≤ x * source
  pub begins : x * source < (first + 1) * target

-- The source pixels that target pixel `x` covers, and the number of units that it covers of the
-- first and of the last of them.
pub record IsSpan (source target x : ℕ) (span : Span) : Type 0 where
  pub first : IsFirst source target x span.first
  pub end : span.end ≡ (x + 1) * source
  pub behind : span.end ≤ span.stop * target
  pub ends : span.stop * target < span.end + target
  pub inside : span.stop ≤ source
  pub order : span.first < span.stop
  pub head : span.head ≡ overlap source target span.first x
  pub tail : span.tail ≡ overlap source target (span.stop - 1) x
