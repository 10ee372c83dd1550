-- Samples that are within their bit depth.
use Rattle.std.specs.Prelude.{ℕ, ◌≤◌, ◌/◌, ◌-◌, ◌^◌, All, IfSome}
use Rattle.v_frame.specs.Prelude.{PixelForm, Table, Tables, row_major}

-- The greatest value of a depth of up to 16 bits.
abbrev pub most_at : ℕ → ℕ
most_at depth = 65535 / 2 ^ (16 - depth)

module _ {T : Type 0} (form : PixelForm T) (most : ℕ) where
  -- No sample of a plane is above `most`.
  abbrev pub IsUpTo : Table T → Type 0
  IsUpTo table = All (λ p. form.value p ≤ most) (row_major table)

  -- No sample of a frame is above `most`.
  pub record AreUpTo (tables : Tables T) : Type 0 where
    pub y : IsUpTo tables.y
    pub u : IfSome tables.u IsUpTo
    pub v : IfSome tables.v IsUpTo
