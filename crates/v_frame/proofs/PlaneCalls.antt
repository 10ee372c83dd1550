-- A call on one plane of a frame is a call on the table of this plane.
use Rattle.std.proofs.Common.{ℕ, ◌≡◌, Option, Some, None, option_map, sym, ◌∙◌, ap, rules}
use Rattle.std.specs.Borrow.{MutBor}
use Rattle.std.specs.Option.{option_copied_mut}
use Rattle.v_frame_raster.specs.Pixel.{PixelForm}
use Rattle.v_frame_raster.specs.Raster.{Raster, table_of}
use Rattle.v_frame.specs.Frame.{table_at, with_table, plane_at, tables_of}
use Rattle.v_frame.specs.Lends.{with_plane}
use Rattle.v_frame.specs.Replay.{named_plane, written_plane, on_table, on_tables, reply_to}
use Rattle.v_frame.specs.declared.frame.Frame.{Frame}
use Rattle.v_frame.specs.declared.replay.call.VisibleCall.{VisibleCall}

-- A call writes the plane that it names, or no plane.
idle : {T : Type 0} (call : VisibleCall T) (other : ℕ) → named_plane call ≡ other →
    (written_plane call ≡ Some other → ⊥) → written_plane call ≡ None
idle call other named unwritten = search rules

module _ {T : Type 0} (frame : Frame T) where
  -- The table with an index is that of the plane with this index.
  table_shown : (index : ℕ) → table_at (tables_of frame) index ≡ option_map table_of (plane_at frame index)
  table_shown index = search rules

  -- A frame with a plane replaced has the table of this plane replaced.
  tables_shown : (index : ℕ) (plane : Raster T) → tables_of (with_plane frame index plane) ≡ with_table
      (tables_of frame) index (table_of plane)
  tables_shown index plane = search rules

  -- Replacing a plane keeps all other planes. Replacing a plane by itself changes nothing.
  stays : (index other : ℕ) (plane new : Raster T) → plane_at frame index ≡ Some plane → (index ≡ other → new ≡ plane)
      → plane_at (with_plane frame index new) other ≡ plane_at frame other
  stays index other plane new here same = search rules

  -- The lent plane is the one that the call names.
  pub found : (call : VisibleCall T) (index : ℕ) (result : Option (MutBor (Raster T))) (lent : MutBor (Raster T)) →
      index ≡ named_plane call
      → option_copied_mut result ≡ plane_at frame index → result ≡ Some lent → plane_at frame (named_plane call) ≡ Some
      lent.now
  found call index result lent named is some = rw (← named, ← is, some)

  module _ (form : PixelForm T) (call : VisibleCall T) (plane : Raster T)
      (here : plane_at frame (named_plane call) ≡ Some plane) where
    pub reply_there : reply_to form call (tables_of frame) ≡ on_tables form call (tables_of frame)
        (Some (table_of plane))
    reply_there = rw (table_shown (named_plane call), here)

    pub tables_there : (index : ℕ) (new : Raster T) → index ≡ named_plane call → table_of new ≡
        (on_table form call (table_of plane)).table
        → tables_of (with_plane frame index new) ≡ (reply_to form call (tables_of frame)).tables
    tables_there index new named is = rw (tables_shown index new, is, named, reply_there)

    pub others_stay : (index : ℕ) (new : Raster T) → index ≡ named_plane call →
        (written_plane call ≡ None → new ≡ plane)
        → (other : ℕ) → (written_plane call ≡ Some other → ⊥) → plane_at (with_plane frame index new) other ≡ plane_at
        frame other
    others_stay index new named same other unwritten =
        stays index other plane new (ap (plane_at frame) named ∙ here)
        (λ is. same (idle call other (sym named ∙ is) unwritten))
