-- The definitions that contracts of other crates use, re-exported from one module.
pub use Rattle.v_frame_turn.specs.Turn.{transposed, rotated_90, rotated_180, rotated_270, HasSize}
pub use Rattle.v_frame_turn.specs.Frames.{exchanges, is_turnable, turned, turned_tables}
pub use Rattle.v_frame_turn.specs.Frames.{PlaneFits, SizeFits, TurnFits, IsReason, IsTurned}
