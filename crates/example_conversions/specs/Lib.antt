pub mod MotionSearch
