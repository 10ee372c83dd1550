-- The report of `info` on the frames of a stream.
use Rattle.std.specs.Prelude.{ℕ, ◌-◌, ◌^◌, ◌∷◌, ◌++◌, [], List, Option, codes, decimal}
use Rattle.std.specs.Io.KnownBytes.{Appends}
use Rattle.v_frame_y4m.specs.declared.header.StreamHeader.{StreamHeader}
use Rattle.yuv_facts.specs.Facts.{stream_facts}
use Rattle.yuv_reports.specs.Texts.{BeginsWith}
use Rattle.v_frame_streams.specs.Prelude.{CountsFrames, StopsAtFrame, Unread}
use Rattle.v_frame_streams.specs.declared.error.Problem.{Problem}
use Rattle.v_frame_streams.specs.declared.stream.Container.{Container}

-- The line with the number of frames.
abbrev pub count_line : ℕ → List ℕ
count_line frames = codes "frames: " ++ (decimal frames ++ (10 ∷ []))

-- All frames were counted, and a report that begins with their number was written.
pub record ReportsFrames (from : Container) (count : ℕ) (left left' has has' : Option (List ℕ))
    : Type 0 where
  pub found : ℕ
  pub counted : CountsFrames left left' from count (2 ^ 64 - 1) found
  pub text : List ℕ
  pub says : BeginsWith (count_line found) text
  pub written : Appends has has' text

-- The frames before the one that could not be read were counted, and a report that begins with
-- their number was written.
pub record ReportsWhole (from : Container) (count : ℕ) (start left : Unread) (before : ℕ)
    (has has' : Option (List ℕ)) (problem : Problem) : Type 0 where
  pub after : ℕ
  pub stops : StopsAtFrame from count start left (2 ^ 64 - 1) before after problem
  pub text : List ℕ
  pub says : BeginsWith (count_line after) text
  pub written : Appends has has' text

-- The properties of the stream were written, and then the report on its frames.
pub record ReportsStream (from : Container) (header : StreamHeader) (count : ℕ) (len : Option ℕ)
    (left left' has has' : Option (List ℕ)) : Type 0 where
  pub mid : Option (List ℕ)
  pub facts : Appends has mid (stream_facts header count len)
  pub frames : ReportsFrames from count left left' mid has'

-- The properties of a stream that breaks off were written, and then the report on the frames before
-- the error.
pub record ReportsBroken (from : Container) (header : StreamHeader) (count : ℕ) (len : Option ℕ)
    (start left : Unread) (before : ℕ) (has has' : Option (List ℕ)) (problem : Problem) : Type 0
  where
    pub mid : Option (List ℕ)
    pub facts : Appends has mid (stream_facts header count len)
    pub frames : ReportsWhole from count start left before mid has' problem
