-- The frame counts that are shown, and the effect of a new count on the line.
use Rattle.std.specs.Prelude.{ℕ, ◌≡◌, ◌&&◌, if◌then◌else◌, Bool, true, false}
use Rattle.yuv_system.specs.declared.progress.ProgressLine.{ProgressLine}
use Rattle.yuv_system.specs.declared.shown.Shown.{Shown}
use Rattle.yuv_system.specs.declared.shown.Shown.TheVariants.{NoCount, LastCount, EachCount}
use Rattle.yuv_words.specs.declared.command.Command.{Command}
use Rattle.yuv_words.specs.declared.command.Command.TheVariants.{Call}
use Rattle.yuv_words.specs.declared.command.CommandName.{CommandName}
use Rattle.yuv_words.specs.declared.command.CommandName.TheVariants.{Compare, Sum}
use Rattle.yuv_words.specs.declared.command.Options.{Options}
use Rattle.yuv_reports.specs.declared.comparison.ReportForm.{ReportForm}
use Rattle.yuv_reports.specs.declared.comparison.ReportForm.TheVariants.{Lines, Csv, Json}

-- Whether `--progress` is given. Not all commands have this option.
abbrev pub asks_progress : Command → Bool
asks_progress (Call call) = call.options.progress
asks_progress _ = false

-- The counts that are shown if a report of this form, with or without `--frames`, is written to the
-- same terminal. If each frame has a complete line, only the last count is shown. In JSON no count
-- is shown, because a line ends only when the next frame is written.
abbrev pub beside_report : ReportForm → Bool → Shown
beside_report Json frames = NoCount
beside_report Csv frames = LastCount
beside_report Lines true = LastCount
beside_report Lines false = EachCount

-- The counts that are shown if the output of a command is written to the same terminal. Two
-- commands write output for each frame immediately.
abbrev pub beside_lines : CommandName → Options → Shown
beside_lines Sum options = LastCount
beside_lines Compare options = beside_report options.form options.frames
beside_lines _ options = EachCount

abbrev pub beside_output : Command → Shown
beside_output (Call call) = beside_lines call.name call.options
beside_output _ = EachCount

-- The counts that a command shows. The two truth values state whether standard error is a terminal,
-- and whether standard output is one.
abbrev pub shown_counts : Command → Bool → Bool → Shown
shown_counts command is_terminal output_is_terminal =
    if is_terminal && asks_progress command then
    (if output_is_terminal then beside_output command else EachCount)
    else NoCount

-- The effect of a new count on a line: none if no counts are shown. If only the last count is
-- shown, the count is recorded and nothing is written. Otherwise it is recorded, and may be
-- written.
abbrev pub TakesCount : {H E : Type 0} → Shown → ProgressLine H E → ProgressLine H E → ℕ → Type 0
TakesCount NoCount old new frames = new ≡ old
TakesCount LastCount old new frames = new ≡ record old { frames = frames }
TakesCount EachCount old new frames = (new.frames ≡ frames) × (new.shown ≡ EachCount)
