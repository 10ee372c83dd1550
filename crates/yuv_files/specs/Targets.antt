-- The targets that a command may write.
use Rattle.std.specs.Prelude.{ℕ, ◌≡◌, ◌≢◌, ◌+◌, ◌&&◌, if◌then◌else◌, nat_le, Bool, true, false, Option, Some, None, IfSome}
use Rattle.yuv_files.specs.declared.kind.FileKind.{FileKind}
use Rattle.yuv_files.specs.declared.kind.FileKind.TheVariants.{Y4m, Raw}
use Rattle.yuv_files.specs.declared.kind.TargetError.{TargetError}
use Rattle.yuv_files.specs.declared.kind.TargetError.TheVariants.{Input, Stream, OtherKind}
use Rattle.yuv_files.specs.declared.kind.TargetFacts.{TargetFacts}

-- Whether files of this kind contain video frames.
abbrev pub is_video : FileKind → Bool
is_video Y4m = true
is_video Raw = true
is_video _ = false

-- The command may write the target: it does not read the target, the extension of the name
-- indicates no other kind of file, and no picture replaces a stream.
pub record MayBeWritten (written : FileKind) (target : TargetFacts) : Type 0 where
  pub apart : target.is_input ≡ false
  pub kept : target.is_stream ≡ true → is_video written ≡ true
  pub named : IfSome target.named (λ kind. kind ≡ written)

-- The command does not read the target.
abbrev pub IsApart : TargetFacts → Type 0
IsApart target = target.is_input ≡ false

-- The reason why the target is rejected.
abbrev pub StopsWriting : FileKind → TargetFacts → TargetError → Type 0
StopsWriting written target Input = target.is_input ≡ true
StopsWriting written target Stream =
    IsApart target × (target.is_stream ≡ true) × (is_video written ≡ false)
StopsWriting written target (OtherKind kind) =
    IsApart target × (target.is_stream ≡ true → is_video written ≡ true)
    × (target.named ≡ Some kind) × (kind ≢ written)

-- The letter in lower case if it is one of `A` to `Z`, and unchanged otherwise.
abbrev pub small_letter_of : ℕ → ℕ
small_letter_of letter = if nat_le 65 letter && nat_le letter 90 then letter + 32 else letter
