-- The exit statuses of the program.
use Rattle.std.specs.Prelude.{ℕ}
use Rattle.yuv_system.specs.declared.status.Status.{Status}
use Rattle.yuv_system.specs.declared.status.Status.TheVariants.{Same, Different, Failed, Closed}

-- The exit status as a number, as `cmp` has it. The status 141 is 128 plus 13, the number of the
-- signal PIPE.
abbrev pub status_code : Status → ℕ
status_code Same = 0
status_code Different = 1
status_code Failed = 2
status_code Closed = 141
