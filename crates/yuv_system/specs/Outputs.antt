-- The output that a command has written.
use Rattle.std.specs.Prelude.{ℕ, ◌≡◌, ◌⊎◌, List, Option, codes}
use Rattle.yuv_system.specs.declared.output.Output.{Output}
use Rattle.yuv_system.specs.declared.output.Output.TheVariants.{File, Standard}

-- The bytes that a file or standard output contains, if they are known.
abbrev pub bytes_of_output : {F O : Type 0} → (F → Option (List ℕ)) → (O → Option (List ℕ))
    → Output F O → Option (List ℕ)
bytes_of_output file standard (File to) = file to.file
bytes_of_output file standard (Standard out) = standard out.now

-- The name is one of the names of standard output.
abbrev pub IsStandardOutput : List ℕ → Type 0
IsStandardOutput name =
    (name ≡ codes "-")
    ⊎ ((name ≡ codes "/dev/stdout")
    ⊎ ((name ≡ codes "/dev/fd/1") ⊎ (name ≡ codes "/proc/self/fd/1")))
