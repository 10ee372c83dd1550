-- The contents of a writer after a failed write.
use Rattle.std.specs.Prelude.{ℕ, ◌<◌, List, length, take, Option}
use Rattle.std.specs.Io.KnownBytes.{Appends}

-- A beginning of the bytes, but not all of them, was appended to the known contents.
abbrev pub AppendsBeginning : Option (List ℕ) → Option (List ℕ) → List ℕ → Type 0
AppendsBeginning old new bytes =
    (count : ℕ) × (count < length bytes) × Appends old new (take count bytes)
