-- A list of which a part is overwritten.
use Rattle.std.specs.Prelude.{ℕ, List, ◌++◌, length, take, drop}
use Rattle.std.specs.List.{refill}

-- The list xs with ys written over its entries from index `start` on.
abbrev pub with_part : {T : Type 0} → List T → ℕ → List T → List T
with_part xs start ys =
    refill (length xs) xs (take start xs ++ (ys ++ drop (length ys) (drop start xs)))
