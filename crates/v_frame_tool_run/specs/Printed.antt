-- The text of a table.
use Rattle.std.specs.Prelude.{ℕ, List, [], ◌∷◌, ◌++◌, decimal, codes, flat_map}
use Rattle.v_frame.specs.Prelude.{Table, width_of, height_of}

-- Numbers in decimal, separated by single spaces.
abbrev pub spaced : List ℕ → List ℕ
spaced [] = []
spaced (first ∷ rest) = decimal first ++ flat_map (λ number. 32 ∷ decimal number) rest

-- A line with the numbers of a row.
abbrev pub line_of : List ℕ → List ℕ
line_of row = spaced row ++ 10 ∷ []

-- A line with a width and a height, followed by one line for each row.
abbrev pub sized_rows : ℕ → ℕ → Table ℕ → List ℕ
sized_rows width height rows =
    codes "plane 0: "
    ++ (decimal width ++ (codes " x " ++ (decimal height ++ (10 ∷ flat_map line_of rows))))

-- The size of a table, followed by its rows.
abbrev pub text_of_table : Table ℕ → List ℕ
text_of_table rows = sized_rows (width_of rows) (height_of rows) rows
