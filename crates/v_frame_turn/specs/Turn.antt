-- Tables that are rotated or transposed. A table flipped upside down is its `reverse`, and a
-- mirrored table is its `map reverse`.
use Rattle.std.specs.Prelude.{All, ℕ, zero, suc, ◌≡◌, ◌<◌, [], ◌∷◌, length, map, drop, take}
use Rattle.std.specs.Prelude.{reverse}
use Rattle.std.specs.List.{flat_map}
use Rattle.v_frame.specs.Prelude.{Table, height_of, width_of}

module _ {T : Type 0} where
  -- A table has `height` rows of `width` pixels each and is not empty. The visible pixels of a
  -- plane are such a table.
  pub record HasSize (rows : Table T) (width height : ℕ) : Type 0 where
    pub wide : 0 < width
    pub high : 0 < height
    pub count : height_of rows ≡ height
    pub rows_are_wide : All (λ row. length row ≡ width) rows

  -- The first `count` columns of a table, from left to right, each from top to bottom.
  abbrev pub columns : ℕ → Table T → Table T
  columns zero rows = []
  columns (suc count) rows = flat_map (take 1) rows ∷ columns count (map (drop 1) rows)

  -- The table whose rows are the columns of `rows`.
  abbrev pub transposed : Table T → Table T
  transposed rows = columns (width_of rows) rows

  -- The table rotated by 90 degrees clockwise: each row is a column of `rows`, from bottom to top.
  abbrev pub rotated_90 : Table T → Table T
  rotated_90 rows = transposed (reverse rows)

  -- The table rotated by 180 degrees: flipped upside down and mirrored.
  abbrev pub rotated_180 : Table T → Table T
  rotated_180 rows = reverse (map reverse rows)

  -- The table rotated by 270 degrees clockwise: each row is a column of `rows`, starting with the
  -- rightmost column.
  abbrev pub rotated_270 : Table T → Table T
  rotated_270 rows = reverse (transposed rows)
