-- The minimum and the maximum of two joined lists, and therefore with one more pixel or one more row.
use Rattle.std.proofs.Common.{ℕ, ◌≡◌, ◌+◌, ◌<◌, ◌≤◌, List, [], ◌∷◌, ◌++◌, length, take, get_or, Some, slice_get}
use Rattle.std.proofs.Common.{arith, refl, sym, ◌∙◌, ap, append_assoc, ◌⊎◌, inl, inr}
use Rattle.std.proofs.lemmas.List.{take_all, take_more, append-nil}
use Rattle.std.proofs.lemmas.List.Elements.{All-append, All-more, Contains-append_left}
use Rattle.std.proofs.lemmas.List.Elements.{Contains-append_right}
use Rattle.std.specs.Prelude.{All, Contains}
use Rattle.std.proofs.lemmas.Option.{slice_get_within, get_or_from_slice_get}
use Rattle.v_frame.specs.Prelude.{Table, row_major}
use Rattle.v_frame_raster.proofs.tables.CutRows.{row_major-append}
use Rattle.v_frame_statistics.specs.Extremes.{IsFirst}

module _ {T : Type 0} where
  -- The first rows of a table joined to a list, and one more row.
  pub first_rows : (table : Table T) (y : ℕ) (row : List T) → slice_get table y ≡ Some row
      → row_major (take (y + 1) table) ≡ row_major (take y table) ++ row
  first_rows table y row is =
      rw (
        take_more table y row (slice_get_within table y row is),
        get_or_from_slice_get table y row row is,
        row_major-append (take y table) (row ∷ []),
        append-nil row,
      ) refl

  -- The order is reflexive and transitive.
  pub record IsOrder (comes : T → T → Type 0) : Type 0 where
    pub itself : (a : T) → comes a a
    pub passes : (a b c : T) → comes a b → comes b c → comes a c

  pub by_least : (value : T → ℕ) → IsOrder (λ p q. value p ≤ value q)
  by_least value = record { itself = λ a. omega arith; passes = λ a b c h k. omega (arith, h, k) }

  pub by_greatest : (value : T → ℕ) → IsOrder (λ p q. value q ≤ value p)
  by_greatest value = record { itself = λ a. omega arith; passes = λ a b c h k. omega (arith, h, k) }

-- An item of the list comes before all items below an index.
pub record FirstSoFar {T : Type 0} (comes : T → T → Type 0) (xs : List T) (x : ℕ) (first : T) : Type 0 where
  pub bound : All (λ p. comes first p) (take x xs)
  pub occurs : Contains xs first

module _ {T : Type 0} {comes : T → T → Type 0} (order : IsOrder comes) where
  -- The first item of two joined lists is the first item of one of them.
  abbrev pub FirstOf : T → T → T → Type 0
  FirstOf a b m = (m ≡ a) × comes a b ⊎ (m ≡ b) × comes b a

  first_of_joined : (xs ys : List T) (a b m : T) → FirstOf a b m → IsFirst comes xs a → IsFirst comes ys b
      → IsFirst comes (xs ++ ys) m
  first_of_joined xs ys a b m (inl is) first second =
      rw (is.0) (record {
        bound = All-append (comes a) xs ys first.bound (λ k d h. order.passes a b _ is.1 (second.bound k d h));
        occurs = Contains-append_left xs ys a first.occurs;
      })
  first_of_joined xs ys a b m (inr is) first second =
      rw (is.0) (record {
        bound = All-append (comes b) xs ys (λ k d h. order.passes b a _ is.1 (first.bound k d h)) second.bound;
        occurs = Contains-append_right xs ys b second.occurs;
      })

  -- The loop step: one more row, and one more item.
  pub first_of_more_rows : (table : Table T) (y : ℕ) (row : List T) → slice_get table y ≡ Some row → (a b m : T)
      → IsFirst comes (row_major (take y table)) a → IsFirst comes row b → FirstOf a b m
      → IsFirst comes (row_major (take (y + 1) table)) m
  first_of_more_rows table y row is a b m so_far here choice =
      rw (first_rows table y row is) (first_of_joined (row_major (take y table)) row a b m choice so_far here)

  pub first_of_more : (xs : List T) (x : ℕ) (a b m : T) → x < length xs → b ≡ get_or xs x b
      → FirstSoFar comes xs x a → FirstOf a b m → FirstSoFar comes xs (x + 1) m
  first_of_more xs x a b m h read so_far (inl is) =
      rw (is.0) (record {
        bound = All-more (comes a) xs x b h so_far.bound (rw (← read) (is.1));
        occurs = so_far.occurs;
      })
  first_of_more xs x a b m h read so_far (inr is) =
      rw (is.0) (record {
        bound =
            All-more (comes b) xs x b h (λ k d within. order.passes b a _ is.1 (so_far.bound k d within))
            (rw (← read) (order.itself b));
        occurs = (x, h, sym read);
      })

  -- After the last step, the first item so far is the first item of the list.
  pub first_of_all : (xs : List T) (x : ℕ) (a : T) → length xs ≤ x → FirstSoFar comes xs x a → IsFirst comes xs a
  first_of_all xs x a end so_far = record { bound = rw (take_all x xs end) at so_far.bound; occurs = so_far.occurs }
