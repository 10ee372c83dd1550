-- The effect of writes to the items of an iterator that lends rows or pixels. It is described by
-- the final values of the items: their values when the borrow ends.
use Rattle.std.specs.Prelude.{List, Option, Some, None}
use Rattle.std.specs.Borrow.{Fml, GName, MutBor}
use base.Fml.{fsep, fwand, fall}

-- `Ends` states that the item of a borrow has this final value. `FinalItems` states that the
-- remaining items of an iterator have these final values.
module _ {Walk Item : Type 0} (Ends : GName → Item → Fml)
    (FinalItems : Walk → List Item → Fml) where
  -- The final values of the items that remained before are those of the items that remain now.
  abbrev pub Keeps : Walk → Walk → Fml
  Keeps old new = fall (List Item) (λ second. fwand (FinalItems new second) (FinalItems old second))

  -- The final values of the items that remained before are those of the items that remain now, with
  -- the final value of this item added by `put`.
  abbrev pub Takes : (put : Item → List Item → List Item) → Walk → Walk → MutBor Item → Fml
  Takes put old new item =
      fall (Item × List Item) (λ held.
      fwand (fsep (Ends item.ghost_name held.0) (FinalItems new held.1))
      (FinalItems old (put held.0 held.1)))

-- The effect of a call that yields an item or nothing.
abbrev pub LendsBy : {Walk Item : Type 0} → (Walk → Walk → Fml) → (Walk → Walk → MutBor Item → Fml)
    → Walk → Option (MutBor Item) → Walk → Fml
LendsBy keeps takes old None new = keeps old new
LendsBy keeps takes old (Some item) new = takes old new item
