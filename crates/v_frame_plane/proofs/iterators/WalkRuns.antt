-- The items that calls from one end yield, for an iterator that is seen as the list of the remaining items.
use Rattle.std.proofs.Common.{List, [], ◌∷◌, length, Option, Some, None, ap, arith, length-append}
use Rattle.std.proofs.iter.runs.Sources.{from_front, from_back, as_is, as_is_back}
use Rattle.std.specs.Iterator.{YieldsFirstMut, YieldsLastMut, MakesProgress, at_most}
use Rattle.std.specs.Iterator.Runs.{YieldsMutRefsInOrder, YieldsMutRefsInReverse}
use Rattle.std.specs.Map.Iter.{TakesFirst, TakesLast, ShowsInOrder, ShowsInReverse, GivesInOrder, GivesInReverse}

module _ {A X : Type 0} (shows : A → X) where
  pub shows_in_order : ShowsInOrder shows
  shows_in_order = from_front (TakesFirst shows) shows (λ s. s) (λ s t h. ap length h.0) (λ s x t h. h)

  pub shows_in_reverse : ShowsInReverse shows
  shows_in_reverse = from_back (TakesLast shows) shows (λ s. s) (λ s t h. ap length h.0) (λ s x t h. h)

  -- Such a call makes progress: one item fewer remains, or there was none.
  pub first_taken : (can : List X → Type 0) (items left : List X) (r : Option A) → can left → TakesFirst shows items r
      left →
      MakesProgress can (λ rest. at_most (length rest)) items r left
  first_taken can items left None may h = record { on = λ _. tt; keeps = tt; rests = λ _. tt }
  first_taken can items left (Some item) may h = record
      { on = λ _. (may, tt, omega (arith, ap length h)); keeps = may; rests = λ _. tt }

  pub last_taken : (can : List X → Type 0) (items left : List X) (r : Option A) → can left → TakesLast shows items r
      left →
      MakesProgress can (λ rest. at_most (length rest)) items r left
  last_taken can items left None may h = record { on = λ _. tt; keeps = tt; rests = λ _. tt }
  last_taken can items left (Some item) may h = record {
    on = λ _. (may, tt, omega (arith, ap length h, length-append left (shows item ∷ [])));
    keeps = may;
    rests = λ _. tt;
  }

module _ {X : Type 0} where
  pub gives_in_order : GivesInOrder X
  gives_in_order p s = as_is p p.from (shows_in_order (λ x. x) p s)

  pub gives_in_reverse : GivesInReverse X
  gives_in_reverse p s = as_is_back p p.from (shows_in_reverse (λ x. x) p s)

-- The same lemmas for an iterator whose items are mutable references.
module _ {S X : Type 0} (rest : S → List X) where
  pub lends_in_order : YieldsMutRefsInOrder (YieldsFirstMut rest) rest
  lends_in_order = from_front (YieldsFirstMut rest) (λ x. x.now) rest (λ s t h. ap length h.0) (λ s x t h. h)

  pub lends_in_reverse : YieldsMutRefsInReverse (YieldsLastMut rest) rest
  lends_in_reverse = from_back (YieldsLastMut rest) (λ x. x.now) rest (λ s t h. ap length h.0) (λ s x t h. h)
