-- The index of each option and command in its table. No two have the same text.
use Rattle.std.proofs.Common.{ℕ, ◌≡◌, ◌≢◌, ◌+◌, ◌<◌, ◌≤◌, Bool, true, ◌&&◌, List, [], ◌∷◌, length, get_or, refl, sym, ◌∙◌, ap}
use Rattle.std.proofs.Common.{arith, eqb, subst, suc, zero}
use Rattle.std.specs.Str.{bytes_eq}
use Rattle.std.specs.List.{list_all, position_or_len}
use Rattle.std.proofs.lemmas.Bool.{and_parts, eqb-true}
use Rattle.std.proofs.lemmas.List.Elements.{All-get_or}
use Rattle.std.proofs.lemmas.List.Sums.{AllPass-from_list_all}
use denote.Enum.Bare.{tag_one, Bare}
use denote.Enum.Declared.{rowss, tag_of, Declared}
use denote.Enum.Enum.{tag_below}
use Rattle.yuv_words.specs.Names.{command_text, option_text}
use Rattle.yuv_words.specs.Reading.{option_place}
use Rattle.yuv_words.specs.contracts.command.CommandName.{the_type as command_type}
use Rattle.yuv_words.specs.contracts.option_name.OptionName.{the_type as option_type}
use Rattle.yuv_words.specs.declared.command.CommandName.{CommandName}
use Rattle.yuv_words.specs.declared.option_name.OptionName.{OptionName}
use Rattle.yuv_words.specs.declared.option_name.TheConstants.{COMMANDS, OPTIONS}

-- A table of the variants of an enum without fields, in declaration order: the index of each
-- variant is its tag.
module _ (D : Declared) where
  abbrev in_order : ℕ → List D.D → Bool
  in_order k [] = true
  in_order k (a ∷ all) = eqb (tag_of D a) k && in_order (suc k) all

  tag_at : (k : ℕ) (all : List D.D) (i : ℕ) (w : D.D) → in_order k all ≡ true → i < length all
      → tag_of D (get_or all i w) ≡ k + i
  tag_at k [] i w order within = absurd (omega (arith, within))
  tag_at k (a ∷ all) zero w order within = omega (arith, eqb-true (tag_of D a) k (and_parts _ _ order).0)
  tag_at k (a ∷ all) (suc i) w order within =
      let more : tag_of D (get_or all i w) ≡ suc k + i = tag_at (suc k) all i w (and_parts _ _ order).1 (grind (arith, within)) in
      omega (arith, more)

  -- The index of a text in a table.
  abbrev place_of : List D.D → (D.D → List ℕ) → List ℕ → ℕ
  place_of all text word = position_or_len (λ a. bytes_eq (text a) word) all

  module _ (bare : Bare D.parts) (all : List D.D) (order : in_order 0 all ≡ true)
      (whole : length (rowss D.parts) ≡ length all) where
    below : (a : D.D) → tag_of D a < length all
    below a = subst (λ (n : ℕ). tag_of D a < n) whole (tag_below (rowss D.parts) (D.to a))

    stands : (a w : D.D) → get_or all (tag_of D a) w ≡ a
    stands a w = tag_one D bare _ a (tag_at 0 all (tag_of D a) w order (below a) ∙ omega arith)

    -- If a test holds for the whole table, it holds for each variant.
    each : (p : D.D → Bool) → list_all p all ≡ true → (a : D.D) → p a ≡ true
    each p is a = subst (λ (b : D.D). p b ≡ true) (stands a a)
        (All-get_or (λ b. p b ≡ true) all (tag_of D a) a (below a) (AllPass-from_list_all p all is))

    module _ (text : D.D → List ℕ)
        (apart : list_all (λ a. eqb (place_of all text (text a)) (tag_of D a)) all ≡ true) where
      placed : (a : D.D) → place_of all text (text a) ≡ tag_of D a
      placed a = eqb-true _ _ (each (λ b. eqb (place_of all text (text b)) (tag_of D b)) apart a)

      one : (a b : D.D) → text a ≡ text b → a ≡ b
      one a b same = tag_one D bare a b (sym (placed a) ∙ ap (place_of all text) same ∙ placed b)

      further : (word : List ℕ) (i : ℕ) (w a : D.D) → ¬ (word ≡ text (get_or all i w)) → word ≡ text a
          → i ≤ tag_of D a → i + 1 ≤ tag_of D a
      further word i w a miss is low =
          let other : i ≢ tag_of D a = λ e. miss (is ∙ ap text
          (sym (ap (λ (k : ℕ). get_or all k w) e ∙ stands a w))) in
          omega (arith, other, low)

pub option_below : (n : OptionName) → option_place n < 28
option_below = below option_type tt OPTIONS refl refl

pub each_option : (p : OptionName → Bool) → list_all p OPTIONS ≡ true → (n : OptionName) → p n ≡ true
each_option = each option_type tt OPTIONS refl refl

pub one_option : (n m : OptionName) → option_text n ≡ option_text m → n ≡ m
one_option = one option_type tt OPTIONS refl refl option_text refl

pub option_further : (word : List ℕ) (i : ℕ) (w n : OptionName) → ¬ (word ≡ option_text (get_or OPTIONS i w))
    → word ≡ option_text n → i ≤ option_place n → i + 1 ≤ option_place n
option_further = further option_type tt OPTIONS refl refl option_text refl

abbrev pub command_place : CommandName → ℕ
command_place k = tag_of command_type k

pub command_below : (k : CommandName) → command_place k < 8
command_below = below command_type tt COMMANDS refl refl

pub each_command : (p : CommandName → Bool) → list_all p COMMANDS ≡ true → (k : CommandName) → p k ≡ true
each_command = each command_type tt COMMANDS refl refl

pub one_command : (k j : CommandName) → command_text k ≡ command_text j → k ≡ j
one_command = one command_type tt COMMANDS refl refl command_text refl

pub command_further : (word : List ℕ) (i : ℕ) (w k : CommandName) → ¬ (word ≡ command_text (get_or COMMANDS i w))
    → word ≡ command_text k → i ≤ command_place k → i + 1 ≤ command_place k
command_further = further command_type tt COMMANDS refl refl command_text refl
