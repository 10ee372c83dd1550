-- The position of each color in the list of colors that a parameter can state. No two colors are
-- spelled alike.
use Rattle.std.proofs.Common.{ℕ, ◌≡◌, ◌≢◌, ◌+◌, ◌<◌, ◌≤◌, List, [], ◌∷◌, drop, get_or, cond, refl, sym, ◌∙◌, ap, subst}
use Rattle.std.proofs.Common.{rules, arith}
use Rattle.std.specs.Prelude.{Option, Some, None, unwrap_or}
use Rattle.std.specs.Str.{bytes_eq}
use Rattle.std.specs.List.{AllByRecursion}
use Rattle.std.proofs.lemmas.List.Elements.{All-from_recursion}
use Rattle.v_frame_y4m.specs.Color.{color_text, stated}
use Rattle.v_frame_y4m.specs.Header.{parameter_of}
use Rattle.v_frame_y4m.specs.declared.color.TheConstants.{STATED}
use Rattle.v_frame_y4m.specs.declared.color.Depth.TheVariants.{Nine, Ten, Twelve, Fourteen, Sixteen}
use Rattle.v_frame_y4m.specs.declared.color.Color.{Color}
use Rattle.v_frame_y4m.specs.declared.color.Color.TheVariants.{Unstated, Yuv420, Yuv420Jpeg, Yuv420Mpeg2, Yuv420Paldv}
use Rattle.v_frame_y4m.specs.declared.color.Color.TheVariants.{Yuv411, Yuv422, Yuv444, Mono, Yuv420HighDepth}
use Rattle.v_frame_y4m.specs.declared.color.Color.TheVariants.{Yuv422HighDepth, Yuv444HighDepth, MonoHighDepth}

abbrev pub rank : Color → ℕ
rank Unstated = 28
rank Yuv420 = 0
rank Yuv420Jpeg = 1
rank Yuv420Mpeg2 = 2
rank Yuv420Paldv = 3
rank Yuv411 = 4
rank Yuv422 = 5
rank Yuv444 = 6
rank Mono = 7
rank (Yuv420HighDepth Nine) = 8
rank (Yuv420HighDepth Ten) = 9
rank (Yuv420HighDepth Twelve) = 10
rank (Yuv420HighDepth Fourteen) = 11
rank (Yuv420HighDepth Sixteen) = 12
rank (Yuv422HighDepth Nine) = 13
rank (Yuv422HighDepth Ten) = 14
rank (Yuv422HighDepth Twelve) = 15
rank (Yuv422HighDepth Fourteen) = 16
rank (Yuv422HighDepth Sixteen) = 17
rank (Yuv444HighDepth Nine) = 18
rank (Yuv444HighDepth Ten) = 19
rank (Yuv444HighDepth Twelve) = 20
rank (Yuv444HighDepth Fourteen) = 21
rank (Yuv444HighDepth Sixteen) = 22
rank (MonoHighDepth Nine) = 23
rank (MonoHighDepth Ten) = 24
rank (MonoHighDepth Twelve) = 25
rank (MonoHighDepth Fourteen) = 26
rank (MonoHighDepth Sixteen) = 27

none_is_not_some : (c : Color) → None ≡ Some c → ⊥
none_is_not_some c is = search rules

pub ranked : (c w : Color) → stated c ≡ Some c → get_or STATED (rank c) w ≡ c
ranked Unstated w is = absurd (none_is_not_some Unstated is)
ranked Yuv420 w is = refl
ranked Yuv420Jpeg w is = refl
ranked Yuv420Mpeg2 w is = refl
ranked Yuv420Paldv w is = refl
ranked Yuv411 w is = refl
ranked Yuv422 w is = refl
ranked Yuv444 w is = refl
ranked Mono w is = refl
ranked (Yuv420HighDepth Nine) w is = refl
ranked (Yuv420HighDepth Ten) w is = refl
ranked (Yuv420HighDepth Twelve) w is = refl
ranked (Yuv420HighDepth Fourteen) w is = refl
ranked (Yuv420HighDepth Sixteen) w is = refl
ranked (Yuv422HighDepth Nine) w is = refl
ranked (Yuv422HighDepth Ten) w is = refl
ranked (Yuv422HighDepth Twelve) w is = refl
ranked (Yuv422HighDepth Fourteen) w is = refl
ranked (Yuv422HighDepth Sixteen) w is = refl
ranked (Yuv444HighDepth Nine) w is = refl
ranked (Yuv444HighDepth Ten) w is = refl
ranked (Yuv444HighDepth Twelve) w is = refl
ranked (Yuv444HighDepth Fourteen) w is = refl
ranked (Yuv444HighDepth Sixteen) w is = refl
ranked (MonoHighDepth Nine) w is = refl
ranked (MonoHighDepth Ten) w is = refl
ranked (MonoHighDepth Twelve) w is = refl
ranked (MonoHighDepth Fourteen) w is = refl
ranked (MonoHighDepth Sixteen) w is = refl

-- The color that a text spells. Only proofs use it.
abbrev pub spelled_by : List ℕ → List Color → Color
spelled_by text [] = Unstated
spelled_by text (c ∷ cs) = cond (bytes_eq (color_text c) text) c (spelled_by text cs)

-- The color that the parameters of its letter state.
abbrev pub said_by : List (List ℕ) → Color
said_by parameters = spelled_by (drop 1 (get_or parameters 0 [])) STATED

pub said_again : (c : Color) → said_by (parameter_of 67 color_text (stated c)) ≡ c
said_again Unstated = refl
said_again Yuv420 = refl
said_again Yuv420Jpeg = refl
said_again Yuv420Mpeg2 = refl
said_again Yuv420Paldv = refl
said_again Yuv411 = refl
said_again Yuv422 = refl
said_again Yuv444 = refl
said_again Mono = refl
said_again (Yuv420HighDepth Nine) = refl
said_again (Yuv420HighDepth Ten) = refl
said_again (Yuv420HighDepth Twelve) = refl
said_again (Yuv420HighDepth Fourteen) = refl
said_again (Yuv420HighDepth Sixteen) = refl
said_again (Yuv422HighDepth Nine) = refl
said_again (Yuv422HighDepth Ten) = refl
said_again (Yuv422HighDepth Twelve) = refl
said_again (Yuv422HighDepth Fourteen) = refl
said_again (Yuv422HighDepth Sixteen) = refl
said_again (Yuv444HighDepth Nine) = refl
said_again (Yuv444HighDepth Ten) = refl
said_again (Yuv444HighDepth Twelve) = refl
said_again (Yuv444HighDepth Fourteen) = refl
said_again (Yuv444HighDepth Sixteen) = refl
said_again (MonoHighDepth Nine) = refl
said_again (MonoHighDepth Ten) = refl
said_again (MonoHighDepth Twelve) = refl
said_again (MonoHighDepth Fourteen) = refl
said_again (MonoHighDepth Sixteen) = refl

pub one_color : (c d : Color) → parameter_of 67 color_text (stated c) ≡ parameter_of 67 color_text (stated d) → c ≡
    d
one_color c d same = sym (said_again c) ∙ ap said_by same ∙ said_again d

-- A color that a parameter states is stated as itself.
pub stated_is : (c d : Color) → stated c ≡ Some d → stated d ≡ Some d
stated_is Unstated d said = absurd (none_is_not_some d said)
stated_is Yuv420 d said = subst (λ (x : Color). stated x ≡ Some x)
    (ap (λ (o : Option Color). unwrap_or o Unstated) said) refl
stated_is Yuv420Jpeg d said = subst (λ (x : Color). stated x ≡ Some x)
    (ap (λ (o : Option Color). unwrap_or o Unstated) said) refl
stated_is Yuv420Mpeg2 d said = subst (λ (x : Color). stated x ≡ Some x)
    (ap (λ (o : Option Color). unwrap_or o Unstated) said) refl
stated_is Yuv420Paldv d said = subst (λ (x : Color). stated x ≡ Some x)
    (ap (λ (o : Option Color). unwrap_or o Unstated) said) refl
stated_is Yuv411 d said = subst (λ (x : Color). stated x ≡ Some x)
    (ap (λ (o : Option Color). unwrap_or o Unstated) said) refl
stated_is Yuv422 d said = subst (λ (x : Color). stated x ≡ Some x)
    (ap (λ (o : Option Color). unwrap_or o Unstated) said) refl
stated_is Yuv444 d said = subst (λ (x : Color). stated x ≡ Some x)
    (ap (λ (o : Option Color). unwrap_or o Unstated) said) refl
stated_is Mono d said = subst (λ (x : Color). stated x ≡ Some x)
    (ap (λ (o : Option Color). unwrap_or o Unstated) said) refl
stated_is (Yuv420HighDepth depth) d said = subst (λ (x : Color). stated x ≡ Some x)
    (ap (λ (o : Option Color). unwrap_or o Unstated) said) refl
stated_is (Yuv422HighDepth depth) d said = subst (λ (x : Color). stated x ≡ Some x)
    (ap (λ (o : Option Color). unwrap_or o Unstated) said) refl
stated_is (Yuv444HighDepth depth) d said = subst (λ (x : Color). stated x ≡ Some x)
    (ap (λ (o : Option Color). unwrap_or o Unstated) said) refl
stated_is (MonoHighDepth depth) d said = subst (λ (x : Color). stated x ≡ Some x)
    (ap (λ (o : Option Color). unwrap_or o Unstated) said) refl

-- If a text does not spell the current color, its color comes later in the list.
pub further : (text : List ℕ) (i : ℕ) (w c : Color) → ¬ (text ≡ color_text (get_or STATED i w)) → stated c ≡ Some c →
    text ≡ color_text c → i ≤ rank c
    → i + 1 ≤ rank c
further text i w c miss said is low =
    let other : i ≢ rank c = λ e. miss (is ∙ ap color_text
    (sym (ap (λ (k : ℕ). get_or STATED k w) e ∙ ranked c w said))) in
    omega (arith, other, low)

listed : AllByRecursion (λ c. stated c ≡ Some c) STATED
listed = (
  refl,
  (
    refl,
    (
      refl,
      (
        refl,
        (
          refl,
          (
            refl,
            (
              refl,
              (
                refl,
                (
                  refl,
                  (
                    refl,
                    (
                      refl,
                      (
                        refl,
                        (
                          refl,
                          (
                            refl,
                            (
                              refl,
                              (
                                refl,
                                (
                                  refl,
                                  (
                                    refl,
                                    (
                                      refl,
                                      (
                                        refl,
                                        (
                                          refl,
                                          (refl, (refl, (refl, (refl, (refl, (refl, (refl, tt))))))),
                                        ),
                                      ),
                                    ),
                                  ),
                                ),
                              ),
                            ),
                          ),
                        ),
                      ),
                    ),
                  ),
                ),
              ),
            ),
          ),
        ),
      ),
    ),
  ),
)

pub stated_at : (i : ℕ) (w : Color) → i < 28 → stated (get_or STATED i w) ≡ Some (get_or STATED i w)
stated_at i w within = All-from_recursion (λ c. stated c ≡ Some c) STATED listed i w within
