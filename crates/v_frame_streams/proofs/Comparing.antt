-- One more pair of frames of two streams.
use Rattle.std.proofs.Common.{ℕ, ◌≡◌, ◌+◌, ◌<◌, List, [], ◌∷◌, ◌++◌, length, map, Option, refl, sym, ◌∙◌, ap, subst}
use Rattle.std.proofs.Common.{arith, length-append, inl, inr, Bool, false}
use Rattle.std.specs.Prelude.{◌↔◌, ◌⊎◌, Some, None, IfSome, IsNone}
use Rattle.std.proofs.lemmas.List.{append_assoc, length-map, map-append}
use Rattle.std.proofs.lemmas.List.Elements.{All-push}
use Rattle.std.proofs.lemmas.List.Sums.{fold_push}
use Rattle.std.specs.Io.KnownBytes.{Consumes}
use Rattle.v_frame.specs.Prelude.{PixelForm, Tables}
use Rattle.v_frame_streams.specs.Comparisons.{errors_between, errors_of_all, shown, Adds, Compares, ComparesFrames, IsDifference, Pair, TakesEach, Watches, WatchesFrames}
use Rattle.v_frame_streams.specs.Frames.{FramesDifferFirst}
use Rattle.v_frame_streams.specs.Pictures.{Sizes}
use Rattle.v_frame_streams.specs.Sources.{Stream}
use Rattle.v_frame_streams.specs.Streams.{framed_bytes, longer_of, Framed, IsFrame, ReadsFrames, ReadsWhole}
use Rattle.v_frame_formats.specs.Sums.{added}
use Rattle.v_frame_streams.specs.Sums.{no_errors}
use Rattle.v_frame_streams.specs.declared.comparison.Comparison.{Comparison}
use Rattle.v_frame_formats.specs.declared.difference.PixelDifference.{PixelDifference}
use Rattle.v_frame_streams.specs.declared.stream.Place.{Place}
use Rattle.v_frame_formats.specs.declared.sums.PlaneSums.{PlaneSums}
use Rattle.v_frame_streams.proofs.Reading.{none_read, one_more_read}

module _ {T : Type 0} (form : PixelForm T) where
  -- The first pixel that differs stays the first.
  one_more_difference : (pairs : List (Pair T)) (pair : Pair T) (earlier now : Option (ℕ × PixelDifference)) →
      IsDifference form pairs earlier
      → IfSome earlier (λ found. now ≡ Some found) → IsNone now ↔ (IsNone earlier × (pair.0 ≡ pair.1))
      → IfSome now (λ found. IsNone earlier → (found.0 ≡ length pairs) × FramesDifferFirst form.value pair.0 pair.1
      found.1)
      → IsDifference form (pairs ++ pair ∷ []) now
  one_more_difference pairs pair (Some found) now before stays same first =
      subst (λ (d : Option (ℕ × PixelDifference)). IsDifference form (pairs ++ pair ∷ []) d) (sym stays)
      (record {
        earlier = before.earlier;
        pair = before.pair;
        later = before.later ++ pair ∷ [];
        parts = ap (λ (l : List (Pair T)). l ++ pair ∷ []) before.parts ∙ append_assoc before.earlier
            (before.pair ∷ before.later) (pair ∷ []);
        counted = before.counted;
        same = before.same;
        differs = before.differs;
      })
  one_more_difference pairs pair None None before stays same first = All-push (λ (p : Pair T). p.0 ≡ p.1) pairs pair
      before ((same.0 refl).1)
  one_more_difference pairs pair None (Some found) before stays same first =
      let told = first refl in
      record {
        earlier = pairs;
        pair = pair;
        later = [];
        parts = refl;
        counted = sym told.0;
        same = before;
        differs =
            told.1;
      }

  -- The sums of two frames, plane by plane.
  abbrev planes : ℕ → Option ℕ → Option ℕ → PlaneSums
  planes y u v = record { y = y; u = u; v = v }

  pub errors_by_planes : (pair : Pair T) (sums : PlaneSums) → sums.y ≡ (errors_between form pair).y → sums.u ≡
      (errors_between form pair).u
      → sums.v ≡ (errors_between form pair).v → sums ≡ errors_between form pair
  errors_by_planes pair sums same_y same_u same_v =
      let all = errors_between form pair in
      ap (λ (y : ℕ). planes y sums.u sums.v) same_y ∙ ap (λ (u : Option ℕ). planes all.y u sums.v) same_u ∙ ap
      (λ (v : Option ℕ). planes all.y all.u v) same_v

  -- The observer received one more pair.
  each_and_one : {A : Type 0} (takes : A → A → Tables T → Tables T → PlaneSums → Type 0) (pairs : List (Pair T))
      (pair : Pair T) (old mid new : A) → TakesEach form takes pairs old mid
      → takes mid new pair.0 pair.1 (errors_between form pair) → TakesEach form takes (pairs ++ pair ∷ []) old new
  each_and_one {A} takes [] pair old mid new before told =
      (new, subst (λ (a : A). takes a new pair.0 pair.1 (errors_between form pair)) before told, refl)
  each_and_one takes (first ∷ pairs) pair old mid new before told =
      (before.0, before.1, each_and_one takes pairs pair before.0 mid new before.2 told)

  module _ (size : Sizes) (one other : Stream) where
    pub none_compared : (left right : Option (List ℕ)) → ComparesFrames form size one other left left right right
        (record { frames = 0; errors = no_errors size; difference = None; longer = None })
    none_compared left right = record {
      frames = [];
      counted = refl;
      errors = refl;
      difference = λ k d within. absurd (omega arith);
      first = none_read one.container one.frame_len left;
      second = none_read other.container other.frame_len right;
    }

    pub none_watched : {A : Type 0} (takes : A → A → Tables T → Tables T → PlaneSums → Type 0) (old : A)
        (left right : Option (List ℕ)) → WatchesFrames form size takes old old one other left left right right
        (record { frames = 0; errors = no_errors size; difference = None; longer = None })
    unfolding none_compared
    none_watched takes old left right = (none_compared left right, refl)

    module _ (left mid_left left' right far right' : Option (List ℕ)) (found now : Comparison)
        (before : ComparesFrames form size one other left mid_left right far found) where
      pub one_more_compared : (first second : Framed) → IsFrame one.container one.frame_len first
          → Consumes mid_left left' (framed_bytes one.container first) → IsFrame other.container other.frame_len second
          → Consumes far right' (framed_bytes other.container second)
          → Adds form found now (shown form size one.layout other.layout (first, second))
          → ComparesFrames form size one other left left' right right' now
      one_more_compared first second whole read also_whole also_read adds =
          let frames : Framed × Framed = (first, second) in
          let pair = shown form size one.layout other.layout frames in
          let pairs = map (shown form size one.layout other.layout) before.frames in
          let grown : map (shown form size one.layout other.layout) (before.frames ++ frames ∷ []) ≡ pairs ++ pair ∷ [] =
          map-append (shown form size one.layout other.layout) before.frames (frames ∷ []) in
          let many : length pairs ≡ found.frames = length-map before.frames (shown form size one.layout other.layout) ∙ before.counted in
          record {
            frames = before.frames ++ frames ∷ [];
            counted = length-append before.frames (frames ∷ []) ∙ ap (λ (n : ℕ). n + 1) before.counted ∙ sym adds.frames;
            errors = adds.errors ∙ ap (λ (e : PlaneSums). added e (errors_between form pair)) before.errors ∙ sym
                (fold_push (λ (e : PlaneSums) (p : Pair T). added e (errors_between form p)) (no_errors size) pairs pair)
                ∙ ap (errors_of_all form size) (sym grown);
            difference = subst (λ (l : List (Pair T)). IsDifference form l now.difference) (sym grown)
                (one_more_difference pairs pair found.difference now.difference before.difference adds.stays adds.same
                (subst (λ (n : ℕ). IfSome now.difference (λ f. IsNone found.difference
                → (f.0 ≡ n) × FramesDifferFirst form.value pair.0 pair.1 f.1)) (sym many) adds.first));
            first = subst (ReadsFrames left left' one.container one.frame_len)
                (sym (map-append (λ (f : Framed × Framed). f.0) before.frames (frames ∷ [])))
                (one_more_read one.container one.frame_len left mid_left left' _ before.first first whole read);
            second = subst (ReadsFrames right right' other.container other.frame_len)
                (sym (map-append (λ (f : Framed × Framed). f.1) before.frames (frames ∷ [])))
                (one_more_read other.container other.frame_len right far right' _ before.second second also_whole also_read);
          }

      -- One stream or both ended.
      pub compared_to_end : (most : ℕ) → found.frames < most → (longer : Option Place) (more also : Bool)
          → ReadsWhole mid_left left' one.container one.frame_len more
          → ReadsWhole far right' other.container other.frame_len also
          → longer ≡ longer_of more also → (more ≡ false) ⊎ (also ≡ false)
          → Compares form size one other left left' right right' most
          (record { frames = found.frames; errors = found.errors; difference = found.difference; longer = longer })
      compared_to_end most fewer longer more also read also_read told shorter = record {
        mid = mid_left;
        far = far;
        compared = record {
          frames = before.frames;
          counted = before.counted;
          errors = before.errors;
          difference = before.difference;
          first = before.first;
          second = before.second;
        };
        bound = omega (arith, fewer);
        ends = inr (fewer, more, also, read, also_read, told, shorter);
      }

      -- One more pair of frames was compared, and the observer received it.
      pub one_more_watched : {A : Type 0} (takes : A → A → Tables T → Tables T → PlaneSums → Type 0) (old mid new : A)
          → TakesEach form takes (map (shown form size one.layout other.layout) before.frames) old mid
          → (first second : Framed) (first_is : IsFrame one.container one.frame_len first)
          (read : Consumes mid_left left' (framed_bytes one.container first))
          (second_is : IsFrame other.container other.frame_len second)
          (also_read : Consumes far right' (framed_bytes other.container second))
          (adds : Adds form found now (shown form size one.layout other.layout (first, second)))
          → takes mid new (shown form size one.layout other.layout (first, second)).0 (shown form size one.layout other.layout (first, second)).1
          (errors_between form (shown form size one.layout other.layout (first, second)))
          → WatchesFrames form size takes old new one other left left' right right' now
      unfolding one_more_compared
      one_more_watched takes old mid new taken first second first_is read second_is also_read adds told = (
        one_more_compared first second first_is read second_is also_read adds,
        subst (λ (l : List (Pair T)). TakesEach form takes l old new)
            (sym (map-append (shown form size one.layout other.layout) before.frames ((first, second) ∷ [])))
            (each_and_one takes (map (shown form size one.layout other.layout) before.frames) (shown form size one.layout other.layout (first, second)) old mid new taken
            told),
      )

      -- One stream or both ended, and the observer received the pairs before.
      pub watched_to_end : {A : Type 0} (takes : A → A → Tables T → Tables T → PlaneSums → Type 0) (old new : A)
          → TakesEach form takes (map (shown form size one.layout other.layout) before.frames) old new
          → (most : ℕ) → found.frames < most → (longer : Option Place) (more also : Bool)
          → ReadsWhole mid_left left' one.container one.frame_len more
          → ReadsWhole far right' other.container other.frame_len also
          → longer ≡ longer_of more also → (more ≡ false) ⊎ (also ≡ false)
          → Watches form size takes old new one other left left' right right' most
          (record { frames = found.frames; errors = found.errors; difference = found.difference; longer = longer })
      unfolding compared_to_end
      watched_to_end takes old new taken most fewer longer more also read also_read told shorter =
          (compared_to_end most fewer longer more also read also_read told shorter, taken)

    -- The requested number of pairs was compared.
    pub watched_all : {A : Type 0} (takes : A → A → Tables T → Tables T → PlaneSums → Type 0) (old new : A)
        (left left' right right' : Option (List ℕ)) (most : ℕ) (found : Comparison)
        → WatchesFrames form size takes old new one other left left' right right' found
        → found.frames ≡ most → found.longer ≡ None
        → Watches form size takes old new one other left left' right right' most found
    watched_all takes old new left left' right right' most found all whole none = (
      record {
        mid = left';
        far = right';
        compared = all.0;
        bound = omega (arith, whole);
        ends = inl (whole, refl, refl, none);
      },
      all.1,
    )
