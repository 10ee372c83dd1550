-- The comparison of two streams, up to the end of the shorter one.
use Rattle.std.specs.Prelude.{ℕ, ◌≡◌, ◌+◌, ◌<◌, ◌≤◌, ◌↔◌, ◌⊎◌, All, Bool, false, List, [], ◌∷◌, ◌++◌, fold, length, map}
use Rattle.std.specs.Prelude.{Option, Some, None, IfSome, IsNone, unwrap_or}
use Rattle.v_frame.specs.Prelude.{PixelForm, Tables}
use Rattle.v_frame_semi_planar.specs.declared.format.SemiPlanarFormat.{SemiPlanarFormat}
use Rattle.v_frame_streams.specs.Frames.{chroma_errors, plane_errors, FramesDifferFirst}
use Rattle.v_frame_streams.specs.Pictures.{tables_of_bytes, Sizes}
use Rattle.v_frame_streams.specs.Sources.{Stream}
use Rattle.v_frame_streams.specs.Streams.{longer_of, most_frames, CountsFrames, Framed, ReadsFrames, ReadsWhole}
use Rattle.v_frame_formats.specs.Sums.{added}
use Rattle.v_frame_streams.specs.Sums.{no_errors}
use Rattle.v_frame_streams.specs.declared.comparison.CompareOptions.{CompareOptions}
use Rattle.v_frame_streams.specs.declared.comparison.Comparison.{Comparison}
use Rattle.v_frame_formats.specs.declared.difference.PixelDifference.{PixelDifference}
use Rattle.v_frame_formats.specs.declared.sums.PlaneSums.{PlaneSums}

-- The tables of two frames, one of each stream, at the same position.
abbrev pub Pair : Type 0 → Type 0
Pair T = Tables T × Tables T

module _ {T : Type 0} (form : PixelForm T) where
  -- The sums of the squared errors of two frames, one sum for each plane.
  abbrev pub errors_between : Pair T → PlaneSums
  errors_between pair =
      record {
        y = plane_errors form.value pair.0.y pair.1.y;
        u = chroma_errors form.value pair.0.u pair.1.u;
        v = chroma_errors form.value pair.0.v pair.1.v;
      }

  -- The sums of the squared errors of all pairs of frames.
  abbrev pub errors_of_all : Sizes → List (Pair T) → PlaneSums
  errors_of_all size pairs =
      fold (λ sums pair. added sums (errors_between pair)) (no_errors size) pairs

  -- An observer received each pair of frames in order, with the sums of its squared errors.
  abbrev pub TakesEach : {A : Type 0} → (A → A → Tables T → Tables T → PlaneSums → Type 0)
      → List (Pair T) → A → A → Type 0
  TakesEach takes [] old new = new ≡ old
  TakesEach {A} takes (pair ∷ pairs) old new =
      (mid : A) × takes old mid pair.0 pair.1 (errors_between pair) × TakesEach takes pairs mid new

  -- The first `before` pairs of frames are equal, and the next pair differs first at `found`.
  pub record DiffersAfter (pairs : List (Pair T)) (before : ℕ) (found : PixelDifference)
      : Type 0 where
    pub earlier : List (Pair T)
    pub pair : Pair T
    pub later : List (Pair T)
    pub parts : pairs ≡ earlier ++ pair ∷ later
    pub counted : length earlier ≡ before
    pub same : All (λ pair. pair.0 ≡ pair.1) earlier
    pub differs : FramesDifferFirst form.value pair.0 pair.1 found

  -- The result is the first pixel that differs, with the number of pairs before its own. Without a
  -- result, the frames of each pair are equal.
  abbrev pub IsDifference : List (Pair T) → Option (ℕ × PixelDifference) → Type 0
  IsDifference pairs None = All (λ pair. pair.0 ≡ pair.1) pairs
  IsDifference pairs (Some found) = DiffersAfter pairs found.0 found.1

  -- The result `now` is the earlier result `found`, extended by one pair of frames.
  pub record Adds (found now : Comparison) (pair : Pair T) : Type 0 where
    pub frames : now.frames ≡ found.frames + 1
    pub errors : now.errors ≡ added found.errors (errors_between pair)
    pub stays : IfSome found.difference (λ f. now.difference ≡ Some f)
    pub same : IsNone now.difference ↔ (IsNone found.difference × (pair.0 ≡ pair.1))
    pub first : IfSome now.difference (λ f. IsNone found.difference
        → (f.0 ≡ found.frames) × FramesDifferFirst form.value pair.0 pair.1 f.1)

  module _ (size : Sizes) where
    -- The tables of two frames with these bytes, each in its own layout.
    abbrev pub shown : Option SemiPlanarFormat → Option SemiPlanarFormat → Framed × Framed → Pair T
    shown one other frames =
        (tables_of_bytes form one size frames.0.1, tables_of_bytes form other size frames.1.1)

    module _ (one other : Stream) (left left' right right' : Option (List ℕ)) where
      -- The counted number of frames of each stream was read, and the result describes their
      -- tables.
      pub record ComparesFrames (found : Comparison) : Type 0 where
        pub frames : List (Framed × Framed)
        pub counted : length frames ≡ found.frames
        pub errors : found.errors ≡ errors_of_all size (map (shown one.layout other.layout) frames)
        pub difference : IsDifference (map (shown one.layout other.layout) frames) found.difference
        pub first : ReadsFrames left left' one.container one.frame_len (map (λ f. f.0) frames)
        pub second : ReadsFrames right right' other.container other.frame_len
            (map (λ f. f.1) frames)

    -- At most `most` pairs of frames were compared. If exactly `most` were, nothing after them was
    -- read, and neither stream is called longer. If there were fewer, at least one of the streams
    -- ended, and one more frame of the longer stream was read.
    pub record Compares (one other : Stream) (left left' right right' : Option (List ℕ)) (most : ℕ)
        (found : Comparison) : Type 0 where
      pub mid : Option (List ℕ)
      pub far : Option (List ℕ)
      pub compared : ComparesFrames one other left mid right far found
      pub bound : found.frames ≤ most
      pub ends : ((found.frames ≡ most) × (mid ≡ left') × (far ≡ right') × (found.longer ≡ None))
          ⊎ ((found.frames < most)
          × (more : Bool) × (also : Bool) × ReadsWhole mid left' one.container one.frame_len more
          × ReadsWhole far right' other.container other.frame_len also
          × (found.longer ≡ longer_of more also) × ((more ≡ false) ⊎ (also ≡ false)))

    -- Before the comparison, frames of each stream were skipped: the requested number, or all
    -- frames of the stream.
    pub record ComparesFrom (one other : Stream) (left left' right right' : Option (List ℕ))
        (options : CompareOptions)
        (found : Comparison) : Type 0 where
      pub start : Option (List ℕ)
      pub begin : Option (List ℕ)
      pub skipped : (count : ℕ)
          × CountsFrames left start one.container one.frame_len options.skip_first count
      pub also_skipped :
          (count : ℕ)
          × CountsFrames right begin other.container other.frame_len options.skip_second count
      pub compared : Compares one other start left' begin right'
          (unwrap_or options.count most_frames) found

    -- The frames were compared, and an observer received each pair.
    module _ {A : Type 0} (takes : A → A → Tables T → Tables T → PlaneSums → Type 0) (old new : A)
        (one other : Stream) (left left' right right' : Option (List ℕ)) where
      abbrev pub WatchesFrames : Comparison → Type 0
      WatchesFrames found =
          (all : ComparesFrames one other left left' right right' found)
          × TakesEach takes (map (shown one.layout other.layout) all.frames) old new

      abbrev pub Watches : ℕ → Comparison → Type 0
      Watches most found =
          (all : Compares one other left left' right right' most found)
          × TakesEach takes (map (shown one.layout other.layout) all.compared.frames) old new

      abbrev pub WatchesFrom : CompareOptions → Comparison → Type 0
      WatchesFrom options found =
          (all : ComparesFrom one other left left' right right' options found)
          × TakesEach takes (map (shown one.layout other.layout) all.compared.compared.frames)
          old new
