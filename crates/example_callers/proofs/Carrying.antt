-- One more frame of a stream, and the end of the stream.
use Rattle.std.proofs.Common.{ℕ, ◌≡◌, ◌+◌, List, [], ◌∷◌, ◌++◌, map, Option, min, refl, ◌∙◌, ap, arith, append-nil}
use Rattle.std.proofs.Common.{length-append}
use Rattle.std.proofs.lemmas.List.Elements.{All-push}
use Rattle.std.proofs.lemmas.Grind.{flat_map-append}
use Rattle.std.proofs.lemmas.List.{length-map}
use Rattle.std.specs.Io.KnownBytes.{Appends, Consumes}
use Rattle.std.proofs.KnownBytes.{Appends-nil, Appends-trans, Consumes-nil, Consumes-trans}
use Rattle.v_frame.specs.Prelude.{PixelForm, Table, Tables}
use Rattle.v_frame_planar.specs.Planar.{planar_bytes, size_of, sizes_of}
use Rattle.example_callers.specs.Streams.{brighter, Carries}

module _ {T : Type 0} {form : PixelForm T} {size : (ℕ × ℕ) × (Option (ℕ × ℕ) × Option (ℕ × ℕ))}
    {change : Tables T → Tables T} where
  pub none_yet : {left has : Option (List ℕ)} → Carries form size change left left has has 0
  none_yet {left} {has} = record {
    shown = [];
    counted = refl;
    sized = λ k d within. absurd (omega arith);
    read = Consumes-nil left;
    written = Appends-nil has;
  }

  module _ {left mid left' has now : Option (List ℕ)} {count : ℕ}
      (before : Carries form size change left mid has now count) where
    pub one_more_frame : {has' : Option (List ℕ)} {changed : Tables T} (tables : Tables T) → sizes_of tables ≡ size →
        Consumes mid left' (planar_bytes form tables) → changed ≡ change tables → Appends now has'
        (planar_bytes form changed) →
        Carries form size change left left' has has' (count + 1)
    one_more_frame {has'} tables sized read is written = record {
      shown = before.shown ++ tables ∷ [];
      counted = length-append before.shown (tables ∷ []) ∙ ap (λ n. n + 1) before.counted;
      sized = All-push (λ t. sizes_of t ≡ size) before.shown tables before.sized sized;
      read = simp (flat_map-append, append-nil) (Consumes-trans left mid left' _ _ before.read read);
      written = simp (flat_map-append, append-nil) (Appends-trans has now has' _ _ before.written (rw is at written));
    }

    pub no_more_frames : Consumes mid left' [] → Carries form size change left left' has now count
    no_more_frames read = record {
      shown = before.shown;
      counted = before.counted;
      sized = before.sized;
      read = rw append-nil at (Consumes-trans left mid left' _ [] before.read read);
      written = before.written;
    }

-- Increasing the pixels of a table keeps its size.
size_of_mapped : (f : ℕ → ℕ) (table : Table ℕ) → size_of (map (map f) table) ≡ size_of table
size_of_mapped f [] = refl
size_of_mapped f (row ∷ rows) = simp length-map

pub brighter_sizes : (by : ℕ) (tables : Tables ℕ) → sizes_of (brighter by tables) ≡ sizes_of tables
brighter_sizes by tables = simp (size_of_mapped (λ pixel. min (pixel + by) 255))
