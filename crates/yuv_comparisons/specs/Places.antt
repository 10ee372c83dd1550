-- The text that states where two frames differ.
use Rattle.std.specs.Prelude.{ℕ, ◌≡◌, ◌∷◌, ◌++◌, [], List, Option, Some, None, codes, decimal, IfSome}
use Rattle.v_frame_measures.specs.declared.differences.GreatestDifference.{GreatestDifference}
use Rattle.yuv_pictures.specs.declared.places.Found.{Found}
use Rattle.yuv_pictures.specs.declared.places.PlaneDifference.{PlaneDifference}

-- The number of samples that differ in the plane with this name, and the place of the first one.
abbrev pub first_said : List ℕ → ℕ → ℕ × ℕ → List ℕ
first_said name count place =
    name
    ++ (codes ": "
    ++ (decimal count
    ++ (codes " samples differ; first difference: column "
    ++ (decimal place.0 ++ (codes ", row " ++ decimal place.1)))))

-- The greatest difference, and the first place where it occurs.
abbrev pub greatest_said : GreatestDifference → List ℕ
greatest_said found =
    codes "; greatest difference: "
    ++ (decimal found.difference
    ++ (codes ", column " ++ (decimal found.x ++
    (codes ", row " ++ (decimal found.y ++ (10 ∷ []))))))

-- The line of the plane with this name.
abbrev pub plane_said : List ℕ → PlaneDifference → List ℕ
plane_said name found = said_of found.first where
  said_of : Option (ℕ × ℕ) → List ℕ
  said_of None = name ++ (codes ": no difference" ++ (10 ∷ []))
  said_of (Some place) = first_said name found.count place ++ greatest_said found.greatest

-- The line of a chroma plane, if the frames have it.
abbrev pub chroma_said : List ℕ → Option PlaneDifference → List ℕ
chroma_said name None = []
chroma_said name (Some found) = plane_said name found

-- A line for each plane.
abbrev pub found_said : Found → List ℕ
found_said found =
    plane_said (codes "Y") found.y
    ++ (chroma_said (codes "U") found.u ++ chroma_said (codes "V") found.v)

-- Two frames show no difference.
pub record ShowNoDifference (found : Found) : Type 0 where
  pub y : found.y.count ≡ 0
  pub u : IfSome found.u (λ plane. plane.count ≡ 0)
  pub v : IfSome found.v (λ plane. plane.count ≡ 0)
