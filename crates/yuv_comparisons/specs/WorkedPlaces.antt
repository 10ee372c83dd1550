-- Examples that were calculated by hand. Each one is proved by computation (`refl`).
use Rattle.std.specs.Prelude.{◌≡◌, ◌∷◌, ◌++◌, [], None, codes, refl}
use Rattle.yuv_comparisons.specs.Places.{chroma_said, plane_said}

no_difference :
    plane_said (codes "U")
    (record { count = 0; first = None; greatest = record { difference = 0; x = 0; y = 0 } })
    ≡ codes "U: no difference" ++ (10 ∷ [])
no_difference = refl

no_chroma : chroma_said (codes "V") None ≡ []
no_chroma = refl
