-- Small iterations with the results computed by hand. Each equation is proved by computation
-- (`refl`).
use Rattle.std.specs.Prelude.{ℕ, ◌≡◌, List, [], ◌∷◌, Option, Some, None, refl}
use Rattle.v_frame.specs.declared.replay.draw.Side.{Side}
use Rattle.v_frame.specs.declared.replay.draw.Side.TheVariants.{Front, Back}
use Rattle.v_frame.specs.declared.replay.draw.Drawn.{Drawn}
use Rattle.v_frame.specs.declared.replay.draw.RowDraw.{RowDraw}
use Rattle.v_frame.specs.declared.replay.draw.PixelDraw.{PixelDraw}
use Rattle.v_frame.specs.declared.replay.call.VisibleCall.{VisibleCall}
use Rattle.v_frame.specs.declared.replay.call.VisibleCall.TheVariants.{Rows, Pixels, ByteData, RowsMut, PixelsMut}
use Rattle.v_frame.specs.declared.replay.answer.Answer.TheVariants.{NoPlane, RowsWalked, PixelsWalked, BytesWalked}
use Rattle.v_frame.specs.Frame.{Tables}
use Rattle.v_frame_raster.specs.Pixel.{one_byte, two_bytes}
use Rattle.v_frame.specs.Replay.{answers_to, tables_after}
use Rattle.v_frame.specs.Walk.{draws_answer, drawn_in_turn, remaining_in_turn}

abbrev drawn : {X : Type 0} → Option X → ℕ → Drawn X
drawn item left = record { item = item; left = left }

-- Six items, taken from both sides until after their end.
abbrev six_items : List ℕ
six_items = 1 ∷ 2 ∷ 3 ∷ 4 ∷ 5 ∷ 6 ∷ []

abbrev seven_sides : List Side
seven_sides = Front ∷ Back ∷ Back ∷ Back ∷ Front ∷ Front ∷ Back ∷ []

abbrev seven_answers : List (Drawn ℕ)
seven_answers =
    drawn (Some 1) 5 ∷ drawn (Some 6) 4 ∷ drawn (Some 5) 3 ∷ drawn (Some 4) 2 ∷ drawn (Some 2) 1
    ∷ drawn (Some 3) 0 ∷ drawn None 0 ∷ []

seven_by_counts : draws_answer six_items seven_sides ≡ seven_answers
seven_by_counts = refl

seven_in_turn : drawn_in_turn six_items seven_sides ≡ seven_answers
seven_in_turn = refl

-- Rows are taken like any other items.
abbrev two_rows : List (List ℕ)
two_rows = (1 ∷ 2 ∷ 3 ∷ []) ∷ (4 ∷ 5 ∷ 6 ∷ []) ∷ []

rows_from_both_ends : draws_answer two_rows (Back ∷ Front ∷ Back ∷ [])
    ≡ drawn (Some (4 ∷ 5 ∷ 6 ∷ [])) 1 ∷ drawn (Some (1 ∷ 2 ∷ 3 ∷ [])) 0 ∷ drawn None 0 ∷ []
rows_from_both_ends = refl

-- A call from each end leaves the items between. An iterator without items yields nothing.
left_between : remaining_in_turn six_items (Back ∷ Front ∷ []) ≡ 2 ∷ 3 ∷ 4 ∷ 5 ∷ []
left_between = refl

no_items : draws_answer {X = ℕ} [] (Front ∷ Back ∷ []) ≡ drawn None 0 ∷ drawn None 0 ∷ []
no_items = refl

-- Iterations in a list of calls, on a plane of 3 by 2 pixels.
abbrev six_pixels : Tables ℕ
six_pixels = record { y = two_rows; u = None; v = None }

abbrev three_walks : List (VisibleCall ℕ)
three_walks = Pixels 0 (Back ∷ Front ∷ []) ∷ Rows 0 [] ∷ Rows 1 (Front ∷ []) ∷ []

walked_answers : answers_to one_byte three_walks six_pixels
    ≡ PixelsWalked 6 (drawn (Some 6) 5 ∷ drawn (Some 1) 4 ∷ []) ∷ RowsWalked 2 [] ∷ NoPlane ∷ []
walked_answers = refl

-- The pixels 0x0102 and 0x0304. The first is begun from the front and the second from the back, and
-- each is finished from the other end.
abbrev two_words : Tables ℕ
two_words = record { y = (258 ∷ 772 ∷ []) ∷ []; u = None; v = None }

begun_and_finished : answers_to two_bytes (ByteData 0 (Front ∷ Back ∷ Front ∷ Back ∷ Back ∷ [])
    ∷ []) two_words
    ≡ BytesWalked 4 (drawn (Some 2) 3 ∷ drawn (Some 3) 2 ∷ drawn (Some 1) 1 ∷ drawn (Some 4) 0
    ∷ drawn None 0 ∷ []) ∷ []
begun_and_finished = refl

one_byte_each : answers_to one_byte (ByteData 0 (Back ∷ Front ∷ []) ∷ []) six_pixels
    ≡ BytesWalked 6 (drawn (Some 6) 5 ∷ drawn (Some 1) 4 ∷ []) ∷ []
one_byte_each = refl

-- Iterations that write.
abbrev row_draw : Side → List (Option ℕ) → RowDraw ℕ
row_draw side writes = record { side = side; writes = writes }

abbrev pixel_draw : Side → Option ℕ → PixelDraw ℕ
pixel_draw side value = record { side = side; value = value }

abbrev showing : List (List ℕ) → Tables ℕ
showing rows = record { y = rows; u = None; v = None }

-- A pixel is taken once, and a call that takes no pixel writes nothing.
abbrev five_pixel_draws : List (VisibleCall ℕ)
five_pixel_draws =
    PixelsMut 0 (pixel_draw Front (Some 1) ∷ pixel_draw Back (Some 2) ∷ pixel_draw Back (Some 3)
    ∷ pixel_draw Back (Some 4) ∷ pixel_draw Front (Some 5) ∷ []) ∷ []

drawn_past_the_end : answers_to one_byte five_pixel_draws (showing ((5 ∷ 6 ∷ 7 ∷ []) ∷ []))
    ≡ PixelsWalked 3 (drawn (Some 5) 2 ∷ drawn (Some 7) 1 ∷ drawn (Some 6) 0 ∷ drawn None 0
    ∷ drawn None 0 ∷ []) ∷ []
drawn_past_the_end = refl

written_past_the_end : tables_after one_byte five_pixel_draws (showing ((5 ∷ 6 ∷ 7 ∷ []) ∷ []))
    ≡ showing ((1 ∷ 3 ∷ 2 ∷ []) ∷ [])
written_past_the_end = refl

-- An item that was taken but not written is unchanged.
abbrev three_pixel_draws : List (VisibleCall ℕ)
three_pixel_draws =
    PixelsMut 0 (pixel_draw Back (Some 9) ∷ pixel_draw Front None ∷ pixel_draw Front (Some 7) ∷ [])
    ∷ []

read_before_written : answers_to one_byte three_pixel_draws six_pixels
    ≡ PixelsWalked 6 (drawn (Some 6) 5 ∷ drawn (Some 1) 4 ∷ drawn (Some 2) 3 ∷ []) ∷ []
read_before_written = refl

written_from_both_ends : tables_after one_byte three_pixel_draws six_pixels
    ≡ showing ((1 ∷ 7 ∷ 3 ∷ []) ∷ (4 ∷ 5 ∷ 9 ∷ []) ∷ [])
written_from_both_ends = refl

-- The row at which both ends meet is written once.
abbrev two_row_draws : List (VisibleCall ℕ)
two_row_draws = RowsMut 0 (row_draw Front (Some 9 ∷ []) ∷ row_draw Back (Some 7 ∷ []) ∷ []) ∷ []

meeting_row_is_drawn_once : answers_to one_byte two_row_draws (showing ((3 ∷ 4 ∷ []) ∷ []))
    ≡ RowsWalked 1 (drawn (Some (3 ∷ 4 ∷ [])) 0 ∷ drawn None 0 ∷ []) ∷ []
meeting_row_is_drawn_once = refl

meeting_row_is_written_once : tables_after one_byte two_row_draws (showing ((3 ∷ 4 ∷ []) ∷ []))
    ≡ showing ((9 ∷ 4 ∷ []) ∷ [])
meeting_row_is_written_once = refl
