-- Small cases of bytes that are copied in and read back, with the results computed by hand. Each
-- equation is proved by computation (`refl`).
use Rattle.std.specs.Prelude.{ℕ, ◌≡◌, List, [], ◌∷◌, None, Ok, Err, refl}
use Rattle.v_frame_raster.specs.Geometry.{usize_max}
use Rattle.v_frame_raster.specs.Table.{Table}
use Rattle.v_frame_plane.specs.Copy.{CopyOutcome, packed_copy, strided_copy, packed_byte_copy}
use Rattle.v_frame_raster.specs.StridedRows.{piece_fronts}
use Rattle.v_frame_raster.specs.Pixel.{one_byte, two_bytes, byte_list}
use Rattle.v_frame.specs.Frame.{Tables}
use Rattle.v_frame.specs.Replay.{answers_to, tables_after}
use Rattle.v_frame.specs.declared.replay.call.VisibleCall.{VisibleCall}
use Rattle.v_frame.specs.declared.replay.call.VisibleCall.TheVariants.{CopyFromU8Slice, CopyFromU8SliceWithStride}
use Rattle.v_frame.specs.declared.replay.answer.Answer.TheVariants.{NoPlane, Copied}
use Rattle.v_frame_plane.specs.declared.error.CopyError.TheVariants.{DataLength, InvalidStride}

-- Pixels that are their own values, with one byte and with two bytes.
abbrev small : Table ℕ → List ℕ → ℕ → CopyOutcome ℕ
small = strided_copy one_byte

abbrev wide : Table ℕ → List ℕ → ℕ → CopyOutcome ℕ
wide = strided_copy two_bytes

abbrev three_by_two : Table ℕ
three_by_two = (0 ∷ 0 ∷ 0 ∷ []) ∷ (0 ∷ 0 ∷ 0 ∷ []) ∷ []

abbrev two_by_two : Table ℕ
two_by_two = (0 ∷ 0 ∷ []) ∷ (0 ∷ 0 ∷ []) ∷ []

-- The pixels 0x0102 and 0x0304, above 0x0506 and 0x0708.
abbrev words : Table ℕ
words = (258 ∷ 772 ∷ []) ∷ (1286 ∷ 1800 ∷ []) ∷ []

abbrev bytes_of_words : List ℕ
bytes_of_words = 2 ∷ 1 ∷ 4 ∷ 3 ∷ 6 ∷ 5 ∷ 8 ∷ 7 ∷ []

low_bytes_first : byte_list two_bytes words ≡ bytes_of_words
low_bytes_first = refl

one_byte_each : byte_list one_byte ((1 ∷ 2 ∷ []) ∷ (3 ∷ 4 ∷ []) ∷ []) ≡ 1 ∷ 2 ∷ 3 ∷ 4 ∷ []
one_byte_each = refl

packed_words : packed_byte_copy two_bytes two_by_two bytes_of_words
    ≡ record { answer = Ok tt; table = words }
packed_words = refl

short_packed_source : packed_byte_copy two_bytes words (2 ∷ 1 ∷ 4 ∷ 3 ∷ [])
    ≡ record { answer = Err (DataLength 8 4); table = words }
short_packed_source = refl

-- The stride is counted in bytes, and a row of two two-byte pixels has four bytes.
stride_below_a_row : wide two_by_two (1 ∷ 2 ∷ 3 ∷ 4 ∷ 5 ∷ 6 ∷ []) 3
    ≡ record { answer = Err (InvalidStride 3 2); table = two_by_two }
stride_below_a_row = refl

-- A stride that is too small is reported before a wrong length.
stride_before_length : wide two_by_two [] 3
    ≡ record { answer = Err (InvalidStride 3 2); table = two_by_two }
stride_before_length = refl

-- Two rows of three bytes, each with a tail of two bytes.
abbrev rows_with_tails : List ℕ
rows_with_tails = 10 ∷ 20 ∷ 30 ∷ 99 ∷ 99 ∷ 40 ∷ 50 ∷ 60 ∷ 99 ∷ 99 ∷ []

tails_are_dropped : small three_by_two rows_with_tails 5
    ≡ record { answer = Ok tt; table = (10 ∷ 20 ∷ 30 ∷ []) ∷ (40 ∷ 50 ∷ 60 ∷ []) ∷ [] }
tails_are_dropped = refl

fronts_of_rows : piece_fronts 3 5 2 rows_with_tails ≡ (10 ∷ 20 ∷ 30 ∷ []) ∷ (40 ∷ 50 ∷ 60 ∷ []) ∷ []
fronts_of_rows = refl

last_tail_is_missing : small three_by_two (10 ∷ 20 ∷ 30 ∷ 99 ∷ 99 ∷ 40 ∷ 50 ∷ 60 ∷ []) 5
    ≡ record { answer = Err (DataLength 10 8); table = three_by_two }
last_tail_is_missing = refl

-- Each row has six bytes, and the last two of them are its tail.
words_with_tails : wide two_by_two (2 ∷ 1 ∷ 4 ∷ 3 ∷ 255 ∷ 255 ∷ 6 ∷ 5 ∷ 8 ∷ 7 ∷ 255 ∷ 255 ∷ []) 6
    ≡ record { answer = Ok tt; table = words }
words_with_tails = refl

-- A required length that does not fit into a `usize`.
product_past_usize : small three_by_two (1 ∷ 2 ∷ 3 ∷ 4 ∷ []) usize_max
    ≡ record { answer = Err (DataLength usize_max 4); table = three_by_two }
product_past_usize = refl

-- For pixels of one byte, the copies of packed pixels and of packed bytes are equal.
packed_alike : packed_byte_copy one_byte three_by_two (1 ∷ 2 ∷ 3 ∷ 4 ∷ 5 ∷ 6 ∷ [])
    ≡ packed_copy three_by_two (1 ∷ 2 ∷ 3 ∷ 4 ∷ 5 ∷ 6 ∷ [])
packed_alike = refl

-- A list of copies of bytes into a plane of 2 by 2 two-byte pixels.
abbrev blank_words : Tables ℕ
blank_words = record { y = two_by_two; u = None; v = None }

abbrev four_copies : List (VisibleCall ℕ)
four_copies =
    CopyFromU8Slice 0 bytes_of_words ∷ CopyFromU8SliceWithStride 0 bytes_of_words 3
    ∷ CopyFromU8SliceWithStride 0 (9 ∷ 1 ∷ 4 ∷ 3 ∷ 0 ∷ 6 ∷ 5 ∷ 8 ∷ 7 ∷ 0 ∷ []) 5
    ∷ CopyFromU8Slice 1 bytes_of_words ∷ []

four_answers : answers_to two_bytes four_copies blank_words
    ≡ Copied (Ok tt) ∷ Copied (Err (InvalidStride 3 2)) ∷ Copied (Ok tt) ∷ NoPlane ∷ []
four_answers = refl

words_left : (tables_after two_bytes four_copies blank_words).y
    ≡ (265 ∷ 772 ∷ []) ∷ (1286 ∷ 1800 ∷ []) ∷ []
words_left = refl
