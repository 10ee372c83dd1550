-- A PNG file at the beginning of a buffer, and the effect of the calls that write it there.
use Rattle.std.specs.Prelude.{ℕ, ◌≡◌, ◌≢◌, ◌<◌, ◌≤◌, ◌++◌, ◌⊎◌, List, drop, length}
use Rattle.v_frame_png.specs.Prelude.{IsFile}
use Rattle.v_frame_png.specs.declared.header.Header.{Header}
use Rattle.v_frame_png_c.specs.Status.{out_of_memory, short_buffer}

-- The bytes are at the beginning of the buffer and the rest is unchanged, or the buffer is too
-- short and is unchanged. The number of bytes is stored in `needed` in both cases.
pub record IsPutInFront (bytes old new : List ℕ) (needed status : ℕ) : Type 0 where
  pub answer : (status ≡ 0) ⊎ (status ≡ short_buffer)
  pub count : needed ≡ length bytes
  pub put : status ≡ 0 → new ≡ bytes ++ drop (length bytes) old
  pub room : status ≡ 0 → length bytes ≤ length old
  pub short : status ≡ short_buffer → length old < length bytes
  pub kept : status ≢ 0 → new ≡ old

-- If the status is 0, a file with this header and these rows is at the beginning of the buffer, and
-- `new_needed` is its length. If the buffer is too short, `new_needed` is the length that it would
-- need. A picture with a fault is rejected with the status of the fault, and nothing is changed.
pub record IsWritten (h : Header) (rows : List (List ℕ)) (fault : ℕ) (old new : List ℕ)
    (needed new_needed status : ℕ) : Type 0
  where
    pub refused : fault ≢ 0 → status ≡ fault
    pub accepted : fault ≡ 0 → (status ≡ 0) ⊎ ((status ≡ out_of_memory) ⊎ (status ≡ short_buffer))
    pub written : status ≡ 0 → (bytes : List ℕ) × IsFile h rows bytes × (length bytes ≤ length old)
        × (new ≡ bytes ++ drop (length bytes) old) × (new_needed ≡ length bytes)
    pub short : status ≡ short_buffer → (bytes : List ℕ) × IsFile h rows bytes ×
        (length old < length bytes)
        × (new_needed ≡ length bytes)
    pub kept : status ≢ 0 → new ≡ old
    pub untold : status ≢ 0 → status ≢ short_buffer → new_needed ≡ needed
