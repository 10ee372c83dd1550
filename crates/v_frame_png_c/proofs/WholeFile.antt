-- If a file was empty, the bytes that were written to it are all of its bytes.
use Rattle.std.proofs.Common.{ℕ, ◌≡◌, List, [], ◌++◌, length, take, take_all, arith}
use Rattle.v_frame_png.specs.Prelude.{IsFile}
use Rattle.v_frame_png.specs.declared.header.Header.{Header}

pub whole_file : (h : Header) (rows : List (List ℕ)) (before after bytes : List ℕ) → before ≡ [] → after ≡ before ++ bytes
    → IsFile h rows bytes → IsFile h rows after
whole_file h rows before after bytes none is file = rw (is, none) file

-- The first bytes of a list, as many as it has, are the whole list.
pub all_taken : (bytes : List ℕ) → take (length bytes) bytes ≡ bytes
all_taken bytes = take_all (length bytes) bytes (omega arith)
