-- Text in XML.
use Rattle.std.specs.Prelude.{ℕ, ◌==◌, ◌&&◌, ◌||◌, if◌then◌else◌, nat_le, nat_eq, not, Bool, List, [], ◌∷◌, codes, flat_map}
use Rattle.std.specs.Char.{encode_utf8}
use Rattle.std.specs.Str.{chars}

-- Whether XML 1.0 allows a character.
abbrev pub allowed : ℕ → Bool
allowed c =
    (nat_le 32 c && (not (nat_eq c 65534) && not (nat_eq c 65535)))
    || (nat_eq c 9 || (nat_eq c 10 || nat_eq c 13))

-- The bytes of a character: an escape if the character would end a text or an attribute, and a
-- question mark if it is not allowed.
abbrev pub escaped : ℕ → List ℕ
escaped c =
    if c == 38 then codes "&amp;"
    else (if c == 60 then codes "&lt;"
    else (if c == 62 then codes "&gt;"
    else (if c == 34 then codes "&quot;"
    else (if c == 39 then codes "&#39;"
    else (if allowed c then encode_utf8 c else 63 ∷ [])))))

-- The bytes of a text with these escapes.
abbrev pub escaped_words : List ℕ → List ℕ
escaped_words words = flat_map escaped (chars words)
