-- The division is linear with respect to `bit_xor`, so bytes can be divided separately, each with
-- the table of its position.
use Rattle.std.proofs.Common.{ℕ, zero, suc, ◌≡◌, ◌+◌, ◌*◌, ◌/◌, ◌%◌, ◌^◌, ◌<◌, List, [], ◌∷◌, length, refl, sym, ap, ◌∙◌, arith}
use Rattle.std.specs.Prelude.{bit_xor, fold}
use Rattle.std.specs.Int.Bits.{xor_assoc, xor_zero_r}
use Rattle.std.proofs.lemmas.Nat.{xor_comm, xor_shr, xor_mod, xor_block, xor_of_8}
use lib.Bits.{xor_shifted}
use Rattle.v_frame_bytes.specs.Crc.{polynomial, divided_once, divided, crc_step}

-- ---- one step

times : (x y : ℕ) → x < 2 → y < 2 → bit_xor x y * polynomial ≡ bit_xor (x * polynomial) (y * polynomial)
times zero zero p q = refl
times zero (suc zero) p q = refl
times (suc zero) zero p q = refl
times (suc zero) (suc zero) p q = refl
times zero (suc (suc y)) p q = absurd (omega arith)
times (suc zero) (suc (suc y)) p q = absurd (omega arith)
times (suc (suc x)) y p q = absurd (omega arith)

exchange : (a b c d : ℕ) → bit_xor (bit_xor a b) (bit_xor c d) ≡ bit_xor (bit_xor a c) (bit_xor b d)
exchange a b c d =
    xor_assoc a b (bit_xor c d)
    ∙ ap (bit_xor a) (sym (xor_assoc b c d) ∙ ap (λ x. bit_xor x d) (xor_comm b c) ∙ xor_assoc c b d)
    ∙ sym (xor_assoc a c (bit_xor b d))

once-xor : (a b : ℕ) → divided_once (bit_xor a b) ≡ bit_xor (divided_once a) (divided_once b)
once-xor a b =
    let half : bit_xor a b / 2 ≡ bit_xor (a / 2) (b / 2) = xor_shr a b 1 in
    let low : bit_xor a b % 2 ≡ bit_xor (a % 2) (b % 2) = xor_mod a b 1 in
    let parts : bit_xor a b % 2 * polynomial ≡ bit_xor (a % 2 * polynomial) (b % 2 * polynomial) =
    ap (λ x. x * polynomial) low ∙ times (a % 2) (b % 2) (omega arith) (omega arith) in
    ap (λ x. bit_xor x (bit_xor a b % 2 * polynomial)) half
    ∙ ap (bit_xor (bit_xor (a / 2) (b / 2))) parts
    ∙ exchange (a / 2) (b / 2) (a % 2 * polynomial) (b % 2 * polynomial)

once_even : (y : ℕ) → divided_once (y * 2) ≡ y
once_even y =
    let half : y * 2 / 2 ≡ y = omega arith in
    let low : y * 2 % 2 ≡ 0 = omega arith in
    ap (λ x. bit_xor (y * 2 / 2) (x * polynomial)) low ∙ xor_zero_r (y * 2 / 2) ∙ half

-- ---- many steps

pub divided-xor : (n a b : ℕ) → divided n (bit_xor a b) ≡ bit_xor (divided n a) (divided n b)
unfolding divided
divided-xor zero a b = refl
divided-xor (suc n) a b = ap (divided n) (once-xor a b) ∙ divided-xor n (divided_once a) (divided_once b)

pub divided-add : (n m a : ℕ) → divided m (divided n a) ≡ divided (n + m) a
unfolding divided
divided-add zero m a = let e : zero + m ≡ m = omega arith in ap (λ k. divided k a) (sym e)
divided-add (suc n) m a =
    let e : suc n + m ≡ suc (n + m) = omega arith in
    divided-add n m (divided_once a) ∙ ap (λ k. divided k a) (sym e)

halved : (n x y : ℕ) → x ≡ y * 2 → divided (suc n) x ≡ divided n y
unfolding divided
halved n x y e = ap (divided n) (ap divided_once e ∙ once_even y)

shifted : (y : ℕ) → divided 8 (y * 256) ≡ y
unfolding divided
shifted y =
    halved 7 (y * 256) (y * 128) (omega arith)
    ∙ halved 6 (y * 128) (y * 64) (omega arith)
    ∙ halved 5 (y * 64) (y * 32) (omega arith)
    ∙ halved 4 (y * 32) (y * 16) (omega arith)
    ∙ halved 3 (y * 16) (y * 8) (omega arith)
    ∙ halved 2 (y * 8) (y * 4) (omega arith)
    ∙ halved 1 (y * 4) (y * 2) (omega arith)
    ∙ halved 0 (y * 2) y (omega arith)

-- ---- bytes

-- A byte is added to the lowest byte of the remainder, and the other bytes move down.
pub byte_step : (rest byte : ℕ) → byte < 256
    → crc_step rest byte ≡ bit_xor (rest / 256) (divided 8 (bit_xor (rest % 256) byte))
unfolding crc_step
byte_step rest byte small =
    let low = bit_xor (rest % 256) byte in
    let below : low < 256 = xor_of_8 (rest % 256) byte (omega arith) small in
    let whole : rest ≡ rest / 256 * 256 + rest % 256 = omega arith in
    let none_above : byte ≡ 0 * 256 + byte = omega arith in
    let met : bit_xor rest byte ≡ rest / 256 * 256 + low =
    ap (λ x. bit_xor x byte) whole
    ∙ ap (bit_xor (rest / 256 * 256 + rest % 256)) none_above
    ∙ xor_block 8 (rest / 256) 0 (rest % 256) byte (omega arith) small
    ∙ ap (λ x. x * 256 + low) (xor_zero_r (rest / 256)) in
    ap (divided 8) (met ∙ sym (xor_shifted (rest / 256) 8 low below))
    ∙ divided-xor 8 (rest / 256 * 256) low
    ∙ ap (λ x. bit_xor x (divided 8 low)) (shifted (rest / 256))

step-xor : (a c byte : ℕ) → crc_step (bit_xor a c) byte ≡ bit_xor (divided 8 a) (crc_step c byte)
unfolding crc_step
step-xor a c byte = ap (divided 8) (xor_assoc a c byte) ∙ divided-xor 8 a (bit_xor c byte)

pub fold-xor : (bytes : List ℕ) (a c : ℕ)
    → fold crc_step (bit_xor a c) bytes ≡ bit_xor (divided (8 * length bytes) a) (fold crc_step c bytes)
unfolding divided
fold-xor [] a c = refl
fold-xor (byte ∷ bytes) a c =
    let count : 8 + 8 * length bytes ≡ 8 * length (byte ∷ bytes) = omega arith in
    ap (λ r. fold crc_step r bytes) (step-xor a c byte)
    ∙ fold-xor bytes (divided 8 a) (crc_step c byte)
    ∙ ap (λ x. bit_xor x (fold crc_step (crc_step c byte) bytes))
    (divided-add 8 (8 * length bytes) a ∙ ap (λ n. divided n a) count)

-- The first byte is divided separately.
peel : (rest byte : ℕ) (bytes : List ℕ) → byte < 256 → fold crc_step rest (byte ∷ bytes)
    ≡ bit_xor (divided (8 + 8 * length bytes) (bit_xor (rest % 256) byte)) (fold crc_step (rest / 256) bytes)
peel rest byte bytes small =
    let low = bit_xor (rest % 256) byte in
    ap (λ r. fold crc_step r bytes) (byte_step rest byte small ∙ xor_comm (rest / 256) (divided 8 low))
    ∙ fold-xor bytes (divided 8 low) (rest / 256)
    ∙ ap (λ x. bit_xor x (fold crc_step (rest / 256) bytes)) (divided-add 8 (8 * length bytes) low)

-- Eight bytes. The remainder is added to the first four.
pub eight : (rest a b c d e f g h : ℕ) → rest < 2 ^ 32 → a < 256 → b < 256 → c < 256 → d < 256 → e < 256 → f < 256
    → g < 256 → h < 256
    → fold crc_step rest (a ∷ b ∷ c ∷ d ∷ e ∷ f ∷ g ∷ h ∷ [])
    ≡ bit_xor (divided 64 (bit_xor (rest % 256) a))
    (bit_xor (divided 56 (bit_xor (rest / 256 % 256) b))
    (bit_xor (divided 48 (bit_xor (rest / 65536 % 256) c))
    (bit_xor (divided 40 (bit_xor (rest / 16777216 % 256) d))
    (bit_xor (divided 32 e) (bit_xor (divided 24 f) (bit_xor (divided 16 g) (divided 8 h)))))))
eight rest a b c d e f g h word p q r s t u v w =
    let two : rest / 256 / 256 ≡ rest / 65536 = omega arith in
    let three : rest / 65536 / 256 ≡ rest / 16777216 = omega arith in
    let none : rest / 16777216 / 256 ≡ 0 = omega arith in
    peel rest a (b ∷ c ∷ d ∷ e ∷ f ∷ g ∷ h ∷ []) p
    ∙ ap (bit_xor (divided 64 (bit_xor (rest % 256) a))) (peel (rest / 256) b (c ∷ d ∷ e ∷ f ∷ g ∷ h ∷ []) q
    ∙ ap (bit_xor (divided 56 (bit_xor (rest / 256 % 256) b)))
    (ap (λ x. fold crc_step x (c ∷ d ∷ e ∷ f ∷ g ∷ h ∷ [])) two
    ∙ peel (rest / 65536) c (d ∷ e ∷ f ∷ g ∷ h ∷ []) r
    ∙ ap (bit_xor (divided 48 (bit_xor (rest / 65536 % 256) c)))
    (ap (λ x. fold crc_step x (d ∷ e ∷ f ∷ g ∷ h ∷ [])) three
    ∙ peel (rest / 16777216) d (e ∷ f ∷ g ∷ h ∷ []) s
    ∙ ap (bit_xor (divided 40 (bit_xor (rest / 16777216 % 256) d)))
    (ap (λ x. fold crc_step x (e ∷ f ∷ g ∷ h ∷ [])) none
    ∙ peel 0 e (f ∷ g ∷ h ∷ []) t
    ∙ ap (bit_xor (divided 32 e)) (peel 0 f (g ∷ h ∷ []) u
    ∙ ap (bit_xor (divided 24 f)) (peel 0 g (h ∷ []) v
    ∙ ap (bit_xor (divided 16 g)) (peel 0 h [] w ∙ xor_zero_r (divided 8 h))))))))

-- One more part is divided with more steps.
moved : (n k x y : ℕ) → divided n (bit_xor (divided k x) y) ≡ bit_xor (divided (k + n) x) (divided n y)
moved n k x y = divided-xor n (divided k x) y ∙ ap (λ z. bit_xor z (divided n y)) (divided-add k n x)

-- Eight bytes, followed by zeros.
pub eight_after : (n rest a b c d e f g h : ℕ) → rest < 2 ^ 32 → a < 256 → b < 256 → c < 256 → d < 256 → e < 256
    → f < 256 → g < 256 → h < 256
    → divided n (fold crc_step rest (a ∷ b ∷ c ∷ d ∷ e ∷ f ∷ g ∷ h ∷ []))
    ≡ bit_xor (divided (64 + n) (bit_xor (rest % 256) a))
    (bit_xor (divided (56 + n) (bit_xor (rest / 256 % 256) b))
    (bit_xor (divided (48 + n) (bit_xor (rest / 65536 % 256) c))
    (bit_xor (divided (40 + n) (bit_xor (rest / 16777216 % 256) d))
    (bit_xor (divided (32 + n) e) (bit_xor (divided (24 + n) f) (bit_xor (divided (16 + n) g) (divided (8 + n) h)))))))
eight_after n rest a b c d e f g h word p q r s t u v w =
    let last : divided n (bit_xor (divided 16 g) (divided 8 h)) ≡ bit_xor (divided (16 + n) g) (divided (8 + n) h) =
    moved n 16 g (divided 8 h) ∙ ap (bit_xor (divided (16 + n) g)) (divided-add 8 n h) in
    ap (divided n) (eight rest a b c d e f g h word p q r s t u v w)
    ∙ moved n 64 (bit_xor (rest % 256) a) _
    ∙ ap (bit_xor (divided (64 + n) (bit_xor (rest % 256) a))) (moved n 56 (bit_xor (rest / 256 % 256) b) _
    ∙ ap (bit_xor (divided (56 + n) (bit_xor (rest / 256 % 256) b))) (moved n 48 (bit_xor (rest / 65536 % 256) c) _
    ∙ ap (bit_xor (divided (48 + n) (bit_xor (rest / 65536 % 256) c))) (moved n 40 (bit_xor (rest / 16777216 % 256) d) _
    ∙ ap (bit_xor (divided (40 + n) (bit_xor (rest / 16777216 % 256) d))) (moved n 32 e _
    ∙ ap (bit_xor (divided (32 + n) e)) (moved n 24 f _
    ∙ ap (bit_xor (divided (24 + n) f)) last)))))
