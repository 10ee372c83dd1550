-- Eight bytes are divided separately.
use Rattle.std.proofs.Common.{ℕ, ◌≡◌, ◌+◌, ◌*◌, ◌<◌, List, [], ◌∷◌, length, get_or, refl, sym, ap, ◌∙◌, arith}
use Rattle.std.specs.Prelude.{fold}
use Rattle.std.specs.Int.Bits.{xor_assoc}
use Rattle.v_frame_bytes.specs.Crc.{crc_step, divided}
use Rattle.v_frame_bytes.proofs.CrcSteps.{eight_after}
use Rattle.v_frame_bytes.proofs.crc_tables.CrcTables.divide_eight.Goals as goal

listed : (xs : List ℕ) → length xs ≡ 8 → xs ≡ get_or xs 0 0 ∷ get_or xs 1 0 ∷ get_or xs 2 0 ∷ get_or xs 3 0
    ∷ get_or xs 4 0 ∷ get_or xs 5 0 ∷ get_or xs 6 0 ∷ get_or xs 7 0 ∷ []
listed [] e = absurd (omega arith)
listed (a ∷ []) e = absurd (omega arith)
listed (a ∷ b ∷ []) e = absurd (omega arith)
listed (a ∷ b ∷ c ∷ []) e = absurd (omega arith)
listed (a ∷ b ∷ c ∷ d ∷ []) e = absurd (omega arith)
listed (a ∷ b ∷ c ∷ d ∷ f ∷ []) e = absurd (omega arith)
listed (a ∷ b ∷ c ∷ d ∷ f ∷ g ∷ []) e = absurd (omega arith)
listed (a ∷ b ∷ c ∷ d ∷ f ∷ g ∷ h ∷ []) e = absurd (omega arith)
listed (a ∷ b ∷ c ∷ d ∷ f ∷ g ∷ h ∷ i ∷ []) e = refl
listed (a ∷ b ∷ c ∷ d ∷ f ∷ g ∷ h ∷ i ∷ j ∷ xs) e = absurd (omega arith)

pub returns : goal.returns
returns c =
    let xs = c.args.bytes.now in
    let n = 8 * c.args.after in
    let byte : (k : ℕ) → get_or xs k 0 < 256 = λ k. (c.type_inv.bytes k).fits in
    let all = eight_after n c.args.rest (get_or xs 0 0) (get_or xs 1 0) (get_or xs 2 0) (get_or xs 3 0) (get_or xs 4 0)
    (get_or xs 5 0) (get_or xs 6 0) (get_or xs 7 0) c.ranges.rest.fits (byte 0) (byte 1) (byte 2) (byte 3) (byte 4)
    (byte 5) (byte 6) (byte 7) in
    let p7 : 8 * (c.args.after + 7 + 1) ≡ 64 + n = omega arith in
    let p6 : 8 * (c.args.after + 6 + 1) ≡ 56 + n = omega arith in
    let p5 : 8 * (c.args.after + 5 + 1) ≡ 48 + n = omega arith in
    let p4 : 8 * (c.args.after + 4 + 1) ≡ 40 + n = omega arith in
    let p3 : 8 * (c.args.after + 3 + 1) ≡ 32 + n = omega arith in
    let p2 : 8 * (c.args.after + 2 + 1) ≡ 24 + n = omega arith in
    let p1 : 8 * (c.args.after + 1 + 1) ≡ 16 + n = omega arith in
    let p0 : 8 * (c.args.after + 1) ≡ 8 + n = omega arith in
    rw (
      c.entry.ensures,
      c.entry-2.ensures,
      c.entry-3.ensures,
      c.entry-4.ensures,
      c.entry-5.ensures,
      c.entry-6.ensures,
      c.entry-7.ensures,
      c.entry-8.ensures,
      c.to_le_bytes.ensures,
      p7,
      p6,
      p5,
      p4,
      p3,
      p2,
      p1,
      p0,
    ) (simp xor_assoc (sym all ∙ ap (λ l. divided n (fold crc_step c.args.rest l)) (sym (listed xs c.requires.size))))
