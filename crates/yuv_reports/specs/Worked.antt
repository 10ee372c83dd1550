-- Examples that were calculated by hand. Each one is proved by computation (`refl`).
use Rattle.std.specs.Prelude.{◌≡◌, [], Some, None, codes, refl}
use Rattle.yuv_reports.specs.Samples.{above_said, checksum_word, sum_words}
use Rattle.yuv_reports.specs.declared.samples.Checksums.TheVariants.{Frame, Planes}

none_above : above_said 1023 0 ≡ []
none_above = refl

-- Leading zeros are written.
short_checksum : checksum_word 0xbeef ≡ codes " 0000beef"
short_checksum = refl

sum_of_frame : sum_words (Frame 0xcbf43926) ≡ codes " cbf43926"
sum_of_frame = refl

sums_of_planes : sum_words (Planes 1 (Some (0x10, 0xffffffff)))
    ≡ codes " 00000001 00000010 ffffffff"
sums_of_planes = refl

sum_of_gray : sum_words (Planes 0x89abcdef None) ≡ codes " 89abcdef"
sum_of_gray = refl
