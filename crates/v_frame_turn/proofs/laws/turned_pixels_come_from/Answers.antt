-- The pixels of reversed lists and of columns.
use Rattle.v_frame_turn.proofs.Quarters.{pixel_rotated_180, pixel_rotated_270, pixel_rotated_90, pixel_transposed}
use Rattle.v_frame_turn.proofs.laws.turned_pixels_come_from.Goals as goal

pub returns-clause-transposed : goal.returns-clause-transposed
returns-clause-transposed g c = pixel_transposed

pub returns-clause-rotated_90 : goal.returns-clause-rotated_90
returns-clause-rotated_90 g c = pixel_rotated_90

pub returns-clause-rotated_180 : goal.returns-clause-rotated_180
returns-clause-rotated_180 g c = pixel_rotated_180

pub returns-clause-rotated_270 : goal.returns-clause-rotated_270
returns-clause-rotated_270 g c = pixel_rotated_270
