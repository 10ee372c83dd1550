-- Why a text with a range before it states no extensions.
use Rattle.std.proofs.Common.{ℕ, ◌≡◌, ◌++◌, ◌⊎◌, List, inr}
use Rattle.v_frame_y4m_c.specs.Extensions.{range_text, AreRefused, HasNoExtensions}
use Rattle.v_frame_y4m_c.specs.declared.extensions.ExtensionFault.{ExtensionFault}
use Rattle.v_frame_y4m_c.specs.declared.extensions.ExtensionFault.TheVariants.{NotExtensions, OtherRange, OutOfMemory}

pub refused_with_range : (range : ℕ) (text : List ℕ) (fault : ExtensionFault)
    → AreRefused (range_text range ++ text) fault → HasNoExtensions range text fault
refused_with_range range text NotExtensions refused = inr refused
refused_with_range range text OtherRange refused = absurd refused
refused_with_range range text OutOfMemory refused = refused
