-- If the text is one of all extensions, it is one of the remaining extensions.
use Rattle.std.proofs.Common.{◌≡◌, drop}
use Rattle.std.specs.List.{list_any}
use Rattle.std.specs.Str.{bytes_eq}
use Rattle.yuv_system.proofs.headers.lacks_extension.Given as goal

abbrev pub invariant-loop-extension : goal.invariant-loop-extension
invariant-loop-extension l =
    list_any (bytes_eq l.text) (drop l.extension-index l.header.extensions)
    ≡ list_any (bytes_eq l.text) l.header.extensions
