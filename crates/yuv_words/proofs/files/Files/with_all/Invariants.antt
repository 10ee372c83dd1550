-- The command takes the files so far.
use Rattle.std.proofs.Common.{◌≡◌, ◌≤◌, ◌++◌, length, take}
use Rattle.yuv_words.specs.Names.{file_count}
use Rattle.yuv_words.specs.Reading.{file_names}
use Rattle.yuv_words.specs.Words.{texts_of}
use Rattle.yuv_words.proofs.files.Files.with_all.Given as goal

abbrev pub invariant-loop-name : goal.invariant-loop-name
invariant-loop-name l =
    (file_names l.files ≡ file_names l.self ++ texts_of (take l.name-index l.names))
    × (length (file_names l.files) ≤ file_count l.command)
