use Rattle.std.proofs.Common.{◌≡◌, false, take}
use Rattle.udfs_words.specs.Globs.{is_glob}
use Rattle.udfs_words.proofs.globs.is_glob.Given as goal

-- none of the bytes so far is one
abbrev pub invariant-loop-byte : goal.invariant-loop-byte
invariant-loop-byte l = is_glob (take l.byte-index l.word) ≡ false
