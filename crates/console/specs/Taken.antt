-- Whether a file is taken. Assumes nothing.
use Rattle.std.specs.Prelude.{Bool, true, false}
use Rattle.codec.specs.Judged.{Verdict, refused, taken}

abbrev pub is_taken : Verdict → Bool
is_taken (refused n p) = false
is_taken (taken s ts cs) = true
