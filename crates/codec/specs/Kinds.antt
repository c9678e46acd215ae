-- The kinds of commands that there are yet. Assumes nothing: these are definitions.
use Rattle.std.specs.Prelude.{ℕ, Bool, ◌||◌, ◌==◌}

abbrev pub built_yet : ℕ → Bool
built_yet k = k == 1 || (k == 3 || k == 5)
