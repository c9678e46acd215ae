-- The numbers and places by which refusals are told.
-- Assumes nothing: these are definitions.
use Rattle.std.specs.Prelude.{ℕ}
use Rattle.codec.specs.declared.refusal.Lent.{Lent}
use Rattle.codec.specs.declared.refusal.Lent.TheVariants.{Picture, Work, Shown}
use Rattle.codec.specs.declared.owner.Owner.{Owner}
use Rattle.codec.specs.declared.owner.Owner.TheVariants as owner
use Rattle.codec.specs.declared.refusal.Refusal.{Refusal}
use Rattle.codec.specs.declared.refusal.Refusal.TheVariants.{Length, Mark, Range, Kind, Number, Memory}

abbrev pub refusal_number : Refusal → ℕ
refusal_number (Length p) = 1
refusal_number Mark = 2
refusal_number (Range p) = 3
refusal_number (Kind p) = 4
refusal_number (Number p) = 5
refusal_number (Memory m) = 6

-- the lent memories in the order in which they are looked at
abbrev pub lent_place : Lent → ℕ
lent_place Picture = 0
lent_place Work = 1
lent_place Shown = 2

abbrev pub refusal_place : Refusal → ℕ
refusal_place (Length p) = p
refusal_place Mark = 0
refusal_place (Range p) = p
refusal_place (Kind p) = p
refusal_place (Number p) = p
refusal_place (Memory m) = lent_place m

-- the number of a refusal for a number out of range: of the file itself, the kind of a command, of a command
abbrev pub owner_number : Owner → ℕ
owner_number owner.File = 3
owner_number owner.Kind = 4
owner_number owner.Command = 5
