-- What is promised of whole pictures, whoever made them dot by dot.
-- Assumes nothing: these are statements.
use Rattle.std.specs.Prelude.{◌≡◌, ℕ, List, [], ◌++◌, length}
use Rattle.meaning.specs.declared.state.Size.{Size}
use Rattle.meaning.specs.Meaning.{Image, Instruction, shown}
use Rattle.meaning.specs.Fits.{ListFits}
use Rattle.codec.specs.Shows.{shows}
use Rattle.reference.specs.Boxes.{in_box}
use Rattle.reference.specs.Shows.{Region, Room}
use Rattle.reference.specs.Whole.{flat, pictures_in, Whole}

-- where each dot of the picture is as the commands mean it, the whole lists are
abbrev pub RegionIsWhole : Type 0
RegionIsWhole =
    (ts : List Image) (s : Size) (cs : List Instruction) (C D S C' D' S' : List ℕ) → ListFits s ts cs → Room s (shows cs) C D S →
    length C' ≡ length C → length D' ≡ length D → length S' ≡ length S →
    Region ts s cs (in_box 0 0 s.width s.height) C D S C' D' S' → Whole ts s cs C D S C' D' S'

-- pictures that lie one after another are cut out again
abbrev pub PicturesCut : Type 0
PicturesCut =
    (ts : List Image) (s : Size) (cs : List Instruction) (rest : List ℕ) → ListFits s ts cs →
    pictures_in (shows cs) s (flat (flat (shown ts s [] cs)) ++ rest) ≡ shown ts s [] cs

-- a list of commands shows as many pictures as it has shows
abbrev pub ManyPictures : Type 0
ManyPictures = (ts : List Image) (s : Size) (cs : List Instruction) → length (shown ts s [] cs) ≡ shows cs
