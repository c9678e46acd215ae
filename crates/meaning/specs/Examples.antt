-- Six small pictures, and that the commands of each show it and nothing else.
-- Assumes nothing.
use Rattle.std.specs.Prelude.{◌≡◌, ℕ, ◌/◌, ◌%◌, Bool, true, false, List, [], ◌∷◌, ◌++◌, map, replicate, pos}
use Rattle.meaning.specs.declared.points.Corner.{Corner}
use Rattle.meaning.specs.declared.projection.Row.{Row}
use Rattle.meaning.specs.declared.pen.Test.{Test}
use Rattle.meaning.specs.declared.pen.Test.TheVariants.{Always, Less}
use Rattle.meaning.specs.declared.pen.Mix.{Mix}
use Rattle.meaning.specs.declared.pen.Mix.TheVariants.{Replace, Blend, Add}
use Rattle.meaning.specs.declared.state.Size.{Size}
use Rattle.meaning.specs.Meaning.{Image, Triple, Instruction, pen, look, clear, triangles, show, shown}

-- a list of commands for a picture of a size, with its textures, and the dots of the picture by rows, three parts each
pub record Example : Type 0 where
  pub size : Size
  pub images : List Image
  pub instructions : List Instruction
  pub dots : List (List ℕ)

-- ---- words to write them with

abbrev pub sized : ℕ → ℕ → Size
sized w h = record { width = w; height = h }

-- the three parts of a colour that is written in hexadecimal, and the four with the fourth behind
abbrev pub three : ℕ → List ℕ
three c = c / 0x10000 ∷ c / 0x100 % 0x100 ∷ c % 0x100 ∷ []

abbrev pub four : ℕ → List ℕ
four c = c / 0x1000000 ∷ c / 0x10000 % 0x100 ∷ c / 0x100 % 0x100 ∷ c % 0x100 ∷ []

-- the look under which corners at z 256 are points as they stand
abbrev pub factors : ℕ → ℕ → ℕ → Row
factors x y z = record { x = pos x; y = pos y; z = pos z; one = pos 0 }

abbrev pub straight : Instruction
straight =
    look
    (record { across = factors 65536 0 0; down = factors 0 65536 0; away = factors 0 0 65536; scale = 256; middle = record { x = pos 0; y = pos 0 } })

-- a pen for all dots from column `left` on
abbrev pub pen_from : Size → ℕ → Test → Bool → Mix → ℕ → Instruction
pen_from s left test keeps mix texture =
    pen (record { test = test; keeps = keeps; mix = mix; texture = texture; frame = record { left = left; top = 0; right = s.width; bottom = s.height } })

abbrev pub corner : ℕ → ℕ → ℕ → ℕ → ℕ → ℕ → Corner
corner x y z u v c = record { x = pos x; y = pos y; z = pos z; u = u; v = v; colour = four c }

-- a triangle of one colour with corners at z 256 and without a place in a texture
abbrev pub flat : ℕ → ℕ → ℕ → ℕ → ℕ → ℕ → ℕ → Triple
flat ax ay bx by cx cy c = record { a = corner ax ay 256 0 0 c; b = corner bx by 256 0 0 c; c = corner cx cy 256 0 0 c }

-- ---- the pictures

abbrev pub examples : List Example
examples =
    -- a triangle
    record {
      size = sized 4 2;
      images = [];
      instructions = straight ∷ triangles (flat 0 0 1024 0 0 512 0xff0000ff ∷ []) ∷ show ∷ [];
      dots = map three (0xff0000 ∷ 0xff0000 ∷ 0xff0000 ∷ 0x000000 ∷ 0xff0000 ∷ 0x000000 ∷ 0x000000 ∷ 0x000000 ∷ []);
    }
    -- two triangles with an edge in common, added: each dot has its colour once
    ∷ record {
      size = sized 4 4;
      images = [];
      instructions =
          straight ∷ pen_from (sized 4 4) 0 Always false Add 0
          ∷ triangles (flat 0 0 1024 0 0 1024 0x640000ff ∷ flat 1024 0 1024 1024 0 1024 0x640000ff ∷ []) ∷ show ∷ [];
      dots = replicate 16 (three 0x640000);
    }
    -- a triangle behind another that is painted first
    ∷ record {
      size = sized 2 1;
      images = [];
      instructions =
          straight ∷ pen_from (sized 2 1) 0 Less true Replace 0 ∷ triangles (flat 0 0 1024 0 0 1024 0xff0000ff ∷ [])
          ∷ triangles (record { a = corner 0 0 512 0 0 0x0000ffff; b = corner 2048 0 512 0 0 0x0000ffff; c = corner 0 2048 512 0 0 0x0000ffff } ∷ []) ∷ show ∷ [];
      dots = map three (0xff0000 ∷ 0xff0000 ∷ []);
    }
    -- a triangle over a cleared picture, half seen through, in the right column only
    ∷ record {
      size = sized 2 1;
      images = [];
      instructions =
          straight ∷ clear (three 0xff0000) 65535 ∷ pen_from (sized 2 1) 1 Always false Blend 0 ∷ triangles (flat 0 0 1024 0 0 1024 0x00ff0080 ∷ []) ∷ show ∷ [];
      dots = map three (0xff0000 ∷ 0x7f8000 ∷ []);
    }
    -- a triangle from black to white
    ∷ record {
      size = sized 4 1;
      images = [];
      instructions =
          straight
          ∷ triangles (record { a = corner 0 0 256 0 0 0x000000ff; b = corner 1024 0 256 0 0 0xffffffff; c = corner 0 1024 256 0 0 0x000000ff } ∷ []) ∷ show ∷ [];
      dots = map three (0x1f1f1f ∷ 0x5f5f5f ∷ 0x9f9f9f ∷ 0x000000 ∷ []);
    }
    -- a triangle with a texture of two dots, which begins again
    ∷ record {
      size = sized 4 1;
      images = record { across = 1; down = 0; dots = four 0xff0000ff ++ four 0x0000ffff } ∷ [];
      instructions =
          straight ∷ pen_from (sized 4 1) 0 Always false Replace 1
          ∷ triangles (record { a = corner 0 0 256 0 0 0xffffffff; b = corner 1024 0 256 1024 0 0xffffffff; c = corner 0 1024 256 0 1024 0xffffffff } ∷ []) ∷ show ∷ [];
      dots = map three (0xff0000 ∷ 0x0000ff ∷ 0xff0000 ∷ 0x000000 ∷ []);
    }
    ∷ []

-- each list of commands shows its one picture
abbrev pub ExamplePictures : Type 0
ExamplePictures = map (λ (e : Example). shown e.images e.size [] e.instructions) examples ≡ map (λ (e : Example). e.dots ∷ []) examples
