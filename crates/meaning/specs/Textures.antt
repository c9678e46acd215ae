-- What a texture of the code stands for. Assumes nothing.
use Rattle.std.specs.Prelude.{ℕ, min, List, [], ◌∷◌, Some, None, Option}
use Rattle.meaning.specs.declared.texture.Texture.{Texture}
use Rattle.meaning.specs.Meaning.{Image, texel}

-- powers above 8, which no file has, are taken as 8
abbrev pub image_of : Texture → Image
image_of t = record { across = min t.across 8; down = min t.down 8; dots = t.dots.now }

abbrev pub image_if : Option Texture → Option Image
image_if None = None
image_if (Some t) = Some (image_of t)

-- the four parts of the texture's dot at u, v
abbrev pub texels : Option Image → ℕ → ℕ → List ℕ
texels t u v = texel t u v 0 ∷ texel t u v 1 ∷ texel t u v 2 ∷ texel t u v 3 ∷ []
