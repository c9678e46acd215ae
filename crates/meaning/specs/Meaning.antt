-- What a list of commands paints, dot by dot: for each dot all commands one after the other. No tiles, steps along edges or coarse depths in it.
-- Assumes nothing: these are definitions.
use Rattle.std.specs.Prelude.{ℕ, zero, suc, ◌+◌, ◌-◌, ◌*◌, ◌/◌, ◌%◌, ◌^◌, min, Bool, true, false, cond, not, ◌&&◌, ◌||◌, List, [], ◌∷◌, ◌++◌, ℤ, pos, ◌+ℤ◌, ◌-ℤ◌, ◌*ℤ◌, neg_ℤ, Some, None, Option, ◌==◌, int_le, int_lt, nat_le, nat_lt, slice_index, slice_index_or}
use Rattle.std.specs.Int.Signed.{mag}
use Rattle.fixed_point.specs.Whole.{down, sameZ}
use Rattle.meaning.specs.declared.geometry.Place.{Place}
use Rattle.meaning.specs.declared.points.Corner.{Corner}
use Rattle.meaning.specs.declared.points.Point.{Point}
use Rattle.meaning.specs.declared.projection.Row.{Row}
use Rattle.meaning.specs.declared.projection.View.{View}
use Rattle.meaning.specs.declared.pen.Test.{Test}
use Rattle.meaning.specs.declared.pen.Test.TheVariants.{Always, Less, LessOrEqual, Equal, Never}
use Rattle.meaning.specs.declared.pen.Mix.{Mix}
use Rattle.meaning.specs.declared.pen.Mix.TheVariants.{Replace, Blend, Add}
use Rattle.meaning.specs.declared.pen.Frame.{Frame}
use Rattle.meaning.specs.declared.pen.Pen.{Pen}
use Rattle.meaning.specs.declared.state.Size.{Size}
use Rattle.meaning.specs.declared.state.Dot.{Dot}
use Rattle.meaning.specs.declared.state.State.{State}

-- ---- from corners to points

-- a row of a view on a corner
unfoldable pub along : Row → Corner → ℤ
along m c = down ((((m.x *ℤ c.x) +ℤ (m.y *ℤ c.y)) +ℤ (m.z *ℤ c.z)) +ℤ (m.one *ℤ pos 256)) 65536

-- how far a corner may be away, from 256 to 16,777,215
unfoldable pub is_in_sight : ℤ → Bool
is_in_sight w = int_le (pos 256) w && int_le w (pos 16777215)

-- where a point may lie, from -524,288 to 524,287
unfoldable pub in_bounds : ℤ → Bool
in_bounds a = int_le (neg_ℤ (pos 524288)) a && int_lt a (pos 524288)

-- a coordinate of a point: the middle, and the corner's scaled, over how far it is away
unfoldable pub projected : ℤ → ℤ → ℕ → ℤ → ℤ
projected middle z scale away = middle +ℤ down (z *ℤ pos scale) (mag away)

unfoldable pub depth_of : ℤ → ℕ
depth_of away = 65535 - 16776960 / mag away

unfoldable pub point_x : View → Corner → ℤ
point_x w c = projected w.middle.x (along w.across c) w.scale (along w.away c)

unfoldable pub point_y : View → Corner → ℤ
point_y w c = projected w.middle.y (along w.down c) w.scale (along w.away c)

-- the point of a corner, or nothing where the corner is hidden
unfoldable pub point_of : View → Corner → Option Point
point_of w c =
    cond (is_in_sight (along w.away c) && (in_bounds (point_x w c) && in_bounds (point_y w c)))
    (Some (record { at = record { x = point_x w c; y = point_y w c }; depth = depth_of (along w.away c); u = c.u; v = c.v; colour = c.colour }))
    None

-- ---- triangles

-- twice the area of p, q and a place, above 0 if they go round with the clock: the side of the place for the edge from p to q
unfoldable pub edge : Place → Place → Place → ℤ
edge p q m = ((q.x -ℤ p.x) *ℤ (m.y -ℤ p.y)) -ℤ ((q.y -ℤ p.y) *ℤ (m.x -ℤ p.x))

-- an edge that goes up, or is level and goes to the right, owns the places on it
unfoldable pub owns : Place → Place → Bool
owns p q = int_lt q.y p.y || (sameZ q.y p.y && int_lt p.x q.x)

unfoldable pub inside : Place → Place → Place → Bool
inside p q m = int_lt (pos 0) (edge p q m) || (sameZ (edge p q m) (pos 0) && owns p q)

unfoldable pub turns : Point → Point → Point → ℤ
turns a b c = edge a.at b.at c.at

-- a place is in a triangle that goes round with the clock
unfoldable pub covers : Point → Point → Point → Place → Bool
covers a b c m = inside a.at b.at m && (inside b.at c.at m && inside c.at a.at m)

-- f, g and h by their weights, rounded down
abbrev pub weighed : ℕ → ℕ → ℕ → ℕ → ℕ → ℕ → ℕ → ℕ
weighed wa wb wc area f g h = (wa * f + wb * g + wc * h) / area

-- a quantity with f, g, h at a, b, c, at a place of the triangle: each by the area opposite
unfoldable pub blended : Point → Point → Point → Place → ℕ → ℕ → ℕ → ℕ
blended a b c m f g h = weighed (mag (edge b.at c.at m)) (mag (edge c.at a.at m)) (mag (edge a.at b.at m)) (mag (turns a b c)) f g h

abbrev pub depth_at : Point → Point → Point → Place → ℕ
depth_at a b c m = blended a b c m a.depth b.depth c.depth

abbrev pub colour_at : Point → Point → Point → Place → ℕ → ℕ
colour_at a b c m k = blended a b c m (slice_index a.colour k) (slice_index b.colour k) (slice_index c.colour k)

-- ---- textures

-- a texture: its width and height as powers of two, and its dots by rows, four bytes each
pub record Image : Type 0 where
  pub across : ℕ
  pub down : ℕ
  pub dots : List ℕ

-- the texture of a number, 0 for none
unfoldable pub image : List Image → ℕ → Option Image
image ts zero = None
image ts (suc n) = Some (slice_index_or ts n (record { across = 0; down = 0; dots = [] }))

-- part k of the texture's dot at u, v; 255 where there is no texture
abbrev pub texel : Option Image → ℕ → ℕ → ℕ → ℕ
texel None u v k = 255
texel (Some t) u v k = slice_index t.dots (4 * ((v / 256 % 2 ^ t.down) * 2 ^ t.across + u / 256 % 2 ^ t.across) + k)

-- part k of the colour that a triangle brings to a place
unfoldable pub brings : Option Image → Point → Point → Point → Place → ℕ → ℕ
brings t a b c m k =
    (colour_at a b c m k * texel t (blended a b c m a.u b.u c.u) (blended a b c m a.v b.v c.v) k + 127) / 255

-- ---- dots

-- the middle of dot (i, j)
unfoldable pub middle : ℕ → ℕ → Place
middle i j = record { x = pos (256 * i + 128); y = pos (256 * j + 128) }

abbrev pub in_frame : Frame → ℕ → ℕ → Bool
in_frame f i j = (nat_le f.left i && nat_lt i f.right) && (nat_le f.top j && nat_lt j f.bottom)

-- whether the new depth passes against the old
abbrev pub passes : Test → ℕ → ℕ → Bool
passes Always new old = true
passes Less new old = nat_lt new old
passes LessOrEqual new old = nat_le new old
passes Equal new old = new == old
passes Never new old = false

-- a part of the new colour onto the old; `by` is the fourth part that is brought
abbrev pub mixed : Mix → ℕ → ℕ → ℕ → ℕ
mixed Replace by new old = new
mixed Blend by new old = (new * by + old * (255 - by) + 127) / 255
mixed Add by new old = min (new + old) 255

-- part k of the colour of a dot that is painted
unfoldable pub part_of : Option Image → Pen → Point → Point → Point → Place → Dot → ℕ → ℕ
part_of t p a b c m d k = mixed p.mix (brings t a b c m 3) (brings t a b c m k) (slice_index d.colour k)

-- a dot at a place that a triangle covers
unfoldable pub painted : Option Image → Pen → Point → Point → Point → Place → Dot → Dot
painted t p a b c m d =
    cond (passes p.test (depth_at a b c m) d.depth)
    (record { colour = part_of t p a b c m d 0 ∷ part_of t p a b c m d 1 ∷ part_of t p a b c m d 2 ∷ []; depth = cond p.keeps (depth_at a b c m) d.depth })
    d

unfoldable pub if_covered : Option Image → Pen → Point → Point → Point → Place → Dot → Dot
if_covered t p a b c m d = cond (covers a b c m) (painted t p a b c m d) d

-- a triangle on the picture, at dot (i, j): one that goes round against the clock is turned, one without area paints nothing
unfoldable pub at_dot : Option Image → Pen → Point → Point → Point → ℕ → ℕ → Dot → Dot
at_dot t p a b c i j d =
    cond (sameZ (turns a b c) (pos 0) || not (in_frame p.frame i j)) d
    (cond (int_lt (turns a b c) (pos 0)) (if_covered t p a c b (middle i j) d) (if_covered t p a b c (middle i j) d))

-- the same where a corner may be hidden
unfoldable pub seen_three : Option Image → Pen → Option Point → Option Point → Option Point → ℕ → ℕ → Dot → Dot
seen_three t p None q r i j d = d
seen_three t p (Some a) None r i j d = d
seen_three t p (Some a) (Some b) None i j d = d
seen_three t p (Some a) (Some b) (Some c) i j d = at_dot t p a b c i j d

-- ---- commands

-- the three corners of a triangle
pub record Triple : Type 0 where
  pub a : Corner
  pub b : Corner
  pub c : Corner

-- a triangle in space, at dot (i, j)
unfoldable pub triple_at : Option Image → Pen → View → Triple → ℕ → ℕ → Dot → Dot
triple_at t p w z i j d = seen_three t p (point_of w z.a) (point_of w z.b) (point_of w z.c) i j d

unfoldable pub all_three : Option Image → Pen → View → List Triple → ℕ → ℕ → Dot → Dot
all_three t p w [] i j d = d
all_three t p w (z ∷ rest) i j d = all_three t p w rest i j (triple_at t p w z i j d)

-- a command, with the corners of its triangles
pub data Instruction : Type 0 where
  pen : Pen → Instruction
  look : View → Instruction
  clear : List ℕ → ℕ → Instruction
  triangles : List Triple → Instruction
  show : Instruction

-- one dot through one command, and through a list
unfoldable pub step : List Image → ℕ → ℕ → State → Instruction → State
step ts i j n (pen p) = record { pen = p; view = n.view; dot = n.dot }
step ts i j n (look w) = record { pen = n.pen; view = w; dot = n.dot }
step ts i j n (clear c z) = record { pen = n.pen; view = n.view; dot = cond (in_frame n.pen.frame i j) (record { colour = c; depth = z }) n.dot }
step ts i j n (triangles l) = record { pen = n.pen; view = n.view; dot = all_three (image ts n.pen.texture) n.pen n.view l i j n.dot }
step ts i j n show = n

unfoldable pub after : List Image → ℕ → ℕ → State → List Instruction → State
after ts i j n [] = n
after ts i j n (c ∷ cs) = after ts i j (step ts i j n c) cs

-- before the first command: the pen paints always, keeps no depth, replaces, and has the whole picture for its frame; under the view every corner is hidden
abbrev pub no_row : Row
no_row = record { x = pos 0; y = pos 0; z = pos 0; one = pos 0 }

unfoldable pub begin : Size → State
begin s =
    record {
      pen = record { test = Always; keeps = false; mix = Replace; texture = 0; frame = record { left = 0; top = 0; right = s.width; bottom = s.height } };
      view = record { across = no_row; down = no_row; away = no_row; scale = 0; middle = record { x = pos 0; y = pos 0 } };
      dot = record { colour = 0 ∷ 0 ∷ 0 ∷ []; depth = 65535 };
    }

-- ---- pictures

-- a row of dots, rows from the top
unfoldable pub row : (ℕ → List ℕ) → ℕ → ℕ → List (List ℕ)
row f i zero = []
row f i (suc n) = f i ∷ row f (suc i) n

unfoldable pub picture : List Image → Size → List Instruction → ℕ → ℕ → List (List ℕ)
picture ts s cs j zero = []
picture ts s cs j (suc n) = row (λ i. (after ts i j (begin s) cs).dot.colour) 0 s.width ++ picture ts s cs (suc j) n

-- the pictures that are shown, one for each show
unfoldable pub shown : List Image → Size → List Instruction → List Instruction → List (List (List ℕ))
shown ts s before [] = []
shown ts s before (pen p ∷ cs) = shown ts s (before ++ (pen p ∷ [])) cs
shown ts s before (look w ∷ cs) = shown ts s (before ++ (look w ∷ [])) cs
shown ts s before (clear c z ∷ cs) = shown ts s (before ++ (clear c z ∷ [])) cs
shown ts s before (triangles l ∷ cs) = shown ts s (before ++ (triangles l ∷ [])) cs
shown ts s before (show ∷ cs) = picture ts s before 0 s.height ∷ shown ts s before cs
