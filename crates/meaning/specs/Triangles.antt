-- Triangles of the code, and what they are made of. Assumes nothing.
use Rattle.std.specs.Prelude.{Some, None, Option}
use Rattle.meaning.specs.declared.points.Point.{Point}
use Rattle.meaning.specs.declared.projection.View.{View}
use Rattle.meaning.specs.declared.triangle.Triangle.{Triangle}
use Rattle.meaning.specs.Meaning.{Triple, point_of}

-- the same corners the other way round
abbrev pub turned : Triangle → Triangle
turned t = record { a = t.a; b = t.c; c = t.b }

-- a triangle of three points that are all seen
abbrev pub all_of : Option Point → Option Point → Option Point → Option Triangle
all_of None q r = None
all_of (Some a) None r = None
all_of (Some a) (Some b) None = None
all_of (Some a) (Some b) (Some c) = Some (record { a = a; b = b; c = c })

-- a triangle in space under a view, or nothing where a corner is hidden
abbrev pub triangle_seen : View → Triple → Option Triangle
triangle_seen w z = all_of (point_of w z.a) (point_of w z.b) (point_of w z.c)
