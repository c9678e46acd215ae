-- The example pictures, by computing.
-- Assumes nothing.
use Rattle.std.proofs.Common.{refl}
use Rattle.fixed_point.specs.Whole.{sameZ}
use Rattle.meaning.specs.Meaning.{along, is_in_sight, in_bounds, projected, depth_of, point_x, point_y, point_of, edge, owns, inside, turns, covers, blended, image, brings, middle, part_of, painted, if_covered, at_dot, seen_three, triple_at, all_three, step, after, begin, row, picture, shown}
use Rattle.meaning.specs.Examples.{ExamplePictures}

pub pictures : ExamplePictures
unfolding sameZ along is_in_sight in_bounds projected depth_of point_x point_y point_of edge owns inside turns covers blended image brings middle part_of painted if_covered at_dot seen_three triple_at all_three step after begin row picture shown
pictures = refl
