use Rattle.std.proofs.Common.{◌≡◌, ◌++◌, drop, vec_items}
use Rattle.codec.specs.File.{all, image_bytes}
use Rattle.codec.specs.Writing.{part_images}
use Rattle.codec.proofs.push.push_textures.Given as goal

abbrev pub invariant-loop-part : goal.invariant-loop-part
invariant-loop-part l = vec_items l.out ++ all image_bytes (part_images l.dots (drop l.part-index l.parts)) ≡ vec_items l.initial.out ++ all image_bytes (part_images l.dots l.parts)
