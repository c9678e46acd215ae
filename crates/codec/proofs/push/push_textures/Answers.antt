use Rattle.std.proofs.Common.{ℕ, List, vec_items, refl}
use Rattle.codec.specs.declared.part.TexturePart.{TexturePart}
use Rattle.codec.specs.File.{all, image_bytes}
use Rattle.codec.specs.Writing.{part_image, part_images}
use Rattle.codec.proofs.Appending.{part_more, part_end}
use Rattle.codec.proofs.push.push_textures.Goals as goal

abbrev left : List ℕ → List TexturePart → List ℕ
left dots l = all image_bytes (part_images dots l)

pub loop-part-preserved : goal.loop-part-preserved
unfolding all
loop-part-preserved c =
    part_more (left c.args.dots.now) (λ p. image_bytes (part_image c.args.dots.now p)) (λ x l. refl) c.args.parts.now c.loop-part.part-index _
    (vec_items c.loop-part.out) _ _ c.loop-part-test.true c.in_ok-push_texture.ensures c.loop-part.invariant

pub returns : goal.returns
unfolding all
returns c =
    part_end (left c.args.dots.now) refl c.args.parts.now c.loop-part.part-index (vec_items c.loop-part.out) _ c.loop-part-test.false c.loop-part.invariant
