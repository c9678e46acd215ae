-- No number on the way passes 2^62.
-- Assumes nothing.
use Rattle.std.proofs.Common.{◌≡◌, ℕ, zero, suc, ◌+◌, ◌/◌, ◌^◌, ◌<◌, ◌≤◌, Bool, true, false, cond, List, [], ◌∷◌, length, get_or, ℤ, pos, ◌+ℤ◌, ◌-ℤ◌, ◌*ℤ◌, ◌<ℤ◌, Some, None, Option, sym, ap, ◌∙◌, refl, subst, suc-le-suc, le_trans, le_of_lt, mod-lt, mul-le-mul, sub-le, arith}
use native.Mathlib.Nat.{one-le-pow, pow-le-pow_right}
use lib.Signed.{mag}
use borrow.Author.Differences.{ints}
use Rattle.std.specs.List.{AllByRecursion}
use Rattle.std.proofs.lemmas.Bool.{and_parts}
use Rattle.std.proofs.ByRecursion.{All-get_or}
use Rattle.fixed_point.specs.Whole.{down}
use Rattle.fixed_point.proofs.Bounds.{mul_mag, add_mag, sub_mag, down_mag, down_less}
use Rattle.meaning.specs.declared.geometry.Place.{Place}
use Rattle.meaning.specs.declared.points.Corner.{Corner}
use Rattle.meaning.specs.declared.points.Point.{Point}
use Rattle.meaning.specs.declared.projection.Row.{Row}
use Rattle.meaning.specs.declared.projection.View.{View}
use Rattle.meaning.specs.declared.pen.Pen.{Pen}
use Rattle.meaning.specs.declared.state.Size.{Size}
use Rattle.meaning.specs.Meaning.{Image, along, in_bounds, projected, depth_of, point_x, point_y, point_of, edge, turns, covers, blended, colour_at, image, texel, middle}
use Rattle.meaning.specs.Fits.{Bytes, PlaceFits, CornerFits, RowFits, ViewFits, ImageFits, PenFits}
use Rattle.meaning.specs.Bounds.{Small, SumsSmall, RowSmall, PointSmall, PointFits, EdgeSmall, BlendSmall, TextureFits, TexelSmall, BroughtSmall, MixedSmall, NoNumberTooLarge}
use Rattle.meaning.proofs.Depths.{blended_near}

-- ---- from corners to points
sums_small : (p q r s : ℤ) → mag p ≤ 2 ^ 47 → mag q ≤ 2 ^ 47 → mag r ≤ 2 ^ 47 → mag s ≤ 2 ^ 47 → SumsSmall p q r s
sums_small p q r s hp hq hr hs =
    let two = add_mag p q (2 ^ 48) (2 ^ 48) (omega arith) (omega arith) in
    let three = add_mag (p +ℤ q) r (2 ^ 49) (2 ^ 48) two (omega arith) in
    let four = add_mag ((p +ℤ q) +ℤ r) s (2 ^ 49 + 2 ^ 48) (2 ^ 48) three (omega arith) in
    omega arith

module _ (m : Row) (c : Corner) (fm : RowFits m) (fc : CornerFits c) where
  row_small : RowSmall m c
  row_small =
      sums_small _ _ _ _ (mul_mag m.x c.x (2 ^ 24) (2 ^ 23) fm.x fc.x) (mul_mag m.y c.y (2 ^ 24) (2 ^ 23) fm.y fc.y)
      (mul_mag m.z c.z (2 ^ 24) (2 ^ 23) fm.z fc.z) (mul_mag m.one (pos 256) (2 ^ 24) (2 ^ 23) fm.one (omega arith))

  along_mag : mag (along m c) < 2 ^ 34
  unfolding along
  along_mag = rw (down_mag _ 65536) (divided _ row_small.four)
    where
      divided : (n : ℕ) → n < 2 ^ 50 → n / 65536 < 2 ^ 34
      divided n h = omega arith

-- a coordinate of a point
projected_mag : (middle z away : ℤ) (scale : ℕ) → mag middle < 524288 → mag z < 2 ^ 34 → scale < 1048576 → Small (z *ℤ pos scale) × Small (projected middle z scale away)
unfolding projected
projected_mag middle z away scale hm hz hs =
    let p = mul_mag z (pos scale) (2 ^ 34) (2 ^ 20) hz hs in
    let d = down_less (z *ℤ pos scale) (mag away) in
    let all = add_mag middle (down (z *ℤ pos scale) (mag away)) (2 ^ 55) (2 ^ 55) (omega arith) (omega arith) in
    omega arith

point_small : (w : View) (c : Corner) → ViewFits w → CornerFits c → PointSmall w c
unfolding point_x point_y
point_small w c fw fc =
    let across = along_mag _ c fw.across fc in
    let down = along_mag _ c fw.down fc in
    let away = along_mag _ c fw.away fc in
    let x = projected_mag w.middle.x (along w.across c) (along w.away c) w.scale fw.middle.x across fw.scale in
    let y = projected_mag w.middle.y (along w.down c) (along w.away c) w.scale fw.middle.y down fw.scale in
    omega arith

-- ---- points
bounded : (a : ℤ) → in_bounds a ≡ true → mag a < 524288
unfolding in_bounds
bounded a h = grind (arith, ints)

if_some : (b : Bool) (q p : Point) → cond b (Some q) None ≡ Some p → (b ≡ true) × (q ≡ p)
if_some true q p e = (refl, cc)
if_some false q p e = (cc, cc)

-- a point lies where points may, whatever the corner
pub place_fits : (w : View) (c : Corner) (p : Point) → point_of w c ≡ Some p → PlaceFits p.at
unfolding point_of
place_fits w c p e =
    let s = if_some _ _ p e in
    let inside = and_parts _ _ (and_parts _ _ s.0).1 in
    subst (λ (q : Point). PlaceFits q.at) s.1 (record { x = bounded _ inside.0; y = bounded _ inside.1 })

point_fits : (w : View) (c : Corner) (p : Point) → CornerFits c → point_of w c ≡ Some p → PointFits p
unfolding point_of depth_of
point_fits w c p fc e =
    let s = if_some _ _ p e in
    subst PointFits s.1
    (record {
      at = place_fits w c _ (e ∙ ap Some (sym s.1));
      depth = suc-le-suc (sub-le 65535 _);
      u = fc.u;
      v = fc.v;
      four = fc.four;
      bytes = fc.bytes;
    })

middle_fits : (i j : ℕ) → i < 1024 → j < 1024 → PlaceFits (middle i j)
unfolding middle
middle_fits i j h k = omega arith

-- ---- triangles
edge_small : (p q m : Place) → PlaceFits p → PlaceFits q → PlaceFits m → EdgeSmall p q m
unfolding edge
edge_small p q m fp fq fm =
    let qx = sub_mag q.x p.x (2 ^ 19) (2 ^ 19) fq.x fp.x in
    let qy = sub_mag q.y p.y (2 ^ 19) (2 ^ 19) fq.y fp.y in
    let mx = sub_mag m.x p.x (2 ^ 19) (2 ^ 19) fm.x fp.x in
    let my = sub_mag m.y p.y (2 ^ 19) (2 ^ 19) fm.y fp.y in
    let right = mul_mag (q.x -ℤ p.x) (m.y -ℤ p.y) (2 ^ 20) (2 ^ 20) qx my in
    let left = mul_mag (q.y -ℤ p.y) (m.x -ℤ p.x) (2 ^ 20) (2 ^ 20) qy mx in
    let whole = sub_mag ((q.x -ℤ p.x) *ℤ (m.y -ℤ p.y)) ((q.y -ℤ p.y) *ℤ (m.x -ℤ p.x)) (2 ^ 41) (2 ^ 41) (omega arith) (omega arith) in
    omega arith

blend_small : (a b c : Point) (m : Place) (f g h : ℕ) → PointFits a → PointFits b → PointFits c → PlaceFits m →
    f < 65536 → g < 65536 → h < 65536 → BlendSmall a b c m f g h
blend_small a b c m f g h fa fb fc fm hf hg hh =
    let p = mul-le-mul (le_of_lt (edge_small _ _ m fb.at fc.at fm).whole) (le_of_lt hf) in
    let q = mul-le-mul (le_of_lt (edge_small _ _ m fc.at fa.at fm).whole) (le_of_lt hg) in
    let r = mul-le-mul (le_of_lt (edge_small _ _ m fa.at fb.at fm).whole) (le_of_lt hh) in
    omega arith

-- ---- colours
byte : (l : List ℕ) (k : ℕ) → Bytes l → get_or l k 0 < 256
byte [] k h = omega arith
byte (x ∷ l) zero h = h.0
byte (x ∷ l) (suc k) h = byte l k h.1

texture_fits : (s : Size) (ts : List Image) (p : Pen) → AllByRecursion ImageFits ts → PenFits s ts p → TextureFits (image ts p.texture)
unfolding image
texture_fits s ts p h f = go p.texture f.texture
  where
    go : (n : ℕ) → n ≤ length ts → TextureFits (image ts n)
    go zero l = tt
    go (suc n) l = All-get_or ImageFits ts n _ l h

texel_fits : (t : Option Image) (u v k : ℕ) → TextureFits t → texel t u v k < 256
texel_fits None u v k h = omega arith
texel_fits (Some t) u v k h = byte t.dots _ h.bytes

texel_small : (t : Image) (u v k : ℕ) → ImageFits t → k < 4 → TexelSmall t u v k
texel_small t u v k h l =
    let a : 2 ^ t.across ≤ 2 ^ 8 = pow-le-pow_right (omega arith) h.across in
    let d : 2 ^ t.down ≤ 2 ^ 8 = pow-le-pow_right (omega arith) h.down in
    let i = mod-lt (u / 256) (one-le-pow t.across 2 (omega arith)) in
    let j = mod-lt (v / 256) (one-le-pow t.down 2 (omega arith)) in
    let p = mul-le-mul (le_trans (le_of_lt j) d) a in
    omega arith

module _ (t : Option Image) (a b c : Point) (m : Place) (ft : TextureFits t) (fa : PointFits a) (fb : PointFits b) (fc : PointFits c)
    (turn : pos 0 <ℤ turns a b c) (inside : covers a b c m ≡ true) where
  near : (f g h n : ℕ) → f < suc n → g < suc n → h < suc n → blended a b c m f g h < suc n
  near f g h n p q r = suc-le-suc (blended_near a b c m turn inside f g h n (omega arith) (omega arith) (omega arith))

  colour_fits : (k : ℕ) → colour_at a b c m k < 256
  colour_fits k = near _ _ _ 255 (byte _ k fa.bytes) (byte _ k fb.bytes) (byte _ k fc.bytes)

  brought_small : BroughtSmall t a b c m
  brought_small =
      record {
        depth = near _ _ _ 65535 fa.depth fb.depth fc.depth;
        u = near _ _ _ 65535 fa.u fb.u fc.u;
        v = near _ _ _ 65535 fa.v fb.v fc.v;
        colour = colour_fits;
        part = λ u v k. let p = mul-le-mul (le_of_lt (colour_fits k)) (le_of_lt (texel_fits t u v k ft)) in omega arith;
      }

mixed_small : (by new old : ℕ) → by < 256 → new < 256 → old < 256 → MixedSmall by new old
mixed_small by new old hb hn ho =
    let p = mul-le-mul (le_of_lt hn) (le_of_lt hb) in
    let q = mul-le-mul (le_of_lt ho) (sub-le 255 by) in
    omega arith

pub small : NoNumberTooLarge
small =
    record {
      rows = row_small;
      points = point_small;
      seen = point_fits;
      middles = middle_fits;
      edges = edge_small;
      blends = blend_small;
      textures = texture_fits;
      texels = texel_small;
      brought = brought_small;
      mixes = mixed_small;
    }
