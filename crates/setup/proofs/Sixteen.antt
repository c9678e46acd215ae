-- Triangles in sixteen words: what is put in is taken out again, and no other word counts.
-- Assumes nothing.
use Rattle.std.proofs.Common.{◌≡◌, ℕ, ◌+◌, ◌-◌, ◌*◌, ◌/◌, ◌%◌, ◌<◌, ◌≤◌, ◌⊎◌, List, [], ◌∷◌, length, get_or, take, drop, ◌∙◌, inl, inr, arith, w32, to_z, of_z}
use borrow.Rule.Slice.PartMut.{put_mid}
use Rattle.std.proofs.lemmas.List.{places}
use Rattle.setup.specs.declared.triangle.ReadyTriangle.{ReadyTriangle}
use Rattle.setup.specs.Ready.{Placed}
use Rattle.setup.proofs.Spans.{same_small}
use Rattle.setup.specs.Words.{coordinate_in, low, high, colour_in, triangle_in}

-- the triangle of words that are equal is the same
pub same_sixteen : (f g : ℕ → ℕ) → ((n : ℕ) → n < 16 → f n ≡ g n) → triangle_in f ≡ triangle_in g
unfolding triangle_in
same_sixteen f g h =
    let w0 = h 0 (omega arith) in
    let w1 = h 1 (omega arith) in
    let w2 = h 2 (omega arith) in
    let w3 = h 3 (omega arith) in
    let w4 = h 4 (omega arith) in
    let w5 = h 5 (omega arith) in
    let w6 = h 6 (omega arith) in
    let w7 = h 7 (omega arith) in
    let w8 = h 8 (omega arith) in
    let w9 = h 9 (omega arith) in
    let w10 = h 10 (omega arith) in
    let w11 = h 11 (omega arith) in
    let w12 = h 12 (omega arith) in
    let w13 = h 13 (omega arith) in
    let w14 = h 14 (omega arith) in
    let w15 = h 15 (omega arith) in
    cc

-- words in which the parts of a triangle are found again
pub packed : (r : ReadyTriangle) → Placed r.triangle → (w0 w1 w2 w3 w4 w5 w6 w7 w8 w9 w10 w11 w12 w13 w14 w15 : ℕ) →
    coordinate_in w0 ≡ to_z w32 (of_z w32 r.triangle.a.at.x) → coordinate_in w1 ≡ to_z w32 (of_z w32 r.triangle.a.at.y) →
    coordinate_in w2 ≡ to_z w32 (of_z w32 r.triangle.b.at.x) → coordinate_in w3 ≡ to_z w32 (of_z w32 r.triangle.b.at.y) →
    coordinate_in w4 ≡ to_z w32 (of_z w32 r.triangle.c.at.x) → coordinate_in w5 ≡ to_z w32 (of_z w32 r.triangle.c.at.y) →
    low w6 ≡ r.triangle.a.depth → high w6 ≡ r.triangle.b.depth → low w7 ≡ r.triangle.c.depth →
    low w8 ≡ r.triangle.a.u → high w8 ≡ r.triangle.a.v → low w9 ≡ r.triangle.b.u → high w9 ≡ r.triangle.b.v → low w10 ≡ r.triangle.c.u → high w10 ≡ r.triangle.c.v →
    colour_in w11 ≡ r.triangle.a.colour → colour_in w12 ≡ r.triangle.b.colour → colour_in w13 ≡ r.triangle.c.colour →
    low w14 ≡ r.frame.left → high w14 ≡ r.frame.right → low w15 ≡ r.frame.top → high w15 ≡ r.frame.bottom →
    triangle_in (λ n. get_or (w0 ∷ w1 ∷ w2 ∷ w3 ∷ w4 ∷ w5 ∷ w6 ∷ w7 ∷ w8 ∷ w9 ∷ w10 ∷ w11 ∷ w12 ∷ w13 ∷ w14 ∷ w15 ∷ []) n 0) ≡ r
unfolding triangle_in
packed r p w0 w1 w2 w3 w4 w5 w6 w7 w8 w9 w10 w11 w12 w13 w14 w15 e0 e1 e2 e3 e4 e5 e6 e7 e8 e9 e10 e11 e12 e13 e14 e15 e16 e17 e18 e19 e20 e21 =
    λ i. record {
      triangle =
          record {
            a = record { at = record { x = (e0 ∙ same_small r.triangle.a.at.x p.a.x) i; y = (e1 ∙ same_small r.triangle.a.at.y p.a.y) i }; depth = e6 i; u = e9 i; v = e10 i; colour = e15 i };
            b = record { at = record { x = (e2 ∙ same_small r.triangle.b.at.x p.b.x) i; y = (e3 ∙ same_small r.triangle.b.at.y p.b.y) i }; depth = e7 i; u = e11 i; v = e12 i; colour = e16 i };
            c = record { at = record { x = (e4 ∙ same_small r.triangle.c.at.x p.c.x) i; y = (e5 ∙ same_small r.triangle.c.at.y p.c.y) i }; depth = e8 i; u = e13 i; v = e14 i; colour = e17 i };
          };
      frame = record { left = e18 i; top = e20 i; right = e19 i; bottom = e21 i };
    }

-- a colour in a word
pub colour_back : (l : List ℕ) (w : ℕ) → length l ≡ 4 → get_or l 0 0 < 256 → get_or l 1 0 < 256 → get_or l 2 0 < 256 → get_or l 3 0 < 256 →
    w ≡ get_or l 0 0 + get_or l 1 0 * 256 + get_or l 2 0 * 65536 + get_or l 3 0 * 16777216 → colour_in w ≡ l
colour_back [] w e h0 h1 h2 h3 f = absurd (omega arith)
colour_back (a ∷ []) w e h0 h1 h2 h3 f = absurd (omega arith)
colour_back (a ∷ b ∷ []) w e h0 h1 h2 h3 f = absurd (omega arith)
colour_back (a ∷ b ∷ c ∷ []) w e h0 h1 h2 h3 f = absurd (omega arith)
colour_back (a ∷ b ∷ c ∷ d ∷ x ∷ l) w e h0 h1 h2 h3 f = absurd (omega arith)
colour_back (a ∷ b ∷ c ∷ d ∷ []) w e h0 h1 h2 h3 f = parts a b c d w h0 h1 h2 h3 f
  where
    last : (a b w : ℕ) → a < 256 → w ≡ a + b * 256 → w % 256 ≡ a
    last a b w h e = omega arith

    parts : (a b c d w : ℕ) → a < 256 → b < 256 → c < 256 → d < 256 → w ≡ a + b * 256 + c * 65536 + d * 16777216 → colour_in w ≡ a ∷ b ∷ c ∷ d ∷ []
    parts a b c d w h0 h1 h2 h3 f =
        let x : w / 256 ≡ b + c * 256 + d * 65536 = omega arith in
        let y : w / 65536 ≡ c + d * 256 = omega arith in
        let z : w / 16777216 ≡ d = omega arith in
        let p : w % 256 ≡ a = omega arith in
        let q : w / 256 % 256 ≡ b = rw x (last b (c + d * 256) (b + c * 256 + d * 65536) h1 (omega arith)) in
        let r : w / 65536 % 256 ≡ c = rw y (last c d (c + d * 256) h2 (omega arith)) in
        let s : w / 16777216 % 256 ≡ d = rw z (last d 0 d h3 (omega arith)) in
        cc

-- a part of a list
pub part_read : (W : List ℕ) (at n : ℕ) → n < 16 → get_or (take ((at + 16) - at) (drop at W)) n 0 ≡ get_or W (at + n) 0
part_read W at n h = grind (arith, places)

-- a part of a list that was written, and the others
module _ (W new : List ℕ) (at : ℕ) (room : at + 16 ≤ length W) (sixteen : length new ≡ 16) where
  pub part_new : (n : ℕ) → n < 16 → get_or (put_mid at ((at + 16) - at) W new) (at + n) 0 ≡ get_or new n 0
  part_new n h = grind (arith, places)

  pub part_old : (k : ℕ) → (k < at) ⊎ (at + 16 ≤ k) → get_or (put_mid at ((at + 16) - at) W new) k 0 ≡ get_or W k 0
  part_old k (inl h) = grind (arith, places)
  part_old k (inr h) = grind (arith, places)
