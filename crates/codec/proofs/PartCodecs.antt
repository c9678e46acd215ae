-- The parts of commands, and textures: each is written in one way, and read back.
-- Assumes nothing.
use Rattle.std.proofs.Common.{◌+◌, ◌*◌, ◌^◌, refl, append_assoc, arith}
use Rattle.meaning.specs.Fits.{PlaceFits, CornerFits, TripleFits, RowFits, ImageFits}
use Rattle.codec.specs.File.{row_bytes, place_bytes, corner_bytes, triple_bytes, image_bytes}
use Rattle.codec.specs.Judged.{a_row, a_place, a_corner, a_triple, a_texture}
use Rattle.codec.proofs.Reading.{Codec, after, done, bytes_codec}
use Rattle.codec.proofs.NumberCodecs.{byte_codec, word_codec, whole_codec}

corner_codec : Codec a_corner corner_bytes CornerFits
unfolding a_corner corner_bytes
corner_codec = let whole = whole_codec 8388608 (omega arith) in record {
  reads = λ c h. simp append_assoc (rw (
    whole.reads c.x h.x,
    whole.reads c.y h.y,
    whole.reads c.z h.z,
    (word_codec 5).reads c.u h.u,
    (word_codec 5).reads c.v h.v,
    (bytes_codec 4).reads c.colour (h.four, h.bytes),
  ));
  sound =
      after whole (λ x hx. after whole (λ y hy. after whole (λ z hz. after (word_codec 5) (λ u hu. after (word_codec 5) (λ v hv. after (bytes_codec 4) (λ c hc. done (λ l.
      record { fits = record { x = hx; y = hy; z = hz; u = hu; v = hv; four = hc.0; bytes = hc.1 }; spelt = simp append_assoc })))))));
}

pub triple_codec : Codec a_triple triple_bytes TripleFits
unfolding a_triple triple_bytes
triple_codec = record {
  reads = λ c h. simp append_assoc (rw (corner_codec.reads c.a h.a, corner_codec.reads c.b h.b, corner_codec.reads c.c h.c));
  sound =
      after corner_codec (λ a ha. after corner_codec (λ b hb. after corner_codec (λ c hc. done (λ l.
      record { fits = record { a = ha; b = hb; c = hc }; spelt = simp append_assoc }))));
}

pub row_codec : Codec a_row row_bytes RowFits
unfolding a_row row_bytes
row_codec = let whole = whole_codec 16777216 (omega arith) in record {
  reads = λ m h. simp append_assoc (rw (whole.reads m.x h.x, whole.reads m.y h.y, whole.reads m.z h.z, whole.reads m.one h.one));
  sound =
      after whole (λ x hx. after whole (λ y hy. after whole (λ z hz. after whole (λ o ho. done (λ l.
      record { fits = record { x = hx; y = hy; z = hz; one = ho }; spelt = simp append_assoc })))));
}

pub place_codec : Codec a_place place_bytes PlaceFits
unfolding a_place place_bytes
place_codec = let whole = whole_codec 524288 (omega arith) in record {
  reads = λ p h. simp append_assoc (rw (whole.reads p.x h.x, whole.reads p.y h.y));
  sound = after whole (λ x hx. after whole (λ y hy. done (λ l. record { fits = record { x = hx; y = hy }; spelt = simp append_assoc })));
}

pub texture_codec : Codec a_texture image_bytes ImageFits
unfolding a_texture image_bytes
texture_codec = let power = byte_codec 3 8 (omega arith) in record {
  reads = λ i h. rw (power.reads i.across h.across, power.reads i.down h.down, (bytes_codec (4 * 2 ^ (i.across + i.down))).reads i.dots (h.size, h.bytes));
  sound =
      after power (λ x hx. after power (λ y hy. after (bytes_codec (4 * 2 ^ (x + y))) (λ d hd. done (λ l.
      record { fits = record { across = hx; down = hy; size = hd.0; bytes = hd.1 }; spelt = refl }))));
}
