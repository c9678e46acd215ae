use Rattle.setup.proofs.Sixteen.{packed}
use Rattle.setup.proofs.words.pack.Goals as goal

pub returns : goal.returns
returns c =
    packed c.args.ready c.requires _ _ _ _ _ _ _ _ _ _ _ _ _ _ _ _ c.distance.ensures c.distance-2.ensures c.distance-3.ensures c.distance-4.ensures c.distance-5.ensures c.distance-6.ensures
    c.pair.ensures.low c.pair.ensures.high c.pair-2.ensures.low c.pair-3.ensures.low c.pair-3.ensures.high c.pair-4.ensures.low c.pair-4.ensures.high c.pair-5.ensures.low c.pair-5.ensures.high
    c.colour_word.ensures c.colour_word-2.ensures c.colour_word-3.ensures c.pair-6.ensures.low c.pair-6.ensures.high c.pair-7.ensures.low c.pair-7.ensures.high
