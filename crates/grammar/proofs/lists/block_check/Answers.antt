-- `grammar::block_check` meets its contract. The loop over turns keeps: the lanes are those of the bytes from 4 times the turns left on. The loop over places
-- keeps: the lanes of the places before this one have taken their byte of this turn, and the others are as they were.
-- Assumes nothing.
use Rattle.std.proofs.Common.{◌≡◌, ◌≢◌, refl, ap, ◌∙◌, ◌*◌, ◌<◌, length, arith, below_more, get_or-set_other, get_or-set_same}
use lib.ListN.{length-set, length-take}
use Rattle.model.specs.GrammarFile.{weighted}
use Rattle.grammar.proofs.Lanes.{lanes_all, all_none, all_more, lane_at}
use Rattle.grammar.proofs.lists.block_check.Goals as goal

pub returns-then-summed-lt508 : goal.returns-then-summed-lt508
returns-then-summed-lt508 c = c.part_check.ensures ∙ ap (weighted 1) c.fields-summed.ensures

pub loop-turn-init : goal.loop-turn-init
loop-turn-init c =
    let summed = c.fields-summed.result.now in
    let n = simp length-take at (ap length c.fields-summed.ensures) in
    let long : length summed ≡ 508 = omega arith in
    (long, refl, all_none summed long)

pub taken-requires : goal.taken-requires
taken-requires c =
    let same = c.loop-place.invariant.2 c.loop-place.place (omega arith) in
    let s = c.loop-turn.invariant.2.small c.loop-place.place c.loop-place-test.true in
    rw same (omega (arith, s.one, s.all), omega (arith, s.one, s.all))

pub loop-place-preserved : goal.loop-place-preserved
loop-place-preserved c =
    let place = c.loop-place.place in
    let here : place < length c.loop-place.lanes = omega arith in
    let was : lane_at c.loop-place.lanes place ≡ lane_at c.loop-turn.lanes place = c.loop-place.invariant.2 place (omega arith) in (
      rw length-set c.loop-place.invariant.0,
      below_more _ _ (λ k h. let ne : k ≢ place = omega arith in rw get_or-set_other (c.loop-place.invariant.1 k h)) (rw get_or-set_same (rw was at c.taken.ensures)),
      λ k h. let ne : k ≢ place = omega arith in rw get_or-set_other (c.loop-place.invariant.2 k (omega arith)),
    )

pub loop-turn-preserved : goal.loop-turn-preserved
loop-turn-preserved c =
    let took = c.loop-place.invariant.1 in (
      c.loop-turn.invariant.0,
      c.loop-place.invariant.0,
      all_more c.fields-summed.result.now c.loop-turn.turn c.loop-turn.lanes c.loop-place.lanes c.loop-turn.invariant.0 c.loop-turn-test.true c.loop-turn.auto.turn c.loop-turn.invariant.2 (λ k h. took k (omega arith)),
    )

pub returns : goal.returns
returns c =
    let none : 4 * c.loop-turn.turn ≡ 0 = omega arith in
    lanes_all c.fields-summed.result.now c.added.result c.added-2.result c.added-3.result c.added-4.result
    (rw none at c.loop-turn.invariant.2.are) c.added.ensures.0 c.added-2.ensures.0 c.added-3.ensures.0 c.added-4.ensures.0
    ∙ ap (weighted 1) c.fields-summed.ensures
