-- `rule_table::places::stand_at` meets its contract.
-- Assumes nothing.
use mathlib.Core.Path.{sym, ◌∙◌}
use native.Mathlib.Omega.{arith}
use Rattle.rule_table.proofs.Standing.{stand_first, stand_second, stand_third, stand_fourth}
use Rattle.rule_table.proofs.places.stand_at.Goals as goal

pub returns-then-v-one : goal.returns-then-v-one
returns-then-v-one c =
    let a = c.args in
    let one = c.from-one in
    (sym (stand_first a.e.now a.v one.result (one.ensures ∙ c.byte.ensures) c.if-v-one.true), record { component_small = omega arith; position_small = omega arith })

pub returns-then-v-two : goal.returns-then-v-two
returns-then-v-two c =
    let a = c.args in
    let one = c.from-one in
    let two = c.from in
    (sym (stand_second a.e.now a.v one.result (one.ensures ∙ c.byte.ensures) two.result (two.ensures ∙ c.byte-2.ensures) (omega arith) (omega arith)), record { component_small = omega arith; position_small = omega arith })

pub returns-then-v-three : goal.returns-then-v-three
returns-then-v-three c =
    let a = c.args in
    let one = c.from-one in
    let two = c.from in
    let three = c.from-2 in
    (sym (stand_third a.e.now a.v one.result (one.ensures ∙ c.byte.ensures) two.result (two.ensures ∙ c.byte-2.ensures) three.result (three.ensures ∙ c.byte-3.ensures) (omega arith) (omega arith)), record { component_small = omega arith; position_small = omega arith })

pub returns : goal.returns
returns c =
    let a = c.args in
    let one = c.from-one in
    let two = c.from in
    let three = c.from-2 in
    (sym (stand_fourth a.e.now a.v one.result (one.ensures ∙ c.byte.ensures) two.result (two.ensures ∙ c.byte-2.ensures) three.result (three.ensures ∙ c.byte-3.ensures) (omega arith) (omega arith)), record { component_small = omega arith; position_small = omega arith })
