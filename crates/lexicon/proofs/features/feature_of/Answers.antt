-- `lexicon::feature_of` meets its contract.
-- Assumes nothing.
use native.Mathlib.Omega.{arith}
use Rattle.lexicon.proofs.FeatureKinds.{is_category_lem, is_selector, is_licensor_lem, is_licensee_lem, is_none, under, over}
use Rattle.lexicon.proofs.features.feature_of.Goals as goal

pub returns-in-1-to-15 : goal.returns-in-1-to-15
returns-in-1-to-15 c = is_category_lem c.args.b (omega arith) (omega arith)

pub returns-in-17-to-31 : goal.returns-in-17-to-31
returns-in-17-to-31 c = is_selector c.args.b (omega arith) (omega arith)

pub returns-in-33-to-35 : goal.returns-in-33-to-35
returns-in-33-to-35 c = is_licensor_lem c.args.b (omega arith) (omega arith)

pub returns-in-49-to-51 : goal.returns-in-49-to-51
returns-in-49-to-51 c = is_licensee_lem c.args.b (omega arith) (omega arith)

pub returns-in_default : goal.returns-in_default
returns-in_default c =
    let b = c.args.b in
    is_none b (under 1 15 b (omega arith)) (under 17 31 b (omega arith)) (under 33 35 b (omega arith)) (under 49 51 b (omega arith))

pub returns-in_default-2 : goal.returns-in_default-2
returns-in_default-2 c =
    let b = c.args.b in
    is_none b (over 1 15 b (omega arith)) (under 17 31 b (omega arith)) (under 33 35 b (omega arith)) (under 49 51 b (omega arith))

pub returns-in_default-3 : goal.returns-in_default-3
returns-in_default-3 c =
    let b = c.args.b in
    is_none b (over 1 15 b (omega arith)) (over 17 31 b (omega arith)) (under 33 35 b (omega arith)) (under 49 51 b (omega arith))

pub returns-in_default-4 : goal.returns-in_default-4
returns-in_default-4 c =
    let b = c.args.b in
    is_none b (over 1 15 b (omega arith)) (over 17 31 b (omega arith)) (over 33 35 b (omega arith)) (under 49 51 b (omega arith))

pub returns-in_default-5 : goal.returns-in_default-5
returns-in_default-5 c =
    let b = c.args.b in
    is_none b (over 1 15 b (omega arith)) (over 17 31 b (omega arith)) (over 33 35 b (omega arith)) (over 49 51 b (omega arith))
