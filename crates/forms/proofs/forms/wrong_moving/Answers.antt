-- `forms::wrong_moving` meets its contract.
-- Assumes nothing.
use Rattle.std.proofs.Common.{rules, tests, refl, ◌+◌, ◌-◌, ◌∙◌, ◌||◌, not, arith, ◌≡◌}
use Rattle.std.proofs.lemmas.Iterator.{YieldsList-from_range}
use Rattle.std.proofs.lemmas.Iterator.Search.{any_from_yields_List}
use Rattle.minimalist.specs.Lexicon.{is_licensee}
use Rattle.forms.specs.Rows.{firsts_in, any_same}
use Rattle.forms.proofs.Made.{first_at, wrong_is}
use Rattle.forms.proofs.forms.wrong_moving.Goals as goal

pub returns : goal.returns
returns c =
    let row = c.args.row.now in
    let n = c.args.n in
    let e : n - 0 ≡ n = omega arith in
    any_from_yields_List (λ j. not (is_licensee (first_at row j)) || any_same (first_at row j) (firsts_in row (j + 1) (n - (j + 1)))) _ _ _ c.any.ensures.ran (YieldsList-from_range 0 n n refl e) (λ x b q k. search (rules, tests))
    ∙ wrong_is row n 0 n (omega arith)
