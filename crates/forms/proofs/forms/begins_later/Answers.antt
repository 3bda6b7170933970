-- `forms::begins_later` meets its contract.
-- Assumes nothing.
use Rattle.std.proofs.Common.{rules, tests, eqb, refl, ◌-◌, ◌∙◌}
use Rattle.std.proofs.lemmas.Iterator.{YieldsList-from_range}
use Rattle.std.proofs.lemmas.Iterator.Search.{any_from_yields_List}
use Rattle.forms.proofs.Made.{first_at, any_is}
use Rattle.forms.proofs.forms.begins_later.Goals as goal

pub returns : goal.returns
returns c =
    let a = c.args in
    any_from_yields_List (λ j. eqb a.m (first_at a.row.now j)) _ _ _ c.any.ensures.ran (YieldsList-from_range a.k a.n (a.n - a.k) refl refl) (λ x b q k. search (rules, tests))
    ∙ any_is a.row.now a.m a.k (a.n - a.k)
