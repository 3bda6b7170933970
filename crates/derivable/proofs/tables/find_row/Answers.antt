-- `derivable::find_row` meets its contract.
-- Assumes nothing.
use Rattle.std.proofs.Common.{rules, tests, refl}
use Rattle.std.proofs.lemmas.Iterator.{YieldsList-from_slice}
use Rattle.std.proofs.lemmas.Iterator.Search.{position_from_yields_List}
use lib.ListN.{length}
use Rattle.model.specs.Base.{same_list}
use Rattle.forms.proofs.Made.{place_found}
use Rattle.derivable.proofs.TableLaws.{place_sought_is}
use Rattle.derivable.proofs.tables.find_row.Goals as goal

pub returns : goal.returns
returns c =
    let rows = c.args.rows.now in
    let row = c.args.row.now in
    let r = position_from_yields_List (λ x. same_list x row) _ _ c.position.result c.position.ensures.ran (YieldsList-from_slice rows cc) (λ x b q k. search (rules, tests)) in
    place_found _ _ _ (length rows) r (place_sought_is row rows) refl
