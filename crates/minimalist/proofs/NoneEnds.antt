-- What is left out can end in no sentence: no derivation of the wanted category has a part whose category is left out.
-- Assumes nothing.
use mathlib.Core.Path.{◌≡◌, ap, sym, ◌∙◌}
use mathlib.Core.Bool.{false, ◌||◌}
use mathlib.Core.Option.{some}
use mathlib.Core.List.{List, [], ◌∷◌}
use Prim.Native.Nat.{ℕ}
use Rattle.model.proofs.Tests.{some_one}
use Rattle.minimalist.specs.Lexicon.{Entry}
use Rattle.minimalist.specs.Derivations.{Chain, Expression, Derivation, merged, moved, derived}
use Rattle.minimalist.specs.Schemes.{features_of, form_of, merge_scheme, move_scheme, no_features, wrong_moving, left_out, PartOf, the_whole, of_selecting, of_selected, of_moved, NoneEnds}
use Rattle.minimalist.proofs.Agree.{strings, merge_agrees, move_agrees}
use Rattle.minimalist.proofs.Harmless.{merge_harmless, move_harmless}
use Rattle.minimalist.proofs.Derivations.{both_out, one_out, instanced}

module _ (lexicon : List Entry) (part : Derivation) (x : Expression) (is-part : derived lexicon part ≡ some x) where
  -- a part of what is not left out is not left out
  part_kept : (d : Derivation) (e : Expression) → derived lexicon d ≡ some e → left_out (form_of e) ≡ false → PartOf part d → left_out (form_of x) ≡ false
  part_kept d e h f the_whole = ap (λ (z : Expression). left_out (form_of z)) (some_one (sym is-part ∙ h)) ∙ f
  part_kept d e h f (of_selecting a b p) =
      let o = both_out merged (derived lexicon a) (derived lexicon b) e h in
      let i = instanced (strings o.left ∷ strings o.right ∷ []) (merged o.left o.right) (merge_scheme (form_of o.left) (form_of o.right)) e (merge_agrees o.left o.right) o.is in
      part_kept a o.left o.left_is (merge_harmless (form_of o.left) (form_of o.right) i.s i.is (ap left_out i.category ∙ f)).0 p
  part_kept d e h f (of_selected a b p) =
      let o = both_out merged (derived lexicon a) (derived lexicon b) e h in
      let i = instanced (strings o.left ∷ strings o.right ∷ []) (merged o.left o.right) (merge_scheme (form_of o.left) (form_of o.right)) e (merge_agrees o.left o.right) o.is in
      part_kept b o.right o.right_is (merge_harmless (form_of o.left) (form_of o.right) i.s i.is (ap left_out i.category ∙ f)).1 p
  part_kept d e h f (of_moved a p) =
      let o = one_out moved (derived lexicon a) e h in
      let i = instanced (strings o.below ∷ []) (moved o.below) (move_scheme (form_of o.below)) e (move_agrees o.below) o.is in
      part_kept a o.below o.below_is (move_harmless (form_of o.below) i.s i.is (ap left_out i.category ∙ f)) p

pub none_ends : NoneEnds
none_ends lexicon start d part e x h wanted still p is-part =
    part_kept lexicon part x is-part d e h (ap (λ (l : List ℕ). no_features l || wrong_moving (features_of e.moving)) wanted ∙ ap (λ (cs : List Chain). wrong_moving (features_of cs)) still) p
