-- Refusal 10 of some pairs of records, computed (proofs/Examples.antt). S, A, B, C are the categories 0, 1, 2, 3; variable x is component 0 of the first
-- daughter of the earlier rule, y of its second, z of its third.
-- Assumes nothing.
use Rattle.std.specs.Prelude.{◌≡◌, true, false, List, [], ◌∷◌, ◌++◌, ℕ, length}
use Rattle.model.specs.GrammarFile.{same_rule}
use Rattle.model.specs.Writer.{padded}

-- the record of a rule of S with these daughters, component lengths, variables and weight
abbrev rule_of_s : List ℕ → List ℕ → List ℕ → ℕ → List ℕ
rule_of_s daughters lengths variables weight =
    (0 ∷ length daughters ∷ []) ++ padded 3 daughters ++ (0 ∷ 0 ∷ []) ++ padded 4 lengths ++ padded 12 variables ++ (weight ∷ [])

pub record Examples : Type 0 where
  -- S(xy) and S(yx) from S, S, with different weights
  pub exchanged : same_rule (rule_of_s (0 ∷ 0 ∷ []) (2 ∷ []) (0 ∷ 4 ∷ []) 0) (rule_of_s (0 ∷ 0 ∷ []) (2 ∷ []) (4 ∷ 0 ∷ []) 7) ≡ true
  -- S(xyz) from A, B, C, and the same from B, C, A and from C, A, B
  pub cycled : same_rule (rule_of_s (1 ∷ 2 ∷ 3 ∷ []) (3 ∷ []) (0 ∷ 4 ∷ 8 ∷ []) 0) (rule_of_s (2 ∷ 3 ∷ 1 ∷ []) (3 ∷ []) (8 ∷ 0 ∷ 4 ∷ []) 0) ≡ true
  pub cycled_back : same_rule (rule_of_s (1 ∷ 2 ∷ 3 ∷ []) (3 ∷ []) (0 ∷ 4 ∷ 8 ∷ []) 0) (rule_of_s (3 ∷ 1 ∷ 2 ∷ []) (3 ∷ []) (4 ∷ 8 ∷ 0 ∷ []) 0) ≡ true
  -- the daughters reordered, and the variables not renumbered: S(yzx) from B, C, A
  pub not_renumbered : same_rule (rule_of_s (1 ∷ 2 ∷ 3 ∷ []) (3 ∷ []) (0 ∷ 4 ∷ 8 ∷ []) 0) (rule_of_s (2 ∷ 3 ∷ 1 ∷ []) (3 ∷ []) (0 ∷ 4 ∷ 8 ∷ []) 0) ≡ false
  -- the variables of different daughters exchanged: S(xy) and S(yx) from A, B
  pub other_string : same_rule (rule_of_s (1 ∷ 2 ∷ []) (2 ∷ []) (0 ∷ 4 ∷ []) 0) (rule_of_s (1 ∷ 2 ∷ []) (2 ∷ []) (4 ∷ 0 ∷ []) 0) ≡ false
  -- the rule's own components exchanged: S(x, yz) and S(yz, x) from A, B, C
  pub own_components : same_rule (rule_of_s (1 ∷ 2 ∷ 3 ∷ []) (1 ∷ 2 ∷ []) (0 ∷ 4 ∷ 8 ∷ []) 0) (rule_of_s (1 ∷ 2 ∷ 3 ∷ []) (2 ∷ 1 ∷ []) (4 ∷ 8 ∷ 0 ∷ []) 0) ≡ false
