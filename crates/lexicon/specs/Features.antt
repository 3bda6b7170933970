-- The enum of features in the paper's terms.
-- Assumes nothing.
use Rattle.std.specs.Prelude.{Bool, false, ℕ, eqb, Option, Some, None}
use Rattle.minimalist.specs.Lexicon as paper
use Rattle.lexicon.specs.declared.features.Feature.{Feature}
use Rattle.lexicon.specs.declared.features.Feature.TheVariants.{Category, Selector, Licensor, Licensee}

abbrev pub as_feature : Option Feature → paper.Feature
as_feature (Some (Category n)) = paper.category n
as_feature (Some (Selector n)) = paper.selector n
as_feature (Some (Licensor n)) = paper.licensor n
as_feature (Some (Licensee n)) = paper.licensee n
as_feature None = paper.refusal30

-- the category of the number x
abbrev pub is_category : ℕ → paper.Feature → Bool
is_category x (paper.category y) = eqb x y
is_category x (paper.selector y) = false
is_category x (paper.licensor y) = false
is_category x (paper.licensee y) = false
is_category x paper.refusal30 = false

-- the licensee of the number x
abbrev pub is_licensee_of : ℕ → paper.Feature → Bool
is_licensee_of x (paper.category y) = false
is_licensee_of x (paper.selector y) = false
is_licensee_of x (paper.licensor y) = false
is_licensee_of x (paper.licensee y) = eqb x y
is_licensee_of x paper.refusal30 = false
