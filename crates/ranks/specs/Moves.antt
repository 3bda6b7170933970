-- Which ranks of the queue move, and by how much: the front's components whose lengths are not 1.
-- Assumes nothing.
use Rattle.std.specs.Prelude.{Bool, true, false, List, [], ◌∷◌, ℕ, ◌/◌, ◌%◌, ◌<◌, eqb, get_or}
use Rattle.ranks.specs.declared.prediction.Moves.{Moves}
use Rattle.ranking.specs.Ranks.{shifted}
use Rattle.ranks.specs.Prediction.{Prediction, Each, Short, Apart, ranks, unpacked, rerank}

-- as lists for `shifted`: the component of rank 0, then three others
abbrev pub moves_ranks : Moves → List ℕ
moves_ranks m = 0 ∷ (m.f1 ∷ (m.f2 ∷ (m.f3 ∷ [])))

abbrev pub moves_lengths : Moves → List ℕ
moves_lengths m = m.len0 ∷ (m.len1 ∷ (m.len2 ∷ (m.len3 ∷ [])))

-- of length 1, a component moves nothing
abbrev pub nothing : Moves
nothing = record { len0 = 1; f1 = 255; len1 = 1; f2 = 255; len2 = 1; f3 = 255; len3 = 1 }

abbrev pub with_other : Bool → Moves → ℕ → ℕ → Moves
with_other true m f len = record { len0 = len; f1 = m.f1; len1 = m.len1; f2 = m.f2; len2 = m.len2; f3 = m.f3; len3 = m.len3 }
with_other false m f len = record { len0 = m.len0; f1 = f; len1 = len; f2 = m.f1; len2 = m.len1; f3 = m.f2; len3 = m.len2 }

abbrev pub with_if : Bool → Moves → ℕ → ℕ → Moves
with_if true m f len = m
with_if false m f len = with_other (eqb f 0) m f len

-- m with a component of rank f and len variables
abbrev pub with_one : Moves → ℕ → ℕ → Moves
with_one m f len = with_if (eqb len 1) m f len

abbrev pub gathered : List ℕ → List ℕ → Moves
gathered [] ns = nothing
gathered (k ∷ ks) [] = nothing
gathered (k ∷ ks) (n ∷ ns) = with_one (gathered ks ns) k n

-- the lengths of a rule's four components, 16 bits each
abbrev pub lengths_of : ℕ → List ℕ
lengths_of x = x % 65536 ∷ (x / 65536 % 65536 ∷ (x / 4294967296 % 65536 ∷ (x / 281474976710656 ∷ [])))

pub record Bounded (m : Moves) : Type 0 where
  pub len0 : m.len0 < 256
  pub f1 : m.f1 < 256
  pub len1 : m.len1 < 256
  pub f2 : m.f2 < 256
  pub len2 : m.len2 < 256
  pub f3 : m.f3 < 256
  pub len3 : m.len3 < 256

-- four numbers below 256
pub record Small (f : List ℕ) : Type 0 where
  pub c0 : get_or f 0 0 < 256
  pub c1 : get_or f 1 0 < 256
  pub c2 : get_or f 2 0 < 256
  pub c3 : get_or f 3 0 < 256

-- the front x after a step by a rule of these lengths: the rank at which each of its components begins
abbrev pub begun : ℕ → ℕ → Prediction
begun x lens = rerank (shifted (ranks (unpacked x)) (lengths_of lens)) (unpacked x)

-- x and the lengths are such that its ranks can move
pub record Begins (x lens : ℕ) : Type 0 where
  pub short : Short (unpacked x)
  pub apart : Apart (ranks (unpacked x)) (lengths_of lens) (unpacked x)
  pub len0 : lens % 65536 < 256
  pub len1 : lens / 65536 % 65536 < 256
  pub len2 : lens / 4294967296 % 65536 < 256
  pub len3 : lens / 281474976710656 < 256
  pub after : Each (λ r. r < 512) (begun x lens)
