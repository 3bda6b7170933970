-- A prediction with ranks, and as one number: 9 bits a rank, 6 the category, 9 the number of the prediction, and the least rank on top.
-- Assumes nothing.
use Rattle.std.specs.Prelude.{◌≡◌, List, [], ◌∷◌, ℕ, ◌+◌, ◌*◌, ◌/◌, ◌%◌, ◌<◌, ◌≤◌}
use Rattle.ranking.specs.Ranks.{passed, added}

-- a component that is not there repeats the rank of component 0
pub record Prediction : Type 0 where
  pub least : ℕ
  pub number : ℕ
  pub category : ℕ
  pub rank3 : ℕ
  pub rank2 : ℕ
  pub rank1 : ℕ
  pub rank0 : ℕ

abbrev pub ranks : Prediction → List ℕ
ranks p = p.rank0 ∷ (p.rank1 ∷ (p.rank2 ∷ (p.rank3 ∷ [])))

-- four ranks, what stands between them and the least rank (15 bits), the least rank
abbrev pub lanes : ℕ → ℕ → ℕ → ℕ → ℕ → ℕ → ℕ
lanes r0 r1 r2 r3 m l = ((((l * 32768 + m) * 512 + r3) * 512 + r2) * 512 + r1) * 512 + r0

abbrev pub packed : Prediction → ℕ
packed p = lanes p.rank0 p.rank1 p.rank2 p.rank3 (p.number * 64 + p.category) p.least

abbrev pub unpacked : ℕ → Prediction
unpacked x = record { least = x / 2251799813685248; number = x / 4398046511104 % 512; category = x / 68719476736 % 64; rank3 = x / 134217728 % 512; rank2 = x / 262144 % 512; rank1 = x / 512 % 512; rank0 = x % 512 }

-- P holds of each rank, the least one too
pub record Each (P : ℕ → Type 0) (p : Prediction) : Type 0 where
  pub least : P p.least
  pub rank3 : P p.rank3
  pub rank2 : P p.rank2
  pub rank1 : P p.rank1
  pub rank0 : P p.rank0

-- ranks of 8 bits
abbrev pub Short : Prediction → Type 0
Short p = Each (λ r. r < 256) p

-- not the front: no rank is 0
abbrev pub Behind : Prediction → Type 0
Behind p = Each (λ r. 0 < r) p

-- `shifted ks ns` takes no more from a rank than there is
abbrev pub Apart : List ℕ → List ℕ → Prediction → Type 0
Apart ks ns p = Each (λ r. passed r ks ≤ r + added r ks ns) p

-- what `packed` can hold: a rank has 9 bits
pub record Sized (p : Prediction) : Type 0 where
  pub lanes : Each (λ r. r < 512) p
  pub number : p.number < 512
  pub category : p.category < 64

-- each rank r becomes f r
abbrev pub rerank : (ℕ → ℕ) → Prediction → Prediction
rerank f p = record { least = f p.least; number = p.number; category = p.category; rank3 = f p.rank3; rank2 = f p.rank2; rank1 = f p.rank1; rank0 = f p.rank0 }

-- f r for each rank r, and nothing else
abbrev pub marks : (ℕ → ℕ) → Prediction → Prediction
marks f p = record { least = f p.least; number = 0; category = 0; rank3 = f p.rank3; rank2 = f p.rank2; rank1 = f p.rank1; rank0 = f p.rank0 }

-- 0 or 1 for each rank, and nothing else
pub record Flags (p : Prediction) : Type 0 where
  pub each : Each (λ a. a < 2) p
  pub number : p.number ≡ 0
  pub category : p.category ≡ 0

-- a rerank of a number
abbrev pub remade : (ℕ → ℕ) → ℕ → ℕ
remade f x = packed (rerank f (unpacked x))
