-- The earlier records that may hold the same rule as a record, found by their hashes: refusal 10 compares it with these alone.
-- Assumes nothing.
use Rattle.std.specs.Prelude.{◌≡◌, List, ℕ, zero, suc, ◌+◌, ◌*◌, ◌%◌, ◌<◌, ◌≤◌, eqb, get_or, if◌then◌else◌}
use Rattle.model.specs.GrammarFile.{field}

-- a sum over bytes 0 (category), 2 to 4 (daughters), 5 and 6 (word) of a record
abbrev pub hash_sum : List ℕ → ℕ
hash_sum e = 29 * field e 0 + 17 * (field e 2 + field e 3 + field e 4) + field e 5 + 37 * field e 6

-- the hash of a record: that sum in one byte
abbrev pub hash_of : List ℕ → ℕ
hash_of e = hash_sum e % 256

-- one more than the latest of the numbers below n that has hash h, or 0 where none has
abbrev pub latest : (ℕ → ℕ) → ℕ → ℕ → ℕ
latest hash h zero = 0
latest hash h (suc n) = if eqb (hash n) h then suc n else latest hash h n

-- a chain of n numbers, at most 256: from each to the latest before it with the same hash
pub record Chained (hash : ℕ → ℕ) (n : ℕ) (chain : List ℕ) : Type 0 where
  pub few : n ≤ 256
  pub before : (r : ℕ) → r < n → get_or chain r 0 ≡ latest hash (hash r) r

-- the hashes of records
abbrev pub hash_at : (ℕ → List ℕ) → ℕ → ℕ
hash_at record_at r = hash_of (record_at r)

-- e is the record of rule r, and the chain is that of the rules up to it
pub record InChain (record_at : ℕ → List ℕ) (r : ℕ) (chain e : List ℕ) : Type 0 where
  pub is : e ≡ record_at r
  pub chained : Chained (hash_at record_at) (r + 1) chain
