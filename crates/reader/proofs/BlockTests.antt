-- The number that is the check of a block, how many blocks a file has, and the answer of a test of all blocks.
-- Assumes nothing.
use mathlib.Core.Path.{◌≡◌, ap, ◌∙◌}
use mathlib.Core.Bool.{false, ◌&&◌}
use mathlib.Core.List.{List}
use Prim.Native.Nat.{ℕ, ◌+◌, ◌*◌, ◌/◌, ◌%◌, ◌≤◌}
use native.Mathlib.Omega.{arith}
use lib.Dec.{eqb}
use lib.ListN.{length, get_or}
use Rattle.model.proofs.Tests.{not_off, and_r, within_low}
use Rattle.model.specs.Verdict.{tested, Tested}
use Rattle.model.specs.GrammarFile.{within, blocks, four_bytes, wrong_length}
use Rattle.reader.specs.Reading.{BlockTest, blocks_refusal}

-- the number of 4 bytes at byte 508 of block k
module _ (file : List ℕ) (k : ℕ) where
  pub four_check : get_or file (512 * k + 508) 0 + 256 * get_or file (512 * k + 508 + 1) 0 + 65536 * (get_or file (512 * k + 508 + 2) 0 + 256 * get_or file (512 * k + 508 + 3) 0) ≡ four_bytes file k 508
  four_check =
      let a : 512 * k + 508 + 1 ≡ 512 * k + 509 = omega arith in
      let b : 512 * k + 508 + 2 ≡ 512 * k + 510 = omega arith in
      let c : 512 * k + 508 + 3 ≡ 512 * k + 511 = omega arith in
      rw (a, b, c)

-- refusal 1
module _ (file : List ℕ) where
  pub few_blocks : wrong_length file ≡ false → length file / 512 ≤ 14
  few_blocks e =
      (within_low 1 14 (blocks file)
      (and_r (eqb (length file % 512) 0) (within 1 14 (blocks file)) (not_off (eqb (length file % 512) 0 && within 1 14 (blocks file)) e))).1

-- t is the answer of a test of the blocks `from` to n - 1, where n is the number of all blocks
pub all_blocks : (file : List ℕ) (test : BlockTest) (from : ℕ) {n : ℕ} {t : Tested} → n ≡ blocks file → t ≡ tested (blocks_refusal file test from n)
    → t ≡ tested (blocks_refusal file test from (blocks file))
all_blocks file test from all is = is ∙ ap (λ (k : ℕ). tested (blocks_refusal file test from k)) all
