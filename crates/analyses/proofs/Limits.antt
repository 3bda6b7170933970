-- What limits that pass refusal 24 are.
-- Assumes nothing.
use mathlib.Core.Path.{◌≡◌}
use mathlib.Core.Bool.{◌&&◌, not}
use mathlib.Core.Option.{none}
use Prim.Native.Nat.{ℕ, ◌≤◌}
use borrow.Author.Tests.{leb-true}
use lib.Dec.{leb}
use Rattle.model.specs.declared.Refusal.{Refusal}
use Rattle.model.specs.Counting.{limits_refusal}
use Rattle.model.proofs.Tests.{passes, no_refusal, not_off, and_l, and_r}

module _ (n limit : ℕ) where
  pub record Ranges : Type 0 where
    pub nodes_some : 1 ≤ n
    pub nodes_few : n ≤ 96
    pub limit_some : 1 ≤ limit
    pub limit_few : limit ≤ 1000000000

  pub ranges : limits_refusal n limit ≡ none → Ranges
  ranges e =
      let t = not_off (leb 1 n && leb n 96 && leb 1 limit && leb limit 1000000000) (no_refusal (not (leb 1 n && leb n 96 && leb 1 limit && leb limit 1000000000)) (Refusal.Desk 24 0) e) in
      let u = and_l (leb 1 n && leb n 96 && leb 1 limit) (leb limit 1000000000) t in
      let v = and_l (leb 1 n && leb n 96) (leb 1 limit) u in
      record {
        nodes_some = leb-true 1 n (passes (leb 1 n) (and_l (leb 1 n) (leb n 96) v));
        nodes_few = leb-true n 96 (passes (leb n 96) (and_r (leb 1 n) (leb n 96) v));
        limit_some = leb-true 1 limit (passes (leb 1 limit) (and_r (leb 1 n && leb n 96) (leb 1 limit) u));
        limit_few = leb-true limit 1000000000 (passes (leb limit 1000000000) (and_r (leb 1 n && leb n 96 && leb 1 limit) (leb limit 1000000000) t));
      }
