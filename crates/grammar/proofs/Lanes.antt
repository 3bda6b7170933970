-- The check of a block from four bytes a turn, from the last turn to the first: the sum of the bytes in each of the four places of a turn, and the sum of
-- these sums after each turn.
-- Assumes nothing.
use mathlib.Core.Path.{◌≡◌, refl}
use mathlib.Core.List.{List, [], ◌∷◌}
use Prim.Native.Nat.{ℕ, zero, suc, ◌+◌, ◌-◌, ◌*◌, ◌<◌, ◌≤◌}
use native.Mathlib.Nat.{add-mul, mul-add, mul-zero}
use native.Mathlib.Omega.{arith}
use lib.ListN.{length, get_or, drop}
use native.Mathlib.Nat.{add-zero}
use Rattle.model.specs.GrammarFile.{weighted}
use Rattle.grammar.specs.declared.lists.Lane.{Lane}
use Rattle.grammar.proofs.Walks.{weighted_four, weighted_end}

-- byte x is taken: from sum and sums to those with it
abbrev pub Took : ℕ → ℕ → ℕ → ℕ → ℕ → Type 0
Took x sum sums sum' sums' = (sum' ≡ sum + x) × (sums' ≡ sums + (sum + x)) × (x < 256)

-- of the bytes in one place of the turns taken: how large their sum and the sum of the sums are, with `left` turns left of 127
pub record Small (left sum sums : ℕ) : Type 0 where
  pub one : sum ≤ 255 * (127 - left)
  pub all : sums ≤ 32385 * (127 - left)
  pub within : sum ≤ sums

pub small_none : Small 127 0 0
small_none = record { one = omega arith; all = omega arith; within = omega arith }

pub small_more : {left sum sums sum' sums' : ℕ} (x : ℕ) → 0 < left → left ≤ 127 → Small left sum sums → Took x sum sums sum' sums' → Small (left - 1) sum' sums'
small_more x p l s e = record { one = omega (arith, s.one, e.0, e.2); all = omega (arith, s.one, s.all, e.1, e.2); within = omega (arith, e.0, e.1) }

-- after the turns of the bytes from place i on, with a to d for the sums in the four places and A to D for the sums of these
pub record Lanes (l : List ℕ) (i a A b B c C d D : ℕ) : Type 0 where
  pub so_far : weighted (i + 1) (drop i l) + (3 * a + 2 * b + c) ≡ 4 * (A + B + C + D) + (i * a + i * b + i * c + i * d)

pub lanes_none : (l : List ℕ) (i : ℕ) → length l ≤ i → Lanes l i 0 0 0 0 0 0 0 0
lanes_none l i h = record { so_far = omega (arith, weighted_end l i h, mul-zero i) }

-- a byte x more in one place
place : (i a x : ℕ) {a' : ℕ} → a' ≡ a + x → i * a' + 4 * (a + x) ≡ (i + 4) * a + (i * x + 4 * x)
place i a x e = rw e (omega (arith, mul-add i a x, add-mul i 4 a))

-- one turn more, of the four bytes from place i on
pub lanes_more : (l : List ℕ) (i : ℕ) {a A b B c C d D a' A' b' B' c' C' d' D' : ℕ} → i + 4 ≤ length l → Lanes l (i + 4) a A b B c C d D
    → Took (get_or l i 0) a A a' A'
    → Took (get_or l (i + 1) 0) b B b' B'
    → Took (get_or l (i + 2) 0) c C c' C'
    → Took (get_or l (i + 3) 0) d D d' D'
    → Lanes l i a' A' b' B' c' C' d' D'
lanes_more l i {a} {A} {b} {B} {c} {C} {d} h lanes ea eb ec ed =
    let w = get_or l i 0 in
    let x = get_or l (i + 1) 0 in
    let y = get_or l (i + 2) 0 in
    let z = get_or l (i + 3) 0 in
    record {
      so_far = omega (
        arith,
        lanes.so_far,
        weighted_four l i h,
        place i a w ea.0,
        place i b x eb.0,
        place i c y ec.0,
        place i d z ed.0,
        add-mul i 1 w,
        add-mul i 2 x,
        add-mul i 3 y,
        add-mul i 4 z,
        ea.0,
        ea.1,
        eb.0,
        eb.1,
        ec.0,
        ec.1,
        ed.1,
      );
    }

-- after all turns: what the four lanes add is the whole sum
pub lanes_all : (l : List ℕ) (w x y z : ℕ) {a A b B c C d D : ℕ} → Lanes l 0 a A b B c C d D → w + 3 * a ≡ 4 * A → x + 2 * b ≡ 4 * B → y + 1 * c ≡ 4 * C → z + 0 * d ≡ 4 * D
    → w + x + y + z ≡ weighted 1 l
lanes_all l w x y z lanes ew ex ey ez = omega (arith, lanes.so_far)

abbrev pub lane_none : Lane
lane_none = record { sum = 0; sums = 0 }

-- the lane of a place
abbrev pub lane_at : List Lane → ℕ → Lane
lane_at lanes k = get_or lanes k lane_none

-- a lane has taken byte x
abbrev pub TookOne : ℕ → Lane → Lane → Type 0
TookOne x lane lane' = Took x lane.sum lane.sums lane'.sum lane'.sums

-- the four lanes, with this many turns left
pub record AllLanes (l : List ℕ) (left : ℕ) (lanes : List Lane) : Type 0 where
  pub small : (k : ℕ) → k < 4 → Small left (lane_at lanes k).sum (lane_at lanes k).sums
  pub are :
      Lanes l (4 * left) (lane_at lanes 0).sum (lane_at lanes 0).sums (lane_at lanes 1).sum (lane_at lanes 1).sums (lane_at lanes 2).sum (lane_at lanes 2).sums (lane_at lanes 3).sum (lane_at lanes 3).sums

none_yet : (k : ℕ) → k < 4 → lane_at (lane_none ∷ lane_none ∷ lane_none ∷ lane_none ∷ []) k ≡ lane_none
none_yet zero h = refl
none_yet (suc zero) h = refl
none_yet (suc (suc zero)) h = refl
none_yet (suc (suc (suc zero))) h = refl
none_yet (suc (suc (suc (suc k)))) h = absurd (omega arith)

-- no turn yet
pub all_none : (l : List ℕ) → length l ≡ 508 → AllLanes l 127 (lane_none ∷ lane_none ∷ lane_none ∷ lane_none ∷ [])
all_none l long =
    record {
      small = λ k h. rw (none_yet k h) small_none;
      are = lanes_none l 508 (omega arith);
    }

-- one turn more: each lane has taken its byte
pub all_more : (l : List ℕ) (left : ℕ) (lanes lanes' : List Lane) → length l ≡ 508 → 0 < left → left ≤ 127 → AllLanes l left lanes
    → ((k : ℕ) → k < 4 → TookOne (get_or l (4 * (left - 1) + k) 0) (lane_at lanes k) (lane_at lanes' k)) → AllLanes l (left - 1) lanes'
all_more l left lanes lanes' long some most all took =
    let i = 4 * (left - 1) in
    let at : 4 * left ≡ i + 4 = omega arith in
    record {
      small = λ k h. small_more (get_or l (i + k) 0) some most (all.small k h) (took k h);
      are = lanes_more l i (omega arith) (rw at at all.are) (let z : i + 0 ≡ i = add-zero i in rw z at (took 0 (omega arith))) (took 1 (omega arith)) (took 2 (omega arith)) (took 3 (omega arith));
    }
