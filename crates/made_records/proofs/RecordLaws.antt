-- The bytes put are those of the rule's record, and records one after another.
-- Assumes nothing.
use Rattle.std.specs.Prelude.{if◌then◌else◌, Option, Some, None}
use mathlib.Core.Path.{◌≡◌, refl, sym, ap, ◌∙◌}
use mathlib.Core.Bool.{Bool, true, false}
use mathlib.Core.List.{List, [], ◌∷◌, ◌++◌, append-nil}
use Prim.Native.Nat.{ℕ, zero, suc, ◌+◌, ◌-◌, ◌*◌, ◌<◌, ◌≤◌}
use native.Mathlib.Omega.{arith}
use native.Mathlib.Decide.{ℕ_discrete, dec_lt}
use lib.Dec.{ltb, eqb}
use lib.ListN.{length, get_or, set, take, length-append, get_or-append}
use lib.Seq.{get_or-set_same, get_or-set_other, ext_get_or, get_or-take, length-take-le}
use borrow.Author.Tests.{lt-ltb, le-ltb}
use Rattle.model.specs.Base.{each, numbers_from}
use Rattle.model.specs.Grammar.{Rule, variable, nonlexical}
use Rattle.model.proofs.Lists.{each_append}
use Rattle.model.proofs.ByteLists.{joined_at, after_front}
use Rattle.grammar_to_file.specs.FileFor.{record_for}
use Rattle.grammar_to_file.proofs.FileHolds.{records_long}
use Rattle.minimalist.specs.Schemes.{singles, joined_variables}
use Rattle.made_records.specs.declared.Shape.{Shape}
use Rattle.made_records.specs.declared.Records.{Records}
use Rattle.forms.specs.declared.merges.MergeScheme.{MergeScheme}
use Rattle.forms.specs.declared.merges.MergeScheme.TheVariants.{First, Second, Third}
use Rattle.forms.specs.declared.moves.MoveScheme.{MoveScheme}
use Rattle.forms.specs.declared.moves.MoveScheme.TheVariants.{Fourth, Fifth}
use Rattle.made_records.specs.declared.MadeRule.{MadeRule}
use Rattle.made_records.specs.declared.MadeRule.TheVariants.{Start, Entry, Merge, Move}
use Rattle.made_records.specs.Records.{as_rule, Fits, merge_components, move_components, merge_shape, move_shape, front_of, shape_of, record_byte, Put, told, Held, AddsRule}

-- the 24 bytes, and that they are those of the rule's record
abbrev bytes_of : List ℕ → Shape → List ℕ
bytes_of front s = each (λ p. record_byte front s p ∷ []) (numbers_from 0 24)

-- a number of at most three
few : (P : ℕ → Type 0) → P 0 → P 1 → P 2 → P 3 → (n : ℕ) → n ≤ 3 → P n
few P a b c d zero h = a
few P a b c d (suc zero) h = b
few P a b c d (suc (suc zero)) h = c
few P a b c d (suc (suc (suc zero))) h = d
few P a b c d (suc (suc (suc (suc n)))) h = let z : ⊥ = omega arith in absurd z

module _ (c x y : ℕ) where
  abbrev MergeRight : MergeScheme → ℕ → ℕ → Type 0
  MergeRight s i j = bytes_of (c ∷ 2 ∷ x ∷ y ∷ 0 ∷ 0 ∷ 0 ∷ []) (merge_shape s i j) ≡ record_for (nonlexical c (x ∷ y ∷ []) (merge_components s i j))

  all_few : (P : ℕ → ℕ → Type 0) → ((j : ℕ) → j ≤ 3 → P 0 j) → ((j : ℕ) → j ≤ 3 → P 1 j) → ((j : ℕ) → j ≤ 3 → P 2 j) → ((j : ℕ) → j ≤ 3 → P 3 j) → (i j : ℕ) → i ≤ 3 → j ≤ 3 → P i j
  all_few P p q r s i j h k = few (λ i. (j : ℕ) → j ≤ 3 → P i j) p q r s i h j k

  merge_right : (s : MergeScheme) (i j : ℕ) → i ≤ 3 → j ≤ 3 → MergeRight s i j
  merge_right First =
      all_few (MergeRight First)
      (few (MergeRight First 0) refl refl refl refl)
      (few (MergeRight First 1) refl refl refl refl)
      (few (MergeRight First 2) refl refl refl refl)
      (few (MergeRight First 3) refl refl refl refl)
  merge_right Second =
      all_few (MergeRight Second)
      (few (MergeRight Second 0) refl refl refl refl)
      (few (MergeRight Second 1) refl refl refl refl)
      (few (MergeRight Second 2) refl refl refl refl)
      (few (MergeRight Second 3) refl refl refl refl)
  merge_right Third =
      all_few (MergeRight Third)
      (few (MergeRight Third 0) refl refl refl refl)
      (few (MergeRight Third 1) refl refl refl refl)
      (few (MergeRight Third 2) refl refl refl refl)
      (few (MergeRight Third 3) refl refl refl refl)

  abbrev MoveRight : MoveScheme → ℕ → ℕ → Type 0
  MoveRight s n t = bytes_of (c ∷ 1 ∷ x ∷ 0 ∷ 0 ∷ 0 ∷ 0 ∷ []) (move_shape s n t) ≡ record_for (nonlexical c (x ∷ []) (move_components s n t))

  move_right : (s : MoveScheme) (n t : ℕ) → n ≤ 3 → t ≤ 3 → MoveRight s n t
  move_right Fourth =
      all_few (MoveRight Fourth)
      (few (MoveRight Fourth 0) refl refl refl refl)
      (few (MoveRight Fourth 1) refl refl refl refl)
      (few (MoveRight Fourth 2) refl refl refl refl)
      (few (MoveRight Fourth 3) refl refl refl refl)
  move_right Fifth =
      all_few (MoveRight Fifth)
      (few (MoveRight Fifth 0) refl refl refl refl)
      (few (MoveRight Fifth 1) refl refl refl refl)
      (few (MoveRight Fifth 2) refl refl refl refl)
      (few (MoveRight Fifth 3) refl refl refl refl)

made_record : (r : MadeRule) → Fits r → bytes_of (front_of r) (shape_of r) ≡ record_for (as_rule r)
made_record (Start x) h = refl
made_record (Entry c w) h = refl
made_record (Merge c x y s i j) h = merge_right c.0 x.0 y.0 s i j h.0 h.1
made_record (Move c x s n t) h = move_right c.0 x.0 0 s n t h.0 h.1

byte_is : (front : List ℕ) (s : Shape) (p : ℕ) → p < 24 → record_byte front s p ≡ get_or (bytes_of front s) p 0
byte_is front s p h =
    let e : 1 * p + 0 ≡ p = omega arith in
    let z : 0 + p ≡ p = omega arith in
    ap (record_byte front s) (sym z) ∙ sym (joined_at (λ q. record_byte front s q ∷ []) 1 0 24 (λ k a b. refl) p 0 h (omega arith)) ∙ ap (λ (q : ℕ). get_or (bytes_of front s) q 0) e

-- a record put byte by byte, one byte further
module _ (f : ℕ → ℕ) (t first : List ℕ) (at p v : ℕ) where
  pub put_new : at + p < length t → v ≡ f p → ((q : ℕ) → q < p → get_or t (at + q) 0 ≡ f q) → (q : ℕ) → q < p + 1 → get_or (set t (at + p) v) (at + q) 0 ≡ f q
  put_new h w e q l = go (ℕ_discrete q p)
    where
      go : Dec (q ≡ p) → get_or (set t (at + p) v) (at + q) 0 ≡ f q
      go (yes s) = ap (λ (x : ℕ). get_or (set t (at + p) v) (at + x) 0) s ∙ get_or-set_same t (at + p) v 0 h ∙ w ∙ ap f (sym s)
      go (no d) = get_or-set_other t (at + p) (at + q) v 0 (λ z. d (omega arith)) ∙ e q (omega arith)

  pub put_old : ((q : ℕ) → q < at → get_or t q 0 ≡ get_or first q 0) → (q : ℕ) → q < at → get_or (set t (at + p) v) q 0 ≡ get_or first q 0
  put_old e q l = get_or-set_other t (at + p) q v 0 (λ z. omega arith) ∙ e q l

-- records in front, and one more
module _ (before after all new : List ℕ) (k : ℕ) (room : 24 * k + 24 ≤ length after) (long : length all ≡ 24 * k) (one : length new ≡ 24) where
  one_more : take (24 * k) before ≡ all → ((p : ℕ) → p < 24 → get_or after (24 * k + p) 0 ≡ get_or new p 0) → ((q : ℕ) → q < 24 * k → get_or after q 0 ≡ get_or before q 0)
      → take (24 * k + 24) after ≡ all ++ new
  one_more e u v =
      ext_get_or 0 (take (24 * k + 24) after) (all ++ new) (omega (arith, length-take-le (24 * k + 24) after room, length-append all new))
      (λ i h. go i (omega (arith, length-take-le (24 * k + 24) after room)) (dec_lt i (24 * k)))
    where
      go : (i : ℕ) → i < 24 * k + 24 → Dec (i < 24 * k) → get_or (take (24 * k + 24) after) i 0 ≡ get_or (all ++ new) i 0
      go i h (yes l) =
          get_or-take (24 * k + 24) after i 0 h ∙ v i l ∙ sym (get_or-take (24 * k) before i 0 l) ∙ ap (λ (s : List ℕ). get_or s i 0) e
          ∙ sym (get_or-append all new 0 i (omega arith))
      go i h (no l) =
          let z : 24 * k + (i - 24 * k) ≡ i = omega arith in
          get_or-take (24 * k + 24) after i 0 h ∙ ap (λ (q : ℕ). get_or after q 0) (sym z) ∙ u (i - 24 * k) (omega arith)
          ∙ sym (after_front all new (24 * k) i (i - 24 * k) long (sym z))

-- how many rules there are, by the count
none_some : {C : Type 0} (n : ℕ) → None ≡ Some n → C
none_some n e = let z : ⊥ = cc in absurd z

told_one : (n k : ℕ) → Some k ≡ told n → k ≡ n
told_one n k e = go (ltb 256 n) e
  where
    go : (t : Bool) → Some k ≡ (if t then None else Some n) → k ≡ n
    go true e = none_some k (sym e)
    go false e = cc

-- how many rules there are, where they are at most 256
pub count_is : {records : Records} {rules : List Rule} → Held records rules → length rules ≤ 256 → records.count ≡ Some (length rules)
count_is {rules = rules} held h = held.count ∙ rw (le-ltb 256 (length rules) h)

module _ (rule : MadeRule) (bytes : List ℕ) where
  more : (rules : List Rule) → length (rules ++ (as_rule rule ∷ [])) ≡ length rules + 1
  more rules = length-append rules (as_rule rule ∷ [])

  pub rule_put : (after : List ℕ) (k : ℕ) → k < 256 → Put (record_byte (front_of rule) (shape_of rule)) bytes k after
      → AddsRule rule (record { bytes = bytes; count = Some k }) (record { bytes = after; count = Some (k + 1) })
  rule_put after k h put fits rules held =
      record {
        long = put.long ∙ held.long;
        count = ap Some (let z : k + 1 ≡ length (rules ++ (as_rule rule ∷ [])) = omega (arith, more rules, n) in z) ∙ sym (rw (le-ltb 256 (length (rules ++ (as_rule rule ∷ []))) (omega (arith, more rules, n))));
        are = λ l. ap (λ (m : ℕ). take m after) whole ∙ joined ∙ sym (each_append record_for rules (as_rule rule ∷ []));
      }
    where
      n : k ≡ length rules
      n = told_one (length rules) k held.count

      whole : 24 * length (rules ++ (as_rule rule ∷ [])) ≡ 24 * k + 24
      whole = omega (arith, more rules, n)

      joined : take (24 * k + 24) after ≡ each record_for rules ++ (record_for (as_rule rule) ++ [])
      joined =
          one_more bytes after (each record_for rules) (record_for (as_rule rule) ++ []) k (omega (arith, put.long, held.long)) (records_long rules ∙ ap (λ (m : ℕ). 24 * m) (sym n))
          (records_long (as_rule rule ∷ [])) (ap (λ (m : ℕ). take (24 * m) bytes) n ∙ held.are (omega (arith, n)))
          (λ p l. put.new p l ∙ byte_is (front_of rule) (shape_of rule) p l ∙ ap (λ (s : List ℕ). get_or s p 0) (made_record rule fits ∙ sym (append-nil (record_for (as_rule rule))))) put.old
