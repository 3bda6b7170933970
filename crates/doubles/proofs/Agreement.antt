-- Two records that pass 6 to 9 agree byte by byte under an order of the daughters just if the rules that they hold do.
-- Assumes nothing.
use Rattle.std.specs.Prelude.{if◌then◌else◌}
use mathlib.Core.Path.{◌≡◌, refl, sym, ap, ap₂, subst, ◌∙◌}
use mathlib.Core.Logic.{◌⊎◌, inl, inr}
use mathlib.Core.Bool.{Bool}
use mathlib.Core.List.{List, [], ◌∷◌, map, Memᴰ}
use Prim.Native.Nat.{ℕ, zero, suc, ◌+◌, ◌-◌, ◌*◌, ◌/◌, ◌%◌, ◌<◌, ◌≤◌}
use native.Mathlib.Omega.{arith}
use native.Mathlib.Decide.{dec_lt}
use borrow.Author.Tests.{eq-eqb}
use lib.Dec.{T, ltb, eqb, eqb→eq}
use lib.ListN.{length, get_or, drop, length-map}
use lib.Seq.{get_or-drop, ext_get_or}
use Rattle.model.specs.Base.{numbers_from, any_of, same_list, total}
use Rattle.model.specs.WellFormed.{Perm}
use Rattle.model.specs.GrammarFile.{fields, field, daughters_of, renumbered, same_record, same_frame, same_daughters, same_variables, same_in_order, other_orders, same_reordered, sequences, rule_of}
use Rattle.model.proofs.Tests.{and_l, and_r, and_both, or_left, or_right, or_cases, all_true, all_by, list_same, same_list_lem}
use Rattle.model.proofs.ByteLists.{fields_length, fields_at, fields_same}
use Rattle.doubles.specs.Doubles.{renumber, Reordered}
use Rattle.doubles.proofs.Orders.{unmoved, extended, order_length, order_low, extended_at, extended_stays}
use Rattle.doubles.proofs.Sequences.{map_at, total_front, sequences_renumbered, Renumbered, sequences_back}
use Rattle.doubles.proofs.Shape.{parts, counted, Shape}

-- parts of two records compared
same_fields : (a b : List ℕ) (i n : ℕ) → T (same_list (fields a i n) (fields b i n)) → (k : ℕ) → k < n → field a (i + k) ≡ field b (i + k)
same_fields a b i n t k h = sym (fields_at a i n k h) ∙ ap (λ (l : List ℕ). get_or l k 0) (same_list_lem (fields a i n) (fields b i n) t) ∙ fields_at b i n k h

fields_agree : (a b : List ℕ) (i n : ℕ) → i + n ≤ length a → i + n ≤ length b → ((k : ℕ) → k < n → field a (i + k) ≡ field b (i + k)) → T (same_list (fields a i n) (fields b i n))
fields_agree a b i n ha hb h = subst (λ (l : List ℕ). T (same_list (fields a i n) l)) (fields_same a b i i n ha hb h) (list_same (fields a i n))

passes_equal : (x y : ℕ) → x ≡ y → T (eqb x y)
passes_equal x y e = subst T (sym (eq-eqb x y e)) tt

-- what the tests of refusal 10 say byte by byte, under the order o
pub record Agrees (earlier e o : List ℕ) : Type 0 where
  pub category : field earlier 0 ≡ field e 0
  pub many : field earlier 1 ≡ field e 1
  pub part : (i : ℕ) → i < 6 → field earlier (5 + i) ≡ field e (5 + i)
  pub daughter : (j : ℕ) → j < 3 → field e (2 + j) ≡ field earlier (2 + get_or o j 0)
  pub variable : (k : ℕ) → k < counted e → renumbered o (field e (11 + k)) ≡ field earlier (11 + k)

module _ (earlier e o : List ℕ) where
  pub agrees : T (same_frame earlier e) → T (same_in_order earlier e o) → Agrees earlier e o
  agrees frame t =
      let first = same_fields earlier e 0 2 (and_l (same_list (fields earlier 0 2) (fields e 0 2)) (same_list (fields earlier 5 6) (fields e 5 6)) frame) in
      record {
        category = first 0 (omega arith);
        many = first 1 (omega arith);
        part = same_fields earlier e 5 6 (and_r (same_list (fields earlier 0 2) (fields e 0 2)) (same_list (fields earlier 5 6) (fields e 5 6)) frame);
        daughter = λ j h.
            eqb→eq (field e (2 + j)) (field earlier (2 + get_or o j 0))
            (all_true (λ j. eqb (field e (2 + j)) (field earlier (2 + get_or o j 0))) 3 (and_l (same_daughters earlier e o) (same_variables earlier e o) t) j h);
        variable = λ k h.
            eqb→eq (renumbered o (field e (11 + k))) (field earlier (11 + k))
            (all_true (λ k. eqb (renumbered o (field e (11 + k))) (field earlier (11 + k))) (counted e) (and_r (same_daughters earlier e o) (same_variables earlier e o) t) k h);
      }

  pub in_order : Agrees earlier e o → T (same_in_order earlier e o)
  in_order h =
      and_both (same_daughters earlier e o) (same_variables earlier e o)
      (all_by (λ j. eqb (field e (2 + j)) (field earlier (2 + get_or o j 0))) 3 (λ j l. passes_equal (field e (2 + j)) (field earlier (2 + get_or o j 0)) (h.daughter j l)))
      (all_by (λ k. eqb (renumbered o (field e (11 + k))) (field earlier (11 + k))) (counted e)
      (λ k l. passes_equal (renumbered o (field e (11 + k))) (field earlier (11 + k)) (h.variable k l)))

-- one of the orders tried passes
any_out : (test : List ℕ → Bool) (os : List (List ℕ)) → T (any_of test os) → (o : List ℕ) × Memᴰ o os × T (test o)
any_out test [] t = absurd t
any_out test (o ∷ os) t = go (or_cases (test o) (any_of test os) t) (λ u. any_out test os u)
  where
    go : T (test o) ⊎ T (any_of test os) → (T (any_of test os) → (p : List ℕ) × Memᴰ p os × T (test p)) → (p : List ℕ) × Memᴰ p (o ∷ os) × T (test p)
    go (inl u) ih = (o, Memᴰ.head refl, u)
    go (inr u) ih = let (p, m, v) = ih u in (p, Memᴰ.tail m, v)

pub any_in : (test : List ℕ → Bool) {o : List ℕ} {os : List (List ℕ)} → Memᴰ o os → T (test o) → T (any_of test os)
any_in test (Memᴰ.head {x = p} {xs = os} e) t = or_left (test p) (any_of test os) (subst (λ (l : List ℕ). T (test l)) e t)
any_in test (Memᴰ.tail {x = p} {xs = os} m) t = or_right (test p) (any_of test os) (any_in test m t)

-- the order under which a record that equals an earlier one once its daughters are reordered agrees with it
pub record Found (earlier e : List ℕ) : Type 0 where
  pub order : List ℕ
  pub among : Memᴰ order (other_orders (field e 1))
  pub agreed : Agrees earlier e order

pub found : (earlier e : List ℕ) → T (same_reordered earlier e) → Found earlier e
found earlier e t =
    let frame = and_l (same_frame earlier e) (any_of (same_in_order earlier e) (other_orders (field e 1))) t in
    let (o, m, u) = any_out (same_in_order earlier e) (other_orders (field e 1)) (and_r (same_frame earlier e) (any_of (same_in_order earlier e) (other_orders (field e 1))) t) in
    record { order = o; among = m; agreed = agrees earlier e o frame u }

unmoved_at : (i : ℕ) → i < 3 → get_or unmoved i 0 ≡ i
unmoved_at zero h = refl
unmoved_at (suc zero) h = refl
unmoved_at (suc (suc zero)) h = refl
unmoved_at (suc (suc (suc i))) h = let z : ⊥ = omega arith in absurd z

-- a byte is the category, the daughter count, a daughter, of the word and the lengths, or a variable
by_kind : (P : ℕ → Type 0) → P 0 → P 1 → ((i : ℕ) → i < 3 → P (2 + i)) → ((i : ℕ) → i < 6 → P (5 + i)) → ((k : ℕ) → k < 12 → P (11 + k)) → (p : ℕ) → p < 23 → P p
by_kind P c₀ c₁ c₂ c₅ c₁₁ zero h = c₀
by_kind P c₀ c₁ c₂ c₅ c₁₁ (suc zero) h = c₁
by_kind P c₀ c₁ c₂ c₅ c₁₁ (suc (suc q)) h = go (suc (suc q)) refl (dec_lt q 3) (dec_lt q 9)
  where
    go : (p : ℕ) → p ≡ suc (suc q) → Dec (q < 3) → Dec (q < 9) → P p
    go p e (yes l) m = let f : 2 + q ≡ p = omega arith in subst P f (c₂ q l)
    go p e (no l) (yes m) = let f : 5 + (p - 5) ≡ p = omega arith in subst P f (c₅ (p - 5) (omega arith))
    go p e (no l) (no m) = let f : 11 + (p - 11) ≡ p = omega arith in subst P f (c₁₁ (p - 11) (omega arith))

module _ (d e : List ℕ) (s : Shape d e) where
  counted_is : total (fields e 7 (parts d e)) ≡ counted e
  counted_is = total_front (drop 7 e) (parts d e) 4 s.parts_few (λ i lo hi. get_or-drop 7 e i 0 ∙ s.no_part i lo hi)

  pub daughters_many : length (daughters_of e) ≡ field e 1
  daughters_many = fields_length e 2 (field e 1) (omega (arith, s.long, s.few))

  variables_many : length (fields e 11 12) ≡ 12
  variables_many = fields_length e 11 12 (omega (arith, s.long))

  pub unmoved_variable : (k : ℕ) → k < counted e → renumbered unmoved (field e (11 + k)) ≡ field e (11 + k)
  unmoved_variable k h =
      let at = unmoved_at (field e (11 + k) / 4) (omega (arith, s.in_range k h, s.few)) in
      ap (λ (x : ℕ). 4 * x + field e (11 + k) % 4) at ∙ omega arith

module _ (d earlier e : List ℕ) (sx : Shape d earlier) (se : Shape d e) where
  abbrev n : ℕ
  n = field earlier 1

  -- equal records agree under the order that the daughters have
  pub same_agrees : T (same_record earlier e) → Agrees earlier e unmoved
  same_agrees t =
      record {
        category = at 0 (omega arith);
        many = at 1 (omega arith);
        part = λ i h. at (5 + i) (omega arith);
        daughter = λ j h. sym (at (2 + j) (omega arith)) ∙ ap (λ (k : ℕ). field earlier (2 + k)) (sym (unmoved_at j h));
        variable = λ k h. unmoved_variable d e se k h ∙ sym (at (11 + k) (omega (arith, se.variables_few)));
      }
    where
      at : (p : ℕ) → p < 23 → field earlier p ≡ field e p
      at p h = let q : 0 + p ≡ p = omega arith in subst (λ (k : ℕ). field earlier k ≡ field e k) q (same_fields earlier e 0 23 t p h)

  -- what agrees in bytes agrees in rules
  module _ (order : List ℕ) (perm : Perm order (numbers_from 0 n)) (h : Agrees earlier e (extended n order)) where
    same_parts : parts d e ≡ parts d earlier
    same_parts = ap₂ (λ (x y : ℕ). if ltb 0 x then get_or d y 0 else 0) (sym h.many) (sym h.category)

    same_lengths : fields e 7 (parts d e) ≡ fields earlier 7 (parts d earlier)
    same_lengths =
        ap (fields e 7) same_parts
        ∙ fields_same e earlier 7 7 (parts d earlier) (omega (arith, se.long, sx.parts_few)) (omega (arith, sx.long, sx.parts_few))
        (λ k l. let q : 5 + (2 + k) ≡ 7 + k = omega arith in
        subst (λ (p : ℕ). field e p ≡ field earlier p) q (sym (h.part (2 + k) (omega (arith, sx.parts_few)))))

    daughter_at : (i : ℕ) → i < n → field e (2 + i) ≡ get_or (daughters_of earlier) (get_or order i 0) 0
    daughter_at i l =
        h.daughter i (omega (arith, sx.few)) ∙ ap (λ (k : ℕ). field earlier (2 + k)) (extended_at n order perm i l)
        ∙ sym (fields_at earlier 2 n (get_or order i 0) (order_low n order perm i l))

    variable_at : (k : ℕ) → k < counted e → field earlier (11 + k) ≡ renumbered order (field e (11 + k))
    variable_at k l =
        sym (h.variable k l)
        ∙ ap (λ (x : ℕ). 4 * x + field e (11 + k) % 4) (extended_at n order perm (field e (11 + k) / 4) (omega (arith, se.in_range k l, h.many)))

    pub reordered : Reordered (rule_of d earlier) (rule_of d e)
    reordered =
        record {
          order = order;
          is_order = subst (λ (k : ℕ). Perm order (numbers_from 0 k)) (sym (daughters_many d earlier sx)) perm;
          category_is = sym h.category;
          word_is = ap₂ (λ (x y : ℕ). x + 256 * y) (sym (h.part 0 (omega arith))) (sym (h.part 1 (omega arith)));
          daughters_are =
              ext_get_or 0 (daughters_of e) (map (λ p. get_or (daughters_of earlier) p 0) order)
              (daughters_many d e se ∙ sym h.many ∙ sym (order_length n order perm) ∙ sym (length-map order (λ p. get_or (daughters_of earlier) p 0)))
              (λ i l.
              let l' : i < n = omega (arith, daughters_many d e se, h.many) in
              fields_at e 2 (field e 1) i (omega (arith, h.many)) ∙ daughter_at i l'
              ∙ sym (map_at (λ p. get_or (daughters_of earlier) p 0) order i (omega (arith, order_length n order perm))));
          components_are =
              sym (sx.components_are ∙ ap (λ (ls : List ℕ). sequences ls (fields earlier 11 12)) (sym same_lengths)
              ∙ sequences_renumbered order (fields e 7 (parts d e)) (fields earlier 11 12) (fields e 11 12)
              (omega (arith, counted_is d e se, se.variables_few, variables_many d earlier sx)) (omega (arith, counted_is d e se, se.variables_few, variables_many d e se))
              (λ k l.
              let l' : k < counted e = omega (arith, counted_is d e se) in
              fields_at earlier 11 12 k (omega (arith, se.variables_few)) ∙ variable_at k l' ∙ ap (renumbered order) (sym (fields_at e 11 12 k (omega (arith, se.variables_few)))))
              ∙ ap (map (map (renumber order))) (sym se.components_are));
        }

  -- what agrees in rules agrees in bytes
  module _ (bytes-x : (k : ℕ) → field earlier k < 256) (bytes-e : (k : ℕ) → field e k < 256) (r : Reordered (rule_of d earlier) (rule_of d e)) where
    pub is_order : Perm r.order (numbers_from 0 n)
    is_order = subst (λ (k : ℕ). Perm r.order (numbers_from 0 k)) (daughters_many d earlier sx) r.is_order

    abbrev o : List ℕ
    o = extended n r.order

    pub as_many : n ≡ field e 1
    as_many =
        sym (sym (daughters_many d e se) ∙ ap length r.daughters_are ∙ length-map r.order (λ p. get_or (daughters_of earlier) p 0) ∙ order_length n r.order is_order)

    many_parts : parts d earlier ≡ parts d e
    many_parts = ap₂ (λ (x y : ℕ). if ltb 0 x then get_or d y 0 else 0) as_many (sym r.category_is)

    back : Renumbered r.order (fields earlier 7 (parts d earlier)) (fields e 7 (parts d e)) (fields earlier 11 12) (fields e 11 12)
    back =
        sequences_back r.order (fields earlier 7 (parts d earlier)) (fields e 7 (parts d e)) (fields earlier 11 12) (fields e 11 12)
        (fields_length earlier 7 (parts d earlier) (omega (arith, sx.long, sx.parts_few)) ∙ many_parts ∙ sym (fields_length e 7 (parts d e) (omega (arith, se.long, se.parts_few))))
        (omega (arith, counted_is d earlier sx, sx.variables_few, variables_many d earlier sx)) (omega (arith, counted_is d e se, se.variables_few, variables_many d e se))
        (sym sx.components_are ∙ sym r.components_are ∙ ap (map (map (renumber r.order))) se.components_are)

    daughter_same : (j : ℕ) → j < 3 → field e (2 + j) ≡ field earlier (2 + get_or o j 0)
    daughter_same j h = go (dec_lt j n)
      where
        go : Dec (j < n) → field e (2 + j) ≡ field earlier (2 + get_or o j 0)
        go (yes l) =
            sym (fields_at e 2 (field e 1) j (omega (arith, as_many))) ∙ ap (λ (x : List ℕ). get_or x j 0) r.daughters_are
            ∙ map_at (λ p. get_or (daughters_of earlier) p 0) r.order j (omega (arith, order_length n r.order is_order))
            ∙ fields_at earlier 2 n (get_or r.order j 0) (order_low n r.order is_order j l)
            ∙ ap (λ (k : ℕ). field earlier (2 + k)) (sym (extended_at n r.order is_order j l))
        go (no l) =
            se.no_daughter j (omega (arith, as_many)) h ∙ sym (sx.no_daughter j (omega arith) h)
            ∙ ap (λ (k : ℕ). field earlier (2 + k)) (sym (extended_stays n r.order is_order j (omega arith) h))

    length_same : (i : ℕ) → i < 4 → field earlier (7 + i) ≡ field e (7 + i)
    length_same i h = go (dec_lt i (parts d e))
      where
        go : Dec (i < parts d e) → field earlier (7 + i) ≡ field e (7 + i)
        go (yes l) =
            sym (fields_at earlier 7 (parts d earlier) i (omega (arith, many_parts))) ∙ ap (λ (x : List ℕ). get_or x i 0) back.lengths ∙ fields_at e 7 (parts d e) i l
        go (no l) = sx.no_part i (omega (arith, many_parts)) h ∙ sym (se.no_part i (omega arith) h)

    word_same : (field earlier 5 ≡ field e 5) × (field earlier 6 ≡ field e 6)
    word_same = word_by (field earlier 5) (field earlier 6) (field e 5) (field e 6) (bytes-x 5) (bytes-e 5) (sym r.word_is)
      where
        word_by : (x y u v : ℕ) → x < 256 → u < 256 → x + 256 * y ≡ u + 256 * v → (x ≡ u) × (y ≡ v)
        word_by x y u v hx hu q = omega arith

    part_same : (i : ℕ) → i < 6 → field earlier (5 + i) ≡ field e (5 + i)
    part_same zero h = word_same.0
    part_same (suc zero) h = word_same.1
    part_same (suc (suc i)) h = let q : 7 + i ≡ 5 + suc (suc i) = omega arith in subst (λ (p : ℕ). field earlier p ≡ field e p) q (length_same i (omega arith))

    variable_same : (k : ℕ) → k < counted e → renumbered o (field e (11 + k)) ≡ field earlier (11 + k)
    variable_same k l =
        ap (λ (x : ℕ). 4 * x + field e (11 + k) % 4) (extended_at n r.order is_order (field e (11 + k) / 4) (omega (arith, se.in_range k l, as_many)))
        ∙ ap (renumbered r.order) (sym (fields_at e 11 12 k (omega (arith, se.variables_few))))
        ∙ sym (back.variables k (omega (arith, counted_is d e se))) ∙ fields_at earlier 11 12 k (omega (arith, se.variables_few))

    pub rules_agree : Agrees earlier e o
    rules_agree = record { category = sym r.category_is; many = as_many; part = part_same; daughter = daughter_same; variable = variable_same }

  -- what agrees passes the tests
  module _ (o : List ℕ) (h : Agrees earlier e o) where
    pub frame : T (same_frame earlier e)
    frame =
        and_both (same_list (fields earlier 0 2) (fields e 0 2)) (same_list (fields earlier 5 6) (fields e 5 6))
        (fields_agree earlier e 0 2 (omega (arith, sx.long)) (omega (arith, se.long)) two)
        (fields_agree earlier e 5 6 (omega (arith, sx.long)) (omega (arith, se.long)) h.part)
      where
        two : (k : ℕ) → k < 2 → field earlier (0 + k) ≡ field e (0 + k)
        two zero l = h.category
        two (suc zero) l = h.many
        two (suc (suc k)) l = let z : ⊥ = omega arith in absurd z

    -- in the order that the daughters have, all bytes but the weight are the same
    pub whole : o ≡ unmoved → T (same_record earlier e)
    whole u =
        fields_agree earlier e 0 23 (omega (arith, sx.long)) (omega (arith, se.long))
        (λ p l. let q : p ≡ 0 + p = omega arith in subst (λ (k : ℕ). field earlier k ≡ field e k) q (all p l))
      where
        same_count : counted earlier ≡ counted e
        same_count =
            ap total (fields_same earlier e 7 7 4 (omega (arith, sx.long)) (omega (arith, se.long))
            (λ k l. let q : 5 + (2 + k) ≡ 7 + k = omega arith in subst (λ (p : ℕ). field earlier p ≡ field e p) q (h.part (2 + k) (omega arith))))

        variable_whole : (k : ℕ) → k < 12 → field earlier (11 + k) ≡ field e (11 + k)
        variable_whole k l = go (dec_lt k (counted e))
          where
            go : Dec (k < counted e) → field earlier (11 + k) ≡ field e (11 + k)
            go (yes m) = sym (h.variable k m) ∙ ap (λ (x : List ℕ). renumbered x (field e (11 + k))) u ∙ unmoved_variable d e se k m
            go (no m) = sx.no_variable k (omega (arith, same_count)) l ∙ sym (se.no_variable k (omega arith) l)

        all : (p : ℕ) → p < 23 → field earlier p ≡ field e p
        all =
            by_kind (λ p. field earlier p ≡ field e p) h.category h.many
            (λ j l. sym (h.daughter j l ∙ ap (λ (x : List ℕ). field earlier (2 + get_or x j 0)) u ∙ ap (λ (k : ℕ). field earlier (2 + k)) (unmoved_at j l)))
            h.part variable_whole
