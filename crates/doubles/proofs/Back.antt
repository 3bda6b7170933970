-- If a rule equals another once its daughters are reordered, the other equals it too, in the inverse order.
-- Assumes nothing.
use mathlib.Core.Path.{◌≡◌, refl, sym, ap, ap₂, subst, ◌∙◌}
use mathlib.Core.List.{List, [], ◌∷◌, map, Memᴰ}
use Prim.Native.Nat.{ℕ, ◌<◌, ◌≤◌}
use native.Mathlib.Omega.{arith}
use lib.ListN.{length, get_or, length-map}
use lib.Seq.{ext_get_or}
use Rattle.model.specs.Base.{numbers_from}
use Rattle.model.specs.Grammar.{Variable, Rule}
use Rattle.model.specs.WellFormed.{Perm, named}
use Rattle.model.proofs.Lists.{mem_left, mem_right}
use Rattle.doubles.specs.Doubles.{renumber, Reordered}
use Rattle.doubles.proofs.Orders.{inverse, order_length, order_low}
use Rattle.doubles.proofs.Sequences.{map_at}

module _ (f h : Variable → Variable) where
  undo : (vs : List Variable) → ((v : Variable) → Memᴰ v vs → f (h v) ≡ v) → map f (map h vs) ≡ vs
  undo [] e = refl
  undo (v ∷ vs) e = ap₂ (λ (x : Variable) (xs : List Variable). x ∷ xs) (e v (Memᴰ.head refl)) (undo vs (λ w m. e w (Memᴰ.tail m)))

  undo_all : (cs : List (List Variable)) → ((v : Variable) → Memᴰ v (named cs) → f (h v) ≡ v) → map (map f) (map (map h) cs) ≡ cs
  undo_all [] e = refl
  undo_all (c ∷ cs) e =
      ap₂ (λ (x : List Variable) (xs : List (List Variable)). x ∷ xs) (undo c (λ v m. e v (mem_left (named cs) m))) (undo_all cs (λ v m. e v (mem_right c m)))

module _ (earlier rule : Rule) (few : length earlier.daughters ≤ 3)
    (in_range : (v : Variable) → Memᴰ v (named rule.components) → v.daughter < length rule.daughters) (r : Reordered earlier rule) where
  abbrev n : ℕ
  n = length earlier.daughters

  as_many : length rule.daughters ≡ n
  as_many = ap length r.daughters_are ∙ length-map r.order (λ p. get_or earlier.daughters p 0) ∙ order_length n r.order r.is_order

  pub reordered_back : Reordered rule earlier
  reordered_back =
      let i = inverse n r.order few r.is_order in
      let many = order_length n i.back i.is_order in
      record {
        order = i.back;
        is_order = subst (λ (k : ℕ). Perm i.back (numbers_from 0 k)) (sym as_many) i.is_order;
        category_is = sym r.category_is;
        word_is = sym r.word_is;
        daughters_are =
            ext_get_or 0 earlier.daughters (map (λ p. get_or rule.daughters p 0) i.back) (sym many ∙ sym (length-map i.back (λ p. get_or rule.daughters p 0)))
            (λ j h.
            sym (map_at (λ p. get_or rule.daughters p 0) i.back j (omega (arith, many))
            ∙ ap (λ (l : List ℕ). get_or l (get_or i.back j 0) 0) r.daughters_are
            ∙ map_at (λ p. get_or earlier.daughters p 0) r.order (get_or i.back j 0)
            (omega (arith, order_low n i.back i.is_order j h, order_length n r.order r.is_order))
            ∙ ap (λ (p : ℕ). get_or earlier.daughters p 0) (i.there_again j h)));
        components_are =
            ap (map (map (renumber i.back))) (sym r.components_are)
            ∙ undo_all (renumber i.back) (renumber r.order) rule.components
            (λ v m. let q = i.back_again v.daughter (omega (arith, in_range v m, as_many)) in λ t. record { daughter = q t; component = v.component });
      }
