-- Marks are carried back through trim, sort and ++, in one way only.
-- Assumes nothing.
use Rattle.std.specs.Prelude.{if◌then◌else◌}
use mathlib.Core.Path.{◌≡◌, refl, sym, ap, ◌∙◌}
use mathlib.Core.Bool.{Bool, true, false}
use mathlib.Core.List.{List, [], ◌∷◌, ◌++◌, map, head-eq_of_cons-eq, tail-eq_of_cons-eq, nil≢cons, cons≢nil}
use Prim.Native.Nat.{ℕ}
use native.Mathlib.Omega.{arith}
use Rattle.model.specs.Step.{before, Prediction, least_of, insert, sort, same_first, shorten, trim}
use Rattle.model.proofs.Marks.{Bare, bare, sort_bare, indices_of, indices_bare}

module _ {A : Type 0} where
  pub same_prediction : (p q : Prediction A) → bare p ≡ bare q → p.node ≡ q.node → p ≡ q
  same_prediction p q e f = λ i. record { category = (e i).category; indices = (e i).indices; node = f i }

  pub record Appended (a₀ b₀ : List Bare) (m : List (Prediction A)) : Type 0 where
    pub a : List (Prediction A)
    pub b : List (Prediction A)
    pub joined : m ≡ a ++ b
    pub bare_a : map bare a ≡ a₀
    pub bare_b : map bare b ≡ b₀

  pub append_back : (a₀ b₀ : List Bare) (m : List (Prediction A)) → map bare m ≡ a₀ ++ b₀ → Appended a₀ b₀ m
  append_back [] b₀ m e = record { a = []; b = m; joined = refl; bare_a = refl; bare_b = e }
  append_back (x₀ ∷ a₀) b₀ [] e = absurd (nil≢cons e)
  append_back (x₀ ∷ a₀) b₀ (x ∷ m) e =
      let r = append_back a₀ b₀ m (tail-eq_of_cons-eq e) in
      record {
        a = x ∷ r.a;
        b = r.b;
        joined = ap (λ (l : List (Prediction A)). x ∷ l) r.joined;
        bare_a = cc (head-eq_of_cons-eq e, r.bare_a);
        bare_b = r.bare_b;
      }

  pub record Shortened (q₀ : List Bare) (m : List (Prediction A)) : Type 0 where
    pub q : List (Prediction A)
    pub bare_q : map bare q ≡ q₀
    pub to : map shorten q ≡ m

  pub shorten_back : (q₀ : List Bare) (m : List (Prediction A)) → map bare m ≡ map shorten q₀ → Shortened q₀ m
  shorten_back [] [] e = record { q = []; bare_q = refl; to = refl }
  shorten_back [] (x ∷ m) e = absurd (cons≢nil e)
  shorten_back (x₀ ∷ q₀) [] e = absurd (nil≢cons e)
  shorten_back (x₀ ∷ q₀) (x ∷ m) e =
      let r = shorten_back q₀ m (tail-eq_of_cons-eq e) in
      let y : Prediction A = record { category = x₀.category; indices = x₀.indices; node = x.node } in
      let f : shorten y ≡ x = same_prediction (shorten y) x (sym (head-eq_of_cons-eq e)) refl in
      record { q = y ∷ r.q; bare_q = ap (λ (l : List Bare). x₀ ∷ l) r.bare_q; to = cc (f, r.to) }

  pub record Trimmed (q₀ : List Bare) (m : List (Prediction A)) : Type 0 where
    pub q : List (Prediction A)
    pub bare_q : map bare q ≡ q₀
    pub to : trim q ≡ m

  pub trim_back : (q₀ : List Bare) (m : List (Prediction A)) → map bare m ≡ trim q₀ → Trimmed q₀ m
  trim_back q₀ m e = go (same_first (indices_of q₀)) refl e
    where
      same_indices : (q : List (Prediction A)) → map bare q ≡ q₀ → indices_of q ≡ indices_of q₀
      same_indices q f = sym (indices_bare q) ∙ ap indices_of f

      go : (b : Bool) → same_first (indices_of q₀) ≡ b → map bare m ≡ (if b then map shorten q₀ else q₀) → Trimmed q₀ m
      go true t f =
          let r = shorten_back q₀ m f in
          let u : same_first (indices_of r.q) ≡ true = ap same_first (same_indices r.q r.bare_q) ∙ t in
          record { q = r.q; bare_q = r.bare_q; to = rw u r.to }
      go false t f =
          let u : same_first (indices_of m) ≡ false = ap same_first (same_indices m f) ∙ t in
          record { q = m; bare_q = f; to = rw u }

  pub record Inserted (p₀ : Bare) (q₀ : List Bare) (m : List (Prediction A)) : Type 0 where
    pub p : Prediction A
    pub q : List (Prediction A)
    pub bare_p : bare p ≡ p₀
    pub bare_q : map bare q ≡ q₀
    pub to : insert p q ≡ m

  pub insert_back : (p₀ : Bare) (q₀ : List Bare) (m : List (Prediction A)) → map bare m ≡ insert p₀ q₀ → Inserted p₀ q₀ m
  insert_back p₀ [] [] e = absurd (nil≢cons e)
  insert_back p₀ [] (x ∷ []) e = record { p = x; q = []; bare_p = head-eq_of_cons-eq e; bare_q = refl; to = refl }
  insert_back p₀ [] (x ∷ y ∷ m) e = absurd (cons≢nil (tail-eq_of_cons-eq e))
  insert_back p₀ (y₀ ∷ q₀) m e = go (before (least_of y₀) (least_of p₀)) refl m e (λ m' e'. insert_back p₀ q₀ m' e')
    where
      go : (b : Bool) → before (least_of y₀) (least_of p₀) ≡ b → (m : List (Prediction A)) → map bare m ≡ (if b then y₀ ∷ insert p₀ q₀ else p₀ ∷ y₀ ∷ q₀)
          → ((m' : List (Prediction A)) → map bare m' ≡ insert p₀ q₀ → Inserted p₀ q₀ m') → Inserted p₀ (y₀ ∷ q₀) m
      go true t [] f ih = absurd (nil≢cons f)
      go true t (y ∷ m') f ih =
          let r = ih m' (tail-eq_of_cons-eq f) in
          let u : before (least_of y) (least_of r.p) ≡ true = cc (ap least_of (head-eq_of_cons-eq f), ap least_of r.bare_p, t) in
          record { p = r.p; q = y ∷ r.q; bare_p = r.bare_p; bare_q = cc (head-eq_of_cons-eq f, r.bare_q); to = rw u (ap (λ (l : List (Prediction A)). y ∷ l) r.to) }
      go false t [] f ih = absurd (nil≢cons f)
      go false t (x ∷ []) f ih = absurd (nil≢cons (tail-eq_of_cons-eq f))
      go false t (x ∷ y ∷ m') f ih =
          let e₁ = head-eq_of_cons-eq f in
          let e₂ = head-eq_of_cons-eq (tail-eq_of_cons-eq f) in
          let u : before (least_of y) (least_of x) ≡ false = cc (ap least_of e₁, ap least_of e₂, t) in
          record { p = x; q = y ∷ m'; bare_p = e₁; bare_q = tail-eq_of_cons-eq f; to = rw u }

  pub record Unsorted (q₀ : List Bare) (m : List (Prediction A)) : Type 0 where
    pub q : List (Prediction A)
    pub bare_q : map bare q ≡ q₀
    pub to : sort q ≡ m

  pub sort_back : (q₀ : List Bare) (m : List (Prediction A)) → map bare m ≡ sort q₀ → Unsorted q₀ m
  sort_back [] [] e = record { q = []; bare_q = refl; to = refl }
  sort_back [] (x ∷ m) e = absurd (cons≢nil e)
  sort_back (p₀ ∷ q₀) m e =
      let i = insert_back p₀ (sort q₀) m e in
      let r = sort_back q₀ i.q i.bare_q in
      record { q = i.p ∷ r.q; bare_q = cc (i.bare_p, r.bare_q); to = rw r.to i.to }

  -- in one way only
  pub insert_one : (p p' : Prediction A) (q q' : List (Prediction A)) → bare p ≡ bare p' → map bare q ≡ map bare q' → insert p q ≡ insert p' q'
      → (p ≡ p') × (q ≡ q')
  insert_one p p' [] [] e f h = (head-eq_of_cons-eq h, refl)
  insert_one p p' [] (y' ∷ q') e f h = absurd (nil≢cons f)
  insert_one p p' (y ∷ q) [] e f h = absurd (cons≢nil f)
  insert_one p p' (y ∷ q) (y' ∷ q') e f h =
      go (before (least_of y) (least_of p)) (before (least_of y') (least_of p'))
      (cc (ap least_of e, ap least_of (head-eq_of_cons-eq f))) h (λ h'. insert_one p p' q q' e (tail-eq_of_cons-eq f) h')
    where
      go : (b b' : Bool) → b ≡ b' → (if b then y ∷ insert p q else p ∷ y ∷ q) ≡ (if b' then y' ∷ insert p' q' else p' ∷ y' ∷ q')
          → (insert p q ≡ insert p' q' → (p ≡ p') × (q ≡ q')) → (p ≡ p') × ((y ∷ q) ≡ (y' ∷ q'))
      go true true t k ih =
          let r = ih (tail-eq_of_cons-eq k) in
          (r.0, cc (head-eq_of_cons-eq k, r.1))
      go false false t k ih = (head-eq_of_cons-eq k, tail-eq_of_cons-eq k)
      go true false t k ih = let z : ◌≡◌ {A = ℕ} 0 1 = cc in absurd (omega arith)
      go false true t k ih = let z : ◌≡◌ {A = ℕ} 0 1 = cc in absurd (omega arith)

  pub sort_one : (q q' : List (Prediction A)) → map bare q ≡ map bare q' → sort q ≡ sort q' → q ≡ q'
  sort_one [] [] f h = refl
  sort_one [] (y' ∷ q') f h = absurd (nil≢cons f)
  sort_one (y ∷ q) [] f h = absurd (cons≢nil f)
  sort_one (y ∷ q) (y' ∷ q') f h =
      let i = insert_one y y' (sort q) (sort q') (head-eq_of_cons-eq f) (sort_bare q ∙ ap sort (tail-eq_of_cons-eq f) ∙ sym (sort_bare q')) h in
      let r = sort_one q q' (tail-eq_of_cons-eq f) i.1 in
      cc (i.0, r)

  pub shorten_one : (q q' : List (Prediction A)) → map bare q ≡ map bare q' → map shorten q ≡ map shorten q' → q ≡ q'
  shorten_one [] [] f h = refl
  shorten_one [] (y' ∷ q') f h = absurd (nil≢cons f)
  shorten_one (y ∷ q) [] f h = absurd (cons≢nil f)
  shorten_one (y ∷ q) (y' ∷ q') f h =
      let e = same_prediction y y' (head-eq_of_cons-eq f) (ap (λ (p : Prediction A). p.node) (head-eq_of_cons-eq h)) in
      let r = shorten_one q q' (tail-eq_of_cons-eq f) (tail-eq_of_cons-eq h) in
      cc (e, r)

  pub trim_one : (q q' : List (Prediction A)) → map bare q ≡ map bare q' → trim q ≡ trim q' → q ≡ q'
  trim_one q q' f h = go (same_first (indices_of q)) (same_first (indices_of q')) (ap same_first (sym (indices_bare q) ∙ ap indices_of f ∙ indices_bare q')) h
    where
      go : (b b' : Bool) → b ≡ b' → (if b then map shorten q else q) ≡ (if b' then map shorten q' else q') → q ≡ q'
      go true true t k = shorten_one q q' f k
      go false false t k = k
      go true false t k = let z : ◌≡◌ {A = ℕ} 0 1 = cc in absurd (omega arith)
      go false true t k = let z : ◌≡◌ {A = ℕ} 0 1 = cc in absurd (omega arith)
