-- What is left out cannot end in a sentence: what merge or move makes of a category that is left out would be left out too.
-- Assumes nothing.
use Rattle.std.specs.Prelude.{if◌then◌else◌}
use mathlib.Core.Path.{◌≡◌, refl, ap, sym, subst, ◌∙◌}
use mathlib.Core.Bool.{Bool, true, false, ◌&&◌, ◌||◌, not}
use mathlib.Core.Option.{none, some}
use mathlib.Core.List.{List, [], ◌∷◌, ◌++◌}
use Prim.Native.Nat.{ℕ, ◌+◌}
use native.Mathlib.Omega.{arith}
use lib.Dec.{T, eqb, eqb→eq}
use borrow.Author.Tests.{eq-eqb, ne_eqb}
use Rattle.model.proofs.Tests.{or_l, or_r, not_both, none_some, and_l, and_r, passes, within_low, or_off, some_one, within_bounds}
use Rattle.minimalist.specs.Lexicon.{selects, is_licensor, is_licensee}
use Rattle.minimalist.specs.Derivations.{begins}
use Rattle.minimalist.specs.Schemes.{Form, Instance, merge_by, merge_if, merge_scheme, how_many_begin, left_over, moving_after, move_by, move_if, move_scheme, no_features, begins_licensee, same_first, any_same_first, wrong_moving, left_out}

-- parts of a list of moving chains
any_left : (c : List ℕ) (xs ys : List (List ℕ)) → any_same_first c (xs ++ ys) ≡ false → any_same_first c xs ≡ false
any_left c [] ys e = refl
any_left c (x ∷ xs) ys e = or_off (same_first c x) (any_same_first c xs) (or_l (same_first c x) (any_same_first c (xs ++ ys)) e) (any_left c xs ys (or_r (same_first c x) (any_same_first c (xs ++ ys)) e))

any_right : (c : List ℕ) (xs ys : List (List ℕ)) → any_same_first c (xs ++ ys) ≡ false → any_same_first c ys ≡ false
any_right c [] ys e = e
any_right c (x ∷ xs) ys e = any_right c xs ys (or_r (same_first c x) (any_same_first c (xs ++ ys)) e)

wrong_left : (xs ys : List (List ℕ)) → wrong_moving (xs ++ ys) ≡ false → wrong_moving xs ≡ false
wrong_left [] ys e = refl
wrong_left (x ∷ xs) ys e =
    let f = or_r (not (begins_licensee x)) (any_same_first x (xs ++ ys) || wrong_moving (xs ++ ys)) e in
    or_off (not (begins_licensee x)) (any_same_first x xs || wrong_moving xs) (or_l (not (begins_licensee x)) (any_same_first x (xs ++ ys) || wrong_moving (xs ++ ys)) e)
    (or_off (any_same_first x xs) (wrong_moving xs) (any_left x xs ys (or_l (any_same_first x (xs ++ ys)) (wrong_moving (xs ++ ys)) f)) (wrong_left xs ys (or_r (any_same_first x (xs ++ ys)) (wrong_moving (xs ++ ys)) f)))

wrong_right : (xs ys : List (List ℕ)) → wrong_moving (xs ++ ys) ≡ false → wrong_moving ys ≡ false
wrong_right [] ys e = e
wrong_right (x ∷ xs) ys e = wrong_right xs ys (or_r (any_same_first x (xs ++ ys)) (wrong_moving (xs ++ ys)) (or_r (not (begins_licensee x)) (any_same_first x (xs ++ ys) || wrong_moving (xs ++ ys)) e))

-- merge
pub merge_harmless : (a b : Form) (s : Instance) → merge_scheme a b ≡ some s → left_out s.result ≡ false → (left_out a ≡ false) × (left_out b ≡ false)
merge_harmless a b s e f = heads a.head b.head refl refl e
  where
    parts : (α β : List ℕ) → merge_by a b α β ≡ s → (wrong_moving a.moving ≡ false) × (wrong_moving b.moving ≡ false)
    parts α [] i =
        let w : wrong_moving (a.moving ++ b.moving) ≡ false = or_r (no_features α) (wrong_moving (a.moving ++ b.moving)) (subst (λ (z : Instance). left_out z.result ≡ false) (sym i) f) in
        (wrong_left a.moving b.moving w, wrong_right a.moving b.moving w)
    parts α (x ∷ β) i =
        let w : wrong_moving (a.moving ++ ((x ∷ β) ∷ b.moving)) ≡ false = or_r (no_features α) (wrong_moving (a.moving ++ ((x ∷ β) ∷ b.moving))) (subst (λ (z : Instance). left_out z.result ≡ false) (sym i) f) in
        (wrong_left a.moving ((x ∷ β) ∷ b.moving) w, wrong_right ((x ∷ β) ∷ []) b.moving (wrong_right a.moving ((x ∷ β) ∷ b.moving) w))

    tested : (t : Bool) (α β : List ℕ) → (if t then some (merge_by a b α β) else none) ≡ some s → merge_by a b α β ≡ s
    tested true α β i = some_one i
    tested false α β i = none_some (sym i)

    heads : (fs gs : List ℕ) → a.head ≡ fs → b.head ≡ gs → merge_if a b fs gs ≡ some s → (left_out a ≡ false) × (left_out b ≡ false)
    heads [] gs p q i = none_some (sym i)
    heads (x ∷ α) [] p q i = none_some (sym i)
    heads (x ∷ α) (y ∷ β) p q i =
        let w = parts α β (tested (selects x y) α β i) in (
          ap (λ (h : List ℕ). no_features h || wrong_moving a.moving) p ∙ w.0,
          ap (λ (h : List ℕ). no_features h || wrong_moving b.moving) q ∙ w.1,
        )

-- move
module _ (m : ℕ) where
  -- no chain begins with m
  none_begin : (x : ℕ) (xs : List ℕ) → x ≡ m → (cs : List (List ℕ)) → how_many_begin m cs ≡ 0 → any_same_first (x ∷ xs) cs ≡ false
  none_begin x xs e [] h = refl
  none_begin x xs e (c ∷ cs) h = go (begins m c) refl (none_begin x xs e cs)
    where
      go : (b : Bool) → begins m c ≡ b → (how_many_begin m cs ≡ 0 → any_same_first (x ∷ xs) cs ≡ false) → begins x c || any_same_first (x ∷ xs) cs ≡ false
      go true f ih = let z : ⊥ = omega (arith, subst (λ (b : Bool). (if b then 1 else 0) + how_many_begin m cs ≡ 0) f h) in absurd z
      go false f ih = or_off (begins x c) (any_same_first (x ∷ xs) cs) (ap (λ (k : ℕ). begins k c) e ∙ f) (ih (omega (arith, subst (λ (b : Bool). (if b then 1 else 0) + how_many_begin m cs ≡ 0) f h)))

  -- a chain that begins with another feature
  others_begin : (x : ℕ) (xs : List ℕ) → (x ≡ m → ⊥) → (cs : List (List ℕ)) → any_same_first (x ∷ xs) (moving_after m cs) ≡ false → any_same_first (x ∷ xs) cs ≡ false
  others_begin x xs n [] h = refl
  others_begin x xs n (c ∷ cs) h = go (begins m c) refl h (others_begin x xs n cs)
    where
      other : (d : List ℕ) → begins m d ≡ true → begins x d ≡ false
      other [] f = not_both (sym f)
      other (y ∷ d) f = ne_eqb x y (λ e. n (e ∙ sym (eqb→eq m y (rw f tt))))

      go : (b : Bool) → begins m c ≡ b → any_same_first (x ∷ xs) (if b then left_over c ++ cs else c ∷ moving_after m cs) ≡ false
          → (any_same_first (x ∷ xs) (moving_after m cs) ≡ false → any_same_first (x ∷ xs) cs ≡ false) → begins x c || any_same_first (x ∷ xs) cs ≡ false
      go true f i ih = or_off (begins x c) (any_same_first (x ∷ xs) cs) (other c f) (any_right (x ∷ xs) (left_over c) cs i)
      go false f i ih = or_off (begins x c) (any_same_first (x ∷ xs) cs) (or_l (begins x c) (any_same_first (x ∷ xs) (moving_after m cs)) i) (ih (or_r (begins x c) (any_same_first (x ∷ xs) (moving_after m cs)) i))

  moving_harmless : T (is_licensee m) → (cs : List (List ℕ)) → how_many_begin m cs ≡ 1 → wrong_moving (moving_after m cs) ≡ false → wrong_moving cs ≡ false
  moving_harmless l [] h w = refl
  moving_harmless l (c ∷ cs) h w = go (begins m c) refl h w (moving_harmless l cs)
    where
      landing : (c : List ℕ) → begins m c ≡ true → how_many_begin m cs ≡ 0 → (not (begins_licensee c) ≡ false) × (any_same_first c cs ≡ false)
      landing [] f k = not_both (sym f)
      landing (y ∷ d) f k =
          let e : m ≡ y = eqb→eq m y (rw f tt) in
          (ap not (passes (is_licensee y) (subst (λ (z : ℕ). T (is_licensee z)) e l)), none_begin y d (sym e) cs k)

      passing : (c : List ℕ) → begins m c ≡ false → not (begins_licensee c) ≡ false → any_same_first c (moving_after m cs) ≡ false → any_same_first c cs ≡ false
      passing [] f k i = not_both k
      passing (y ∷ d) f k i = others_begin y d (λ e. not_both (sym (eq-eqb m y (sym e)) ∙ f)) cs i

      go : (b : Bool) → begins m c ≡ b → (if b then 1 else 0) + how_many_begin m cs ≡ 1 → wrong_moving (if b then left_over c ++ cs else c ∷ moving_after m cs) ≡ false
          → (how_many_begin m cs ≡ 1 → wrong_moving (moving_after m cs) ≡ false → wrong_moving cs ≡ false) → wrong_moving (c ∷ cs) ≡ false
      go true f k i ih =
          let x = landing c f (omega arith) in
          or_off (not (begins_licensee c)) (any_same_first c cs || wrong_moving cs) x.0 (or_off (any_same_first c cs) (wrong_moving cs) x.1 (wrong_right (left_over c) cs i))
      go false f k i ih =
          let j = or_r (not (begins_licensee c)) (any_same_first c (moving_after m cs) || wrong_moving (moving_after m cs)) i in
          let u = or_l (not (begins_licensee c)) (any_same_first c (moving_after m cs) || wrong_moving (moving_after m cs)) i in
          or_off (not (begins_licensee c)) (any_same_first c cs || wrong_moving cs) u
          (or_off (any_same_first c cs) (wrong_moving cs) (passing c f u (or_l (any_same_first c (moving_after m cs)) (wrong_moving (moving_after m cs)) j))
          (ih (omega arith) (or_r (any_same_first c (moving_after m cs)) (wrong_moving (moving_after m cs)) j)))

licensee_of : (p : ℕ) → T (is_licensor p) → T (is_licensee (p + 16))
licensee_of p t =
    let (lo, hi) = within_low 33 35 p t in
    within_bounds _ _ (p + 16) (omega arith) (omega arith)

pub move_harmless : (a : Form) (s : Instance) → move_scheme a ≡ some s → left_out s.result ≡ false → left_out a ≡ false
move_harmless a s e f = heads a.head refl e
  where
    tested : (t : Bool) (p : ℕ) (α : List ℕ) → (is_licensor p && eqb (how_many_begin (p + 16) a.moving) 1) ≡ t → (if t then some (move_by a (p + 16) α) else none) ≡ some s
        → wrong_moving a.moving ≡ false
    tested false p α q i = none_some (sym i)
    tested true p α q i =
        let t : T (is_licensor p && eqb (how_many_begin (p + 16) a.moving) 1) = rw q tt in
        moving_harmless (p + 16) (licensee_of p (and_l (is_licensor p) (eqb (how_many_begin (p + 16) a.moving) 1) t)) a.moving
        (eqb→eq (how_many_begin (p + 16) a.moving) 1 (and_r (is_licensor p) (eqb (how_many_begin (p + 16) a.moving) 1) t))
        (or_r (no_features α) (wrong_moving (moving_after (p + 16) a.moving)) (subst (λ (z : Instance). left_out z.result ≡ false) (sym (some_one i)) f))

    heads : (fs : List ℕ) → a.head ≡ fs → move_if a fs ≡ some s → left_out a ≡ false
    heads [] p i = none_some (sym i)
    heads (x ∷ α) p i = ap (λ (h : List ℕ). no_features h || wrong_moving a.moving) p ∙ tested (is_licensor x && eqb (how_many_begin (x + 16) a.moving) 1) x α refl i
