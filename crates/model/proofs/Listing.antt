-- `listing` lists just the live prefixes that lead to the end, each once, in dictionary order.
-- Assumes nothing.
use Rattle.std.specs.Prelude.{if◌then◌else◌}
use mathlib.Core.Path.{◌≡◌, refl}
use mathlib.Core.Logic.{◌⊎◌, inl, inr}
use mathlib.Core.Bool.{Bool, true, false}
use mathlib.Core.List.Memᴰ
use mathlib.Core.List.{List, [], ◌∷◌, Memᴰ}
use Prim.Native.Nat.{ℕ}
use lib.Dec.{T}
use Rattle.model.specs.Base.{keep}
use Rattle.model.specs.Grammar.{Grammar}
use Rattle.model.specs.Counting.{live, listing, complete}
use Rattle.model.specs.LivePrefixes.{Live, InOrder, Lists, Different}
use Rattle.model.proofs.Order.{before_irrefl}
use Rattle.model.proofs.Live.{live_lists}

-- lists in order are different
pub order_different : (l : List (List ℕ)) → InOrder l → Different l
order_different [] o = tt
order_different (p ∷ ps) o = (λ m. before_irrefl p (o.0 p m), order_different ps o.1)

module _ (test : List ℕ → Bool) where
  keep_out : (l : List (List ℕ)) (p : List ℕ) → Memᴰ p (keep test l) → Memᴰ p l × T (test p)
  keep_out [] p m = elim m [ ]
  keep_out (x ∷ l) p m = go (test x) refl m (λ m'. keep_out l p m')
    where
      go : (b : Bool) → test x ≡ b → Memᴰ p (if b then x ∷ keep test l else keep test l)
          → (Memᴰ p (keep test l) → Memᴰ p l × T (test p)) → Memᴰ p (x ∷ l) × T (test p)
      go false e i ih = (Memᴰ.tail (ih i).0, (ih i).1)
      go true e i ih = cases (Memᴰ.cases_cons i)
        where
          cases : (p ≡ x) ⊎ Memᴰ p (keep test l) → Memᴰ p (x ∷ l) × T (test p)
          cases (inl f) = (Memᴰ.head f, rw (f, e) tt)
          cases (inr j) = (Memᴰ.tail (ih j).0, (ih j).1)

  keep_in : {p : List ℕ} {l : List (List ℕ)} → Memᴰ p l → T (test p) → Memᴰ p (keep test l)
  keep_in {p = p} (Memᴰ.head {x = x} {xs = l} e) t = go (test x) refl
    where
      go : (b : Bool) → test x ≡ b → Memᴰ p (if b then x ∷ keep test l else keep test l)
      go true f = Memᴰ.head e
      go false f = let z : T false = rw (e, f) at t in absurd z
  keep_in {p = p} (Memᴰ.tail {x = x} {xs = l} m) t = go (test x) (keep_in m t)
    where
      go : (b : Bool) → Memᴰ p (keep test l) → Memᴰ p (if b then x ∷ keep test l else keep test l)
      go true m' = Memᴰ.tail m'
      go false m' = m'

  keep_order : (l : List (List ℕ)) → InOrder l → InOrder (keep test l)
  keep_order [] o = tt
  keep_order (x ∷ l) o = go (test x) (keep_order l o.1)
    where
      go : (b : Bool) → InOrder (keep test l) → InOrder (if b then x ∷ keep test l else keep test l)
      go true u = (λ q m. o.0 q (keep_out l q m).0, u)
      go false u = u

pub listing_lists : (g : Grammar) (sentence : List ℕ) (n : ℕ)
    → Lists (λ p. Live g sentence n p × T (complete g sentence p)) (listing g sentence n)
listing_lists g sentence n =
    let l = live_lists g sentence n in
    record {
      sound = λ p m. let (i, t) = keep_out (complete g sentence) (live g sentence n) p m in (l.sound p i, t);
      whole = λ p h. keep_in (complete g sentence) (l.whole p h.0) h.1;
      ordered = keep_order (complete g sentence) (live g sentence n) l.ordered;
    }
