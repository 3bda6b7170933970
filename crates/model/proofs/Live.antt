-- `live` lists just the live prefixes, each once, in dictionary order.
-- Assumes nothing.
use mathlib.Core.Path.{◌≡◌, refl}
use mathlib.Core.Logic.{◌⊎◌, inl, inr}
use mathlib.Core.Bool.{Bool, true, false}
use mathlib.Core.Option.{Option, none, some}
use mathlib.Core.List.Memᴰ
use mathlib.Core.List.{List, [], ◌∷◌, Memᴰ}
use Prim.Native.Nat.{ℕ, zero, suc, ◌<◌, ◌≤◌}
use native.Mathlib.Omega.{arith}
use lib.Dec.{T, leb, leb→le, le→leb}
use lib.ListN.{length, take, get_elem?}
use Rattle.model.specs.Base.{each, numbers_from}
use Rattle.model.specs.Grammar.{Grammar, Rule}
use Rattle.model.specs.Step.{State, Outcome, fails, leads, step}
use Rattle.model.specs.Trace.{no_node, run}
use Rattle.model.specs.Counting.{start, live, live_from, extend, extend_by, extend_if}
use Rattle.model.specs.LivePrefixes.{Fits, LiveFrom, Live, InOrder, Lists}
use Rattle.model.proofs.Lists.{each_in, each_out, map_in, map_out, numbers_in}
use Rattle.model.proofs.Order.{order_each, order_map, Heads}

abbrev St : Type 0
St = State (Unit {0})

fits_later : (n k : ℕ) (o : Option St) → Fits n k o → Fits (suc n) (suc k) o
fits_later n k none h = h
fits_later n k (some s) h = omega arith

fits_sooner : (n k : ℕ) (o : Option St) → Fits (suc n) (suc k) o → Fits n k o
fits_sooner n k none h = h
fits_sooner n k (some s) h = omega arith

module _ (g : Grammar) where
  pub nil_live : (n : ℕ) (s : St) → length s.queue ≤ n → LiveFrom g n s []
  nil_live n s h zero l = omega arith
  nil_live n s h (suc k) l = let z : ⊥ = omega arith in absurd z

  pub cons_live : (left r : ℕ) (s s' : St) (p : List ℕ) → step no_node g s r ≡ leads s' → length s.queue ≤ suc left
      → LiveFrom g left s' p → LiveFrom g (suc left) s (r ∷ p)
  cons_live left r s s' p e h f zero l = omega arith
  cons_live left r s s' p e h f (suc k) l = rw (e, run) (fits_later left k (run no_node g s' (take k p)) (f k (omega arith)))

  -- what follows from a live prefix that begins with r
  pub record Begun (left r : ℕ) (s : St) (p : List ℕ) : Type 0 where
    pub next : St
    pub leads_to : step no_node g s r ≡ leads next
    pub rest : LiveFrom g left next p

  pub cons_unlive : (left r : ℕ) (s : St) (p : List ℕ) → LiveFrom g (suc left) s (r ∷ p) → Begun left r s p
  cons_unlive left r s p f = go (step no_node g s r) refl
    where
      go : (o : Outcome (Unit {0})) → step no_node g s r ≡ o → Begun left r s p
      go (fails n) e = let z : ⊥ = rw (e, run) at (f 1 (omega arith)) in absurd z
      go (leads s') e =
          record {
            next = s';
            leads_to = e;
            rest = λ k l. fits_sooner left k (run no_node g s' (take k p)) (rw (e, run) at (f (suc k) (omega arith)));
          }

  no_step_left : (r : ℕ) (s : St) (p : List ℕ) → LiveFrom g 0 s (r ∷ p) → ⊥
  no_step_left r s p f = go (run no_node g s (r ∷ [])) (f 1 (omega arith))
    where
      go : (o : Option St) → Fits 0 1 o → ⊥
      go none h = h
      go (some s') h = omega arith

  pub queue_fits : (n : ℕ) (s : St) (p : List ℕ) → LiveFrom g n s p → length s.queue ≤ n
  queue_fits n s p f = omega (arith, f 0 (omega arith))

  -- a rule that applies is a rule of the grammar
  found : (l : List Rule) (r : ℕ) → (r < length l) ⊎ (get_elem? l r ≡ none)
  found [] r = inr refl
  found (x ∷ l) zero = inl (omega arith)
  found (x ∷ l) (suc r) = go (found l r)
    where
      go : (r < length l) ⊎ (get_elem? l r ≡ none) → (suc r < suc (length l)) ⊎ (get_elem? l r ≡ none)
      go (inl h) = inl (omega arith)
      go (inr e) = inr e

  rule_known : (r : ℕ) (s s' : St) → step no_node g s r ≡ leads s' → r < length g.rules
  rule_known r s s' e = go (found g.rules r)
    where
      go : (r < length g.rules) ⊎ (get_elem? g.rules r ≡ none) → r < length g.rules
      go (inl h) = h
      go (inr n) =
          let f : step no_node g s r ≡ fails 13 = rw n in
          let z : ◌≡◌ {A = ℕ} 0 1 = cc in
          omega arith

-- what is in `extend_by`
pub record Extended (next : St → List (List ℕ)) (left r : ℕ) (o : Outcome (Unit {0})) (q : List ℕ) : Type 0 where
  pub state : St
  pub tail : List ℕ
  pub to : o ≡ leads state
  pub fits : length state.queue ≤ left
  pub made : q ≡ r ∷ tail
  pub among : Memᴰ tail (next state)

extend_out : (next : St → List (List ℕ)) (left r : ℕ) (o : Outcome (Unit {0})) {q : List ℕ}
    → Memᴰ q (extend_by next left r o) → Extended next left r o q
extend_out next left r (fails n) m = elim m [ ]
extend_out next left r (leads s) {q} m = go (leb (length s.queue) left) refl m
  where
    go : (b : Bool) → leb (length s.queue) left ≡ b → Memᴰ q (extend_if b next r s) → Extended next left r (leads s) q
    go false e m' = elim m' [ ]
    go true e m' =
        let (p, i, f) = map_out (λ p. r ∷ p) (next s) m' in
        record { state = s; tail = p; to = refl; fits = leb→le (length s.queue) left (rw e tt); made = f; among = i }

if_true : (b : Bool) (next : St → List (List ℕ)) (r : ℕ) (s : St) {p : List ℕ} → T b → Memᴰ p (next s) → Memᴰ (r ∷ p) (extend_if b next r s)
if_true true next r s t m = map_in (λ p. r ∷ p) m
if_true false next r s t m = absurd t

if_order : (b : Bool) (next : St → List (List ℕ)) (r : ℕ) (s : St) → InOrder (next s) → InOrder (extend_if b next r s)
if_order true next r s o = order_map r (next s) o
if_order false next r s o = tt

by_order : (next : St → List (List ℕ)) (left r : ℕ) (o : Outcome (Unit {0})) → ((s : St) → InOrder (next s)) → InOrder (extend_by next left r o)
by_order next left r (fails n) h = tt
by_order next left r (leads s) h = if_order (leb (length s.queue) left) next r s (h s)

module _ (g : Grammar) where
  is_nil : {p : List ℕ} → Memᴰ p ([] ∷ []) → p ≡ []
  is_nil m = Memᴰ.eq_of_singleton m

  sound : (n : ℕ) (s : St) → length s.queue ≤ n → (p : List ℕ) → Memᴰ p (live_from g n s) → LiveFrom g n s p
  sound zero s h p m = rw (is_nil m) (nil_live g 0 s h)
  sound (suc n) s h p m = go (λ s' h' p' m'. sound n s' h' p' m') (Memᴰ.cases_cons m)
    where
      rules : List ℕ
      rules = numbers_from 0 (length g.rules)

      f : ℕ → List (List ℕ)
      f = extend g (λ s'. live_from g n s') n s

      go : ((s' : St) → length s'.queue ≤ n → (p' : List ℕ) → Memᴰ p' (live_from g n s') → LiveFrom g n s' p')
          → (p ≡ []) ⊎ Memᴰ p (each f rules) → LiveFrom g (suc n) s p
      go ih (inl e) = rw e (nil_live g (suc n) s h)
      go ih (inr m') =
          let (r, i, j) = each_out f rules m' in
          let x = extend_out (λ s'. live_from g n s') n r (step no_node g s r) j in
          rw x.made (cons_live g n r s x.state x.tail x.to h (ih x.state x.fits x.tail x.among))

  whole : (n : ℕ) (s : St) (p : List ℕ) → LiveFrom g n s p → Memᴰ p (live_from g n s)
  whole zero s [] f = Memᴰ.head refl
  whole zero s (r ∷ p) f = absurd (no_step_left g r s p f)
  whole (suc n) s [] f = Memᴰ.head refl
  whole (suc n) s (r ∷ p) f =
      let b = cons_unlive g n r s p f in
      let q = queue_fits g n b.next p b.rest in
      let m = if_true (leb (length b.next.queue) n) (λ s'. live_from g n s') r b.next (le→leb (length b.next.queue) n q) (whole n b.next p b.rest) in
      Memᴰ.tail
      (each_in (extend g (λ s'. live_from g n s') n s)
      (numbers_in r 0 (length g.rules) (omega arith) (omega (arith, rule_known g r s b.next b.leads_to)))
      (rw b.leads_to m))

  heads : (n : ℕ) (s : St) → Heads (extend g (λ s'. live_from g n s') n s)
  heads n s r q m = let x = extend_out (λ s'. live_from g n s') n r (step no_node g s r) m in (x.tail, x.made)

  ordered : (n : ℕ) (s : St) → InOrder (live_from g n s)
  ordered zero s = (λ q m. elim m [ ], tt)
  ordered (suc n) s = (
    λ q m.
        let (r, i, j) = each_out (extend g (λ s'. live_from g n s') n s) (numbers_from 0 (length g.rules)) m in
        let (p, e) = heads n s r q j in
        rw e tt,
    order_each (extend g (λ s'. live_from g n s') n s) (heads n s)
        (λ r. by_order (λ s'. live_from g n s') n r (step no_node g s r) (λ s'. ordered n s')) 0 (length g.rules),
  )

  -- `live` lists just the live prefixes, each once, in dictionary order
  pub live_lists : (sentence : List ℕ) (n : ℕ) → Lists (Live g sentence n) (live g sentence n)
  live_lists sentence zero =
      record {
        sound = λ p m. elim m [ ];
        whole = λ p f. let z : ⊥ = omega (arith, queue_fits g 0 (start g sentence) p f) in absurd z;
        ordered = tt;
      }
  live_lists sentence (suc n) =
      record {
        sound = λ p m. sound (suc n) (start g sentence) (omega arith) p m;
        whole = λ p f. whole (suc n) (start g sentence) p f;
        ordered = ordered (suc n) (start g sentence);
      }
