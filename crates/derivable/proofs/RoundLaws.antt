-- For the rounds: forms made from forms that a row can hold are such forms, and a round that adds nothing is the last.
-- Assumes nothing.
use Rattle.std.specs.Prelude.{if◌then◌else◌}
use mathlib.Core.Path.{◌≡◌, refl, sym, ap, subst, ◌∙◌}
use mathlib.Core.Logic.{◌⊎◌, inl, inr, ⊎_elim}
use mathlib.Core.Bool.{Bool, true, false}
use mathlib.Core.List.{List, [], ◌∷◌, map}
use Prim.Native.Nat.{ℕ, zero, suc, ◌+◌, ◌-◌, ◌<◌, ◌≤◌}
use native.Mathlib.Omega.{arith}
use native.Mathlib.Decide.{dec_lt}
use lib.Dec.{ltb, eqb}
use lib.ListN.{length, get_or, drop, length-append, length-drop, get_or-append}
use lib.Seq.{get_or-append-add, get_or-drop}
use Rattle.model.specs.GrammarFile.{fields}
use Rattle.minimalist.specs.Lexicon.{Entry, entry_of}
use Rattle.minimalist.specs.Schemes.{Form, lexical_form, left_over, moving_after}
use Rattle.minimalist.specs.Closure.{add_forms, results_of, forms_after}
use Rattle.forms.specs.Rows.{NonZero, Small, place_in}
use Rattle.lexicon.proofs.EntryWalks.{six_long}
use Rattle.forms.proofs.RowForms.{before_few, before_set}
use Rattle.forms.proofs.MoveRows.{landed, landed_long, stayed, stayed_long}
use Rattle.forms.proofs.MergeRows.{going, joined}

-- an entry's form
pub entry_small : (e : List ℕ) → Small (lexical_form (entry_of e))
entry_small e =
    record {
      head_few = omega (arith, before_few (fields e 2 6), six_long e);
      head_set = before_set (fields e 2 6);
      moving_few = omega arith;
      chain_few = λ k. omega arith;
      chain_set = λ k i h z. omega arith;
    }

tail_few : (l : List ℕ) → length l ≤ 6 → length (drop 1 l) ≤ 6
tail_few l h = omega (arith, length-drop 1 l)

tail_set : (l : List ℕ) → NonZero l → NonZero (drop 1 l)
tail_set l s i h e = s (1 + i) (omega (arith, length-drop 1 l)) (sym (get_or-drop 1 l i 0) ∙ e)

-- the category of a merge
module _ (a b : Form) (p : Small a) (q : Small b) (few : length a.moving + length b.moving ≤ 6) (from : ℕ) where
  going_few : (k : ℕ) → length (get_or (going b) k []) ≤ 6
  going_few zero = tail_few b.head q.head_few
  going_few (suc k) = q.chain_few k

  going_set : (k : ℕ) → NonZero (get_or (going b) k [])
  going_set zero = tail_set b.head q.head_set
  going_set (suc k) = q.chain_set k

  -- a chain of it is one of a's, or one of b's that goes on
  chain_by : (P : List ℕ → Type 0) → ((k : ℕ) → P (get_or a.moving k [])) → ((k : ℕ) → P (get_or (going b) k [])) → (k : ℕ) → P (get_or (joined a b from).moving k [])
  chain_by P u v k = go (dec_lt k (length a.moving))
    where
      go : Dec (k < length a.moving) → P (get_or (joined a b from).moving k [])
      go (yes h) = subst P (sym (get_or-append a.moving (drop from (going b)) [] k h)) (u k)
      go (no h) =
          let e : length a.moving + (k - length a.moving) ≡ k = omega arith in
          subst P
          (sym (get_or-drop from (going b) (k - length a.moving) []) ∙ sym (get_or-append-add a.moving (drop from (going b)) (k - length a.moving) []) ∙ ap (λ (n : ℕ). get_or (joined a b from).moving n []) e)
          (v (from + (k - length a.moving)))

  pub joined_small : Small (joined a b from)
  joined_small =
      record {
        head_few = tail_few a.head p.head_few;
        head_set = tail_set a.head p.head_set;
        moving_few = omega (arith, length-append a.moving (drop from (going b)), length-drop from (going b));
        chain_few = chain_by (λ c. length c ≤ 6) p.chain_few going_few;
        chain_set = chain_by NonZero p.chain_set going_set;
      }

-- a round that adds nothing is the last
pub closed_still : (lexicon : List Entry) (n : ℕ) → add_forms (forms_after lexicon n) (results_of (forms_after lexicon n)) ≡ forms_after lexicon n → (k : ℕ) → forms_after lexicon (n + k) ≡ forms_after lexicon n
closed_still lexicon n e zero = let z : n + 0 ≡ n = omega arith in ap (forms_after lexicon) z
closed_still lexicon n e (suc k) =
    let z : n + suc k ≡ suc (n + k) = omega arith in
    ap (forms_after lexicon) z ∙ ap (λ (f : List Form). add_forms f (results_of f)) (closed_still lexicon n e k) ∙ e

-- the category of a move
left_over_lem : (c : List ℕ) → (left_over c ≡ []) ⊎ (left_over c ≡ drop 1 c ∷ [])
left_over_lem [] = inl refl
left_over_lem (m ∷ []) = inl refl
left_over_lem (m ∷ f ∷ β) = inr refl

module _ (a : Form) (p : Small a) (m : ℕ) (set : m ≡ 0 → ⊥) (inside : place_in m (map (λ c. get_or c 0 0) a.moving) < length a.moving) where
  abbrev cs : List (List ℕ)
  cs = a.moving

  abbrev t : ℕ
  t = place_in m (map (λ c. get_or c 0 0) cs)

  pick : (P : List ℕ → Type 0) (b : Bool) (x y : List ℕ) → P x → P y → P (if b then x else y)
  pick P true x y u v = u
  pick P false x y u v = v

  moved_by : (P : List ℕ → Type 0) → ((k : ℕ) → P (get_or cs k [])) → P (drop 1 (get_or cs t [])) → (k : ℕ) → P (get_or (moving_after m cs) k [])
  moved_by P u v k =
      ⊎_elim
      (λ e. subst P (sym (landed m set cs inside e k)) (pick P (ltb k t) (get_or cs k []) (get_or cs (k + 1) []) (u k) (u (k + 1))))
      (λ e. subst P (sym (stayed m set cs (drop 1 (get_or cs t [])) inside e k)) (pick P (eqb k t) (drop 1 (get_or cs t [])) (get_or cs k []) v (u k)))
      (left_over_lem (get_or cs t []))

  moved_few : length (moving_after m cs) ≤ 7
  moved_few =
      ⊎_elim (λ e. omega (arith, landed_long m set cs inside e, p.moving_few)) (λ e. omega (arith, stayed_long m set cs (drop 1 (get_or cs t [])) inside e, p.moving_few))
      (left_over_lem (get_or cs t []))

  pub moved_small : Small (record { lexical = false; head = drop 1 a.head; moving = moving_after m cs })
  moved_small =
      record {
        head_few = tail_few a.head p.head_few;
        head_set = tail_set a.head p.head_set;
        moving_few = moved_few;
        chain_few = moved_by (λ c. length c ≤ 6) p.chain_few (tail_few (get_or cs t []) (p.chain_few t));
        chain_set = moved_by NonZero p.chain_set (tail_set (get_or cs t []) (p.chain_set t));
      }
