-- A list that has each of as many numbers as it is long has just those: so every variable occurs exactly once.
-- Assumes nothing.
use Rattle.std.specs.Prelude.{if◌then◌else◌}
use mathlib.Core.Path.{◌≡◌, refl, sym, ap, subst, ◌∙◌}
use mathlib.Core.Logic.{◌⊎◌, inl, inr}
use mathlib.Core.Bool.{Bool, true, false}
use mathlib.Core.List.Memᴰ
use mathlib.Core.List.{List, [], ◌∷◌, ◌++◌, map, Memᴰ}
use Prim.Native.Nat.{ℕ, suc, ◌+◌, ◌*◌, ◌/◌, ◌%◌, ◌<◌, ◌≤◌}
use native.Mathlib.Omega.{arith}
use lib.Dec.{eqb, eqb→eq}
use lib.ListN.{length, get_or, take, drop, length-map}
use lib.Seq.{take-add}
use Rattle.model.specs.Base.{numbers_from, occurrences, total}
use Rattle.model.specs.Grammar.{Grammar, Variable, variable, dimension}
use Rattle.model.specs.GrammarFile.{sequences}
use Rattle.model.specs.WellFormed.{Perm, same, more, swap, chain, daughter_variables, named}
use Rattle.model.proofs.Lists.{map_out, map_append, mem_get_d}
use Rattle.model.proofs.Perm.{perm_mem, perm_map, perm_length}
use Rattle.model.proofs.Once.{Once, numbers_low, vars_once, vars_length}

abbrev pub Distinct : List ℕ → Type 0
Distinct [] = Unit {0}
Distinct (x ∷ l) = ((y : ℕ) → Memᴰ y l → x ≡ y → ⊥) × Distinct l

take_out : {x : ℕ} {l : List ℕ} → Memᴰ x l → (m : List ℕ) × Perm l (x ∷ m)
take_out {x} (Memᴰ.head {x = y} {xs = l} e) = (l, same (ap (λ (z : ℕ). z ∷ l) (sym e)))
take_out {x} (Memᴰ.tail {x = y} {xs = l} m) = let r = take_out m in (y ∷ r.0, chain (more y r.1) (swap y x))

pub all_there : (codes l : List ℕ) → Distinct codes → length l ≡ length codes → ((c : ℕ) → Memᴰ c codes → Memᴰ c l) → Perm l codes
all_there [] [] d e h = same refl
all_there [] (x ∷ l) d e h = let z : ⊥ = omega arith in absurd z
all_there (c ∷ codes) l d e h =
    let r = take_out (h c (Memᴰ.head refl)) in
    chain r.1
    (more c (all_there codes r.0 d.1 (omega (arith, perm_length r.1))
    (λ x m. other r x m (Memᴰ.cases_cons (perm_mem r.1 (h x (Memᴰ.tail m)))))))
  where
    other : (r : (m : List ℕ) × Perm l (c ∷ m)) (x : ℕ) → Memᴰ x codes → (x ≡ c) ⊎ Memᴰ x r.0 → Memᴰ x r.0
    other r x m (inl f) = absurd (d.0 x m (sym f))
    other r x m (inr n) = n

pub occurs : (x : ℕ) (l : List ℕ) → occurrences x l ≡ 1 → Memᴰ x l
occurs x [] e = let z : ⊥ = omega arith in absurd z
occurs x (y ∷ l) e = go (eqb x y) refl e (λ f. occurs x l f)
  where
    go : (b : Bool) → eqb x y ≡ b → (if b then 1 else 0) + occurrences x l ≡ 1 → (occurrences x l ≡ 1 → Memᴰ x l) → Memᴰ x (y ∷ l)
    go true f k ih = Memᴰ.head (eqb→eq x y (rw f tt))
    go false f k ih = Memᴰ.tail (ih (omega arith))

-- a variable as a number
abbrev pub code : Variable → ℕ
code v = 4 * v.daughter + v.component

abbrev pub decode : ℕ → Variable
decode n = variable (n / 4) (n % 4)

pub decode_code : (v : Variable) → v.component < 4 → decode (code v) ≡ v
decode_code v h =
    let a : (4 * v.daughter + v.component) / 4 ≡ v.daughter = omega arith in
    let b : (4 * v.daughter + v.component) % 4 ≡ v.component = omega arith in
    λ i. record { daughter = a i; component = b i }

pub parts_named : (ls vs : List ℕ) → named (sequences ls vs) ≡ map decode (take (total ls) vs)
parts_named [] vs = refl
parts_named (n ∷ ls) vs =
    ap (λ (l : List Variable). map decode (take n vs) ++ l) (parts_named ls (drop n vs))
    ∙ sym (map_append decode (take n vs) (take (total ls) (drop n vs))) ∙ ap (map decode) (sym (take-add n (total ls) vs))

pub parts_length : (ls vs : List ℕ) → length (sequences ls vs) ≡ length ls
parts_length [] vs = refl
parts_length (n ∷ ls) vs = ap suc (parts_length ls (drop n vs))

module _ (g : Grammar) where
  -- which variables there are
  pub record Place (j : ℕ) (ds : List ℕ) (v : Variable) : Type 0 where
    pub k : ℕ
    pub daughter_is : v.daughter ≡ j + k
    pub in_range : k < length ds
    pub comp_in : v.component < dimension g (get_or ds k 0)

  pub vars_out : (j : ℕ) (ds : List ℕ) (v : Variable) → Memᴰ v (daughter_variables g j ds) → Place j ds v
  vars_out j [] v m = elim m [ ]
  vars_out j (d ∷ ds) v m = go (Memᴰ.append_cases (map (variable j) (numbers_from 0 (dimension g d))) m) (λ n. vars_out (suc j) ds v n)
    where
      go : Memᴰ v (map (variable j) (numbers_from 0 (dimension g d))) ⊎ Memᴰ v (daughter_variables g (suc j) ds) → (Memᴰ v (daughter_variables g (suc j) ds) → Place (suc j) ds v) → Place j (d ∷ ds) v
      go (inl n) ih =
          let (c, i, e) = map_out (variable j) (numbers_from 0 (dimension g d)) n in
          let a : v.daughter ≡ j = ap (λ (w : Variable). w.daughter) e in
          let b : v.component ≡ c = ap (λ (w : Variable). w.component) e in
          record { k = 0; daughter_is = omega arith; in_range = omega arith; comp_in = omega (arith, numbers_low 0 (dimension g d) i) }
      go (inr n) ih = let p = ih n in record { k = suc p.k; daughter_is = omega (arith, p.daughter_is); in_range = omega (arith, p.in_range); comp_in = p.comp_in }

  -- the codes of the variables are different, where no dimension is over 4
  small : (l : List Variable) → ((v : Variable) → Memᴰ v l → v.component < 4) → Once l → Distinct (map code l)
  small [] h o = tt
  small (v ∷ l) h o = (
    λ y m e.
        let (w, i, f) = map_out code l m in
        let a = h v (Memᴰ.head refl) in
        let b = h w (Memᴰ.tail i) in
        let p : 4 * v.daughter + v.component ≡ 4 * w.daughter + w.component = e ∙ f in
        o.0 w i (omega arith, omega arith),
    small l (λ w m. h w (Memᴰ.tail m)) o.1,
  )

  decode_all : (l : List Variable) → ((v : Variable) → Memᴰ v l → v.component < 4) → map decode (map code l) ≡ l
  decode_all [] h = refl
  decode_all (v ∷ l) h = cc (decode_code v (h v (Memᴰ.head refl)), decode_all l (λ w m. h w (Memᴰ.tail m)))

  -- each code once in a list of that length: the variables are all there
  pub all_variables : (ds vs : List ℕ) → ((d : ℕ) → Memᴰ d ds → dimension g d ≤ 4) → length vs ≡ total (map (dimension g) ds)
      → ((j c : ℕ) → j < length ds → c < dimension g (get_or ds j 0) → occurrences (4 * j + c) vs ≡ 1)
      → Perm (map decode vs) (daughter_variables g 0 ds)
  all_variables ds vs four e h =
      chain (perm_map decode (all_there (map code (daughter_variables g 0 ds)) vs (small (daughter_variables g 0 ds) low (vars_once g 0 ds))
      (e ∙ sym (vars_length g 0 ds) ∙ sym (length-map (daughter_variables g 0 ds) code)) found))
      (same (decode_all (daughter_variables g 0 ds) low))
    where
      low : (v : Variable) → Memᴰ v (daughter_variables g 0 ds) → v.component < 4
      low v m = let p = vars_out 0 ds v m in omega (arith, p.comp_in, four (get_or ds p.k 0) (mem_get_d ds 0 p.k p.in_range))

      found : (c : ℕ) → Memᴰ c (map code (daughter_variables g 0 ds)) → Memᴰ c vs
      found c m =
          let (v, i, f) = map_out code (daughter_variables g 0 ds) m in
          let p = vars_out 0 ds v i in
          let q : v.daughter ≡ p.k = omega (arith, p.daughter_is) in
          let o = h p.k v.component p.in_range p.comp_in in
          let k : 4 * p.k + v.component ≡ c = ap (λ (x : ℕ). 4 * x + v.component) (sym q) ∙ sym f in
          subst (λ (x : ℕ). Memᴰ x vs) k (occurs (4 * p.k + v.component) vs o)
