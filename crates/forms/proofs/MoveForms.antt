-- What a move of a row says of the form.
-- Assumes nothing.
use Rattle.std.specs.Prelude.{if◌then◌else◌, Option, Some, None}
use mathlib.Core.Path.{◌≡◌, refl, sym, ap, ap₂, subst, ◌∙◌}
use mathlib.Core.Bool.{Bool, true, false}
use mathlib.Core.List.{List, [], ◌∷◌, map}
use Prim.Native.Nat.{ℕ, suc, ◌+◌, ◌-◌, ◌*◌, ◌/◌, ◌%◌, ◌<◌, ◌≤◌}
use native.Mathlib.Omega.{arith}
use native.Mathlib.Decide.{dec_lt, ℕ_discrete}
use lib.Dec.{ltb, eqb}
use lib.ListN.{length, get_or, drop, length-drop, length-map, get_or-eq_default}
use lib.Seq.{get_or-drop}
use borrow.Author.Tests.{lt-ltb, le-ltb, eq-eqb, ne_eqb}
use Rattle.model.specs.Base.{occurrences}
use Rattle.model.proofs.Tests.{not_both}
use Rattle.minimalist.specs.Lexicon.{is_licensor}
use Rattle.minimalist.specs.Schemes.{Form, how_many_begin, left_over, moving_after, move_if, move_scheme}
use Rattle.model.specs.Base.{numbers_from}
use Rattle.model.proofs.Lists.{length_numbers}
use Rattle.forms.specs.declared.moves.MoveScheme.{MoveScheme}
use Rattle.forms.specs.declared.moves.MoveScheme.TheVariants.{Fourth, Fifth}
use Rattle.forms.specs.declared.moves.Moved.{Moved}
use Rattle.forms.specs.Rows.{head_byte, row_byte, row_of, NonZero, Small, rest_byte, FilledBy, firsts_in, place_in, land_byte, stay_byte, move_byte, move_code, MoveIs, SaysMove}
use Rattle.forms.proofs.RowLaws.{row_by, row_long, cell_is, head_at, count_at, chain_at, first_at}
use Rattle.forms.proofs.RowForms.{firsts_of}
use Rattle.forms.proofs.MoveRows.{how_many, placed, landed, landed_long, stayed, stayed_long}

module _ (a : Form) (small : Small a) (m : ℕ) (set : m ≡ 0 → ⊥) where
  abbrev cs : List (List ℕ)
  cs = a.moving

  abbrev t : ℕ
  t = place_in m (map (λ c. get_or c 0 0) cs)

  abbrev r : Form
  r = record { lexical = false; head = drop 1 a.head; moving = moving_after m cs }

  head_part : (n p : ℕ) → n ≡ length (moving_after m cs) → n < 256 → p < 8 → rest_byte (row_of a) n p ≡ head_byte r p
  head_part n p e few h = go (dec_lt p 5) (dec_lt p 6) (ℕ_discrete p 6)
    where
      go : Dec (p < 5) → Dec (p < 6) → Dec (p ≡ 6) → rest_byte (row_of a) n p ≡ head_byte r p
      go (yes l) k s = let z : 1 + p ≡ p + 1 = omega arith in rw (lt-ltb p 5 l, lt-ltb p 6 (omega arith)) (head_at a (p + 1) (omega arith) ∙ sym (get_or-drop 1 a.head p 0 ∙ ap (λ (x : ℕ). get_or a.head x 0) z))
      go (no l) (yes k) s = rw (le-ltb p 5 (omega arith), lt-ltb p 6 k, ne_eqb p 7 (λ q. omega arith)) (sym (get_or-eq_default (drop 1 a.head) 0 {n = p} (omega (arith, length-drop 1 a.head, small.head_few))))
      go (no l) (no k) (yes s) = rw (le-ltb p 5 (omega arith), le-ltb p 6 (omega arith), ne_eqb p 7 (λ q. omega arith), eq-eqb p 6 s)
      go (no l) (no k) (no s) = rw (le-ltb p 5 (omega arith), le-ltb p 6 (omega arith), eq-eqb p 7 (omega arith), ne_eqb p 6 s) (let z : n % 256 ≡ n = omega arith in z ∙ e)

  module _ (inside : t < length cs) where
    chain_byte : (p k x : ℕ) → p ≡ 8 * (k + 1) + x → x < 8 → get_or (row_of a) p 0 ≡ get_or (get_or cs k []) x 0
    chain_byte p k x e h = go (dec_lt k 7)
      where
        go : Dec (k < 7) → get_or (row_of a) p 0 ≡ get_or (get_or cs k []) x 0
        go (yes l) = chain_at a p k x e h l
        go (no l) =
            get_or-eq_default (row_of a) 0 {n = p} (omega (arith, row_long a))
            ∙ ap (λ (c : List ℕ). get_or c x 0) (sym (get_or-eq_default cs [] {n = k} (omega (arith, small.moving_few))))

    land_chain : left_over (get_or cs t []) ≡ [] → (p : ℕ) → 8 ≤ p → land_byte (row_of a) t p ≡ get_or (get_or (moving_after m cs) (p / 8 - 1) []) (p % 8) 0
    land_chain e p h = go (dec_lt (p / 8 - 1) t)
      where
        go : Dec (p / 8 - 1 < t) → land_byte (row_of a) t p ≡ get_or (get_or (moving_after m cs) (p / 8 - 1) []) (p % 8) 0
        go (yes l) =
            let w : get_or (moving_after m cs) (p / 8 - 1) [] ≡ get_or cs (p / 8 - 1) [] = landed m set cs inside e (p / 8 - 1) ∙ ap (λ (b : Bool). if b then get_or cs (p / 8 - 1) [] else get_or cs (p / 8 - 1 + 1) []) (lt-ltb (p / 8 - 1) t l) in
            rw (lt-ltb (p / 8 - 1) t l) (chain_byte p (p / 8 - 1) (p % 8) (omega arith) (omega arith) ∙ ap (λ (c : List ℕ). get_or c (p % 8) 0) (sym w))
        go (no l) =
            let w : get_or (moving_after m cs) (p / 8 - 1) [] ≡ get_or cs (p / 8 - 1 + 1) [] = landed m set cs inside e (p / 8 - 1) ∙ ap (λ (b : Bool). if b then get_or cs (p / 8 - 1) [] else get_or cs (p / 8 - 1 + 1) []) (le-ltb (p / 8 - 1) t (omega arith)) in
            rw (le-ltb (p / 8 - 1) t (omega arith)) (chain_byte (p + 8) (p / 8 - 1 + 1) (p % 8) (omega arith) (omega arith) ∙ ap (λ (c : List ℕ). get_or c (p % 8) 0) (sym w))

    stay_chain : left_over (get_or cs t []) ≡ drop 1 (get_or cs t []) ∷ [] → (p : ℕ) → 8 ≤ p → stay_byte (row_of a) t p ≡ get_or (get_or (moving_after m cs) (p / 8 - 1) []) (p % 8) 0
    stay_chain e p h = go (ℕ_discrete (p / 8 - 1) t) (dec_lt (p % 8) 5)
      where
        there : get_or (moving_after m cs) (p / 8 - 1) [] ≡ (if eqb (p / 8 - 1) t then drop 1 (get_or cs t []) else get_or cs (p / 8 - 1) [])
        there = stayed m set cs (drop 1 (get_or cs t [])) inside e (p / 8 - 1)

        go : Dec (p / 8 - 1 ≡ t) → Dec (p % 8 < 5) → stay_byte (row_of a) t p ≡ get_or (get_or (moving_after m cs) (p / 8 - 1) []) (p % 8) 0
        go (yes l) (yes k) =
            let z : 1 + p % 8 ≡ p % 8 + 1 = omega arith in
            rw (eq-eqb (p / 8 - 1) t l, lt-ltb (p % 8) 5 k)
            (chain_byte (p + 1) t (p % 8 + 1) (omega arith) (omega arith)
            ∙ sym (ap (λ (c : List ℕ). get_or c (p % 8) 0) (there ∙ ap (λ (b : Bool). if b then drop 1 (get_or cs t []) else get_or cs (p / 8 - 1) []) (eq-eqb (p / 8 - 1) t l)) ∙ get_or-drop 1 (get_or cs t []) (p % 8) 0 ∙ ap (λ (x : ℕ). get_or (get_or cs t []) x 0) z))
        go (yes l) (no k) =
            rw (eq-eqb (p / 8 - 1) t l, le-ltb (p % 8) 5 (omega arith))
            (sym (ap (λ (c : List ℕ). get_or c (p % 8) 0) (there ∙ ap (λ (b : Bool). if b then drop 1 (get_or cs t []) else get_or cs (p / 8 - 1) []) (eq-eqb (p / 8 - 1) t l)) ∙ get_or-eq_default (drop 1 (get_or cs t [])) 0 {n = p % 8} (omega (arith, length-drop 1 (get_or cs t []), small.chain_few t))))
        go (no l) k =
            rw (ne_eqb (p / 8 - 1) t l)
            (chain_byte p (p / 8 - 1) (p % 8) (omega arith) (omega arith) ∙ sym (ap (λ (c : List ℕ). get_or c (p % 8) 0) (there ∙ ap (λ (b : Bool). if b then drop 1 (get_or cs t []) else get_or cs (p / 8 - 1) []) (ne_eqb (p / 8 - 1) t l))))

    row_part : (n p : ℕ) (late : ℕ) → n ≡ length (moving_after m cs) → n < 256 → (8 ≤ p → late ≡ get_or (get_or (moving_after m cs) (p / 8 - 1) []) (p % 8) 0)
        → (if ltb p 8 then rest_byte (row_of a) n p else late) ≡ row_byte r p
    row_part n p late e few l = go (dec_lt p 8)
      where
        go : Dec (p < 8) → (if ltb p 8 then rest_byte (row_of a) n p else late) ≡ row_byte r p
        go (yes h) = rw (lt-ltb p 8 h) (head_part n p e few h ∙ sym (cell_is r p 0 p (omega arith) h))
        go (no h) =
            let x : p ≡ 8 * suc (p / 8 - 1) + p % 8 = omega arith in
            rw (le-ltb p 8 (omega arith)) (l (omega arith) ∙ sym (cell_is r p (suc (p / 8 - 1)) (p % 8) x (omega arith)))

    pub land_row : left_over (get_or cs t []) ≡ [] → (row : List ℕ) → FilledBy (move_byte (row_of a) (length cs) t Fourth) row → row ≡ row_of r
    land_row e row f = row_by r row f.0 (λ p l. f.1 p l ∙ row_part (length cs - 1) p (land_byte (row_of a) t p) (sym (landed_long m set cs inside e)) (omega (arith, small.moving_few)) (λ h. land_chain e p h))

    pub stay_row : left_over (get_or cs t []) ≡ drop 1 (get_or cs t []) ∷ [] → (row : List ℕ) → FilledBy (move_byte (row_of a) (length cs) t Fifth) row → row ≡ row_of r
    stay_row e row f = row_by r row f.0 (λ p l. f.1 p l ∙ row_part (length cs) p (stay_byte (row_of a) t p) (sym (stayed_long m set cs (drop 1 (get_or cs t [])) inside e)) (omega (arith, small.moving_few)) (λ h. stay_chain e p h))

-- by the code's tests
chain_ends : (c : List ℕ) → NonZero c → get_or c 1 0 ≡ 0 → left_over c ≡ []
chain_ends [] s e = refl
chain_ends (m ∷ []) s e = refl
chain_ends (m ∷ f ∷ β) s e = absurd (s 1 (omega arith) e)

chain_stays : (c : List ℕ) → (get_or c 1 0 ≡ 0 → ⊥) → left_over c ≡ drop 1 c ∷ []
chain_stays [] d = absurd (d refl)
chain_stays (m ∷ []) d = absurd (d refl)
chain_stays (m ∷ f ∷ β) d = refl

-- what a move answers
abbrev pub moved : MoveScheme → ℕ → List ℕ → Option Moved
moved s t row = Some (record { scheme = s; chain = t + 1; row = row })

code_ends : (t : ℕ) (c row : List ℕ) → left_over c ≡ [] → moved Fourth t row ≡ Some (move_code t c row)
code_ends t [] row e = refl
code_ends t (m ∷ []) row e = refl
code_ends t (m ∷ f ∷ β) row e = let z : ◌≡◌ {A = ℕ} 1 0 = ap length e in absurd (omega arith)

code_stays : (t : ℕ) (c row : List ℕ) → (get_or c 1 0 ≡ 0 → ⊥) → moved Fifth t row ≡ Some (move_code t c row)
code_stays t [] row d = absurd (d refl)
code_stays t (m ∷ []) row d = absurd (d refl)
code_stays t (m ∷ f ∷ β) row d = refl

module _ (x : List ℕ) (a : Form) (small : Small a) (ra : x ≡ row_of a) where
  first_a : get_or x 0 0 ≡ get_or a.head 0 0
  first_a = first_at x a ra

  none_says : is_licensor (get_or x 0 0) ≡ false → MoveIs a (move_scheme a) None
  none_says w = go a.head refl
    where
      go : (h : List ℕ) → a.head ≡ h → MoveIs a (move_if a h) None
      go [] e = refl
      go (p ∷ α) e = rw (sym (ap is_licensor (first_a ∙ ap (λ (l : List ℕ). get_or l 0 0) e)) ∙ w)

  module _ (f n : ℕ) (ef : f ≡ get_or x 0 0) (en : n ≡ get_or x 7 0) (lic : is_licensor f ≡ true) where
    abbrev m : ℕ
    m = f + 16

    set : m ≡ 0 → ⊥
    set z = omega arith

    n_is : n ≡ length a.moving
    n_is = en ∙ ap (λ (l : List ℕ). get_or l 7 0) ra ∙ count_at a

    firsts_are : firsts_in x 0 n ≡ map (λ c. get_or c 0 0) a.moving
    firsts_are = ap₂ (λ (l : List ℕ) (k : ℕ). firsts_in l 0 k) ra n_is ∙ firsts_of a small

    f_is : f ≡ get_or a.head 0 0
    f_is = ef ∙ first_a

    many_is : how_many_begin m a.moving ≡ occurrences m (firsts_in x 0 n)
    many_is = how_many m set a.moving ∙ ap (occurrences m) (sym firsts_are)

    not_one_says : (occurrences m (firsts_in x 0 n) ≡ 1 → ⊥) → MoveIs a (move_scheme a) None
    not_one_says d = go a.head refl
      where
        go : (h : List ℕ) → a.head ≡ h → MoveIs a (move_if a h) None
        go [] e = refl
        go (p ∷ α) e =
            let q : f ≡ p = f_is ∙ ap (λ (l : List ℕ). get_or l 0 0) e in
            rw (sym (ap is_licensor q) ∙ lic, ne_eqb (how_many_begin (p + 16) a.moving) 1 (λ z. d (sym many_is ∙ ap (λ (s : ℕ). how_many_begin (s + 16) a.moving) q ∙ z)))

    -- one chain moves
    module _ (one : occurrences m (firsts_in x 0 n) ≡ 1) (t : ℕ) (et : t ≡ place_in m (firsts_in x 0 n)) where
      t_is : t ≡ place_in m (map (λ c. get_or c 0 0) a.moving)
      t_is = et ∙ ap (place_in m) firsts_are

      within : place_in m (map (λ c. get_or c 0 0) a.moving) < length a.moving
      within = omega (arith, placed m set (map (λ c. get_or c 0 0) a.moving) (ap (occurrences m) (sym firsts_are) ∙ one), length-map a.moving (λ c. get_or c 0 0))

      second_is : get_or x (8 * (t + 1) + 1) 0 ≡ get_or (get_or a.moving t []) 1 0
      second_is = ap (λ (l : List ℕ). get_or l (8 * (t + 1) + 1) 0) ra ∙ chain_at a (8 * (t + 1) + 1) t 1 refl (omega arith) (omega (arith, t_is, within, small.moving_few))

      filled_of : (b : MoveScheme) (after : List ℕ) → FilledBy (move_byte x n t b) after → FilledBy (move_byte (row_of a) (length a.moving) (place_in m (map (λ c. get_or c 0 0) a.moving)) b) after
      filled_of b after g = (g.0, λ p l. g.1 p l ∙ ap (λ (r : List ℕ). move_byte r n t b p) ra ∙ ap₂ (λ (u v : ℕ). move_byte (row_of a) u v b p) n_is t_is)

      -- the instance there is, with this scheme, chain and row
      some_says : (r : Option Moved) (after : List ℕ) → r ≡ Some (move_code (place_in m (map (λ c. get_or c 0 0) a.moving)) (get_or a.moving (place_in m (map (λ c. get_or c 0 0) a.moving)) []) after)
          → after ≡ row_of (record { lexical = false; head = drop 1 a.head; moving = moving_after m a.moving }) → MoveIs a (move_scheme a) r
      some_says r after er ea = go a.head refl
        where
          go : (h : List ℕ) → a.head ≡ h → MoveIs a (move_if a h) r
          go [] e = let q : f ≡ 0 = f_is ∙ ap (λ (l : List ℕ). get_or l 0 0) e in not_both (sym lic ∙ ap is_licensor q)
          go (p ∷ α) e =
              let q : f ≡ p = f_is ∙ ap (λ (l : List ℕ). get_or l 0 0) e in
              rw (sym (ap is_licensor q) ∙ lic, eq-eqb (how_many_begin (p + 16) a.moving) 1 (ap (λ (s : ℕ). how_many_begin (s + 16) a.moving) (sym q) ∙ many_is ∙ one))
              (er
              ∙ ap₂ (λ (s : ℕ) (row : List ℕ). Some (move_code (place_in (s + 16) (map (λ c. get_or c 0 0) a.moving)) (get_or a.moving (place_in (s + 16) (map (λ c. get_or c 0 0) a.moving)) []) row)) f_is
              (ea ∙ ap₂ (λ (h : List ℕ) (s : ℕ). row_of (record { lexical = false; head = drop 1 h; moving = moving_after (s + 16) a.moving })) e q))

      ends_says : (after : List ℕ) → get_or x (8 * (t + 1) + 1) 0 ≡ 0 → FilledBy (move_byte x n t Fourth) after → MoveIs a (move_scheme a) (moved Fourth t after)
      ends_says after e g =
          let left = chain_ends (get_or a.moving t []) (small.chain_set t) (sym second_is ∙ e) in
          some_says (moved Fourth t after) after
          (code_ends t (get_or a.moving t []) after left ∙ ap (λ (s : ℕ). Some (move_code s (get_or a.moving s []) after)) t_is)
          (land_row a small m set within (ap (λ (s : ℕ). left_over (get_or a.moving s [])) (sym t_is) ∙ left) after (filled_of Fourth after g))

      stays_says : (after : List ℕ) → (get_or x (8 * (t + 1) + 1) 0 ≡ 0 → ⊥) → FilledBy (move_byte x n t Fifth) after → MoveIs a (move_scheme a) (moved Fifth t after)
      stays_says after d g =
          let other : get_or (get_or a.moving t []) 1 0 ≡ 0 → ⊥ = λ z. d (second_is ∙ z) in
          some_says (moved Fifth t after) after
          (code_stays t (get_or a.moving t []) after other ∙ ap (λ (s : ℕ). Some (move_code s (get_or a.moving s []) after)) t_is)
          (stay_row a small m set within (subst (λ (s : ℕ). left_over (get_or a.moving s []) ≡ drop 1 (get_or a.moving s []) ∷ []) t_is (chain_stays (get_or a.moving t []) other)) after (filled_of Fifth after g))

module _ (x : List ℕ) where
  pub says_no_licensor : is_licensor (get_or x 0 0) ≡ false → SaysMove x None
  says_no_licensor w a s ra = none_says x a s ra w

  module _ (f n : ℕ) (ef : f ≡ get_or x 0 0) (en : n ≡ get_or x 7 0) (lic : is_licensor f ≡ true) where
    pub says_not_one : (occurrences (f + 16) (firsts_in x 0 n) ≡ 1 → ⊥) → SaysMove x None
    says_not_one d a s ra = not_one_says x a s ra f n ef en lic d

    module _ (one : occurrences (f + 16) (firsts_in x 0 n) ≡ 1) where
      -- there is such a chain
      pub some_begins : place_in (f + 16) (firsts_in x 0 n) < n
      some_begins = omega (arith, placed (f + 16) (λ z. omega arith) (firsts_in x 0 n) one, length-map (numbers_from 0 n) (λ j. get_or x (8 * (j + 1)) 0), length_numbers 0 n)

      module _ (t : ℕ) (et : t ≡ place_in (f + 16) (firsts_in x 0 n)) (after : List ℕ) where
        pub says_ends : get_or x (8 * (t + 1) + 1) 0 ≡ 0 → FilledBy (move_byte x n t Fourth) after → SaysMove x (moved Fourth t after)
        says_ends e g a s ra = ends_says x a s ra f n ef en lic one t et after e g

        pub says_stays : (get_or x (8 * (t + 1) + 1) 0 ≡ 0 → ⊥) → FilledBy (move_byte x n t Fifth) after → SaysMove x (moved Fifth t after)
        says_stays d g a s ra = stays_says x a s ra f n ef en lic one t et after d g
