-- The step of a rule of the front's category, in code.
-- Assumes nothing.
use Rattle.std.specs.Prelude.{Ok, Err, if◌then◌else◌}
use mathlib.Core.Path.{◌≡◌, refl, sym, ap, ap₂, subst, ◌∙◌}
use mathlib.Core.Bool.{Bool, true, false}
use mathlib.Core.Option.{Option, none, some}
use mathlib.Core.List.{List, [], ◌∷◌, map}
use Prim.Native.Nat.{ℕ, suc, ◌+◌, ◌-◌, ◌*◌, ◌<◌, ◌≤◌}
use native.Mathlib.Omega.{arith}
use borrow.Author.Tests.{eq-eqb, ne_eqb, ltb-true, ltb-false}
use lib.Dec.{eqb, ltb}
use lib.ListN.{length, get_or, drop, length-map, drop_of_length-le}
use lib.Seq.{slice, drop-cons}
use Rattle.model.specs.Grammar.{Rule, Grammar, empty_word, rule_at, is_lexical}
use Rattle.model.specs.Step.{word_fits}
use Rattle.model.proofs.Apart.{Every}
use Rattle.model.proofs.Tests.{not_both}
use Rattle.ranking.specs.Recognizer.{stops, goes}
use Rattle.ranking.specs.Ranks.{Ranked, RankedState, rerank, lowered, scan_ranked, read_ranked, without_front, predict_ranked, apply_ranked, step_ranked}
use Rattle.ranking.specs.Numbered.{made_at, number_at}
use Rattle.ranking.proofs.Limits.{predict_length}
use Rattle.ranks.specs.Prediction.{Prediction, Short, Behind, unpacked, remade}
use Rattle.ranks.specs.Queue.{Roomy, Mapped, Next as NextQueue}
use Rattle.ranks.specs.Queue as places
use Rattle.ranks.specs.Held.{in_lanes, number_of, prediction_of, queue_in}
use Rattle.ranks.specs.Table.{daughters_in, word_in, RuleCells}
use Rattle.ranks.specs.Step.{Expands, expanded_queue}
use Rattle.ranks.proofs.Holding.{queue_first, others_numbers, each_held}
use Rattle.ranks.proofs.Predicting.{others_short, others_behind}
use Rattle.ranks.proofs.Scanning.{scanned_numbers}
use Rattle.steps.specs.declared.Standing.{Standing}
use Rattle.steps.specs.declared.Halt.TheVariants.{Refused, Long}
use Rattle.steps.specs.Steps.{state_in, Ready, Fronted, hears, taken, read_by, ahead, opens, Advances, StepSays}
use Rattle.steps.proofs.Behind.{reads_few}
use Rattle.steps.proofs.Onward.{state, pending, leads_there, stands_there, x, R, right, reached_front, fit_front, others_length, scans, predicts}

-- a word may be read next: it is read, and the recognizer goes there; else it halts
pub record Reads (word read : ℕ) (sentence : List ℕ) : Type 0 where
  pub known : read + taken word ≤ length sentence
  pub scan : (q : List (Ranked ℕ)) → scan_ranked word q (drop read sentence) ≡ goes (record { queue = q; words = drop (read + taken word) sentence })

module _ (word read : ℕ) (sentence : List ℕ) (within : read ≤ length sentence) where
  abbrev state_of : List (Ranked ℕ) → ℕ → RankedState ℕ
  state_of q k = record { queue = q; words = drop k sentence }

  pub heard_next : hears word sentence read ≡ true → Reads word read sentence
  heard_next e = go (eqb word empty_word) refl e
    where
      fits : word_fits word (get_or sentence read 0) ≡ true → read < length sentence → eqb word empty_word ≡ false → Reads word read sentence
      fits f l z =
          let one : taken word ≡ 1 = ap (λ (b : Bool). if b then 0 else 1) z in
          let s : suc read ≡ read + taken word = omega (arith, one) in
          record {
            known = omega (arith, one, l);
            scan = λ q.
                ap (λ (b : Bool). if b then goes (state_of q read) else read_ranked word q (drop read sentence)) z
                ∙ ap (read_ranked word q) (drop-cons sentence read 0 l)
                ∙ ap (λ (b : Bool). if b then goes (state_of q (suc read)) else stops 16) f
                ∙ ap (λ (k : ℕ). goes (state_of q k)) s;
          }

      left : (b : Bool) → ltb read (length sentence) ≡ b → eqb word empty_word ≡ false → (if b then word_fits word (get_or sentence read 0) else false) ≡ true → Reads word read sentence
      left true l z d = fits d (ltb-true read (length sentence) l) z
      left false l z d = not_both (sym d)

      go : (b : Bool) → eqb word empty_word ≡ b → (if b then true else if ltb read (length sentence) then word_fits word (get_or sentence read 0) else false) ≡ true → Reads word read sentence
      go true z d =
          let none_taken : taken word ≡ 0 = ap (λ (b : Bool). if b then 0 else 1) z in
          let s : read ≡ read + taken word = omega (arith, none_taken) in
          record {
            known = omega (arith, none_taken, within);
            scan = λ q. ap (λ (b : Bool). if b then goes (state_of q read) else read_ranked word q (drop read sentence)) z ∙ ap (λ (k : ℕ). goes (state_of q k)) s;
          }
      go false z d = left (ltb read (length sentence)) refl z d

  pub heard_other : hears word sentence read ≡ false → (q : List (Ranked ℕ)) → scan_ranked word q (drop read sentence) ≡ stops 16
  heard_other e q = go (eqb word empty_word) refl e
    where
      left : (b : Bool) → ltb read (length sentence) ≡ b → (if b then word_fits word (get_or sentence read 0) else false) ≡ false → read_ranked word q (drop read sentence) ≡ stops 16
      left true l d = ap (read_ranked word q) (drop-cons sentence read 0 (ltb-true read (length sentence) l)) ∙ ap (λ (b : Bool). if b then goes (state_of q (suc read)) else stops 16) d
      left false l d = ap (read_ranked word q) (drop_of_length-le sentence {i = read} (ltb-false read (length sentence) l))

      go : (b : Bool) → eqb word empty_word ≡ b → (if b then true else if ltb read (length sentence) then word_fits word (get_or sentence read 0) else false) ≡ false
          → (if b then goes (state_of q read) else read_ranked word q (drop read sentence)) ≡ stops 16
      go true z d = not_both d
      go false z d = left (ltb read (length sentence)) refl d

-- what the code reads in the table tells whether the step of rule r leads on
module _ (t sentence : List ℕ) (at : Standing) (r cell d : ℕ) (place : cell ≡ 8 * r) (read : d ≡ daughters_in t cell) where
  same : daughters_in t (8 * r) ≡ d
  same = sym (read ∙ ap (daughters_in t) place)

  abbrev by : Bool → Bool → Bool
  by lexical long = if lexical then hears (word_in t (8 * r)) sentence at.read else if long then false else true

  pub opens_lexical : d ≡ 0 → (word : ℕ) → word ≡ word_in t cell → (b : Bool) → b ≡ hears word sentence at.read → b ≡ opens t sentence at r
  opens_lexical z word e b h =
      h ∙ ap (λ (v : ℕ). hears v sentence at.read) (e ∙ ap (word_in t) place) ∙ sym (ap (λ (l : Bool). by l (ltb at.left (at.to - at.from + daughters_in t (8 * r)))) (eq-eqb (daughters_in t (8 * r)) 0 (same ∙ z)))

-- a rule of the front's category
module _ (g : Grammar) (t sentence w : List ℕ) (at : Standing) (ready : Ready g t sentence w at) (r : ℕ) (front : Fronted g w at r) where
  pub cells : RuleCells g front.rule t (8 * r)
  cells = ready.compiled r front.rule front.rule_is

  pub rule_small : r < 256
  rule_small = omega (arith, cells.room)

  pub advances : Advances at
  advances = record { predicted = front.predicted; left = omega (arith, front.predicted, ready.fits); small = (omega (arith, ready.room, ready.few, ready.fits, front.predicted), omega (arith, ready.few)); few_read = omega (arith, ready.heard, ready.few) }

  -- where a step leads, by the length of its queue and the words then read
  ahead_is : (n m : ℕ) → n ≡ at.read + read_by t r → m ≡ at.to - at.from - 1 + daughters_in t (8 * r)
      → ◌≡◌ {A = Standing} (record { from = at.to; to = at.to + m; read = n; steps = at.steps + 1; left = at.left - 1 }) (ahead t at r)
  ahead_is n m d e = ap₂ (λ (l k : ℕ). record { from = at.to; to = at.to + k; read = l; steps = at.steps + 1; left = at.left - 1 }) d e

  -- a step to the queue q, whose numbers are written behind
  leads_to : (read : ℕ) (q : List (Ranked ℕ)) → step_ranked (number_at at.steps) g (state g t sentence w at ready) r ≡ goes (record { queue = q; words = drop read sentence })
      → read ≡ at.read + read_by t r → length q ≡ at.to - at.from - 1 + daughters_in t (8 * r) → at.to - at.from + daughters_in t (8 * r) ≤ at.left → read ≤ length sentence
      → (w' : List ℕ) → NextQueue (map number_of q) w w' at.to (at.to + (at.to - at.from - 1 + daughters_in t (8 * r)))
      → StepSays g t sentence w w' at r (Ok (ahead t at r))
  leads_to read q leads words long fits known w' next =
      let numbers : slice at.to (at.to + length q) w' ≡ map number_of q = ap (λ (n : ℕ). slice at.to (at.to + n) w') long ∙ next.written in
      let few : length q + 1 ≤ at.left = omega (arith, long, fits, front.predicted) in
      let heard : read ≤ at.read + 1 = omega (arith, words, reads_few t r) in
      let e = ahead_is read (length q) words long in
      record {
        kept = next.kept;
        below = next.below;
        says = record {
          place = refl;
          leads_to = subst (λ (s : Standing). step_ranked (number_at at.steps) g (state g t sentence w at ready) r ≡ goes (state_in g sentence w' s)) e (leads_there g t sentence w at ready r read q leads few known heard w' next.kept numbers);
          ready = subst (Ready g t sentence w') e (stands_there g t sentence w at ready r read q leads few known heard w' next.kept numbers);
        };
      }

  -- a lexical rule
  module _ (no_daughters : daughters_in t (8 * r) ≡ 0) where
    lex : is_lexical front.rule ≡ true
    lex = go front.rule.daughters (sym cells.daughters ∙ no_daughters)
      where
        go : (ds : List ℕ) → length ds ≡ 0 → ◌≡◌ {A = Bool} (elim ds [ [] ↦ true | d ∷ l ↦ false ]) true
        go [] e = refl
        go (d ∷ ds) e = absurd (omega arith)

    pub scan_roomy : Roomy w (at.from + 1) at.to at.to
    scan_roomy =
        record {
          long = ready.held.long;
          ordered = omega (arith, front.predicted);
          behind = omega arith;
          fits = omega (arith, ready.room, ready.grown, ready.fits, ready.few);
        }

    others : (P : Prediction → Type 0) → Every (λ p. P (in_lanes p)) (queue_in g w (at.from + 1) at.to) → places.Every P w (at.from + 1) at.to
    others P e =
        each_held g P w (at.from + 1) at.to (queue_in g w (at.from + 1) at.to) (omega (arith, ready.held.long, ready.held.within))
        (others_numbers g w at.from at.to ready.held front.predicted) (fit_front g t sentence w at ready r front).1 e

    pub scan_short : places.Every Short w (at.from + 1) at.to
    scan_short = others Short (others_short g (x g t sentence w at ready r front) (R g t sentence w at ready r front) (drop at.read sentence) (reached_front g t sentence w at ready r front) (fit_front g t sentence w at ready r front))

    pub scan_behind : places.Every Behind w (at.from + 1) at.to
    scan_behind = others Behind (others_behind g (x g t sentence w at ready r front) (R g t sentence w at ready r front) (drop at.read sentence) (reached_front g t sentence w at ready r front) (fit_front g t sentence w at ready r front))

    reads_one : read_by t r ≡ taken (word_in t (8 * r))
    reads_one = ap (λ (b : Bool). if b then taken (word_in t (8 * r)) else 0) (eq-eqb (daughters_in t (8 * r)) 0 no_daughters)

    heard_word : (b : Bool) → opens t sentence at r ≡ b → hears (word_in t (8 * r)) sentence at.read ≡ b
    heard_word b o =
        sym (ap (λ (c : Bool). if c then hears (word_in t (8 * r)) sentence at.read else if ltb at.left (at.to - at.from + daughters_in t (8 * r)) then false else true) (eq-eqb (daughters_in t (8 * r)) 0 no_daughters))
        ∙ o

    pub scan_says : opens t sentence at r ≡ true → (w' : List ℕ) → Mapped (remade (λ k. k - 1)) w w' (at.from + 1) at.to at.to → StepSays g t sentence w w' at r (Ok (ahead t at r))
    scan_says o w' m =
        let word = word_in t (8 * r) in
        let q = without_front (x g t sentence w at ready r front) (R g t sentence w at ready r front) in
        let k = heard_next word at.read sentence ready.known (heard_word true o) in
        let long : length q ≡ at.to - at.from - 1 + daughters_in t (8 * r)
        = length-map (R g t sentence w at ready r front) (rerank (lowered (x g t sentence w at ready r front).ranks)) ∙ others_length g t sentence w at ready r front ∙ (let y : at.to - at.from - 1 ≡ at.to - at.from - 1 + daughters_in t (8 * r) = omega (arith, no_daughters) in y) in
        leads_to (at.read + taken word) q (scans g t sentence w at ready r front lex ∙ ap (λ (v : ℕ). scan_ranked v q (drop at.read sentence)) (sym cells.word) ∙ k.scan q)
        (ap (λ (v : ℕ). at.read + v) (sym reads_one)) long (omega (arith, no_daughters, ready.fits, front.predicted)) k.known w'
        (record {
          kept = m.kept;
          below = m.below;
          written =
              (let z : at.to + (at.to - at.from - 1 + daughters_in t (8 * r)) ≡ at.to + (at.to - (at.from + 1)) = omega (arith, no_daughters) in ap (λ (v : ℕ). slice at.to v w') z)
              ∙ m.written
              ∙ ap (map (remade (λ k. k - 1))) (others_numbers g w at.from at.to ready.held front.predicted)
              ∙ scanned_numbers g front.rule (right g t sentence w at ready r front) lex (x g t sentence w at ready r front) (R g t sentence w at ready r front) (drop at.read sentence) (reached_front g t sentence w at ready r front) (fit_front g t sentence w at ready r front) front.of_front;
        })

    pub other_says : opens t sentence at r ≡ false → StepSays g t sentence w w at r (Err (Refused 16))
    other_says o =
        record {
          kept = refl;
          below = refl;
          says = scans g t sentence w at ready r front lex ∙ ap (λ (v : ℕ). scan_ranked v (without_front (x g t sentence w at ready r front) (R g t sentence w at ready r front)) (drop at.read sentence)) (sym cells.word)
              ∙ heard_other (word_in t (8 * r)) at.read sentence ready.known (heard_word false o) (without_front (x g t sentence w at ready r front) (R g t sentence w at ready r front));
        }

  -- a nonlexical rule
  module _ (daughters : daughters_in t (8 * r) ≡ 0 → ⊥) where
    pub nonlexical : is_lexical front.rule ≡ false
    nonlexical = go front.rule.daughters (λ e. daughters (cells.daughters ∙ e))
      where
        go : (ds : List ℕ) → (length ds ≡ 0 → ⊥) → ◌≡◌ {A = Bool} (elim ds [ [] ↦ true | d ∷ l ↦ false ]) false
        go [] e = absurd (e refl)
        go (d ∷ ds) e = refl

    next_length : length (predict_ranked (number_at at.steps) g front.rule (x g t sentence w at ready r front) (R g t sentence w at ready r front)) ≡ at.to - at.from - 1 + daughters_in t (8 * r)
    next_length = omega (arith, predict_length (number_at at.steps) g front.rule (x g t sentence w at ready r front) (R g t sentence w at ready r front), others_length g t sentence w at ready r front, cells.daughters)

    fits_left : (b : Bool) → opens t sentence at r ≡ b → (if ltb at.left (at.to - at.from + daughters_in t (8 * r)) then false else true) ≡ b
    fits_left b o =
        sym (ap (λ (c : Bool). if c then hears (word_in t (8 * r)) sentence at.read else if ltb at.left (at.to - at.from + daughters_in t (8 * r)) then false else true) (ne_eqb (daughters_in t (8 * r)) 0 daughters))
        ∙ o

    pub open_fits : opens t sentence at r ≡ true → at.to - at.from + daughters_in t (8 * r) ≤ at.left
    open_fits o = go (ltb at.left (at.to - at.from + daughters_in t (8 * r))) refl (fits_left true o)
      where
        go : (b : Bool) → ltb at.left (at.to - at.from + daughters_in t (8 * r)) ≡ b → (if b then false else true) ≡ true → at.to - at.from + daughters_in t (8 * r) ≤ at.left
        go true e d = not_both (sym d)
        go false e d = ltb-false at.left (at.to - at.from + daughters_in t (8 * r)) e

    pub long_says : opens t sentence at r ≡ false → StepSays g t sentence w w at r (Err Long)
    long_says o =
        record {
          kept = refl;
          below = refl;
          says = (
            record { queue = predict_ranked (number_at at.steps) g front.rule (x g t sentence w at ready r front) (R g t sentence w at ready r front); words = drop at.read sentence },
            predicts g t sentence w at ready r front nonlexical,
            omega (arith, next_length, front.predicted, too_long),
          );
        }
      where
        too_long : at.left < at.to - at.from + daughters_in t (8 * r)
        too_long = go (ltb at.left (at.to - at.from + daughters_in t (8 * r))) refl (fits_left false o)
          where
            go : (b : Bool) → ltb at.left (at.to - at.from + daughters_in t (8 * r)) ≡ b → (if b then false else true) ≡ false → at.left < at.to - at.from + daughters_in t (8 * r)
            go true e d = ltb-true at.left (at.to - at.from + daughters_in t (8 * r)) e
            go false e d = not_both d

    -- a step is left for it
    pub step_left : at.to - at.from + daughters_in t (8 * r) ≤ at.left → at.steps < 96
    step_left fits = omega (arith, fits, ready.few, front.predicted)

    pub few_daughters : length front.rule.daughters ≤ 3
    few_daughters = (ready.well.ranges r front.rule front.rule_is).daughters_few

    abbrev pub expands : at.to - at.from + daughters_in t (8 * r) ≤ at.left → Expands g t r (made_at at.steps) w at.from at.to
    expands fits =
        record {
          well = ready.well;
          compiled = ready.compiled;
          held = ready.held;
          predicted = front.predicted;
          rule = front.rule;
          rule_is = front.rule_is;
          nonlexical = nonlexical;
          of_front = front.of_front;
          words = drop at.read sentence;
          reached = ready.reached;
          few = omega (arith, fits, cells.daughters, ready.grown, ready.few, few_daughters);
          numbered = ready.numbered;
          small = omega (arith, ready.few);
          room_behind = omega (arith, ready.room, ready.few, ready.fits, front.predicted);
        }

    pub expand_says : (fits : at.to - at.from + daughters_in t (8 * r) ≤ at.left) (w' : List ℕ)
        → NextQueue (map number_of (expanded_queue g front.rule (made_at at.steps) w at.from at.to)) w w' at.to (at.to + (at.to - at.from - 1 + length front.rule.daughters))
        → StepSays g t sentence w w' at r (Ok (ahead t at r))
    expand_says fits w' next =
        leads_to at.read (predict_ranked (number_at at.steps) g front.rule (x g t sentence w at ready r front) (R g t sentence w at ready r front)) (predicts g t sentence w at ready r front nonlexical)
        ((let y : at.read ≡ at.read + 0 = omega arith in y) ∙ ap (λ (b : Bool). at.read + (if b then taken (word_in t (8 * r)) else 0)) (sym (ne_eqb (daughters_in t (8 * r)) 0 daughters)))
        next_length fits ready.known w'
        (subst (λ (n : ℕ). NextQueue (map number_of (predict_ranked (number_at at.steps) g front.rule (x g t sentence w at ready r front) (R g t sentence w at ready r front))) w w' at.to (at.to + (at.to - at.from - 1 + n))) (sym cells.daughters) next)

-- a rule number that does not apply: there is no such rule, no prediction, or a rule of another category
module _ (g : Grammar) (t sentence w : List ℕ) (at : Standing) (ready : Ready g t sentence w at) (r : ℕ) where
  halts : (n : ℕ) → step_ranked (number_at at.steps) g (state_in g sentence w at) r ≡ stops n → StepSays g t sentence w w at r (Err (Refused n))
  halts n e = record { kept = refl; below = refl; says = e }

  pub no_rule : rule_at g r ≡ none → StepSays g t sentence w w at r (Err (Refused 13))
  no_rule e = halts 13 (ap (λ (o : Option Rule). apply_ranked (number_at at.steps) g o (queue_in g w at.from at.to) (drop at.read sentence)) e)

  module _ (rule : Rule) (is : rule_at g r ≡ some rule) where
    pub no_prediction : at.to ≤ at.from → StepSays g t sentence w w at r (Err (Refused 14))
    no_prediction h =
        halts 14
        (ap₂ (λ (o : Option Rule) (q : List (Ranked ℕ)). apply_ranked (number_at at.steps) g o q (drop at.read sentence)) is
        (empty (queue_in g w at.from at.to) (omega (arith, pending g t sentence w at ready))))
      where
        empty : (q : List (Ranked ℕ)) → length q ≡ 0 → q ≡ []
        empty [] e = refl
        empty (p ∷ q) e = absurd (omega arith)

    pub other_category : at.from < at.to → (rule.category ≡ (unpacked (get_or w at.from 0)).category → ⊥) → StepSays g t sentence w w at r (Err (Refused 15))
    other_category h k =
        halts 15
        (ap₂ (λ (o : Option Rule) (q : List (Ranked ℕ)). apply_ranked (number_at at.steps) g o q (drop at.read sentence)) is (queue_first g w at.from at.to ready.held h)
        ∙ ap (λ (b : Bool). if b then (if is_lexical rule then scan_ranked rule.word (without_front (prediction_of g (get_or w at.from 0)) (queue_in g w (at.from + 1) at.to)) (drop at.read sentence) else goes (record { queue = predict_ranked (number_at at.steps) g rule (prediction_of g (get_or w at.from 0)) (queue_in g w (at.from + 1) at.to); words = drop at.read sentence })) else stops 15)
        (ne_eqb rule.category (unpacked (get_or w at.from 0)).category k))
