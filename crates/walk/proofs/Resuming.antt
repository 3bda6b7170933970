-- Where the walk goes on when no rule leads on from where it stands.
-- Assumes nothing.
use Rattle.std.specs.Prelude.{Ok, if◌then◌else◌, Option}
use mathlib.Core.Path.{◌≡◌, refl, sym, ap, subst, ◌∙◌}
use mathlib.Core.Logic.{◌⊎◌, inl, inr}
use mathlib.Core.Bool.{Bool}
use mathlib.Core.List.{List, []}
use Prim.Native.Nat.{ℕ, zero, suc, ◌+◌, ◌-◌, ◌/◌, ◌%◌, ◌<◌, ◌≤◌}
use native.Mathlib.Omega.{arith}
use native.Mathlib.Decide.{ℕ_discrete}
use borrow.Author.Tests.{eq-eqb, ne_eqb}
use lib.ListN.{get_or, take, set, length-set}
use lib.Seq.{take-set-le, get_or-set_same}
use Rattle.model.specs.Grammar.{Grammar}
use Rattle.model.specs.declared.RuleNumber.{RuleNumber}
use Rattle.steps.specs.declared.Standing.{Standing}
use Rattle.steps.specs.Steps.{Ready, Fronted, behind, StepSays}
use Rattle.steps.proofs.Applying.{rule_small}
use Rattle.walk.specs.Chain.{no_rule}
use Rattle.walk.specs.Named.{Names, number_of}
use Rattle.walk.specs.Turns.{turn_at, rule_of, steps_in, standing_of, SmallTurn, turn_or, found, Resumes}
use Rattle.walk.specs.Walking.{Trailed, Walking, steps_of, remaining}
use Rattle.walk.specs.Prefixes.{OpenFrom, StepFrom, MayExtend, SameLengths, ComesTo}
use Rattle.walk.proofs.Kept.{take_less, get_d_kept}
use Rattle.walk.proofs.OneStep.{next_to_try, next_passes, next_steps, back_is, leads_trailed, leads_steps, leads_comes, back_fronted, back_trailed, back_steps, back_comes, walk_ends}
use Rattle.walk.proofs.Seeking.{named_number, tried_fronted, found_open, found_small, number_is}

-- a turn tells its rule and its standing
module _ (at : Standing) (r : ℕ) (small : SmallTurn at r) where
  pub turn_rule : rule_of (turn_at at r) ≡ r
  turn_rule = omega (arith, small.rule)

  pub turn_steps : steps_in (turn_at at r) ≡ at.steps
  turn_steps = omega (arith, small.rule, small.steps)

  pub turn_standing : standing_of (turn_at at r) (steps_of at) ≡ at
  turn_standing =
      let f : turn_at at r / 65536 % 8192 ≡ at.from = omega (arith, small.rule, small.steps, small.queue.0) in
      let e : turn_at at r / 536870912 % 8192 ≡ at.to = omega (arith, small.rule, small.steps, small.queue.0, small.queue.1) in
      let n : turn_at at r / 4398046511104 ≡ at.read = omega (arith, small.rule, small.steps, small.queue.0, small.queue.1) in
      let l : steps_of at - steps_in (turn_at at r) ≡ at.left = omega (arith, turn_steps) in
      λ i. record { from = f i; to = e i; read = n i; steps = turn_steps i; left = l i }

pub small_turn : (g : Grammar) (t sentence w : List ℕ) (at : Standing) → Ready g t sentence w at → (r : ℕ) → r ≤ no_rule → SmallTurn at r
small_turn g t sentence w at ready r h =
    record {
      rule = h;
      steps = omega (arith, ready.few);
      queue = (omega (arith, ready.held.ordered, ready.room, ready.few), omega (arith, ready.room, ready.few));
      read = omega (arith, ready.heard, ready.few);
    }

-- the turns up to a place, and the rules before it, are kept
pub resumes_kept : (t chain sentence path path' turns turns' : List ℕ) (k : ℕ) (at : Standing) → take k path' ≡ take k path → take (suc k) turns' ≡ take (suc k) turns
    → Resumes t chain sentence path turns k at → Resumes t chain sentence path' turns' k at
resumes_kept t chain sentence path path' turns turns' zero at e f h = get_d_kept 1 0 turns' turns f (omega arith) ∙ h
resumes_kept t chain sentence path path' turns turns' (suc k) at e f h =
    let y : get_or path k 0 ≡ get_or path' k 0 = sym (get_d_kept (suc k) k path' path e (omega arith)) in
    let new = get_d_kept (suc (suc k)) (suc k) turns' turns f (omega arith) in
    let old = get_d_kept (suc (suc k)) k turns' turns f (omega arith) in
    let prev = behind t at (get_or path k 0) in
    let x = found t chain sentence prev (get_or chain (64 + get_or path k 0) 0) in
    subst (λ (z : ℕ). (get_or turns' (suc k) 0 ≡ turn_or (behind t at z) (found t chain sentence (behind t at z) (get_or chain (64 + z) 0)) (get_or turns' k 0)) × Resumes t chain sentence path' turns' k (behind t at z)) y
    (new ∙ h.0 ∙ ap (turn_or prev x) (sym old), resumes_kept t chain sentence path path' turns turns' k prev (take_less (suc k) k path' path e (omega arith)) (take_less (suc (suc k)) (suc k) turns' turns f (omega arith)) h.1)

-- the step of rule r, which leads on from `at`
module _ (g : Grammar) (t chain sentence w path turns : List ℕ) (at : Standing) (walking : Walking g t chain sentence w path turns at) (r : ℕ) (fronted : Fronted g w at r) where
  abbrev turn_after : ℕ
  turn_after = turn_or at (found t chain sentence at (get_or chain (64 + r) 0)) (get_or turns at.steps 0)

  abbrev path' : List ℕ
  path' = set path at.steps r

  module _ (turn : ℕ) (is : turn ≡ turn_after) where
    abbrev turns' : List ℕ
    turns' = set turns (at.steps + 1) turn

    module _ (w' : List ℕ) (next : Standing) (says : StepSays g t sentence w w' at r (Ok next)) where
      abbrev trailed : Trailed g t chain sentence w path at
      trailed = walking.trailed

      within : at.steps < 96
      within = omega (arith, trailed.ready.few, trailed.ready.fits, fronted.predicted)

      one_more : at.steps + 1 ≡ suc at.steps
      one_more = omega arith

      written : get_or turns' (suc at.steps) 0 ≡ turn_after
      written = ap (λ (i : ℕ). get_or turns' i 0) (sym one_more) ∙ get_or-set_same turns (at.steps + 1) turn 0 (omega (arith, walking.turns_long, within)) ∙ is

      as_before : take (suc at.steps) turns' ≡ take (suc at.steps) turns
      as_before = take-set-le (suc at.steps) turns (at.steps + 1) turn (omega arith)

      kept_here : Resumes t chain sentence path' turns' at.steps at
      kept_here = resumes_kept t chain sentence path path' turns turns' at.steps at (take-set-le at.steps path at.steps r (omega arith)) as_before walking.resumes

      old : get_or turns' at.steps 0 ≡ get_or turns at.steps 0
      old = get_d_kept (suc at.steps) at.steps turns' turns as_before (omega arith)

      resumes : Resumes t chain sentence path' turns' (suc at.steps) next
      resumes =
          subst (λ (y : ℕ). (get_or turns' (suc at.steps) 0 ≡ turn_or (behind t next y) (found t chain sentence (behind t next y) (get_or chain (64 + y) 0)) (get_or turns' at.steps 0)) × Resumes t chain sentence path' turns' at.steps (behind t next y))
          (sym (get_or-set_same path at.steps r 0 (omega (arith, trailed.long, within))))
          (subst (λ (s : Standing). (get_or turns' (suc at.steps) 0 ≡ turn_or s (found t chain sentence s (get_or chain (64 + r) 0)) (get_or turns' at.steps 0)) × Resumes t chain sentence path' turns' at.steps s)
          (back_is g t chain sentence w path at trailed r fronted w' next says.kept says.below says.says)
          (written ∙ ap (turn_or at (found t chain sentence at (get_or chain (64 + r) 0))) (sym old), kept_here))

      pub extends : SameLengths w path turns w' path' turns' × ComesTo g t chain sentence w' path' turns' at next (remaining g sentence w path at r)
      extends = (
        record { kept = says.kept; path_kept = length-set path at.steps r; turns_kept = length-set turns (at.steps + 1) turn },
        record {
          walking =
              record {
                trailed = leads_trailed g t chain sentence w path at trailed r fronted w' next says.kept says.below says.says;
                turns_long = length-set turns (at.steps + 1) turn ∙ walking.turns_long;
                resumes = subst (λ (k : ℕ). Resumes t chain sentence path' turns' k next) (sym (next_steps g t chain sentence w path at trailed r fronted w' next says.kept says.below says.says)) resumes;
              };
          same_steps = leads_steps g t chain sentence w path at trailed r fronted w' next says.kept says.below says.says;
          comes = leads_comes g t chain sentence w path at trailed r fronted w' next says.kept says.below says.says;
        },
      )

-- the rule after rule r whose step leads on from `at`, as code names it
module _ (t chain sentence w path turns : List ℕ) (at : Standing) (r : ℕ) (may : MayExtend t chain sentence w path turns at r) where
  pub extend_found : (after : Option RuleNumber) → Names after (get_or chain (64 + r) 0) → (x : Option RuleNumber) → Names x (found t chain sentence at (number_of after))
      → (number_of x ≡ found t chain sentence at (get_or chain (64 + r) 0)) × (number_of x ≤ no_rule)
  extend_found after named x h =
      let g = may.grammar in
      let k = may.walking.trailed in
      let try = next_to_try g t chain sentence w at k.ready k.chained r may.fronted (get_or chain (64 + r) 0) refl in
      let n = number_is g t chain sentence w at k.ready k.chained after _ named try in
      let small = found_small g t chain sentence w path at k (get_or chain (64 + r) 0) try _ refl in
      let e : number_of x ≡ found t chain sentence at (get_or chain (64 + r) 0) = named_number x _ (subst (λ (y : ℕ). Names x (found t chain sentence at y)) n h) small in
      (e, omega (arith, e, small))

-- what a turn tells: that nothing is to come; or a step to make
abbrev pub Tells : Grammar → List ℕ → List ℕ → List ℕ → List ℕ → List ℕ → List ℕ → Standing → List (List ℕ) → ℕ → Type 0
Tells g t chain sentence w path turns at coming turn =
    ((turn ≡ no_rule) × (coming ≡ []))
    ⊎ ((from : Standing) × (r : ℕ) × (turn ≡ turn_at from r) × (r < no_rule) × StepFrom g t chain sentence w path turns at coming from r)

module _ (g : Grammar) (t chain sentence w path turns : List ℕ) where
  -- seen from a standing from which the same is to come
  seen_from : (at prev : Standing) (coming before : List (List ℕ)) (turn old : ℕ) → steps_of prev ≡ steps_of at → coming ≡ before → turn ≡ old
      → Tells g t chain sentence w path turns prev before old → Tells g t chain sentence w path turns at coming turn
  seen_from at prev coming before turn old e f h (inl k) = inl (h ∙ k.0, f ∙ k.1)
  seen_from at prev coming before turn old e f h (inr (from, r, is, small, s)) =
      inr (from, r, h ∙ is, small, record { walking = s.walking; fronted = s.fronted; leads_on = s.leads_on; same_steps = s.same_steps ∙ e; comes = f ∙ s.comes })

  -- where the last of suc k steps was made from, and the first rule after its rule that leads on from there
  module _ (k : ℕ) (at : Standing) (e : at.steps ≡ suc k) (walking : Walking g t chain sentence w path turns at) where
    abbrev trailed_at : Trailed g t chain sentence w path at
    trailed_at = walking.trailed

    abbrev y : ℕ
    y = get_or path k 0

    abbrev prev : Standing
    prev = behind t at y

    abbrev after : ℕ
    after = get_or chain (64 + y) 0

    abbrev x : ℕ
    x = found t chain sentence prev after

    there : Trailed g t chain sentence w path prev
    there = back_trailed g t chain sentence w path at trailed_at k e

    both : Resumes t chain sentence path turns (suc k) at
    both = subst (λ (i : ℕ). Resumes t chain sentence path turns i at) e walking.resumes

    fewer : prev.steps ≡ k
    fewer = omega (arith, e)

    walks : Walking g t chain sentence w path turns prev
    walks = record { trailed = there; turns_long = walking.turns_long; resumes = subst (λ (i : ℕ). Resumes t chain sentence path turns i prev) (sym fewer) both.1 }

    same : steps_of prev ≡ steps_of at
    same = back_steps g t chain sentence w path at trailed_at k e

    fronted_before : Fronted g w prev y
    fronted_before = back_fronted g t chain sentence w path at trailed_at k e

    opened : OpenFrom g t sentence w path prev after x
    opened = found_open g t chain sentence w path prev there after (next_to_try g t chain sentence w prev there.ready there.chained y fronted_before after refl)

    comes : remaining g sentence w path at no_rule ≡ remaining g sentence w path prev x
    comes = back_comes g t chain sentence w path at trailed_at k e ∙ next_passes g t chain sentence w prev there.ready there.chained y fronted_before after refl path ∙ opened.comes

    tells_more : Tells g t chain sentence w path turns prev (remaining g sentence w path prev no_rule) (get_or turns k 0)
        → Tells g t chain sentence w path turns at (remaining g sentence w path at no_rule) (get_or turns (suc k) 0)
    tells_more before = go (ℕ_discrete x no_rule)
      where
        go : Dec (x ≡ no_rule) → Tells g t chain sentence w path turns at (remaining g sentence w path at no_rule) (get_or turns (suc k) 0)
        go (yes z) =
            seen_from at prev (remaining g sentence w path at no_rule) (remaining g sentence w path prev no_rule) (get_or turns (suc k) 0) (get_or turns k 0) same (comes ∙ ap (remaining g sentence w path prev) z)
            (both.0 ∙ ap (λ (b : Bool). if b then get_or turns k 0 else turn_at prev x) (eq-eqb x no_rule z)) before
        go (no z) =
            let f = tried_fronted g w prev x z opened.to_try in
            inr (prev, x, both.0 ∙ ap (λ (b : Bool). if b then get_or turns k 0 else turn_at prev x) (ne_eqb x no_rule z), rule_small g t sentence w prev there.ready x f, record { walking = walks; fronted = f; leads_on = opened.leads_on z; same_steps = same; comes = comes })

  -- what the turn for the steps made tells
  pub tells : (k : ℕ) (at : Standing) → at.steps ≡ k → Walking g t chain sentence w path turns at
      → Tells g t chain sentence w path turns at (remaining g sentence w path at no_rule) (get_or turns k 0)
  tells zero at e walking =
      inl (subst (λ (i : ℕ). Resumes t chain sentence path turns i at) e walking.resumes, walk_ends g t chain sentence w path at walking.trailed e)
  tells (suc k) at e walking = tells_more k at e walking (tells k (prev k at e walking) (fewer k at e walking) (walks k at e walking))
