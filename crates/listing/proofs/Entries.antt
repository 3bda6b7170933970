-- From live prefix to live prefix up to the next entry: the entries after a list are the complete ones of the live prefixes after it.
-- Assumes nothing.
use Rattle.std.specs.Prelude.{if◌then◌else◌, Some, None}
use mathlib.Core.Path.{◌≡◌, refl, sym, ap, subst, ◌∙◌}
use mathlib.Core.Bool.{Bool, true, false}
use mathlib.Core.List.{List, [], ◌∷◌}
use Prim.Native.Nat.{ℕ, ◌<◌}
use lib.ListN.{length, take}
use Rattle.model.specs.Base.{keep}
use Rattle.model.specs.Grammar.{Grammar}
use Rattle.model.specs.Step.{before}
use Rattle.model.specs.Trace.{no_node}
use Rattle.model.specs.Counting.{live, complete}
use Rattle.ranking.specs.Ranks.{rank_recognizer, start_ranked}
use Rattle.ranking.specs.Numbered.{plain}
use Rattle.steps.specs.declared.Standing.{Standing}
use Rattle.steps.specs.Steps.{state_in}
use Rattle.walk.specs.Rest.{live_after}
use Rattle.walk.specs.Walking.{Trailed, Walking, steps_of, at_end}
use Rattle.walk.specs.Prefixes.{SameLengths, Walks, NextLive, WalkedOn}
use Rattle.walk.proofs.Along.{along}
use Rattle.walk.proofs.Ended.{complete_at}
use Rattle.walk.proofs.Kept.{lengths_then}
use Rattle.listing.specs.Stream.{entries_after, WalkedToEntry}
use Rattle.listing.proofs.Places.{RuleList, leads_rules, lists_left, fewer_left, first_passes}

kept_by : (f : List ℕ → Bool) (x : List ℕ) (m : List (List ℕ)) (b : Bool) → f x ≡ b → keep f (x ∷ m) ≡ (if b then x ∷ keep f m else keep f m)
kept_by f x m b e = ap (λ (z : Bool). if z then x ∷ keep f m else keep f m) e

-- two tests, one after the other
keep_swap : (f h : List ℕ → Bool) (l : List (List ℕ)) → keep f (keep h l) ≡ keep h (keep f l)
keep_swap f h [] = refl
keep_swap f h (x ∷ l) = go (f x) (h x) refl refl (keep_swap f h l)
  where
    go : (b c : Bool) → f x ≡ b → h x ≡ c → keep f (keep h l) ≡ keep h (keep f l)
        → keep f (if c then x ∷ keep h l else keep h l) ≡ keep h (if b then x ∷ keep f l else keep f l)
    go true true e d s = kept_by f x (keep h l) true e ∙ ap (λ (m : List (List ℕ)). x ∷ m) s ∙ sym (kept_by h x (keep f l) true d)
    go true false e d s = s ∙ sym (kept_by h x (keep f l) false d)
    go false true e d s = kept_by f x (keep h l) false e ∙ s
    go false false e d s = s

module _ (g : Grammar) (sentence : List ℕ) (n : ℕ) where
  complete_after : (list : List ℕ) → entries_after g sentence n list ≡ keep (complete g sentence) (live_after g sentence n list)
  complete_after list = keep_swap (before list) (complete g sentence) (live g sentence n)

  -- where p is the next live prefix: it is the next entry if it is complete, and else the entries after it are those after the list
  next_among : (list p : List ℕ) (b : Bool) → complete g sentence p ≡ b → live_after g sentence n list ≡ p ∷ live_after g sentence n p
      → entries_after g sentence n list ≡ (if b then p ∷ entries_after g sentence n p else entries_after g sentence n p)
  next_among list p b e h =
      complete_after list
      ∙ ap (keep (complete g sentence)) h
      ∙ kept_by (complete g sentence) p (live_after g sentence n p) b e
      ∙ ap (λ (l : List (List ℕ)). if b then p ∷ l else l) (sym (complete_after p))

-- how many lists of rule numbers, under the node limit, are left from the one where the walk stands on
abbrev pub still_left : List ℕ → Standing → ℕ
still_left path here = lists_left (steps_of here) (take here.steps path)

walked_rules : (g : Grammar) (t chain sentence w path : List ℕ) (at : Standing) → Trailed g t chain sentence w path at → RuleList (steps_of at) (take at.steps path)
walked_rules g t chain sentence w path at trailed =
    leads_rules (rank_recognizer no_node g) (length g.rules) trailed.ready.well.rules_are.1 (steps_of at) (start_ranked g sentence) (take at.steps path) at.left
    (plain (state_in g sentence w at)) (along g t chain sentence w path at trailed)

-- fewer are left at the next live prefix
next_fewer : (g : Grammar) (t chain sentence w path turns w' path' turns' : List ℕ) (here next : Standing) → Walking g t chain sentence w path turns here
    → NextLive g t chain sentence w' path' turns' (take here.steps path) here next → still_left path' next < still_left path here
next_fewer g t chain sentence w path turns w' path' turns' here next walking coming =
    let n = steps_of here in
    let list = take here.steps path in
    let p = take next.steps path' in
    subst (λ (k : ℕ). lists_left k p < lists_left n list) (sym coming.same_steps)
    (fewer_left n list p (walked_rules g t chain sentence w path here walking.trailed)
    (subst (λ (k : ℕ). RuleList k p) coming.same_steps (walked_rules g t chain sentence w' path' next coming.walking.trailed))
    (first_passes (before list) (live g sentence n) p (live_after g sentence n p) coming.comes))

-- the walk of a grammar went from `at` to `here`, and passed no entry
pub record NoneSoFarFor (g : Grammar) (t chain sentence w₀ path₀ turns₀ : List ℕ) (at : Standing) (w path turns : List ℕ) (here : Standing) : Type 0 where
  pub walking : Walking g t chain sentence w path turns here
  pub lengths : SameLengths w₀ path₀ turns₀ w path turns
  pub same_steps : steps_of here ≡ steps_of at
  pub passed : entries_after g sentence (steps_of at) (take at.steps path₀) ≡ entries_after g sentence (steps_of at) (take here.steps path)

-- where the next live prefix comes, by its end test
module _ (g : Grammar) (t chain sentence w₀ path₀ turns₀ : List ℕ) (at : Standing) (w path turns : List ℕ) (here : Standing)
    (so : NoneSoFarFor g t chain sentence w₀ path₀ turns₀ at w path turns here) (w' path' turns' : List ℕ) (next : Standing)
    (coming : NextLive g t chain sentence w' path' turns' (take here.steps path) here next) where
  among : (b : Bool) → b ≡ at_end sentence next
      → entries_after g sentence (steps_of at) (take at.steps path₀)
      ≡ (if b then take next.steps path' ∷ entries_after g sentence (steps_of at) (take next.steps path') else entries_after g sentence (steps_of at) (take next.steps path'))
  among b e =
      so.passed
      ∙ next_among g sentence (steps_of at) (take here.steps path) (take next.steps path') b
      (complete_at g t chain sentence w' path' next coming.walking.trailed ∙ sym e)
      (rw so.same_steps at coming.comes)

module _ (t chain sentence w₀ path₀ turns₀ : List ℕ) (at : Standing) where
  pub record NoneSoFar (w path turns : List ℕ) (here : Standing) : Type 0 where
    pub of_grammar : (g : Grammar) → Walking g t chain sentence w₀ path₀ turns₀ at → NoneSoFarFor g t chain sentence w₀ path₀ turns₀ at w path turns here

  pub none_begins : NoneSoFar w₀ path₀ turns₀ at
  none_begins = record { of_grammar = λ g walking. record { walking = walking; lengths = record { kept = refl; path_kept = refl; turns_kept = refl }; same_steps = refl; passed = refl } }

  module _ (w path turns : List ℕ) (here : Standing) (so : NoneSoFar w path turns here) where
    pub none_walks : Walks t chain sentence w₀ path₀ turns₀ at → Walks t chain sentence w path turns here
    none_walks walks = record { grammar = walks.grammar; walking = (so.of_grammar walks.grammar walks.walking).walking }

    module _ (w' path' turns' : List ℕ) where
      pub none_ends : WalkedOn t chain sentence w path turns w' path' turns' here None → WalkedToEntry t chain sentence w₀ path₀ turns₀ w' path' turns' at None
      none_ends walked =
          record {
            of_grammar = λ g walking.
                let h = so.of_grammar g walking in
                let f = walked.of_grammar g h.walking in
                record {
                  lengths = lengths_then w₀ path₀ turns₀ w path turns w' path' turns' h.lengths f.lengths;
                  says =
                      h.passed
                      ∙ ap (λ (n : ℕ). entries_after g sentence n (take here.steps path)) (sym h.same_steps)
                      ∙ complete_after g sentence (steps_of here) (take here.steps path)
                      ∙ ap (keep (complete g sentence)) f.says;
                };
          }

      module _ (next : Standing) (walked : WalkedOn t chain sentence w path turns w' path' turns' here (Some next)) where
        pub none_meets : true ≡ at_end sentence next → WalkedToEntry t chain sentence w₀ path₀ turns₀ w' path' turns' at (Some next)
        none_meets e =
            record {
              of_grammar = λ g walking.
                  let h = so.of_grammar g walking in
                  let f = walked.of_grammar g h.walking in
                  record {
                    lengths = lengths_then w₀ path₀ turns₀ w path turns w' path' turns' h.lengths f.lengths;
                    says =
                        record {
                          walking = f.says.walking;
                          same_steps = f.says.same_steps ∙ h.same_steps;
                          comes = among g t chain sentence w₀ path₀ turns₀ at w path turns here h w' path' turns' next f.says true e;
                        };
                  };
            }

        pub none_passes : false ≡ at_end sentence next → NoneSoFar w' path' turns' next
        none_passes e =
            record {
              of_grammar = λ g walking.
                  let h = so.of_grammar g walking in
                  let f = walked.of_grammar g h.walking in
                  record {
                    walking = f.says.walking;
                    lengths = lengths_then w₀ path₀ turns₀ w path turns w' path' turns' h.lengths f.lengths;
                    same_steps = f.says.same_steps ∙ h.same_steps;
                    passed = among g t chain sentence w₀ path₀ turns₀ at w path turns here h w' path' turns' next f.says false e;
                  };
            }

        pub fewer : Walks t chain sentence w₀ path₀ turns₀ at → still_left path' next < still_left path here
        fewer walks =
            let m = none_walks walks in
            next_fewer m.grammar t chain sentence w path turns w' path' turns' here next m.walking (walked.of_grammar m.grammar m.walking).says
