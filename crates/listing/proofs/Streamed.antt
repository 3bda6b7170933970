-- From each entry to the next, a reader comes through the whole listing: the first entry comes after the empty list.
-- Assumes nothing.
use mathlib.Core.Path.{◌≡◌, sym, ap, ap₂, ◌∙◌}
use mathlib.Core.List.{List, [], ◌∷◌}
use Prim.Native.Nat.{ℕ}
use native.Mathlib.Omega.{arith}
use lib.Dec.{T}
use lib.ListN.{take}
use Rattle.model.specs.Grammar.{Grammar}
use Rattle.model.specs.Step.{before}
use Rattle.model.specs.Counting.{complete, listing}
use Rattle.model.proofs.Listing.{listing_lists}
use Rattle.steps.specs.declared.Standing.{Standing}
use Rattle.steps.specs.Steps.{begin}
use Rattle.walk.specs.Walking.{steps_of}
use Rattle.walk.proofs.InOrder.{keep_whole}
use Rattle.listing.specs.Stream.{entries_after, Streams}

-- no entry is empty, so that all entries come after the empty list
pub after_nothing : (g : Grammar) (sentence : List ℕ) (n : ℕ) → entries_after g sentence n [] ≡ listing g sentence n
after_nothing g sentence n = keep_whole (before []) (listing g sentence n) (λ p m. some p ((listing_lists g sentence n).sound p m).1)
  where
    some : (p : List ℕ) → T (complete g sentence p) → T (before [] p)
    some [] t = t
    some (x ∷ p) t = tt

module _ (g : Grammar) (t chain sentence : List ℕ) where
  -- what comes one after the other is the entries after the list where the walk stands
  streams_after : (w path turns : List ℕ) (at : Standing) (entries : List (List ℕ)) → Streams g t chain sentence w path turns at entries
      → entries ≡ entries_after g sentence (steps_of at) (take at.steps path)
  streams_after w path turns at [] h = sym h.3.says
  streams_after w path turns at (p ∷ entries) h =
      let c = h.4.says in
      ap₂ (λ (q : List ℕ) (l : List (List ℕ)). q ∷ l) (sym h.5)
      (streams_after h.0 h.1 h.2 h.3 entries h.6 ∙ ap (λ (n : ℕ). entries_after g sentence n (take h.3.steps h.1)) c.same_steps)
      ∙ sym c.comes

  -- from the start on, what comes one after the other is the listing
  pub stream_lists : (w path turns : List ℕ) (n : ℕ) (entries : List (List ℕ)) → Streams g t chain sentence w path turns (begin n) entries → entries ≡ listing g sentence n
  stream_lists w path turns n entries h = streams_after w path turns (begin n) entries h ∙ ap (λ (k : ℕ). entries_after g sentence k []) zero_add ∙ after_nothing g sentence n
    where
      zero_add : steps_of (begin n) ≡ n
      zero_add = omega arith
