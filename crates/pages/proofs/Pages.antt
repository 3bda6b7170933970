-- The listing as lines: a line and those after it, page by page.
-- Assumes nothing.
use Rattle.std.specs.Prelude.{Some, None}
use mathlib.Core.Path.{◌≡◌, refl, sym, ap, subst, ◌∙◌}
use mathlib.Core.List.{List, [], ◌∷◌, ◌++◌, append_assoc, append-nil}
use Prim.Native.Nat.{ℕ, ◌+◌, ◌-◌, ◌*◌, ◌<◌, ◌≤◌}
use native.Mathlib.Omega.{arith}
use lib.ListN.{length, take, length-append}
use lib.Seq.{length-take-le}
use Rattle.model.specs.Base.{each}
use Rattle.model.specs.Grammar.{Grammar}
use Rattle.model.specs.Program.{decimal, line, blank, newline}
use Rattle.steps.specs.declared.Standing.{Standing}
use Rattle.walk.specs.Walking.{Walking, steps_of}
use Rattle.walk.specs.Prefixes.{Walks}
use Rattle.listing.specs.Stream.{WalkedToEntry}
use Rattle.pages.specs.declared.Pen.{Pen}
use Rattle.pages.specs.declared.Page.{Page}
use Rattle.lines.specs.Text.{Put}
use Rattle.pages.specs.Page.{lines_after, WroteLine, FilledTo, FilledPage}
use Rattle.lines.proofs.Placed.{put_none, put_join, put_long}

-- the next entry, as a line
module _ (t chain sentence w path turns w' path' turns' : List ℕ) (pen : Pen) where
  pub next_few : (next : Standing) → WalkedToEntry t chain sentence w path turns w' path' turns' pen.at (Some next) → Walks t chain sentence w path turns pen.at
      → (next.steps ≤ length path') × (next.steps ≤ 96)
  next_few next walked walks =
      let h = (walked.of_grammar walks.grammar walks.walking).says.walking in
      (omega (arith, h.trailed.ready.few, h.trailed.long), omega (arith, h.trailed.ready.few))

  pub next_fits : (next : Standing) → WalkedToEntry t chain sentence w path turns w' path' turns' pen.at (Some next) → Walks t chain sentence w path turns pen.at
      → (room : ℕ) → pen.place + 576 < room → pen.place + 6 * length (take next.steps path') < room
  next_fits next walked walks room r =
      let few = next_few next walked walks in
      omega (arith, few.1, r, length-take-le next.steps path' few.0)

  pub says_next : (next : Standing) → WalkedToEntry t chain sentence w path turns w' path' turns' pen.at (Some next) → {before after : List ℕ} {p : ℕ}
      → Put before after pen.place (line (take next.steps path')) p
      → WroteLine t chain sentence w path turns before pen w' path' turns' after (Some (record { at = next; place = p }))
  says_next next walked put =
      record {
        of_grammar = λ g walking.
            let h = (walked.of_grammar g walking).says in
            record { walking = h.walking; same_steps = h.same_steps; put = put; lines = ap (each line) h.comes };
      }

  pub says_last : WalkedToEntry t chain sentence w path turns w' path' turns' pen.at None → (before : List ℕ)
      → WroteLine t chain sentence w path turns before pen w' path' turns' before None
  says_last walked before = record { of_grammar = λ g walking. (refl, ap (each line) (walked.of_grammar g walking).says) }

line_some : (xs : List ℕ) → 0 < length (line xs)
line_some [] = omega arith
line_some (n ∷ []) = omega (arith, length-append (decimal n) (newline ∷ []))
line_some (n ∷ m ∷ ms) = omega (arith, length-append (decimal n) (blank ∷ line (m ∷ ms)))

-- lines are written so far, for every grammar whose walk stood where the pen was
module _ (t chain sentence w₀ path₀ turns₀ before : List ℕ) (pen : Pen) where
  pub record FilledSoFar (w path turns after : List ℕ) (here : Pen) : Type 0 where
    pub of_grammar : (g : Grammar) → Walking g t chain sentence w₀ path₀ turns₀ pen.at → FilledTo g t chain sentence (take pen.at.steps path₀) before pen w path turns after here

  pub filled_none : pen.place ≤ length before → FilledSoFar w₀ path₀ turns₀ before pen
  filled_none r =
      record {
        of_grammar = λ g walking. record { walking = walking; same_steps = refl; text = []; put = put_none before pen.place r; lines = refl };
      }

  module _ (w path turns after : List ℕ) (here : Pen) (so : FilledSoFar w path turns after here) where
    pub filled_full : length after ≤ here.place + 576 → FilledPage t chain sentence w₀ path₀ turns₀ before pen w path turns after (Page.More here)
    filled_full full = record { of_grammar = λ g walking. (so.of_grammar g walking, full) }

    -- a line more
    module _ (w' path' turns' after' : List ℕ) where
      pub filled_more : (next : Pen) → WroteLine t chain sentence w path turns after here w' path' turns' after' (Some next) → FilledSoFar w' path' turns' after' next
      filled_more next wrote =
          record {
            of_grammar = λ g walking.
                let h = so.of_grammar g walking in
                let v = wrote.of_grammar g h.walking in
                let entry = take next.at.steps path' in
                record {
                  walking = v.walking;
                  same_steps = v.same_steps ∙ h.same_steps;
                  text = h.text ++ line entry;
                  put = put_join h.put v.put;
                  lines =
                      h.lines
                      ∙ ap (λ (l : List ℕ). h.text ++ l) (rw h.same_steps at v.lines)
                      ∙ sym (append_assoc h.text (line entry) (lines_after g sentence (steps_of pen.at) entry));
                };
          }

      pub filled_last : WroteLine t chain sentence w path turns after here w' path' turns' after' None
          → FilledPage t chain sentence w₀ path₀ turns₀ before pen w' path' turns' after' (Page.Last here.place)
      filled_last wrote =
          record {
            of_grammar = λ g walking.
                let h = so.of_grammar g walking in
                let v = wrote.of_grammar g h.walking in (
                  h.text,
                  subst (λ (x : List ℕ). Put before x pen.place h.text here.place) (sym v.0) h.put,
                  h.lines ∙ ap (λ (l : List ℕ). h.text ++ l) (rw h.same_steps at v.1) ∙ append-nil h.text,
                );
          }

    -- the walk of some grammar stood where the pen was
    module _ (walks : Walks t chain sentence w₀ path₀ turns₀ pen.at) where
      abbrev filled : FilledTo walks.grammar t chain sentence (take pen.at.steps path₀) before pen w path turns after here
      filled = so.of_grammar walks.grammar walks.walking

      pub filled_walks : Walks t chain sentence w path turns here.at
      filled_walks = record { grammar = walks.grammar; walking = filled.walking }

      pub filled_within : here.place ≤ length after
      filled_within = filled.put.within

      pub filled_long : length after ≡ length before
      filled_long = put_long filled.put

      module _ (w' path' turns' after' : List ℕ) where
        pub filled_less : (next : Pen) → WroteLine t chain sentence w path turns after here w' path' turns' after' (Some next) → length after' - next.place < length after - here.place
        filled_less next wrote =
            let v = wrote.of_grammar walks.grammar filled.walking in
            omega (arith, v.put.place, v.put.within, line_some (take next.at.steps path'), put_long v.put)

        pub last_long : WroteLine t chain sentence w path turns after here w' path' turns' after' None → length after' ≡ length before
        last_long wrote = ap length (wrote.of_grammar walks.grammar filled.walking).0 ∙ filled_long
