-- Pages of the text: lines that are put behind each other at the front of a buffer, and what is left of the text after them.
-- Assumes nothing.
use Rattle.std.specs.Prelude.{if◌then◌else◌, Err, Ok, Option as Maybe, Some, None, is_some}
use mathlib.Core.Path.{◌≡◌, refl, sym, ap, ap₂, subst, ◌∙◌}
use mathlib.Core.Bool.{Bool}
use mathlib.Core.List.{List, [], ◌∷◌, ◌++◌, append_assoc, append-nil}
use mathlib.Core.Option.{Option, none, some}
use Prim.Native.Nat.{ℕ, ◌+◌, ◌<◌}
use native.Mathlib.Omega.{arith}
use lib.ListN.{length, take, drop, length-append}
use lib.Seq.{sets-eq, take_at, length-take-le}
use Rattle.model.specs.declared.Refusal.{Refusal}
use Rattle.model.specs.declared.Counts.{Counts}
use Rattle.model.specs.Base.{each, ◌or_else◌}
use Rattle.model.specs.Verdict.{refuse_if, count_verdict, CountVerdict, counts}
use Rattle.model.specs.Grammar.{Grammar}
use Rattle.model.specs.GrammarFile.{grammar_refusal, grammar_of, start_of}
use Rattle.model.specs.Trace.{sentence_refusal}
use Rattle.model.specs.Counting.{count, effort, listing, limits_refusal, effort_refusal}
use Rattle.model.specs.Program.{line, printed, program_limit, limit_in}
use Rattle.model.proofs.Tests.{first_of, rest_of}
use Rattle.model.proofs.WellFormed.{accepted_well}
use Rattle.ranks.specs.Held.{FirstQueue}
use Rattle.steps.specs.declared.Standing.{Standing}
use Rattle.steps.specs.Steps.{begin}
use Rattle.steps.proofs.Begin.{ready_begin}
use Rattle.walk.specs.declared.prefixes.Walk.{Walk}
use Rattle.walk.specs.Turns.{NoTurns}
use Rattle.walk.specs.Walking.{Walking, steps_of}
use Rattle.walk.specs.Prefixes.{Walks}
use Rattle.walk.proofs.Start.{walking_begin}
use Rattle.analyses.proofs.Limits.{ranges}
use Rattle.listing.proofs.Streamed.{after_nothing}
use Rattle.lines.specs.Text.{Put, verdict_line}
use Rattle.lines.proofs.Placed.{put_long, put_none, put_join}
use Rattle.pages.specs.declared.Pen.{Pen}
use Rattle.pages.specs.declared.Page.{Page}
use Rattle.pages.specs.Page.{lines_after, FilledPage}
use Rattle.report.specs.Whole.{words_in, WordsRead, tests_of, refusal_of, text_by, text_of}
use Rattle.report.specs.declared.program.Rest.{Rest}
use Rattle.report.specs.declared.program.Text.{Text}
use Rattle.report.specs.Printing.{left_in, left_of, to_come, GoesOn, PageOf, PutFrom, MayGoOn, PutPage, NextPage, TablesOf, Begun, CountedPage, RefusedPage, FirstPage}

-- what is put at the front of a buffer stands there
put_front : {before after l : List ℕ} {r : ℕ} → Put before after 0 l r → take r after ≡ l
put_front {before} {after} {l} {r} w =
    ap (take r) (w.written ∙ sets-eq l before 0 (omega (arith, w.place, w.within, put_long w)))
    ∙ take_at l (drop (0 + length l) before) r (omega (arith, w.place))

none_some : {A : Type 0} {x : A} → ◌≡◌ {A = Maybe A} None (Some x) → ⊥
none_some e = cc

some_is : {A : Type 0} {x y : A} → Some x ≡ Some y → x ≡ y
some_is e = cc

module _ (g : Grammar) (sentence : List ℕ) (n : ℕ) where
  left_none : (text : Text) → text.rest ≡ None → left_of g sentence n text ≡ []
  left_none text e = ap (left_in g sentence n) e

  -- the last page
  pub page_whole : {before after l to_print : List ℕ} {p : ℕ} → Put before after 0 l p → to_print ≡ l → PageOf g sentence n to_print after (record { end = p; rest = None })
  page_whole {before} {after} {l} {to_print} {p} put e =
      record {
        within = put.within;
        joined = e ∙ sym (ap (λ (x : List ℕ). x ++ []) (put_front put) ∙ append-nil l);
        goes_on = λ rest t. absurd (none_some t);
        not_empty = λ rest t. absurd (none_some t);
      }

  -- a page that begins with a text and goes on with lines of what is left
  pub page_after : {before between after first to_print : List ℕ} {place : ℕ} {rest : Rest} {next : Text} → Put before between 0 first place
      → PutFrom g sentence n rest place between after next → to_print ≡ first ++ left_in g sentence n (Some rest) → PageOf g sentence n to_print after next
  page_after {before} {between} {after} {first} {to_print} {place} {rest} {next} put from e =
      let whole = put_join put from.put in
      record {
        within = whole.within;
        joined =
            e
            ∙ ap (λ (x : List ℕ). first ++ x) from.left
            ∙ sym (append_assoc first from.lines (left_of g sentence n next))
            ∙ sym (ap (λ (x : List ℕ). x ++ left_of g sentence n next) (put_front whole));
        goes_on = from.goes_on;
        not_empty = λ more t. omega (arith, whole.place, length-append first from.lines, from.not_empty more t);
      }

  abbrev come : Maybe Rest → ℕ
  come o = length (left_in g sentence n o) + (if is_some o then 1 else 0)

  -- after each page less is to come
  pub page_less : (text : Text) {rest : Rest} (next : Text) {out : List ℕ} → text.rest ≡ Some rest → PageOf g sentence n (left_in g sentence n (Some rest)) out next
      → to_come g sentence n next < to_come g sentence n text
  page_less text {rest} next {out} m page = go next.rest refl
    where
      here : to_come g sentence n text ≡ length (left_in g sentence n (Some rest)) + 1
      here = ap come m

      go : (o : Maybe Rest) → next.rest ≡ o → to_come g sentence n next < to_come g sentence n text
      go (Some more) e =
          omega (arith, here, ap come e, page.not_empty more e, ap length page.joined, ap (λ (o : Maybe Rest). length (left_in g sentence n o)) e, length-append (take next.end out) (left_of g sentence n next), length-take-le next.end out page.within)
      go None e = omega (arith, here, ap come e)

-- a page of lines alone
pub next_is : {rest : Rest} {next : Text} {before after : List ℕ} → PutPage rest 0 before after next → NextPage rest after next
next_is {rest} {next} {before} {after} put =
    record { of_grammar = λ g sentence n on. page_after g sentence n (put_none before 0 (omega arith)) (put.of_grammar g sentence n on) refl }

-- the walk stands there
pub walks_here : (rest : Rest) (words : List ℕ) → words ≡ take rest.sentence.spoken rest.sentence.words → MayGoOn rest
    → Walks rest.tables.rules rest.tables.chain words rest.walk.queues rest.walk.path rest.walk.turns rest.at
walks_here rest words front may =
    let on = may.goes_on in
    record {
      grammar = may.grammar;
      walking = subst (λ (s : List ℕ). Walking may.grammar rest.tables.rules rest.tables.chain s rest.walk.queues rest.walk.path rest.walk.turns rest.at) (sym (front ∙ on.sentence_is)) on.walking;
    }

-- what the answer of `fill` says, where it goes on
module _ (rest : Rest) (place : ℕ) (before : List ℕ) (walk : Walk) (after words : List ℕ) (front : words ≡ take rest.sentence.spoken rest.sentence.words) where
  abbrev pen : Pen
  pen = record { at = rest.at; place = place }

  abbrev Fills : List ℕ → Page → Type 0
  Fills s page = FilledPage rest.tables.rules rest.tables.chain s rest.walk.queues rest.walk.path rest.walk.turns before pen walk.queues walk.path walk.turns after page

  pub put_more : (next : Pen) → Fills words (Page.More next) → place + 576 < length before
      → PutPage rest place before after (record { end = next.place; rest = Some (record { tables = rest.tables; sentence = rest.sentence; walk = walk; at = next.at }) })
  put_more next filled room =
      record {
        of_grammar = λ g sentence n on.
            let f = subst (λ (s : List ℕ). Fills s (Page.More next)) (front ∙ on.sentence_is) filled in
            let v = f.of_grammar g on.walking in
            let steps = on.steps_are in
            record {
              lines = v.0.text;
              put = v.0.put;
              left = subst (λ (k : ℕ). lines_after g sentence k (take rest.at.steps rest.walk.path) ≡ v.0.text ++ lines_after g sentence k (take next.at.steps walk.path)) steps v.0.lines;
              goes_on = λ more t.
                  let e = some_is t in
                  subst (GoesOn g sentence n) e (record { sentence_is = on.sentence_is; walking = v.0.walking; steps_are = v.0.same_steps ∙ steps });
              not_empty = λ more t. omega (arith, v.1, v.0.put.place, put_long v.0.put, room);
            };
      }

  -- and where it ends
  pub put_last : (p : ℕ) → Fills words (Page.Last p) → PutPage rest place before after (record { end = p; rest = None })
  put_last p filled =
      record {
        of_grammar = λ g sentence n on.
            let f = subst (λ (s : List ℕ). Fills s (Page.Last p)) (front ∙ on.sentence_is) filled in
            let v = f.of_grammar g on.walking in
            let steps = on.steps_are in
            record {
              lines = v.0;
              put = v.1;
              left = subst (λ (k : ℕ). lines_after g sentence k (take rest.at.steps rest.walk.path) ≡ v.0) steps v.2 ∙ sym (append-nil v.0);
              goes_on = λ more t. absurd (none_some t);
              not_empty = λ more t. absurd (none_some t);
            };
      }

-- where the tables are the file's and the array begins with the first queue, the walk begins at the empty list
pub walk_begins : (file : List ℕ) → grammar_refusal file ≡ none → (t chain sentence w path turns : List ℕ) (n a : ℕ) (at : Standing) → TablesOf file t chain
    → a ≡ start_of file → FirstQueue a w → length path ≡ 96 → NoTurns turns → limits_refusal n program_limit ≡ none → at ≡ begin n
    → Walking (grammar_of file) t chain sentence w path turns at × (steps_of at ≡ n)
walk_begins file accepted t chain sentence w path turns n a at tables e first long turnless limits f =
    let g = grammar_of file in
    let r = ranges n program_limit limits in
    let q : FirstQueue g.start w = subst (λ (b : ℕ). FirstQueue b w) e first in
    let ready = ready_begin g (accepted_well file accepted) w q t sentence n tables.compiled r.nodes_some r.nodes_few in
    subst (λ (s : Standing). Walking g t chain sentence w path turns s × (steps_of s ≡ n)) (sym f) (walking_begin g t chain sentence w path turns n ready tables.chained q long turnless, omega arith)

same_counts : (x y a b : ℕ) → ◌≡◌ {A = CountVerdict} (Ok (counts x y)) (Ok (counts a b)) → counts x y ≡ counts a b
same_counts x y a b e = cc

-- what is printed where the verdict has a count, and where it is a refusal
module _ (g : Grammar) (sentence : List ℕ) (n : ℕ) where
  pub counted_text : (o : Option Refusal) (a b : ℕ) → count_verdict o (count g sentence n) (effort g sentence n) ≡ Ok (counts a b)
      → text_by o g sentence n ≡ verdict_line (Ok (counts a b)) ++ lines_after g sentence n []
  counted_text none a b e =
      let k = same_counts _ _ _ _ e in
      let c : count g sentence n ≡ a = ap (λ (x : Counts). x.count) k in
      let d : effort g sentence n ≡ b = ap (λ (x : Counts). x.effort) k in
      ap₂ (λ (x y : ℕ). line (x ∷ y ∷ []) ++ each line (listing g sentence n)) c d
      ∙ ap (λ (l : List (List ℕ)). line (a ∷ b ∷ []) ++ each line l) (sym (after_nothing g sentence n))
  counted_text (some r) a b e = let z : ◌≡◌ {A = ℕ} 0 1 = cc in absurd (omega arith)

  pub refused_text : (o : Option Refusal) (r : Refusal) → count_verdict o (count g sentence n) (effort g sentence n) ≡ Err r
      → text_by o g sentence n ≡ verdict_line (Err r)
  refused_text none r e = let z : ◌≡◌ {A = ℕ} 0 1 = cc in absurd (omega arith)
  refused_text (some x) r e = let f : x ≡ r = cc in ap (λ (y : Refusal). printed (some y) []) f

-- the first page of an accepted grammar: v is the count's verdict
module _ (file words : List ℕ) (spoken n : ℕ) (v : CountVerdict) (before between : List ℕ) (place : ℕ) (put : Put before between 0 (verdict_line v) place)
    (front : List ℕ) (is_front : front ≡ take spoken words)
    (says : v ≡ count_verdict (effort_refusal (grammar_of file) front n program_limit) (count (grammar_of file) front n) (effort (grammar_of file) front n)) where
  abbrev g : Grammar
  g = grammar_of file

  abbrev sentence : List ℕ
  sentence = take spoken words

  abbrev cost : Option Refusal
  cost = effort_refusal g sentence n program_limit

  so : v ≡ count_verdict cost (count g sentence n) (effort g sentence n)
  so = subst (λ (s : List ℕ). v ≡ count_verdict (effort_refusal g s n program_limit) (count g s n) (effort g s n)) is_front says

  pub counted_page : {a b : ℕ} {after : List ℕ} {rest : Rest} {next : Text} → v ≡ Ok (counts a b) → Begun file words spoken n rest → PutPage rest place between after next
      → CountedPage file words spoken n after next
  counted_page {a} {b} {after} {rest} {next} e begun more =
      page_after g sentence n (subst (λ (x : CountVerdict). Put before between 0 (verdict_line x) place) e put) (more.of_grammar g sentence n begun.goes_on)
      (counted_text g sentence n cost a b (sym so ∙ e)
      ∙ ap (λ (l : List ℕ). line (a ∷ b ∷ []) ++ l) (sym (ap (λ (k : ℕ). lines_after g sentence n (take k rest.walk.path)) begun.at_start)))

  pub costly_page : {r : Refusal} → v ≡ Err r → CountedPage file words spoken n between (record { end = place; rest = None })
  costly_page {r} e = page_whole g sentence n (subst (λ (x : CountVerdict). Put before between 0 (verdict_line x) place) e put) (refused_text g sentence n cost r (sym so ∙ e))

-- the line of a refusal
pub refused_page : (r : Refusal) {before after : List ℕ} {place : ℕ} → Put before after 0 (verdict_line (Err r)) place → RefusedPage r after (record { end = place; rest = None })
refused_page r {before} {after} {place} put = record { within = put.within; line_is = put_front put; no_more = refl }

-- what has passed where no test before the walk refuses
pub tests_passed : (file sentence : List ℕ) (n : ℕ) (even : Bool) → tests_of file sentence n even ≡ none → (grammar_refusal file ≡ none) × (limits_refusal n program_limit ≡ none)
tests_passed file sentence n even e =
    let parity = refuse_if even (Refusal.Analysis 11 0) in
    let limits = limits_refusal n program_limit in
    let words = sentence_refusal (grammar_of file) sentence in
    let r = rest_of parity (limits or_else words) (rest_of (grammar_refusal file) (parity or_else limits or_else words) e) in
    (first_of (grammar_refusal file) (parity or_else limits or_else words) e, first_of limits words r)

-- the first page, from the answers of the tests
module _ (file bytes : List ℕ) (even : Bool) {words : List ℕ} {spoken : ℕ} (n : ℕ) (read : WordsRead bytes words spoken) (f : n ≡ limit_in bytes)
    (front : List ℕ) (is_front : front ≡ take spoken words) where
  abbrev e : take spoken words ≡ words_in bytes
  e = read.words_are

  pub first_counted : tests_of file front n even ≡ none → {after : List ℕ} {text : Text} → CountedPage file words spoken n after text
      → FirstPage file bytes even after text
  first_counted passed {after} {text} page =
      let g = grammar_of file in
      let sentence = take spoken words in
      let cost = effort_refusal g sentence n program_limit in
      let p : PageOf g sentence n (text_by (tests_of file sentence n even or_else cost) g sentence n) after text
      = subst (λ (o : Option Refusal). PageOf g sentence n (text_by (o or_else cost) g sentence n) after text) (sym (ap (λ (x : List ℕ). tests_of file x n even) (sym is_front) ∙ passed)) page in
      subst (λ (s : List ℕ). PageOf g s (limit_in bytes) (text_by (refusal_of file s (limit_in bytes) even) g s (limit_in bytes)) after text) e
      (subst (λ (m : ℕ). PageOf g sentence m (text_by (refusal_of file sentence m even) g sentence m) after text) f p)

  pub first_refused : (r : Refusal) → tests_of file front n even ≡ some r → {after : List ℕ} {text : Text} → RefusedPage r after text
      → FirstPage file bytes even after text
  first_refused r met {after} {text} page =
      let g = grammar_of file in
      let o : tests_of file (words_in bytes) (limit_in bytes) even ≡ some r = ap₂ (λ (s : List ℕ) (m : ℕ). tests_of file s m even) (sym (is_front ∙ e)) (sym f) ∙ met in
      let t : text_of file bytes even ≡ printed (some r) []
      = ap (λ (x : Option Refusal). text_by (x or_else effort_refusal g (words_in bytes) (limit_in bytes) program_limit) g (words_in bytes) (limit_in bytes)) o in
      record {
        within = page.within;
        joined = t ∙ sym (ap₂ (λ (x y : List ℕ). x ++ y) page.line_is (left_none g (words_in bytes) (limit_in bytes) text page.no_more) ∙ append-nil (printed (some r) []));
        goes_on = λ rest m. absurd (none_some (sym page.no_more ∙ m));
        not_empty = λ rest m. absurd (none_some (sym page.no_more ∙ m));
      }
