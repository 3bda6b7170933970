-- The rules of the made grammar by their kinds, as rules and as records; and records one after another.
-- Assumes nothing.
use Rattle.std.specs.Prelude.{◌≡◌, Option, Some, None, true, false, List, [], ◌∷◌, ◌++◌, ℕ, suc, ◌+◌, ◌-◌, ◌*◌, ◌/◌, ◌%◌, ◌<◌, ◌≤◌, ltb, leb, eqb, length, get_or, take, if◌then◌else◌}
use Rattle.model.specs.Base.{each}
use Rattle.model.specs.Grammar.{Variable, Rule, variable, lexical, nonlexical}
use Rattle.grammar_to_file.specs.FileFor.{record_for}
use Rattle.minimalist.specs.Schemes.{singles, joined_variables}
use Rattle.made_records.specs.declared.MadeRule.{MadeRule}
use Rattle.made_records.specs.declared.MadeRule.TheVariants.{Start, Entry, Merge, Move}
use Rattle.made_records.specs.declared.Shape.{Shape}
use Rattle.made_records.specs.declared.Records.{Records}
use Rattle.forms.specs.declared.merges.MergeScheme.{MergeScheme}
use Rattle.forms.specs.declared.merges.MergeScheme.TheVariants.{First, Second, Third}
use Rattle.forms.specs.declared.moves.MoveScheme.{MoveScheme}
use Rattle.forms.specs.declared.moves.MoveScheme.TheVariants.{Fourth, Fifth}

-- the components of a merge of daughters with i and j moving chains, and of a move of chain t, from 1 on, of n
abbrev pub merge_components : MergeScheme → ℕ → ℕ → List (List Variable)
merge_components First i j = joined_variables true ∷ (singles 0 1 i ++ singles 1 1 j)
merge_components Second i j = joined_variables false ∷ (singles 0 1 i ++ singles 1 1 j)
merge_components Third i j = (variable 0 0 ∷ []) ∷ (singles 0 1 i ++ singles 1 0 (suc j))

abbrev pub move_components : MoveScheme → ℕ → ℕ → List (List Variable)
move_components Fourth n t = (variable 0 t ∷ variable 0 0 ∷ []) ∷ (singles 0 1 (t - 1) ++ singles 0 (suc t) (n - t))
move_components Fifth n t = (variable 0 0 ∷ []) ∷ singles 0 1 n

-- the rule
abbrev pub as_rule : MadeRule → Rule
as_rule (Start x) = nonlexical 0 (x.0 ∷ []) ((variable 0 0 ∷ []) ∷ [])
as_rule (Entry c w) = lexical c.0 w.0
as_rule (Merge c x y s i j) = nonlexical c.0 (x.0 ∷ y.0 ∷ []) (merge_components s i j)
as_rule (Move c x s n t) = nonlexical c.0 (x.0 ∷ []) (move_components s n t)

-- at most three chains move
abbrev pub Fits : MadeRule → Type 0
Fits (Start x) = Unit {0}
Fits (Entry c w) = Unit {0}
Fits (Merge c x y s i j) = (i ≤ 3) × (j ≤ 3)
Fits (Move c x s n t) = (n ≤ 3) × (t ≤ 3)

-- its components in bytes
abbrev pub single : ℕ → ℕ → ℕ → Shape
single low before high = record { joined = 1; head = 0; next = 0; low = low; before = before; high = high }

abbrev pub pair : ℕ → ℕ → ℕ → ℕ → ℕ → Shape
pair head next low before high = record { joined = 2; head = head; next = next; low = low; before = before; high = high }

abbrev pub merge_shape : MergeScheme → ℕ → ℕ → Shape
merge_shape First i j = pair 0 4 i 4 j
merge_shape Second i j = pair 4 0 i 4 j
merge_shape Third i j = single i 3 (j + 1)

abbrev pub move_shape : MoveScheme → ℕ → ℕ → Shape
move_shape Fourth n t = pair t 0 (t - 1) t (n - t)
move_shape Fifth n t = single n 0 0

abbrev pub shape_of : MadeRule → Shape
shape_of (Start x) = single 0 0 0
shape_of (Entry c w) = record { joined = 0; head = 0; next = 0; low = 0; before = 0; high = 0 }
shape_of (Merge c x y s i j) = merge_shape s i j
shape_of (Move c x s n t) = move_shape s n t

-- bytes 0 to 6
abbrev pub front_of : MadeRule → List ℕ
front_of (Start x) = 0 ∷ 1 ∷ x.0 ∷ 0 ∷ 0 ∷ 0 ∷ 0 ∷ []
front_of (Entry c w) = c.0 ∷ 0 ∷ 0 ∷ 0 ∷ 0 ∷ w.0 % 256 ∷ w.0 / 256 % 256 ∷ []
front_of (Merge c x y s i j) = c.0 ∷ 2 ∷ x.0 ∷ y.0 ∷ 0 ∷ 0 ∷ 0 ∷ []
front_of (Move c x s n t) = c.0 ∷ 1 ∷ x.0 ∷ 0 ∷ 0 ∷ 0 ∷ 0 ∷ []

-- the variable of component k + 1; variable v; the length of component k; byte p
abbrev pub run_code : Shape → ℕ → ℕ
run_code s k = if ltb k s.low then k + 1 else (if ltb (k - s.low) s.high then (s.before + 1 + (k - s.low)) % 256 else 0)

abbrev pub code_at : Shape → ℕ → ℕ
code_at s v = if leb s.joined v then run_code s (v - s.joined) else (if eqb v 0 then s.head else s.next)

abbrev pub size_at : Shape → ℕ → ℕ
size_at s k = if eqb k 0 then s.joined else (if leb k s.low then 1 else (if leb (k - s.low) s.high then 1 else 0))

abbrev pub record_byte : List ℕ → Shape → ℕ → ℕ
record_byte front s p = if ltb p 7 then get_or front p 0 else (if ltb p 11 then size_at s (p - 7) else (if ltb p 23 then code_at s (p - 11) else 0))

-- record k was put, by a function of the place
pub record Put (f : ℕ → ℕ) (before : List ℕ) (k : ℕ) (after : List ℕ) : Type 0 where
  pub long : length after ≡ length before
  pub new : (p : ℕ) → p < 24 → get_or after (24 * k + p) 0 ≡ f p
  pub old : (q : ℕ) → q < 24 * k → get_or after q 0 ≡ get_or before q 0

-- how many rules are told: none where there are more than 256
abbrev pub told : ℕ → Option ℕ
told n = if ltb 256 n then None else Some n

-- The rules' records stand one after another, for 256 rules at most.
pub record Held (records : Records) (rules : List Rule) : Type 0 where
  pub long : length records.bytes ≡ 6144
  pub count : records.count ≡ told (length rules)
  pub are : length rules ≤ 256 → take (24 * length rules) records.bytes ≡ each record_for rules

-- what adding rules does: whatever rules there were, these come after them
abbrev pub Adds : List Rule → Records → Records → Type 0
Adds new before after = (rules : List Rule) → Held before rules → Held after (rules ++ new)

abbrev pub AddsRule : MadeRule → Records → Records → Type 0
AddsRule rule before after = Fits rule → Adds (as_rule rule ∷ []) before after
