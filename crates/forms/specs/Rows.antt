-- A form as a row of 64 bytes: 8 cells of 8. Cell 0 is the head's: its features in bytes 0 to 5, byte 6 is 1 if the form is lexical, byte 7 says how
-- many chains move. Cells 1 to 7 are the moving chains'. A byte past the features is 0.
-- Assumes nothing.
use Rattle.std.specs.Prelude.{◌≡◌, Bool, true, false, ◌||◌, not, List, [], ◌∷◌, map, ℕ, zero, suc, ◌+◌, ◌-◌, ◌*◌, ◌≤◌, ◌<◌, ◌/◌, ◌%◌, ltb, leb, eqb, length, get_or, drop, if◌then◌else◌}
use Rattle.std.specs.Prelude as std
use Rattle.std.proofs.Math.Option.{Option, none, some}
use Rattle.model.specs.Base.{numbers_from}
use Rattle.minimalist.specs.Lexicon.{is_licensee}
use Rattle.minimalist.specs.Schemes.{Form, Instance, left_out, merge_scheme, move_scheme}
use Rattle.forms.specs.declared.merges.MergeScheme.{MergeScheme}
use Rattle.forms.specs.declared.merges.MergeScheme.TheVariants.{First, Second, Third}
use Rattle.forms.specs.declared.merges.Merged.{Merged}
use Rattle.forms.specs.declared.moves.MoveScheme.{MoveScheme}
use Rattle.forms.specs.declared.moves.MoveScheme.TheVariants.{Fourth, Fifth}
use Rattle.forms.specs.declared.moves.Moved.{Moved}

abbrev pub flag : Bool → ℕ
flag true = 1
flag false = 0

-- byte i of the head's cell, of moving chain k, of cell k; byte p of the row
abbrev pub head_byte : Form → ℕ → ℕ
head_byte a i = if ltb i 6 then get_or a.head i 0 else (if eqb i 6 then flag a.lexical else length a.moving)

abbrev pub chain_byte : Form → ℕ → ℕ → ℕ
chain_byte a k i = get_or (get_or a.moving k []) i 0

abbrev pub cell_byte : Form → ℕ → ℕ → ℕ
cell_byte a zero i = head_byte a i
cell_byte a (suc k) i = chain_byte a k i

abbrev pub row_byte : Form → ℕ → ℕ
row_byte a p = cell_byte a (p / 8) (p % 8)

unfoldable pub row_of : Form → List ℕ
row_of a = map (row_byte a) (numbers_from 0 64)

-- a form that a row can hold: at most 7 moving chains, and at most 6 features in a chain, none of them 0
abbrev pub NonZero : List ℕ → Type 0
NonZero l = (i : ℕ) → i < length l → get_or l i 0 ≡ 0 → ⊥

pub record Small (a : Form) : Type 0 where
  pub head_few : length a.head ≤ 6
  pub head_set : NonZero a.head
  pub moving_few : length a.moving ≤ 7
  pub chain_few : (k : ℕ) → length (get_or a.moving k []) ≤ 6
  pub chain_set : (k : ℕ) → NonZero (get_or a.moving k [])

-- byte p of the row of an entry's form: its n features, and that it is lexical; and of the form of one feature
abbrev pub entry_byte : List ℕ → ℕ → ℕ → ℕ
entry_byte six n p = if ltb p n then get_or six p 0 else (if eqb p 6 then 1 else 0)

abbrev pub start_byte : ℕ → Bool → ℕ → ℕ
start_byte start x p = if eqb p 0 then start else (if eqb p 6 then flag x else 0)

-- the first bytes of n moving chains from chain k on; whether m is among bytes; and what is wrong with moving chains by their first bytes
abbrev pub firsts_in : List ℕ → ℕ → ℕ → List ℕ
firsts_in row k n = map (λ j. get_or row (8 * (j + 1)) 0) (numbers_from k n)

abbrev pub any_same : ℕ → List ℕ → Bool
any_same m [] = false
any_same m (x ∷ xs) = eqb m x || any_same m xs

abbrev pub wrong_firsts : List ℕ → Bool
wrong_firsts [] = false
wrong_firsts (m ∷ ms) = not (is_licensee m) || (any_same m ms || wrong_firsts ms)

-- what the answer says of a row: whether its form is left out
abbrev pub SaysLeftOut : List ℕ → Bool → Type 0
SaysLeftOut row r = (a : Form) → Small a → row ≡ row_of a → r ≡ left_out a

-- Bytes of the row of a merge, from the rows of its two sides. Byte p of a head's cell without its first feature, where n chains move; byte x of cell k
-- as it goes on (cell 0 is what is left of the head); byte p, where i and j chains move and those of the second side go on from cell `from` on.
abbrev pub rest_byte : List ℕ → ℕ → ℕ → ℕ
rest_byte a n p = if ltb p 5 then get_or a (p + 1) 0 else (if eqb p 7 then n % 256 else 0)

abbrev pub going_byte : List ℕ → ℕ → ℕ → ℕ
going_byte b k x = if ltb 0 k then get_or b (8 * k + x) 0 else (if ltb x 5 then get_or b (x + 1) 0 else 0)

abbrev pub late_byte : List ℕ → ℕ → ℕ → ℕ → ℕ
late_byte b j k x = if leb k j then going_byte b k x else 0

abbrev pub merge_byte : List ℕ → List ℕ → ℕ → ℕ → ℕ → ℕ → ℕ
merge_byte a b i j from p =
    if ltb p 8 then rest_byte a (i + j + 1 - from) p else (if leb (p / 8) i then get_or a p 0 else late_byte b j (p / 8 - i - 1 + from) (p % 8))

-- a row filled by a function of the place
abbrev pub FilledBy : (ℕ → ℕ) → List ℕ → Type 0
FilledBy f row = (length row ≡ 64) × ((p : ℕ) → p < 64 → get_or row p 0 ≡ f p)

-- the scheme of a merge: the first two where nothing is left of the second head
abbrev pub merge_number : Bool → List ℕ → MergeScheme
merge_number true [] = First
merge_number false [] = Second
merge_number x (f ∷ β) = Third

-- the scheme of a number: 1 is the first, 3 the third, and every other number the second
abbrev pub merge_numbered : ℕ → MergeScheme
merge_numbered n = if eqb n 3 then Third else (if eqb n 1 then First else Second)

-- what a merge of rows answers: its scheme, with the row of its category, if there is one
abbrev pub MergeIs : Form → Form → Option Instance → std.Option Merged → Type 0
MergeIs a b none r = r ≡ std.None
MergeIs a b (some s) r = r ≡ std.Some (record { scheme = merge_number a.lexical (drop 1 b.head); row = row_of s.result })

abbrev pub SaysMerge : List ℕ → List ℕ → std.Option Merged → Type 0
SaysMerge x y r =
    (a b : Form) → Small a → Small b → length a.moving + length b.moving ≤ 6 → x ≡ row_of a → y ≡ row_of b → MergeIs a b (merge_scheme a b) r

-- Moves. The place of m among bytes, and of the first chain that begins with m; how many there are if there is none
abbrev pub place_in : ℕ → List ℕ → ℕ
place_in m [] = 0
place_in m (x ∷ xs) = if eqb m x then 0 else suc (place_in m xs)

-- byte p of chain p / 8 - 1 of a move of chain t: where it ends the chains after it come forward, else it loses its first feature
abbrev pub land_byte : List ℕ → ℕ → ℕ → ℕ
land_byte a t p = if ltb (p / 8 - 1) t then get_or a p 0 else get_or a (p + 8) 0

abbrev pub stay_byte : List ℕ → ℕ → ℕ → ℕ
stay_byte a t p = if eqb (p / 8 - 1) t then (if ltb (p % 8) 5 then get_or a (p + 1) 0 else 0) else get_or a p 0

abbrev pub move_byte : List ℕ → ℕ → ℕ → MoveScheme → ℕ → ℕ
move_byte a n t Fourth p = if ltb p 8 then rest_byte a (n - 1) p else land_byte a t p
move_byte a n t Fifth p = if ltb p 8 then rest_byte a n p else stay_byte a t p

-- the scheme and the number, from 1 on, of the chain in place t, which moves; with the row of the category
abbrev pub move_code : ℕ → List ℕ → List ℕ → Moved
move_code t [] row = record { scheme = Fourth; chain = t + 1; row = row }
move_code t (m ∷ []) row = record { scheme = Fourth; chain = t + 1; row = row }
move_code t (m ∷ f ∷ β) row = record { scheme = Fifth; chain = t + 1; row = row }

-- the scheme of a number: 4 is the fourth, and every other number the fifth
abbrev pub move_numbered : ℕ → MoveScheme
move_numbered n = if eqb n 4 then Fourth else Fifth

-- the place of the chain that moves
abbrev pub mover_of : Form → ℕ
mover_of a = place_in (get_or a.head 0 0 + 16) (map (λ c. get_or c 0 0) a.moving)

abbrev pub MoveIs : Form → Option Instance → std.Option Moved → Type 0
MoveIs a none r = r ≡ std.None
MoveIs a (some s) r = r ≡ std.Some (move_code (mover_of a) (get_or a.moving (mover_of a) []) (row_of s.result))

abbrev pub SaysMove : List ℕ → std.Option Moved → Type 0
SaysMove x r = (a : Form) → Small a → x ≡ row_of a → MoveIs a (move_scheme a) r
