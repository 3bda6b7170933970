-- The words in which the parts of the writer are promised: the given numbers as a heading, refusal 4 in pieces, and
-- what stands in each block before its check.
-- Assumes nothing.
use Rattle.std.specs.Prelude.{Bool, ◌&&◌, List, [], ◌∷◌, ◌++◌, ◌≡◌, ℕ, ◌+◌, ◌-◌, ◌*◌, ◌<◌, ◌/◌, ◌%◌, length, get_or}
use Rattle.model.specs.GrammarFile.{within, fields, records_in, byte_of, check_of}
use Rattle.model.specs.Writer.{Heading, little2, little4}
use Rattle.model.proofs.WriterFile.{content_of}
use Rattle.writer.specs.declared.given.Given.{Given}

-- the heading of the given numbers
abbrev pub heading : ℕ → ℕ → ℕ → ℕ → List ℕ → Heading
heading c s w r d = record { categories = c; start = s; words = w; rules = r; dimensions = d }

-- the heading of what is given
abbrev pub heading_given : Given → Heading
heading_given g = heading g.categories g.start g.words g.rules g.dimensions.now

-- C, W and R are in range
abbrev pub numbers_in : ℕ → ℕ → ℕ → Bool
numbers_in c w r = within 1 64 c && within 1 4096 w && within 1 256 r

-- what stands in rule block k before the zeros and the check
abbrev pub rule_content : ℕ → List ℕ → ℕ → List ℕ
rule_content rules records k = little2 k ++ (2 ∷ records_in rules k ∷ []) ++ fields records (504 * (k - 1)) 504

-- byte i of what stands in block k before the zeros and the check, and 0 after it
abbrev pub content_at : Heading → List ℕ → ℕ → ℕ → ℕ
content_at h records k i = get_or (content_of h records k) i 0

-- every block of the buffer has its content, with 0 after it
abbrev pub Filled : Heading → List ℕ → List ℕ → Type 0
Filled h records out = (p : ℕ) → p < length out → get_or out p 0 ≡ content_at h records (p / 512) (p % 512)

-- `after` is `before` with the checks of the first n blocks
pub record Checked (before after : List ℕ) (n : ℕ) : Type 0 where
  pub long : length after ≡ length before
  pub front : (k i : ℕ) → i < 508 → byte_of after k i ≡ byte_of before k i
  pub check : (k j : ℕ) → k < n → j < 4 → byte_of after k (508 + j) ≡ get_or (little4 (check_of before k)) j 0
