-- A sentence heard unclearly, by the sentences that it may be (document 02, paper 5): its trees are those of the lists of words that lie within its ranges, and
-- no tree is a tree of two of them. Proved in proofs/Heard.antt.
-- Assumes nothing.
use Rattle.std.specs.Prelude.{◌≡◌, ℕ, List, T}
use Rattle.model.specs.Grammar.{Grammar}
use Rattle.model.specs.Step.{singles}
use Rattle.model.specs.Tree.{Tree, Within, derives}
use Rattle.model.specs.Demands.{◌⇔◌}
use Rattle.singles.specs.AsBefore.{Below}

-- these words lie within the sentence's ranges, and the tree derives them
pub record Heard (g : Grammar) (sentence : List ℕ) (tree : Tree) (words : List ℕ) : Type 0 where
  pub within : Within words sentence
  pub derived : T (derives g (singles words) tree)

-- places are lent as numbers of 32 bits
abbrev pub Places : List ℕ → Type 0
Places sentence = Below 4294967296 sentence

pub record AsHeard : Type 0 where
  pub trees : (g : Grammar) (sentence : List ℕ) → Places sentence → (tree : Tree)
      → T (derives g sentence tree) ⇔ ((words : List ℕ) × Heard g sentence tree words)
  pub one : (g : Grammar) (sentence : List ℕ) → Places sentence → (tree : Tree) (words others : List ℕ)
      → Heard g sentence tree words → Heard g sentence tree others → words ≡ others
