-- The trees of a sentence heard unclearly are those of the sentences that it may be.
-- Assumes nothing.
use mathlib.Core.Path.{◌≡◌, sym, subst, ◌∙◌}
use mathlib.Core.List.{List, []}
use Prim.Native.Nat.{ℕ, ◌<◌}
use native.Mathlib.Omega.{arith}
use native.Mathlib.Decide.{dec_lt}
use lib.Dec.{T}
use lib.ListN.{length, get_or, get_or-eq_default}
use Rattle.model.specs.Grammar.{Grammar}
use Rattle.model.specs.Step.{highest, singles}
use Rattle.model.specs.Tree.{Tree, Within, yield, has_root, spells, derives}
use Rattle.model.proofs.Tests.{and_l, and_r, and_both, list_same, same_list_lem}
use Rattle.model.proofs.Fitting.{fitting}
use Rattle.singles.specs.AsBefore.{Words}
use Rattle.singles.specs.Heard.{Heard, Places, AsHeard}
use Rattle.singles.proofs.Sentences.{string_same}

-- a word within the range of a 32-bit place is a number of 16 bits
within_words : (words sentence : List ℕ) → Places sentence → Within words sentence → Words words
within_words words sentence h w k = go (dec_lt k (length sentence))
  where
    go : Dec (k < length sentence) → get_or words k 0 < 65536
    go (yes l) =
        let (low, high) = w.between k l in
        let top : highest (get_or sentence k 0) < 65536 = omega (arith, h k) in
        omega (arith, high, top)
    go (no l) = rw (get_or-eq_default words 0 {n = k} (omega (arith, w.as_long))) (omega arith)

module _ (g : Grammar) (sentence : List ℕ) (h : Places sentence) (tree : Tree) where
  abbrev said : List ℕ
  said = get_or (yield g tree) 0 []

  there : T (derives g sentence tree) → (words : List ℕ) × Heard g sentence tree words
  there t =
      let rooted = and_l (has_root g tree g.start) (spells g sentence tree) t in
      let w = (fitting said sentence).0 (and_r (has_root g tree g.start) (spells g sentence tree) t) in
      let equal : T (spells g (singles said) tree) = subst T (sym (string_same said said (within_words said sentence h w))) (list_same said) in
      (said, record { within = w; derived = and_both (has_root g tree g.start) (spells g (singles said) tree) rooted equal })

  -- words that the tree derives are its yield
  is_yield : (words : List ℕ) → Heard g sentence tree words → said ≡ words
  is_yield words x =
      same_list_lem said words
      (subst T (string_same said words (within_words words sentence h x.within)) (and_r (has_root g tree g.start) (spells g (singles words) tree) x.derived))

  back : (words : List ℕ) × Heard g sentence tree words → T (derives g sentence tree)
  back (words, x) =
      let w : Within said sentence = subst (λ (l : List ℕ). Within l sentence) (sym (is_yield words x)) x.within in
      and_both (has_root g tree g.start) (spells g sentence tree) (and_l (has_root g tree g.start) (spells g (singles words) tree) x.derived) ((fitting said sentence).1 w)

pub as_heard : AsHeard
as_heard =
    record {
      trees = λ g sentence h tree. (there g sentence h tree, back g sentence h tree);
      one = λ g sentence h tree words others x y. sym (is_yield g sentence h tree words x) ∙ is_yield g sentence h tree others y;
    }
