-- All files that the promise allows are of one length: so verdict and refusal 23 do not hang on the numbering.
-- Assumes nothing.
use mathlib.Core.Path.{◌≡◌, refl, ap, sym, subst, ◌∙◌}
use mathlib.Core.Option.{some}
use mathlib.Core.List.{List, [], ◌∷◌, map, Memᴰ}
use Prim.Native.Nat.{ℕ, suc, ◌≤◌, ◌*◌}
use native.Mathlib.Omega.{arith}
use lib.ListN.{length, get_elem?, length-map}
use Rattle.minimalist.specs.MakeGrammar.{OneLength}
use Rattle.model.specs.Grammar.{Grammar}
use Rattle.model.specs.WellFormed.{WellFormed}
use Rattle.model.specs.GrammarFile.{grammar_of, rules_of, blocks_for}
use Rattle.model.proofs.Lists.{map_in}
use Rattle.model.proofs.FileTests.{passed}
use Rattle.model.proofs.WellFormed.{accepted_well, rules_length}
use Rattle.minimalist.specs.Once.{Once}
use Rattle.minimalist.specs.Lexicon.{Entry}
use Rattle.minimalist.specs.Made.{NamedRule, Made, named_rule, MadeFrom}
use Rattle.minimalist.proofs.FromTrees.{same_rule_lem}
use Rattle.minimalist.proofs.Canonical.{elem_in, elem_out, elem_map_out}
use Rattle.minimalist.proofs.Size.{no_more}

-- a list in which no number has what another has
once_by_numbers : {A : Type 0} (l : List A) → ((i j : ℕ) (x : A) → get_elem? l i ≡ some x → get_elem? l j ≡ some x → i ≡ j) → Once l
once_by_numbers [] h = tt
once_by_numbers (x ∷ l) h = (
  λ m. let (k, e) = elem_in l x m in let q = h 0 (suc k) x refl e in omega (arith, q),
  once_by_numbers l (λ i j y e f. let q = h (suc i) (suc j) y e f in omega (arith, q)),
)

module _ (lexicon : List Entry) (words start : ℕ) where
  fewer : (g h : Grammar) → WellFormed g → MadeFrom lexicon words start g → MadeFrom lexicon words start h → length g.rules ≤ length h.rules
  fewer g h well a b =
      let l = map (named_rule a.names) g.rules in
      let m = map (named_rule b.names) h.rules in
      let k = no_more l m (once_by_numbers l apart) inside in
      omega (arith, k, length-map g.rules (named_rule a.names), length-map h.rules (named_rule b.names))
    where
      apart : (i j : ℕ) (n : NamedRule) → get_elem? (map (named_rule a.names) g.rules) i ≡ some n → get_elem? (map (named_rule a.names) g.rules) j ≡ some n → i ≡ j
      apart i j n e f =
          let (p, x, u) = elem_map_out (named_rule a.names) g.rules i n e in
          let (q, y, v) = elem_map_out (named_rule a.names) g.rules j n f in
          (same_rule_lem lexicon words start g well a i j p q x y (u ∙ sym v)).numbers

      inside : (n : NamedRule) → Memᴰ n (map (named_rule a.names) g.rules) → Memᴰ n (map (named_rule b.names) h.rules)
      inside n i =
          let (k, e) = elem_in (map (named_rule a.names) g.rules) n i in
          let (rule, x, u) = elem_map_out (named_rule a.names) g.rules k n e in
          let w = b.rules_whole n (subst (Made lexicon start) u (a.rules_sound k rule x)) in
          subst (λ (z : NamedRule). Memᴰ z (map (named_rule b.names) h.rules)) w.named (map_in (named_rule b.names) (elem_out h.rules w.number w.rule w.is_rule))

pub same_length : OneLength
same_length lexicon words start file other a b =
    let g = grammar_of file in
    let h = grammar_of other in
    let p = fewer lexicon words start g h (accepted_well file a.accepted) a.made b.made in
    let q = fewer lexicon words start h g (accepted_well other b.accepted) b.made a.made in
    let r : rules_of file ≡ rules_of other = omega (arith, p, q, rules_length file, rules_length other) in
    (passed file a.accepted).long ∙ ap (λ (n : ℕ). 512 * blocks_for n) r ∙ sym (passed other b.accepted).long
