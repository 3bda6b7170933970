-- `walk::chain::chain_rules` meets its contract.
-- Assumes nothing.
use mathlib.Core.Path.{◌≡◌, refl, sym, subst}
use Prim.Native.Nat.{ℕ}
use native.Mathlib.Omega.{arith}
use borrow.Author.Rules.{rules}
use lib.ListN.{replicate, get_or-replicate}
use Rattle.model.specs.GrammarFile.{grammar_of, rules_of}
use Rattle.model.proofs.FromFile.{rules_in}
use Rattle.walk.specs.Chain.{no_rule}
use Rattle.walk.proofs.Linked.{Linked, link_none, file_link, file_linked}
use Rattle.walk.proofs.chain.chain_rules.Goals as goal

pub loop-r-init : goal.loop-r-init
loop-r-init c =
    let f = c.args.file.now in (
      c.rules_held-r.ensures.0,
      refl,
      λ accepted.
          let e = c.rules_held-r.ensures.1 (rules_in f accepted).1 in (
            omega (arith, e),
            subst (λ (k : ℕ). Linked (grammar_of f) (rules_of f) k (replicate 320 no_rule)) (sym e)
                (link_none (grammar_of f) (rules_of f) (replicate 320 no_rule) refl (λ a h. get_or-replicate 320 a no_rule 0 (omega arith))),
          ),
    )

pub loop-r-preserved : goal.loop-r-preserved
loop-r-preserved c =
    let f = c.args.file.now in
    rw (c.from.ensures, c.from-a.ensures) (
      omega arith,
      search rules,
      λ accepted.
          let i = c.loop-r.invariant.2 accepted in
          file_link f accepted c.loop-r.r c.category_of.result.0 c.loop-r.chain (omega arith) i.0 c.category_of.ensures i.1,
    )

pub returns : goal.returns
returns c =
    let f = c.args.file.now in
    λ accepted.
    let e : c.loop-r.r ≡ 0 = omega arith in
    file_linked f accepted c.loop-r.chain (rw e at (c.loop-r.invariant.2 accepted).1)
