-- The file of a well-formed grammar made from a lexicon is one of those that the promise allows, whatever its numbering.
-- Assumes nothing.
use mathlib.Core.Path.{◌≡◌, refl, sym, subst, ◌∙◌}
use mathlib.Core.Bool.{Bool, true, false}
use mathlib.Core.List.{List, [], ◌∷◌, map}
use Prim.Native.Nat.{ℕ}
use native.Mathlib.Omega.{arith}
use Rattle.model.specs.Grammar.{Rule, Grammar, is_lexical}
use Rattle.model.specs.WellFormed.{WellFormed}
use Rattle.model.proofs.Tests.{not_both}
use Rattle.grammar_to_file.specs.FileFor.{file_for, Storable}
use Rattle.grammar_to_file.proofs.GrammarsAndFiles.{grammars_and_files}
use Rattle.minimalist.specs.Lexicon.{Entry}
use Rattle.minimalist.specs.Made.{Name, name_of, NamedRule, Made, of_start, of_entry, of_merge, of_move, named_rule, MadeFrom, MadeFile}
use Rattle.minimalist.proofs.NoDoubles.{no_doubles}

-- a made rule has no word with daughters, and no components without
abbrev no_daughters : List Name → Bool
no_daughters [] = true
no_daughters (d ∷ ds) = false

lexical_by_names : (names : List Name) (rule : Rule) → is_lexical rule ≡ no_daughters (named_rule names rule).daughters
lexical_by_names names rule = go rule.daughters
  where
    go : (ds : List ℕ) → ◌≡◌ {A = Bool} (elim ds [ [] ↦ true | d ∷ es ↦ false ]) (no_daughters (map (name_of names) ds))
    go [] = refl
    go (d ∷ ds) = refl

module _ (lexicon : List Entry) (start : ℕ) where
  no_word : (n : NamedRule) → Made lexicon start n → no_daughters n.daughters ≡ false → n.word ≡ 0
  no_word n (of_start x d) e = refl
  no_word n (of_entry x m) e = not_both e
  no_word n (of_merge a b s p q f l) e = refl
  no_word n (of_move a s p f l) e = refl

  no_components : (n : NamedRule) → Made lexicon start n → no_daughters n.daughters ≡ true → n.components ≡ []
  no_components n (of_start x d) e = not_both (sym e)
  no_components n (of_entry x m) e = refl
  no_components n (of_merge a b s p q f l) e = not_both (sym e)
  no_components n (of_move a s p f l) e = not_both (sym e)

-- a well-formed made grammar can be stored
pub made_stored : (lexicon : List Entry) (words start : ℕ) (g : Grammar) → WellFormed g → MadeFrom lexicon words start g → Storable g
made_stored lexicon words start g well made =
    record {
      well = well;
      differ = no_doubles lexicon words start g well made;
      weights = λ r rule e. omega (arith, made.weights_are_0 r rule e);
      no_word = λ r rule e l. no_word lexicon start (named_rule made.names rule) (made.rules_sound r rule e) (sym (lexical_by_names made.names rule) ∙ l);
      no_components = λ r rule e l. no_components lexicon start (named_rule made.names rule) (made.rules_sound r rule e) (sym (lexical_by_names made.names rule) ∙ l);
    }

-- the file of such a grammar is one that the promise allows, whatever the numbering
pub made_file_of : (lexicon : List Entry) (words start : ℕ) (g : Grammar) → WellFormed g → MadeFrom lexicon words start g → MadeFile lexicon words start (file_for g)
made_file_of lexicon words start g well made =
    let h = grammars_and_files.has_file g (made_stored lexicon words start g well made) in
    record { accepted = h.accepted; made = subst (MadeFrom lexicon words start) (sym h.grammar_is) made }
