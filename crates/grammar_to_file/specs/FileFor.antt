-- The file of a grammar (document 01, "A grammar" and "The grammar file"; document 02, papers 1 and 4), and the claim that files and grammars go one to one:
-- every grammar that the documents describe has a file that the reader accepts and that holds it, and every file that the reader accepts is that of the
-- grammar it holds.
-- Assumes nothing.
use Rattle.std.specs.Prelude.{◌≡◌, true, false, List, [], ◌∷◌, ◌++◌, map, ℕ, ◌+◌, ◌*◌, ◌≤◌, T, length}
use Rattle.std.proofs.Math.Option.{none, some}
use Rattle.model.specs.Base.{each}
use Rattle.model.specs.Grammar.{Variable, Rule, Grammar, rule_at, is_lexical}
use Rattle.model.specs.GrammarFile.{grammar_refusal, grammar_of}
use Rattle.model.specs.WellFormed.{WellFormed, named}
use Rattle.model.specs.Writer.{Heading, all_bytes, little2, padded, file_of}
use Rattle.doubles.specs.Doubles.{NoDoubles}

-- "each 4 times daughter position plus component"
abbrev pub code_of : Variable → ℕ
code_of v = 4 * v.daughter + v.component

-- bytes 0 to 22: "byte 0 category; byte 1 daughters; bytes 2-4 their categories; bytes 5-6 the word (65,535 is the empty word); bytes 7-10 component lengths;
-- bytes 11-22 variables, component after component"
abbrev pub bytes_before_weight : Rule → List ℕ
bytes_before_weight rule =
    (rule.category ∷ length rule.daughters ∷ [])
    ++ (padded 3 rule.daughters
    ++ (little2 rule.word ++ (padded 4 (map length rule.components) ++ padded 12 (map code_of (named rule.components)))))

-- "Byte 23 of a record, so far unused, becomes a weight" (document 02, paper 1)
abbrev pub record_for : Rule → List ℕ
record_for rule = bytes_before_weight rule ++ (rule.weight ∷ [])

-- the heading's numbers, and the dimensions with 0 for the categories that there are not
abbrev pub heading_for : Grammar → Heading
heading_for g =
    record { categories = length g.dimensions; start = g.start; words = g.words; rules = length g.rules; dimensions = padded 64 g.dimensions }

-- the file that the writer gives for this heading and these records
abbrev pub file_for : Grammar → List ℕ
file_for g = file_of (heading_for g) (each record_for g.rules)

-- A grammar that a file can hold: all that document 01 says of a grammar, limits included; no two rules that are equal under some order of the daughters,
-- "weight aside" (refusal 10; document 02, paper 4); and "a weight from 0 to 255" (document 02, paper 1). A `Rule` of the definitions has a word and components
-- whatever its kind, where a nonlexical rule of document 01 has no word and a lexical one no components; the file has 0 in the "fields that a rule of its kind
-- lacks". So the word that a nonlexical rule lacks is 0 here, and the components that a lexical rule lacks are none.
pub record Storable (g : Grammar) : Type 0 where
  pub well : WellFormed g
  pub differ : NoDoubles g
  pub weights : (r : ℕ) (rule : Rule) → rule_at g r ≡ some rule → rule.weight ≤ 255
  pub no_word : (r : ℕ) (rule : Rule) → rule_at g r ≡ some rule → is_lexical rule ≡ false → rule.word ≡ 0
  pub no_components : (r : ℕ) (rule : Rule) → rule_at g r ≡ some rule → is_lexical rule ≡ true → rule.components ≡ []

-- the file is a list of bytes that the reader accepts, and the grammar that it holds is g
pub record Holds (file : List ℕ) (g : Grammar) : Type 0 where
  pub bytes : T (all_bytes file)
  pub accepted : grammar_refusal file ≡ none
  pub grammar_is : grammar_of file ≡ g

-- files and grammars, one to one
pub record GrammarsAndFiles : Type 0 where
  -- every well-formed grammar within the limits and without rules that are equal but for their weights and the order of their daughters has a file that the
  -- reader accepts and that holds it
  pub has_file : (g : Grammar) → Storable g → Holds (file_for g) g
  -- a file holds no other grammars, and no other file holds a grammar
  pub holds_storable : (file : List ℕ) (g : Grammar) → Holds file g → Storable g
  pub only_file : (file : List ℕ) (g : Grammar) → Holds file g → file ≡ file_for g
