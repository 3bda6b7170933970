-- Where the records stand: in the blocks of a grammar file, or packed.
-- Assumes nothing.
use Rattle.std.specs.Prelude.{List, ℕ, ◌*◌}
use Rattle.model.specs.GrammarFile.{fields, record_of}
use Rattle.rule_tests.specs.declared.layout.Layout.{Layout}
use Rattle.rule_tests.specs.declared.layout.Layout.TheVariants.{Blocks, Packed}

-- the record of rule r; packed, records of 24 bytes stand one after the other
abbrev pub record_in : Layout → List ℕ → ℕ → List ℕ
record_in Blocks bytes r = record_of bytes r
record_in Packed bytes r = fields bytes (24 * r) 24
