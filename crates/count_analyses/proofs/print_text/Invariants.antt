-- In the buffer of `count_analyses::print_text` stands a page of the text for what was read, and after each page less is to come.
use Rattle.std.proofs.Common.{◌≡◌, List, ℕ, length}
use Rattle.model.specs.GrammarFile.{grammar_of}
use Rattle.model.specs.Program.{limit_in}
use Rattle.report.specs.Whole.{words_in}
use Rattle.report.specs.Printing.{to_come, PageOf}
use Rattle.count_analyses.proofs.print_text.Given as goal

abbrev pub invariant-loop-rest : goal.invariant-loop-rest
invariant-loop-rest g l = (to_print : List ℕ) × PageOf (grammar_of l.file) (words_in l.bytes) (limit_in l.bytes) to_print l.out l.text × (length l.out ≡ 65536)

abbrev pub decreases-loop-rest : goal.decreases-loop-rest
decreases-loop-rest g l = to_come (grammar_of l.file) (words_in l.bytes) (limit_in l.bytes) l.text
