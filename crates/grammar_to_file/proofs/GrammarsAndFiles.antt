-- Files and grammars go one to one.
-- Assumes nothing.
use mathlib.Core.Path.{sym, ap, subst, ◌∙◌}
use Rattle.grammar_to_file.specs.FileFor.{file_for, Storable, GrammarsAndFiles}
use Rattle.grammar_to_file.proofs.FileHolds.{file_bytes, file_accepted, file_holds}
use Rattle.grammar_to_file.proofs.StoredFile.{stored, file_again}

pub grammars_and_files : GrammarsAndFiles
grammars_and_files =
    record {
      has_file = λ g s. record { bytes = file_bytes g s; accepted = file_accepted g s; grammar_is = file_holds g s };
      holds_storable = λ file g h. subst Storable h.grammar_is (stored file h.bytes h.accepted);
      only_file = λ file g h. sym (file_again file h.bytes h.accepted) ∙ ap file_for h.grammar_is;
    }
