-- The records of the new start's rules, of the entries' and of the schemes', one after another, are those of all rules.
-- Assumes nothing.
use Rattle.std.specs.Prelude.{if◌then◌else◌, Option, Some, None}
use mathlib.Core.Path.{◌≡◌, ap, sym, subst, ◌∙◌}
use mathlib.Core.Bool.{Bool, false}
use mathlib.Core.List.{List, map}
use Prim.Native.Nat.{ℕ, ◌*◌, ◌≤◌}
use lib.Dec.{eqb}
use lib.ListN.{length, take, length-map}
use borrow.Author.Tests.{ne_eqb}
use Rattle.model.specs.Base.{each}
use Rattle.grammar_to_file.specs.FileFor.{record_for}
use Rattle.minimalist.specs.Lexicon.{Entry, lexicon_of}
use Rattle.minimalist.specs.Schemes.{Form}
use Rattle.minimalist.specs.Closure.{start_rules, made_rules, scheme_rules}
use Rattle.minimalist.specs.Numbering.{numbered_rule}
use Rattle.derivable.proofs.SchemeRows.{some_same, none_is_some}
use Rattle.made_records.specs.declared.Records.{Records}
use Rattle.made_records.specs.Records.{told, Held}
use Rattle.made_rules.specs.Listed.{Lists, Listed, with_entries}
use Rattle.made_rules.proofs.Listing.{all_listed, starts_counted}
use Rattle.make_grammar.specs.Making.{told_rules, told_with, RulesPut, PutsRules}

module _ (lexicon : List Entry) (start : ℕ) (forms : List Form) where
  -- what is told, by whether the new start has a rule
  told_by : (b : Bool) → eqb (length (start_rules start forms)) 0 ≡ b
      → told_rules (length (start_rules start forms)) (length (made_rules lexicon start forms)) ≡ (if b then None else told (length (made_rules lexicon start forms)))
  told_by b e = ap (λ (x : Bool). if x then None else told (length (made_rules lexicon start forms))) e

  all_put : (records : Records) → (length (start_rules start forms) ≡ 0 → ⊥) → Held records (map (numbered_rule forms) (made_rules lexicon start forms)) → RulesPut lexicon start forms (Some records)
  all_put records d held =
      record {
        counted = held.count ∙ ap told long ∙ sym (told_by false (ne_eqb (length (start_rules start forms)) 0 d));
        are = λ again q few.
            subst (λ (r : Records). take (24 * length (made_rules lexicon start forms)) r.bytes ≡ each record_for (map (numbered_rule forms) (made_rules lexicon start forms))) (some_same q)
            (ap (λ (n : ℕ). take (24 * n) records.bytes) (sym long) ∙ held.are (subst (λ (n : ℕ). n ≤ 256) (sym long) few));
      }
    where
      long : length (map (numbered_rule forms) (made_rules lexicon start forms)) ≡ length (made_rules lexicon start forms)
      long = length-map (made_rules lexicon start forms) (numbered_rule forms)

-- whatever forms the rows are
module _ (table : List (List ℕ)) (bytes : List ℕ) (start : ℕ) where
  pub puts_all : {first mid records : Records} → Listed (start_rules start) table first → (first.count ≡ Some 0 → ⊥) → Lists (with_entries bytes) table first mid
      → Lists scheme_rules table mid records → PutsRules table bytes start (Some records)
  puts_all {records = records} starts d entries schemes =
      record {
        puts = λ forms l once.
            all_put (lexicon_of bytes) start forms records (λ z. d (starts_counted start starts forms l once ∙ ap Some z)) ((all_listed bytes start starts entries schemes).held forms l once);
      }

  -- and where their number is told
  pub puts_told : (records : Records) {o : Option ℕ} → o ≡ records.count → PutsRules table bytes start (Some records) → PutsRules table bytes start (told_with o records)
  puts_told records {o = None} e p =
      record { puts = λ forms l once. record { counted = e ∙ (p.puts forms l once).counted; are = λ again q few. absurd (none_is_some q) } }
  puts_told records {o = Some n} e p = subst (λ (c : Option ℕ). PutsRules table bytes start (Some (record { bytes = records.bytes; count = c }))) (sym e) p
