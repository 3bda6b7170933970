-- The outcome of the writer: refused for what is given, refused for room, or with the file.
-- Assumes nothing.
use mathlib.Core.Path.{◌≡◌, refl, sym, ap, ◌∙◌}
use mathlib.Core.Bool.{Bool, true, false, ◌&&◌, not}
use mathlib.Core.Option.{Option, none, some}
use mathlib.Core.List.{List, ◌++◌}
use Prim.Native.Nat.{ℕ, ◌<◌, ◌≤◌, ◌*◌}
use borrow.Author.Tests.{lt-ltb, le-ltb}
use lib.Dec.{T, ltb, eqb, lt→ltb}
use lib.ListN.{length, get_or, drop}
use Rattle.model.specs.declared.Refusal.{Refusal}
use Rattle.model.specs.Base.{◌or_else◌}
use Rattle.model.specs.Verdict.{refuse_if, tested, verdict, Verdict, Tested}
use Rattle.model.specs.GrammarFile.{fields, blocks_for}
use Rattle.model.specs.Writer.{Heading, all_bytes, fits_fields, file_of, writer_refusal}
use Rattle.model.specs.Calls.{written, write_refusal, write_verdict, write_output}
use Rattle.model.proofs.Tests.{every_by, and_both}
use Rattle.model.proofs.WriterFile.{file_length}
use Rattle.model.proofs.WriterHeading.{wrong_numbers, writer_refusal_lem}
use Rattle.rule_tests.specs.declared.layout.Layout.{Layout}
use Rattle.rule_tests.specs.Layout.{record_in}
use Rattle.rule_tests.specs.Rules.{rules_refusal}
use Rattle.writer.specs.Writing.{heading}
use Rattle.std.specs.Prelude.{Ok, Err}

-- what is given is as wide as its fields
pub bytes_given : (l : List ℕ) → ((i : ℕ) → i < length l → get_or l i 0 < 256) → T (all_bytes l)
bytes_given l b = every_by (λ x. ltb x 256) l (λ k h. lt→ltb (get_or l k 0) 256 (b k h))

pub given_fits : (c s w r : ℕ) (d : List ℕ) → c < 256 → s < 256 → w < 65536 → r < 65536 → T (all_bytes d) → T (fits_fields (heading c s w r d))
given_fits c s w r d hc hs hw hr hd =
    let a = and_both (ltb c 256) (ltb s 256) (lt→ltb c 256 hc) (lt→ltb s 256 hs) in
    let b = and_both (ltb c 256 && ltb s 256) (ltb w 65536) a (lt→ltb w 65536 hw) in
    let e = and_both (ltb c 256 && ltb s 256 && ltb w 65536) (ltb r 65536) b (lt→ltb r 65536 hr) in
    and_both (ltb c 256 && ltb s 256 && ltb w 65536 && ltb r 65536) (all_bytes d) e hd

-- the tests of what is given, in their order
module _ (h : Heading) (records : List ℕ) (fits : T (fits_fields h)) (bytes : T (all_bytes records)) where
  abbrev few_or_many : Bool
  few_or_many = not (eqb (length h.dimensions) 64)

  abbrev other_length : Bool
  other_length = not (eqb (length records) (24 * h.rules))

  abbrev by_records : Option Refusal
  by_records = rules_refusal (fields h.dimensions 0 h.categories) h.words (record_in Layout.Packed records) h.rules

  by_tests : {t : Tested} → tested (refuse_if few_or_many (Refusal.Grammar 4 0) or_else refuse_if (ltb 256 h.rules) (Refusal.Grammar 4 0)
      or_else refuse_if (wrong_numbers h) (Refusal.Grammar 4 0) or_else refuse_if other_length (Refusal.Grammar 5 0) or_else by_records) ≡ t → t ≡ tested (writer_refusal h records)
  by_tests e = sym (ap tested (writer_refusal_lem h records fits bytes) ∙ e)

  pub no_dimensions : few_or_many ≡ true → Err (Refusal.Grammar 4 0) ≡ tested (writer_refusal h records)
  no_dimensions e = by_tests (rw e)

  pub too_many_rules : few_or_many ≡ false → ltb 256 h.rules ≡ true → Err (Refusal.Grammar 4 0) ≡ tested (writer_refusal h records)
  too_many_rules d e = by_tests (rw (d, e))

  pub no_heading : few_or_many ≡ false → ltb 256 h.rules ≡ false → wrong_numbers h ≡ true → Err (Refusal.Grammar 4 0) ≡ tested (writer_refusal h records)
  no_heading d r e = by_tests (rw (d, r) (ap (λ (b : Bool). tested (refuse_if b (Refusal.Grammar 4 0) or_else refuse_if other_length (Refusal.Grammar 5 0) or_else by_records)) e))

  module _ (d : few_or_many ≡ false) (r : ltb 256 h.rules ≡ false) (n : wrong_numbers h ≡ false) where
    after_heading : {t : Tested} → tested (refuse_if other_length (Refusal.Grammar 5 0) or_else by_records) ≡ t → t ≡ tested (writer_refusal h records)
    after_heading e =
        by_tests
        (rw (d, r)
        (ap (λ (b : Bool). tested (refuse_if b (Refusal.Grammar 4 0) or_else refuse_if other_length (Refusal.Grammar 5 0) or_else by_records)) n ∙ e))

    pub no_records : other_length ≡ true → Err (Refusal.Grammar 5 0) ≡ tested (writer_refusal h records)
    no_records e = after_heading (rw e)

    pub records_decide : other_length ≡ false → tested by_records ≡ tested (writer_refusal h records)
    records_decide e = after_heading (rw e)

module _ (h : Heading) (records out : List ℕ) where
  abbrev Outcome : Verdict → List ℕ → Type 0
  Outcome v after = (v ≡ write_verdict h records out) × (after ≡ write_output h records out)

  -- a refusal that is met leaves the output as it was
  refused : (x : Refusal) (v : Verdict) → write_refusal h records out ≡ some x → v ≡ Err x → Outcome v out
  refused x v e f =
      (f ∙ sym (ap (λ (o : Option Refusal). verdict o (length (file_of h records))) e), sym (ap (λ (o : Option Refusal). written o (file_of h records) out) e))

  abbrev room : Option Refusal
  room = refuse_if (ltb (length out) (length (file_of h records))) (Refusal.Desk 23 0)

  pub refused_given : {x : Refusal} → writer_refusal h records ≡ some x → Outcome (Err x) out
  refused_given {x} e = refused x (Err x) (ap (λ (o : Option Refusal). o or_else room) e) refl

  module _ (n : ℕ) (n_is : n ≡ 512 * blocks_for h.rules) (pass : writer_refusal h records ≡ none) where
    n_file : length (file_of h records) ≡ n
    n_file = file_length h records ∙ sym n_is

    pub refused_room : length out < n → Outcome (Err (Refusal.Desk 23 0)) out
    refused_room l =
        let t : ltb (length out) (length (file_of h records)) ≡ true = ap (ltb (length out)) n_file ∙ lt-ltb (length out) n l in
        refused (Refusal.Desk 23 0) (Err (Refusal.Desk 23 0))
        (ap (λ (o : Option Refusal). o or_else room) pass ∙ ap (λ (b : Bool). refuse_if b (Refusal.Desk 23 0)) t) refl

    pub written_out : n ≤ length out → (after : List ℕ) → after ≡ file_of h records ++ drop n out → Outcome (Ok n) after
    written_out l after f =
        let t : ltb (length out) (length (file_of h records)) ≡ false = ap (ltb (length out)) n_file ∙ le-ltb (length out) n l in
        let none_met : write_refusal h records out ≡ none =
        ap (λ (o : Option Refusal). o or_else room) pass ∙ ap (λ (b : Bool). refuse_if b (Refusal.Desk 23 0)) t in (
          ap Ok (sym n_file) ∙ sym (ap (λ (o : Option Refusal). verdict o (length (file_of h records))) none_met),
          f ∙ ap (λ (k : ℕ). file_of h records ++ drop k out) (sym n_file) ∙ sym (ap (λ (o : Option Refusal). written o (file_of h records) out) none_met),
        )
