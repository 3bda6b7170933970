-- What is printed for what the program reads of its files is what document 01 says is printed for the whole files (`whole_text`), and so are the pages joined.
-- Assumes nothing.
use Rattle.std.specs.Prelude.{Option as Maybe}
use mathlib.Core.Path.{◌≡◌, refl, sym, ap, ap₂, ◌∙◌}
use mathlib.Core.Bool.{Bool, true, false, not, ◌&&◌}
use mathlib.Core.List.{List, [], ◌∷◌, ◌++◌}
use mathlib.Core.Option.{Option, none, some}
use Prim.Native.Nat.{ℕ, zero, suc, ◌+◌, ◌*◌, ◌%◌, ◌<◌}
use native.Mathlib.Omega.{arith}
use borrow.Author.Tests.{lt-ltb, leb-true, leb-false}
use lib.Dec.{T, eqb, leb, eqb→eq}
use lib.ListN.{length, take}
use lib.Seq.{take_all, take-nil, length-take-le}
use Rattle.model.specs.declared.Refusal.{Refusal}
use Rattle.model.specs.Base.{◌or_else◌, each}
use Rattle.model.specs.Verdict.{refuse_if}
use Rattle.model.specs.Grammar.{Grammar}
use Rattle.model.specs.GrammarFile.{grammar_refusal, grammar_of, wrong_length, within, blocks}
use Rattle.model.specs.Trace.{sentence_refusal, places_refusal}
use Rattle.model.specs.Counting.{count, effort, listing, limits_refusal, effort_refusal}
use Rattle.model.specs.Step.{single}
use Rattle.model.specs.Program.{pairs, sentence_in, limit_in, program_limit, printed, program}
use Rattle.model.proofs.Tests.{stop, and_l, and_r, within_low}
use Rattle.report.specs.Whole.{words_in, refusal_of, text_by, WholeText}
use Rattle.report.specs.declared.program.Rest.{Rest}
use Rattle.report.specs.Printing.{left_in, Pages, last, more, PrintsPages}

-- the text for a grammar file, a sentence, a node limit and the parity of the sentence file
abbrev text_for : List ℕ → List ℕ → ℕ → Bool → List ℕ
text_for file sentence n even = text_by (refusal_of file sentence n even) (grammar_of file) sentence n

-- a refusal of the grammar is all that is printed
by_grammar : (file sentence : List ℕ) (n : ℕ) (even : Bool) (r : Refusal) → grammar_refusal file ≡ some r → text_for file sentence n even ≡ printed (some r) []
by_grammar file sentence n even r e =
    let g = grammar_of file in
    ap (λ (o : Option Refusal). printed ((o or_else refuse_if even (Refusal.Analysis 11 0) or_else limits_refusal n program_limit or_else sentence_refusal g sentence) or_else effort_refusal g sentence n program_limit) ((count g sentence n ∷ effort g sentence n ∷ []) ∷ listing g sentence n)) e

-- a file of more than 14 blocks is refused by its length
long_file : (f : List ℕ) → 7168 < length f → grammar_refusal f ≡ some (Refusal.Grammar 1 0)
long_file f h = stop (wrong_length f) (Refusal.Grammar 1 0) _ (by (eqb (length f % 512) 0 && within 1 14 (blocks f)) (λ t. t))
  where
    by : (b : Bool) → (T b → T (eqb (length f % 512) 0 && within 1 14 (blocks f))) → not b ≡ true
    by false k = refl
    by true k =
        let t = k tt in
        let z : ⊥
        = omega (arith, eqb→eq (length f % 512) 0 (and_l (eqb (length f % 512) 0) (within 1 14 (blocks f)) t), (within_low 1 14 (blocks f) (and_r (eqb (length f % 512) 0) (within 1 14 (blocks f)) t)).1) in
        absurd z

-- 7,169 bytes of the grammar tell the text
cut_file : (f sentence : List ℕ) (n : ℕ) (even : Bool) → text_for (take 7169 f) sentence n even ≡ text_for f sentence n even
cut_file f sentence n even = go (leb (length f) 7169) refl
  where
    go : (b : Bool) → leb (length f) 7169 ≡ b → text_for (take 7169 f) sentence n even ≡ text_for f sentence n even
    go true e = ap (λ (x : List ℕ). text_for x sentence n even) (take_all 7169 f (leb-true (length f) 7169 e))
    go false e =
        let h = leb-false (length f) 7169 e in
        let l : length (take 7169 f) ≡ 7169 = length-take-le 7169 f (omega arith) in
        by_grammar (take 7169 f) sentence n even (Refusal.Grammar 1 0) (long_file (take 7169 f) (omega arith))
        ∙ sym (by_grammar f sentence n even (Refusal.Grammar 1 0) (long_file f (omega arith)))

-- what is tested after a refusal does not matter
no_matter : (o p q : Option Refusal) (x : Refusal) (r : Option Refusal) (lines : List (List ℕ))
    → printed ((o or_else p or_else q or_else some x) or_else r) lines ≡ printed (o or_else p or_else q or_else some x) []
no_matter (some y) p q x r lines = refl
no_matter none (some y) q x r lines = refl
no_matter none none (some y) x r lines = refl
no_matter none none none x r lines = refl

-- a sentence of more than 96 words is refused for that, whatever its words are
long_sentence : (file sentence : List ℕ) (n : ℕ) (even : Bool) → 96 < length sentence
    → text_for file sentence n even
    ≡ printed (grammar_refusal file or_else refuse_if even (Refusal.Analysis 11 0) or_else limits_refusal n program_limit or_else some (Refusal.Analysis 11 96)) []
long_sentence file sentence n even h =
    let g = grammar_of file in
    let lines = (count g sentence n ∷ effort g sentence n ∷ []) ∷ listing g sentence n in
    ap (λ (b : Bool). printed ((grammar_refusal file or_else refuse_if even (Refusal.Analysis 11 0) or_else limits_refusal n program_limit or_else (refuse_if b (Refusal.Analysis 11 96) or_else places_refusal g.words 0 sentence)) or_else effort_refusal g sentence n program_limit) lines) (lt-ltb 96 (length sentence) h)
    ∙ no_matter (grammar_refusal file) (refuse_if even (Refusal.Analysis 11 0)) (limits_refusal n program_limit) (Refusal.Analysis 11 96) (effort_refusal g sentence n program_limit) lines

-- 97 words of the sentence tell the text
cut_sentence : (file s : List ℕ) (n : ℕ) (even : Bool) → text_for file (take 97 s) n even ≡ text_for file s n even
cut_sentence file s n even = go (leb (length s) 97) refl
  where
    go : (b : Bool) → leb (length s) 97 ≡ b → text_for file (take 97 s) n even ≡ text_for file s n even
    go true e = ap (λ (x : List ℕ). text_for file x n even) (take_all 97 s (leb-true (length s) 97 e))
    go false e =
        let h = leb-false (length s) 97 e in
        let l : length (take 97 s) ≡ 97 = length-take-le 97 s (omega arith) in
        long_sentence file (take 97 s) n even (omega arith) ∙ sym (long_sentence file s n even (omega arith))

-- pairs of the first bytes are the first pairs
pairs_take : (m : ℕ) (l : List ℕ) → take m (pairs (take (m + m) l)) ≡ take m (pairs l)
pairs_take zero l = refl
pairs_take (suc m) l = ap (λ (k : ℕ). take (suc m) (pairs (take k l))) twice ∙ by l (λ x. pairs_take m x)
  where
    twice : suc m + suc m ≡ suc (suc (m + m))
    twice = omega arith

    by : (l : List ℕ) → ((x : List ℕ) → take m (pairs (take (m + m) x)) ≡ take m (pairs x)) → take (suc m) (pairs (take (suc (suc (m + m))) l)) ≡ take (suc m) (pairs l)
    by [] ih = refl
    by (a ∷ []) ih = ap (λ (x : List ℕ). take (suc m) (pairs (a ∷ x))) (take-nil (suc (m + m)))
    by (a ∷ b ∷ l) ih = ap (λ (x : List ℕ). single (a + 256 * b) ∷ x) (ih l)

-- 195 bytes of the sentence file have N and 97 words
first_bytes : (s bytes : List ℕ) → bytes ≡ take 195 s → (limit_in bytes ≡ limit_in s) × (words_in bytes ≡ words_in s)
first_bytes [] bytes e = (ap limit_in e, ap words_in e)
first_bytes (b ∷ s) bytes e = (ap limit_in e, ap words_in e ∙ pairs_take 97 s)

-- `program_refusal` has the grammar's test again among those of the count
again : (g p l w e : Option Refusal) → (g or_else p or_else l or_else w) or_else e ≡ g or_else p or_else (g or_else l or_else w or_else e)
again (some x) p l w e = refl
again none (some x) l w e = refl
again none none (some x) w e = refl
again none none none (some x) e = refl
again none none none none e = refl

whole_files : (f s : List ℕ) → text_for f (sentence_in s) (limit_in s) (eqb (length s % 2) 0) ≡ program f s
whole_files f s =
    let g = grammar_of f in
    let sentence = sentence_in s in
    let n = limit_in s in
    ap (λ (o : Option Refusal). text_by o g sentence n) (again (grammar_refusal f) (refuse_if (eqb (length s % 2) 0) (Refusal.Analysis 11 0)) (limits_refusal n program_limit) (sentence_refusal g sentence) (effort_refusal g sentence n program_limit))

pub whole_text : WholeText
whole_text f s file bytes even r =
    let b = first_bytes s bytes r.sentence_is in
    ap₂ (λ (x y : List ℕ). text_for x y (limit_in bytes) even) r.grammar_is b.1
    ∙ cut_file f (words_in s) (limit_in bytes) even
    ∙ cut_sentence f (sentence_in s) (limit_in bytes) even
    ∙ ap₂ (λ (m : ℕ) (p : Bool). text_for f (sentence_in s) m p) b.0 r.parity_is
    ∙ whole_files f s

-- pages that come one after the other are what was to be printed
pages_joined : (g : Grammar) (sentence : List ℕ) (n : ℕ) {to_print : List ℕ} {pages : List (List ℕ)} → Pages g sentence n to_print pages → to_print ≡ each (λ l. l) pages
pages_joined g sentence n (last {to_print} {out} {text} page e) =
    page.joined ∙ ap (λ (o : Maybe Rest). take text.end out ++ left_in g sentence n o) e
pages_joined g sentence n (more {to_print} {out} {text} page e others) =
    page.joined ∙ ap (λ (l : List ℕ). take text.end out ++ l) (pages_joined g sentence n others)

pub prints_pages : PrintsPages
prints_pages f s file bytes even r pages p = sym (whole_text f s file bytes even r) ∙ pages_joined (grammar_of file) (words_in bytes) (limit_in bytes) p
