-- The sequences that are marked in a content, by the pairs of its runs: they lie in the runs, have no others within them, and are balanced.
use Rattle.std.proofs.Common.{◌≡◌, ℕ, zero, suc, ◌+◌, ◌<◌, List, [], ◌∷◌, length, get_or, refl, inl, inr, sym, ◌∙◌, ap, subst, arith}
use Rattle.std.specs.Prelude.{replicate, slice_set}
use Rattle.std.proofs.lemmas.List.{length-replicate, length-set}
use Rattle.markdown_attention.specs.Emphasis.{DelimiterRun, Pair, Resolves, done, kind_size}
use Rattle.markdown_attention.specs.Nesting.{Follow}
use Rattle.markdown_attention.specs.Runs.{marked}
use Rattle.markdown_attention.specs.Sequences.{AreBalanced, EndWithin, IsSequence, LiesInRun}
use Rattle.markdown_attention.specs.declared.delimiter.AttentionKind.{AttentionKind}
use Rattle.markdown_attention.specs.declared.delimiter.Delimiter.{Delimiter}
use Rattle.markdown_attention.specs.declared.delimiter.Delimiter.TheVariants.{Data, Opening, Closing}
use Rattle.markdown_attention.proofs.Balance.{Begins, nothing_within, sequence_of, walk}
use Rattle.markdown_attention.proofs.Begun.{BeginWithin, begins, marked_at}
use Rattle.markdown_attention.proofs.Lying.{AllLie, all_lie, begin_within, end_within, one_lies}
use Rattle.markdown_attention.proofs.Nesting.{nests}
use Rattle.markdown_attention.proofs.OpenPairs.{none_begun, none_open}
use Rattle.markdown_attention.proofs.Unique.{unique}

pub same_length : (pairs : List Pair) (delimiters : List Delimiter) → length (marked pairs delimiters) ≡ length delimiters
same_length [] delimiters = refl
same_length (p ∷ pairs) delimiters =
    same_length pairs (slice_set (slice_set delimiters p.opening (Opening p.kind)) p.closing (Closing p.kind))
    ∙ length-set (slice_set delimiters p.opening (Opening p.kind)) p.closing (Closing p.kind) ∙ length-set delimiters p.opening (Opening p.kind)

-- No runs make no pairs.
pub none_of_none : (pairs : List Pair) → Resolves [] pairs → pairs ≡ []
none_of_none pairs resolves = unique [] pairs [] resolves (done [] tt)

all_data : (size at : ℕ) → get_or (replicate size Data) at Data ≡ Data
all_data zero at = refl
all_data (suc size) zero = refl
all_data (suc size) (suc at) = all_data size at

marked_is : (size : ℕ) (pairs : List Pair) (at : ℕ) → BeginWithin size pairs → get_or (marked pairs (replicate size Data)) at Data ≡ begins pairs at Data
marked_is size pairs at within = marked_at pairs (replicate size Data) at (subst (λ n. BeginWithin n pairs) (sym (length-replicate size Data)) within) ∙ ap (begins pairs at) (all_data size at)

lies_there : (runs : List DelimiterRun) (p : Pair) (at : ℕ) (kind : AttentionKind) → LiesInRun runs p.opening p.kind × LiesInRun runs p.closing p.kind → Begins p at → p.kind ≡ kind → LiesInRun runs at kind
lies_there runs p at kind lies (inl e) is = subst (LiesInRun runs at) is (subst (λ i. LiesInRun runs i p.kind) e lies.0)
lies_there runs p at kind lies (inr e) is = subst (LiesInRun runs at) is (subst (λ i. LiesInRun runs i p.kind) e lies.1)

-- A sequence that is marked lies in a run.
pub lies_in_run : (size : ℕ) (runs : List DelimiterRun) (pairs : List Pair) → Follow 0 runs → EndWithin size runs → Resolves runs pairs
    → (at : ℕ) (kind : AttentionKind) → IsSequence (get_or (marked pairs (replicate size Data)) at Data) kind → LiesInRun runs at kind
lies_in_run size runs pairs follow within resolves at kind sequence =
    let all : AllLie runs pairs = all_lie 0 runs pairs follow resolves in
    let is = marked_is size pairs at (begin_within size runs pairs within all) in
    let p = sequence_of pairs at kind (subst (λ d. IsSequence d kind) is sequence) in
    lies_there runs p.0 at kind (one_lies runs pairs p.0 all p.1) p.2 p.3

-- Within a sequence no other begins.
pub alone : (size : ℕ) (runs : List DelimiterRun) (pairs : List Pair) → Follow 0 runs → EndWithin size runs → Resolves runs pairs
    → (at k : ℕ) (kind : AttentionKind) → IsSequence (get_or (marked pairs (replicate size Data)) at Data) kind → at < k → k < at + kind_size kind
    → get_or (marked pairs (replicate size Data)) k Data ≡ Data
alone size runs pairs follow within resolves at k kind sequence after before =
    let begin : BeginWithin size pairs = begin_within size runs pairs within (all_lie 0 runs pairs follow resolves) in
    let p = sequence_of pairs at kind (subst (λ d. IsSequence d kind) (marked_is size pairs at begin) sequence) in
    let inside : k < at + kind_size p.0.kind = subst (λ x. k < at + kind_size x) (sym p.3) before in
    marked_is size pairs k begin ∙ nothing_within pairs p.0 at k (nests 0 runs pairs follow resolves) p.1 p.2 after inside

-- What is marked is balanced.
pub balanced : (size : ℕ) (runs : List DelimiterRun) (pairs : List Pair) → Follow 0 runs → EndWithin size runs → Resolves runs pairs
    → AreBalanced [] (marked pairs (replicate size Data))
balanced size runs pairs follow within resolves =
    let all : AllLie runs pairs = all_lie 0 runs pairs follow resolves in
    let begin : BeginWithin size pairs = begin_within size runs pairs within all in
    walk pairs size 0 0 [] (marked pairs (replicate size Data)) (nests 0 runs pairs follow resolves) (λ p i. end_within size runs pairs p within all i)
    record {
      size_is = omega (arith, same_length pairs (replicate size Data), length-replicate size Data);
      each = λ i. (let e : i ≡ 0 + i = omega arith in marked_is size pairs i begin ∙ ap (λ x. begins pairs x Data) e);
    }
    record {
      reached = omega arith;
      fits = omega arith;
      quiet = λ k from to. absurd (omega (arith, to));
      between = none_begun pairs;
      are = none_open pairs;
    }
