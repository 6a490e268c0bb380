-- The sequences of pairs stand in the tokens that are runs of delimiters.
use Rattle.std.proofs.Common.{Bool, List, [], arith, false, get_or, if◌then◌else◌, inl, inr, length, refl, subst, sym, true, ℕ, ◌+◌, ◌<◌, ◌∙◌, ◌∷◌, ◌≡◌, ◌≤◌, ◌⊎◌}
use Rattle.markdown_attention.proofs.OpenPairs.{some_markers}
use Rattle.markdown_attention.specs.Emphasis.{DelimiterRun, kind_size}
use Rattle.markdown_attention.specs.Nesting.{Follow}
use Rattle.markdown_attention.specs.Sequences.{EndWithin, IsSequence, LiesInRun}
use Rattle.markdown_attention.specs.declared.delimiter.AttentionKind.{AttentionKind}
use Rattle.markdown_attention.specs.declared.delimiter.Delimiter.{Delimiter}
use Rattle.markdown_attention.specs.declared.delimiter.Delimiter.TheVariants.{Closing, Data, Opening}
use Rattle.markdown_text.proofs.Found.{token_range}
use Rattle.markdown_text.specs.AttentionRuns.{AreRuns, AreRunsOf, delimiter_tokens, is_delimiters}
use Rattle.markdown_text.specs.AttentionWalk.{StandInTokens}
use Rattle.markdown_text.specs.Contents.{IsRange}
use Rattle.markdown_text.specs.Tokens.{AreTokens, Text}
use Rattle.markdown_text.specs.declared.token.Token.{Token}

-- ---- Runs in order

-- the runs of tokens follow each other, and end within the text
pub record InOrder (from size : ℕ) (runs : List DelimiterRun) : Type 0 where
  pub follow : Follow from runs
  pub within : EndWithin size runs

later : (a b : ℕ) (runs : List DelimiterRun) → a ≤ b → Follow b runs → Follow a runs
later a b [] le h = tt
later a b (run ∷ runs) le h = let first = h.0 in (omega (arith, le, first), h.1, h.2)

pub in_order : (text : Text) (from : ℕ) (ts : List Token) (runs : List DelimiterRun) → AreTokens text from ts → AreRunsOf text.bytes ts runs → InOrder from (length text.bytes) runs
in_order text from [] [] tokens are = record { follow = tt; within = tt }
in_order text from [] (run ∷ runs) tokens are = absurd are
in_order text from (t ∷ ts) runs tokens are = by (is_delimiters t.kind) runs (λ rs h. in_order text t.end ts rs tokens.2 h) are
  where
    range : IsRange text.bytes t.start t.end
    range = token_range text t.kind t.start t.end tokens.1

    by : (b : Bool) (runs : List DelimiterRun) → ((rs : List DelimiterRun) → AreRunsOf text.bytes ts rs → InOrder t.end (length text.bytes) rs) → AreRuns text.bytes (if b then t ∷ delimiter_tokens ts else delimiter_tokens ts) runs → InOrder from (length text.bytes) runs
    by false runs after are =
        let rest = after runs are in
        let before = (tokens.0).order in
        let order = range.order in
        record { follow = later from t.end runs (omega (arith, before, order)) rest.follow; within = rest.within }
    by true [] after are = absurd are
    by true (run ∷ runs) after are =
        let rest = after runs are.1 in
        let some = (are.0).some in
        let first = ((are.0).whole).first_is in
        let left = ((are.0).whole).left_is in
        let before = (tokens.0).order in
        let end : run.first + run.left ≡ t.end = omega (arith, first, left, some) in
        let within = range.within in
        record {
          follow = (omega (arith, first, before), omega (arith, left, some), subst (λ (n : ℕ). Follow n runs) (sym end) rest.follow);
          within = (omega (arith, end, within), rest.within);
        }

-- ---- Sequences in tokens

-- a sequence at an offset lies in one of these tokens, which is a run
abbrev pub LiesInToken : List Token → ℕ → AttentionKind → Type 0
LiesInToken [] at kind = ⊥
LiesInToken (t ∷ ts) at kind = ((is_delimiters t.kind ≡ true) × (t.start ≤ at) × (at + kind_size kind ≤ t.end)) ⊎ LiesInToken ts at kind

in_token : (content : List ℕ) (ts : List Token) (runs : List DelimiterRun) (at : ℕ) (kind : AttentionKind) → AreRunsOf content ts runs → LiesInRun runs at kind → LiesInToken ts at kind
in_token content [] [] at kind are lies = absurd lies
in_token content [] (run ∷ runs) at kind are lies = absurd are
in_token content (t ∷ ts) runs at kind are lies = by (is_delimiters t.kind) refl runs (λ rs h l. in_token content ts rs at kind h l) are lies
  where
    by : (b : Bool) → is_delimiters t.kind ≡ b → (runs : List DelimiterRun) → ((rs : List DelimiterRun) → AreRunsOf content ts rs → LiesInRun rs at kind → LiesInToken ts at kind) → AreRuns content (if b then t ∷ delimiter_tokens ts else delimiter_tokens ts) runs → LiesInRun runs at kind → LiesInToken (t ∷ ts) at kind
    by false is runs after are lies = inr (after runs are lies)
    by true is [] after are lies = absurd are
    by true is (run ∷ runs) after are (inl here) =
        let some = (are.0).some in
        let first = ((are.0).whole).first_is in
        let left = ((are.0).whole).left_is in
        let low = here.0 in
        let high = here.1 in
        inl (is, omega (arith, first, low), omega (arith, first, left, high, some))
    by true is (run ∷ runs) after are (inr there) = inr (after runs are.1 there)

-- tokens begin no sooner than the first of them may
not_before : (text : Text) (from : ℕ) (ts : List Token) (at : ℕ) (kind : AttentionKind) → AreTokens text from ts → LiesInToken ts at kind → from ≤ at
not_before text from [] at kind tokens lies = absurd lies
not_before text from (t ∷ ts) at kind tokens (inl here) = let before = (tokens.0).order in let low = here.1 in omega (arith, before, low)
not_before text from (t ∷ ts) at kind tokens (inr there) =
    let range = token_range text t.kind t.start t.end tokens.1 in
    let before = (tokens.0).order in
    let order = range.order in
    let rest = not_before text t.end ts at kind tokens.2 there in
    omega (arith, before, order, rest)

-- what is no sequence is data
data_or : (d : Delimiter) → ((kind : AttentionKind) → IsSequence d kind → ⊥) → d ≡ Data
data_or Data none = refl
data_or (Opening kind) none = absurd (none kind (inl refl))
data_or (Closing kind) none = absurd (none kind (inr refl))

stand_from : (text : Text) (delimiters : List Delimiter) (from : ℕ) (ts : List Token) → AreTokens text from ts
    → ((at : ℕ) (kind : AttentionKind) → from ≤ at → IsSequence (get_or delimiters at Data) kind → LiesInToken ts at kind) → StandInTokens delimiters from ts
stand_from text delimiters from [] tokens lie = λ at least less. data_or (get_or delimiters at Data) (λ kind is. lie at kind least is)
stand_from text delimiters from (t ∷ ts) tokens lie = (
  λ at least less. data_or (get_or delimiters at Data) (λ kind is. too_soon at kind less (lie at kind least is)),
  (
    λ other at least less. data_or (get_or delimiters at Data) (λ kind is. elsewhere other at kind less (lie at kind (from_start at least) is)),
    λ at kind least less is. fits at kind less (lie at kind (from_start at least) is),
  ),
  stand_from text delimiters t.end ts tokens.2 (λ at kind least is. rest at kind least (lie at kind (from_end at least) is)),
)
  where
    range : IsRange text.bytes t.start t.end
    range = token_range text t.kind t.start t.end tokens.1

    from_start : (at : ℕ) → t.start ≤ at → from ≤ at
    from_start at least = let before = (tokens.0).order in omega (arith, before, least)

    from_end : (at : ℕ) → t.end ≤ at → from ≤ at
    from_end at least = let before = (tokens.0).order in let order = range.order in omega (arith, before, order, least)

    too_soon : (at : ℕ) (kind : AttentionKind) → at < t.start → LiesInToken (t ∷ ts) at kind → ⊥
    too_soon at kind less (inl here) = let low = here.1 in absurd (omega (arith, less, low))
    too_soon at kind less (inr there) = let order = range.order in let after = not_before text t.end ts at kind tokens.2 there in absurd (omega (arith, less, order, after))

    elsewhere : is_delimiters t.kind ≡ false → (at : ℕ) (kind : AttentionKind) → at < t.end → LiesInToken (t ∷ ts) at kind → ⊥
    elsewhere other at kind less (inl here) = let same : true ≡ false = sym here.0 ∙ other in absurd (cc same)
    elsewhere other at kind less (inr there) = let after = not_before text t.end ts at kind tokens.2 there in absurd (omega (arith, less, after))

    fits : (at : ℕ) (kind : AttentionKind) → at < t.end → LiesInToken (t ∷ ts) at kind → at + kind_size kind ≤ t.end
    fits at kind less (inl here) = here.2
    fits at kind less (inr there) = let after = not_before text t.end ts at kind tokens.2 there in absurd (omega (arith, less, after))

    rest : (at : ℕ) (kind : AttentionKind) → t.end ≤ at → LiesInToken (t ∷ ts) at kind → LiesInToken ts at kind
    rest at kind least (inl here) = let high = here.2 in let some = some_markers kind in absurd (omega (arith, least, high, some))
    rest at kind least (inr there) = there

-- The sequences that lie in the runs of tokens stand in the tokens.
pub stand : (text : Text) (ts : List Token) (runs : List DelimiterRun) (delimiters : List Delimiter) → AreTokens text 0 ts → AreRunsOf text.bytes ts runs → ((at : ℕ) (kind : AttentionKind) → IsSequence (get_or delimiters at Data) kind → LiesInRun runs at kind) → StandInTokens delimiters 0 ts
stand text ts runs delimiters tokens are lie = stand_from text delimiters 0 ts tokens (λ at kind least is. in_token text.bytes ts runs at kind are (lie at kind is))
