-- The delimiter runs of a content without closing brackets, as they are found.
use Rattle.std.proofs.Common.{Bool, List, None, Option, Some, [], ap, arith, drop, false, get_or, if◌then◌else◌, inl, inr, length, refl, replicate, slice_index, subst, suc, sym, take, true, zero, ℕ, ◌+◌, ◌++◌, ◌-◌, ◌<◌, ◌∙◌, ◌∷◌, ◌≡◌, ◌≢◌, ◌≤◌, ◌⊎◌}
use Rattle.std.proofs.lemmas.List.Elements.{All-nil, All-push}
use Rattle.std.proofs.lemmas.Bool.{cases_lt}
use Rattle.commonmark_syntax.specs.Cuts.{IsRunOf as IsRunOfBytes}
use Rattle.commonmark_syntax.specs.Inlines.{delimiter_run}
use Rattle.commonmark_syntax.specs.Language.{Leaves}
use Rattle.markdown_options.specs.declared.ParseOptions.{ParseOptions}
use Rattle.std.proofs.lemmas.List.{append-nil, drop-drop, get_or-drop}
use Rattle.std.proofs.lemmas.Option.{same_Some}
use Rattle.markdown_attention.specs.Flanking.{Flanked}
use Rattle.markdown_attention.proofs.Sequences.{none_of_none}
use Rattle.markdown_attention.specs.Emphasis.{DelimiterRun, Pair, Resolves, done}
use Rattle.markdown_attention.specs.Runs.{AreResolved, IsWhole, marked, view, views}
use Rattle.markdown_attention.specs.declared.delimiter.Delimiter.{Delimiter}
use Rattle.markdown_attention.specs.declared.delimiter.Delimiter.TheVariants.{Data}
use Rattle.markdown_attention.specs.declared.run.Run.{Run}
use Rattle.markdown_text.specs.AttentionRuns.{AreAllRuns, AreRuns, AreRunsOf, HasNoClosing, IsInToken, IsRunOf, StaysText, counts, delimiter_tokens, is_delimiters}
use Rattle.markdown_text.specs.AttentionWaiting.{ArePairsOf, AreWaiting, HasNoLaterMarker, IsNoLabel, Wait, WaitWith}
use Rattle.markdown_text.specs.Constructs.{IsMarker}
use Rattle.markdown_text.specs.Reached.{IsWith}
use Rattle.markdown_text.specs.Runs.{begun, room}
use Rattle.markdown_text.specs.Tokens.{BeginsLabel, IsFound, IsToken, Text}
use Rattle.markdown_text.specs.declared.attention.Attention.{Attention}
use Rattle.markdown_text.specs.declared.token.Found.{Found}
use Rattle.markdown_text.specs.declared.token.Token.{Token}
use Rattle.markdown_text.specs.declared.token.TokenKind.{TokenKind}
use Rattle.markdown_text.specs.declared.token.TokenKind.TheVariants.{Autolink, AutolinkLiteral, CharacterEscape, CharacterReference, CodeText, HardBreakEscape, HtmlText, LabelEnd, LabelStart, LineEnding, MathText, TaskListItemCheck, Attention as Delimiters}

-- ---- Kinds

-- A token that begins with no marker, and is of no label.
pub plain_kind : (text : Text) (kind : TokenKind) (from to : ℕ) → IsToken text kind from to → (IsMarker (slice_index text.bytes from) → ⊥) → (BeginsLabel (slice_index text.bytes from) → ⊥) → slice_index text.bytes from ≢ 93 → (is_delimiters kind ≡ false) × IsNoLabel kind
plain_kind text LineEnding from to t marker label closing = (refl, tt)
plain_kind text HardBreakEscape from to t marker label closing = (refl, tt)
plain_kind text CharacterEscape from to t marker label closing = (refl, tt)
plain_kind text (CharacterReference kind) from to t marker label closing = (refl, tt)
plain_kind text (CodeText size) from to t marker label closing = (refl, tt)
plain_kind text (MathText size) from to t marker label closing = (refl, tt)
plain_kind text (Autolink name) from to t marker label closing = (refl, tt)
plain_kind text HtmlText from to t marker label closing = (refl, tt)
plain_kind text (AutolinkLiteral name) from to t marker label closing = (refl, tt)
plain_kind text Delimiters from to t marker label closing = absurd (marker t.1)
plain_kind text (LabelStart labelled) from to t marker label closing = absurd (label t.2)
plain_kind text (LabelEnd labelled target) from to t marker label closing = absurd (closing t.3)
plain_kind text (TaskListItemCheck is_checked) from to t marker label closing = (refl, tt)

-- ---- One token more

with_last : (ts : List Token) (t : Token) → delimiter_tokens (ts ++ t ∷ []) ≡ delimiter_tokens ts ++ (if is_delimiters t.kind then t ∷ [] else [])
with_last [] t = by (is_delimiters t.kind)
  where
    by : (b : Bool) → (if b then t ∷ [] else []) ≡ [] ++ (if b then t ∷ [] else [])
    by true = refl
    by false = refl
with_last (u ∷ ts) t = by (is_delimiters u.kind) (with_last ts t)
  where
    last : List Token
    last = if is_delimiters t.kind then t ∷ [] else []

    by : (b : Bool) → delimiter_tokens (ts ++ t ∷ []) ≡ delimiter_tokens ts ++ last → (if b then u ∷ delimiter_tokens (ts ++ t ∷ []) else delimiter_tokens (ts ++ t ∷ [])) ≡ (if b then u ∷ delimiter_tokens ts else delimiter_tokens ts) ++ last
    by true later = ap (λ us. u ∷ us) later
    by false later = later

with_plain : (ts : List Token) (t : Token) → is_delimiters t.kind ≡ false → delimiter_tokens (ts ++ t ∷ []) ≡ delimiter_tokens ts
with_plain ts t is = with_last ts t ∙ ap (λ (b : Bool). delimiter_tokens ts ++ (if b then t ∷ [] else [])) is ∙ append-nil (delimiter_tokens ts)

with_run : (ts : List Token) (t : Token) → is_delimiters t.kind ≡ true → delimiter_tokens (ts ++ t ∷ []) ≡ delimiter_tokens ts ++ t ∷ []
with_run ts t is = with_last ts t ∙ ap (λ (b : Bool). delimiter_tokens ts ++ (if b then t ∷ [] else [])) is

runs_with : (content : List ℕ) (ts : List Token) (runs : List DelimiterRun) (t : Token) (run : DelimiterRun) → AreRuns content ts runs → IsRunOf content t run → AreRuns content (ts ++ t ∷ []) (runs ++ run ∷ [])
runs_with content [] [] t run are is = (is, tt)
runs_with content [] (r ∷ runs) t run are is = absurd are
runs_with content (u ∷ ts) [] t run are is = absurd are
runs_with content (u ∷ ts) (r ∷ runs) t run are is = (are.0, runs_with content ts runs t run are.1 is)

views_with : (runs : List Run) (run : Run) → views (runs ++ run ∷ []) ≡ views runs ++ view run ∷ []
views_with [] run = refl
views_with (r ∷ runs) run = ap (λ rs. view r ∷ rs) (views_with runs run)

-- ---- All runs

in_more : (ts us : List Token) (at : ℕ) → IsInToken ts at → IsInToken (ts ++ us) at
in_more [] us at is = absurd is
in_more (t ∷ ts) us at (inl here) = inl here
in_more (t ∷ ts) us at (inr there) = inr (in_more ts us at there)

in_last : (ts : List Token) (t : Token) (at : ℕ) → t.start ≤ at → at < t.end → IsInToken (ts ++ t ∷ []) at
in_last [] t at least less = inl (least, less)
in_last (u ∷ ts) t at least less = inr (in_last ts t at least less)

-- with a token more
all_more : (options : ParseOptions) (content : List ℕ) (ts : List Token) (t : Token) (at to : ℕ) → AreAllRuns options content ts at → t.start ≡ at → t.end ≡ to → (is_delimiters t.kind ≡ true → counts options (slice_index content t.start) (t.end - t.start) ≡ true)
    → AreAllRuns options content (ts ++ t ∷ []) to
all_more options content ts t at to all start end counted = record {
  counted = All-push (λ (u : Token). is_delimiters u.kind ≡ true → counts options (slice_index content u.start) (u.end - u.start) ≡ true) ts t all.counted counted;
  others = λ k less marker. elim (cases_lt k at) [
    | inl before ↦ elim (all.others k before marker) [
      | inl known ↦ inl (in_more ts (t ∷ []) k known)
      | inr text ↦ inr text
    ]
    | inr least ↦ inl (in_last ts t k (omega (arith, start, least)) (omega (arith, end, less)))
  ];
}

-- with data more
all_data_more : (options : ParseOptions) (content : List ℕ) (ts : List Token) (at to : ℕ) → AreAllRuns options content ts at → ((k : ℕ) → at ≤ k → k < to → IsMarker (slice_index content k) → StaysText options content k) → AreAllRuns options content ts to
all_data_more options content ts at to all text = record {
  counted = all.counted;
  others = λ k less marker. elim (cases_lt k at) [
    | inl before ↦ all.others k before marker
    | inr least ↦ inr (text k least less marker)
  ];
}

-- ---- What waits

not_both : (b : Bool) → b ≡ true → b ≡ false → ⊥
not_both b first second = let e : true ≡ false = sym first ∙ second in cc e

-- The runs wait where nothing is found but data, or a token that is no run and no label.
pub wait_kept : (options : ParseOptions) (content : List ℕ) (ts : List Token) (at : ℕ) (found : Found) (old new : Attention) → Wait options content ts at old → new ≡ old
    → ((kind : TokenKind) → found.kind ≡ Some kind → HasNoClosing content → (is_delimiters kind ≡ false) × IsNoLabel kind)
    → (found.kind ≡ None → (k : ℕ) → at ≤ k → k < at + found.size → IsMarker (slice_index content k) → StaysText options content k) → WaitWith options content ts at found new
wait_kept options content ts at found old new wait same plain text us with open_ended = by found.kind refl with
  where
    waiting : AreWaiting options content ts at old
    waiting = wait open_ended

    to : ℕ
    to = at + found.size

    by : (kind : Option TokenKind) → found.kind ≡ kind → IsWith ts at kind to us → AreWaiting options content us to new
    by None is with =
        let here : AreWaiting options content ts to old = record { no_labels = waiting.no_labels; runs = waiting.runs; all = all_data_more options content ts at to waiting.all (text is); untouched = waiting.untouched } in
        subst (λ (vs : List Token). AreWaiting options content vs to new) (sym with) (subst (AreWaiting options content ts to) (sym same) here)
    by (Some kind) is (t, of, start, end, all) =
        let p : (is_delimiters kind ≡ false) × IsNoLabel kind = plain kind is open_ended in
        let no : is_delimiters t.kind ≡ false = ap is_delimiters of ∙ p.0 in
        let none : delimiter_tokens (ts ++ t ∷ []) ≡ delimiter_tokens ts = with_plain ts t no in
        subst (λ (vs : List Token). AreWaiting options content vs to new) (sym all) (subst (AreWaiting options content (ts ++ t ∷ []) to) (sym same) (
        record {
          no_labels = All-push (λ (u : Token). IsNoLabel u.kind) ts t waiting.no_labels (subst IsNoLabel (sym of) p.1);
          runs = subst (λ (vs : List Token). AreRuns content vs (views old.runs.items)) (sym none) waiting.runs;
          all = all_more options content ts t at to waiting.all start end (λ run. absurd (not_both (is_delimiters t.kind) run no));
          untouched = waiting.untouched;
        }))

-- One run more waits where its token is found.
pub wait_more : (options : ParseOptions) (content : List ℕ) (ts : List Token) (at : ℕ) (found : Found) (old new : Attention) (run : Run) → Wait options content ts at old → new.runs.items ≡ old.runs.items ++ run ∷ [] → new.delimiters ≡ old.delimiters
    → found.kind ≡ Some Delimiters → counts options (slice_index content at) found.size ≡ true → ((t : Token) → t.start ≡ at → t.end ≡ at + found.size → IsRunOf content t (view run)) → WaitWith options content ts at found new
wait_more options content ts at found old new run wait runs same is count run_of us with open_ended = by (subst (λ (k : Option TokenKind). IsWith ts at k to us) is with)
  where
    waiting : AreWaiting options content ts at old
    waiting = wait open_ended

    to : ℕ
    to = at + found.size

    by : IsWith ts at (Some Delimiters) to us → AreWaiting options content us to new
    by (t, of, start, end, all) =
        let last : delimiter_tokens (ts ++ t ∷ []) ≡ delimiter_tokens ts ++ t ∷ [] = with_run ts t (ap is_delimiters of) in
        let seen : views new.runs.items ≡ views old.runs.items ++ view run ∷ [] = ap views runs ∙ views_with old.runs.items run in
        let size : t.end - t.start ≡ found.size = omega (arith, start, end) in
        subst (λ (vs : List Token). AreWaiting options content vs to new) (sym all) (
        record {
          no_labels = All-push (λ (u : Token). IsNoLabel u.kind) ts t waiting.no_labels (subst IsNoLabel (sym of) tt);
          runs = subst (λ (vs : List Token). AreRuns content vs (views new.runs.items)) (sym last) (subst (AreRuns content (delimiter_tokens ts ++ t ∷ [])) (sym seen) (runs_with content (delimiter_tokens ts) (views old.runs.items) t (view run) waiting.runs (run_of t start end)));
          all = all_more options content ts t at to waiting.all start end (λ is_run. ap (λ (n : ℕ). counts options (slice_index content n) (t.end - t.start)) start ∙ ap (counts options (slice_index content at)) size ∙ count);
          untouched = ap (λ ds. ds.items) same ∙ waiting.untouched;
        })

-- No run more waits where the markers at an offset do not count.
pub wait_text : (options : ParseOptions) (content : List ℕ) (ts : List Token) (at : ℕ) (found : Found) (old : Attention) → Wait options content ts at old → found.kind ≡ None → Leaves (delimiter_run (slice_index content at)) (drop at content) (drop (at + found.size) content)
    → counts options (slice_index content at) found.size ≡ false → WaitWith options content ts at found old
wait_text options content ts at found old wait none all count = wait_kept options content ts at found old old wait refl (λ kind of open_ended. absurd (no kind of)) text
  where
    no : (kind : TokenKind) → found.kind ≡ Some kind → ⊥
    no kind of = let e : None ≡ Some kind = sym none ∙ of in cc e

    text : found.kind ≡ None → (k : ℕ) → at ≤ k → k < at + found.size → IsMarker (slice_index content k) → StaysText options content k
    text is k least less marker = record { start = at; end = at + found.size; least = least; less = less; all = all; none = ap (counts options (slice_index content at)) size ∙ count }
      where
        size : at + found.size - at ≡ found.size
        size = omega arith

-- ---- The pairs

all_data : (size at : ℕ) → get_or (replicate size Data) at Data ≡ Data
all_data zero at = refl
all_data (suc size) zero = refl
all_data (suc size) (suc at) = all_data size at

-- What begins at each offset once all runs are resolved.
pub pairs_of : (options : ParseOptions) (content : List ℕ) (ts : List Token) (old : Attention) (delimiters : List Delimiter) → AreWaiting options content ts (length content) old → AreResolved (views (drop 0 old.runs.items)) (room (drop 0 old.runs.items) (length content) old.delimiters.items) delimiters → ArePairsOf options content ts delimiters
pairs_of options content ts old delimiters waiting resolved = record {
  no_labels = waiting.no_labels;
  runs = views old.runs.items;
  are = waiting.runs;
  all = waiting.all;
  pairs = resolved.pairs;
  resolves = resolved.resolves;
  delimiters_are = by old.runs.items resolved.pairs resolved.resolves resolved.delimiters_are;
}
  where
    by : (runs : List Run) (pairs : List Pair) → Resolves (views runs) pairs → delimiters ≡ marked pairs (room runs (length content) old.delimiters.items) → (at : ℕ) → get_or delimiters at Data ≡ get_or (marked pairs (replicate (length content) Data)) at Data
    by [] pairs resolves are at =
        let none : pairs ≡ [] = none_of_none pairs resolves in
        ap (λ ds. get_or ds at Data) (are ∙ ap (λ ps. marked ps old.delimiters.items) none ∙ waiting.untouched) ∙ sym (ap (λ ps. get_or (marked ps (replicate (length content) Data)) at Data) none ∙ all_data (length content) at)
    by (r ∷ runs) pairs resolves are at =
        ap (λ ds. get_or ds at Data) (are ∙ ap (λ ds. marked pairs (begun (length content) ds)) waiting.untouched)

-- Without markers there is none.
pub no_pairs : (options : ParseOptions) (content : List ℕ) (ts : List Token) (delimiters : List Delimiter) → ts ≡ [] → delimiters ≡ [] → ((k : ℕ) → k < length content → IsMarker (slice_index content k) → ⊥) → ArePairsOf options content ts delimiters
no_pairs options content ts delimiters no_tokens no_delimiters none =
    subst (λ (tokens : List Token). ArePairsOf options content tokens delimiters) (sym no_tokens) (record {
      no_labels = All-nil (λ (t : Token). IsNoLabel t.kind);
      runs = [];
      are = tt;
      all = record { counted = All-nil (λ (t : Token). is_delimiters t.kind ≡ true → counts options (slice_index content t.start) (t.end - t.start) ≡ true); others = λ k less marker. absurd (none k less marker) };
      pairs = [];
      resolves = done [] tt;
      delimiters_are = λ at. ap (λ ds. get_or ds at Data) no_delimiters ∙ sym (all_data (length content) at);
    })

-- ---- What is found

-- the run of a token, by where the token is
pub run_of : (content : List ℕ) (at size : ℕ) (run : DelimiterRun) → 0 < size → Leaves (delimiter_run (slice_index content at)) (drop at content) (drop size (drop at content)) → IsWhole run (slice_index content at) at size run.can_open run.can_close → Flanked (slice_index content at) (take at content) (drop size (drop at content)) run.can_open run.can_close
    → (t : Token) → t.start ≡ at → t.end ≡ at + size → IsRunOf content t run
run_of content at size run some all whole flanked t start end =
    let long : size ≡ t.end - t.start = omega (arith, start, end) in
    record {
      some = omega (arith, start, end, some);
      all = subst (λ (n : ℕ). Leaves (delimiter_run (slice_index content n)) (drop n content) (drop t.end content)) (sym start)
          (subst (λ (rest : List ℕ). Leaves (delimiter_run (slice_index content at)) (drop at content) rest) (drop-drop size at content ∙ ap (λ (n : ℕ). drop n content) (sym end)) all);
      whole = subst (λ (n : ℕ). IsWhole run (slice_index content n) n (t.end - t.start) run.can_open run.can_close) (sym start) (subst (λ (n : ℕ). IsWhole run (slice_index content at) at n run.can_open run.can_close) long whole);
      flanked = subst (λ (n : ℕ). Flanked (slice_index content n) (take n content) (drop t.end content) run.can_open run.can_close) (sym start)
          (subst (λ (rest : List ℕ). Flanked (slice_index content at) (take at content) rest run.can_open run.can_close) (drop-drop size at content ∙ ap (λ (n : ℕ). drop n content) (sym end)) flanked);
    }

-- data that begins with no marker, and has none after that
no_markers : (content : List ℕ) (at : ℕ) (found : Found) → (IsMarker (slice_index content at) → ⊥) → HasNoLaterMarker content at found → found.kind ≡ None → (k : ℕ) → at ≤ k → k < at + found.size → IsMarker (slice_index content k) → ⊥
no_markers content at found first later none k least less marker = elim (cases_lt at k) [
  | inl more ↦ later none k more less marker
  | inr most ↦ first (subst (λ (n : ℕ). IsMarker (slice_index content n)) (same k most least) marker)
]
  where
    same : (k : ℕ) → k ≤ at → at ≤ k → k ≡ at
    same k most least = omega (arith, most, least)

-- the runs wait where what is found begins with no marker, and is no part of a label
pub wait_other : (options : ParseOptions) (text : Text) (ts : List Token) (at : ℕ) (found : Found) (old new : Attention) → Wait options text.bytes ts at old → new ≡ old → IsFound text found.kind at (at + found.size) → (IsMarker (slice_index text.bytes at) → ⊥) → (BeginsLabel (slice_index text.bytes at) → ⊥)
    → HasNoLaterMarker text.bytes at found → WaitWith options text.bytes ts at found new
wait_other options text ts at found old new wait same is marker label later =
    wait_kept options text.bytes ts at found old new wait same (λ kind of open_ended. plain_kind text kind at (at + found.size) (subst (λ (k : Option TokenKind). IsFound text k at (at + found.size)) of is) marker label (open_ended at))
    (λ none k least less m. absurd (no_markers text.bytes at found marker later none k least less m))

-- the same of a start of a label, of which nothing is known yet
pub wait_label : (options : ParseOptions) (content : List ℕ) (ts : List Token) (at : ℕ) (found : Found) (old new : Attention) → Wait options content ts at old → new ≡ old → (found.kind ≡ None) ⊎ (found.kind ≡ Some (LabelStart None)) → (IsMarker (slice_index content at) → ⊥) → HasNoLaterMarker content at found → WaitWith options content ts at found new
wait_label options content ts at found old new wait same is marker later =
    wait_kept options content ts at found old new wait same (λ kind of open_ended. by is kind of) (λ none k least less m. absurd (no_markers content at found marker later none k least less m))
  where
    by : (found.kind ≡ None) ⊎ (found.kind ≡ Some (LabelStart None)) → (kind : TokenKind) → found.kind ≡ Some kind → (is_delimiters kind ≡ false) × IsNoLabel kind
    by (inl none) kind of = let e : None ≡ Some kind = sym none ∙ of in absurd (cc e)
    by (inr start) kind of =
        let e : LabelStart None ≡ kind = same_Some (LabelStart None) kind (sym start ∙ of) in
        subst (λ (k : TokenKind). (is_delimiters k ≡ false) × IsNoLabel k) e (refl, tt)

-- the same of the mark of a task
pub wait_task : (options : ParseOptions) (content : List ℕ) (ts : List Token) (at : ℕ) (found : Found) (old : Attention) (is_checked : Bool) → Wait options content ts at old → found.kind ≡ Some (TaskListItemCheck is_checked) → WaitWith options content ts at found old
wait_task options content ts at found old is_checked wait is = wait_kept options content ts at found old old wait refl by (λ none. absurd (no none))
  where
    no : found.kind ≡ None → ⊥
    no none = let e : None ≡ Some (TaskListItemCheck is_checked) = sym none ∙ is in cc e

    by : (kind : TokenKind) → found.kind ≡ Some kind → HasNoClosing content → (is_delimiters kind ≡ false) × IsNoLabel kind
    by kind of open_ended =
        let e : TaskListItemCheck is_checked ≡ kind = same_Some (TaskListItemCheck is_checked) kind (sym is ∙ of) in
        subst (λ (k : TokenKind). (is_delimiters k ≡ false) × IsNoLabel k) e (refl, tt)

-- nothing is found yet
pub none_waits : (options : ParseOptions) (content : List ℕ) (attention : Attention) → attention.runs.items ≡ [] → attention.delimiters.items ≡ [] → Wait options content [] 0 attention
none_waits options content attention runs delimiters open_ended = record {
  no_labels = All-nil (λ (t : Token). IsNoLabel t.kind);
  runs = subst (λ rs. AreRunsOf content [] (views rs)) (sym runs) tt;
  all = record { counted = All-nil (λ (t : Token). is_delimiters t.kind ≡ true → counts options (slice_index content t.start) (t.end - t.start) ≡ true); others = λ k less marker. absurd (omega (arith, less)) };
  untouched = delimiters;
}

-- ---- Data

-- the bytes after the first are no markers
pub later_of : (content : List ℕ) (at count : ℕ) (found : Found) → ((i : ℕ) → i < count → IsMarker (slice_index (drop (at + 1) content) i) → ⊥) → found.size ≡ 1 + count → HasNoLaterMarker content at found
later_of content at count found none size is k more less marker = none i (omega (arith, more, less, size)) (subst IsMarker (sym (get_or-drop (at + 1) content i 0 ∙ ap (slice_index content) place)) marker)
  where
    i : ℕ
    i = k - (at + 1)

    place : at + 1 + i ≡ k
    place = omega (arith, more)

-- nor are those of a run of other bytes
pub run_later : (content : List ℕ) (at size byte : ℕ) (found : Found) → IsRunOfBytes (drop at content) byte size → (IsMarker byte → ⊥) → found.size ≡ size → HasNoLaterMarker content at found
run_later content at size byte found run other same is k more less marker = other (subst IsMarker (sym (get_or-drop at content i 0 ∙ ap (slice_index content) place) ∙ run i (omega (arith, more, less, same))) marker)
  where
    i : ℕ
    i = k - at

    place : at + i ≡ k
    place = omega (arith, more)
