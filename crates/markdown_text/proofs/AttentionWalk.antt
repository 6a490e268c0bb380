-- The second pass over the delimiters of a content.
use Rattle.std.proofs.Common.{Bool, Err, List, None, Ok, OnOk, Option, Result, Some, [], ap, arith, drop, false, get_or, inl, inr, length, refl, subst, suc, sym, take, zero, ℕ, ◌+◌, ◌++◌, ◌-◌, ◌<◌, ◌∙◌, ◌∷◌, ◌≡◌, ◌≤◌}
use Rattle.std.proofs.lemmas.List.{append-nil, append_assoc}
use Rattle.std.proofs.lemmas.List.Elements.{All-rest}
use Rattle.markdown_attention.proofs.OpenPairs.{some_markers}
use Rattle.markdown_attention.specs.Emphasis.{kind_size}
use Rattle.markdown_attention.specs.Sequences.{AreBalanced}
use Rattle.markdown_attention.specs.declared.delimiter.AttentionKind.{AttentionKind}
use Rattle.markdown_attention.specs.declared.delimiter.Delimiter.{Delimiter}
use Rattle.markdown_attention.specs.declared.delimiter.Delimiter.TheVariants.{Closing, Data, Opening}
use Rattle.markdown_events.specs.Forest.{enter, exit}
use Rattle.markdown_events.specs.declared.event.Event.{Event}
use Rattle.markdown_events.specs.declared.event.Point.{Point}
use Rattle.markdown_text.proofs.Found.{token_range}
use Rattle.markdown_text.specs.AttentionEvents.{IsSpotOf, WritesAttention, attention_of}
use Rattle.markdown_text.specs.AttentionRuns.{is_delimiters}
use Rattle.markdown_text.specs.AttentionWaiting.{IsNoLabel}
use Rattle.markdown_text.specs.AttentionSpans.{AreEventsOf, Enters, Exits, Place}
use Rattle.markdown_text.specs.AttentionWalk.{AreApart, HasWalked, Holds, IsDataFrom, IsWalkOf, StandInTokens, Walk, WalksOn, open_of}
use Rattle.markdown_text.specs.Contents.{spot}
use Rattle.markdown_text.specs.Opens.{group_name}
use Rattle.markdown_text.specs.Outputs.{GoesOn, WritesTo, bytes_of}
use Rattle.markdown_text.specs.Tokens.{AreTokens, IsToken, Text}
use Rattle.markdown_text.specs.declared.output.Output.{Output}
use Rattle.markdown_text.specs.declared.text.Open.{Open}
use Rattle.markdown_text.specs.declared.text.Open.TheVariants.{Attention}
use Rattle.markdown_text.specs.declared.token.Labelled.{Labelled}
use Rattle.markdown_text.specs.declared.token.Token.{Token}
use Rattle.markdown_text.specs.declared.token.TokenKind.{TokenKind}
use Rattle.markdown_text.specs.declared.token.TokenKind.TheVariants.{LabelStart, TaskListItemCheck}

-- ---- Lists

next : (n : ℕ) → suc n + 1 ≡ suc (n + 1)
next n = omega arith

take_one : (ds : List Delimiter) (at : ℕ) → at < length ds → take (at + 1) ds ≡ take at ds ++ get_or ds at Data ∷ []
take_one [] at less = absurd (omega (arith, less))
take_one (d ∷ ds) zero less = refl
take_one (d ∷ ds) (suc at) less = ap (λ n. take n (d ∷ ds)) (next at) ∙ ap (λ es. d ∷ es) (take_one ds at (omega (arith, less)))

drop_one : (ds : List Delimiter) (at : ℕ) → at < length ds → drop at ds ≡ get_or ds at Data ∷ drop (at + 1) ds
drop_one [] at less = absurd (omega (arith, less))
drop_one (d ∷ ds) zero less = refl
drop_one (d ∷ ds) (suc at) less = drop_one ds at (omega (arith, less)) ∙ ap (λ n. get_or ds at Data ∷ drop n (d ∷ ds)) (sym (next at))

length_taken : (ds : List Delimiter) (at : ℕ) → at ≤ length ds → length (take at ds) ≡ at
length_taken ds zero most = refl
length_taken [] (suc at) most = absurd (omega (arith, most))
length_taken (d ∷ ds) (suc at) most = ap suc (length_taken ds at (omega (arith, most)))

-- ---- Events

events_then : (place : Place) (from : ℕ) (xs ys : List Delimiter) (es fs : List Event) → AreEventsOf place from xs es → AreEventsOf place (from + length xs) ys fs → AreEventsOf place from (xs ++ ys) (es ++ fs)
events_then place from [] ys [] fs h k = subst (λ n. AreEventsOf place n ys fs) (omega arith) k
events_then place from [] ys (e ∷ es) fs h k = absurd h
events_then place from (Data ∷ xs) ys es fs h k = events_then place (from + 1) xs ys es fs h (subst (λ n. AreEventsOf place n ys fs) (omega arith) k)
events_then place from (Opening kind ∷ xs) ys [] fs h k = absurd h
events_then place from (Opening kind ∷ xs) ys (e ∷ es) fs h k = (h.0, events_then place (from + 1) xs ys es fs h.1 (subst (λ n. AreEventsOf place n ys fs) (omega arith) k))
events_then place from (Closing kind ∷ xs) ys [] fs h k = absurd h
events_then place from (Closing kind ∷ xs) ys (e ∷ es) fs h k = (h.0, events_then place (from + 1) xs ys es fs h.1 (subst (λ n. AreEventsOf place n ys fs) (omega arith) k))

-- one delimiter more
events_one : (place : Place) (ds : List Delimiter) (at : ℕ) (es fs : List Event) → at < length ds → AreEventsOf place 0 (take at ds) es → AreEventsOf place at (get_or ds at Data ∷ []) fs → AreEventsOf place 0 (take (at + 1) ds) (es ++ fs)
events_one place ds at es fs less h k =
    let size : length (take at ds) ≡ at = length_taken ds at (omega (arith, less)) in
    subst (λ xs. AreEventsOf place 0 xs (es ++ fs)) (sym (take_one ds at less)) (events_then place 0 (take at ds) (get_or ds at Data ∷ []) es fs h (subst (λ n. AreEventsOf place n (get_or ds at Data ∷ []) fs) (omega (arith, size)) k))

-- ---- Where nothing begins

balanced_data : (kinds : List AttentionKind) (ds : List Delimiter) (at : ℕ) → at < length ds → get_or ds at Data ≡ Data → AreBalanced kinds (drop at ds) → AreBalanced kinds (drop (at + 1) ds)
balanced_data kinds ds at less is h = by kinds (subst (AreBalanced kinds) (drop_one ds at less ∙ ap (λ d. d ∷ drop (at + 1) ds) is) h)
  where
    by : (kinds : List AttentionKind) → AreBalanced kinds (Data ∷ drop (at + 1) ds) → AreBalanced kinds (drop (at + 1) ds)
    by [] k = k
    by (kind ∷ kinds) k = k

events_data : (place : Place) (ds : List Delimiter) (at : ℕ) (es : List Event) → at < length ds → get_or ds at Data ≡ Data → AreEventsOf place 0 (take at ds) es → AreEventsOf place 0 (take (at + 1) ds) es
events_data place ds at es less is h = subst (AreEventsOf place 0 (take (at + 1) ds)) (append-nil es) (events_one place ds at es [] less h (subst (λ d. AreEventsOf place at (d ∷ []) []) (sym is) tt))

walk_data : {R S : Type 0} (walk : Walk) (output : Output R S) (constructs : List Open) (size from : ℕ) → from + size ≤ length walk.delimiters → IsDataFrom walk.delimiters from (from + size) → HasWalked walk output constructs from → HasWalked walk output constructs (from + size)
walk_data walk output constructs zero from most none walked = subst (HasWalked walk output constructs) (omega arith) walked
walk_data {R} walk output constructs (suc size) from most none walked =
    let ds = walk.delimiters in
    let here : get_or ds from Data ≡ Data = none from (omega arith) (omega arith) in
    let next : HasWalked walk output constructs (from + 1) = record {
      document = walked.document;
      content = walked.content;
      stop = walked.stop;
      kinds = walked.kinds;
      are_open = walked.are_open;
      balanced = balanced_data walked.kinds ds from (omega (arith, most)) here walked.balanced;
      events = walked.events;
      written = walked.written;
      are_events = events_data walk.place ds from walked.events (omega (arith, most)) here walked.are_events;
    } in
    subst (HasWalked walk output constructs) (omega arith) (walk_data walk output constructs size (from + 1) (omega (arith, most)) (λ at least less. none at (omega (arith, least)) (omega (arith, less))) next)

pub walked_data : {R S : Type 0} (walk : Walk) (output : Output R S) (constructs : List Open) (from to : ℕ) → from ≤ to → to ≤ length walk.delimiters → IsDataFrom walk.delimiters from to → HasWalked walk output constructs from → HasWalked walk output constructs to
walked_data walk output constructs from to order most none walked =
    let sum : from + (to - from) ≡ to = omega (arith, order) in
    subst (HasWalked walk output constructs) sum (walk_data walk output constructs (to - from) from (omega (arith, order, most)) (subst (IsDataFrom walk.delimiters from) (sym sum) none) walked)

-- The same content is written on, and no span of attention begins or ends.
pub walked_on : {R S : Type 0} (walk : Walk) (old new : Output R S) (constructs : List Open) (at : ℕ) → GoesOn old new → attention_of new ≡ attention_of old → HasWalked walk old constructs at → HasWalked walk new constructs at
walked_on walk old new constructs at goes same walked = record {
  document = goes.document ∙ walked.document;
  content = goes.bytes ∙ walked.content;
  stop = goes.end ∙ walked.stop;
  kinds = walked.kinds;
  are_open = walked.are_open;
  balanced = walked.balanced;
  events = walked.events;
  written = same ∙ walked.written;
  are_events = walked.are_events;
}

-- ---- A span that begins

balanced_opening : (kinds : List AttentionKind) (kind : AttentionKind) (ds : List Delimiter) (at : ℕ) → at < length ds → get_or ds at Data ≡ Opening kind → AreBalanced kinds (drop at ds) → AreBalanced (kind ∷ kinds) (drop (at + 1) ds)
balanced_opening kinds kind ds at less is h = by kinds (subst (AreBalanced kinds) (drop_one ds at less ∙ ap (λ d. d ∷ drop (at + 1) ds) is) h)
  where
    by : (kinds : List AttentionKind) → AreBalanced kinds (Opening kind ∷ drop (at + 1) ds) → AreBalanced (kind ∷ kinds) (drop (at + 1) ds)
    by [] k = k
    by (other ∷ kinds) k = k

spot_as : (document document' content content' : List ℕ) (stop stop' : _) (at : ℕ) (p : Point) → document ≡ document' → content ≡ content' → stop ≡ stop' → IsSpotOf document content stop at (spot p) → IsSpotOf document' content' stop' at (spot p)
spot_as document document' content content' stop stop' at p d c s h =
    subst (λ x. IsSpotOf x content' stop' at (spot p)) d (subst (λ x. IsSpotOf document x stop' at (spot p)) c (subst (λ x. IsSpotOf document content x at (spot p)) s h))

pub walked_opening : {R S : Type 0} (walk : Walk) (old new : Output R S) (constructs after : List Open) (at : ℕ) (kind : AttentionKind) → HasWalked walk old constructs at → at < length walk.delimiters → get_or walk.delimiters at Data ≡ Opening kind
    → GoesOn old new → WritesAttention old new at (enter (group_name kind)) → after ≡ constructs ++ Attention kind ∷ [] → HasWalked walk new after (at + 1)
walked_opening walk old new constructs after at kind walked less is goes writes opens =
    let p = writes.point in
    let e = enter (group_name kind) p in
    let here : Enters walk.place kind at e = (p, spot_as _ _ _ _ _ _ at p walked.document walked.content walked.stop writes.place, refl) in
    record {
      document = goes.document ∙ walked.document;
      content = goes.bytes ∙ walked.content;
      stop = goes.end ∙ walked.stop;
      kinds = kind ∷ walked.kinds;
      are_open = opens ∙ ap (λ os. os ++ Attention kind ∷ []) walked.are_open;
      balanced = balanced_opening walked.kinds kind walk.delimiters at less is walked.balanced;
      events = walked.events ++ e ∷ [];
      written = writes.events ∙ ap (λ es. es ++ e ∷ []) walked.written ∙ append_assoc walk.before walked.events (e ∷ []);
      are_events = events_one walk.place walk.delimiters at walked.events (e ∷ []) less walked.are_events (subst (λ d. AreEventsOf walk.place at (d ∷ []) (e ∷ [])) (sym is) (here, tt));
    }

-- ---- A span that ends

-- the innermost kind, and those around it
pub record Innermost (kind : AttentionKind) (kinds : List AttentionKind) (rest : List Delimiter) : Type 0 where
  pub outer : List AttentionKind
  pub is : kinds ≡ kind ∷ outer
  pub balanced : AreBalanced outer rest

balanced_closing : (kinds : List AttentionKind) (kind : AttentionKind) (ds : List Delimiter) (at : ℕ) → at < length ds → get_or ds at Data ≡ Closing kind → AreBalanced kinds (drop at ds) → Innermost kind kinds (drop (at + 1) ds)
balanced_closing kinds kind ds at less is h = by kinds (subst (AreBalanced kinds) (drop_one ds at less ∙ ap (λ d. d ∷ drop (at + 1) ds) is) h)
  where
    by : (kinds : List AttentionKind) → AreBalanced kinds (Closing kind ∷ drop (at + 1) ds) → Innermost kind kinds (drop (at + 1) ds)
    by [] k = absurd k
    by (other ∷ kinds) k = record { outer = kinds; is = ap (λ x. x ∷ kinds) k.0; balanced = k.1 }

-- the construct that a closing sequence closes is the innermost
pub closes_innermost : {R S : Type 0} (walk : Walk) (output : Output R S) (constructs : List Open) (at : ℕ) (kind : AttentionKind) → HasWalked walk output constructs at → at < length walk.delimiters → get_or walk.delimiters at Data ≡ Closing kind → (os : List Open) × (constructs ≡ os ++ Attention kind ∷ [])
closes_innermost walk output constructs at kind walked less is =
    let i = balanced_closing walked.kinds kind walk.delimiters at less is walked.balanced in
    (open_of i.outer, walked.are_open ∙ ap open_of i.is)

last_same : (xs ys : List Open) (x y : Open) → xs ++ x ∷ [] ≡ ys ++ y ∷ [] → xs ≡ ys
last_same [] [] x y e = refl
last_same [] (v ∷ ys) x y e = absurd (more ys y (tail e))
  where
    tail : x ∷ [] ≡ v ∷ (ys ++ y ∷ []) → [] ≡ ys ++ y ∷ []
    tail f = cc f

    more : (zs : List Open) (z : Open) → [] ≡ zs ++ z ∷ [] → ⊥
    more [] z f = cc f
    more (w ∷ zs) z f = cc f
last_same (u ∷ xs) [] x y e = absurd (more xs x (tail e))
  where
    tail : u ∷ (xs ++ x ∷ []) ≡ y ∷ [] → xs ++ x ∷ [] ≡ []
    tail f = cc f

    more : (zs : List Open) (z : Open) → zs ++ z ∷ [] ≡ [] → ⊥
    more [] z f = cc f
    more (w ∷ zs) z f = cc f
last_same (u ∷ xs) (v ∷ ys) x y e =
    let first : u ≡ v = cc e in
    let rest : xs ++ x ∷ [] ≡ ys ++ y ∷ [] = cc e in
    ap (λ z. z ∷ xs) first ∙ ap (λ zs. v ∷ zs) (last_same xs ys x y rest)

pub walked_closing : {R S : Type 0} (walk : Walk) (old new : Output R S) (constructs after : List Open) (at : ℕ) (kind : AttentionKind) → HasWalked walk old constructs at → at < length walk.delimiters → get_or walk.delimiters at Data ≡ Closing kind
    → GoesOn old new → WritesAttention old new (at + kind_size kind) (exit (group_name kind)) → constructs ≡ after ++ Attention kind ∷ [] → HasWalked walk new after (at + 1)
walked_closing walk old new constructs after at kind walked less is goes writes opens =
    let p = writes.point in
    let e = exit (group_name kind) p in
    let i = balanced_closing walked.kinds kind walk.delimiters at less is walked.balanced in
    let here : Exits walk.place kind (at + kind_size kind) e = (p, spot_as _ _ _ _ _ _ (at + kind_size kind) p walked.document walked.content walked.stop writes.place, refl) in
    record {
      document = goes.document ∙ walked.document;
      content = goes.bytes ∙ walked.content;
      stop = goes.end ∙ walked.stop;
      kinds = i.outer;
      are_open = last_same after (open_of i.outer) (Attention kind) (Attention kind) (sym opens ∙ walked.are_open ∙ ap open_of i.is);
      balanced = i.balanced;
      events = walked.events ++ e ∷ [];
      written = writes.events ∙ ap (λ es. es ++ e ∷ []) walked.written ∙ append_assoc walk.before walked.events (e ∷ []);
      are_events = events_one walk.place walk.delimiters at walked.events (e ∷ []) less walked.are_events (subst (λ d. AreEventsOf walk.place at (d ∷ []) (e ∷ [])) (sym is) (here, tt));
    }

-- ---- The end

-- nothing is open at the end
pub none_open : {R S : Type 0} (walk : Walk) (output : Output R S) (constructs : List Open) → HasWalked walk output constructs (length walk.delimiters) → (constructs ≡ []) × ((es : List Event) × (attention_of output ≡ walk.before ++ es) × AreEventsOf walk.place 0 walk.delimiters es)
none_open walk output constructs walked =
    let rest : drop (length walk.delimiters) walk.delimiters ≡ [] = all_dropped walk.delimiters in
    let all : take (length walk.delimiters) walk.delimiters ≡ walk.delimiters = all_taken walk.delimiters in
    let none : walked.kinds ≡ [] = by walked.kinds (subst (AreBalanced walked.kinds) rest walked.balanced) in (
      walked.are_open ∙ ap open_of none,
      (walked.events, walked.written, subst (λ ds. AreEventsOf walk.place 0 ds walked.events) all walked.are_events),
    )
  where
    all_dropped : (ds : List Delimiter) → drop (length ds) ds ≡ []
    all_dropped [] = refl
    all_dropped (d ∷ ds) = all_dropped ds

    all_taken : (ds : List Delimiter) → take (length ds) ds ≡ ds
    all_taken [] = refl
    all_taken (d ∷ ds) = ap (λ es. d ∷ es) (all_taken ds)

    by : (kinds : List AttentionKind) → AreBalanced kinds [] → kinds ≡ []
    by [] h = refl
    by (kind ∷ kinds) h = absurd h

-- ---- A sequence as a whole

pub written_opening : {R S : Type 0} (walk : Walk) (old new : Output R S) (constructs after : List Open) (at : ℕ) (kind : AttentionKind) → AreApart walk.delimiters → at + kind_size kind ≤ length walk.delimiters → get_or walk.delimiters at Data ≡ Opening kind → HasWalked walk old constructs at
    → GoesOn old new → WritesAttention old new at (enter (group_name kind)) → after ≡ constructs ++ Attention kind ∷ [] → HasWalked walk new after (at + kind_size kind)
written_opening walk old new constructs after at kind apart room is walked goes writes opens =
    let some = some_markers kind in
    walked_data walk new after (at + 1) (at + kind_size kind) (omega (arith, some)) room (apart at kind (inl is)) (walked_opening walk old new constructs after at kind walked (omega (arith, room, some)) is goes writes opens)

pub written_closing : {R S : Type 0} (walk : Walk) (old new : Output R S) (constructs after : List Open) (at : ℕ) (kind : AttentionKind) → AreApart walk.delimiters → at + kind_size kind ≤ length walk.delimiters → get_or walk.delimiters at Data ≡ Closing kind → HasWalked walk old constructs at
    → GoesOn old new → WritesAttention old new (at + kind_size kind) (exit (group_name kind)) → constructs ≡ after ++ Attention kind ∷ [] → HasWalked walk new after (at + kind_size kind)
written_closing walk old new constructs after at kind apart room is walked goes writes closes =
    let some = some_markers kind in
    walked_data walk new after (at + 1) (at + kind_size kind) (omega (arith, some)) room (apart at kind (inr is)) (walked_closing walk old new constructs after at kind walked (omega (arith, room, some)) is goes writes closes)

-- ---- A token that is no run of delimiters

pub plain_token : {R S X E : Type 0} (walk : Walk) (old new : Output R S) (r : Result X E) (constructs : List Open) (text : Text) (t : Token) (delimiters : List Delimiter) → IsWalkOf walk delimiters → Holds walk.delimiters t → is_delimiters t.kind ≡ false
    → text.bytes ≡ bytes_of old → old.«data» ≡ t.start → IsToken text t.kind old.«data» t.end → HasWalked walk old constructs old.«data» → OnOk r (GoesOn old new) → OnOk r (attention_of new ≡ attention_of old) → OnOk r (HasWalked walk new constructs t.end)
plain_token walk old new r constructs text t delimiters is holds plain same start token walked goes none =
    let range = token_range text t.kind old.«data» t.end token in
    let order = range.order in
    let within = range.within in
    let size = is.size in
    let long = ap length (same ∙ walked.content) in
    let here = walked_data walk old constructs old.«data» t.end order (omega (arith, within, size, long)) (subst (λ n. IsDataFrom walk.delimiters n t.end) (sym start) (holds.0 plain)) walked in
    both_on_ok r goes none here
  where
    both_on_ok : {X E : Type 0} (r : Result X E) → OnOk r (GoesOn old new) → OnOk r (attention_of new ≡ attention_of old) → HasWalked walk old constructs t.end → OnOk r (HasWalked walk new constructs t.end)
    both_on_ok (Ok x) goes none here = walked_on walk old new constructs t.end goes none here
    both_on_ok (Err e) goes none here = tt

-- the start of a label that does not end
pub no_label : (labelled : Option Labelled) → IsNoLabel (LabelStart labelled) → labelled ≡ None
no_label None h = refl
no_label (Some labelled) h = absurd h

-- the mark of a task, and the tokens after it
pub walked_task : {R S : Type 0} (walk : Walk) (old new : Output R S) (constructs : List Open) (ts later : List Token) (t : Token) (is_checked : Bool) (text : Text) → old.«data» ≡ 0 → ts ≡ t ∷ later → t.kind ≡ TaskListItemCheck is_checked → AreTokens text 0 ts
    → text.bytes ≡ bytes_of old → length walk.delimiters ≡ length walk.place.content → WritesTo old new 3 → attention_of new ≡ attention_of old → WalksOn walk old constructs ts → WalksOn walk new constructs later
walked_task {R} walk old new constructs ts later t is_checked text start is kind tokens same size writes none walks =
    let first = subst (WalksOn walk old constructs) is walks in
    let found = subst (λ (us : List Token). AreTokens text 0 us) is tokens in
    let token = subst (λ (k : TokenKind). IsToken text k t.start t.end) kind found.1 in
    let from = token.1 in
    let to = token.2 in
    let stand = subst (λ n. StandInTokens walk.delimiters n (t ∷ later)) start first.stand in
    let within = (token.3).within in
    let long = ap length (same ∙ first.walked.content) in
    let none_begins : IsDataFrom walk.delimiters 0 3 = λ at least less. (stand.1).0 (ap is_delimiters kind) at (omega (arith, from, least)) (omega (arith, to, less)) in
    let walked = walked_data walk old constructs 0 3 (omega arith) (omega (arith, within, size, long)) none_begins (subst (HasWalked walk old constructs) start first.walked) in
    record {
      walked = subst (HasWalked walk new constructs) (sym writes.data_end) (walked_on walk old new constructs 3 writes.goes_on none walked);
      no_labels = All-rest (λ (u : Token). IsNoLabel u.kind) t later ts is walks.no_labels;
      stand = subst (λ n. StandInTokens walk.delimiters n later) (to ∙ sym writes.data_end) stand.2;
    }
