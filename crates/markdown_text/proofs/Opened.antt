-- The stages in the constructs of a text that are open.
use Rattle.std.proofs.Common.{Bool, IfSome, List, Some, [], ap, false, is_some, length, length-append, refl, slice_get, subst, sym, take, true, ◌++◌, ◌-◌, ◌+◌, ◌∷◌, ◌∙◌, ◌≡◌, ◌⊎◌, inl, inr, ℕ, arith}
use Rattle.std.proofs.lemmas.List.{take_all, take_at, take_more}
use Rattle.std.proofs.lemmas.Option.{get_or_from_slice_get, slice_get_within}
use Rattle.event_writer.specs.Stages.{Enclosing, Stage, entered, exited, inlines, skips}
use Rattle.event_writer.specs.Written.{Written}
use Rattle.markdown_events.specs.Names.{role_of}
use Rattle.markdown_events.specs.declared.event.Name.{Name}
use Rattle.markdown_events.specs.declared.event.Name.TheVariants.{GfmAutolinkLiteralProtocol, GfmAutolinkLiteralWww, Label, LabelMarker, LabelText}
use Rattle.markdown_events.specs.declared.event.Point.{Point}
use Rattle.markdown_pieces.specs.Walks.{inside}
use Rattle.markdown_text.proofs.Steps.{at_some}
use Rattle.markdown_text.specs.Opens.{HasOpen, flag_of, group_name, label_end_stage, label_stage, label_start_name, labelled_name, opened, outer_of, sequence_name, text_name}
use Rattle.markdown_text.specs.Outputs.{MayPut, after_plain}
use Rattle.markdown_text.specs.Standings.{HasFront, IsAt, MayEnter, MayExit}
use Rattle.markdown_attention.specs.declared.delimiter.AttentionKind.{AttentionKind}
use Rattle.markdown_attention.specs.declared.delimiter.AttentionKind.TheVariants.{DoubleStrikethrough, Emphasis, Strikethrough, Strong}
use Rattle.markdown_text.specs.declared.output.Output.{Output}
use Rattle.markdown_text.specs.declared.text.Open.{Open}
use Rattle.markdown_text.specs.declared.token.Labelled.{Labelled}
use Rattle.markdown_text.specs.declared.token.Labelled.TheVariants.{FootnoteCall, Image, Link}

-- ---- Attention

-- the span of all of it may begin among inlines
pub group_enters : (k : AttentionKind) (h : Bool) → entered (inlines h) (role_of (group_name k)) ≡ Some (inlines false)
group_enters Emphasis h = refl
group_enters Strong h = refl
group_enters Strikethrough h = refl
group_enters DoubleStrikethrough h = refl

-- it asks for no byte where it begins
pub group_front : (k : AttentionKind) (bytes : List ℕ) (p : Point) → HasFront bytes p (role_of (group_name k))
group_front Emphasis bytes p = tt
group_front Strong bytes p = tt
group_front Strikethrough bytes p = tt
group_front DoubleStrikethrough bytes p = tt

-- nor does the span of the text in it
pub text_front : (k : AttentionKind) (bytes : List ℕ) (p : Point) → HasFront bytes p (role_of (text_name k))
text_front Emphasis bytes p = tt
text_front Strong bytes p = tt
text_front Strikethrough bytes p = tt
text_front DoubleStrikethrough bytes p = tt

-- a sequence may stand in it
pub sequence_stands : (k : AttentionKind) → after_plain (inlines false) (sequence_name k) ≡ Some (inlines false)
sequence_stands Emphasis = refl
sequence_stands Strong = refl
sequence_stands Strikethrough = refl
sequence_stands DoubleStrikethrough = refl

-- the text in it may begin
pub text_enters : (k : AttentionKind) → entered (inlines false) (role_of (text_name k)) ≡ Some (inlines false)
text_enters Emphasis = refl
text_enters Strong = refl
text_enters Strikethrough = refl
text_enters DoubleStrikethrough = refl

-- the text in it may end
pub text_exits : (k : AttentionKind) → exited (inlines false) (inlines false) (role_of (text_name k)) ≡ Some (inlines false)
text_exits Emphasis = refl
text_exits Strong = refl
text_exits Strikethrough = refl
text_exits DoubleStrikethrough = refl

-- the span of all of it may end
pub group_exits : (k : AttentionKind) (h : Bool) → exited (inlines false) (inlines h) (role_of (group_name k)) ≡ Some (inlines h)
group_exits Emphasis h = refl
group_exits Strong h = refl
group_exits Strikethrough h = refl
group_exits DoubleStrikethrough h = refl

-- ---- Labels

-- the span that a label belongs to may begin among inlines
pub labelled_enters : (l : Labelled) (h : Bool) → entered (inlines h) (role_of (labelled_name l)) ≡ Some (label_stage l)
labelled_enters Link h = refl
labelled_enters Image h = refl
labelled_enters FootnoteCall h = refl

-- it asks for no byte where it begins
pub labelled_front : (l : Labelled) (bytes : List ℕ) (p : Point) → HasFront bytes p (role_of (labelled_name l))
labelled_front Link bytes p = tt
labelled_front Image bytes p = tt
labelled_front FootnoteCall bytes p = tt

-- the span of the label may begin in it
pub label_enters : (l : Labelled) → entered (label_stage l) (role_of Label) ≡ Some (label_stage l)
label_enters Link = refl
label_enters Image = refl
label_enters FootnoteCall = refl

-- the span of the signs that begin the label may begin
pub start_enters : (l : Labelled) → entered (label_stage l) (role_of (label_start_name l)) ≡ Some (label_stage l)
start_enters Link = refl
start_enters Image = refl
start_enters FootnoteCall = refl

-- it asks for no byte, either
pub start_front : (l : Labelled) (bytes : List ℕ) (p : Point) → HasFront bytes p (role_of (label_start_name l))
start_front Link bytes p = tt
start_front Image bytes p = tt
start_front FootnoteCall bytes p = tt

-- a sign may stand in it, since the names of all of them have one role
pub sign_put : (l : Labelled) → after_plain (label_stage l) LabelMarker ≡ Some (label_stage l)
sign_put Link = refl
sign_put Image = refl
sign_put FootnoteCall = refl

-- the span may end
pub start_exits : (l : Labelled) → exited (label_stage l) (label_stage l) (role_of (label_start_name l)) ≡ Some (label_stage l)
start_exits Link = refl
start_exits Image = refl
start_exits FootnoteCall = refl

-- the text of a label may begin
pub label_text_enters : (l : Labelled) → entered (label_stage l) (role_of LabelText) ≡ Some (inlines false)
label_text_enters Link = refl
label_text_enters Image = refl
label_text_enters FootnoteCall = refl

-- the text of a label may end
pub label_text_exits : (l : Labelled) → exited (inlines false) (label_stage l) (role_of LabelText) ≡ Some (label_end_stage l)
label_text_exits Link = refl
label_text_exits Image = refl
label_text_exits FootnoteCall = refl

-- a label may have no text
pub label_skips : (l : Labelled) → skips (label_stage l) (label_end_stage l) ≡ true
label_skips Link = refl
label_skips Image = refl
label_skips FootnoteCall = refl

-- what a label belongs to may end after it
pub labelled_exits : (l : Labelled) (h : Bool) → exited (label_end_stage l) (inlines h) (role_of (labelled_name l)) ≡ Some (inlines h)
labelled_exits Link h = refl
labelled_exits Image h = refl
labelled_exits FootnoteCall h = refl

-- ---- Autolink literals

-- an autolink literal stands among inlines
pub literal_stands : (name : Name) (h : Bool) → (name ≡ GfmAutolinkLiteralProtocol) ⊎ (name ≡ GfmAutolinkLiteralWww) → after_plain (inlines h) name ≡ Some (inlines h)
literal_stands name h (inl is) = ap (after_plain (inlines h)) is
literal_stands name h (inr is) = ap (after_plain (inlines h)) is

-- ---- One construct more

-- the spans around what comes next
pub outer_more : (os : List Open) (o : Open) (h : Bool) (outer : List Enclosing) → outer_of (os ++ o ∷ []) h outer ≡ opened o (flag_of os h) (outer_of os h outer)
outer_more [] o h outer = refl
outer_more (p ∷ os) o h outer = outer_more os o false (opened p h outer) ∙ flagged os
  where
    flagged : (os : List Open) → opened o (flag_of os false) (outer_of os false (opened p h outer)) ≡ opened o false (outer_of os false (opened p h outer))
    flagged [] = refl
    flagged (q ∷ qs) = refl

-- the flag of what comes next
pub flag_more : (os : List Open) (o : Open) (h : Bool) → flag_of (os ++ o ∷ []) h ≡ false
flag_more [] o h = refl
flag_more (p ∷ os) o h = refl

-- ---- Names that are known by other words

-- a span may begin, where its name is one that may
pub named_may_enter : {R : Type 0} (w : Written R) (name known : Name) (a b : Stage) (outer : List Enclosing) → name ≡ known → entered a (role_of known) ≡ Some b → HasFront w.given.bytes w.cursor (role_of known) → IsAt w a outer → MayEnter w name
named_may_enter w name known a b outer is begins front at = subst (MayEnter w) (sym is) (record { stage = a; outer = outer; at = at; may = ap is_some begins; front = front })

-- where it has begun
pub named_entered : {R : Type 0} (new : Written R) (name known : Name) (a b : Stage) (outer : List Enclosing) → name ≡ known → entered a (role_of known) ≡ Some b → IfSome (entered a (role_of name)) (λ c. IsAt new c (inside name a outer)) → IsAt new b (inside known a outer)
named_entered new name known a b outer is begins h =
    at_some (λ c. IsAt new c (inside known a outer)) (entered a (role_of known)) b begins (subst (λ (n : Name). IfSome (entered a (role_of n)) (λ c. IsAt new c (inside n a outer))) is h)

-- a token may be written, where its name is one that may
pub named_may_put : {R S : Type 0} (o : Output R S) (name known : Name) (a b : Stage) (outer : List Enclosing) → name ≡ known → after_plain a known ≡ Some b → IsAt o.writer.value a outer → MayPut o name
named_may_put o name known a b outer is stands at = subst (MayPut o) (sym is) (record { stage = a; outer = outer; at = at; may = ap is_some stands })

-- where it is written
pub named_put : {R : Type 0} (new : Written R) (name known : Name) (a b : Stage) (outer : List Enclosing) → name ≡ known → after_plain a known ≡ Some b → IfSome (after_plain a name) (λ c. IsAt new c outer) → IsAt new b outer
named_put new name known a b outer is stands h = at_some (λ c. IsAt new c outer) (after_plain a known) b stands (subst (λ (n : Name). IfSome (after_plain a n) (λ c. IsAt new c outer)) is h)

-- a span may end
pub may_exit : {R : Type 0} (w : Written R) (own a b : Stage) (name : Name) (outer : List Enclosing) → exited own a (role_of name) ≡ Some b → IsAt w own (inside name a outer) → MayExit w
may_exit w own a b name outer ends at = record { stage = own; outer = inside name a outer; at = at; may = ap is_some ends }

-- where it has ended
pub has_exited : {R : Type 0} (new : Written R) (own a b : Stage) (name : Name) (outer : List Enclosing) → exited own a (role_of name) ≡ Some b → IfSome (exited own a (role_of name)) (λ c. IsAt new c outer) → IsAt new b outer
has_exited new own a b name outer ends h = at_some (λ c. IsAt new c outer) (exited own a (role_of name)) b ends h

-- ---- What is open

-- in the innermost construct
pub has_innermost : {R S : Type 0} (o : Output R S) (items os : List Open) (last : Open) (h : Bool) (outer : List Enclosing) → items ≡ os ++ last ∷ [] → HasOpen o items h outer → IsAt o.writer.value (inlines false) (opened last (flag_of os h) (outer_of os h outer))
has_innermost o items os last h outer is at =
    let these = subst (λ (xs : List Open). HasOpen o xs h outer) is at in
    subst (λ (es : List Enclosing). IsAt o.writer.value (inlines false) es) (outer_more os last h outer) (subst (λ (b : Bool). IsAt o.writer.value (inlines b) (outer_of (os ++ last ∷ []) h outer)) (flag_more os last h) these)

-- and the other way round
pub opens_innermost : {R S : Type 0} (o : Output R S) (items os : List Open) (last : Open) (h : Bool) (outer : List Enclosing) → items ≡ os ++ last ∷ [] → IsAt o.writer.value (inlines false) (opened last (flag_of os h) (outer_of os h outer)) → HasOpen o items h outer
opens_innermost o items os last h outer is at =
    let these = subst (λ (es : List Enclosing). IsAt o.writer.value (inlines false) es) (sym (outer_more os last h outer)) at in
    subst (λ (xs : List Open). HasOpen o xs h outer) (sym is) (subst (λ (b : Bool). IsAt o.writer.value (inlines b) (outer_of (os ++ last ∷ []) h outer)) (sym (flag_more os last h)) these)

-- where as much is open as before
pub same_open : {R S : Type 0} (o : Output R S) (items os : List Open) (h : Bool) (outer : List Enclosing) → items ≡ os → HasOpen o os h outer → HasOpen o items h outer
same_open o items os h outer is at = subst (λ (xs : List Open). HasOpen o xs h outer) (sym is) at

-- the innermost construct, by a slice of those that are open
pub innermost : (os slice : List Open) (last : Open) → slice ≡ os → slice_get slice (length slice - 1) ≡ Some last → os ≡ take (length os - 1) os ++ last ∷ []
innermost os slice last is there =
    let at = subst (λ (xs : List Open). slice_get xs (length xs - 1) ≡ Some last) is there in
    let less = slice_get_within os (length os - 1) last at in
    let more : length os ≡ length os - 1 + 1 = omega (arith, less) in
    sym (take_all (length os) os (omega arith)) ∙ ap (λ (n : ℕ). take n os) more ∙ take_more os (length os - 1) last less ∙ ap (λ (x : Open). take (length os - 1) os ++ x ∷ []) (get_or_from_slice_get os (length os - 1) last last at)

-- it is there
pub innermost_there : (os slice front : List Open) (last : Open) → slice ≡ os → os ≡ front ++ last ∷ [] → slice_get slice (length slice - 1) ≡ Some last
innermost_there os slice front last is ends =
    let size : length slice - 1 ≡ length front = (let same = ap (λ (xs : List Open). length xs) (is ∙ ends) in let more = length-append front (last ∷ []) in omega (arith, same, more)) in
    ap (λ (n : ℕ). slice_get slice n) size ∙ ap (λ (xs : List Open). slice_get xs (length front)) (is ∙ ends) ∙ at_end front
  where
    at_end : (xs : List Open) → slice_get (xs ++ last ∷ []) (length xs) ≡ Some last
    at_end [] = refl
    at_end (x ∷ xs) = at_end xs

-- what is left without it
pub without_innermost : (items os rest : List Open) (last : Open) (n : ℕ) → items ≡ os ++ last ∷ [] → n ≡ length items → rest ≡ take (n - 1) items → rest ≡ os
without_innermost items os rest last n is size left =
    let more = length-append os (last ∷ []) in
    let same = ap (λ (xs : List Open). length xs) is in
    left ∙ ap (take (n - 1)) is ∙ take_at os (last ∷ []) (n - 1) (omega (arith, more, same, size))

-- something is open where there is an innermost construct
pub none_last : (os : List Open) (last : Open) → os ++ last ∷ [] ≡ [] → ⊥
none_last [] last is = cc is
none_last (o ∷ os) last is = cc is

-- nothing is open
pub none_open : (os : List Open) → length os ≡ 0 → os ≡ []
none_open [] is = refl
none_open (o ∷ os) is = absurd (omega (arith, is))
