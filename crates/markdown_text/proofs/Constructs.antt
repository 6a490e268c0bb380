-- Constructs of inlines, as they are written: the stages between their spans, and the parts of the text in them.
use Rattle.std.proofs.Common.{Bool, List, Option, Some, ap, arith, drop, false, get_or, get_or-drop, inl, inr, is_some, length, refl, slice_index, slice_range, subst, sym, true, ℕ, ◌+◌, ◌-◌, ◌<◌, ◌∙◌, ◌≡◌, ◌≢◌, ◌≤◌, ◌⊎◌}
use Rattle.std.proofs.lemmas.Bool.{cases_lt}
use Rattle.commonmark_syntax.specs.Cuts.{IsCut}
use Rattle.event_writer.specs.Stages.{autolink, endings, entered, exited, inlines, media_target, nothing, task}
use Rattle.markdown_events.specs.Names.{role_of}
use Rattle.markdown_events.specs.declared.event.Name.{Name}
use Rattle.markdown_events.specs.declared.event.Name.TheVariants.{AutolinkEmail, AutolinkProtocol, GfmTaskListItemValueChecked, GfmTaskListItemValueUnchecked, Label, LabelEnd, LabelMarker, LineEnding}
use Rattle.markdown_text.proofs.Outputs.{goes_on_then}
use Rattle.markdown_text.specs.Contents.{IsPart, IsRange}
use Rattle.markdown_text.specs.Opens.{label_end_stage, label_stage, labelled_name}
use Rattle.markdown_text.specs.Outputs.{WritesTo, after_plain, bytes_of, references_of}
use Rattle.markdown_text.specs.Standings.{after_line}
use Rattle.markdown_text.specs.Tokens.{IsDestination, IsEnclosed, IsResource, has_target}
use Rattle.markdown_text.specs.declared.output.Output.{Output}
use Rattle.markdown_text.specs.declared.resource.Resource.{Resource}
use Rattle.markdown_text.specs.declared.token.Labelled.{Labelled}
use Rattle.markdown_text.specs.declared.token.Labelled.TheVariants.{FootnoteCall, Image, Link}

-- ---- One call after the other

-- what two calls write
pub writes_then : {R S : Type 0} {a b c : Output R S} {x y : ℕ} → WritesTo a b x → WritesTo b c y → WritesTo a c y
writes_then {R} {a} {b} {c} {x} {y} first second = record { goes_on = goes_on_then a b c first.goes_on second.goes_on; at = second.at; data_end = second.data_end }

-- up to the same offset by other words
pub writes_as : {R S : Type 0} (a b : Output R S) (x y : ℕ) → x ≡ y → WritesTo a b x → WritesTo a b y
writes_as a b x y same writes = subst (λ (n : ℕ). WritesTo a b n) same writes

-- a part of a text, by other words for the text and for the offsets
pub part_as : (bytes same : List ℕ) (a b from to : ℕ) → IsPart bytes a b → same ≡ bytes → from ≡ a → to ≡ b → IsPart same from to
part_as bytes same a b from to part is first last = subst (λ (bs : List ℕ). IsPart bs from to) (sym is) (subst (λ (n : ℕ). IsPart bytes n to) (sym first) (subst (λ (n : ℕ). IsPart bytes a n) (sym last) part))

-- the first byte of what is left of a text
pub first_of_rest : (bytes rest : List ℕ) (at : ℕ) → rest ≡ drop at bytes → slice_index bytes at ≡ slice_index rest 0
first_of_rest bytes rest at is =
    let e : at ≡ at + 0 = omega arith in
    ap (λ (n : ℕ). get_or bytes n 0) e ∙ sym (get_or-drop at bytes 0 0) ∙ ap (λ (bs : List ℕ). get_or bs 0 0) (sym is)

-- a byte that is no line feed
pub byte_part : (bytes : List ℕ) (at : ℕ) → IsRange bytes at (at + 1) → slice_index bytes at ≢ 10 → IsPart bytes at (at + 1)
byte_part bytes at range other = record {
  order = range.order;
  within = range.within;
  line = λ k from to feed. other (let e : at ≡ k = omega (arith, from, to) in ap (slice_index bytes) e ∙ feed);
  start = range.start;
  end = range.end;
}

-- ---- Line endings

-- a line ending stands among inlines, whether a hard break waits for it or not
pub ending_in_inlines : (waits h : Bool) → after_line waits (inlines h) (role_of LineEnding) ≡ Some (inlines h)
ending_in_inlines true h = refl
ending_in_inlines false h = refl

-- ---- Character references

-- the decoder knows a value where it is written
pub known_at : {R S : Type 0} (decode : R → List ℕ → ℕ → Option (List ℕ)) (old o : Output R S) (size mark end : ℕ) → references_of o ≡ references_of old → bytes_of o ≡ bytes_of old → o.at ≡ old.«data» + size
    → is_some (decode (references_of old) (slice_range (bytes_of old) (old.«data» + size) end) mark) ≡ true → is_some (decode (references_of o) (slice_range (bytes_of o) o.at end) mark) ≡ true
known_at {R} decode old o size mark end references bytes at known =
    subst (λ (r : R). is_some (decode r (slice_range (bytes_of o) o.at end) mark) ≡ true) (sym references)
    (subst (λ (bs : List ℕ). is_some (decode (references_of old) (slice_range bs o.at end) mark) ≡ true) (sym bytes)
    (subst (λ (n : ℕ). is_some (decode (references_of old) (slice_range (bytes_of old) n end) mark) ≡ true) (sym at) known))

-- ---- Autolinks

-- nothing comes after the address
pub address_stage : (name : Name) → (name ≡ AutolinkProtocol) ⊎ (name ≡ AutolinkEmail) → after_plain autolink name ≡ Some nothing
address_stage name (inl is) = ap (λ (n : Name). after_plain autolink n) is
address_stage name (inr is) = ap (λ (n : Name). after_plain autolink n) is

-- ---- The mark of a task

-- inlines come after its value
pub value_stage : (name : Name) → (name ≡ GfmTaskListItemValueChecked) ⊎ (name ≡ GfmTaskListItemValueUnchecked) → after_plain task name ≡ Some (inlines false)
value_stage name (inl is) = ap (λ (n : Name). after_plain task n) is
value_stage name (inr is) = ap (λ (n : Name). after_plain task n) is

-- the same where the value is a line ending
pub value_line : (name : Name) → (name ≡ GfmTaskListItemValueChecked) ⊎ (name ≡ GfmTaskListItemValueUnchecked) → after_line false task (role_of name) ≡ Some (inlines false)
value_line name (inl is) = ap (λ (n : Name). after_line false task (role_of n)) is
value_line name (inr is) = ap (λ (n : Name). after_line false task (role_of n)) is

-- ---- Ends of labels

-- the span of the bracket that ends a label begins
pub mark_begins : (l : Labelled) → entered (label_end_stage l) (role_of LabelEnd) ≡ Some (label_end_stage l)
mark_begins Link = refl
mark_begins Image = refl
mark_begins FootnoteCall = refl

-- the bracket stands in it
pub mark_put : (l : Labelled) → after_plain (label_end_stage l) LabelMarker ≡ Some (label_end_stage l)
mark_put Link = refl
mark_put Image = refl
mark_put FootnoteCall = refl

-- the span ends
pub mark_ends : (l : Labelled) → exited (label_end_stage l) (label_end_stage l) (role_of LabelEnd) ≡ Some (label_end_stage l)
mark_ends Link = refl
mark_ends Image = refl
mark_ends FootnoteCall = refl

-- then the span of the label ends
pub label_ends : (l : Labelled) → exited (label_end_stage l) (label_stage l) (role_of Label) ≡ Some (label_end_stage l)
label_ends Link = refl
label_ends Image = refl
label_ends FootnoteCall = refl

-- what a label belongs to ends after a resource or a reference
pub target_ends : (l : Labelled) (h : Bool) → exited endings (inlines h) (role_of (labelled_name l)) ≡ Some (inlines h)
target_ends Link h = refl
target_ends Image h = refl
target_ends FootnoteCall h = refl

-- one of these may come after the label, but for that of a call of a footnote
pub target_stage : (l : Labelled) → has_target l ≡ true → label_end_stage l ≡ media_target
target_stage Link has = refl
target_stage Image has = refl
target_stage FootnoteCall has = absurd (cc has)

-- ---- Resources

-- the white space before the destination
pub before_range : (bytes : List ℕ) (r : Resource) (from to at : ℕ) → IsResource bytes r from to → at ≡ from + 1 → IsRange bytes at (at + r.before)
before_range bytes r from to at h is =
    let part = (h.destination).part in
    let order = part.order in
    let within = part.within in
    let e : from + (1 + r.before) ≡ at + r.before = omega (arith, is) in
    record { order = omega arith; within = omega (arith, is, order, within); start = subst (IsCut bytes) (sym is) ((h.marks).opening).end; end = subst (IsCut bytes) e part.start }

-- the destination
pub destination_at : (bytes : List ℕ) (r : Resource) (from to at : ℕ) → IsResource bytes r from to → at ≡ from + 1 + r.before → IsDestination bytes at (at + r.destination)
destination_at bytes r from to at h is =
    let e : from + (1 + r.before) ≡ at = omega (arith, is) in
    subst (λ (n : ℕ). IsDestination bytes n (n + r.destination)) e h.destination

-- a resource ends where its last part does
resource_within : (bytes : List ℕ) (r : Resource) (from to : ℕ) → IsResource bytes r from to → from + (1 + r.before + r.destination + r.between + r.title + r.after + 1) ≤ length bytes
resource_within bytes r from to h =
    let size = h.size in
    let whole = h.whole in
    let within = ((h.marks).closing).within in
    omega (arith, size, whole, within)

-- the white space after it
pub between_range : (bytes : List ℕ) (r : Resource) (from to at : ℕ) → IsResource bytes r from to → at ≡ from + 1 + r.before + r.destination → IsRange bytes at (at + r.between)
between_range bytes r from to at h is =
    let within = resource_within bytes r from to h in
    let e : from + (1 + r.before) + r.destination ≡ at = omega (arith, is) in
    let f : from + (1 + r.before + r.destination + r.between) ≡ at + r.between = omega (arith, is) in
    record { order = omega arith; within = omega (arith, is, within); start = subst (IsCut bytes) e ((h.destination).part).end; end = subst (IsCut bytes) f h.between }

-- the title
pub title_at : (bytes : List ℕ) (r : Resource) (from to at : ℕ) → IsResource bytes r from to → at ≡ from + 1 + r.before + r.destination + r.between → 0 < r.title → IsEnclosed bytes 1 at (at + r.title)
title_at bytes r from to at h is some =
    let e : from + (1 + r.before + r.destination + r.between) ≡ at = omega (arith, is) in
    subst (λ (n : ℕ). IsEnclosed bytes 1 n (n + r.title)) e (h.title some)

-- where the title ends, or there is none
title_cut : (bytes : List ℕ) (r : Resource) (from to : ℕ) → IsResource bytes r from to → IsCut bytes (from + (1 + r.before + r.destination + r.between) + r.title)
title_cut bytes r from to h = by (cases_lt 0 r.title)
  where
    at : ℕ
    at = from + (1 + r.before + r.destination + r.between)

    by : (0 < r.title) ⊎ (r.title ≤ 0) → IsCut bytes (at + r.title)
    by (inl some) = (h.title some).closing.end
    by (inr none) = let e : at ≡ at + r.title = omega (arith, none) in subst (IsCut bytes) e h.between

-- the white space after it
pub after_range : (bytes : List ℕ) (r : Resource) (from to at : ℕ) → IsResource bytes r from to → at ≡ from + 1 + r.before + r.destination + r.between + r.title → IsRange bytes at (at + r.after)
after_range bytes r from to at h is =
    let within = resource_within bytes r from to h in
    let size = h.size in
    let whole = h.whole in
    let e : from + (1 + r.before + r.destination + r.between) + r.title ≡ at = omega (arith, is) in
    let f : to - 1 ≡ at + r.after = omega (arith, is, size, whole) in
    record { order = omega arith; within = omega (arith, is, within); start = subst (IsCut bytes) e (title_cut bytes r from to h); end = subst (IsCut bytes) f ((h.marks).closing).start }

-- the parenthesis at its end
pub closing_at : (bytes : List ℕ) (r : Resource) (from to at : ℕ) → IsResource bytes r from to → at ≡ from + 1 + r.before + r.destination + r.between + r.title + r.after → IsPart bytes at (at + 1)
closing_at bytes r from to at h is =
    let size = h.size in
    let whole = h.whole in
    let e : to - 1 ≡ at = omega (arith, is, size, whole) in
    let f : to ≡ at + 1 = omega (arith, is, size, whole) in
    subst (λ (n : ℕ). IsPart bytes n (at + 1)) e (subst (λ (n : ℕ). IsPart bytes (to - 1) n) f (h.marks).closing)
