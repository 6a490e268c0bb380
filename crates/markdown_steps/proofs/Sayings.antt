-- What each refusal says of the event at which it is given.
use Rattle.std.proofs.Common.{◌≡◌, ◌⊎◌, inl, inr, Bool, true, false, not, ◌&&◌, ◌||◌, cond, List, [], ◌∷◌, ◌++◌, Option, Some, None, refl, sym, ap, subst, ◌∙◌}
use Rattle.std.specs.Prelude.{is_some}
use Rattle.std.specs.List.{list_all}
use Rattle.markdown_events.specs.Slices.{slice}
use Rattle.markdown_events.specs.declared.event.Point.{Point}
use Rattle.markdown_events.specs.declared.role.ItemKind.{ItemKind}
use Rattle.markdown_events.specs.declared.role.Part.{Part}
use Rattle.markdown_grammar.specs.Accepted.{Occurrence, ends_with_break, has_its_parts}
use Rattle.markdown_grammar.specs.Refusals.{rule_error, missing_error, value_error}
use Rattle.markdown_grammar.specs.Attributes.{decoded, value}
use Rattle.markdown_events.proofs.Booleans.{and-left, and-right, not-both}
use Rattle.markdown_steps.proofs.SummaryLaws.{is-that-part}
use Rattle.markdown_steps.proofs.RuleLists.{keeps-snoc, lets}
use Rattle.markdown_grammar.specs.Grammar.{has_required, markers, rules, conforms}
use Rattle.markdown_grammar.specs.Grammar.{ContentModel, character_reference, code_fenced, content_model, heading_atx, model_of, list_item, list_ordered, marked_item, marked_numbered_item, math_flow, numbered_item, part_model}
use Rattle.markdown_grammar.specs.Items.{Items, kinds}
use Rattle.markdown_grammar.specs.Items.{is_frontmatter, is_line_ending, is_one_of, is_part, no_item, ◌or◌}
use Rattle.markdown_grammar.specs.Document.{is_depth, is_item_number}
use Rattle.markdown_grammar.specs.Attributes.{Place}
use Rattle.markdown_grammar.specs.Document.{byte_at, length_between}
use Rattle.markdown_grammar.specs.Values.{is_read}
use Rattle.markdown_grammar.specs.Reasons.{FailsFirst, IsWrongAtEnter, IsWrongAtExit, rule_tests}
use Rattle.markdown_steps.specs.Consequences.{EnterSays, ExitSays, SomeRule, StandsAlready}
use Rattle.markdown_grammar.specs.Grammar.{Rule, any_item, keeps, none_of, at_most_one, only, only_before, only_after}
use Rattle.markdown_grammar.specs.Document.{Source}
use Rattle.markdown_grammar.specs.Sites.{Site}
use Rattle.markdown_grammar.specs.declared.error_kind.ErrorKind.{ErrorKind}
use Rattle.markdown_events.specs.declared.role.ItemKind.TheVariants.{Content as content, Part as part}
use Rattle.markdown_events.specs.declared.role.Content.TheVariants as contents
use Rattle.markdown_events.specs.declared.role.Part.TheVariants as parts
use Rattle.markdown_grammar.specs.declared.error_kind.ErrorKind.TheVariants.{Misplaced, Repeated, InvalidSlice, InvalidListValue, UnknownReference, IncompleteReference, HeadingDepth}

-- ---- Exits: what must stand does not

is-none : {A : Type 0} (o : Option A) → is_some o ≡ false → o ≡ None
is-none None h = refl
is-none (Some x) h = absurd cc

-- only six kinds of containers want something
complete-item : (s : Source) (h : ContentModel) (xs : Items) → has_required s (content_model h contents.ListItem) xs ≡ true
complete-item s list_ordered xs = refl
complete-item s h xs = refl

complete-paragraph : (s : Source) (h : ContentModel) (xs : Items) → has_required s (content_model h contents.Paragraph) xs ≡ true
complete-paragraph s list_item xs = refl
complete-paragraph s numbered_item xs = refl
complete-paragraph s marked_item xs = refl
complete-paragraph s marked_numbered_item xs = refl
complete-paragraph s h xs = refl

complete-part : (s : Source) (h : ContentModel) (q : Part) (xs : Items) → has_required s (part_model h q) xs ≡ true
complete-part s code_fenced parts.CodeFencedFence xs = refl
complete-part s math_flow parts.MathFlowFence xs = refl
complete-part s h parts.CodeFencedFence xs = refl
complete-part s h parts.MathFlowFence xs = refl
complete-part s h q xs = refl

-- an item of these ends without what must stand in it
abbrev of : ContentModel → Place → Bool → ItemKind → Point → Point → Items → Occurrence
of h p w what a b inner = record { model = h; place = p; after_break = w; what = what; start = a; end = b; inner = inner }

parts-say : (s : Source) (h : ContentModel) (p : Place) (w : Bool) (what : ItemKind) (a b : Point) (inner : Items) → has_its_parts s (of h p w what a b inner) ≡ false → ExitSays s (of h p w what a b inner) (missing_error (model_of h what))
parts-say s h p w (content contents.CharacterReference) a b inner e = (refl, e)
parts-say s h p w (content contents.CodeFenced) a b inner e = inl (refl, e)
parts-say s h p w (content contents.MathFlow) a b inner e = inr (refl, e)
parts-say s h p w (content contents.ListOrdered) a b inner e = (refl, is-none (value s inner) e)
parts-say s h p w (content contents.HeadingAtx) a b inner e = inl (refl, e)
parts-say s h p w (content contents.HeadingSetext) a b inner e = inr (inl (refl, e))
parts-say s h p w (content contents.ListItem) a b inner e = absurd (not-both (complete-item s h inner) e)
parts-say s h p w (content contents.Paragraph) a b inner e = absurd (not-both (complete-paragraph s h inner) e)
parts-say s h p w (content c) a b inner e = let z : ⊥ = cc in absurd z
parts-say s h p w (part q) a b inner e = absurd (not-both (complete-part s h q inner) e)

-- ---- Exits: what is read is not there, or not right

or-false-right : (a b : Bool) → (a || b) ≡ false → b ≡ false
or-false-right true b h = let z : ⊥ = cc in absurd z
or-false-right false b h = h

-- a value whose slice is there, and one whose slice is not
reference-says : (s : Source) (h : ContentModel) (p : Place) (w : Bool) (a b : Point) (inner : Items) (there : Bool) → is_some (slice s.bytes a b) ≡ there → (is_some (slice s.bytes a b) && is_some (decoded s p a b)) ≡ false
    → ExitSays s (of h p w (part parts.CharacterReferenceValue) a b inner) (cond there UnknownReference InvalidSlice)
reference-says s h p w a b inner true e k = (refl, is-none (decoded s p a b) ((λ t. sym e t && is_some (decoded s p a b)) ∙ k))
reference-says s h p w a b inner false e k = (k, inl (is-none (slice s.bytes a b) e))

number-says : (s : Source) (h : ContentModel) (p : Place) (w : Bool) (a b : Point) (inner : Items) (there : Bool) → is_some (slice s.bytes a b) ≡ there → is_item_number (slice s.bytes a b) ≡ false
    → ExitSays s (of h p w (part parts.ListItemValue) a b inner) (cond there InvalidListValue InvalidSlice)
number-says s h p w a b inner true e k = (refl, k)
number-says s h p w a b inner false e k = (k, inl (is-none (slice s.bytes a b) e))

depth-says : (s : Source) (p : Place) (w : Bool) (a b : Point) (inner : Items) (there : Bool) → is_some (length_between s.bytes a b) ≡ there → is_depth (length_between s.bytes a b) ≡ false
    → ExitSays s (of heading_atx p w (part parts.HeadingAtxSequence) a b inner) (cond there HeadingDepth InvalidSlice)
depth-says s p w a b inner true e k = inr (inr (refl, refl, k))
depth-says s p w a b inner false e k = (k, inr (inl (is-none (length_between s.bytes a b) e)))

value-says : (s : Source) (h : ContentModel) (p : Place) (w : Bool) (what : ItemKind) (a b : Point) (inner : Items) → is_read s h p w what a b ≡ false → ExitSays s (of h p w what a b inner) (value_error s what a b)
value-says s h p w (content contents.Data) a b inner e = (e, inl (is-none (slice s.bytes a b) e))
value-says s h p w (content contents.AutolinkLiteralEmail) a b inner e = (e, inl (is-none (slice s.bytes a b) e))
value-says s h p w (content contents.AutolinkLiteralWww) a b inner e = (e, inl (is-none (slice s.bytes a b) e))
value-says s h p w (content contents.AutolinkLiteralWhole) a b inner e = (e, inl (is-none (slice s.bytes a b) e))
value-says s h p w (content contents.LineEnding) a b inner e = (e, inl (is-none (slice s.bytes a b) (or-false-right (not (p.line_endings && not w)) (is_some (slice s.bytes a b)) e)))
value-says s h p w (content c) a b inner e = let z : ⊥ = cc in absurd z
value-says s h p w (part parts.AutolinkEmail) a b inner e = (e, inl (is-none (slice s.bytes a b) e))
value-says s h p w (part parts.AutolinkProtocol) a b inner e = (e, inl (is-none (slice s.bytes a b) e))
value-says s h p w (part parts.CharacterReferenceValue) a b inner e = reference-says s h p w a b inner (is_some (slice s.bytes a b)) refl e
value-says s h p w (part parts.LabelText) a b inner e = (e, inl (is-none (slice s.bytes a b) e))
value-says s h p w (part parts.ReferenceString) a b inner e = (e, inl (is-none (slice s.bytes a b) e))
value-says s h p w (part parts.DefinitionLabelString) a b inner e = (e, inl (is-none (slice s.bytes a b) e))
value-says s h p w (part parts.FootnoteDefinitionLabelString) a b inner e = (e, inl (is-none (slice s.bytes a b) e))
value-says s h p w (part parts.ListItemValue) a b inner e = number-says s h p w a b inner (is_some (slice s.bytes a b)) refl e
value-says s h p w (part parts.HeadingSetextUnderlineSequence) a b inner e = (e, inr (inr (is-none (byte_at s.bytes a) e)))
value-says s heading_atx p w (part parts.HeadingAtxSequence) a b inner e = depth-says s p w a b inner (is_some (length_between s.bytes a b)) refl e
value-says s h p w (part q) a b inner e = let z : ⊥ = cc in absurd z

not-false : (b : Bool) → not b ≡ false → b ≡ true
not-false true h = refl
not-false false h = sym h

-- what is wrong at an exit is what the refusal says
pub exit_says : (s : Source) (x : Occurrence) (why : ErrorKind) → IsWrongAtExit s x why → ExitSays s x why
exit_says s x why (inl f) = subst (λ (r : ErrorKind). ExitSays s x r) (sym f.1) (not-false (ends_with_break x.inner) f.0)
exit_says s x why (inr (b, inl f)) = subst (λ (r : ErrorKind). ExitSays s x r) (sym f.1) (parts-say s x.model x.place x.after_break x.what x.start x.end x.inner f.0)
exit_says s x why (inr (b, inr (k, inl f))) = subst (λ (r : ErrorKind). ExitSays s x r) (sym f.1) (value-says s x.model x.place x.after_break x.what x.start x.end x.inner f.0)
exit_says s x why (inr (b, inr (k, inr f))) = absurd f.1

-- ---- Enters

-- where a rule is violated, not all are kept
violation-fails : (h : ContentModel) (rs : List Rule) (xs : List ItemKind) (why : ErrorKind) → FailsFirst (rule_tests h rs xs) why → list_all (λ r. keeps r xs) rs ≡ false
violation-fails h [] xs why b = absurd b
violation-fails h (r ∷ rs) xs why (inl b) = ap (λ k. k && list_all (λ r'. keeps r' xs) rs) b.0
violation-fails h (r ∷ rs) xs why (inr b) = (λ t. b.0 t && violation-fails h rs xs why b.1 t)

-- the refusals that rules give
data OfRules (h : ContentModel) (why : ErrorKind) : Type 0 where
  repeated : why ≡ Repeated → OfRules h why
  misplaced : why ≡ Misplaced → OfRules h why
  incomplete : why ≡ IncompleteReference → h ≡ character_reference → OfRules h why

rule-says : (h : ContentModel) (r : Rule) → OfRules h (rule_error h r)
rule-says h (at_most_one ps) = repeated refl
rule-says h (none_of ps) = repeated refl
rule-says character_reference (only_before ps test) = incomplete refl refl
rule-says h (only_before ps test) = misplaced refl
rule-says h (only_after ps test) = misplaced refl
rule-says h (only test) = misplaced refl

violation-says : (h : ContentModel) (rs : List Rule) (xs : List ItemKind) (why : ErrorKind) → FailsFirst (rule_tests h rs xs) why → OfRules h why
violation-says h [] xs why b = absurd b
violation-says h (r ∷ rs) xs why (inl b) = subst (λ (w : ErrorKind). OfRules h w) (sym b.1) (rule-says h r)
violation-says h (r ∷ rs) xs why (inr b) = violation-says h rs xs why b.1

-- one more item that a rule refuses may not follow the items before
not-let : (r : Rule) (xs : List ItemKind) (what : ItemKind) → keeps r xs ≡ true → keeps r (xs ++ what ∷ []) ≡ false → lets r xs what ≡ false
not-let r xs what kept broken = (λ t. sym kept t && lets r xs what) ∙ sym (keeps-snoc r xs what) ∙ broken

both-so : (a b : Bool) → (not a || not b) ≡ false → (a ≡ true) × (b ≡ true)
both-so true true h = (refl, refl)
both-so true false h = absurd cc
both-so false b h = absurd cc

-- a part that may stand once stood already
rule-repeats : (h : ContentModel) (r : Rule) (xs : List ItemKind) (what : ItemKind) → lets r xs what ≡ false → Repeated ≡ rule_error h r → StandsAlready xs what r
rule-repeats h (at_most_one ps) xs what none_let w = both-so (is_one_of ps what) (any_item (is_one_of ps) xs) none_let
rule-repeats h (none_of ps) xs what none_let w = not-false (is_one_of ps what) none_let
rule-repeats character_reference (only_before ps test) xs what none_let w = let z : Repeated ≡ IncompleteReference = w in absurd cc
rule-repeats h (only_before ps test) xs what none_let w = let z : Repeated ≡ Misplaced = w in absurd cc
rule-repeats h (only_after ps test) xs what none_let w = let z : Repeated ≡ Misplaced = w in absurd cc
rule-repeats h (only test) xs what none_let w = let z : Repeated ≡ Misplaced = w in absurd cc

violation-repeats : (h : ContentModel) (rs : List Rule) (xs : List ItemKind) (what : ItemKind) → list_all (λ r. keeps r xs) rs ≡ true → FailsFirst (rule_tests h rs (xs ++ what ∷ [])) Repeated → SomeRule (StandsAlready xs what) rs
violation-repeats h [] xs what taken b = absurd b
violation-repeats h (r ∷ rs) xs what taken (inl b) = inl (rule-repeats h r xs what (not-let r xs what (and-left (keeps r xs) (list_all (λ r'. keeps r' xs) rs) taken) b.0) b.1)
violation-repeats h (r ∷ rs) xs what taken (inr b) = inr (violation-repeats h rs xs what (and-right (keeps r xs) (list_all (λ r'. keeps r' xs) rs) taken) b.1)

-- one more item of a reference, which its marker rule alone refuses, is a value, and no marker is before it
value-alone : (xs : List ItemKind) (what : ItemKind) → conforms character_reference xs ≡ true → FailsFirst (rule_tests character_reference (rules character_reference) (xs ++ what ∷ [])) IncompleteReference
    → (what ≡ part parts.CharacterReferenceValue) × (any_item (is_one_of markers) xs ≡ false)
value-alone xs what taken (inl b) = absurd (let z : IncompleteReference ≡ Repeated = b.1 in cc)
value-alone xs what taken (inr (k, inl b)) = absurd (let z : IncompleteReference ≡ Misplaced = b.1 in cc)
value-alone xs what taken (inr (k, inr (l, inl b))) = absurd (let z : IncompleteReference ≡ Misplaced = b.1 in cc)
value-alone xs what taken (inr (k, inr (l, inr (m, inl b)))) =
    let rule : Rule = only_before markers no_item in
    let such : ItemKind → Bool = is_one_of markers or is_part parts.CharacterReferenceValue in
    let one : such what ≡ true = and-right (keeps (only such) xs) (such what) (sym (keeps-snoc (only such) xs what) ∙ l) in
    let kept : keeps rule xs ≡ true =
    fourth-of (keeps (at_most_one (parts.CharacterReferenceValue ∷ [])) xs) (keeps (only such) xs) (keeps (only_after (parts.CharacterReferenceValue ∷ []) no_item) xs) (keeps rule xs) taken in
    let none_let : lets rule xs what ≡ false = not-let rule xs what kept b.0 in
    let no_marker : is_one_of markers what ≡ false = first-false (is_one_of markers what) false (or-false-right (any_item (is_one_of markers) xs) (is_one_of markers what || false) none_let) in (
      sym (is-that-part parts.CharacterReferenceValue what (other-of (is_one_of markers what) (is_part parts.CharacterReferenceValue what) one no_marker)),
      first-false (any_item (is_one_of markers) xs) (is_one_of markers what || false) none_let,
    )
  where
    other-of : (a b : Bool) → (a || b) ≡ true → a ≡ false → b ≡ true
    other-of true b h k = absurd cc
    other-of false b h k = h

    first-false : (a b : Bool) → (a || b) ≡ false → a ≡ false
    first-false true b h = h
    first-false false b h = refl

    fourth-of : (a b c d : Bool) → (a && (b && (c && (d && true)))) ≡ true → d ≡ true
    fourth-of a b c d h = and-left d true (and-right c (d && true) (and-right b (c && (d && true)) (and-right a (b && (c && (d && true))) h)))
value-alone xs what taken (inr (k, inr (l, inr (m, inr b)))) = absurd b.1

violation-at-enter : (s : Source) (site : Site) (what : ItemKind) (a : Point) (why : ErrorKind) → conforms site.initial_model (kinds site.before) ≡ true → FailsFirst (rule_tests site.initial_model (rules site.initial_model) (kinds site.before ++ what ∷ [])) why → OfRules site.initial_model why → EnterSays s site what a why
violation-at-enter s site what a why taken b (repeated w) =
    subst (λ (r : ErrorKind). EnterSays s site what a r) (sym w)
    (violation-repeats site.initial_model (rules site.initial_model) (kinds site.before) what taken (subst (λ (r : ErrorKind). FailsFirst (rule_tests site.initial_model (rules site.initial_model) (kinds site.before ++ what ∷ [])) r) w b))
violation-at-enter s site what a why taken b (misplaced w) = subst (λ (r : ErrorKind). EnterSays s site what a r) (sym w) (inl (violation-fails site.initial_model (rules site.initial_model) (kinds site.before ++ what ∷ []) why b))
violation-at-enter s site what a why taken b (incomplete w h) =
    subst (λ (r : ErrorKind). EnterSays s site what a r) (sym w)
    (value-alone (kinds site.before) what (ap (λ (r : ContentModel). conforms r (kinds site.before)) (sym h) ∙ taken)
    (subst (λ (r : ErrorKind). FailsFirst (rule_tests character_reference (rules character_reference) (kinds site.before ++ what ∷ [])) r) w (subst (λ (r : ContentModel). FailsFirst (rule_tests r (rules r) (kinds site.before ++ what ∷ [])) why) h b)))

break-flags : (w l : Bool) → (not w || l) ≡ false → (w ≡ true) × (l ≡ false)
break-flags true l h = (refl, h)
break-flags false l h = absurd cc

byte-says : (s : Source) (what : ItemKind) (a : Point) → (not (is_frontmatter what) || is_some (byte_at s.bytes a)) ≡ false → (what ≡ content contents.Frontmatter) × (byte_at s.bytes a ≡ None)
byte-says s (content contents.Frontmatter) a h = (refl, is-none (byte_at s.bytes a) h)
byte-says s (content c) a h = absurd cc
byte-says s (part q) a h = absurd cc

-- of two lists of tests, one has the first that fails
fails-append : (tests others : List (Bool × ErrorKind)) (why : ErrorKind) → FailsFirst (tests ++ others) why → FailsFirst tests why ⊎ FailsFirst others why
fails-append [] others why f = inr f
fails-append (test ∷ tests) others why (inl f) = inl (inl f)
fails-append (test ∷ tests) others why (inr f) = elim (fails-append tests others why f.1) [ inl g ↦ inl (inr (f.0, g)) | inr g ↦ inr g ]

-- what is wrong at an enter is what the refusal says
pub enter_says : (s : Source) (site : Site) (what : ItemKind) (a : Point) (why : ErrorKind) → conforms site.initial_model (kinds site.before) ≡ true → IsWrongAtEnter s site what a why → EnterSays s site what a why
enter_says s site what a why taken (inl f) = subst (λ (r : ErrorKind). EnterSays s site what a r) (sym f.1) (break-flags (ends_with_break site.before) (is_line_ending what) f.0)
enter_says s site what a why taken (inr (k, f)) =
    elim (fails-append (rule_tests site.initial_model (rules site.initial_model) (kinds site.before ++ what ∷ [])) _ why f) [
      | inl b ↦ violation-at-enter s site what a why taken b (violation-says site.initial_model (rules site.initial_model) (kinds site.before ++ what ∷ []) why b)
      | inr (inl e) ↦ subst (λ (r : ErrorKind). EnterSays s site what a r) (sym e.1) (inr e.0)
      | inr (inr (l, inl e)) ↦ subst (λ (r : ErrorKind). EnterSays s site what a r) (sym e.1) (byte-says s what a e.0)
      | inr (inr (l, inr z)) ↦ absurd z.1
    ]
