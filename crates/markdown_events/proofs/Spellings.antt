-- Each name is found by its spelling, and by no other, and has no separator of event lines.
use Rattle.std.proofs.Common.{◌≡◌, ℕ, zero, suc, List, [], ◌∷◌, Option, Some, Bool, true, false, cond, eqb, not, ◌&&◌, get_or, length, map, refl, sym, subst, ◌∙◌, ◌↔◌}
use Rattle.std.specs.Str.{bytes_eq}
use Rattle.std.proofs.lemmas.Slice.Eq.{bytes_eq-Decides}
use Rattle.markdown_events.specs.Spelling.{spelling, first_spelled, name_of_length, name_of}
use Rattle.markdown_events.specs.declared.event.Name.{Name}
use Rattle.markdown_events.specs.declared.event.Name.TheVariants as name
use Rattle.markdown_events.specs.declared.event.TheConstants.{NAMES_BY_LENGTH}

found_by_test : (m : Name) (names : List Name) (text : List ℕ) (n : Name) → (first_spelled names text ≡ Some n → spelling n ≡ text) → (same : Bool) → bytes_eq (spelling m) text ≡ same → cond same (Some m) (first_spelled names text) ≡ Some n → spelling n ≡ text
found_by_test m names text n rest true e h =
    let is_it : m ≡ n = cc in
    subst (λ x. spelling x ≡ text) is_it ((bytes_eq-Decides (spelling m) text).0 e)
found_by_test m names text n rest false e h = rest h

-- what is found is spelled so
found_is_spelled : (names : List Name) (text : List ℕ) (n : Name) → first_spelled names text ≡ Some n → spelling n ≡ text
found_is_spelled [] text n h = cc
found_is_spelled (m ∷ names) text n h = found_by_test m names text n (found_is_spelled names text n) (bytes_eq (spelling m) text) refl h

abbrev rows : List (List Name)
rows = map (λ (row : record { now : List Name }). row.now) NAMES_BY_LENGTH

-- each spelling is found
spelling-found : (n : Name) → name_of_length rows (spelling n) ≡ Some n
spelling-found name.Data = refl
spelling-found name.CharacterEscapeValue = refl
spelling-found name.CodeFlowChunk = refl
spelling-found name.CodeTextData = refl
spelling-found name.FrontmatterChunk = refl
spelling-found name.HtmlFlowData = refl
spelling-found name.HtmlTextData = refl
spelling-found name.MathFlowChunk = refl
spelling-found name.MathTextData = refl
spelling-found name.AutolinkEmail = refl
spelling-found name.AutolinkProtocol = refl
spelling-found name.CharacterReference = refl
spelling-found name.CharacterReferenceMarker = refl
spelling-found name.CharacterReferenceMarkerNumeric = refl
spelling-found name.CharacterReferenceMarkerHexadecimal = refl
spelling-found name.CharacterReferenceValue = refl
spelling-found name.CodeFencedFenceInfo = refl
spelling-found name.CodeFencedFenceMeta = refl
spelling-found name.DefinitionDestinationString = refl
spelling-found name.DefinitionLabelString = refl
spelling-found name.DefinitionTitleString = refl
spelling-found name.GfmFootnoteDefinitionLabelString = refl
spelling-found name.LabelText = refl
spelling-found name.MathFlowFenceMeta = refl
spelling-found name.ReferenceString = refl
spelling-found name.ResourceDestinationString = refl
spelling-found name.ResourceTitleString = refl
spelling-found name.Autolink = refl
spelling-found name.BlockQuote = refl
spelling-found name.CodeFenced = refl
spelling-found name.CodeIndented = refl
spelling-found name.CodeText = refl
spelling-found name.Definition = refl
spelling-found name.Emphasis = refl
spelling-found name.Frontmatter = refl
spelling-found name.GfmAutolinkLiteralEmail = refl
spelling-found name.GfmAutolinkLiteralMailto = refl
spelling-found name.GfmAutolinkLiteralProtocol = refl
spelling-found name.GfmAutolinkLiteralWww = refl
spelling-found name.GfmAutolinkLiteralXmpp = refl
spelling-found name.GfmFootnoteCall = refl
spelling-found name.GfmFootnoteDefinition = refl
spelling-found name.GfmStrikethrough = refl
spelling-found name.GfmTable = refl
spelling-found name.GfmTableRow = refl
spelling-found name.GfmTableCell = refl
spelling-found name.HeadingAtx = refl
spelling-found name.HeadingSetext = refl
spelling-found name.HtmlFlow = refl
spelling-found name.HtmlText = refl
spelling-found name.Image = refl
spelling-found name.Link = refl
spelling-found name.ListItem = refl
spelling-found name.ListOrdered = refl
spelling-found name.ListUnordered = refl
spelling-found name.MathFlow = refl
spelling-found name.MathText = refl
spelling-found name.Paragraph = refl
spelling-found name.Strong = refl
spelling-found name.ThematicBreak = refl
spelling-found name.HardBreakEscape = refl
spelling-found name.HardBreakTrailing = refl
spelling-found name.LineEnding = refl
spelling-found name.CodeFencedFence = refl
spelling-found name.MathFlowFence = refl
spelling-found name.GfmTaskListItemValueChecked = refl
spelling-found name.GfmTaskListItemValueUnchecked = refl
spelling-found name.HeadingAtxSequence = refl
spelling-found name.HeadingSetextText = refl
spelling-found name.HeadingSetextUnderlineSequence = refl
spelling-found name.ListItemValue = refl
spelling-found name.Reference = refl
spelling-found name.Resource = refl
spelling-found name.BlankLineEnding = refl
spelling-found name.SpaceOrTab = refl
spelling-found name.ListItemPrefix = refl
spelling-found name.BlockQuotePrefix = refl
spelling-found name.GfmTableDelimiterRow = refl
spelling-found name.GfmTableDelimiterCellValue = refl
spelling-found name.GfmTableDelimiterMarker = refl
spelling-found name.AttentionSequence = refl
spelling-found name.AutolinkMarker = refl
spelling-found name.BlockQuoteMarker = refl
spelling-found name.ByteOrderMark = refl
spelling-found name.CharacterEscape = refl
spelling-found name.CharacterEscapeMarker = refl
spelling-found name.CharacterReferenceMarkerSemi = refl
spelling-found name.CodeFencedFenceSequence = refl
spelling-found name.CodeTextSequence = refl
spelling-found name.Content = refl
spelling-found name.DefinitionDestination = refl
spelling-found name.DefinitionDestinationLiteral = refl
spelling-found name.DefinitionDestinationLiteralMarker = refl
spelling-found name.DefinitionDestinationRaw = refl
spelling-found name.DefinitionLabel = refl
spelling-found name.DefinitionLabelMarker = refl
spelling-found name.DefinitionMarker = refl
spelling-found name.DefinitionTitle = refl
spelling-found name.DefinitionTitleMarker = refl
spelling-found name.EmphasisSequence = refl
spelling-found name.EmphasisText = refl
spelling-found name.FrontmatterFence = refl
spelling-found name.FrontmatterSequence = refl
spelling-found name.GfmFootnoteCallLabel = refl
spelling-found name.GfmFootnoteCallMarker = refl
spelling-found name.GfmFootnoteDefinitionLabel = refl
spelling-found name.GfmFootnoteDefinitionLabelMarker = refl
spelling-found name.GfmFootnoteDefinitionMarker = refl
spelling-found name.GfmFootnoteDefinitionPrefix = refl
spelling-found name.GfmStrikethroughSequence = refl
spelling-found name.GfmStrikethroughText = refl
spelling-found name.GfmTableBody = refl
spelling-found name.GfmTableCellDivider = refl
spelling-found name.GfmTableCellText = refl
spelling-found name.GfmTableDelimiterCell = refl
spelling-found name.GfmTableDelimiterFiller = refl
spelling-found name.GfmTableHead = refl
spelling-found name.GfmTaskListItemCheck = refl
spelling-found name.GfmTaskListItemMarker = refl
spelling-found name.HeadingAtxText = refl
spelling-found name.HeadingSetextUnderline = refl
spelling-found name.Label = refl
spelling-found name.LabelEnd = refl
spelling-found name.LabelImage = refl
spelling-found name.LabelImageMarker = refl
spelling-found name.LabelLink = refl
spelling-found name.LabelMarker = refl
spelling-found name.ListItemMarker = refl
spelling-found name.MathFlowFenceSequence = refl
spelling-found name.MathTextSequence = refl
spelling-found name.ReferenceMarker = refl
spelling-found name.ResourceDestination = refl
spelling-found name.ResourceDestinationLiteral = refl
spelling-found name.ResourceDestinationLiteralMarker = refl
spelling-found name.ResourceDestinationRaw = refl
spelling-found name.ResourceMarker = refl
spelling-found name.ResourceTitle = refl
spelling-found name.ResourceTitleMarker = refl
spelling-found name.StrongSequence = refl
spelling-found name.StrongText = refl
spelling-found name.ThematicBreakSequence = refl

-- ---- No name has a line feed or a space

-- a text does not have the byte c
abbrev pub lacks : ℕ → List ℕ → Bool
lacks c [] = true
lacks c (b ∷ bs) = not (eqb b c) && lacks c bs

abbrev names_lack : ℕ → List Name → Bool
names_lack c [] = true
names_lack c (n ∷ names) = lacks c (spelling n) && names_lack c names

abbrev rows_lack : ℕ → List (List Name) → Bool
rows_lack c [] = true
rows_lack c (row ∷ rows) = names_lack c row && rows_lack c rows

both : (a b : Bool) → a && b ≡ true → (a ≡ true) × (b ≡ true)
both true true h = (refl, refl)
both true false h = absurd (cc)
both false b h = absurd (cc)

lacks_by_test : (c : ℕ) (m n : Name) (names : List Name) (text : List ℕ) (same : Bool) → cond same (Some m) (first_spelled names text) ≡ Some n → lacks c (spelling m) && names_lack c names ≡ true
    → (first_spelled names text ≡ Some n → names_lack c names ≡ true → lacks c (spelling n) ≡ true) → lacks c (spelling n) ≡ true
lacks_by_test c m n names text true h all more = let is : m ≡ n = cc in subst (λ x. lacks c (spelling x) ≡ true) is (both (lacks c (spelling m)) (names_lack c names) all).0
lacks_by_test c m n names text false h all more = more h (both (lacks c (spelling m)) (names_lack c names) all).1

found_lacks : (c : ℕ) (names : List Name) (text : List ℕ) (n : Name) → first_spelled names text ≡ Some n → names_lack c names ≡ true → lacks c (spelling n) ≡ true
found_lacks c [] text n h all = absurd (cc)
found_lacks c (m ∷ names) text n h all = lacks_by_test c m n names text (bytes_eq (spelling m) text) h all (found_lacks c names text n)

row_lacks : (c : ℕ) (table : List (List Name)) (i : ℕ) → rows_lack c table ≡ true → names_lack c (get_or table i []) ≡ true
row_lacks c [] i all = refl
row_lacks c (row ∷ table) zero all = (both (names_lack c row) (rows_lack c table) all).0
row_lacks c (row ∷ table) (suc i) all = row_lacks c table i (both (names_lack c row) (rows_lack c table) all).1

pub spelling-lacks_line_feed : (n : Name) → lacks 10 (spelling n) ≡ true
spelling-lacks_line_feed n = found_lacks 10 (get_or rows (length (spelling n)) []) (spelling n) n (spelling-found n) (row_lacks 10 rows (length (spelling n)) refl)

pub spelling-lacks_space : (n : Name) → lacks 32 (spelling n) ≡ true
spelling-lacks_space n = found_lacks 32 (get_or rows (length (spelling n)) []) (spelling n) n (spelling-found n) (row_lacks 32 rows (length (spelling n)) refl)

-- ---- What is found

pub name_of-exact : (text : List ℕ) (found : Option Name) → found ≡ name_of text → (n : Name) → (found ≡ Some n) ↔ (spelling n ≡ text)
unfolding name_of
name_of-exact text found is_found n = (λ h. found_is_spelled _ text n (sym is_found ∙ h), λ h. is_found ∙ subst (λ x. name_of_length rows x ≡ Some n) h (spelling-found n))
