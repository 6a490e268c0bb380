-- Where the mark of a task may come, piece by piece.
use Rattle.std.proofs.Common.{Bool, List, None, Some, [], ap, false, if◌then◌else◌, length, inl, inr, refl, subst, sym, true, ◌++◌, ◌∷◌, ◌∙◌, ◌≡◌, ◌⊎◌}
use Rattle.std.proofs.lemmas.Option.{same_Some}
use Rattle.event_writer.specs.Stages.{Enclosing, Stage, are_beside, entered, exited, flow, inlines, item, skips, task}
use Rattle.event_writer.specs.Written.{Written}
use Rattle.markdown_events.specs.Names.{role_of}
use Rattle.markdown_events.specs.declared.event.Name.TheVariants.{ListItemPrefix, Paragraph, SpaceOrTab}
use Rattle.markdown_pieces.specs.Walks.{SaysAll, State, Steps, Walks, inside, more, same, takes_text}
use Rattle.markdown_pieces.specs.Walks.{at as state}
use Rattle.markdown_pieces.specs.declared.piece.Piece.{Piece}
use Rattle.markdown_pieces.specs.declared.piece.PieceKind.{PieceKind}
use Rattle.markdown_pieces.specs.declared.piece.PieceKind.TheVariants.{BlankLineEnding, BlockQuotePrefix, Enter, Exit, LineEnding, OpeningSequence, Text, Token}
use Rattle.markdown_text.proofs.Contents.{outside}
use Rattle.markdown_text.proofs.Standings.{shared}
use Rattle.markdown_text.proofs.Steps.{says_outer}
use Rattle.markdown_text.specs.Contents.{next_place, place_after}
use Rattle.markdown_text.specs.Outputs.{IsAtText}
use Rattle.markdown_text.specs.Standings.{IsAt}
use Rattle.markdown_text.specs.Tasks.{IsAtContent, IsTask, IsTaskPlace, next_task_place}
use Rattle.markdown_text.specs.declared.content.Place.{Place}
use Rattle.markdown_text.specs.declared.content.Place.TheVariants.{AfterText, BeforeText, Outside}
use Rattle.markdown_text.specs.declared.document.TaskPlace.{TaskPlace}
use Rattle.markdown_text.specs.declared.document.TaskPlace.TheVariants.{InItem, InParagraph, Nowhere}

-- ---- Stages of texts

-- a text may stand among inlines alone
pub text_inlines : (a : Stage) → takes_text a ≡ true → (h : Bool) × (a ≡ inlines h)
text_inlines (inlines h) takes = (h, refl)
text_inlines _ takes = absurd (cc takes)

-- no stage comes after that of inlines with no item in between
inlines_stay : (h : Bool) (b : Stage) → skips (inlines h) b ≡ true → ⊥
inlines_stay h b skip = absurd (cc skip)

-- and after that of a task that of inlines alone
task_skips : (b : Stage) → skips task b ≡ true → b ≡ inlines false
task_skips (inlines false) skip = refl
task_skips _ skip = absurd (cc skip)

-- what is at the start of a paragraph stays there
pub text_stage : (r s : State) → SaysAll r s → (s.stage ≡ task) ⊎ (s.stage ≡ inlines false) → (r.stage ≡ task) ⊎ (r.stage ≡ inlines false)
text_stage r s (same _ is) at = subst (λ (u : State). (u.stage ≡ task) ⊎ (u.stage ≡ inlines false)) is at
text_stage r s (more _ t skip outer rest) (inl is) = text_stage r t rest (inr (task_skips t.stage (subst (λ (a : Stage). skips a t.stage ≡ true) is skip)))
text_stage r s (more _ t skip outer rest) (inr is) = absurd (inlines_stay false t.stage (subst (λ (a : Stage). skips a t.stage ≡ true) is skip))

-- inlines say nothing less
inlines_same : (r : State) (h : Bool) (outer : List Enclosing) → SaysAll r (state (inlines h) outer) → r ≡ state (inlines h) outer
inlines_same r h outer (same _ is) = sym is
inlines_same r h outer (more _ t skip o rest) = absurd (inlines_stay h t.stage skip)

-- ---- Contents

-- what stands in a content leaves the stage of inlines as it is
content_step : (k : PieceKind) (place : Place) (ps : List Piece) (r t : State) → place_after (next_place place k) ps ≡ AfterText → Steps k r t → t ≡ r
content_step (Enter name) AfterText ps r t h step = absurd (cc (outside ps))
content_step (Enter name) BeforeText ps r t h step = absurd (cc (outside ps))
content_step (Enter name) Outside ps r t h step = absurd (cc (outside ps))
content_step (Exit name) AfterText ps r t h step = absurd (cc (outside ps))
content_step (Exit name) BeforeText ps r t h step = absurd (cc (outside ps))
content_step (Exit name) Outside ps r t h step = absurd (cc (outside ps))
content_step OpeningSequence AfterText ps r t h step = absurd (cc (outside ps))
content_step OpeningSequence BeforeText ps r t h step = absurd (cc (outside ps))
content_step OpeningSequence Outside ps r t h step = absurd (cc (outside ps))
content_step (Token SpaceOrTab) place ps r t h step = λ i. record { stage = sym (same_Some r.stage t.stage step.0) i; outer = step.1 i }
content_step (Token name) AfterText ps r t h step = absurd (cc (outside ps))
content_step (Token name) BeforeText ps r t h step = absurd (cc (outside ps))
content_step (Token name) Outside ps r t h step = absurd (cc (outside ps))
content_step LineEnding place ps r t h step = step.1
content_step BlankLineEnding place ps r t h step = step
content_step Text place ps r t h step = step.1
content_step BlockQuotePrefix place ps r t h step = step

pub content_walks : (place : Place) (ps qs : List Piece) (h : Bool) (outer : List Enclosing) (u : State) → place_after place ps ≡ AfterText → Walks (state (inlines h) outer) (ps ++ qs) u → Walks (state (inlines h) outer) qs u
content_walks place [] qs h outer u content walks = walks
content_walks place (p ∷ ps) qs h outer u content walks =
    let there : walks.1 ≡ state (inlines h) outer = content_step p.kind place ps walks.0 walks.1 content walks.3 ∙ inlines_same walks.0 h outer walks.2 in
    content_walks (next_place place p.kind) ps qs h outer u content (subst (λ (s : State). Walks s (ps ++ qs) u) there walks.4)

-- where no piece is left, the last state is reached
pub walked : (s u : State) (ps : List Piece) → length ps ≡ 0 → Walks s ps u → SaysAll u s
walked s u [] none walks = walks
walked s u (p ∷ ps) none walks = absurd (cc none)

-- ---- Places of marks

-- a content begins where its first text may stand
pub task_begins : {R : Type 0} (w : Written R) (place : TaskPlace) (r s : State) (h : Bool) → SaysAll r s → r.stage ≡ inlines h → IsTaskPlace w place s → IsTask w place h r.outer
task_begins w Nowhere r s h says is at = tt
task_begins w InItem r s h says is at = tt
task_begins w InParagraph r s h says is at = (flag (text_stage r s says at.0), subst (λ (os : List Enclosing). IsAt w task os) (says_outer r s says) at.1)
  where
    flag : (r.stage ≡ task) ⊎ (r.stage ≡ inlines false) → h ≡ false
    flag (inl other) = absurd (cc (sym is ∙ other))
    flag (inr same') = no_heading h (sym is ∙ same')
      where
        no_heading : (b : Bool) → inlines b ≡ inlines false → b ≡ false
        no_heading true e = absurd (cc e)
        no_heading false e = refl

-- the content of a text
pub text_begins : {R : Type 0} (w : Written R) (is_task : Bool) (place : TaskPlace) (h : Bool) (outer : List Enclosing) → (is_task ≡ true → place ≡ InParagraph) → IsAtContent place w h outer → IsAtText is_task w h outer
text_begins w false place h outer where_task at = at.0
text_begins w true place h outer where_task at = subst (λ (p : TaskPlace). IsTask w p h outer) (where_task refl) at.1

-- the prefix of an item ends in an item
prefix_stage : (own a b : Stage) → exited own a (role_of ListItemPrefix) ≡ Some b → (n : Bool) × (b ≡ item n)
prefix_stage (item n) a b is = (n, kept (are_beside (item n) a) is)
  where
    kept : (beside : Bool) → if beside then Some (item n) else None ≡ Some b → b ≡ item n
    kept true is' = sym (same_Some (item n) b is')
    kept false is' = absurd (cc is')
prefix_stage _ a b is = absurd (cc is)

-- a paragraph is one of blocks
paragraph_stage : (a b : Stage) → entered a (role_of Paragraph) ≡ Some b → (b ≡ task) ⊎ (b ≡ inlines false)
paragraph_stage (item n) b is = inl (sym (same_Some task b is))
paragraph_stage (flow n) b is = inr (sym (same_Some (inlines false) b is))
paragraph_stage _ b is = absurd (cc is)

-- a place goes on with a piece that leaves the stages of items and tasks as they are
kept_place : {R : Type 0} (old new : Written R) (place : TaskPlace) (kind : PieceKind) (r s t : State) → ((a : Stage) (outer : List Enclosing) → Steps kind (state a outer) (state a outer)) → t ≡ r → SaysAll r s
    → ((u v : State) → Steps kind u v → IsAt old u.stage u.outer → IsAt new v.stage v.outer) → IsTaskPlace old place s → IsTaskPlace new place t
kept_place old new Nowhere kind r s t steps is says writes at = tt
kept_place old new InItem kind r s t steps is says writes at =
    let outer : s.outer ≡ t.outer = says_outer r s says ∙ sym (ap (λ (u : State). u.outer) is) in
    (at.0, subst (λ (os : List Enclosing). IsAt new (item at.0) os) outer (writes (state (item at.0) s.outer) (state (item at.0) s.outer) (steps (item at.0) s.outer) at.1))
kept_place old new InParagraph kind r s t steps is says writes at =
    let outer : s.outer ≡ t.outer = says_outer r s says ∙ sym (ap (λ (u : State). u.outer) is) in (
      subst (λ (u : State). (u.stage ≡ task) ⊎ (u.stage ≡ inlines false)) (sym is) (text_stage r s says at.0),
      subst (λ (os : List Enclosing). IsAt new task os) outer (writes (state task s.outer) (state task s.outer) (steps task s.outer) at.1),
    )

-- the place after a piece is true of the writer after it
pub place_after_piece : {R : Type 0} (old new : Written R) (place : TaskPlace) (kind : PieceKind) (r s t : State) → SaysAll r s → Steps kind r t → IsAt new t.stage t.outer
    → ((u v : State) → Steps kind u v → IsAt old u.stage u.outer → IsAt new v.stage v.outer) → IsTaskPlace old place s → IsTaskPlace new (next_task_place place kind) t
place_after_piece old new place (Exit ListItemPrefix) r s t says step here writes at =
    let own = prefix_stage r.stage step.0 t.stage step.1 in
    (own.0, subst (λ (b : Stage). IsAt new b t.outer) own.1 here)
place_after_piece old new InItem (Enter Paragraph) r s t says step here writes at = (
  paragraph_stage r.stage t.stage step.0,
  shared new task t.stage (inside Paragraph (item at.0) s.outer) t.outer refl (writes (state (item at.0) s.outer) (state task (inside Paragraph (item at.0) s.outer)) (refl, refl) at.1) here,
)
place_after_piece old new place (Token SpaceOrTab) r s t says step here writes at =
    kept_place old new place (Token SpaceOrTab) r s t (λ a outer. (refl, refl)) (λ i. record { stage = sym (same_Some r.stage t.stage step.0) i; outer = step.1 i }) says writes at
place_after_piece old new place BlankLineEnding r s t says step here writes at = kept_place old new place BlankLineEnding r s t (λ a outer. refl) step says writes at
place_after_piece old new Nowhere (Enter Paragraph) r s t says step here writes at = tt
place_after_piece old new InParagraph (Enter Paragraph) r s t says step here writes at = tt
place_after_piece old new place _ r s t says step here writes at = tt
