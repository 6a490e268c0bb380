-- What the stages allow is allowed, and what they say of the open spans stays true.
use Rattle.std.proofs.Common.{◌≡◌, ◌&&◌, ◌||◌, ◌∙◌, ◌∷◌, List, Some, [], ap, false, inl, inr, is_some, not, refl, subst, sym, true, ℕ}
use Rattle.markdown_events.specs.Around as spans_around
use Rattle.markdown_events.specs.Around.{under}
use Rattle.markdown_events.specs.Forest.{exit}
use Rattle.markdown_events.specs.Names.{role_of}
use Rattle.markdown_events.specs.Slices.{slice}
use Rattle.markdown_events.specs.declared.around.Around.{Around}
use Rattle.markdown_events.specs.declared.event.Name.{Name}
use Rattle.markdown_events.specs.declared.event.Point.{Point}
use Rattle.markdown_events.specs.declared.role.Content.TheVariants as contents
use Rattle.markdown_events.specs.declared.role.ItemKind.TheVariants.{Content as content, Part as part}
use Rattle.markdown_events.specs.declared.role.Role.{Role}
use Rattle.markdown_events.specs.declared.role.Role.TheVariants.{Significant as significant, Transparent as transparent}
use Rattle.markdown_grammar.specs.Document.{Source, byte_at}
use Rattle.markdown_grammar.specs.Items.{is_line_ending}
use Rattle.markdown_grammar.specs.Values.{is_read}
use Rattle.markdown_acceptance.specs.Calls.{AfterToken, AtRoot, Closed, IsAfterToken, Opened, exit_of, may_close, may_close_as, may_open, may_open_as, may_write, may_write_as}
use Rattle.markdown_acceptance.specs.ContentModels.{grammar_model}
use Rattle.markdown_acceptance.specs.PartSets.{contains}
use Rattle.markdown_acceptance.specs.Rules.{has_required, takes}
use Rattle.markdown_acceptance.specs.Sites.{IsAfter, may_enter, place_of}
use Rattle.markdown_acceptance.specs.Stacks.{Stack}
use Rattle.markdown_acceptance.specs.declared.open_spans.Frame.{Frame}
use Rattle.markdown_acceptance.specs.declared.site.Site.{Site}
use Rattle.event_writer.proofs.Models.{and_false, no, or_true}
use Rattle.event_writer.proofs.Stages.{Enters, ends_of_inlines, part_in, row_of_endings, skipped, stays, takes_content, takes_ending}
use Rattle.event_writer.specs.Stages.{Enclosing, IsWeaker, Stage, after_part, entered, exited, flow, in_part, in_transparent, is_in_row, is_in_value, nothing, takes_inlines, takes_line_endings, written}
use Rattle.event_writer.specs.Standing.{Fits, Ground, Shows, ShowsBreak, ShowsFrames, Waits, ground_of, is_readable}
use Rattle.event_writer.proofs.Moves.{Begins, Ends, Leaf, Passes, Stays, at_some, begins, begins_item, content_reads, ends, enters, frame_ends, front, ground_left, is_one, leaf, leaf_part, leaf_transparent, may_enter_if, outer_shown, part_reads, passes, stays_after, token_stands}

-- ---- Frames

frames_moved : (from to : Point → Type 0) → ((p : Point) → from p → to p) → (es : List Enclosing) (fs : List Frame) → ShowsFrames from es fs → ShowsFrames to es fs
frames_moved from to h [] [] s = tt
frames_moved from to h (e ∷ es) (f ∷ fs) s = (record { name = s.0.name; start = h f.start s.0.start; around = s.0.around; outer = s.0.outer; may_begin = s.0.may_begin }, frames_moved from to h es fs s.1)
frames_moved from to h [] (f ∷ fs) s = absurd s
frames_moved from to h (e ∷ es) [] s = absurd s

-- the starts of the open spans may be said of otherwise
pub moved : (from to : Point → Type 0) (spans : Stack) (a : Stage) (outer : List Enclosing) → ((p : Point) → from p → to p) → Shows from spans a outer → Shows to spans a outer
moved from to spans a outer h s = record { around = s.around; stage = s.stage; after_break = s.after_break; frames = frames_moved from to h outer spans.frames s.frames; waits = s.waits }

-- the same where a break waits
pub moved_break : (from to : Point → Type 0) (spans : Stack) (a : Stage) (outer : List Enclosing) → ((p : Point) → from p → to p) → ShowsBreak from spans a outer → ShowsBreak to spans a outer
moved_break from to spans a outer h s = record { around = s.around; stage = s.stage; after_break = s.after_break; frames = frames_moved from to h outer spans.frames s.frames; waits = s.waits }

-- no span is open
pub at_root : (from : Point → Type 0) (spans : Stack) → AtRoot spans → Shows from spans (flow false) []
at_root from spans r = record {
  around = r.around;
  stage = record {
    content = λ c. λ i. takes (r.initial_model i) (contains (spans.site).stood) (content c);
    whole = λ i. has_required (r.initial_model i) (contains (spans.site).stood) (spans.site).is_numbered;
    in_table = r.in_table;
    numbered = λ h. no h;
  };
  after_break = r.after_break;
  frames = subst (λ (fs : List Frame). ShowsFrames from [] fs) (sym r.frames) tt;
  waits = λ h. no h;
}

-- what is true at a stage is true at a weaker one
pub weaker : (from : Point → Type 0) (spans : Stack) (a b : Stage) (outer : List Enclosing) → Shows from spans a outer → IsWeaker a b → Shows from spans b outer
weaker from spans a b outer s (inl e) = subst (λ (x : Stage). Shows from spans x outer) e s
weaker from spans a b outer s (inr h) =
    let k : Fits b (ground_of spans.site) × (is_in_row a ≡ is_in_row b) × (is_in_value a ≡ is_in_value b) = skipped a b (ground_of spans.site) h s.stage in
    record {
      around = s.around ∙ (λ i. record { in_sealed = false; in_row = k.1 i; in_value = k.2 i });
      stage = k.0;
      after_break = s.after_break;
      frames = s.frames;
      waits = λ x. s.waits (k.1 ∙ x);
    }

-- ---- A span begins

opens : (bytes : List ℕ) (from : Point → Type 0) (spans : Stack) (a b : Stage) (outer : List Enclosing) (r : Role) (point : Point) → Shows from spans a outer → entered a r ≡ Some b
    → (r ≡ significant (content contents.Frontmatter) → is_some (byte_at bytes point) ≡ true) → (spans_around.may_begin spans.around r && may_open_as bytes spans.site r point) ≡ true
opens bytes from spans a b outer (transparent k) point s e byte =
    let p : Passes a k (ground_of spans.site) (Waits (ground_of spans.site) outer) b = at_some (in_transparent a k) b (Passes a k (ground_of spans.site) (Waits (ground_of spans.site) outer)) (passes a k (ground_of spans.site) (Waits (ground_of spans.site) outer) s.stage s.waits) e in
    (λ i. spans_around.may_begin (s.around i) (transparent k) && true) ∙ (λ i. p.begins i && true)
opens bytes from spans a b outer (significant what) point s e byte =
    let x : Enters what (ground_of spans.site) b = at_some (entered a (significant what)) b (Enters what (ground_of spans.site)) (enters a what (ground_of spans.site) s.stage) e in
    let m : may_enter bytes spans.site what point ≡ true = may_enter_if bytes spans.site what point (λ i. not (s.after_break i) || is_line_ending what) x.stands x.table (front what (is_some (byte_at bytes point)) byte) in
    (λ i. spans_around.may_begin (s.around i) (significant what) && m i) ∙ (λ i. begins_item a what i && true)

-- a span may begin where the stage says so
pub may_begin : (bytes : List ℕ) (from : Point → Type 0) (spans : Stack) (name : Name) (point : Point) (a b : Stage) (outer : List Enclosing) → Shows from spans a outer → entered a (role_of name) ≡ Some b
    → (role_of name ≡ significant (content contents.Frontmatter) → is_some (byte_at bytes point) ≡ true) → may_open bytes spans name point ≡ true
may_begin bytes from spans name point a b outer s e byte = opens bytes from spans a b outer (role_of name) point s e byte

-- it has begun: the stage in it is true, and it is the innermost span
pub begun : (from : Point → Type 0) (old new : Stack) (name : Name) (point : Point) (a b : Stage) (outer : List Enclosing) → Shows from old a outer → from point → entered a (role_of name) ≡ Some b → Opened name point old new
    → Shows from new b (record { name = name; stage = a } ∷ outer)
begun from old new name point a b outer s p e o =
    let x : Begins (role_of name) a b new.site (λ g. Waits g outer) = begins (role_of name) a b old.site new.site (λ g. Waits g outer) s.stage s.after_break s.waits e o.site in
    record {
      around = o.around ∙ (λ i. under (s.around i) (role_of name)) ∙ x.around;
      stage = x.stage;
      after_break = x.after_break;
      frames = subst (λ (fs : List Frame). ShowsFrames from (record { name = name; stage = a } ∷ outer) fs) (sym o.frames) (
        record {
          name = refl;
          start = p;
          around = s.around;
          outer = outer_shown (role_of name) a old.site s.stage s.after_break;
          may_begin = is_one (entered a (role_of name)) b e;
        },
        s.frames,
      );
      waits = x.waits;
    }

-- ---- A span ends

-- the innermost span has ended: the stage after it is true
pub finished : (from : Point → Type 0) (old new : Stack) (name : Name) (own a b : Stage) (outer : List Enclosing) → Shows from old own (record { name = name; stage = a } ∷ outer) → exited own a (role_of name) ≡ Some b → Closed old new
    → Shows from new b outer
finished from old new name own a b outer s e c =
    let fs : ShowsFrames from (record { name = name; stage = a } ∷ outer) (c.frame ∷ new.frames) = subst (λ (fs : List Frame). ShowsFrames from (record { name = name; stage = a } ∷ outer) fs) c.frames s.frames in
    let x : Ends a b new.site (λ g. Waits g outer) = ends (role_of name) own a b (c.frame).outer old.site new.site (λ g. Waits g outer) s.stage s.after_break s.waits fs.0.outer fs.0.may_begin e c.site in
    record { around = c.around ∙ fs.0.around ∙ x.around; stage = x.stage; after_break = x.after_break; frames = fs.1; waits = x.waits }

frames_end : (from : Point → Type 0) (s : Source) (site : Site) (name : Name) (own a b : Stage) (outer : List Enclosing) (end : Point) (fs : List Frame) → Fits own (ground_of site) → site.after_break ≡ false
    → ShowsFrames from (record { name = name; stage = a } ∷ outer) fs → exited own a (role_of name) ≡ Some b → ((start : Point) → from start → is_some (slice s.bytes start end) ≡ true)
    → elim fs [ [] ↦ false | f ∷ rest ↦ may_close_as s f.outer f.start site end ] ≡ true
frames_end from s site name own a b outer end [] f n k e t = absurd k
frames_end from s site name own a b outer end (g ∷ rest) f n k e t = frame_ends s (role_of name) own a b g.outer site g.start end f n k.0.outer k.0.may_begin e (t g.start k.0.start)

-- the innermost span may end where the stage says so, if there is a slice from where it began
pub may_finish : (from : Point → Type 0) (s : Source) (spans : Stack) (name : Name) (end : Point) (own a b : Stage) (outer : List Enclosing) → Shows from spans own (record { name = name; stage = a } ∷ outer)
    → exited own a (role_of name) ≡ Some b → ((start : Point) → from start → is_some (slice s.bytes start end) ≡ true) → may_close s spans end ≡ true
may_finish from s spans name end own a b outer x e t = frames_end from s spans.site name own a b outer end spans.frames x.stage x.after_break x.frames e t

exit_named : (from : Point → Type 0) (e : Enclosing) (outer : List Enclosing) (end : Point) (fs : List Frame) → ShowsFrames from (e ∷ outer) fs → elim fs [ [] ↦ [] | f ∷ rest ↦ exit f.name end ∷ [] ] ≡ exit e.name end ∷ []
exit_named from e outer end [] k = absurd k
exit_named from e outer end (g ∷ rest) k = λ i. exit (k.0.name i) end ∷ []

-- ---- Tokens

stands_as : (from : Point → Type 0) (s : Source) (spans : Stack) (r : Role) (start end : Point) (a b : Stage) (outer : List Enclosing) → Shows from spans a outer → written a r ≡ Some b → is_readable s a r start end ≡ true
    → (spans_around.may_begin spans.around r && may_write_as s spans.site r start end) ≡ true
stands_as from s spans (transparent k) start end a b outer x e t =
    (λ i. spans_around.may_begin (x.around i) (transparent k) && true) ∙ (λ i. (leaf_transparent a b k e).0 i && true)
stands_as from s spans (significant (content c)) start end a b outer x e t =
    let l : Leaf a b c (ground_of spans.site) = leaf a b c (ground_of spans.site) x.stage e in
    let m : may_enter s.bytes spans.site (content c) start ≡ true = may_enter_if s.bytes spans.site (content c) start (λ i. not (x.after_break i) || is_line_ending (content c)) l.stands ((λ i. (spans.site).in_table && l.plain.0 i) ∙ and_false (spans.site).in_table) (λ i. not (l.plain.1 i) || is_some (byte_at s.bytes start)) in
    let r : may_write_as s spans.site (significant (content c)) start end ≡ true = token_stands s spans.site (content c) start end m l.empty (content_reads s a (grammar_model (spans.site).model) (place_of spans.site) (spans.site).after_break c start end t) in
    (λ i. spans_around.may_begin (x.around i) (significant (content c)) && r i) ∙ (λ i. begins_item a (content c) i && true)
stands_as from s spans (significant (part p)) start end a b outer x e t =
    let l : (in_part a p ≡ Some nothing) × (after_part a p ≡ b) = leaf_part a b p (in_part a p) e in
    let k : Enters (part p) (ground_of spans.site) nothing = at_some (in_part a p) nothing (Enters (part p) (ground_of spans.site)) (part_in a p (ground_of spans.site) x.stage) l.0 in
    let m : may_enter s.bytes spans.site (part p) start ≡ true = may_enter_if s.bytes spans.site (part p) start (λ i. not (x.after_break i) || is_line_ending (part p)) k.stands k.table refl in
    let r : may_write_as s spans.site (significant (part p)) start end ≡ true = token_stands s spans.site (part p) start end m k.inside (part_reads s a (ground_of spans.site) (place_of spans.site) (spans.site).after_break p start end x.stage refl (is_one (in_part a p) nothing l.0) t) in
    (λ i. spans_around.may_begin (x.around i) (significant (part p)) && r i) ∙ (λ i. begins_item a (part p) i && true)

-- a token may stand where the stage says so, if what is read of it can be
pub may_stand : (from : Point → Type 0) (s : Source) (spans : Stack) (name : Name) (start end : Point) (a b : Stage) (outer : List Enclosing) → Shows from spans a outer → written a (role_of name) ≡ Some b
    → is_readable s a (role_of name) start end ≡ true → may_write s spans name start end ≡ true
may_stand from s spans name start end a b outer x e t = stands_as from s spans (role_of name) start end a b outer x e t

-- it stands: the stage after it is true
pub stood : (from : Point → Type 0) (old new : Stack) (name : Name) (a b : Stage) (outer : List Enclosing) → Shows from old a outer → written a (role_of name) ≡ Some b → AfterToken name old new → Shows from new b outer
stood from old new name a b outer x e t =
    let y : Stays a b old.site new.site = stays_after (role_of name) a b old.site new.site x.stage x.after_break e t.site in
    record {
      around = t.around ∙ x.around ∙ y.around;
      stage = y.stage;
      after_break = y.after_break;
      frames = subst (λ (fs : List Frame). ShowsFrames from outer fs) (sym t.frames) x.frames;
      waits = λ h. subst (λ (g : Ground). Waits g outer) (sym (y.waits h)) (x.waits (ap (λ (o : Around). o.in_row) y.around ∙ h));
    }

-- ---- Hard breaks

-- a break may stand where inlines may
pub may_break : (from : Point → Type 0) (s : Source) (spans : Stack) (name : Name) (start end : Point) (a : Stage) (outer : List Enclosing) → Shows from spans a outer → takes_inlines a ≡ true → role_of name ≡ significant (content contents.HardBreak)
    → may_write s spans name start end ≡ true
may_break from s spans name start end a outer x t role =
    let m : may_enter s.bytes spans.site (content contents.HardBreak) start ≡ true = may_enter_if s.bytes spans.site (content contents.HardBreak) start (λ i. not (x.after_break i) || false) (takes_content a (ground_of spans.site) t x.stage contents.HardBreak) (and_false (spans.site).in_table) refl in
    let r : may_write_as s spans.site (significant (content contents.HardBreak)) start end ≡ true = token_stands s spans.site (content contents.HardBreak) start end m refl refl in
    (λ i. spans_around.may_begin (x.around i) (role i) && may_write_as s spans.site (role i) start end) ∙ (λ i. begins_item a (content contents.HardBreak) i && r i)

-- then it waits for its line ending
pub broken : (from : Point → Type 0) (old new : Stack) (name : Name) (a : Stage) (outer : List Enclosing) → Shows from old a outer → takes_inlines a ≡ true → role_of name ≡ significant (content contents.HardBreak) → AfterToken name old new
    → ShowsBreak from new a outer
broken from old new name a outer x t role w =
    let after : IsAfter (content contents.HardBreak) false false old.site new.site = subst (λ (r : Role). IsAfterToken r old.site new.site) role w.site in
    record {
      around = w.around ∙ x.around;
      stage = subst (Fits a) (sym (ground_left (content contents.HardBreak) false false old.site new.site after)) (stays a contents.HardBreak false false (ground_of old.site) (ends_of_inlines a t) (λ h. (refl, refl)) x.stage);
      after_break = after.after_break;
      frames = subst (λ (fs : List Frame). ShowsFrames from outer fs) (sym w.frames) x.frames;
      waits = λ h. no (sym (row_of_endings a (ends_of_inlines a t)) ∙ h);
    }

-- that may stand, and its bytes are not read
pub may_mend : (from : Point → Type 0) (s : Source) (spans : Stack) (name : Name) (start end : Point) (a : Stage) (outer : List Enclosing) → ShowsBreak from spans a outer → takes_line_endings a ≡ true → role_of name ≡ significant (content contents.LineEnding)
    → may_write s spans name start end ≡ true
may_mend from s spans name start end a outer x t role =
    let m : may_enter s.bytes spans.site (content contents.LineEnding) start ≡ true = may_enter_if s.bytes spans.site (content contents.LineEnding) start (or_true (not (spans.site).after_break)) (takes_ending a (ground_of spans.site) t x.stage) (and_false (spans.site).in_table) refl in
    let read : is_read s (grammar_model (spans.site).model) (place_of spans.site) (spans.site).after_break (content contents.LineEnding) start end ≡ true = (λ i. not ((spans.site).line_endings && not (x.after_break i)) || is_some (slice s.bytes start end)) ∙ (λ i. not (and_false (spans.site).line_endings i) || is_some (slice s.bytes start end)) in
    let r : may_write_as s spans.site (significant (content contents.LineEnding)) start end ≡ true = token_stands s spans.site (content contents.LineEnding) start end m refl read in
    (λ i. spans_around.may_begin (x.around i) (role i) && may_write_as s spans.site (role i) start end) ∙ (λ i. begins_item a (content contents.LineEnding) i && r i)

-- and then no break waits
pub mended : (from : Point → Type 0) (old new : Stack) (name : Name) (a : Stage) (outer : List Enclosing) → ShowsBreak from old a outer → takes_line_endings a ≡ true → role_of name ≡ significant (content contents.LineEnding) → AfterToken name old new
    → Shows from new a outer
mended from old new name a outer x t role w =
    let after : IsAfter (content contents.LineEnding) false false old.site new.site = subst (λ (r : Role). IsAfterToken r old.site new.site) role w.site in
    record {
      around = w.around ∙ x.around;
      stage = subst (Fits a) (sym (ground_left (content contents.LineEnding) false false old.site new.site after)) (stays a contents.LineEnding false false (ground_of old.site) t (λ h. (refl, refl)) x.stage);
      after_break = after.after_break;
      frames = subst (λ (fs : List Frame). ShowsFrames from outer fs) (sym w.frames) x.frames;
      waits = λ h. no (sym (row_of_endings a t) ∙ h);
    }
