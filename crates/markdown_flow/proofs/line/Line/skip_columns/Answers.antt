use Rattle.std.proofs.Common.{arith, ap, get_or, length, sym, subst, List, ℕ, inl, ◌∙◌, ◌∷◌, ◌+◌, ◌<◌, ◌≡◌}
use Rattle.std.specs.List.{between}
use Rattle.std.proofs.lemmas.Slice.{first_rest}
use Rattle.markdown_flow.specs.Lines.{after_spaces, indentation, width}
use Rattle.markdown_flow.proofs.Lines.{Stands, into, white-more}
use Rattle.markdown_flow.proofs.Cursors.{byte-over, closer, columns-below}
use Rattle.markdown_flow.proofs.line.Line.skip_columns.Goals as goal
use Rattle.markdown_flow.proofs.line.Line.skip_columns.Goals.{Else-left-width, Joined-rest-lt1, in_default, in-len1-up+then-left-width}

-- the bytes after the cursor, from the next one on
front : (c : Else-left-width) → c.bytes.rest.now ≡ get_or c.bytes.rest.now 0 0 ∷ between 1 (length c.bytes.rest.now) c.bytes.rest.now
front c = first_rest c.bytes.rest.now 0 c.in-len1-up.len_at_least

-- the cursor moves over the next byte
over-next : (c : Else-left-width) → Stands c.args.self.now.source.document.now c.args.self.now.start c.args.self.now.end (between 1 (length c.bytes.rest.now) c.bytes.rest.now) 0 (c.bytes.before + c.width-width.result)
over-next c =
    let line = c.args.self.now in
    let at = subst (λ (text : List ℕ). Stands line.source.document.now line.start line.end text c.bytes.virtual_spaces c.bytes.before) (front c) c.bytes.invariant.stands in
    subst (λ (n : ℕ). Stands line.source.document.now line.start line.end (between 1 (length c.bytes.rest.now) c.bytes.rest.now) 0 (c.bytes.before + n)) (sym c.width-width.ensures.value)
    (byte-over line (get_or c.bytes.rest.now 0 0) (between 1 (length c.bytes.rest.now) c.bytes.rest.now) c.bytes.virtual_spaces c.bytes.before at)

pub overflow_add-before : goal.overflow_add-before
overflow_add-before c =
    let b = columns-below c.args.self.now (between 1 (length c.bytes.rest.now) c.bytes.rest.now) 0 (c.bytes.before + c.width-width.result) (over-next c) in
    omega arith

pub bytes-preserved : goal.bytes-preserved
bytes-preserved c =
    let line = c.args.self.now in
    let b : ℕ = get_or c.bytes.rest.now 0 0 in
    let rest : List ℕ = between 1 (length c.bytes.rest.now) c.bytes.rest.now in
    let i = c.bytes.invariant in
    let w : c.width-width.result ≡ width b c.bytes.before = c.width-width.ensures.value in
    let e : indentation c.bytes.before c.bytes.rest.now ≡ indentation c.bytes.before (b ∷ rest) = ap (indentation c.bytes.before) (front c) in
    let more = white-more b c.bytes.before rest (omega (arith, e, i.indent, i.left, c.width-width.ensures.least)) in
    let k : indentation (c.bytes.before + c.width-width.result) rest ≡ indentation (c.bytes.before + width b c.bytes.before) rest = ap (λ (n : ℕ). indentation (c.bytes.before + n) rest) w in
    let l : length c.bytes.rest.now ≡ length (b ∷ rest) = ap length (front c) in
    record {
      stands = over-next c;
      text = i.text ∙ ap after_spaces (front c) ∙ more.0;
      indent = omega (arith, more.1, e, k, w, i.indent);
      left = omega (arith, i.left);
      order = inl (closer (length line.rest.now) (length c.bytes.rest.now) (length rest) line.virtual_spaces c.bytes.virtual_spaces i.order (omega (arith, l)));
    }

-- what is left is narrower than the next byte
wide : (c : Joined-rest-lt1) → 0 < length c.bytes.rest.now → c.bytes.left < width (get_or c.bytes.rest.now 0 0) c.bytes.before
wide c some =
    elim c.if-rest-lt1.branch [
      | in_default w ↦ absurd (omega arith)
      | in-len1-up+then-left-width w ↦ let e = w.width-width.ensures.value in omega (arith, e, w.if-left-width.true)
    ]

-- the cursor moves over what is left
last : (c : Joined-rest-lt1) → Stands c.args.self.now.source.document.now c.args.self.now.start c.args.self.now.end c.bytes.rest.now (c.bytes.virtual_spaces + c.bytes.left) (c.bytes.before + c.bytes.left)
    × (indentation (c.bytes.before + c.bytes.left) c.bytes.rest.now + c.bytes.left ≡ indentation c.bytes.before c.bytes.rest.now)
last c =
    let line = c.args.self.now in
    let i = c.bytes.invariant in
    let m = c.min-moved.ensures in
    into line.source.document.now line.start line.end line.next line.whole c.bytes.left c.bytes.rest.now c.bytes.virtual_spaces c.bytes.before i.stands (omega (arith, i.indent, i.left, m)) (wide c)

pub overflow_add-self : goal.overflow_add-self
overflow_add-self c =
    let b = columns-below c.args.self.now c.bytes.rest.now (c.bytes.virtual_spaces + c.bytes.left) (c.bytes.before + c.bytes.left) (last c).0 in
    omega arith

pub overflow_add-self-2 : goal.overflow_add-self-2
overflow_add-self-2 c =
    let b = columns-below c.args.self.now c.bytes.rest.now (c.bytes.virtual_spaces + c.bytes.left) (c.bytes.before + c.bytes.left) (last c).0 in
    let p = (last c).0.place.column in
    omega arith

pub invariant_of-self : goal.invariant_of-self
invariant_of-self c =
    let line = c.args.self.now in
    let i = c.bytes.invariant in
    let l = last c in
    record {
      whole = line.whole;
      later = line.later;
      rest_fits = l.0.fits;
      rest_stands = l.0.before;
      text_rests = i.text;
      has_columns = l.0.place;
      has_indent = omega (arith, l.1, i.indent, c.min-moved.ensures);
      tail_exact = line.tail_exact;
    }
