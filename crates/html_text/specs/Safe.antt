-- How a browser's tokenizer reads a text (HTML Standard), and which texts are safe. It knows what a page here may have and refuses
-- everything else: a comment, a tag or an attribute that is not listed, a value without quotes, another character reference,
-- a value that its attribute may not have, an element where a browser would move it or close another for it.
use Rattle.std.specs.Prelude.{◌≡◌, ℕ, Bool, true, false, not, ◌&&◌, ◌||◌, List, [], ◌∷◌, ◌++◌, Option, Some, None, if◌then◌else◌, ◌==◌, codes}
use Rattle.std.specs.List.{list_any, list_all}
use Rattle.std.specs.Str.{bytes_eq}
use Rattle.html_text.specs.Urls.{one_of, between, is_safe_link, is_safe_source}

-- the limits of a safe page: the prefix of each id, and whether an address may have any scheme
pub record Allowed : Type 0 where
  pub id_prefix : List ℕ
  pub any_url : Bool

-- the elements that are allowed: those with an end tag, and those without
abbrev pub elements : List (List ℕ)
elements = codes "p" ∷ codes "blockquote" ∷ codes "em" ∷ codes "strong" ∷ codes "del" ∷ codes "sup" ∷ codes "h1" ∷ codes "h2" ∷ codes "h3" ∷ codes "h4" ∷ codes "h5" ∷ codes "h6" ∷ codes "ol" ∷ codes "ul" ∷ codes "li" ∷ codes "pre" ∷ codes "code" ∷ codes "a" ∷ codes "table" ∷ codes "thead" ∷ codes "tbody" ∷ codes "tr" ∷ codes "th" ∷ codes "td" ∷ codes "section" ∷ []

abbrev pub void_elements : List (List ℕ)
void_elements = codes "hr" ∷ codes "br" ∷ codes "img" ∷ codes "input" ∷ []

-- elements in which no block begins, and the blocks: a browser would close a paragraph for a block, or put it before a table
abbrev pub closed_elements : List (List ℕ)
closed_elements = codes "p" ∷ codes "h1" ∷ codes "h2" ∷ codes "h3" ∷ codes "h4" ∷ codes "h5" ∷ codes "h6" ∷ codes "table" ∷ []

abbrev pub blocks : List (List ℕ)
blocks = codes "blockquote" ∷ codes "ol" ∷ codes "ul" ∷ codes "pre" ∷ codes "section" ∷ codes "hr" ∷ closed_elements

-- a link is open; no element is open in which no block begins; the innermost open element is one of these
abbrev pub has_link : (up : List (List ℕ)) → Bool
has_link up = list_any (bytes_eq (codes "a")) up

abbrev pub takes_blocks : (up : List (List ℕ)) → Bool
takes_blocks up = not (list_any (one_of closed_elements) up)

abbrev pub is_in : (parents up : List (List ℕ)) → Bool
is_in parents [] = false
is_in parents (last ∷ up) = one_of parents last

-- an element may begin where these are open, the innermost first: no link in a link; items, rows and cells in their parents
abbrev pub may_begin : (up : List (List ℕ)) → (name : List ℕ) → Bool
may_begin up name =
    if bytes_eq name (codes "a") then not (has_link up)
    else (if bytes_eq name (codes "li") then is_in (codes "ol" ∷ codes "ul" ∷ []) up
    else (if bytes_eq name (codes "thead") || bytes_eq name (codes "tbody") then is_in (codes "table" ∷ []) up
    else (if bytes_eq name (codes "tr") then is_in (codes "thead" ∷ codes "tbody" ∷ []) up
    else (if bytes_eq name (codes "th") || bytes_eq name (codes "td") then is_in (codes "tr" ∷ []) up
    else (if one_of blocks name then takes_blocks up
    else true)))))

-- the attributes that an element may have
abbrev pub attributes_of : List ℕ → List (List ℕ)
attributes_of name =
    if bytes_eq name (codes "a") then codes "href" ∷ codes "title" ∷ codes "id" ∷ codes "class" ∷ codes "data-footnote-ref" ∷ codes "data-footnote-backref" ∷ codes "aria-describedby" ∷ codes "aria-label" ∷ []
    else (if bytes_eq name (codes "img") then codes "src" ∷ codes "alt" ∷ codes "title" ∷ []
    else (if bytes_eq name (codes "ol") then codes "start" ∷ codes "class" ∷ []
    else (if bytes_eq name (codes "li") then codes "id" ∷ codes "class" ∷ []
    else (if bytes_eq name (codes "sup") then codes "id" ∷ []
    else (if bytes_eq name (codes "ul") || bytes_eq name (codes "code") then codes "class" ∷ []
    else (if bytes_eq name (codes "input") then codes "type" ∷ codes "checked" ∷ codes "disabled" ∷ []
    else (if bytes_eq name (codes "th") || bytes_eq name (codes "td") then codes "align" ∷ []
    else (if bytes_eq name (codes "section") then codes "data-footnotes" ∷ codes "class" ∷ []
    else (if bytes_eq name (codes "h2") then codes "class" ∷ codes "id" ∷ []
    else [])))))))))

-- the rest of a text that begins with another one
abbrev pub after_front : List ℕ → List ℕ → Option (List ℕ)
after_front [] text = Some text
after_front (_ ∷ _) [] = None
after_front (a ∷ front) (b ∷ text) = if a == b then after_front front text else None

-- a text begins with another
abbrev pub begins_with : List ℕ → List ℕ → Bool
begins_with front text = elim (after_front front text) [ None ↦ false | Some _ ↦ true ]

-- a byte that separates the classes of an element
abbrev pub is_space : ℕ → Bool
is_space b = b == 32 || b == 9 || b == 10 || b == 12 || b == 13

-- one class, which begins with `language-`
abbrev pub is_language_class : List ℕ → Bool
is_language_class value = elim (after_front (codes "language-") value) [ None ↦ false | Some language ↦ not (list_any is_space language) ]

-- the other classes that are allowed
abbrev pub classes : List (List ℕ)
classes = codes "contains-task-list" ∷ codes "task-list-item" ∷ codes "language-math math-inline" ∷ codes "language-math math-display" ∷ codes "footnotes" ∷ codes "sr-only" ∷ codes "data-footnote-backref" ∷ []

-- attributes whose values are texts for people
abbrev pub texts : List (List ℕ)
texts = codes "title" ∷ codes "alt" ∷ codes "aria-label" ∷ []

-- attributes that are on or off
abbrev pub switches : List (List ℕ)
switches = codes "checked" ∷ codes "disabled" ∷ codes "data-footnote-ref" ∷ codes "data-footnote-backref" ∷ codes "data-footnotes" ∷ []

-- the alignments of a cell
abbrev pub alignments : List (List ℕ)
alignments = codes "left" ∷ codes "right" ∷ codes "center" ∷ []

-- the character of a reference, between `&` and `;`
abbrev pub character : List ℕ → Option ℕ
character name =
    if bytes_eq name (codes "amp") then Some 38
    else (if bytes_eq name (codes "lt") then Some 60
    else (if bytes_eq name (codes "gt") then Some 62
    else (if bytes_eq name (codes "quot") then Some 34
    else None)))

-- the state of the tokenizer; `up` are the open elements, the innermost first
pub data State : Type 0 where
  content : (up : List (List ℕ)) → State
  reference : (up : List (List ℕ)) (read : List ℕ) → State
  tag : (up : List (List ℕ)) → State
  start_tag : (up : List (List ℕ)) (read : List ℕ) → State
  end_tag : (up : List (List ℕ)) (read : List ℕ) → State
  after_value : (up : List (List ℕ)) (name : List ℕ) → State
  attribute_name : (up : List (List ℕ)) (name read : List ℕ) → State
  before_value : (up : List (List ℕ)) (name attribute : List ℕ) → State
  in_value : (up : List (List ℕ)) (name attribute value : List ℕ) → State
  value_reference : (up : List (List ℕ)) (name attribute value read : List ℕ) → State
  void_end : (up : List (List ℕ)) → State
  unsafe : State

-- the state after a character reference
abbrev pub referred : List (List ℕ) → Option ℕ → State
referred up None = unsafe
referred up (Some _) = content up

abbrev pub value_referred : (up : List (List ℕ)) (name attribute value : List ℕ) → Option ℕ → State
value_referred up name attribute value None = unsafe
value_referred up name attribute value (Some c) = in_value up name attribute (value ++ (c ∷ []))

-- the state after the end tag of an element
abbrev pub closed : List (List ℕ) → List ℕ → State
closed [] name = unsafe
closed (last ∷ up) name = if bytes_eq last name then content up else unsafe

module _ (allowed : Allowed) where
  -- the values that an attribute may have
  abbrev pub may_be : (name value : List ℕ) → Bool
  may_be name value =
      if bytes_eq name (codes "href") then allowed.any_url || is_safe_link value
      else (if bytes_eq name (codes "src") then allowed.any_url || is_safe_source value
      else (if bytes_eq name (codes "id") || bytes_eq name (codes "aria-describedby") then begins_with allowed.id_prefix value
      else (if bytes_eq name (codes "class") then is_language_class value || one_of classes value
      else (if bytes_eq name (codes "start") then list_all (between 48 57) value
      else (if bytes_eq name (codes "align") then one_of alignments value
      else (if bytes_eq name (codes "type") then bytes_eq value (codes "checkbox")
      else (if one_of switches name then bytes_eq value []
      else one_of texts name)))))))

  -- the state after one byte
  abbrev pub step : State → ℕ → State
  step (content up) b = if b == 60 then tag up else (if b == 38 then reference up [] else (if b == 62 then unsafe else content up))
  step (reference up read) b = if b == 59 then referred up (character read) else reference up (read ++ (b ∷ []))
  step (tag up) b = if b == 47 then end_tag up [] else start_tag up (b ∷ [])
  step (start_tag up read) b =
      if b == 62 then (if one_of elements read && may_begin up read then content (read ∷ up) else unsafe)
      else (if b == 32 then (if (one_of elements read || one_of void_elements read) && may_begin up read then attribute_name up read [] else unsafe)
      else start_tag up (read ++ (b ∷ [])))
  step (end_tag up read) b = if b == 62 then closed up read else end_tag up (read ++ (b ∷ []))
  step (after_value up name) b =
      if b == 62 then (if one_of elements name then content (name ∷ up) else unsafe)
      else (if b == 32 then attribute_name up name [] else unsafe)
  step (attribute_name up name read) b =
      if b == 61 then (if one_of (attributes_of name) read then before_value up name read else unsafe)
      else (if b == 47 && bytes_eq read [] then (if one_of void_elements name then void_end up else unsafe)
      else attribute_name up name (read ++ (b ∷ [])))
  step (before_value up name attribute) b = if b == 34 then in_value up name attribute [] else unsafe
  step (in_value up name attribute value) b =
      if b == 34 then (if may_be attribute value then after_value up name else unsafe)
      else (if b == 38 then value_reference up name attribute value []
      else in_value up name attribute (value ++ (b ∷ [])))
  step (value_reference up name attribute value read) b =
      if b == 59 then value_referred up name attribute value (character read)
      else value_reference up name attribute value (read ++ (b ∷ []))
  step (void_end up) b = if b == 62 then content up else unsafe
  step unsafe b = unsafe

  -- the state after a text
  abbrev pub run : State → List ℕ → State
  run state [] = state
  run state (b ∷ text) = run (step state b) text

  -- a text that is safe in a page: it is read to its end, and it closes each element that it opens
  unfoldable pub IsSafe : List ℕ → Type 0
  IsSafe text = run (content []) text ≡ content []
