-- Where the second pass begins and ends: the pairs of a content without closing brackets, and their spans.
use Rattle.std.proofs.Common.{List, [], arith, length, refl, replicate, subst, sym, ℕ, ◌++◌, ◌∙◌, ◌≡◌, ◌≤◌}
use Rattle.std.proofs.lemmas.List.{append-nil}
use Rattle.std.proofs.lemmas.Grind.{common_steps}
use Rattle.markdown_attention.specs.Emphasis.{Pair}
use Rattle.markdown_attention.specs.Runs.{marked}
use Rattle.markdown_attention.specs.declared.delimiter.Delimiter.{Delimiter}
use Rattle.markdown_attention.specs.declared.delimiter.Delimiter.TheVariants.{Data}
use Rattle.markdown_attention.proofs.Sequences.{alone, balanced, lies_in_run, same_length}
use Rattle.markdown_events.specs.declared.event.Event.{Event}
use Rattle.markdown_options.specs.declared.ParseOptions.{ParseOptions}
use Rattle.markdown_text.proofs.AttentionTokens.{InOrder, in_order, stand}
use Rattle.markdown_text.proofs.AttentionWalk.{none_open, walked_data}
use Rattle.markdown_text.specs.AttentionEvents.{attention_of}
use Rattle.markdown_text.specs.AttentionWaiting.{ArePairsOf}
use Rattle.markdown_text.specs.AttentionSpans.{AreSpansOf, Place}
use Rattle.markdown_text.specs.AttentionWalk.{HasWalked, IsWalkOf, StandInTokens, Walk, WalksOn}
use Rattle.markdown_pieces.specs.Tilings.{Spot}
use Rattle.markdown_text.specs.Outputs.{bytes_of, content_end, document_of}
use Rattle.markdown_text.specs.Tokens.{AreTokens, Text}
use Rattle.markdown_text.specs.declared.output.Output.{Output}
use Rattle.markdown_text.specs.declared.text.Open.{Open}
use Rattle.markdown_text.specs.declared.token.Token.{Token}

-- the walk over what the pairs of a text mark
abbrev pub place_of : List ℕ → Text → Spot → Place
place_of document text stop = record { document = document; content = text.bytes; stop = stop }

abbrev pub walk_of : Place → List Pair → List Event → Walk
walk_of place pairs before = record { place = place; delimiters = marked pairs (replicate (length place.content) Data); before = before }

size_of : (n : ℕ) → length (replicate n Data) ≡ n
size_of n = grind (arith, common_steps)

pub is_walk : (options : ParseOptions) (document : List ℕ) (text : Text) (stop : Spot) (tokens : List Token) (delimiters : List Delimiter) (before : List Event) (p : ArePairsOf options text.bytes tokens delimiters) → AreTokens text 0 tokens → IsWalkOf (walk_of (place_of document text stop) p.pairs before) delimiters
is_walk options document text stop tokens delimiters before p found =
    let order : InOrder 0 (length text.bytes) p.runs = in_order text 0 tokens p.runs found p.are in
    record {
      size = same_length p.pairs (replicate (length text.bytes) Data) ∙ size_of (length text.bytes);
      apart = λ at kind is k least less. alone (length text.bytes) p.runs p.pairs order.follow order.within p.resolves at k kind is (omega (arith, least)) less;
      same = p.delimiters_are;
    }

-- At the start nothing is written, and nothing is open.
pub begins_walk : {R S : Type 0} (options : ParseOptions) (document : List ℕ) (text : Text) (stop : Spot) (tokens : List Token) (delimiters : List Delimiter) (before : List Event) (p : ArePairsOf options text.bytes tokens delimiters) → AreTokens text 0 tokens
    → (output : Output R S) → document_of output ≡ document → bytes_of output ≡ text.bytes → content_end output ≡ stop → attention_of output ≡ before → output.«data» ≡ 0 → WalksOn (walk_of (place_of document text stop) p.pairs before) output [] tokens
begins_walk {R} options document text stop tokens delimiters before p found output same_document same_bytes same_stop none start =
    let order : InOrder 0 (length text.bytes) p.runs = in_order text 0 tokens p.runs found p.are in
    let walk : Walk = walk_of (place_of document text stop) p.pairs before in
    let walked : HasWalked walk output [] 0 = record {
      document = same_document;
      content = same_bytes;
      stop = same_stop;
      kinds = [];
      are_open = refl;
      balanced = balanced (length text.bytes) p.runs p.pairs order.follow order.within p.resolves;
      events = [];
      written = none ∙ sym (append-nil before);
      are_events = tt;
    } in
    record {
      walked = subst (HasWalked walk output []) (sym start) walked;
      no_labels = p.no_labels;
      stand = subst (λ n. StandInTokens walk.delimiters n tokens) (sym start) (stand text tokens p.runs walk.delimiters found p.are (lies_in_run (length text.bytes) p.runs p.pairs order.follow order.within p.resolves));
    }

-- At the end nothing is open, and the spans are written.
pub ends_walk : {R S : Type 0} (options : ParseOptions) (document : List ℕ) (text : Text) (stop : Spot) (tokens : List Token) (delimiters : List Delimiter) (before : List Event) (p : ArePairsOf options text.bytes tokens delimiters) → AreTokens text 0 tokens
    → (output : Output R S) (constructs : List Open) → WalksOn (walk_of (place_of document text stop) p.pairs before) output constructs [] → output.«data» ≤ length text.bytes
    → (constructs ≡ []) × ((es : List Event) × (attention_of output ≡ before ++ es) × AreSpansOf options (place_of document text stop) text es)
ends_walk {R} options document text stop tokens delimiters before p found output constructs walks most =
    let walk : Walk = walk_of (place_of document text stop) p.pairs before in
    let size : length walk.delimiters ≡ length text.bytes = same_length p.pairs (replicate (length text.bytes) Data) ∙ size_of (length text.bytes) in
    let end = none_open walk output constructs (walked_data walk output constructs output.«data» (length walk.delimiters) (omega (arith, most, size)) (omega arith) walks.stand walks.walked) in
    (end.0, (end.1.0, end.1.1, record { tokens = tokens; found = found; runs = p.runs; are_runs = p.are; are_all = p.all; pairs = p.pairs; resolves = p.resolves; are_events = end.1.2 }))

-- From the start to the end: the mark of a task, and the tokens after it.
pub whole_walk : {R S : Type 0} (options : ParseOptions) (document : List ℕ) (text : Text) (stop : Spot) (tokens given rest : List Token) (delimiters known : List Delimiter) (before : List Event) → ArePairsOf options text.bytes tokens delimiters → AreTokens text 0 tokens → given ≡ tokens → known ≡ delimiters
    → (first second third : Output R S) (none last : List Open) → none ≡ [] → document_of first ≡ document → bytes_of first ≡ text.bytes → content_end first ≡ stop → attention_of first ≡ before → first.«data» ≡ 0
    → ((walk : Walk) (constructs : List Open) → length walk.delimiters ≡ length walk.place.content → WalksOn walk first constructs given → WalksOn walk second constructs rest)
    → ((walk : Walk) → IsWalkOf walk known → WalksOn walk second none rest → WalksOn walk third last [])
    → third.«data» ≤ length text.bytes → (last ≡ []) × ((es : List Event) × (attention_of third ≡ before ++ es) × AreSpansOf options (place_of document text stop) text es)
whole_walk {R} options document text stop tokens given rest delimiters known before p found same_tokens same_delimiters first second third none last is_none same_document same_bytes same_stop unwritten start task all most =
    let walk : Walk = walk_of (place_of document text stop) p.pairs before in
    let is : IsWalkOf walk delimiters = is_walk options document text stop tokens delimiters before p found in
    let at_start = begins_walk options document text stop tokens delimiters before p found first same_document same_bytes same_stop unwritten start in
    let after_task = task walk [] is.size (subst (WalksOn walk first []) (sym same_tokens) at_start) in
    let at_end = all walk (subst (IsWalkOf walk) (sym same_delimiters) is) (subst (λ os. WalksOn walk second os rest) (sym is_none) after_task) in
    ends_walk options document text stop tokens delimiters before p found third last at_end most
