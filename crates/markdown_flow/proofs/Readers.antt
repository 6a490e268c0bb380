-- The spans that are open while a document is read, one container after the other.
use Rattle.std.proofs.Common.{◌≡◌, ◌∷◌, ◌++◌, ◌∙◌, Bool, List, None, Option, Some, [], option_to_list, ap, false, subst, sym, true, ℕ}
use Rattle.event_writer.specs.Stages.{flow}
use Rattle.markdown_flow.proofs.Containers.{next_item, number_last, outer_last}
use Rattle.markdown_flow.specs.Containers.{AreAlike, after_item, list_name, number_in, outer_in}
use Rattle.markdown_flow.specs.Leaves.{in_leaf}
use Rattle.markdown_flow.specs.Markers.{is_ordered}
use Rattle.markdown_flow.specs.Outputs.{Opens}
use Rattle.markdown_flow.specs.Readers.{OpensAll, goes_on, in_containers, in_last}
use Rattle.markdown_flow.specs.declared.container.Container.{Container}
use Rattle.markdown_flow.specs.declared.document.Reader.{Reader}
use Rattle.markdown_flow.specs.declared.output.Output.{Output}
use Rattle.markdown_pieces.specs.Walks.{at, inside, start}

-- one container more
in_one_more : (cs : List Container) (c : Container) → in_containers (cs ++ c ∷ []) ≡ in_last c cs
in_one_more cs c = λ t. at (flow (number_last false cs c t)) (outer_last false [] cs c t)

pub opens_one_more : (output : Output) (items cs : List Container) (c : Container) → items ≡ cs ++ c ∷ [] → Opens output (in_last c cs) → Opens output (in_containers items)
opens_one_more output items cs c is opens = subst (Opens output) (sym (ap in_containers is ∙ in_one_more cs c)) opens

-- and one less
pub opens_one_less : (output : Output) (items cs : List Container) (c : Container) → items ≡ cs ++ c ∷ [] → Opens output (in_containers items) → Opens output (in_last c cs)
opens_one_less output items cs c is opens = subst (Opens output) (ap in_containers is ∙ in_one_more cs c) opens

-- a list goes on
pub opens_next : (output : Output) (marker : Option ℕ) (m : ℕ) (cs : List Container) → marker ≡ Some m → Opens output (at (after_item (is_ordered m)) (inside (list_name (is_ordered m)) (flow (number_in false cs)) (outer_in false [] cs))) → Opens output (goes_on true marker cs)
opens_next output marker m cs is opens = subst (λ (x : Option ℕ). Opens output (goes_on true x cs)) (sym is) (next_item start (is_ordered m) (inside (list_name (is_ordered m)) (flow (number_in false cs)) (outer_in false [] cs)) output.pieces.items opens)

-- no list does where there is no marker
pub opens_none : (output : Output) (in_list : Bool) (cs : List Container) → Opens output (goes_on in_list None cs) → Opens output (in_containers cs)
opens_none output true cs opens = opens
opens_none output false cs opens = opens

-- the containers are others with the same spans
pub opens_alike : (old : Reader) (items : List Container) → AreAlike old.containers.items items → OpensAll old → Opens old.output (in_leaf old.flow.leaf (number_in false items) (outer_in false [] items))
opens_alike old items alike opens = let same = alike false [] in subst (Opens old.output) (λ t. in_leaf old.flow.leaf (sym same.0 t) (sym same.1 t)) opens

-- the last container is taken off
pub opens_popped : (output : Output) (items cs : List Container) (popped : Option Container) (d c : Container) → items ≡ cs ++ option_to_list popped → popped ≡ Some d → d ≡ c → Opens output (in_containers items) → Opens output (in_last c cs)
opens_popped output items cs popped d c is some same opens = opens_one_less output items cs c (is ∙ ap (λ (x : Option Container). cs ++ option_to_list x) (some ∙ ap Some same)) opens
