-- Code that is its own value.
use Rattle.std.proofs.Common.{◌≡◌, ℕ, Bool, true, ◌&&◌, List, ◌++◌, ◌-◌, drop, length, length-drop, sym, ◌∙◌, ap, take, take-append-drop}
use Rattle.std.proofs.Math.Seq.{take-length}
use Rattle.std.specs.List.{list_all}
use Rattle.markdown_events.specs.Texts.{raw, spaces}
use Rattle.markdown_parts.proofs.TextCuts.{value_stays}
use Rattle.markdown_parts.specs.ValueTexts.{is_kept, is_unpadded}
use Rattle.markdown_words.specs.Saying.{Said, put, since}

-- nothing is to be put in its place
pub stays : (said : Said) (in_table : Bool) → (is_unpadded (since said) && list_all is_kept (since said)) ≡ true → said ≡ put (raw (spaces (since said)) in_table) said
stays said in_table h = λ i. record {
  text = (sym (take-append-drop said.mark said.text) ∙ ap (λ x. take said.mark said.text ++ x) (value_stays (since said) in_table h)) i;
  mark = said.mark;
  last = said.last;
}

-- the rest of a list, as a slice takes it
pub rest-taken : (mark : ℕ) (bytes : List ℕ) → take (length bytes - mark) (drop mark bytes) ≡ drop mark bytes
rest-taken mark bytes = ap (λ (n : ℕ). take n (drop mark bytes)) (sym (length-drop mark bytes)) ∙ take-length (drop mark bytes)
