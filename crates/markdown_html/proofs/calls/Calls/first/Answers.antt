use Rattle.std.proofs.Common.{◌≡◌, ℕ, ◌++◌, ◌∷◌, [], List, Option, None, Some, cond, length, map, refl, sym, ap, ◌∙◌}
use Rattle.std.specs.Str.{bytes_eq}
use Rattle.std.proofs.lemmas.List.{length-map, map-append}
use Rattle.markdown_html.specs.declared.calls.Call.{Call as CallHere}
use Rattle.markdown_html.specs.Gathered.{call_of}
use Rattle.markdown_html.specs.Page.{Call, index_of}
use Rattle.markdown_html.proofs.Indexes.{index-put}
use Rattle.markdown_html.proofs.Maps.{held-insert}
use Rattle.markdown_html.proofs.calls.Calls.first.Goals as goal

pub invariant_of-self-2 : goal.invariant_of-self-2
invariant_of-self-2 c = λ text.
    let key = c.args.identifier in
    let calls : List Call = map call_of c.self.inside.list.items in
    let call : Call = record { identifier = key.now; count = 1 } in
    let absent : index_of key.now calls ≡ None = ap (λ (l : List Call). index_of key.now l) c.self.view_is ∙ c.requires in
    let many : c.len-index.result ≡ length calls = c.len-index.ensures ∙ c.self.inside.list.ok.0 ∙ sym (length-map c.self.inside.list.items call_of) in
    let all : map call_of c.push_reserved.new.self.items ≡ calls ++ call ∷ [] = ap (map call_of) (c.push_reserved.ensures.items ∙ ap (λ (l : List CallHere). l ++ (record { identifier = key; count = 1 }) ∷ []) c.in_ok-reserve.ensures.items) ∙ map-append call_of c.self.inside.list.items ((record { identifier = key; count = 1 }) ∷ []) in
    held-insert key c.len-index.result c.self.inside.indexes c.insert.new.self c.in_ok-insert.ensures.updates text
    ∙ ap (λ (o : Option ℕ). cond (bytes_eq key.now text) (Some c.len-index.result) o) (c.self.invariant text)
    ∙ ap (λ (n : ℕ). cond (bytes_eq key.now text) (Some n) (index_of text calls)) many
    ∙ index-put key.now text calls call absent refl
    ∙ ap (λ (l : List Call). index_of text l) (sym all)
