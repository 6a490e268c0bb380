use Rattle.std.proofs.Common.{rules, ◌≡◌, ℕ, ◌<◌, List, Some, length, map, set, refl, arith, sym, ap, ◌∙◌, slice_get, slice_index_or, slice_set}
use Rattle.std.specs.Prelude.{option_map}
use Rattle.std.proofs.lemmas.List.{length-map, map-set}
use Rattle.std.proofs.lemmas.Option.{slice_get-map, slice_get_read}
use Rattle.markdown_html.specs.declared.calls.Call.{Call as CallHere}
use Rattle.markdown_html.specs.Gathered.{call_of}
use Rattle.markdown_html.specs.Page.{Call, again, count_at, index_of, more}
use Rattle.markdown_html.proofs.Indexes.{again-set, count-at, index-again}
use Rattle.markdown_html.proofs.calls.Calls.again.Goals as goal

-- the call of an index is replaced
replaced : (items : List CallHere) (index : ℕ) (old new : CallHere) (calls : List Call) → map call_of items ≡ calls → index < length calls → old ≡ slice_index_or items index old → new.identifier.now ≡ old.identifier.now → new.count ≡ more old.count → (map call_of (slice_set items index new) ≡ again calls index) × (new.count ≡ more (count_at calls index))
replaced items index old new calls are within is same counted =
    let all : List Call = map call_of items in
    let long : length all ≡ length items = length-map items call_of in
    let many : length all ≡ length calls = ap (λ (l : List Call). length l) are in
    let item : slice_get items index ≡ Some old = slice_get_read items (length items) index old refl (omega (arith, within, long, many)) is in
    let call : slice_get all index ≡ Some (call_of old) = slice_get-map call_of items index ∙ ap (option_map call_of) item in (
      map-set call_of items index new
          ∙ ap (λ (t : List ℕ). set all index (record { identifier = t; count = new.count })) same
          ∙ ap (λ (n : ℕ). set all index (record { identifier = old.identifier.now; count = n })) counted
          ∙ sym (again-set all index (call_of old) call)
          ∙ ap (λ (l : List Call). again l index) are,
      counted ∙ sym (ap more (ap (λ (l : List Call). count_at l index) (sym are) ∙ count-at all index (call_of old) call)),
    )

pub returns-clause-calls : goal.returns-clause-calls
returns-clause-calls c = (replaced c.self.inside.list.items c.args.index c.index_mut-call.result.now (record { identifier = c.index_mut-call.result.now.identifier; count = c.saturating_add-call.result }) c.args.self.now c.self.view_is c.requires c.index_mut-call.ensures.value refl c.saturating_add-call.ensures).0

pub returns-clause-count : goal.returns-clause-count
returns-clause-count c = (replaced c.self.inside.list.items c.args.index c.index_mut-call.result.now (record { identifier = c.index_mut-call.result.now.identifier; count = c.saturating_add-call.result }) c.args.self.now c.self.view_is c.requires c.index_mut-call.ensures.value refl c.saturating_add-call.ensures).1

pub invariant_of-self : goal.invariant_of-self
invariant_of-self c =
    λ identifier.
    let items = c.self.inside.list.items in
    let again_is = (replaced items c.args.index c.index_mut-call.result.now (record { identifier = c.index_mut-call.result.now.identifier; count = c.saturating_add-call.result }) c.args.self.now c.self.view_is c.requires c.index_mut-call.ensures.value refl c.saturating_add-call.ensures).0 in
    c.self.invariant identifier
    ∙ ap (λ (l : List Call). index_of identifier l) c.self.view_is
    ∙ sym (ap (λ (l : List Call). index_of identifier l) again_is ∙ index-again identifier c.args.self.now c.args.index)

pub returns-clause-number : goal.returns-clause-number
returns-clause-number c = search rules
