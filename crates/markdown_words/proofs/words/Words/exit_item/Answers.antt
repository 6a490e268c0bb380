use Rattle.std.proofs.Common.{List, [], ap, sym, ◌++◌, ◌||◌, ◌∙◌, ◌∷◌, ◌≡◌, Bool, false}
use Rattle.markdown_words.proofs.Flags.{on-ok, or-left, or-right}
use Rattle.markdown_words.specs.Saying.{is_marked, is_valued}
use Rattle.markdown_words.specs.declared.setting.Setting.{Setting}
use Rattle.markdown_words.proofs.words.Words.exit_item.Goals as goal

pub returns : goal.returns
returns c = record {
  leaves = on-ok c.end_item.result _ _ (λ e h.
      let ends = e h in
      let q : Setting = c.in-Some.setting in
      let strange : Bool = c.args.self.now.strange in
      let both : (strange || c.is_valued.result) ≡ false = or-left (strange || c.is_valued.result) c.is_marked.result ends.before in
      let unread : is_valued c.args.what ≡ false = sym c.is_valued.ensures ∙ or-right strange c.is_valued.result both in
      let unmarked : is_marked q.voice ≡ false = sym c.is_marked.ensures ∙ or-right (strange || c.is_valued.result) c.is_marked.result ends.before in (
        q,
        record {
          before = or-left strange c.is_valued.result both;
          unread = unread;
          unmarked = unmarked;
          document_is = ends.document_is;
          suit = ends.suit unmarked;
          said_is = ends.said_is unread unmarked;
          setting_is = ends.setting_is ∙ c.after-self.ensures;
          outer_is = c.in-Some.ensures.items ∙ ap (λ (xs : List Setting). xs ++ q ∷ []) (sym ends.outer_is);
        },
      )) c.end_item.ensures.ends;
  document = c.end_item.ensures.document;
}
