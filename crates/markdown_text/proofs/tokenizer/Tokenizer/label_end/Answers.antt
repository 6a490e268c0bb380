use Rattle.markdown_text.proofs.tokenizer.Tokenizer.label_end.Goals as goal

pub close-requires-clause-closed : goal.close-requires-clause-closed
close-requires-clause-closed g c = c.in-Some.ensures.closed c.args.self.now.tokens.items c.requires.opened

pub close-requires-clause-opened : goal.close-requires-clause-opened
close-requires-clause-opened g c = c.pop.ensures.left c.args.self.now.tokens.items c.requires.opened

pub returns-in-None-clause-opened : goal.returns-in-None-clause-opened
returns-in-None-clause-opened g c = c.pop.ensures.left c.args.self.now.tokens.items c.requires.opened
