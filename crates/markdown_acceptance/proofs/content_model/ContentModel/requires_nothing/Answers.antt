use Rattle.std.proofs.Common.{rules}
use Rattle.markdown_acceptance.proofs.content_model.ContentModel.requires_nothing.Goals as goal

pub returns : goal.returns
returns c = search rules
