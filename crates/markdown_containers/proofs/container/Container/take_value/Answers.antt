use Rattle.std.proofs.Common.{arith}
use Rattle.std.specs.Prelude.{string_bytes}
use Rattle.markdown_containers.proofs.Kept.{words_kept}
use Rattle.markdown_containers.proofs.container.Container.take_value.Goals as goal
use Rattle.markdown_containers.proofs.container.Container.take_value.Goals.{in-Definition-DefinitionDestinationString, in-Definition-DefinitionTitleString, in-Resource-ResourceDestinationString, in-Resource-ResourceTitleString, in-CodeFence-CodeFencedFenceInfo, in-CodeFence-CodeFencedFenceMeta, in-MathFence-MathFlowFenceMeta}

pub returns : goal.returns
returns c = elim c.match-self.branch [
  | in-Definition-DefinitionDestinationString w ↦ words_kept (string_bytes c.args.text) c.args.part _ _ _ _ _ w.in-Definition-DefinitionDestinationString.is-0 w.in-Definition-DefinitionDestinationString.is-1 w.self-is w.take_destination.ensures
  | in-Definition-DefinitionTitleString w ↦ words_kept (string_bytes c.args.text) c.args.part _ _ _ _ _ w.in-Definition-DefinitionTitleString.is-0 w.in-Definition-DefinitionTitleString.is-1 w.self-is w.take_title.ensures
  | in-Resource-ResourceDestinationString w ↦ words_kept (string_bytes c.args.text) c.args.part _ _ _ _ _ w.in-Resource-ResourceDestinationString.is-0 w.in-Resource-ResourceDestinationString.is-1 w.self-is w.take_destination-in-Resource-ResourceDestinationString.ensures
  | in-Resource-ResourceTitleString w ↦ words_kept (string_bytes c.args.text) c.args.part _ _ _ _ _ w.in-Resource-ResourceTitleString.is-0 w.in-Resource-ResourceTitleString.is-1 w.self-is w.take_title-in-Resource-ResourceTitleString.ensures
  | in-CodeFence-CodeFencedFenceInfo w ↦ words_kept (string_bytes c.args.text) c.args.part _ _ _ _ _ w.in-CodeFence-CodeFencedFenceInfo.is-0 w.in-CodeFence-CodeFencedFenceInfo.is-1 w.self-is w.take_info.ensures
  | in-CodeFence-CodeFencedFenceMeta w ↦ words_kept (string_bytes c.args.text) c.args.part _ _ _ _ _ w.in-CodeFence-CodeFencedFenceMeta.is-0 w.in-CodeFence-CodeFencedFenceMeta.is-1 w.self-is w.take_meta.ensures
  | in-MathFence-MathFlowFenceMeta w ↦ words_kept (string_bytes c.args.text) c.args.part _ _ _ _ _ w.in-MathFence-MathFlowFenceMeta.is-0 w.in-MathFence-MathFlowFenceMeta.is-1 w.self-is w.take_meta-in-MathFence-MathFlowFenceMeta.ensures
]
