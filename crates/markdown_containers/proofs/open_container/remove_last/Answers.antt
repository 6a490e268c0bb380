use Rattle.markdown_containers.proofs.open_container.remove_last.Goals as goal

pub returns : goal.returns
returns c = (c.in-Some.last, c.in-Some.ensures.items, c.into_nodes.ensures)
