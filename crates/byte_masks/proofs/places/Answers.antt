use Rattle.byte_masks.proofs.Lanes.{equal, place_bit}
use Rattle.byte_masks.proofs.places.Goals as goal

pub returns : goal.returns
returns c = place_bit c.args.byte c.args.text.now _ c.requires (equal c.args.text.now c.requires c.args.byte)
