-- What a call that may fail has added to a text.
use Rattle.std.proofs.Common.{◌≡◌, ◌++◌, ℕ, cond, List, Result, Ok, Err, ◌∙◌}
use Rattle.std.specs.Prelude.{OnOk, is_ok}
use Rattle.std.specs.declared.alloc.AllocError.{AllocError}

pub added : (result : Result (Unit {0}) AllocError) (old new piece whole : List ℕ) → new ≡ cond (is_ok result) (old ++ piece) old → old ++ piece ≡ whole → OnOk result (new ≡ whole)
added (Ok done) old new piece whole wrote is = wrote ∙ is
added (Err error) old new piece whole wrote is = tt
