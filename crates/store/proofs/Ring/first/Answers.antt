use Rattle.std.proofs.Common.{◌∙◌, sym}
use Rattle.store.proofs.Laws.{is_first}
use Rattle.store.proofs.Ring.first.Goals as goal

pub returns : goal.returns
returns c = is_first _ _ _ (sym (c.is_empty.ensures _) ∙ c.if-is_empty.false)
