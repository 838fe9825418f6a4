use Rattle.std.proofs.Common.{[], ◌∙◌, sym, arith}
use Rattle.store.proofs.Laws.{few, not_stored, stored}
use Rattle.store.proofs.Ring.put.Goals as goal

pub returns-then-is_full-clause-puts : goal.returns-then-is_full-clause-puts
returns-then-is_full-clause-puts c = not_stored _ _ _ _ (sym (c.is_full.ensures _) ∙ c.if-is_full.true)

pub overflow_add-at : goal.overflow_add-at
overflow_add-at c =
    let small = few _ _ [] _ (sym (c.is_full.ensures []) ∙ c.if-is_full.false) in
    omega arith

pub overflow_add-self : goal.overflow_add-self
overflow_add-self c =
    let small = few _ _ [] _ (sym (c.is_full.ensures []) ∙ c.if-is_full.false) in
    omega arith

pub returns-clause-puts : goal.returns-clause-puts
returns-clause-puts c =
    let short = sym (c.is_full.ensures c.args.cells.now) ∙ c.if-is_full.false in
    record { stored = rw short; holds = stored _ _ _ _ short _ c.told-cells; same = λ e. cc }
