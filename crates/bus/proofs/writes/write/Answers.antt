use Rattle.std.proofs.Common.{sym, refl, ◌∙◌}
use Rattle.std.proofs.lemmas.Result.{err_from_is_err_and}
use Rattle.machine.specs.Access.{write_to, write_at, write}
use Rattle.store.specs.View.{view}
use Rattle.bus.proofs.Accesses.{is_refused, is_reached}
use Rattle.bus.proofs.writes.write.Goals as goal

pub returns-in_err-r : goal.returns-in_err-r
unfolding write
returns-in_err-r c =
    let p = err_from_is_err_and c.from_residual.result c.from_residual.ensures.1 in
    let core = view c.args.core.now in
    rw (p.1, p.2)
    (is_refused _ c.args.offset c.args.lanes _ (λ p. write_at p c.args.v core) (λ r. write_to r c.args.v core) refl (λ r. refl) refl _ (sym c.reached.ensures ∙ c.in_err-r.was))

pub returns : goal.returns
unfolding write
returns c =
    let core = view c.args.core.now in
    is_reached _ c.args.offset c.args.lanes _ (λ p. write_at p c.args.v core) (λ r. write_to r c.args.v core) refl (λ r. refl) refl _ _ _
    (sym c.reached.ensures ∙ c.in_ok-r.was)
    c.write_to.ensures.gives
    c.write_to.ensures.same
