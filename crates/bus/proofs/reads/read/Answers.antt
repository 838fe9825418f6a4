use Rattle.std.proofs.Common.{sym, refl, ◌∙◌}
use Rattle.std.proofs.lemmas.Result.{err_from_is_err_and}
use Rattle.machine.specs.Access.{read_from, read_at, read}
use Rattle.store.specs.View.{view}
use Rattle.bus.proofs.Accesses.{is_refused, is_reached}
use Rattle.bus.proofs.reads.read.Goals as goal

pub returns-in_err-r : goal.returns-in_err-r
unfolding read
returns-in_err-r c =
    let p = err_from_is_err_and c.from_residual.result c.from_residual.ensures.1 in
    let core = view c.args.core.now in
    rw (p.1, p.2)
    (is_refused _ c.args.offset c.args.lanes _ (λ p. read_at p core) (λ r. read_from r core) refl (λ r. refl) refl _ (sym c.reached.ensures ∙ c.in_err-r.was))

pub returns : goal.returns
unfolding read
returns c =
    let core = view c.args.core.now in
    is_reached _ c.args.offset c.args.lanes _ (λ p. read_at p core) (λ r. read_from r core) refl (λ r. refl) refl _ _ _
    (sym c.reached.ensures ∙ c.in_ok-r.was)
    c.read_from.ensures.gives
    c.read_from.ensures.same
